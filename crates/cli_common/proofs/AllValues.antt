-- The values of all uses of an option, as the getter of the matches returns them.
use Rattle.std.proofs.Common.{◌≡◌, ◌∙◌, Option, Some, None, List, [], sym, ap}
use Rattle.std.specs.Prelude.{map, option_map, unwrap_or}
use Rattle.std.specs.Borrow.{Bor}
use Rattle.clap.specs.Words.{Text}

abbrev texts_of : Bor (List (Bor Text)) → List Text
texts_of values = map (λ value. value.now) values.now

pub values_given : (o : Option (Bor (List (Bor Text)))) (all : Option (List Text)) (values : Bor (List (Bor Text))) →
    option_map texts_of o ≡ all → o ≡ Some values → texts_of values ≡ unwrap_or all []
values_given o all values e f = ap (λ a. unwrap_or a []) (sym (ap (option_map texts_of) f) ∙ e)

pub no_values : (o : Option (Bor (List (Bor Text)))) (all : Option (List Text)) → option_map texts_of o ≡ all →
    o ≡ None → ◌≡◌ {A = List Text} [] (unwrap_or all [])
no_values o all e f = ap (λ a. unwrap_or a []) (sym (ap (option_map texts_of) f) ∙ e)
