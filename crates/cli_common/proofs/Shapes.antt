-- The subcommands as clap builds them, and the one that the words enter.
use Rattle.std.proofs.Common.{◌≡◌, ◌<◌, ◌||◌, ◌∙◌, true, false, List, [], length, Some, None, ◌⊎◌, sym, subst, nat_lt}
use Rattle.std.specs.Str.{bytes_eq}
use Rattle.std.proofs.lemmas.Slice.Eq.{bytes_eq-Decides}
use Rattle.clap.specs.Words.{fault_of, subcommand_of}
use Rattle.clap.specs.Simple.{App, Shape, built}
use Rattle.clap.specs.Walk.{Row, Rule, Text, action_of, arg_by_id, one_of}
use Rattle.clap.specs.Facts.{unwrap_or_range}
use Rattle.clap.specs.Values.{is_request}
use Rattle.cli_common.proofs.FoundRows.{Each, IsFit, is_counted}
use Rattle.cli_common.proofs.Walks.{AllFit}
use Rattle.cli_common.proofs.Given.{IsGiven, IsEntered, level_gives, level_may_give, subcommand_entered}

pub fit : {c : List Rule} {a : Rule} → arg_by_id c a.id ≡ Some a → is_counted (action_of a) ≡ false
    → (is_request (action_of a) || (nat_lt 0 (unwrap_or_range a.range).start_inclusive || nat_lt 0 (length a.missing)))
    ≡ true → IsFit c a
fit own plain valued = record { own = own; plain = plain; valued = valued }

-- the value of an option with a default, in a subcommand that was entered
pub option_given : (s : Shape) (rows : List Row) → AllFit s.rules → IsEntered s rows → (a : Rule) →
    arg_by_id s.rules a.id ≡ Some a → 0 < length a.defaults → IsGiven a rows
option_given s rows all e a own some = subst (IsGiven a) e.rows_are (level_gives s e.words a all e.passes own some)

-- the value of an option without a default, if it has one, in a subcommand that was entered
pub option_may_be_given : (s : Shape) (rows : List Row) → AllFit s.rules → IsEntered s rows → (a : Rule) →
    arg_by_id s.rules a.id ≡ Some a → (one_of a.id rows ≡ None) ⊎ IsGiven a rows
option_may_be_given s rows all e a own =
    subst (λ rs. (one_of a.id rs ≡ None) ⊎ IsGiven a rs) e.rows_are (level_may_give s e.words a all e.passes own)

pub differ : (a b : Text) → bytes_eq a b ≡ false → a ≡ b → ⊥
differ a b e same = let bad : false ≡ true = sym e ∙ (bytes_eq-Decides a b).1 same in cc

-- each subcommand of this name is this one
abbrev pub IsAlone : App → Text → Shape → Type 0
IsAlone app name target = Each (λ s. s.name ≡ name → s ≡ target) (built app).subs

-- the words enter the subcommand that they name
pub enters : (app : App) (name : Text) (target : Shape) (words : List Text) (rows : List Row) →
    IsAlone app name target → fault_of app words ≡ [] → subcommand_of app words ≡ Some (name, rows) →
    IsEntered target rows
enters app name target words rows alone fault names =
    let found = subcommand_entered (λ s. s.name ≡ name → s ≡ target) app words name rows alone fault names in
    subst (λ (s : Shape). IsEntered s rows) (found.1 found.2) found.3
