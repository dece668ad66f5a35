-- The level that the word of an option names.
use Rattle.std.proofs.Common.{◌≡◌, ◌∙◌, Option, Some, None, sym, ap}
use Rattle.std.specs.Prelude.{option_map, option_and_then}
use Rattle.std.specs.Borrow.{Bor}
use Rattle.clap.specs.Words.{Text}
use Rattle.judge_options.specs.CommandLine.{level_named}

pub level_at : (o : Option (Bor Text)) (first : Option Text) (word : Bor Text) →
    option_map (λ name. name.now) o ≡ first →
    o ≡ Some word → level_named word.now ≡ option_and_then level_named first
level_at o first word e f = ap (option_and_then level_named) (sym (ap (option_map (λ (name : Bor Text). name.now)) f) ∙
    e)

pub no_level_at : (o : Option (Bor Text)) (first : Option Text) → option_map (λ name. name.now) o ≡ first → o ≡ None →
    None ≡ option_and_then level_named first
no_level_at o first e f = ap (option_and_then level_named) (sym (ap (option_map (λ (name : Bor Text). name.now)) f) ∙ e)
