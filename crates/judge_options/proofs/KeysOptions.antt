-- The options of the judge of a key-value store.
use Rattle.std.proofs.Common.{◌≡◌, List, [], refl, codes, arith}
use Rattle.clap.specs.Words.{fault_of}
use Rattle.clap.specs.Simple.{Shape, filled}
use Rattle.clap.specs.Walk.{Row, Text}
use Rattle.cli_common.specs.declared.values.TheConstants.{MOST_NUMBER}
use Rattle.cli_common.specs.Options.{flag}
use Rattle.judge_options.specs.CommandLine.{judge, steps_option, HasKeys, Names}
use Rattle.cli_common.proofs.Walks.{AllFit}
use Rattle.cli_common.proofs.Given.{IsEntered}
use Rattle.cli_common.proofs.OptionTexts.{seed_given, flag_given}
use Rattle.cli_common.proofs.Shapes.{fit, option_given, differ}
use Rattle.judge_options.proofs.Subcommands.{shape_at, IsAlone, enters}

-- `keys`, as clap builds it
keys : Shape
keys = shape_at 4

keys_fit : AllFit keys.rules
unfolding shape_at keys
keys_fit = (
  fit refl refl refl,
  (
    fit refl refl refl,
    (
      fit refl refl refl,
      (
        fit refl refl refl,
        (fit refl refl refl, (fit refl refl refl, (fit refl refl refl, tt))),
      ),
    ),
  ),
)

keys_given : (rows : List Row) → IsEntered keys rows → HasKeys rows
unfolding shape_at keys
keys_given rows e = record {
  whole = flag_given rows (codes "whole") (option_given keys rows keys_fit e
      (filled (flag (codes "whole"))) refl (omega arith));
  search = record {
    steps = seed_given rows (filled steps_option) MOST_NUMBER refl
        (option_given keys rows keys_fit e (filled steps_option) refl (omega arith));
    progress = flag_given rows (codes "progress") (option_given keys rows keys_fit e
        (filled (flag (codes "progress"))) refl (omega arith));
    stats = flag_given rows (codes "stats") (option_given keys rows keys_fit e
        (filled (flag (codes "stats"))) refl (omega arith));
  };
}

keys_alone : IsAlone (codes "keys") keys
unfolding shape_at keys
keys_alone = (
  λ e. absurd (differ _ _ refl e),
  (
    λ e. absurd (differ _ _ refl e),
    (
      λ e. absurd (differ _ _ refl e),
      (
        λ e. absurd (differ _ _ refl e),
        (
          λ e. refl,
          (
            λ e. absurd (differ _ _ refl e),
            (λ e. absurd (differ _ _ refl e), tt),
          ),
        ),
      ),
    ),
  ),
)

pub keys_options : (words : List Text) (rows : List Row) → fault_of judge words ≡ [] →
    Names words (codes "keys") rows → HasKeys rows
keys_options words rows fault names = keys_given rows (enters _ _ words rows keys_alone fault names)
