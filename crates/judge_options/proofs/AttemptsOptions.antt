-- The options of the judge of attempts.
use Rattle.std.proofs.Common.{◌≡◌, List, [], refl, codes, arith}
use Rattle.clap.specs.Words.{fault_of}
use Rattle.clap.specs.Simple.{Shape, filled}
use Rattle.clap.specs.Walk.{Row, Text}
use Rattle.judge_opacity.specs.declared.memory.TheConstants.{MOST_WORDS}
use Rattle.cli_common.specs.Options.{flag}
use Rattle.judge_options.specs.CommandLine.{judge, words_option, HasOpacity, Names}
use Rattle.cli_common.proofs.Walks.{AllFit}
use Rattle.cli_common.proofs.Given.{IsEntered}
use Rattle.cli_common.proofs.OptionTexts.{number_given, flag_given}
use Rattle.cli_common.proofs.Shapes.{fit, option_given, differ}
use Rattle.judge_options.proofs.Subcommands.{shape_at, IsAlone, enters}

-- `attempts`, as clap builds it
attempts : Shape
attempts = shape_at 2

attempts_fit : AllFit attempts.rules
unfolding shape_at attempts
attempts_fit = (fit refl refl refl, (fit refl refl refl, (fit refl refl refl, (fit refl refl refl, tt))))

attempts_given : (rows : List Row) → IsEntered attempts rows → HasOpacity rows
unfolding shape_at attempts
attempts_given rows e = record {
  words = number_given rows (filled words_option) 1 MOST_WORDS refl
      (option_given attempts rows attempts_fit e (filled words_option) refl (omega arith));
  place = flag_given rows (codes "place") (option_given attempts rows attempts_fit e
      (filled (flag (codes "place"))) refl (omega arith));
  stats = flag_given rows (codes "stats") (option_given attempts rows attempts_fit e
      (filled (flag (codes "stats"))) refl (omega arith));
}

attempts_alone : IsAlone (codes "attempts") attempts
unfolding shape_at attempts
attempts_alone = (
  λ e. absurd (differ _ _ refl e),
  (
    λ e. absurd (differ _ _ refl e),
    (
      λ e. refl,
      (
        λ e. absurd (differ _ _ refl e),
        (
          λ e. absurd (differ _ _ refl e),
          (
            λ e. absurd (differ _ _ refl e),
            (λ e. absurd (differ _ _ refl e), tt),
          ),
        ),
      ),
    ),
  ),
)

pub attempts_options : (words : List Text) (rows : List Row) → fault_of judge words ≡ [] →
    Names words (codes "attempts") rows → HasOpacity rows
attempts_options words rows fault names = attempts_given rows (enters _ _ words rows attempts_alone fault names)
