-- The options of the judge of a history.
use Rattle.std.proofs.Common.{◌≡◌, List, [], refl, codes, arith}
use Rattle.clap.specs.Words.{fault_of}
use Rattle.clap.specs.Simple.{Shape, filled}
use Rattle.clap.specs.Walk.{Row, Text}
use Rattle.vac_model.specs.declared.limits.TheConstants.{MOST_BLOCKS}
use Rattle.cli_common.specs.declared.values.TheConstants.{MOST_NUMBER}
use Rattle.cli_common.specs.Options.{blocks_option, flag}
use Rattle.judge_options.specs.CommandLine.{judge, steps_option, HasJudging, Names}
use Rattle.cli_common.proofs.Walks.{AllFit}
use Rattle.cli_common.proofs.Given.{IsEntered}
use Rattle.cli_common.proofs.OptionTexts.{number_given, seed_given, flag_given}
use Rattle.cli_common.proofs.Shapes.{fit, option_given, differ}
use Rattle.judge_options.proofs.Subcommands.{shape_at, IsAlone, enters}

-- `history`, as clap builds it
judging : Shape
judging = shape_at 0

judging_fit : AllFit judging.rules
unfolding shape_at judging
judging_fit = (
  fit refl refl refl,
  (
    fit refl refl refl,
    (
      fit refl refl refl,
      (
        fit refl refl refl,
        (
          fit refl refl refl,
          (fit refl refl refl, (fit refl refl refl, (fit refl refl refl, tt))),
        ),
      ),
    ),
  ),
)

judging_given : (rows : List Row) → IsEntered judging rows → HasJudging rows
unfolding shape_at judging
judging_given rows e = record {
  blocks = number_given rows (filled blocks_option) 1 MOST_BLOCKS refl
      (option_given judging rows judging_fit e (filled blocks_option) refl (omega arith));
  given_order = flag_given rows (codes "given-order") (option_given judging rows judging_fit e
      (filled (flag (codes "given-order"))) refl (omega arith));
  search = record {
    steps = seed_given rows (filled steps_option) MOST_NUMBER refl
        (option_given judging rows judging_fit e (filled steps_option) refl (omega arith));
    progress = flag_given rows (codes "progress") (option_given judging rows judging_fit e
        (filled (flag (codes "progress"))) refl (omega arith));
    stats = flag_given rows (codes "stats") (option_given judging rows judging_fit e
        (filled (flag (codes "stats"))) refl (omega arith));
  };
}

history_alone : IsAlone (codes "history") judging
unfolding shape_at judging
history_alone = (
  λ e. refl,
  (
    λ e. absurd (differ _ _ refl e),
    (
      λ e. absurd (differ _ _ refl e),
      (
        λ e. absurd (differ _ _ refl e),
        (
          λ e. absurd (differ _ _ refl e),
          (
            λ e. absurd (differ _ _ refl e),
            (λ e. absurd (differ _ _ refl e), tt),
          ),
        ),
      ),
    ),
  ),
)

pub history_options : (words : List Text) (rows : List Row) → fault_of judge words ≡ [] →
    Names words (codes "history") rows → HasJudging rows
history_options words rows fault names = judging_given rows (enters _ _ words rows history_alone fault names)
