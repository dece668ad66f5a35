-- The options of the judge of a queue.
use Rattle.std.proofs.Common.{◌≡◌, List, [], refl, codes, arith}
use Rattle.clap.specs.Words.{fault_of}
use Rattle.clap.specs.Simple.{Shape, filled}
use Rattle.clap.specs.Walk.{Row, Text}
use Rattle.cli_common.specs.declared.values.TheConstants.{MOST_NUMBER}
use Rattle.cli_common.specs.Options.{flag}
use Rattle.judge_options.specs.CommandLine.{judge, steps_option, HasSearch, Names}
use Rattle.cli_common.proofs.Walks.{AllFit}
use Rattle.cli_common.proofs.Given.{IsEntered}
use Rattle.cli_common.proofs.OptionTexts.{seed_given, flag_given}
use Rattle.cli_common.proofs.Shapes.{fit, option_given, differ}
use Rattle.judge_options.proofs.Subcommands.{shape_at, IsAlone, enters}

-- `queue`, as clap builds it
queue : Shape
queue = shape_at 5

queue_fit : AllFit queue.rules
unfolding shape_at queue
queue_fit = (
  fit refl refl refl,
  (
    fit refl refl refl,
    (fit refl refl refl, (fit refl refl refl, (fit refl refl refl, tt))),
  ),
)

queue_given : (rows : List Row) → IsEntered queue rows → HasSearch rows
unfolding shape_at queue
queue_given rows e = record {
  steps = seed_given rows (filled steps_option) MOST_NUMBER refl
      (option_given queue rows queue_fit e (filled steps_option) refl (omega arith));
  progress = flag_given rows (codes "progress") (option_given queue rows queue_fit e
      (filled (flag (codes "progress"))) refl (omega arith));
  stats = flag_given rows (codes "stats") (option_given queue rows queue_fit e
      (filled (flag (codes "stats"))) refl (omega arith));
}

queue_alone : IsAlone (codes "queue") queue
unfolding shape_at queue
queue_alone = (
  λ e. absurd (differ _ _ refl e),
  (
    λ e. absurd (differ _ _ refl e),
    (
      λ e. absurd (differ _ _ refl e),
      (
        λ e. absurd (differ _ _ refl e),
        (
          λ e. absurd (differ _ _ refl e),
          (
            λ e. refl,
            (λ e. absurd (differ _ _ refl e), tt),
          ),
        ),
      ),
    ),
  ),
)

pub queue_options : (words : List Text) (rows : List Row) → fault_of judge words ≡ [] →
    Names words (codes "queue") rows → HasSearch rows
queue_options words rows fault names = queue_given rows (enters _ _ words rows queue_alone fault names)
