-- The options of the search for an order of a history.
use Rattle.std.proofs.Common.{◌≡◌, List, [], refl, codes, arith}
use Rattle.clap.specs.Words.{fault_of}
use Rattle.clap.specs.Simple.{Shape, filled}
use Rattle.clap.specs.Walk.{Row, Text}
use Rattle.vac_model.specs.declared.limits.TheConstants.{MOST_BLOCKS}
use Rattle.cli_common.specs.declared.values.TheConstants.{MOST_NUMBER}
use Rattle.cli_common.specs.Options.{blocks_option, flag}
use Rattle.cli_common.specs.Values.{GivesIn}
use Rattle.judge_options.specs.CommandLine.{judge, steps_option, HasSearch, Names}
use Rattle.cli_common.proofs.Walks.{AllFit}
use Rattle.cli_common.proofs.Given.{IsEntered}
use Rattle.cli_common.proofs.OptionTexts.{number_given, seed_given, flag_given}
use Rattle.cli_common.proofs.Shapes.{fit, option_given, differ}
use Rattle.judge_options.proofs.Subcommands.{shape_at, IsAlone, enters}

-- `order`, as clap builds it
ordering : Shape
ordering = shape_at 1

ordering_fit : AllFit ordering.rules
unfolding shape_at ordering
ordering_fit = (
  fit refl refl refl,
  (
    fit refl refl refl,
    (
      fit refl refl refl,
      (fit refl refl refl, (fit refl refl refl, (fit refl refl refl, tt))),
    ),
  ),
)

ordering_blocks : (rows : List Row) → IsEntered ordering rows → GivesIn rows (codes "blocks") 1 MOST_BLOCKS
unfolding shape_at ordering
ordering_blocks rows e = number_given rows (filled blocks_option) 1 MOST_BLOCKS refl
    (option_given ordering rows ordering_fit e (filled blocks_option) refl (omega arith))

ordering_given : (rows : List Row) → IsEntered ordering rows → HasSearch rows
unfolding shape_at ordering
ordering_given rows e = record {
  steps = seed_given rows (filled steps_option) MOST_NUMBER refl
      (option_given ordering rows ordering_fit e (filled steps_option) refl (omega arith));
  progress = flag_given rows (codes "progress") (option_given ordering rows ordering_fit e
      (filled (flag (codes "progress"))) refl (omega arith));
  stats = flag_given rows (codes "stats") (option_given ordering rows ordering_fit e
      (filled (flag (codes "stats"))) refl (omega arith));
}

order_alone : IsAlone (codes "order") ordering
unfolding shape_at ordering
order_alone = (
  λ e. absurd (differ _ _ refl e),
  (
    λ e. refl,
    (
      λ e. absurd (differ _ _ refl e),
      (
        λ e. absurd (differ _ _ refl e),
        (
          λ e. absurd (differ _ _ refl e),
          (
            λ e. absurd (differ _ _ refl e),
            (λ e. absurd (differ _ _ refl e), tt),
          ),
        ),
      ),
    ),
  ),
)

pub order_blocks : (words : List Text) (rows : List Row) → fault_of judge words ≡ [] →
    Names words (codes "order") rows → GivesIn rows (codes "blocks") 1 MOST_BLOCKS
order_blocks words rows fault names = ordering_blocks rows (enters _ _ words rows order_alone fault names)

pub order_search : (words : List Text) (rows : List Row) → fault_of judge words ≡ [] →
    Names words (codes "order") rows → HasSearch rows
order_search words rows fault names = ordering_given rows (enters _ _ words rows order_alone fault names)
