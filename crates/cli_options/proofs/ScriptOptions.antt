-- The options of the subcommands that read a script.
use Rattle.std.proofs.Common.{◌≡◌, List, [], refl, subst, codes, arith}
use Rattle.clap.specs.Words.{fault_of}
use Rattle.clap.specs.Simple.{Shape, filled}
use Rattle.clap.specs.Walk.{Row, Text}
use Rattle.vac_model.specs.declared.limits.TheConstants.{MOST_BLOCKS}
use Rattle.cli_common.specs.Options.{blocks_option}
use Rattle.cli_common.specs.Values.{GivesIn}
use Rattle.cli_options.specs.CommandLine.{vacation, Names}
use Rattle.cli_common.proofs.Walks.{AllFit}
use Rattle.cli_common.proofs.Given.{IsGiven, IsEntered, level_gives}
use Rattle.cli_common.proofs.OptionTexts.{number_given}
use Rattle.cli_common.proofs.Shapes.{fit, differ}
use Rattle.cli_options.proofs.Subcommands.{shape_at, IsAlone, enters}

-- a subcommand with the option of the blocks alone
with_blocks : Text → Shape
with_blocks name = record (shape_at 0) { name = name }

blocks_fit : (name : Text) → AllFit (with_blocks name).rules
unfolding shape_at with_blocks
blocks_fit name = (fit refl refl refl, (fit refl refl refl, tt))

blocks_given : (of : Text) (rows : List Row) → IsEntered (with_blocks of) rows →
    GivesIn rows (codes "blocks") 1 MOST_BLOCKS
unfolding shape_at with_blocks
blocks_given of rows e = number_given rows (filled blocks_option) 1 MOST_BLOCKS refl
    (subst (IsGiven (filled blocks_option)) e.rows_are (level_gives (with_blocks of) e.words (filled blocks_option)
    (blocks_fit of) e.passes refl (omega arith)))

run_alone : IsAlone (codes "run") (with_blocks (codes "run"))
unfolding shape_at with_blocks
run_alone = (
  λ e. refl,
  (
    λ e. absurd (differ _ _ refl e),
    (
      λ e. absurd (differ _ _ refl e),
      (
        λ e. absurd (differ _ _ refl e),
        (
          λ e. absurd (differ _ _ refl e),
          (λ e. absurd (differ _ _ refl e), tt),
        ),
      ),
    ),
  ),
)

dump_alone : IsAlone (codes "dump") (with_blocks (codes "dump"))
unfolding shape_at with_blocks
dump_alone = (
  λ e. absurd (differ _ _ refl e),
  (
    λ e. refl,
    (
      λ e. absurd (differ _ _ refl e),
      (
        λ e. absurd (differ _ _ refl e),
        (
          λ e. absurd (differ _ _ refl e),
          (λ e. absurd (differ _ _ refl e), tt),
        ),
      ),
    ),
  ),
)

-- the values that a subcommand's options give
pub run_blocks : (words : List Text) (rows : List Row) → fault_of vacation words ≡ [] → Names words (codes "run") rows →
    GivesIn rows (codes "blocks") 1 MOST_BLOCKS
run_blocks words rows fault names = blocks_given _ rows (enters _ _ words rows run_alone fault names)

pub dump_blocks : (words : List Text) (rows : List Row) → fault_of vacation words ≡ [] →
    Names words (codes "dump") rows → GivesIn rows (codes "blocks") 1 MOST_BLOCKS
dump_blocks words rows fault names = blocks_given _ rows (enters _ _ words rows dump_alone fault names)
