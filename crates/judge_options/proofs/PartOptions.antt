-- The options of a part.
use Rattle.std.proofs.Common.{◌≡◌, ◌⊎◌, List, [], None, refl, codes, inl, inr}
use Rattle.clap.specs.Words.{fault_of}
use Rattle.clap.specs.Simple.{Shape, filled}
use Rattle.clap.specs.Walk.{Row, Text, one_of}
use Rattle.cli_common.specs.declared.values.TheConstants.{MOST_NUMBER}
use Rattle.cli_common.specs.Values.{MayGiveIn}
use Rattle.judge_options.specs.CommandLine.{judge, until_option, Names}
use Rattle.cli_common.proofs.Walks.{AllFit}
use Rattle.cli_common.proofs.Given.{IsGiven, IsEntered}
use Rattle.cli_common.proofs.OptionTexts.{unsigned_given}
use Rattle.cli_common.proofs.Shapes.{fit, option_may_be_given, differ}
use Rattle.judge_options.proofs.Subcommands.{shape_at, IsAlone, enters}

-- `part`, as clap builds it
part : Shape
part = shape_at 3

part_fit : AllFit part.rules
unfolding shape_at part
part_fit = (fit refl refl refl, (fit refl refl refl, (fit refl refl refl, (fit refl refl refl, tt))))

part_given : (rows : List Row) → IsEntered part rows → MayGiveIn rows (codes "until") 1 MOST_NUMBER
unfolding shape_at part
part_given rows e = go (option_may_be_given part rows part_fit e (filled until_option) refl)
  where
    go : (one_of (codes "until") rows ≡ None) ⊎ IsGiven (filled until_option) rows →
        MayGiveIn rows (codes "until") 1 MOST_NUMBER
    go (inl none) = inl none
    go (inr given) = inr (unsigned_given rows (filled until_option) 1 MOST_NUMBER refl given)

part_alone : IsAlone (codes "part") part
unfolding shape_at part
part_alone = (
  λ e. absurd (differ _ _ refl e),
  (
    λ e. absurd (differ _ _ refl e),
    (
      λ e. absurd (differ _ _ refl e),
      (
        λ e. refl,
        (
          λ e. absurd (differ _ _ refl e),
          (
            λ e. absurd (differ _ _ refl e),
            (λ e. absurd (differ _ _ refl e), tt),
          ),
        ),
      ),
    ),
  ),
)

pub part_options : (words : List Text) (rows : List Row) → fault_of judge words ≡ [] →
    Names words (codes "part") rows → MayGiveIn rows (codes "until") 1 MOST_NUMBER
part_options words rows fault names = part_given rows (enters _ _ words rows part_alone fault names)
