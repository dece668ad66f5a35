use Rattle.std.proofs.Common.{arith, subst, ◌≤◌, ℕ}
use Rattle.cli_common.proofs.Getters.{one_number}
use Rattle.judge_opacity.specs.declared.memory.TheConstants.{MOST_WORDS}
use Rattle.judge_options.proofs.asked.words_of.Goals as goal

pub number_of-requires : goal.number_of-requires
number_of-requires c = (_, _, omega arith, c.requires)

pub returns-clause-least : goal.returns-clause-least
returns-clause-least c = subst (λ (n : ℕ). 1 ≤ n) (one_number _ _ _ _ c.requires.given c.number_of.ensures)
    c.requires.low

pub returns-clause-most : goal.returns-clause-most
returns-clause-most c = subst (λ (n : ℕ). n ≤ MOST_WORDS) (one_number _ _ _ _ c.requires.given c.number_of.ensures)
    c.requires.high
