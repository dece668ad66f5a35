use Rattle.std.proofs.Common.{arith}
use Rattle.cli_common.proofs.Getters.{block_count}
use Rattle.cli_common.proofs.values.blocks_of.Goals as goal

pub number_of-requires : goal.number_of-requires
number_of-requires c = (_, _, omega arith, c.requires)

pub returns-clause-range : goal.returns-clause-range
returns-clause-range c = block_count _ _ c.requires c.number_of.ensures
