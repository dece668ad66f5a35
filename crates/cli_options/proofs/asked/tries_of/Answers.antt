use Rattle.std.proofs.Common.{arith}
use Rattle.cli_options.proofs.asked.tries_of.Goals as goal

pub number_of-requires : goal.number_of-requires
number_of-requires c = (_, _, omega arith, c.requires.tries)
