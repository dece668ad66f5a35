use Rattle.std.proofs.Common.{arith}
use Rattle.cli_options.proofs.asked.settings_of.Goals as goal

pub number_of-requires : goal.number_of-requires
number_of-requires c = (_, _, omega arith, c.requires.clients)

pub number_of-requires-2 : goal.number_of-requires-2
number_of-requires-2 c = (_, _, omega arith, c.requires.tasks)

pub number_of-requires-3 : goal.number_of-requires-3
number_of-requires-3 c = (_, _, omega arith, c.requires.items)

pub number_of-requires-4 : goal.number_of-requires-4
number_of-requires-4 c = (_, _, omega arith, c.requires.asks)

pub number_of-requires-5 : goal.number_of-requires-5
number_of-requires-5 c = (_, _, omega arith, c.requires.reads)

pub number_of-requires-6 : goal.number_of-requires-6
number_of-requires-6 c = (_, _, omega arith, c.requires.user)

pub number_of-requires-7 : goal.number_of-requires-7
number_of-requires-7 c = (_, _, omega arith, c.requires.blocks)

pub number_of-requires-8 : goal.number_of-requires-8
number_of-requires-8 c = (_, _, omega arith, c.requires.rounds)
