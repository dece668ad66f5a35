use Rattle.std.proofs.Common.{replicate}
use Rattle.stm_logs.specs.declared.nodes.TheConstants.{BLANK, FREE}
use Rattle.stm_logs.proofs.nodes.Nodes.new.Given as goal

abbrev pub ghost-reserve : goal.ghost-reserve
ghost-reserve g a = replicate a.n BLANK

abbrev pub ghost-reserve-2 : goal.ghost-reserve-2
ghost-reserve-2 g a = replicate a.n FREE
