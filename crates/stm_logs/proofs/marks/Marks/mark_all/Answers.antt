use Rattle.std.proofs.lemmas.List.{get_or-replicate}
use Rattle.std.proofs.Common.{true, false, ◌%◌, arith}
use Rattle.stm_logs.specs.declared.marks.TheConstants.{MARKS}
use Rattle.stm_logs.proofs.marks.Marks.mark_all.Goals as goal

pub returns : goal.returns
returns c = λ a. get_or-replicate MARKS (a % MARKS) true false (omega arith)
