-- The names of faults.
use Rattle.std.specs.Prelude.{ℕ, List, codes}
use Rattle.judge_text.specs.declared.fault.CallFault.{CallFault}
use Rattle.judge_text.specs.declared.fault.CallFault.TheVariants as fault

-- the name of a fault
abbrev pub fault_name : CallFault → List ℕ
fault_name fault.BadCall = codes "bad-call"
fault_name fault.BadNumber = codes "bad-number"
fault_name fault.BadOperation = codes "bad-operation"
fault_name fault.BadReply = codes "bad-reply"
fault_name fault.HalfCall = codes "half-call"
