-- From the reason why an attempt stopped to the fault of the call.
use Rattle.stm_attempt.specs.declared.conflict.Stop.{Stop}
use Rattle.stm_attempt.specs.declared.conflict.Stop.TheVariants as stop
use Rattle.vac_manager.specs.declared.fault.Fault.{Fault}
use Rattle.vac_manager.specs.declared.fault.Fault.TheVariants as fault

-- the fault of a call whose last attempt stopped for this reason
abbrev pub fault_of : Stop → Fault
fault_of stop.Memory = fault.Memory
fault_of (stop.Conflict conflict) = fault.Busy conflict
fault_of (stop.Spent version) = fault.Spent version
