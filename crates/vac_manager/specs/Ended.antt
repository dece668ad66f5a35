-- The result of a call, from the result of its last attempt.
use Rattle.std.specs.Prelude.{Result, Ok, Err}
use Rattle.stm_attempt.specs.declared.conflict.Stop.{Stop}
use Rattle.stm_object.specs.declared.place.CommitPosition.{CommitPosition}
use Rattle.vac_model.specs.declared.replies.Reply.{Reply}
use Rattle.vac_manager.specs.declared.fault.Fault.{Fault}
use Rattle.vac_manager.specs.declared.placed.PlacedReply.{PlacedReply}
use Rattle.vac_manager.specs.Faults.{fault_of}

-- the result of a call without the commit position of its record
abbrev pub reply_in : Result (Reply × CommitPosition) Stop → Result Reply Fault
reply_in (Ok a) = Ok a.0
reply_in (Err stop) = Err (fault_of stop)

-- the result of a call with the commit position of its record
abbrev pub placed_in : Result (Reply × CommitPosition) Stop → Result PlacedReply Fault
placed_in (Ok a) = Ok (record { reply = a.0; place = a.1 })
placed_in (Err stop) = Err (fault_of stop)
