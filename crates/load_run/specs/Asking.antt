-- The record of a call that has ended.
use Rattle.std.specs.Prelude.{◌≡◌, Result, Ok, Err}
use Rattle.vac_model.specs.declared.tasks.Task.{Task}
use Rattle.vac_manager.specs.declared.fault.Fault.{Fault}
use Rattle.vac_manager.specs.declared.placed.PlacedReply.{PlacedReply}
use Rattle.vac_manager.specs.Keeping.{HasKept, HasTakenOut}
use Rattle.load_run.specs.Keeping.{RecorderContents}

-- the call of a task ended, and its result without the reply is passed on: the recorder kept a
-- completed call, and its last time is as before; after a fault the recorder is as before
abbrev pub HasRecorded : Task → Result PlacedReply Fault → Result (Unit {0}) Fault
    → RecorderContents → RecorderContents → Type 0
HasRecorded t (Ok placed) ended before after =
    (ended ≡ Ok tt) × HasKept t placed before.traces before.calls after.calls
    × HasTakenOut before.traces after.traces × (after.latest ≡ before.latest)
HasRecorded t (Err fault) ended before after = (ended ≡ Err fault) × (after ≡ before)
