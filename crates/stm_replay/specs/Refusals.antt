-- The reasons for which an event is refused.
use Rattle.std.specs.Prelude.{◌≡◌, Bool, true, false}
use Rattle.stm_replay.specs.declared.event.NotAllowed.{NotAllowed}
use Rattle.stm_replay.specs.declared.event.NotAllowed.TheVariants.{Event, Memory}

-- the answer `Event` says that the event is not allowed, `Memory` that the event is allowed
abbrev pub IsRefusal : Bool → NotAllowed → Type 0
IsRefusal may Event = may ≡ false
IsRefusal may Memory = may ≡ true
