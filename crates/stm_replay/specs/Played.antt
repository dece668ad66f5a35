-- The events of the running core as events of the abstract core.
use Rattle.std.specs.Prelude.{[], ◌∷◌}
use Rattle.stm_core.specs.Event as event
use Rattle.stm_core.specs.Core as core
use Rattle.stm_replay.specs.declared.event.Event.{Event}
use Rattle.stm_replay.specs.declared.event.Event.TheVariants.{Begin, Probe, Fetch, Check, Lock, Tick, Validate, Put, Release, GiveBack, Finish, Split, Gather, Renew}

-- the abstract event that an event of the running core stands for; its tag is the list of the one
-- number
abbrev pub event_of : {A : Type 0} → Event A → core.Event
event_of (Begin k) = core.acts k event.begin
event_of (Probe k n) = core.acts k (event.probe n)
event_of (Fetch k a) = core.acts k (event.fetch a)
event_of (Check k a) = core.acts k (event.check a)
event_of (Lock k n) = core.acts k (event.lock n)
event_of (Tick k from tag writes) = core.acts k (event.tick from (tag ∷ []) writes)
event_of (Validate k n) = core.acts k (event.validate n)
event_of (Put k a x) = core.acts k (event.put a x)
event_of (Release k n) = core.acts k (event.release n)
event_of (GiveBack k n) = core.acts k (event.give_back n)
event_of (Finish k tag) = core.acts k (event.finish (tag ∷ []))
event_of (Split k) = core.splits k
event_of (Gather k j) = core.gathers k j
event_of (Renew k last) = core.renews k last
