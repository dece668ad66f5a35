-- Causes of the conflicts of running threads.
use Rattle.std.specs.Prelude.{◌≡◌, ℕ, suc, List, length}
use Rattle.stm_core.specs.Client.{Client, RecordLaw}
use Rattle.stm_core.specs.Event.{Action, begin}
use Rattle.stm_core.specs.Guards.{stripe_of}
use Rattle.stm_core.specs.Core.{Core, Event, opened}
use Rattle.stm_core.specs.Listed.{IsStepOf}
use Rattle.stm_core.specs.Conflicts.{Conflict, Shows}
use Rattle.stm_core.specs.Causes.{HasCause}
use Rattle.stm_region.specs.Shown.{RegionShown, opened_with}
use Rattle.stm_region.specs.Traced.{IsTraced}
use Rattle.stm_region.specs.Findings.{IsOneEvent}
use Rattle.stm_region.specs.Runs.{Moment, Move, step, word_at, Has, Listing, start_of, IsRun, HasOneList}
use Rattle.stm_region.specs.RealTime.{events_at, client_at}

-- the list of events ends with this step of the attempt, and between the attempt's begin and this
-- step stands the cause of the conflict
pub record EndsInConflict (lk : ℕ → ℕ) (start : Core) (events : List Event)
    (client attempt rv : ℕ) (action : Action) (conflict : Conflict) : Type 0 where
  -- the place of the attempt's begin
  pub from : ℕ
  pub begun : IsStepOf events client attempt from begin
  -- the place of the step, which is the last event
  pub to : ℕ
  pub ended : IsStepOf events client attempt to action
  pub last : length events ≡ suc to
  pub cause : HasCause lk start events client attempt rv from to conflict

-- a conflict that a client's step shows in a run has its cause in the one list of the run. The list
-- of the state after the step ends with the step
-- Not said: of a cause that stands in the list of the run's first state, in which earlier state of
-- the region it was.
abbrev pub EveryConflictOfARunHasACause : (List ℕ → Type 0) → RecordLaw → Type 0
EveryConflictOfARunHasACause fits lawful =
    (moments : ℕ → Moment) (moves : ℕ → Move) → IsRun fits lawful moments moves
    → (first : Listing lawful (moments 0)) (one : HasOneList lawful moments moves first)
    → (n i : ℕ) (v : Client) (action : Action) (conflict : Conflict)
    → moves n ≡ step i action → Has (moments n) i v
    → Shows (stripe_of (moments n).opened.stripes) v action (word_at (moments n) action) conflict
    → EndsInConflict (stripe_of (moments n).opened.stripes) (start_of first)
    (events_at one (suc n)) (client_at one n i) v.attempt.number v.attempt.rv action conflict

-- if a step call of a region was one event, and the word that it found shows a conflict, then a
-- list of events leads to the region's state right after the call, and has the cause
-- Not said: that this list is that of the run to which the call belongs. Of a step in a run that is
-- said by `EveryConflictOfARunHasACause`.
abbrev pub EveryConflictOfACallHasACause : RecordLaw → Type 0
EveryConflictOfACallHasACause lawful =
    (region : RegionShown) (action : Action) (word : ℕ) (was v : Client) (conflict : Conflict)
    → (one : IsOneEvent lawful region action word was v)
    → Shows (stripe_of region.stripes) was action word conflict
    → (t : IsTraced lawful (opened_with region) one.core)
    × EndsInConflict (stripe_of region.stripes) (opened region.first t.last region.stripes) t.events
    (suc (t.clients.number one.number)) was.attempt.number was.attempt.rv action conflict
