-- Progressiveness: every conflict is caused by another client, and an attempt that no other client
-- disturbs meets none.
use Rattle.std.specs.Prelude.{◌≡◌, ◌≢◌, ℕ, suc, ◌≤◌, ◌<◌, ◌⊎◌, List, length}
use mathlib.Core.Option.{some}
use lib.ListN.{get_elem?}
use Rattle.stm_core.specs.Client.{Client, RecordLaw, running, ending}
use Rattle.stm_core.specs.Event.{Action, begin, give_back}
use Rattle.stm_core.specs.Guards.{stripe_of}
use Rattle.stm_core.specs.Core.{Core, Event, acts, client_of, found, opened}
use Rattle.stm_core.specs.Invariant.{GoesOnAlone}
use Rattle.stm_core.specs.Listed.{begins, IsStepOf, core_at}
use Rattle.stm_core.specs.Theorem.{Reaches}
use Rattle.stm_core.specs.Conflicts.{Conflict, Shows}
use Rattle.stm_core.specs.Causes.{HasCause, IsUndisturbed, IsUntouched, LosesAllTicks, AtLeast, HoldsAt, IsAtLock, IsTouchedByAnother, IsSpentAt, HoldsUnticked}

module _ (lk : ℕ → ℕ) (start : Core) (events : List Event) where
  -- the value of a client just before a place
  abbrev pub client_at : (client place : ℕ) → Client
  client_at k n = client_of (core_at lk start events n) k

  -- at the place the client takes this step of its attempt with this number, and the step shows the
  -- conflict
  abbrev pub ShowsAt : (client attempt place : ℕ) → Action → Conflict → Type 0
  ShowsAt k attempt n action conflict =
      IsStepOf events k attempt n action
      × Shows lk (client_at k n) action (found lk (core_at lk start events n) action) conflict

  -- an attempt that shows a conflict has begun before
  abbrev pub EachHasBegun : Type 0
  EachHasBegun =
      (k attempt to : ℕ) (action : Action) (conflict : Conflict)
      → ShowsAt k attempt to action conflict
      → (from : ℕ) × (from < to) × IsStepOf events k attempt from begin

  -- every conflict has a cause, between the begin of the attempt and the step that shows it
  abbrev pub EachHasACause : Type 0
  EachHasACause =
      (k attempt from to : ℕ) (action : Action) (conflict : Conflict)
      → IsStepOf events k attempt from begin → ShowsAt k attempt to action conflict
      → HasCause lk start events k attempt (client_at k to).attempt.rv from to conflict

  -- a step after which a running attempt can only abort shows a conflict, unless it gives a lock
  -- back
  abbrev pub EachAbortShowsAConflict : Type 0
  EachAbortShowsAConflict =
      (k n : ℕ) (action : Action) → get_elem? events n ≡ some (acts k action)
      → (client_at k n).attempt.phase ≡ running → (client_at k (suc n)).attempt.phase ≡ ending
      → ((l : ℕ) × (action ≡ give_back l))
      ⊎ ((conflict : Conflict)
      × Shows lk (client_at k n) action (found lk (core_at lk start events n) action) conflict)

  -- an attempt that was not disturbed from its begin to a step shows no conflict with that step
  abbrev pub UndisturbedMeetsNone : Type 0
  UndisturbedMeetsNone =
      (k attempt from to : ℕ) (action : Action) (conflict : Conflict)
      → IsStepOf events k attempt from begin → IsUndisturbed lk start events k from to
      → ShowsAt k attempt to action conflict → ⊥

  -- and before each place up to which it was not disturbed, nothing fails what it may do next: each
  -- check and each exchange of a lock word succeeds, and the first tick decides
  abbrev pub UndisturbedGoesOn : RecordLaw → Type 0
  UndisturbedGoesOn lawful =
      (k attempt from to : ℕ) → IsStepOf events k attempt from begin
      → IsUndisturbed lk start events k from to → from < to → to ≤ length events
      → begins k events to ≡ attempt → (client_at k to).attempt.phase ≡ running
      → GoesOnAlone lawful lk (core_at lk start events to) (client_at k to)

  -- an attempt shows no conflict with a step if no other client holds one of its stripes when it
  -- begins, none takes or releases one since, and it has not lost sixteen ticks
  abbrev pub UntouchedMeetsNone : Type 0
  UntouchedMeetsNone =
      (k attempt from to : ℕ) (action : Action) (conflict : Conflict)
      → IsStepOf events k attempt from begin → IsUntouched lk start events k attempt from to
      → (LosesAllTicks lk start events k attempt to → ⊥)
      → ShowsAt k attempt to action conflict → ⊥

  -- between two places the client's attempt with this number begins and meets a conflict at a lock,
  -- which no other client held when the attempt began
  abbrev pub MeetsFreshConflict : (client low high attempt : ℕ) → Type 0
  MeetsFreshConflict k low high attempt =
      (from to l : ℕ) × (action : Action) × (conflict : Conflict)
      × (low ≤ from) × (to ≤ high) × IsStepOf events k attempt from begin
      × ShowsAt k attempt to action conflict × IsAtLock conflict l
      × ((j : ℕ) → j ≢ k → HoldsAt lk start events j l from → ⊥)

  -- conflicts are not more than steps of others. If at least `count` attempts of a client meet
  -- conflicts at locks that no other client held when the attempts began, then other clients take
  -- or release locks at `count` places or more in that time
  -- Not said: that several conflicts of one attempt have several steps of others.
  abbrev pub ConflictsAreCounted : Type 0
  ConflictsAreCounted =
      (k low high count : ℕ) → AtLeast count (MeetsFreshConflict k low high)
      → AtLeast count (λ n. (low < n) × (n < high)
      × ((l : ℕ) × IsTouchedByAnother lk start events k l n))

  -- while the clock is spent, no step decides an attempt that holds a lock and has won no tick,
  -- whoever else is there. The attempt stays as it is until it gives a lock back, and can then only
  -- abort
  abbrev pub SpentClockDecidesNone : Type 0
  SpentClockDecidesNone =
      (k n : ℕ) (action : Action) → get_elem? events n ≡ some (acts k action)
      → IsSpentAt lk start events n → HoldsUnticked (client_at k n).attempt
      → (HoldsUnticked (client_at k (suc n)).attempt
      × ((client_at k (suc n)).attempt.number ≡ (client_at k n).attempt.number))
      ⊎ (((l : ℕ) × (action ≡ give_back l)) × ((client_at k (suc n)).attempt.phase ≡ ending))

-- what holds of a list of events that is allowed from a first core on
pub record IsProgressive
    (lawful : RecordLaw) (lk : ℕ → ℕ) (start : Core) (events : List Event) : Type 0 where
  pub begun : EachHasBegun lk start events
  pub causes : EachHasACause lk start events
  pub aborts : EachAbortShowsAConflict lk start events
  pub undisturbed : UndisturbedMeetsNone lk start events
  pub goes_on : UndisturbedGoesOn lk start events lawful

-- progressiveness up to stripes and the bound on ticks (Guerraoui and Kapałka), of every list of
-- allowed events
-- Not said: that some attempt of several that conflict commits (strong progressiveness), or that
-- an attempt takes its next step.
abbrev pub EveryListIsProgressive : RecordLaw → Type 0
EveryListIsProgressive lawful =
    (image : List ℕ) (last stripes : ℕ) (events : List Event) (c : Core)
    → Reaches lawful image last stripes events c
    → IsProgressive lawful (stripe_of stripes) (opened image last stripes) events

-- P holds of every list of allowed events, from the opening on which the list begins
abbrev pub OfEveryList : RecordLaw → ((ℕ → ℕ) → Core → List Event → Type 0) → Type 0
OfEveryList lawful P =
    (image : List ℕ) (last stripes : ℕ) (events : List Event) (c : Core)
    → Reaches lawful image last stripes events c
    → P (stripe_of stripes) (opened image last stripes) events
