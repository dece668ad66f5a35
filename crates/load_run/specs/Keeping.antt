-- The contents of the recorder of a client: calls and traces of attempts.
use Rattle.std.specs.Prelude.{◌≡◌, ◌+◌, ℕ, List, ◌++◌, length, Option, Some}
use Rattle.stm_core.specs.Client.{Client, Record, Aborted, all_aborted}
use Rattle.stm_object.specs.Places.{reader_at}
use Rattle.vac_manager.specs.declared.note.CompletedCall.{CompletedCall}
use Rattle.vac_manager.specs.Keeping.{notes_behind, IsNoted}
use Rattle.vac_manager.specs.Placed.{CommitPosition}
use Rattle.vac_manager.specs.Tracing.{Trace}
use Rattle.load_run.specs.Lists.{Paired}
use Rattle.load_run.specs.Made.{AreMade, AreLeft}

-- the contents of a recorder: the recorded calls in their order, or None if nothing is recorded;
-- the traced attempts, or None if no attempts are traced or if there was no room for all of them;
-- and the last time of the recorder's tracer
-- Not said: that this time is the end of the last trace. `AddsTraces` says only that the attempts
-- that were added were made between the time before and the time after.
pub record RecorderContents : Type 0 where
  pub calls : Option (List CompletedCall)
  pub traces : Option (List Trace)
  pub latest : ℕ

-- the contents of recorders, by what each one holds
abbrev pub contents : {K : Type 0} → (K → Option (List CompletedCall)) → (K → Option (List Trace))
    → (K → ℕ) → K → RecorderContents
contents calls traces latest keep =
    record { calls = calls keep; traces = traces keep; latest = latest keep }

-- all attempts of a client are in a recorder that had traced the attempts `before`: the client made
-- this number of attempts, in turn, from the first position to the last one and between the times
-- `from` and `to`, and they were added after the others, except committed ones that were taken out
pub record HasTracedAll (first last : CommitPosition) (from to : ℕ) (attempts : ℕ)
    (calls : List CompletedCall) (records : List Record) (aborts : List Aborted)
    (before : Option (List Trace)) (all : List Trace) : Type 0 where
  pub earlier : List Trace
  pub before_is : before ≡ Some earlier
  pub left : List Trace
  pub all_are : all ≡ earlier ++ left
  pub made : List Trace
  pub number : length made ≡ attempts
  pub are_made : AreMade first last from to calls records aborts made
  pub are_left : AreLeft made left

-- each attempt of a client was traced, once and in turn; nothing is said if the traces are not
-- known afterwards
abbrev pub AddsTraces : CommitPosition → CommitPosition → ℕ → ℕ → ℕ → List CompletedCall
    → List Record → List Aborted → Option (List Trace) → Option (List Trace) → Type 0
AddsTraces first last from to attempts calls records aborts before after = (all : List Trace) →
    after ≡ Some all → HasTracedAll first last from to attempts calls records aborts before all

-- the recorded calls after are those before, followed by the calls of exactly these records, one
-- call for each record, in their order; and this number of attempts, from the first position to
-- the last one, was traced, each attempt once, of which these aborted. The first of these attempts
-- began no earlier than the recorder's time before, and the last one ended no later than its time
-- after
pub record AreKeptBetween (first last : CommitPosition) (attempts : ℕ) (records : List Record)
    (aborts : List Aborted) (before after : RecorderContents) : Type 0 where
  pub notes : List CompletedCall
  pub are_of : Paired IsNoted notes records
  pub kept : after.calls ≡ notes_behind before.calls notes
  pub traced : AddsTraces first last before.latest after.latest attempts notes records aborts
      before.traces after.traces

-- a recorder kept the calls of exactly these records and this number of attempts, in turn, from
-- some position to another one, of which these aborted
pub record AreKept (attempts : ℕ) (records : List Record) (aborts : List Aborted)
    (before after : RecorderContents) : Type 0 where
  pub first : CommitPosition
  pub last : CommitPosition
  pub between : AreKeptBetween first last attempts records aborts before after

-- the recorder appended the calls of exactly the records that its client added in the meantime, and
-- the traces of exactly the attempts that the client made in the meantime: each attempt once, in
-- this renewal, none before a reader of the version that the client knew, and none begun before the
-- recorder's earlier time. Those that aborted are listed behind the client's earlier aborted
-- attempts
pub record HasKeptAdded (renewal : ℕ) (v v' : Client) (before after : RecorderContents)
    : Type 0 where
  pub added : List Record
  pub records : v'.records ≡ v.records ++ added
  pub attempts : ℕ
  pub number : v.attempt.number + attempts ≡ v'.attempt.number
  pub aborts : List Aborted
  pub listed : all_aborted v' ≡ all_aborted v ++ aborts
  pub kept : AreKeptBetween (reader_at renewal v.floor) (reader_at renewal v'.floor) attempts added
      aborts before after
