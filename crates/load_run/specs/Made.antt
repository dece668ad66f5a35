-- The attempts of a client, in the order in which the client made them.
use Rattle.std.specs.Prelude.{◌≡◌, ◌≤◌, ◌<◌, ◌⊎◌, ℕ, true, false, List, [], ◌∷◌, IfSome, if◌then◌else◌}
use Rattle.std.specs.List.{All}
use Rattle.std.specs.FinMap.{empty}
use Rattle.tx_memory.specs.Pairs.{map_of}
use Rattle.tx_memory.specs.Accesses.{reads_behind, are_right}
use Rattle.stm_core.specs.Client.{Record, Aborted}
use Rattle.stm_core.specs.History.{Sub}
use Rattle.stm_region.specs.Findings.{StandsOn}
use Rattle.vac_manager.specs.declared.note.CompletedCall.{CompletedCall}
use Rattle.vac_manager.specs.Law.{IsFitting}
use Rattle.stm_object.specs.Places.{reader_at, rank_of}
use Rattle.vac_manager.specs.Placed.{CommitPosition}
use Rattle.vac_manager.specs.Tracing.{Trace, trace_of, IsTraceOf, AreMadeInTurn}
use Rattle.load_run.specs.Lists.{Paired}

-- each read of the traced attempt gives what the attempt wrote or read at the address before, and
-- some image that a memory of the system may hold agrees with all reads of words that the attempt
-- had not written before
pub record ReadsOneImage (t : Trace) : Type 0 where
  pub right : are_right empty empty t.accesses ≡ true
  pub reads : List (ℕ × ℕ)
  pub are : map_of reads ≡ reads_behind empty empty t.accesses
  pub size : ℕ
  pub stands : ∥ StandsOn IsFitting size reads ∥₁

-- if the traced attempt aborted, it is traced as a reader, and read one image
-- Not said: anything of its writes; the size of the image, and its place in the history. Of a load
-- `LoadedKept` says both: it is the image of the attempt's version, a heap of the system's blocks.
abbrev pub ReadsOneImageIfAborted : Trace → Type 0
ReadsOneImageIfAborted t = t.commits ≡ false → (t.place.wrote ≡ false) × ReadsOneImage t

-- the traces of the attempts that committed, in their order
abbrev pub committed_in : List Trace → List Trace
committed_in [] = []
committed_in (t ∷ ts) = if t.commits then t ∷ committed_in ts else committed_in ts

-- the traces of the attempts that aborted, in their order
abbrev pub aborted_in : List Trace → List Trace
aborted_in [] = []
aborted_in (t ∷ ts) = if t.commits then aborted_in ts else t ∷ aborted_in ts

-- the first position is not after the second one in the order of positions: by renewal, then by
-- version with the writer of a version before its readers
abbrev pub IsNotAfter : CommitPosition → CommitPosition → Type 0
IsNotAfter p q = (p.renewal < q.renewal) ⊎ ((p.renewal ≡ q.renewal) × (rank_of p ≤ rank_of q))

-- from the first position to the last one, no attempt comes after the next: within a renewal,
-- versions do not decrease, and no writer of a version comes after a reader of this version
abbrev pub AreAscending : CommitPosition → List Trace → CommitPosition → Type 0
AreAscending first [] last = IsNotAfter first last
AreAscending first (t ∷ ts) last = IsNotAfter first t.place × AreAscending t.place ts last

-- if the call is noted with an attempt, this is the trace of that attempt
abbrev pub IsNotedWith : CompletedCall → Trace → Type 0
IsNotedWith n t = IfSome n.attempt (λ a. trace_of a.value ≡ t)

-- the trace is that of this aborted attempt: it has the position of a reader at the attempt's
-- renewal and read version, its reads of words before it wrote them are the attempt's reads, and
-- each of its reads gives what the attempt wrote or read at the address before
-- Not said: anything of its writes.
pub record IsTraceOfListed (t : Trace) (a : Aborted) : Type 0 where
  pub place : t.place ≡ reader_at a.renewal a.version
  pub reads : map_of a.reads ≡ reads_behind empty empty t.accesses
  pub right : are_right empty empty t.accesses ≡ true

-- a client made the attempts with these traces, one after the other, in the order of the list.
-- Their positions ascend from the first position to the last one. They were made between the times
-- `from` and `to`, and each attempt ended no later than the next one began. The committed ones made
-- these records, one attempt for each record, in their order, and are the attempts of these calls.
-- The aborted ones are these aborted attempts, in their order, and each read one image
-- Not said: how the clock of the times runs. All attempts may have the same time.
pub record AreMade (first last : CommitPosition) (from to : ℕ) (calls : List CompletedCall)
    (records : List Record) (aborts : List Aborted) (made : List Trace) : Type 0 where
  pub ascending : AreAscending first made last
  pub turns : AreMadeInTurn from made to
  pub of_records : Paired IsTraceOf (committed_in made) records
  pub of_calls : Paired IsNotedWith calls (committed_in made)
  pub listed : Paired IsTraceOfListed (aborted_in made) aborts
  pub aborted : All ReadsOneImageIfAborted made

-- of the attempts that were made, these stay in the recorder, in their order: all aborted ones,
-- each once, and some of the committed ones
-- Not said: which of the committed ones.
pub record AreLeft (made left : List Trace) : Type 0 where
  pub among : Sub left made
  pub aborted : aborted_in left ≡ aborted_in made
