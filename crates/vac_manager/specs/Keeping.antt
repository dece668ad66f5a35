-- Recorded calls.
use Rattle.std.specs.Prelude.{◌≡◌, ◌⊎◌, List, [], ◌∷◌, ◌++◌, Option, Some, None, IfSome}
use Rattle.stm_core.specs.Client.{Record}
use Rattle.vac_model.specs.declared.tasks.Task.{Task}
use Rattle.vac_model.specs.Code.{code}
use Rattle.vac_manager.specs.declared.placed.PlacedReply.{PlacedReply}
use Rattle.vac_manager.specs.Placed.{place_of}
use Rattle.vac_manager.specs.declared.note.CompletedCall.{CompletedCall}
use Rattle.vac_manager.specs.Tracing.{Trace, trace_of, IsLastTraced, IsTraceOf}

-- the recorded calls with these calls appended; None if nothing is recorded
abbrev pub notes_behind : Option (List CompletedCall) → List CompletedCall →
    Option (List CompletedCall)
notes_behind None more = None
notes_behind (Some notes) more = Some (notes ++ more)

-- a completed call of this task was appended to the recorded calls, with the reply and commit
-- position that the call returned; if the note has an attempt, that attempt is the last of the
-- traced ones
pub record HasKept (t : Task) (p : PlacedReply) (traced : Option (List Trace))
    (before after : Option (List CompletedCall)) : Type 0 where
  pub note : CompletedCall
  pub task : note.task ≡ t
  pub reply : note.reply ≡ p.reply
  pub place : note.place ≡ p.place
  pub attempt : IfSome note.attempt (λ a. IsLastTraced traced (trace_of a.value))
  pub kept : after ≡ notes_behind before (note ∷ [])

-- at most the last traced attempt was taken out; nothing is said if the list of traced attempts is
-- not known afterwards
-- Not said: that the attempt taken out is the attempt in the note.
abbrev pub HasTakenOut : Option (List Trace) → Option (List Trace) → Type 0
HasTakenOut before after = (all : List Trace) → after ≡ Some all →
    (before ≡ Some all) ⊎ ((last : Trace) × (before ≡ Some (all ++ (last ∷ []))))

-- the record belongs to the noted call: its tag is the code of the call's task and reply, and the
-- note has the record's commit position; if the note has an attempt, the record is that of the
-- attempt
pub record IsNoted (n : CompletedCall) (r : Record) : Type 0 where
  pub tag : r.tag ≡ code n.task n.reply
  pub place : n.place ≡ place_of r
  pub attempt : IfSome n.attempt (λ a. IsTraceOf (trace_of a.value) r)
