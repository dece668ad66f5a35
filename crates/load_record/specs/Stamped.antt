-- The recorded calls of a call recorder and their stamps.
use Rattle.std.specs.Prelude.{◌≡◌, ℕ, Option, List, [], ◌∷◌, ◌++◌}
use Rattle.std.specs.Global.{Box}
use Rattle.vac_model.specs.declared.tasks.Task.{Task}
use Rattle.vac_manager.specs.declared.placed.PlacedReply.{PlacedReply}
use Rattle.vac_manager.specs.declared.note.CompletedCall.{CompletedCall}
use Rattle.vac_manager.specs.declared.note.TracedAttempt.{TracedAttempt}
use Rattle.load_record.specs.declared.journal.CallRecorder.{CallRecorder}
use Rattle.load_record.specs.Stamps.{IsStamp}

-- one more call is recorded, which began at the last stamp and ended at the next stamp that was
-- read
pub record HasStamped {W : Type 0} (shows : W → ℕ → W → Type 0) (before after : CallRecorder W)
    : Type 0 where
  pub note : CompletedCall
  pub kept : after.notes.items ≡ before.notes.items ++ (note ∷ [])
  pub begin : note.begin ≡ before.latest
  pub end : note.end ≡ after.latest
  pub read : IsStamp shows before.watch after.watch before.latest after.latest

-- a call with this task, reply and commit position is recorded after the others, together with
-- this attempt
pub record KeepsWith (t : Task) (p : PlacedReply) (attempt : Option (Box TracedAttempt))
    (before after : List CompletedCall) : Type 0 where
  pub note : CompletedCall
  pub kept : after ≡ before ++ (note ∷ [])
  pub task : note.task ≡ t
  pub reply : note.reply ≡ p.reply
  pub place : note.place ≡ p.place
  pub attempt_is : note.attempt ≡ attempt
