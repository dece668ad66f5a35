-- The stamps of attempts.
use Rattle.std.specs.Prelude.{◌≡◌, ℕ}
use Rattle.vac_manager.specs.declared.note.TracedAttempt.{TracedAttempt}
use Rattle.load_record.specs.Stamps.{IsStamp}
use Rattle.load_record.specs.declared.trail.AttemptTracer.{AttemptTracer}

-- the attempt began at the last stamp of the tracer before, and ended at the next stamp that was
-- read
pub record IsStamped {W : Type 0} (shows : W → ℕ → W → Type 0) (before after : AttemptTracer W)
    (a : TracedAttempt) : Type 0 where
  pub begin : a.begin ≡ before.latest
  pub end : a.end ≡ after.latest
  pub read : IsStamp shows before.watch after.watch before.latest after.latest
