use Rattle.std.proofs.Common.{◌≡◌, ℕ, ◌<◌, ◌≤◌, length}
use Rattle.stm_logs.specs.declared.keys.TheConstants.{POSITIONS}
use Rattle.stm_logs.specs.Keys.{key_at, content_before, IsChosen}
use Rattle.stm_logs.proofs.keys.Keys.insert.Given as goal

abbrev pub invariant-loop-place : goal.invariant-loop-place
invariant-loop-place l = record {
  len : length l.self.places ≡ POSITIONS;
  before : l.before ≡ content_before (key_at l.initial.self) l.place;
  done : (k : ℕ) → k < l.place
      → IsChosen (content_before (key_at l.initial.self) k) (key_at l.initial.self k) l.key (key_at l.self k);
  left : (k : ℕ) → l.place ≤ k → key_at l.self k ≡ key_at l.initial.self k;
}
