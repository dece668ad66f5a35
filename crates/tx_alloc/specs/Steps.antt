-- Sequences of steps of a memory.
use Rattle.std.proofs.Common.{◌≡◌, ℕ, List, refl, ◌∙◌}
use Rattle.tx_memory.specs.View.{View, Sees, RestsOn, Kept, Loaded, Stored, IsWrite}
pub use Rattle.tx_memory.specs.View.{mem}

pub kept_none : (s : View) → Kept s s
kept_none s = record { size = refl; seen = λ image i. i }

pub kept_both : (s s' s'' : View) → Kept s s' → Kept s' s'' → Kept s s''
kept_both s s' s'' h k = record {
  size = k.size ∙ h.size;
  seen = λ image i. h.seen image (k.seen image i);
}

-- an image that is possible after a step and has the memory's size was possible before the step
pub stood : {s s' : View} → Kept s s' → (image : List ℕ) → RestsOn s' image → RestsOn s image
stood k image i = record { size = i.size ∙ k.size; sees = k.seen image i.sees }

-- the result of a load, in terms of the memory at the start, if only reads were made since
pub at_start : (s0 s s' : View) (a v : ℕ) → s.writes ≡ s0.writes → Loaded s s' a v →
    (image : List ℕ) → Sees s' image → mem s0 image a ≡ v
at_start s0 s s' a v e l image i = rw e at (l.answer image i)

-- the effect of a store, in terms of the memory at the start, if only reads were made since
pub write_at_start : (s0 s s' : View) (a v : ℕ) → s.writes ≡ s0.writes → Stored s s' a v →
    (image : List ℕ) → Sees s' image → IsWrite (mem s0 image) (mem s' image) a v
write_at_start s0 s s' a v e w image i = rw e at (w.written image)
