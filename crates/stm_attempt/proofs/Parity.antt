-- A lock word is free or held.
use Rattle.std.proofs.Common.{◌≡◌, ◌⊎◌, inl, inr, ℕ, ◌*◌, ◌/◌, arith, Bool, true, false}
use Rattle.std.proofs.lemmas.Bool.{cases_lt}
use Rattle.stm_core.specs.LockWord.{free_word, held_word}
use Rattle.stm_core.specs.Client.{IsFree}
use Rattle.stm_attempt.specs.Conflicts.{SaysHeld}

pub parity : (w : ℕ) → IsFree w ⊎ SaysHeld w
parity w = elim (cases_lt (2 * (w / 2)) w) [ inl odd ↦ inr (omega arith) | inr even ↦ inl (omega arith) ]

opposite : {A : Type 0} (b : Bool) → b ≡ true → b ≡ false → A
opposite b t f = cc

-- what a decoded word says
pub says_held : (w v : ℕ) (held : Bool) → ((u : ℕ) → w ≡ free_word u → (v ≡ u) × (held ≡ false)) → held ≡ true →
    SaysHeld w
says_held w v held free h =
    elim (parity w) [ inl even ↦ opposite held h (free (w / 2) even).1 | inr odd ↦ odd ]

pub says_free : (w v : ℕ) (held : Bool) → ((u : ℕ) → w ≡ free_word u → (v ≡ u) × (held ≡ false)) →
    ((u : ℕ) → w ≡ held_word u → (v ≡ u) × (held ≡ true)) → held ≡ false → w ≡ free_word v
says_free w v held free is_held h =
    elim (parity w) [
      | inl even ↦ (let e = (free (w / 2) even).0 in omega arith)
      | inr odd ↦
          opposite held (is_held (w / 2) odd).1 h
    ]
