-- The validation of the lock of a word that was read.
use Rattle.std.proofs.Common.{◌≡◌, inl, inr, refl, sym, ap, ◌∙◌, ℕ, ◌*◌, ◌/◌, ◌<◌, ◌≤◌, Bool, true, false, ◌||◌, ◌&&◌}
use Rattle.std.proofs.Common.{eq-eqb, List, Some, cond, arith}
use Rattle.std.proofs.lemmas.Bool.{ne_eqb, le-leb, lt-leb}
use Rattle.std.proofs.Math.Bool.{or-true}
use Rattle.std.specs.Prelude.{◌≡◌, ◌↔◌, leb, true}
use Rattle.std.specs.FinMap.{get}
use Rattle.stm_core.specs.LockWord.{free_word, held_word}
use Rattle.stm_logs.specs.Log.{LogValue, log_locks}
use Rattle.stm_logs.proofs.TableLemmas.{true_false}
use Rattle.stm_core.specs.Client.{Client, validated, version_of, is_free, writes_to}
use Rattle.stm_core.specs.Event.{validate, after, passing, failing, stepping, marking}
use Rattle.stm_region.specs.Shown.{RegionShown, ClientShown, acted, unplaced}
use Rattle.stm_core.specs.Guards.{stripe_of}
use Rattle.stm_attempt.specs.Begun.{addresses}
use Rattle.stm_attempt.specs.Conflicts.{IsValidateConflict}
use Rattle.stm_attempt.specs.Validating.{HasValidatedLock}
use Rattle.stm_attempt.specs.declared.conflict.Conflict.TheVariants.{Held, Newer}
use Rattle.stm_attempt.proofs.Parity.{parity, says_held}
use Rattle.stm_attempt.proofs.Writing.{own_lock}

-- what the client is after the step, by whether it passed
pub by_validate : (region : RegionShown) (lock : ℕ) (passed : Bool) (v v' : Client)
    (step : HasValidatedLock region lock passed v v') → v' ≡ marking (writes_to v.attempt.held lock)
    (stepping (validated lock step.0) (cond passed (passing (unplaced region.renewal) v) (failing v)))
by_validate region lock passed v v' step = step.1 ∙ ap (λ (t : Bool). marking (writes_to v.attempt.held lock)
    (stepping (validated lock step.0) (cond t (passing (unplaced region.renewal) v) (failing v)))) step.2

-- the word is free, or held by the client itself
pub own_passes : (word : ℕ) (held : List (ℕ × ℕ)) (lock : ℕ) (w : LogValue) → addresses held ≡ log_locks w →
    (has : Bool) → (has ≡ true) ↔ ((a : ℕ) × (get w.locks a ≡ Some lock)) → has ≡ true →
    (is_free word || writes_to held lock) ≡ true
own_passes word held lock w held_are has told there = ap (λ (t : Bool). is_free word || t)
    (own_lock w held lock held_are has told ∙ there) ∙ or-true (is_free word)

-- what a decoded word says
module _ (word version : ℕ) (held : Bool) (free : (u : ℕ) → word ≡ free_word u →
    (version ≡ u) × (held ≡ false)) (is_held : (u : ℕ) → word ≡ held_word u → (version ≡ u) × (held ≡ true)) where
  version_said : version ≡ version_of word
  version_said = elim (parity word) [ inl even ↦ (free (word / 2) even).0 | inr odd ↦ (is_held (word / 2) odd).0 ]

  free_said : held ≡ false → is_free word ≡ true
  free_said f = elim (parity word) [
    | inl even ↦ eq-eqb word (2 * (word / 2)) even
    | inr odd ↦
        absurd (true_false held (is_held (word / 2) odd).1 f)
  ]

  held_said : held ≡ true → is_free word ≡ false
  held_said t = elim (parity word) [
    | inl even ↦ absurd (true_false held t (free (word / 2) even).1)
    | inr odd ↦
        ne_eqb word (2 * (word / 2)) (λ e. absurd (omega arith))
  ]

  pub free_passes : (locks : List (ℕ × ℕ)) (lock : ℕ) → held ≡ false → (is_free word || writes_to locks lock) ≡ true
  free_passes locks lock is = ap (λ (t : Bool). t || writes_to locks lock) (free_said is)

  module _ (region : RegionShown) (c c' : ClientShown) (lock : ℕ) (stepped : c' ≡ acted region (validate lock) word c)
      (w : LogValue) (held_are : addresses c.value.attempt.held ≡ log_locks w) where
    abbrev Validates : Bool → Type 0
    Validates passed = HasValidatedLock region lock passed c.value c'.value

    value_is : c'.value ≡ after (unplaced region.renewal) (stripe_of region.stripes) (validate lock) word c.value
    value_is = ap (λ (x : ClientShown). x.value) stepped

    mine : c'.value.attempt.mine ≡ writes_to c.value.attempt.held lock
    mine = ap (λ (x : Client). x.attempt.mine) value_is

    last : c'.value.attempt.last ≡ validated lock word
    last = ap (λ (x : Client). x.attempt.last) value_is

    -- the word is held, and not by the client itself
    module _ (is : held ≡ true) (has : Bool) (told : (has ≡ true) ↔ ((a : ℕ) × (get w.locks a ≡ Some lock)))
        (none : has ≡ false) where
      other : writes_to c.value.attempt.held lock ≡ false
      other = own_lock w c.value.attempt.held lock held_are has told ∙ none

      pub refused_held : Validates false
      refused_held = (
        word,
        value_is,
        ap (λ (t : Bool). (t || writes_to c.value.attempt.held lock) && leb
            (version_of word) c.value.attempt.rv) (held_said is) ∙
            ap (λ (t : Bool). t && leb (version_of word) c.value.attempt.rv) other,
      )

      pub shown_held : IsValidateConflict lock (Held lock word) c'.value
      shown_held = (refl, last, says_held word version held free is, mine ∙ other)

    module _ (ours : (is_free word || writes_to c.value.attempt.held lock) ≡ true) (rv : ℕ)
        (from : c.value.attempt.rv ≡ rv) where
      pub refused_newer : rv < version → Validates false
      refused_newer newer = (
        word,
        value_is,
        ap (λ (t : Bool). t && leb (version_of word) c.value.attempt.rv) ours ∙
            lt-leb (version_of word) c.value.attempt.rv (omega (arith, version_said)),
      )

      pub shown_newer : rv < version → IsValidateConflict lock (Newer lock version rv) c'.value
      shown_newer newer =
          let same : c'.value.attempt.rv ≡ c.value.attempt.rv =
          ap (λ (x : Client). x.attempt.rv) (by_validate region lock false c.value c'.value (refused_newer newer))
          in (
            refl,
            (
              word,
              last,
              ap (λ (t : Bool). is_free word || t) mine ∙ ours,
              version_said,
              sym from ∙ sym same,
              newer,
            ),
          )

      pub has_passed : version ≤ rv → Validates true
      has_passed old = (
        word,
        value_is,
        ap (λ (t : Bool). t && leb (version_of word) c.value.attempt.rv) ours ∙
            le-leb (version_of word) c.value.attempt.rv (omega (arith, version_said)),
      )
