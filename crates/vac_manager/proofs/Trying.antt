-- Why a call stopped.
use Rattle.std.proofs.Common.{◌≡◌, inl, inr, ℕ, true, false, ◌==◌, not, Bool, ap, ◌∙◌, arith, refl, sym}
use Rattle.std.proofs.lemmas.Grind.{not_there}
use Rattle.std.proofs.lemmas.Bool.Decides.{nat_tests}
use Rattle.stm_core.specs.Client.{Client}
use Rattle.stm_logs.specs.Log.{log_pairs}
use Rattle.stm_region.specs.Shown.{RegionShown}
use Rattle.stm_core.specs.Guards.{stripe_of}
use Rattle.stm_attempt.specs.Begun.{IsQuiet, is_quiet}
use Rattle.stm_attempt.specs.Conflicts.{IsReadConflict, IsLockConflict, IsValidateConflict, IsTickConflict}
use Rattle.stm_attempt.specs.declared.conflict.Conflict.{Conflict}
use Rattle.stm_attempt.specs.declared.conflict.Conflict.TheVariants.{Held, Newer, Moved, LostLock, LostTick}
use Rattle.stm_attempt.specs.declared.conflict.Stop.{Stop}
use Rattle.stm_attempt.specs.declared.conflict.Stop.TheVariants as stop
use Rattle.stm_object.specs.History.{ConflictWasShown, IsStopOfEntry}
use Rattle.vac_model.specs.declared.tasks.Task.{Task}
use Rattle.vac_model.specs.declared.replies.Reply.{Reply}
use Rattle.vac_tasks.specs.Reading.{only_reads}
use Rattle.vac_manager.specs.Law.{vacation}
use Rattle.vac_manager.specs.Faults.{fault_of}
use Rattle.vac_manager.specs.Called.{WasShown, ShowsNone, IsFault, changes_nothing}

same_number : (a b : ℕ) → (a == b) ≡ true → a ≡ b
same_number a b e = grind (arith, nat_tests)

-- a step that shows no conflict is none of those that show one
quiet_read : (lk : ℕ → ℕ) (address : ℕ) (conflict : Conflict) (v : Client) → IsQuiet v →
    IsReadConflict lk address conflict v → ⊥
quiet_read lk address (Held lock word) v q h = let k : false ≡ true = sym (ap is_quiet h.1) ∙ q in cc
quiet_read lk address (Newer lock version rv) v q h = let k : false ≡ true = sym (ap is_quiet h.1) ∙ q in cc
quiet_read lk address (Moved lock first second) v q h =
    h.2 (same_number first second (sym (ap is_quiet h.1) ∙ q))
quiet_read lk address (LostLock lock found) v q h = h
quiet_read lk address (LostTick found) v q h = h

quiet_lock : (lock : ℕ) (conflict : Conflict) (v : Client) → IsQuiet v → IsLockConflict lock conflict v → ⊥
quiet_lock wanted (Held lock word) v q h = let k : false ≡ true = sym (ap is_quiet h.1) ∙ q in cc
quiet_lock wanted (Newer lock version rv) v q h = h
quiet_lock wanted (Moved lock first second) v q h = h
quiet_lock wanted (LostLock lock found) v q h = let k : false ≡ true = sym (ap is_quiet h.1.1) ∙ q in cc
quiet_lock wanted (LostTick found) v q h = h

quiet_validate : (lock : ℕ) (conflict : Conflict) (v : Client) → IsQuiet v →
    IsValidateConflict lock conflict v → ⊥
quiet_validate wanted (Held lock word) v q h = let k : false ≡ true = sym (ap is_quiet h.1) ∙ q in cc
quiet_validate wanted (Newer lock version rv) v q h = let k : false ≡ true = sym (ap is_quiet h.1.1) ∙ q in cc
quiet_validate wanted (Moved lock first second) v q h = h
quiet_validate wanted (LostLock lock found) v q h = h
quiet_validate wanted (LostTick found) v q h = h

quiet_tick : (conflict : Conflict) (v : Client) → IsQuiet v → IsTickConflict conflict v → ⊥
quiet_tick (Held lock word) v q h = h
quiet_tick (Newer lock version rv) v q h = h
quiet_tick (Moved lock first second) v q h = h
quiet_tick (LostLock lock found) v q h = h
quiet_tick (LostTick found) v q h = let k : false ≡ true = sym (ap is_quiet h.1) ∙ q in cc

shows_none : (region : RegionShown) (v : Client) → IsQuiet v → ShowsNone region v
shows_none region v q conflict shown = elim shown [
  | inl h ↦ not_there h (λ x. quiet_read (stripe_of region.stripes) x.0 conflict v q x.1)
  | inr met ↦ elim met.1 [
    | inl h ↦ quiet_lock h.0 conflict v q h.2
    | inr other ↦ elim other [
      | inl h ↦ quiet_validate h.0 conflict v q h.2
      | inr h ↦ quiet_tick conflict v q h
    ]
  ]
]

changing : (b : Bool) → not b ≡ true → b ≡ false
changing true e = absurd (let n : false ≡ true = e in cc)
changing false e = refl

-- the conflict of a task's transaction was shown
pub was_shown : (region : RegionShown) (t : Task) (conflict : Conflict) (v : Client) →
    ConflictWasShown {A = Reply} vacation region (λ r. (t, r)) (λ r. not (changes_nothing t r)) (only_reads t) conflict
    v → WasShown region conflict v
was_shown region t conflict v (inl h) = inl h
was_shown region t conflict v (inr h) = inr (h.0, h.3)

-- why a call was not answered
pub is_fault : (region : RegionShown) (t : Task) (tries : ℕ) (s : Stop) (v v' : Client) →
    IsStopOfEntry {A = Reply} vacation region (λ r. (t, r)) (λ r. not (changes_nothing t r)) (only_reads t) tries s v v'
    → IsFault region t tries (fault_of s) v v'
is_fault region t tries stop.Memory v v' h = (h.0, shows_none region v' h.1)
is_fault region t tries (stop.Conflict conflict) v v' h = was_shown region t conflict v' h.1
is_fault region t tries (stop.Spent version) v v' h =
    let k = h.1 in
    let w = k.written in (
      h.0,
      record {
        version_is = k.version_is;
        from = k.from;
        gave_back = k.gave_back;
        found = k.found;
        written = record {
          reply = w.answer;
          writes = log_pairs k.log;
          some = w.some;
          changing = changing (changes_nothing t w.answer) w.changing;
          lawful = record { entry = (t, w.answer); told = refl; does = w.does };
        };
      },
    )
