-- From the result of the walk of words to the states that the words represent.
use Rattle.std.proofs.Common.{◌≡◌, inl, inr, refl, ℕ, ◌+◌, ◌-◌, ◌/◌, ◌%◌, ◌*◌, ◌≤◌, List, length, sym, ap, ◌∙◌, subst}
use Rattle.std.proofs.Common.{arith}
use Rattle.std.specs.Prelude.{Ok, Err, slice_index}
use Rattle.vac_model.specs.declared.replies.Report.{Report}
use Rattle.vac_model.specs.State.{State}
use Rattle.vac_records.specs.Represents.{IsState}
use Rattle.vac_audit.specs.Walk.{audit}
use Rattle.vac_audit.specs.Ran.{HeapRan, audit_answer, fault_answer}
use Rattle.vac_audit.specs.Represented.{StateOf, Recognised}
use Rattle.vac_audit.specs.declared.audit.TheConstants.{MOST_HEAP_WORDS}
use Rattle.vac_audit.specs.declared.Flaw.{Flaw}
use Rattle.vac_audit.specs.declared.tree.Fault.{Fault}
use Rattle.vac_audit.specs.declared.tree.Fault.TheVariants.{Memory, Found}
use Rattle.vac_audit.specs.declared.audit.AuditFault.TheVariants.{Flaw as Flawed}
use Rattle.vac_audit.proofs.Clean.{state_found}
use Rattle.vac_audit.proofs.Stated.{state_clean, flawed_is_none}

-- the state of the size that the words have
sized : (words : List ℕ) (s : State) → IsState (slice_index words) (length words) s →
    IsState (slice_index words) (16 + 8 * s.capacity) s
sized words s h = subst (λ (n : ℕ). IsState (slice_index words) n s) h.represents.size h

pub state_in : (words : List ℕ) (found : Report) → HeapRan words ((length words - 16) / 8) (Ok found) →
    24 ≤ length words → length words ≤ MOST_HEAP_WORDS → length words % 8 ≡ 0 → StateOf words found
state_in words found h low high whole =
    let f = state_found (slice_index words) ((length words - 16) / 8) found (omega arith) h in
    let n : 16 + 8 * ((length words - 16) / 8) ≡ length words = omega (arith, whole) in
    record {
      state = f.state;
      represented = subst (λ (k : ℕ). IsState (slice_index words) k f.state) n f.represented;
      report_is = f.report_is;
    }

pub recognised_ok : (words : List ℕ) (found : Report) → HeapRan words ((length words - 16) / 8) (Ok found) →
    Recognised words (Ok found)
recognised_ok words found h s some is =
    let size = is.represents.size in
    let e : (length words - 16) / 8 ≡ s.capacity = omega (arith, size) in
    let q : audit (slice_index words) s.capacity ≡ Ok found =
    subst (λ (z : ℕ). audit (slice_index words) z ≡ Ok found) e h in
    inr (ap audit_answer (sym q ∙ state_clean (slice_index words) s.capacity s (sized words s is)))

pub recognised_flaw : (words : List ℕ) (fault : Fault) (flaw : Flaw) → fault ≡ Found flaw →
    HeapRan words ((length words - 16) / 8) (Err fault) → Recognised words (Err (Flawed flaw))
recognised_flaw words fault flaw same h s some is =
    let size = is.represents.size in
    let e : (length words - 16) / 8 ≡ s.capacity = omega (arith, size) in
    let g : HeapRan words ((length words - 16) / 8) (Err (Found flaw)) =
    subst (λ (z : Fault). HeapRan words ((length words - 16) / 8) (Err z)) same h in
    let q : audit (slice_index words) s.capacity ≡ Err flaw =
    subst (λ (z : ℕ). audit (slice_index words) z ≡ Err flaw) e g in
    absurd (flawed_is_none (slice_index words) s.capacity flaw q s (sized words s is))

pub recognised_fault : (words : List ℕ) (fault : Fault) → HeapRan words ((length words - 16) / 8) (Err fault) →
    Recognised words (Err (fault_answer fault))
recognised_fault words Memory h s some is = inl refl
recognised_fault words (Found flaw) h s some is = recognised_flaw words (Found flaw) flaw refl h s some is
