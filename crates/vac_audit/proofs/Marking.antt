-- Pointers that the code follows, and its marks.
use Rattle.std.proofs.Common.{◌≡◌, inl, inr, ℕ, ◌+◌, ◌*◌, ◌-◌, ◌/◌, ◌%◌, ◌<◌, ◌≤◌, Bool, true, false, cond, List, []}
use Rattle.std.proofs.Common.{◌∷◌, length, get_or, set, length-set, get_or-set_same, get_or-set_other, sym, ap, ◌∙◌}
use Rattle.std.proofs.Common.{subst, arith, nat_eq, zero, suc}
use Rattle.std.specs.Prelude.{Ok, not, slice_index}
use Rattle.std.proofs.lemmas.Bool.Decides.{nat_tests}
use Rattle.tx_memory.specs.Seen.{same_or}
use Rattle.tx_alloc.specs.Pool.{IsBlock, held}
use Rattle.vac_audit.specs.Walk.{follow}
use Rattle.vac_audit.specs.Marks.{Marks, IsMarked, unmarked}
use Rattle.vac_audit.proofs.Steps.{follow_block}

not_held : (a : ℕ) → false ≡ not (nat_eq a 0) → a ≡ 0
not_held a e = grind (arith, nat_tests)

marked : (a : ℕ) → 0 < a → true ≡ not (nat_eq a 0)
marked a e = grind (arith, nat_tests)

pub marked_also : (marks : List Bool) (seen : List ℕ) (b : ℕ) → b < length marks → Marks marks seen →
    Marks (set marks b true) ((16 + 8 * b) ∷ seen)
marked_also marks seen b l h = record {
  is = λ c less. elim (same_or c b) [
    | inl q ↦ (
        let first : 0 < held (16 + 8 * b) ((16 + 8 * b) ∷ seen) = grind (arith, nat_tests) in
        subst (λ (z : ℕ). get_or (set marks b true) z false ≡ not (nat_eq (held (16 + 8 * z) ((16 + 8 * b) ∷ seen)) 0))
        (sym q)
        (get_or-set_same marks b true false l ∙ marked _ first))
    | inr ne ↦ (
        let inside : c < length marks = omega (arith, length-set marks b true) in
        let t : nat_eq (16 + 8 * b) (16 + 8 * c) ≡ false = grind (arith, nat_tests) in
        let same : held (16 + 8 * c) ((16 + 8 * b) ∷ seen) ≡ held (16 + 8 * c) seen =
        omega (arith, ap (λ (z : Bool). cond {A = ℕ} z 1 0) t) in
        get_or-set_other marks b c true false ne ∙ (h.is c inside ∙ ap (λ (z : ℕ). not (nat_eq z 0)) (sym same)))
  ];
}

pub followed : (words : List ℕ) (marks : List Bool) (at v : ℕ) → IsMarked words marks → v ≡ slice_index words at →
    16 ≤ v → v < 16 + 8 * length marks → v % 8 ≡ 0 → get_or marks ((v - 16) / 8) false ≡ false
    → (seen : List ℕ) → Marks marks seen → (follow (slice_index words) (length words) at seen ≡ Ok v) ×
    IsBlock (length words) v × Marks (set marks ((v - 16) / 8) true) (v ∷ seen)
followed words marks at v h is low high whole free seen s =
    let place : v ≡ 16 + 8 * ((v - 16) / 8) = omega arith in
    let inside : (v - 16) / 8 < length marks = omega arith in
    let block : IsBlock (length words) v = ((v - 16) / 8, (omega (arith, h.size), place)) in
    let none : held v seen ≡ 0 = subst (λ (z : ℕ). held z seen ≡ 0) (sym place)
    (not_held _ (sym free ∙ s.is ((v - 16) / 8) inside)) in (
      follow_block (slice_index words) (length words) at seen v (record { at = sym is; block = block; fresh = none }),
      block,
      subst (λ (z : ℕ). Marks (set marks ((v - 16) / 8) true) (z ∷ seen)) (sym place)
          (marked_also marks seen ((v - 16) / 8) inside s),
    )

pub lands : (words : List ℕ) (marks : List Bool) (v : ℕ) → IsMarked words marks → 16 ≤ v → v < 16 + 8 * length marks →
    v % 8 ≡ 0 → IsBlock (length words) v
lands words marks v h low high whole = ((v - 16) / 8, (omega (arith, h.size), omega arith))

pub unmarked_set : (marks : List Bool) (b : ℕ) → b < length marks → get_or marks b false ≡ false →
    unmarked (set marks b true) + 1 ≡ unmarked marks
unmarked_set [] b l e = absurd (omega arith)
unmarked_set (x ∷ xs) zero l e = omega (arith, ap (λ (z : Bool). cond {A = ℕ} z 0 1) e)
unmarked_set (x ∷ xs) (suc b) l e = omega (arith, unmarked_set xs b (omega arith) e)

pub fewer : (marks : List Bool) (v : ℕ) → 16 ≤ v → v < 16 + 8 * length marks → v % 8 ≡ 0 →
    get_or marks ((v - 16) / 8) false ≡ false → unmarked (set marks ((v - 16) / 8) true) + 1 ≡ unmarked marks
fewer marks v low high whole e = unmarked_set marks ((v - 16) / 8) (omega arith) e
