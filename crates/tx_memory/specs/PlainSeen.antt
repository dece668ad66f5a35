-- Plain memory satisfies the conditions of a transactional memory.
use Rattle.std.proofs.Common.{◌≡◌, inl, inr, ℕ, ◌+◌, ◌<◌, ◌≤◌, List, [], ◌∷◌, Option, Some, None, length, refl, sym, ap, ◌∙◌, arith, get_or, set, add-zero, zero-add, get_or-set_other, get_or-set_same, suc, zero, length-set}
use Rattle.std.specs.FinMap.{get, insert, empty, get-empty, same_map, nat_cmp-IsAntisymmetric}
use Rattle.std.specs.Ordering.{nat_cmp}
use Rattle.std.proofs.lemmas.Cmp.{nat_cmp_total}
use Rattle.std.proofs.lemmas.Bool.{cases_lt}
use Rattle.tx_memory.specs.View.{RestsOn, HasRead}
use Rattle.tx_memory.specs.Plain.{numbered, flat_view}
use Rattle.tx_memory.specs.Seen.{same_or, get_here, get_other}

none_at : (q : ℕ) → get {R = nat_cmp} (empty {X = ℕ}) q ≡ None
none_at q = get-empty nat_cmp q

-- the map of a list has the list's word at each of its addresses, and none before the first or
-- after the last
pub get_in : (xs : List ℕ) (i k : ℕ) → k < length xs →
    get (numbered i xs) (i + k) ≡ Some (get_or xs k 0)
get_in [] i k l = absurd (omega arith)
get_in (x ∷ xs) i zero l = rw add-zero (get_here (numbered (i + 1) xs) i x)
get_in (x ∷ xs) i (suc k) l =
    let e : i + suc k ≡ i + 1 + k = omega arith in
    rw e (get_other (numbered (i + 1) xs) i x (i + 1 + k) (omega arith)
    ∙ get_in xs (i + 1) k (omega arith))

pub get_before : (xs : List ℕ) (i q : ℕ) → q < i → get (numbered i xs) q ≡ None
get_before [] i q l = none_at q
get_before (x ∷ xs) i q l =
    get_other (numbered (i + 1) xs) i x q (omega arith) ∙ get_before xs (i + 1) q (omega arith)

pub get_behind : (xs : List ℕ) (i q : ℕ) → i + length xs ≤ q → get (numbered i xs) q ≡ None
get_behind [] i q l = none_at q
get_behind (x ∷ xs) i q l =
    get_other (numbered (i + 1) xs) i x q (omega arith) ∙ get_behind xs (i + 1) q (omega arith)

pub get_at : (xs : List ℕ) (a : ℕ) → a < length xs → get (numbered 0 xs) a ≡ Some (get_or xs a 0)
get_at xs a l = rw zero-add at (get_in xs 0 a l)

some_not_none : {A : Type 0} (o : Option A) (x : A) → o ≡ Some x → o ≡ None → ⊥
some_not_none o x p q = cc

pub flat_seen : (xs : List ℕ) → (image : List ℕ) × RestsOn (flat_view xs) image
flat_seen xs = (
  xs,
  record {
    size = refl;
    sees = record { fits = refl; agrees = λ a v e. absurd (some_not_none _ v e (none_at a)) };
  },
)

pub flat_read : (xs : List ℕ) (a : ℕ) → a < length xs →
    HasRead (flat_view xs) (flat_view xs) a (get_or xs a 0)
flat_read xs a l = record {
  own = λ w e. (let s = get_at xs a l in cc, refl);
  entered = λ e. absurd (some_not_none _ _ (get_at xs a l) e);
}

pub flat_write : (xs : List ℕ) (a v : ℕ) → a < length xs →
    numbered 0 (set xs a v) ≡ insert (numbered 0 xs) a v
flat_write xs a v l = same_map nat_cmp_total nat_cmp-IsAntisymmetric _ _ (λ q.
    let n = length-set xs a v in
    elim (cases_lt q (length xs)) [
      | inl inside ↦ (
          let g = get_at (set xs a v) q (omega arith) in
          elim (same_or q a) [
            | inl e ↦ (let s : get_or (set xs a v) q 0 ≡ v = rw e (get_or-set_same xs a v 0 l) in
                g ∙ ap Some s ∙ sym (rw e (get_here (numbered 0 xs) a v)))
            | inr ne ↦ (
                let s : get_or (set xs a v) q 0 ≡ get_or xs q 0 = get_or-set_other xs a q v 0 ne in
                g ∙ ap Some s ∙ sym (get_other (numbered 0 xs) a v q ne ∙ get_at xs q inside))
          ])
      | inr behind ↦ get_behind (set xs a v) 0 q (omega arith)
          ∙ sym (get_other (numbered 0 xs) a v q (omega arith) ∙ get_behind xs 0 q (omega arith))
    ])
