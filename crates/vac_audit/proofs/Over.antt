-- Rows after rows, facts of each row, and sums over their lists.
use Rattle.std.proofs.Common.{◌≡◌, inl, inr, ℕ, ◌+◌, ◌<◌, ◌≤◌, Bool, true, false, cond, List, [], ◌∷◌, ◌++◌, refl, ap}
use Rattle.std.proofs.Common.{arith, nat_eq}
use Rattle.std.specs.Prelude.{◌&&◌, ◌||◌, not, nat_le}
use Rattle.std.proofs.lemmas.Bool.Decides.{nat_tests}
use Rattle.std.proofs.lemmas.Bool.{cases_lt}
use Rattle.tx_alloc.specs.Rows.{Rows, times}
use Rattle.vac_records.specs.Heap.{over}
use Rattle.tx_alloc.specs.Rows.{IsFrom}
use Rattle.tx_alloc.proofs.Times.{times_first, times_more}
use Rattle.vac_audit.specs.Walk.{above, is_coloured}
use Rattle.vac_audit.specs.Tree.{Tree, blacks, is_red}
use Rattle.vac_audit.proofs.Sound.{Each}
use Rattle.vac_audit.proofs.Reaching.{Reaches}

pub times_append : (x : ℕ) (rs ts : Rows) → times x (rs ++ ts) ≡ times x rs + times x ts
times_append x [] ts = omega arith
times_append x (r ∷ rs) ts = omega (arith, times_append x rs ts)

pub over_append : (f : Rows → ℕ) (rs ts : Rows) (lists : ℕ → Rows) →
    over f (rs ++ ts) lists ≡ over f rs lists + over f ts lists
over_append f [] ts lists = omega arith
over_append f (r ∷ rs) ts lists = omega (arith, over_append f rs ts lists)

pub each_append : (P : ℕ × ℕ → Type 0) (rs ts : Rows) → Each P rs → Each P ts → Each P (rs ++ ts)
each_append P [] ts h k = k
each_append P (r ∷ rs) ts h k = (h.0, each_append P rs ts h.1 k)

pub each_front : (P : ℕ × ℕ → Type 0) (rs ts : Rows) → Each P (rs ++ ts) → Each P rs
each_front P [] ts h = tt
each_front P (r ∷ rs) ts h = (h.0, each_front P rs ts h.1)

pub each_back : (P : ℕ × ℕ → Type 0) (rs ts : Rows) → Each P (rs ++ ts) → Each P ts
each_back P [] ts h = h
each_back P (r ∷ rs) ts h = each_back P rs ts h.1

pub each_as : (P Q : ℕ × ℕ → Type 0) (rs : Rows) → ((r : ℕ × ℕ) → 0 < times r.1 rs → P r → Q r) → Each P rs → Each Q rs
each_as P Q [] f h = tt
each_as P Q (r ∷ rs) f h = (
  f r (times_first r.0 r.1 rs) h.0,
  each_as P Q rs (λ q o. f q (omega (arith, o, times_more r q.1 rs))) h.1,
)

pub over_as : (f : Rows → ℕ) (rs : Rows) (lists lists' : ℕ → Rows) → ((q : ℕ) → 0 < times q rs → lists' q ≡ lists q) →
    over f rs lists' ≡ over f rs lists
over_as f [] lists lists' e = refl
over_as f (r ∷ rs) lists lists' e =
    omega (
      arith,
      ap f (e r.1 (times_first r.0 r.1 rs)),
      over_as f rs lists lists'
          (λ q o. e q (omega (arith, o, times_more r q rs))),
    )

pub rises_append : (lo : ℕ) (rs ts : Rows) → IsFrom lo rs → IsFrom (above lo rs) ts → IsFrom lo (rs ++ ts)
rises_append lo [] ts h k = k
rises_append lo (r ∷ rs) ts h k = (h.0, rises_append (r.0 + 1) rs ts h.1 k)

pub rises_front : (lo : ℕ) (rs ts : Rows) → IsFrom lo (rs ++ ts) → IsFrom lo rs
rises_front lo [] ts h = tt
rises_front lo (r ∷ rs) ts h = (h.0, rises_front (r.0 + 1) rs ts h.1)

pub rises_back : (lo : ℕ) (rs ts : Rows) → IsFrom lo (rs ++ ts) → IsFrom (above lo rs) ts
rises_back lo [] ts h = h
rises_back lo (r ∷ rs) ts h = rises_back (r.0 + 1) rs ts h.1

-- one part of a walk, and then the next
pub both_reached : (n : ℕ) (s s' s'' : List ℕ) (c c' : ℕ → ℕ) (k k' : ℕ) → Reaches n s s' c k → Reaches n s' s'' c' k' →
    Reaches n s s'' (λ x. c x + c' x) (k + k')
both_reached n s s' s'' c c' k k' h h' = record {
  counts = λ x. omega (arith, h.counts x, h'.counts x);
  once = λ x l. elim (cases_lt 0 (c' x)) [
    | inl some ↦ h'.once x some
    | inr none ↦ omega (arith, h.once x (omega (arith, l, none)), h'.counts x, none)
  ];
  blocks = λ x l. elim (cases_lt 0 (c' x)) [
    | inl some ↦ h'.blocks x some
    | inr none ↦ h.blocks x (omega (arith, l, none))
  ];
  more = omega (arith, h.more, h'.more);
}

pub reached_as : (n : ℕ) (s s' : List ℕ) (c c' : ℕ → ℕ) (k k' : ℕ) → ((x : ℕ) → c' x ≡ c x) → k' ≡ k →
    Reaches n s s' c k → Reaches n s s' c' k'
reached_as n s s' c c' k k' e f h = record {
  counts = λ x. omega (arith, h.counts x, e x);
  once = λ x l. h.once x (omega (arith, l, e x));
  blocks = λ x l. h.blocks x (omega (arith, l, e x));
  more = omega (arith, h.more, f);
}

apart_of : (c r t : Bool) → not (c && (r || t)) ≡ true → c ≡ true → (r ≡ false) × (t ≡ false)
apart_of true true t e f = absurd (let q : false ≡ true = e in cc)
apart_of true false true e f = absurd (let q : false ≡ true = e in cc)
apart_of true false false e f = (refl, refl)
apart_of false r t e f = absurd (let q : false ≡ true = f in cc)

apart_is : (c r t : Bool) → (c ≡ true → (r ≡ false) × (t ≡ false)) → not (c && (r || t)) ≡ true
apart_is true r t h = let a = h refl in rw (a.0, a.1) refl
apart_is false r t h = refl

-- the meaning of the test of a colour
pub record Coloured (c : ℕ) (l t : Tree) : Type 0 where
  pub colour : c ≡ cond (nat_eq c 1) 1 0
  pub even : blacks l ≡ blacks t
  pub apart : nat_eq c 1 ≡ true → (is_red l ≡ false) × (is_red t ≡ false)

left_of : (a b : Bool) → (a && b) ≡ true → a ≡ true
left_of true b e = refl
left_of false b e = e

right_of : (a b : Bool) → (a && b) ≡ true → b ≡ true
right_of true b e = e
right_of false b e = absurd (let q : false ≡ true = e in cc)

pub coloured : (c : ℕ) (l t : Tree) → is_coloured c l t ≡ true → Coloured c l t
coloured c l t e =
    let e0 : nat_le c 1 ≡ true = left_of _ _ e in
    let e1 = right_of (nat_le c 1) _ e in
    let e2 : not (nat_eq c 1 && (is_red l || is_red t)) ≡ true = left_of _ _ e1 in
    let e3 : nat_eq (blacks l) (blacks t) ≡ true = right_of (not (nat_eq c 1 && (is_red l || is_red t))) _ e1 in
    let few : c ≤ 1 = grind (arith, nat_tests) in
    record {
      colour = grind (arith, nat_tests);
      even = grind (arith, nat_tests);
      apart = apart_of _ _ _ e2;
    }

pub coloured_test : (c : ℕ) (l t : Tree) → Coloured c l t → is_coloured c l t ≡ true
coloured_test c l t h =
    let k = h.colour in
    let few : c ≤ 1 = grind (arith, nat_tests) in
    let e0 : nat_le c 1 ≡ true = grind (arith, nat_tests) in
    let same = h.even in
    let e3 : nat_eq (blacks l) (blacks t) ≡ true = grind (arith, nat_tests) in
    let e2 : not (nat_eq c 1 && (is_red l || is_red t)) ≡ true = apart_is _ _ _ h.apart in
    rw (e0, e2, e3) refl
