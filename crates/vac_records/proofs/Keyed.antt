-- Entries that stand in rows: g gives each row its entry, and keys of rows are in the order of the
-- entries' keys.
use Rattle.std.proofs.Common.{◌≡◌, ◌≢◌, ◌⊎◌, inl, inr, ℕ, ◌+◌, ◌<◌, ◌≤◌, Bool, cond, not, nat_eq, nat_lt, List, [], ◌∷◌}
use Rattle.std.proofs.Common.{map, Option, Some, None, true, false, refl, sym, ap, ◌∙◌, subst, arith}
use Rattle.std.specs.declared.cmp.Ordering.{Ordering}
use Rattle.std.specs.declared.cmp.Ordering.TheVariants.{Less, Equal, Greater}
use Rattle.std.specs.Ordering.{nat_cmp, eq_by_cmp, is_eq}
use Rattle.std.specs.Cmp.{IsTotalOrder, nat_cmp_is, alike_right, eq_by_cmp_equiv}
use Rattle.std.specs.FinMap.{FinMap, IsAntisymmetric, entries, entries_sorted, get, remove, get-entries, get-remove}
use Rattle.std.specs.FinMap.{find, put}
use Rattle.std.specs.FinMap.Entries.{where_key, is_sorted-where_key, find-where_key, same_entries}
use Rattle.std.proofs.lemmas.Bool.Decides.{nat_tests}
use Rattle.std.proofs.lemmas.Bool.{cases_lt}
use Rattle.tx_memory.specs.Seen.{same_or}
use Rattle.tx_alloc.specs.Rows.{Rows, times, put_row, cut_row, block_at, IsFrom}

-- a row of this key and block is there
abbrev pub HasRow : ℕ → ℕ → Rows → Type 0
HasRow k a [] = ⊥
HasRow k a (r ∷ rs) = ((r.0 ≡ k) × (r.1 ≡ a)) ⊎ HasRow k a rs

pub row_times : (k a : ℕ) (rs : Rows) → HasRow k a rs → 0 < times a rs
row_times k a [] h = absurd h
row_times k a (r ∷ rs) h = elim h [
  | inl e ↦ (let t : nat_eq r.1 a ≡ true = (let q = e.1 in grind (arith, nat_tests)) in
      omega (arith, ap (λ (b : Bool). cond {A = ℕ} b 1 0) t))
  | inr later ↦ omega (arith, row_times k a rs later)
]

pub rises_above : (lo k a : ℕ) (rs : Rows) → IsFrom lo rs → HasRow k a rs → lo ≤ k
rises_above lo k a [] r h = absurd h
rises_above lo k a (x ∷ rs) r h = elim h [
  | inl e ↦ omega (arith, r.0, e.0)
  | inr later ↦ omega (arith, r.0, rises_above (x.0 + 1) k a rs r.1 later)
]

pub row_at : (key b : ℕ) (rs : Rows) → block_at rs key ≡ b → b ≢ 0 → HasRow key b rs
row_at key b [] e some = absurd (some (sym e))
row_at key b (r ∷ rs) e some = elim (same_or r.0 key) [
  | inl same ↦ (let t : nat_eq r.0 key ≡ true = grind (arith, nat_tests) in inl (same, rw t at e))
  | inr other ↦ (let t : nat_eq r.0 key ≡ false = grind (arith, nat_tests) in inr (row_at key b rs (rw t at e) some))
]

cmp_less : (a b : ℕ) → a < b → nat_cmp a b ≡ Less
cmp_less a b l = sym (nat_cmp_is a b Less l)

cmp_same : (a b : ℕ) → a ≡ b → nat_cmp a b ≡ Equal
cmp_same a b l = sym (nat_cmp_is a b Equal l)

cmp_above : (a b : ℕ) → b < a → nat_cmp a b ≡ Greater
cmp_above a b l = sym (nat_cmp_is a b Greater l)

not_eq : (a b : ℕ) → a ≢ b → is_eq (nat_cmp a b) ≡ false
not_eq a b ne = elim (cases_lt a b) [
  | inl below ↦ rw (cmp_less a b below) refl
  | inr above ↦ rw (cmp_above a b (omega arith)) refl
]

turned : {A : Type 0} (b : Bool) (x y : A) → cond (not b) x y ≡ cond b y x
turned true x y = refl
turned false x y = refl

-- the entries without a key
pub entries_remove : {K X : Type 0} {R : K → K → Ordering} → IsTotalOrder R → IsAntisymmetric R →
    (m : FinMap R X) (k : K) → entries (remove m k) ≡ where_key R (λ x. not (eq_by_cmp R k x)) (entries m)
entries_remove {K} {X} {R} o anti m k =
    same_entries R o anti (entries (remove m k)) (where_key R (λ x. not (eq_by_cmp R k x)) (entries m))
    (entries_sorted (remove m k)) (is_sorted-where_key R (λ x. not (eq_by_cmp R k x)) (entries m)
    (entries_sorted m))
    (λ q.
    sym (get-entries (remove m k) q) ∙ get-remove o m k q
    ∙ ap (λ (b : Bool). cond {A = Option X} b None (get m q)) (sym ((eq_by_cmp_equiv o).symm k q))
    ∙ sym (turned (eq_by_cmp R k q) (get m q) None)
    ∙ ap (λ (z : Option X). cond (not (eq_by_cmp R k q)) z None) (get-entries m q)
    ∙ sym (find-where_key R (λ x. not (eq_by_cmp R k x)) q (λ x t. ap (λ (r : Ordering). not (is_eq r))
    (sym (alike_right o q x k t))) (entries m)))

-- what rows give is the same where g and g' are
pub map_same : {A : Type 0} (g g' : ℕ × ℕ → A) (rs : Rows) → ((k a : ℕ) → HasRow k a rs → g' (k, a) ≡ g (k, a)) →
    map g' rs ≡ map g rs
map_same g g' [] same = refl
map_same g g' (r ∷ rs) same =
    let first = same r.0 r.1 (inl (refl, refl)) in
    let rest = map_same g g' rs (λ k a i. same k a (inr i)) in
    λ i. first i ∷ rest i

-- rows of two keys with one block
pub two_rows : (k k' a : ℕ) (rs : Rows) → HasRow k a rs → HasRow k' a rs → k ≢ k' → 2 ≤ times a rs
two_rows k k' a [] h g ne = absurd h
two_rows k k' a (r ∷ rs) h g ne = elim h [
  | inl e ↦ elim g [
    | inl f ↦ absurd (ne (sym e.0 ∙ f.0))
    | inr later ↦ (let t : nat_eq r.1 a ≡ true = (let q = e.1 in grind (arith, nat_tests)) in
        omega (arith, ap (λ (b : Bool). cond {A = ℕ} b 1 0) t, row_times k' a rs later))
  ]
  | inr later ↦ elim g [
    | inl f ↦ (let t : nat_eq r.1 a ≡ true = (let q = f.1 in grind (arith, nat_tests)) in
        omega (arith, ap (λ (b : Bool). cond {A = ℕ} b 1 0) t, row_times k a rs later))
    | inr other ↦ omega (arith, two_rows k k' a rs later other ne)
  ]
]

module _ {K X : Type 0} (R : K → K → Ordering) (q : K) (key : ℕ) where
  -- the key compares to the rows' entries as the number to the rows
  abbrev pub Matches : (ℕ × ℕ → K × X) → Rows → Type 0
  Matches g rs = (k a : ℕ) → HasRow k a rs → R q (g (k, a)).0 ≡ nat_cmp key k

  matches_first : (g : ℕ × ℕ → K × X) (r : ℕ × ℕ) (rs : Rows) → Matches g (r ∷ rs) → R q (g r).0 ≡ nat_cmp key r.0
  matches_first g r rs h = h r.0 r.1 (inl (refl, refl))

  pub find_absent : (g : ℕ × ℕ → K × X) (rs : Rows) → Matches g rs → ((k a : ℕ) → HasRow k a rs → a ≢ 0) →
      block_at rs key ≡ 0 → find R q (map g rs) ≡ None
  find_absent g [] h some e = refl
  find_absent g (r ∷ rs) h some e = elim (same_or r.0 key) [
    | inl same ↦ absurd (some r.0 r.1 (inl (refl, refl)) (let t : nat_eq r.0 key ≡ true = grind (arith, nat_tests) in
        rw t at e))
    | inr other ↦ (
        let t : nat_eq r.0 key ≡ false = grind (arith, nat_tests) in
        let c : eq_by_cmp R q (g r).0 ≡ false = ap is_eq (matches_first g r rs h) ∙
        not_eq key r.0 (λ z. other (sym z)) in
        rw c (find_absent g rs (λ k a i. h k a (inr i)) (λ k a i. some k a (inr i)) (rw t at e)))
  ]

  pub find_present : (g : ℕ × ℕ → K × X) (b : ℕ) (rs : Rows) → Matches g rs → block_at rs key ≡ b → b ≢ 0 →
      find R q (map g rs) ≡ Some (g (key, b)).1
  find_present g b [] h e some = absurd (some (sym e))
  find_present g b (r ∷ rs) h e some = elim (same_or r.0 key) [
    | inl same ↦ (
        let t : nat_eq r.0 key ≡ true = grind (arith, nat_tests) in
        let c : eq_by_cmp R q (g r).0 ≡ true = ap is_eq (matches_first g r rs h ∙ cmp_same key r.0 (sym same)) in
        let at : r.1 ≡ b = rw t at e in
        let is : g r ≡ g (key, b) = (λ i. g (same i, at i)) in
        rw c (ap (λ (z : K × X). Some z.1) is))
    | inr other ↦ (
        let t : nat_eq r.0 key ≡ false = grind (arith, nat_tests) in
        let c : eq_by_cmp R q (g r).0 ≡ false = ap is_eq (matches_first g r rs h) ∙
        not_eq key r.0 (λ z. other (sym z)) in
        rw c (find_present g b rs (λ k a i. h k a (inr i)) (rw t at e) some))
  ]

  -- a new row is a new entry
  pub put_absent : (g : ℕ × ℕ → K × X) (v : X) (lo b : ℕ) (rs : Rows) → IsFrom lo rs → Matches g rs →
      ((k a : ℕ) → HasRow k a rs → a ≢ 0) → block_at rs key ≡ 0 → g (key, b) ≡ (q, v) →
      put R q v (map g rs) ≡ map g (put_row rs key b)
  put_absent g v lo b [] r h some e is = ap (λ (z : K × X). z ∷ []) (sym is)
  put_absent g v lo b (x ∷ rs) r h some e is = elim (same_or x.0 key) [
    | inl same ↦ absurd (some x.0 x.1 (inl (refl, refl)) (let t : nat_eq x.0 key ≡ true = grind (arith, nat_tests) in
        rw t at e))
    | inr other ↦ elim (cases_lt x.0 key) [
      | inl below ↦ (
          let t : nat_eq x.0 key ≡ false = grind (arith, nat_tests) in
          let u : nat_lt x.0 key ≡ true = grind (arith, nat_tests) in
          let c : R q (g x).0 ≡ Greater = matches_first g x rs h ∙ cmp_above key x.0 below in
          rw (c, u) (ap (λ (z : List (K × X)). g x ∷ z) (put_absent g v (x.0 + 1) b rs r.1 (λ k a i. h k a (inr i))
          (λ k a i. some k a (inr i)) (rw t at e) is)))
      | inr above ↦ (
          let u : nat_lt x.0 key ≡ false = grind (arith, nat_tests) in
          let c : R q (g x).0 ≡ Less = matches_first g x rs h ∙ cmp_less key x.0 (omega arith) in
          rw (c, u) (ap (λ (z : K × X). z ∷ (g x ∷ map g rs)) (sym is)))
    ]
  ]

  -- the entry of a row that is there gets another value
  pub put_present : (g g' : ℕ × ℕ → K × X) (v : X) (lo b : ℕ) (rs : Rows) → IsFrom lo rs → Matches g rs →
      block_at rs key ≡ b → b ≢ 0 → g' (key, b) ≡ ((g (key, b)).0, v) →
      ((k a : ℕ) → HasRow k a rs → k ≢ key → g' (k, a) ≡ g (k, a)) → put R q v (map g rs) ≡ map g' rs
  put_present g g' v lo b [] r h e some is same = absurd (some (sym e))
  put_present g g' v lo b (x ∷ rs) r h e some is same = elim (same_or x.0 key) [
    | inl here ↦ (
        let t : nat_eq x.0 key ≡ true = grind (arith, nat_tests) in
        let c : R q (g x).0 ≡ Equal = matches_first g x rs h ∙ cmp_same key x.0 (sym here) in
        let at : x.1 ≡ b = rw t at e in
        let first : ((g x).0, v) ≡ g' x = sym (subst (λ (z : ℕ × ℕ). g' z ≡ ((g z).0, v))
        (λ i. (sym here i, sym at i)) is) in
        let rest : map g' rs ≡ map g rs = map_same g g' rs (λ k a i. same k a (inr i)
        (λ z. absurd (omega (arith, rises_above (x.0 + 1) k a rs r.1 i)))) in
        rw c (λ i. first i ∷ sym rest i))
    | inr other ↦ (
        let t : nat_eq x.0 key ≡ false = grind (arith, nat_tests) in
        let e' : block_at rs key ≡ b = rw t at e in
        let first : g x ≡ g' x = sym (same x.0 x.1 (inl (refl, refl)) other) in
        elim (cases_lt x.0 key) [
          | inl below ↦ (
              let c : R q (g x).0 ≡ Greater = matches_first g x rs h ∙ cmp_above key x.0 below in
              let rest = put_present g g' v (x.0 + 1) b rs r.1 (λ k a i. h k a (inr i)) e' some is
              (λ k a i. same k a (inr i)) in
              rw c (λ i. first i ∷ rest i))
          | inr above ↦ absurd (omega (arith, rises_above (x.0 + 1) key b rs r.1 (row_at key b rs e' some)))
        ])
  ]

  keep_all : (g : ℕ × ℕ → K × X) (lo : ℕ) (rs : Rows) → IsFrom lo rs → Matches g rs → key < lo →
      where_key R (λ x. not (eq_by_cmp R q x)) (map g rs) ≡ map g rs
  keep_all g lo [] r h l = refl
  keep_all g lo (x ∷ rs) r h l =
      let c : eq_by_cmp R q (g x).0 ≡ false = ap is_eq (matches_first g x rs h) ∙
      not_eq key x.0 (λ z. absurd (omega (arith, r.0))) in
      rw c (ap (λ (z : List (K × X)). g x ∷ z) (keep_all g (x.0 + 1) rs r.1 (λ k a i. h k a (inr i))
      (omega (arith, r.0))))

  -- the entries without the key are those of the rows without it
  pub cut_present : (g : ℕ × ℕ → K × X) (lo : ℕ) (rs : Rows) → IsFrom lo rs → Matches g rs →
      where_key R (λ x. not (eq_by_cmp R q x)) (map g rs) ≡ map g (cut_row rs key)
  cut_present g lo [] r h = refl
  cut_present g lo (x ∷ rs) r h = elim (same_or x.0 key) [
    | inl here ↦ (
        let t : nat_eq x.0 key ≡ true = grind (arith, nat_tests) in
        let c : eq_by_cmp R q (g x).0 ≡ true = ap is_eq (matches_first g x rs h ∙ cmp_same key x.0 (sym here)) in
        rw (c, t) (keep_all g (x.0 + 1) rs r.1 (λ k a i. h k a (inr i)) (omega arith)))
    | inr other ↦ (
        let t : nat_eq x.0 key ≡ false = grind (arith, nat_tests) in
        let c : eq_by_cmp R q (g x).0 ≡ false = ap is_eq (matches_first g x rs h) ∙
        not_eq key x.0 (λ z. other (sym z)) in
        rw (c, t) (ap (λ (z : List (K × X)). g x ∷ z) (cut_present g (x.0 + 1) rs r.1 (λ k a i. h k a (inr i)))))
  ]
