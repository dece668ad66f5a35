-- Lists whose keys rise, and what stands in them.
use Rattle.std.proofs.Common.{◌≡◌, ◌≢◌, ◌⊎◌, inl, inr, ℕ, ◌<◌, ◌≤◌, Bool, true, false, cond, ◌&&◌, T, Some, List, []}
use Rattle.std.proofs.Common.{◌∷◌, map, filter, length, refl, sym, ap, ◌∙◌, arith, subst}
use Rattle.std.specs.FinMap.{FinMap, get, entries, entries_sorted, get-entries, find, is_sorted}
use Rattle.std.specs.FinMap.Entries.{below_all}
use Rattle.std.specs.Ordering.{nat_cmp, eq_by_cmp, is_lt}
use Rattle.std.proofs.lemmas.Bool.Decides.{nat_tests}
use Rattle.stm_logs.proofs.NodeLemmas.{same_or}
use Rattle.stm_logs.proofs.TableLemmas.{some_none, both_bool, true_false}

-- x stands in the list
abbrev pub In : {X : Type 0} → X → List X → Type 0
In x [] = ⊥
In x (y ∷ ys) = (x ≡ y) ⊎ In x ys

-- the keys strictly rise
abbrev pub Rising : {X : Type 0} → (X → ℕ) → List X → Type 0
Rising key [] = Unit {0}
Rising {X} key (x ∷ xs) = ((y : X) → In y xs → key x < key y) × Rising key xs

both : (a b : Bool) → T (a && b) → T a × T b
both true b p = (tt, p)
both false b p = absurd p

is_true : (b : Bool) → T b → b ≡ true
is_true true t = refl
is_true false t = absurd t

less_of : (x y : ℕ) → T (is_lt (nat_cmp x y)) → x < y
less_of x y t = grind (arith, nat_tests, is_true _ t)

below : {X : Type 0} (x : ℕ) (es : List (ℕ × X)) → T (below_all nat_cmp x es) → (y : ℕ × X) → In y es → x < y.0
below x [] h y i = absurd i
below x (e ∷ es) h y (inl is) =
    let l = less_of x e.0 (both _ _ h).0 in
    let k : y.0 ≡ e.0 = ap (λ p. p.0) is in
    omega (arith, l, k)
below x (e ∷ es) h y (inr i) = below x es (both _ _ h).1 y i

rising_sorted : {X : Type 0} (es : List (ℕ × X)) → T (is_sorted nat_cmp es) → Rising (λ p. p.0) es
rising_sorted [] h = tt
rising_sorted (e ∷ es) h = (below e.0 es (both _ _ h).0, rising_sorted es (both _ _ h).1)

pub rising_entries : {X : Type 0} (m : FinMap nat_cmp X) → Rising (λ p. p.0) (entries m)
rising_entries m = rising_sorted (entries m) (entries_sorted m)

same_key : (q k : ℕ) → q ≡ k → eq_by_cmp nat_cmp q k ≡ true
same_key q k e = grind (arith, nat_tests)

other_key : (q k : ℕ) → q ≢ k → eq_by_cmp nat_cmp q k ≡ false
other_key q k e = grind (arith, nat_tests)

pub find_in : {X : Type 0} (es : List (ℕ × X)) (q : ℕ) (v : X) → find nat_cmp q es ≡ Some v → In (q, v) es
find_in [] q v h = absurd (some_none v (sym h))
find_in (e ∷ es) q v h = elim (same_or q e.0) [
  | inl is ↦ (
      let t : find nat_cmp q (e ∷ es) ≡ Some e.1 = ap (λ b. cond b (Some e.1) (find nat_cmp q es))
      (same_key q e.0 is) in
      let value : Some v ≡ Some e.1 = sym h ∙ t in
      let v_is : v ≡ e.1 = cc in
      inl (λ i. (is i, v_is i)))
  | inr ne ↦ inr (find_in es q v (sym (ap (λ b. cond b (Some e.1) (find nat_cmp q es)) (other_key q e.0 ne)) ∙ h))
]

pub in_find : {X : Type 0} (es : List (ℕ × X)) (q : ℕ) (v : X) → Rising (λ p. p.0) es → In (q, v) es →
    find nat_cmp q es ≡ Some v
in_find [] q v r i = absurd i
in_find (e ∷ es) q v r (inl is) =
    ap (λ b. cond b (Some e.1) (find nat_cmp q es)) (same_key q e.0 (ap (λ p. p.0) is)) ∙ ap (λ p. Some p.1) (sym is)
in_find (e ∷ es) q v r (inr i) =
    let l = r.0 (q, v) i in
    ap (λ b. cond b (Some e.1) (find nat_cmp q es)) (other_key q e.0 (λ is. absurd (omega (arith, l, is)))) ∙
    in_find es q v r.1 i

-- some entry of a key that stands in the list is found
pub found_some : {X : Type 0} (es : List (ℕ × X)) (q : ℕ) (v : X) → In (q, v) es →
    (u : X) × (find nat_cmp q es ≡ Some u)
found_some [] q v i = absurd i
found_some (e ∷ es) q v i = elim (same_or q e.0) [
  | inl is ↦ (e.1, ap (λ b. cond b (Some e.1) (find nat_cmp q es)) (same_key q e.0 is))
  | inr ne ↦ (
      let rest : In (q, v) es = elim i [ inl is ↦ absurd (ne (ap (λ p. p.0) is)) | inr j ↦ j ] in
      let s = found_some es q v rest in
      (s.0, ap (λ b. cond b (Some e.1) (find nat_cmp q es)) (other_key q e.0 ne) ∙ s.1))
]

pub get_in : {X : Type 0} (m : FinMap nat_cmp X) (q : ℕ) (v : X) → get m q ≡ Some v → In (q, v) (entries m)
get_in m q v h = find_in (entries m) q v (sym (get-entries m q) ∙ h)

pub in_get : {X : Type 0} (m : FinMap nat_cmp X) (q : ℕ) (v : X) → In (q, v) (entries m) → get m q ≡ Some v
in_get m q v i = get-entries m q ∙ in_find (entries m) q v (rising_entries m) i

pub in_map : {X Y : Type 0} (f : X → Y) (xs : List X) (x : X) → In x xs → In (f x) (map f xs)
in_map f [] x i = absurd i
in_map f (y ∷ ys) x (inl is) = inl (ap f is)
in_map f (y ∷ ys) x (inr i) = inr (in_map f ys x i)

pub map_in : {X Y : Type 0} (f : X → Y) (xs : List X) (y : Y) → In y (map f xs) → (x : X) × (In x xs × (y ≡ f x))
map_in f [] y i = absurd i
map_in f (x ∷ xs) y (inl is) = (x, (inl refl, is))
map_in f (x ∷ xs) y (inr i) = let s = map_in f xs y i in (s.0, (inr s.1.0, s.1.1))

pub rising_map : {X Y : Type 0} (f : X → Y) (key : X → ℕ) (key' : Y → ℕ) → ((x : X) → key' (f x) ≡ key x) →
    (xs : List X) → Rising key xs → Rising key' (map f xs)
rising_map f key key' same [] r = tt
rising_map f key key' same (x ∷ xs) r = (
  (λ y i. let s = map_in f xs y i in let l = r.0 s.0 s.1.0 in omega (arith, l, same x, same s.0, ap key' s.1.1)),
  rising_map f key key' same xs r.1,
)

filter_yes : {X : Type 0} (test : X → Bool) (x : X) (xs : List X) → test x ≡ true →
    filter test (x ∷ xs) ≡ x ∷ filter test xs
filter_yes test x xs t = ap (λ b. cond b (x ∷ filter test xs) (filter test xs)) t

filter_no : {X : Type 0} (test : X → Bool) (x : X) (xs : List X) → test x ≡ false →
    filter test (x ∷ xs) ≡ filter test xs
filter_no test x xs t = ap (λ b. cond b (x ∷ filter test xs) (filter test xs)) t

pub filter_in : {X : Type 0} (test : X → Bool) (xs : List X) (y : X) → In y (filter test xs) → In y xs × (test y ≡ true)
filter_in test [] y i = absurd i
filter_in test (x ∷ xs) y i = elim (both_bool (test x)) [
  | inl t ↦ elim (subst (In y) (filter_yes test x xs t) i) [
    | inl is ↦ (inl is, ap test is ∙ t)
    | inr j ↦ (let s = filter_in test xs y j in (inr s.0, s.1))
  ]
  | inr f ↦ (let s = filter_in test xs y (subst (In y) (filter_no test x xs f) i) in (inr s.0, s.1))
]

pub in_filter : {X : Type 0} (test : X → Bool) (xs : List X) (y : X) → In y xs → test y ≡ true → In y (filter test xs)
in_filter test [] y i p = absurd i
in_filter test (x ∷ xs) y i p = elim (both_bool (test x)) [
  | inl t ↦ subst (In y) (sym (filter_yes test x xs t)) (elim i [
    | inl is ↦ inl is
    | inr j ↦
        inr (in_filter test xs y j p)
  ])
  | inr f ↦ subst (In y) (sym (filter_no test x xs f)) (elim i [
    | inl is ↦
        absurd (true_false (test y) p (ap test is ∙ f))
    | inr j ↦ in_filter test xs y j p
  ])
]

pub rising_filter : {X : Type 0} (key : X → ℕ) (test : X → Bool) (xs : List X) → Rising key xs →
    Rising key (filter test xs)
rising_filter key test [] r = tt
rising_filter key test (x ∷ xs) r = elim (both_bool (test x)) [
  | inl t ↦ subst (Rising key) (sym (filter_yes test x xs t)) (
    (λ y i. r.0 y (filter_in test xs y i).0),
    rising_filter key test xs r.1,
  )
  | inr f ↦ subst (Rising key) (sym (filter_no test x xs f)) (rising_filter key test xs r.1)
]

pub length_filter_le : {X : Type 0} (test : X → Bool) (xs : List X) → length (filter test xs) ≤ length xs
length_filter_le test [] = omega arith
length_filter_le test (x ∷ xs) =
    let rest = length_filter_le test xs in
    elim (both_bool (test x)) [
      | inl t ↦ omega (arith, rest, ap length (filter_yes test x xs t))
      | inr f ↦ omega (arith, rest, ap length (filter_no test x xs f))
    ]

-- two rising lists with the same members are the same
pub rising_same : {X : Type 0} (key : X → ℕ) (xs ys : List X) → Rising key xs → Rising key ys →
    ((q : X) → In q xs → In q ys) → ((q : X) → In q ys → In q xs) → xs ≡ ys
rising_same key [] [] r s f g = refl
rising_same key [] (y ∷ ys) r s f g = absurd (g y (inl refl))
rising_same key (x ∷ xs) [] r s f g = absurd (f x (inl refl))
rising_same key (x ∷ xs) (y ∷ ys) r s f g =
    let first : x ≡ y = elim (f x (inl refl)) [
      | inl is ↦ is
      | inr i ↦ elim (g y (inl refl)) [
        | inl is ↦ sym is
        | inr j ↦ (let a = s.0 x i in let b = r.0 y j in absurd (omega (arith, a, b)))
      ]
    ] in
    let rest : xs ≡ ys = rising_same key xs ys r.1 s.1
    (λ q i. elim (f q (inr i)) [
      | inl is ↦ (let a = r.0 q i in let same : key q ≡ key x =
          ap key is ∙ sym (ap key first) in absurd (omega (arith, a, same)))
      | inr j ↦ j
    ])
    (λ q i. elim (g q (inr i)) [
      | inl is ↦ (let a = s.0 q i in let same : key q ≡ key y = ap key is ∙ ap key first in
          absurd (omega (arith, a, same)))
      | inr j ↦ j
    ]) in
    λ i. first i ∷ rest i
