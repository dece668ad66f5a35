-- Orders that keep each client's calls, permutations, and calls that a map gives.
use Rattle.std.proofs.Common.{◌≡◌, ◌≢◌, ◌⊎◌, ℕ, ◌+◌, ◌≤◌, ◌<◌, ◌==◌, Bool, true, false, cond, List, [], ◌∷◌, ◌++◌}
use Rattle.std.proofs.Common.{length, map, refl, sym, ap, ◌∙◌, subst, inl, inr, arith}
use Rattle.std.specs.Prelude.{All, IsPermutation, set, get_or}
use Rattle.std.specs.List.{swap, sum_by}
use Rattle.std.specs.List.Sorted.{apply_swaps, SwapsInRange}
use Rattle.std.proofs.lemmas.Bool.Decides.{nat_tests}
use Rattle.std.proofs.lemmas.List.{length-map, map-set, get_or-map}
use Rattle.std.proofs.lemmas.List.Sums.{sum_by-cons}
use Rattle.std.proofs.lemmas.List.Sorted.{IsPermutation-refl, IsPermutation-cons, IsPermutation-trans}
use Rattle.std.proofs.lemmas.List.Sorted.{IsPermutation-sym, IsPermutation-middle, sum_by-IsPermutation}
use Rattle.std.proofs.lemmas.List.Sorted.{All-permutation, length_permutation}
use Rattle.std.proofs.lemmas.List.Elements.{All-cons, All-head, All-tail, All-nil}
use Rattle.judge_object.specs.Call.{Call}
use Rattle.judge_object.specs.Orders.{of_client, IsMerge}
use Rattle.judge_object.specs.Relaxed.{OnlyLastIsPending}

abbrev pub Test : ℕ → ℕ → Type 0
Test a b = ((a == b) ≡ true × (a ≡ b)) ⊎ ((a == b) ≡ false × (a ≢ b))

false_true : false ≡ true → ⊥
false_true e = cc

pub test : (a b : ℕ) → Test a b
test a b = grind (arith, nat_tests, false_true)

pub self : (a : ℕ) → (a == a) ≡ true
self a = grind (arith, nat_tests)

pub cons_same : {X : Type 0} (x y : X) (xs ys : List X) → x ∷ xs ≡ y ∷ ys → (x ≡ y) × (xs ≡ ys)
cons_same x y xs ys e = (cc, cc)

pub none_cons : {X : Type 0} (x : X) (xs : List X) → ◌≡◌ {A = List X} [] (x ∷ xs) → ⊥
none_cons x xs e = cc

-- ---- elements that a map gives

module _ {P Y : Type 0} (f : P → Y) where
  -- a list that a map gives, in two parts
  pub record Parted (ps : List P) (xs ys : List Y) : Type 0 where
    pub front : List P
    pub back : List P
    pub whole : ps ≡ front ++ back
    pub front_is : map f front ≡ xs
    pub back_is : map f back ≡ ys

  pub parted : (ps : List P) (xs ys : List Y) → map f ps ≡ xs ++ ys → Parted ps xs ys
  parted ps [] ys e = record { front = []; back = ps; whole = refl; front_is = refl; back_is = e }
  parted [] (x ∷ xs) ys e = absurd (none_cons x (xs ++ ys) e)
  parted (p ∷ ps) (x ∷ xs) ys e =
      let same = cons_same (f p) x (map f ps) (xs ++ ys) e in
      let more = parted ps xs ys same.1 in
      record {
        front = p ∷ more.front;
        back = more.back;
        whole = ap (λ l. p ∷ l) more.whole;
        front_is = ap (λ y. y ∷ map f more.front) same.0 ∙ ap (λ l. x ∷ l) more.front_is;
        back_is = more.back_is;
      }

  -- a permutation of what a map gives is what the map gives of a permutation
  pub record Lifted (ps : List P) (ys : List Y) : Type 0 where
    pub from : List P
    pub moved : IsPermutation ps from
    pub gives : map f from ≡ ys

-- ---- orders that keep each client's calls

module _ {O : Type 0} where
  -- the calls without the first one of a client
  pub record Without (ys : List (Call O)) (k : ℕ) (x : Call O) (tail : List (Call O)) : Type 0 where
    pub rest : List (Call O)
    pub moved : IsPermutation (x ∷ rest) ys
    pub own : of_client k rest ≡ tail
    pub others : (c : ℕ) → c ≢ k → of_client c rest ≡ of_client c ys

  pub without : (ys : List (Call O)) (k : ℕ) (x : Call O) (tail : List (Call O)) → of_client k ys ≡ x ∷ tail →
      Without ys k x tail
  without [] k x tail e = absurd (none_cons x tail e)
  without (y ∷ ys) k x tail e =
      elim (test y.client k) [
        | inl t ↦
            let same = cons_same y x (of_client k ys) tail (rw t.0 at e) in
            record {
              rest = ys;
              moved = subst (λ c. IsPermutation (x ∷ ys) (c ∷ ys)) (sym same.0) (IsPermutation-refl (x ∷ ys));
              own = same.1;
              others = λ c n. other c n t.1;
            }
        | inr t ↦
            let more = without ys k x tail (rw t.0 at e) in
            record {
              rest = y ∷ more.rest;
              moved = IsPermutation-trans (x ∷ y ∷ more.rest) (y ∷ x ∷ more.rest) (y ∷ ys)
                  (IsPermutation-sym (y ∷ x ∷ more.rest) (x ∷ y ∷ more.rest)
                  (IsPermutation-middle (y ∷ []) x more.rest))
                  (IsPermutation-cons y (x ∷ more.rest) ys more.moved);
              own = rw t.0 more.own;
              others = λ c n. ap (λ l. cond (y.client == c) (y ∷ l) l) (more.others c n);
            }
      ]
    where
      other : (c : ℕ) → c ≢ k → y.client ≡ k → of_client c ys ≡ of_client c (y ∷ ys)
      other c n e =
          elim (test y.client c) [
            | inl t ↦ absurd (n (sym t.1 ∙ e))
            | inr t ↦ rw t.0 refl
          ]

  -- an order that keeps each client's calls, without a first call
  pub merge_rest : (x : Call O) (xs rest ys : List (Call O)) → of_client x.client rest ≡ of_client x.client xs →
      ((c : ℕ) → c ≢ x.client → of_client c rest ≡ of_client c ys) → IsMerge (x ∷ xs) ys → IsMerge xs rest
  merge_rest x xs rest ys own others m c = grind (arith, nat_tests, test x.client c)

  pub own_head : (x : Call O) (xs : List (Call O)) → of_client x.client (x ∷ xs) ≡ x ∷ of_client x.client xs
  own_head x xs = rw (self x.client) refl

  none_left : (ys : List (Call O)) → IsMerge [] ys → ys ≡ []
  none_left [] m = refl
  none_left (y ∷ ys) m = absurd (none_cons y (of_client y.client ys) (sym (m y.client) ∙ own_head y ys))

  -- such an order has all calls
  pub merge_moves : (xs ys : List (Call O)) → IsMerge xs ys → IsPermutation xs ys
  merge_moves [] ys m = subst (IsPermutation []) (sym (none_left ys m)) (IsPermutation-refl [])
  merge_moves (x ∷ xs) ys m =
      let out = without ys x.client x (of_client x.client xs) (m x.client ∙ own_head x xs) in
      IsPermutation-trans (x ∷ xs) (x ∷ out.rest) ys
      (IsPermutation-cons x xs out.rest (merge_moves xs out.rest (merge_rest x xs out.rest ys out.own out.others m)))
      out.moved

  -- number of calls of a client
  abbrev pub count : ℕ → List (Call O) → ℕ
  count k xs = sum_by (λ c. cond (c.client == k) 1 0) xs

  -- no two calls are of one client
  abbrev pub AreApart : List (Call O) → Type 0
  AreApart xs = (k : ℕ) → count k xs ≤ 1

  pub count_cons : (k : ℕ) (x : Call O) (xs : List (Call O)) →
      count k (x ∷ xs) ≡ cond {A = ℕ} (x.client == k) 1 0 + count k xs
  count_cons k x xs = sum_by-cons (λ c. cond (c.client == k) 1 0) x xs

  pub count_own : (x : Call O) (xs : List (Call O)) → count x.client (x ∷ xs) ≡ 1 + count x.client xs
  count_own x xs = grind (arith, nat_tests, self x.client, count_cons x.client x xs)

  pub count_less : (k : ℕ) (x : Call O) (xs : List (Call O)) → count k xs ≤ count k (x ∷ xs)
  count_less k x xs = let all = count_cons k x xs in omega arith

  pub count_front : (k : ℕ) (xs ys : List (Call O)) → count k xs ≤ count k (xs ++ ys)
  count_front k [] ys = omega arith
  count_front k (x ∷ xs) ys = grind (
    arith,
    nat_tests,
    count_front k xs ys,
    count_cons k x xs,
    count_cons k x (xs ++ ys),
  )

  -- calls of no client of these
  no_call : (k : ℕ) (xs : List (Call O)) → count k xs ≡ 0 → of_client k xs ≡ []
  no_call k [] e = refl
  no_call k (x ∷ xs) e = grind (arith, nat_tests, test x.client k, count_cons k x xs, no_call k xs, count_less k x xs)

  pub moved_apart : (xs ys : List (Call O)) → IsPermutation xs ys → AreApart xs → AreApart ys
  moved_apart xs ys p d k =
      subst (λ n. n ≤ 1) (sym (sum_by-IsPermutation (λ c. cond (c.client == k) 1 0) xs ys p)) (d k)

  -- no call is of the client, or exactly one
  pub record Only (k : ℕ) (xs : List (Call O)) : Type 0 where
    pub call : Call O
    pub each : All (λ c. c.client ≡ k → c ≡ call) xs
    pub once : count k xs ≡ 1

  none_of : (k : ℕ) (call : Call O) (xs : List (Call O)) → count k xs ≡ 0 → All (λ c. c.client ≡ k → c ≡ call) xs
  none_of k call [] e = All-nil (λ c. c.client ≡ k → c ≡ call)
  none_of k call (x ∷ xs) e = grind (arith, nat_tests, none_of k call xs, count_less k x xs, count_cons k x xs)

  only : (k : ℕ) (xs : List (Call O)) → count k xs ≤ 1 → (count k xs ≡ 0) ⊎ Only k xs
  only k [] d = inl refl
  only k (x ∷ xs) d =
      elim (test x.client k) [
        | inl t ↦
            let one : cond {A = ℕ} (x.client == k) 1 0 ≡ 1 = ap (λ (b : Bool). cond {A = ℕ} b 1 0) t.0 in
            let all = count_cons k x xs in
            let none : count k xs ≡ 0 = omega arith in
            inr (record {
              call = x;
              each = All-cons (λ c. c.client ≡ k → c ≡ x) x xs (λ s. refl) (none_of k x xs none);
              once = omega arith;
            })
        | inr t ↦
            let zero : cond {A = ℕ} (x.client == k) 1 0 ≡ 0 = ap (λ (b : Bool). cond {A = ℕ} b 1 0) t.0 in
            let all = count_cons k x xs in
            elim (only k xs (omega arith)) [
              | inl e ↦ inl (omega arith)
              | inr o ↦ inr (record {
                call = o.call;
                each = All-cons (λ c. c.client ≡ k → c ≡ o.call) x xs (λ s. absurd (t.1 s)) o.each;
                once = (let once = o.once in omega arith);
              })
            ]
      ]

  one_call : (k : ℕ) (call : Call O) (ys : List (Call O)) → All (λ c. c.client ≡ k → c ≡ call) ys →
      count k ys ≡ 1 → of_client k ys ≡ call ∷ []
  one_call k call [] h e = absurd (omega arith)
  one_call k call (y ∷ ys) h e =
      elim (test y.client k) [
        | inl t ↦
            let one : cond {A = ℕ} (y.client == k) 1 0 ≡ 1 = ap (λ (b : Bool). cond {A = ℕ} b 1 0) t.0 in
            let all = count_cons k y ys in
            let own = All-head (λ c. c.client ≡ k → c ≡ call) y ys h t.1 in
            rw t.0 (ap (λ c. c ∷ of_client k ys) own ∙ ap (λ l. call ∷ l) (no_call k ys (omega arith)))
        | inr t ↦
            let zero : cond {A = ℕ} (y.client == k) 1 0 ≡ 0 = ap (λ (b : Bool). cond {A = ℕ} b 1 0) t.0 in
            let all = count_cons k y ys in
            rw t.0 (one_call k call ys (All-tail (λ c. c.client ≡ k → c ≡ call) y ys h) (omega arith))
      ]

  -- a client of at most one call has no call before its last
  pub only_one : (k : ℕ) (xs : List (Call O)) → count k xs ≤ 1 → OnlyLastIsPending (of_client k xs)
  only_one k xs d =
      elim (only k xs d) [
        | inl e ↦ subst OnlyLastIsPending (sym (no_call k xs e)) tt
        | inr o ↦ subst OnlyLastIsPending (sym (one_call k o.call xs o.each o.once)) tt
      ]

  -- a permutation of calls of different clients keeps each client's calls
  pub moved_merges : (xs ys : List (Call O)) → IsPermutation xs ys → AreApart xs → IsMerge xs ys
  moved_merges xs ys p d k =
      let same : count k ys ≡ count k xs = sum_by-IsPermutation (λ c. cond (c.client == k) 1 0) xs ys p in
      elim (only k xs (d k)) [
        | inl e ↦ no_call k ys (same ∙ e) ∙ sym (no_call k xs e)
        | inr o ↦
            one_call k o.call ys (All-permutation (λ c. c.client ≡ k → c ≡ o.call) xs ys p o.each) (same ∙ o.once)
            ∙ sym (one_call k o.call xs o.each o.once)
      ]

-- ---- permutations of what a map gives

module _ {P Y : Type 0} (f : P → Y) where
  swapped : (l : List P) (i j : ℕ) → i < length l → j < length l → map f (swap l i j) ≡ swap (map f l) i j
  swapped [] i j p q = refl
  swapped (d ∷ l) i j p q =
      map-set f (set (d ∷ l) i (get_or (d ∷ l) j d)) j (get_or (d ∷ l) i d)
      ∙ ap (λ s. set s j (f (get_or (d ∷ l) i d))) (map-set f (d ∷ l) i (get_or (d ∷ l) j d))
      ∙ ap (λ y. set (set (map f (d ∷ l)) i y) j (f (get_or (d ∷ l) i d))) (sym (get_or-map f (d ∷ l) j d (f d) q))
      ∙ ap (λ y. set (set (map f (d ∷ l)) i (get_or (map f (d ∷ l)) j (f d))) j y)
      (sym (get_or-map f (d ∷ l) i d (f d) p))

  long : (l : List P) (moves : List (ℕ × ℕ)) → SwapsInRange (length l) moves →
      length (apply_swaps l moves) ≡ length l
  long l moves h = length_permutation l (apply_swaps l moves) (record { moves = moves; below = h; is = refl })

  swaps : (l : List P) (moves : List (ℕ × ℕ)) → SwapsInRange (length l) moves →
      map f (apply_swaps l moves) ≡ apply_swaps (map f l) moves
  swaps l [] h = refl
  swaps l (m ∷ moves) h =
      let same = long l moves h.2 in
      swapped (apply_swaps l moves) m.0 m.1 (subst (λ n. m.0 < n) (sym same) h.0)
      (subst (λ n. m.1 < n) (sym same) h.1)
      ∙ ap (λ t. swap t m.0 m.1) (swaps l moves h.2)

  pub lifted : (ps : List P) (ys : List Y) → IsPermutation (map f ps) ys → Lifted f ps ys
  lifted ps ys p = grind (arith, nat_tests, length-map, swaps)
