-- A stable sort by the end leaves each client's calls in their order.
use Rattle.std.proofs.Common.{◌≡◌, ◌⊎◌, ℕ, ◌<◌, ◌≤◌, ◌==◌, ◌&&◌, Bool, true, false, not, cond, List, [], ◌∷◌, filter}
use Rattle.std.proofs.Common.{refl, sym, ap, ◌∙◌, subst, inl, inr, arith, nat_lt}
use Rattle.std.specs.Prelude.{⊤}
use Rattle.std.proofs.lemmas.Bool.{cases_lt}
use Rattle.std.proofs.lemmas.Bool.Decides.{nat_tests}
use Rattle.judge_object.specs.declared.line.Line.{Line}
use Rattle.judge_object.specs.Orders.{of_client}
use Rattle.judge_search.specs.Walk.{InTurn}
use Rattle.judge_search.specs.Calls.{call_of, calls_of}
use Rattle.judge_search.proofs.Each.{Each, test}
use Rattle.judge_search.proofs.Sorted.{EachLine}

module _ {O : Type 0} where
  -- both lines end at once
  abbrev pub at_once : (Line O) → (Line O) → Bool
  at_once a b = not (nat_lt a.end b.end) && not (nat_lt b.end a.end)

  -- none of the lines ends before those in front of it
  abbrev pub Rises : List (Line O) → Type 0
  Rises [] = ⊤
  Rises (line ∷ lines) = EachLine (λ later. line.end ≤ later.end) lines × Rises lines

  once : (a b : Line O) → a.end ≡ b.end → at_once a b ≡ true
  once a b e = let x : nat_lt a.end b.end ≡ false = grind (arith, nat_tests) in let y : nat_lt b.end a.end ≡ false =
      grind (arith, nat_tests) in rw (x, y) refl

  not_once : (a b : Line O) → (a.end < b.end) ⊎ (b.end < a.end) → at_once a b ≡ false
  not_once a b (inl l) = let x : nat_lt a.end b.end ≡ true = grind (arith, nat_tests) in rw x refl
  not_once a b (inr l) =
      let x : nat_lt a.end b.end ≡ false = grind (arith, nat_tests) in
      let y : nat_lt b.end a.end ≡ true = grind (arith, nat_tests) in
      rw (x, y) refl

  -- none of later lines ends with an earlier one
  none_once : (a : Line O) (lines : List (Line O)) → EachLine (λ later. a.end < later.end) lines →
      filter (at_once a) lines ≡ []
  none_once a [] h = refl
  none_once a (b ∷ bs) h = ap (λ t. cond t (b ∷ filter (at_once a) bs) (filter (at_once a) bs)) (not_once a b (inl h.0))
      ∙
      none_once a bs h.1

  far : (a b : Line O) (lines : List (Line O)) → a.end < b.end → EachLine (λ later. b.end ≤ later.end) lines →
      EachLine (λ later. a.end < later.end) lines
  far a b [] l h = tt
  far a b (c ∷ cs) l h = ((let g : b.end ≤ c.end = h.0 in omega arith), far a b cs l h.1)

  own : (a : Line O) (lines : List (Line O)) → filter (at_once a) (a ∷ lines) ≡ a ∷ filter (at_once a) lines
  own a lines = ap (λ t. cond t (a ∷ filter (at_once a) lines) (filter (at_once a) lines)) (once a a refl)

  none_first : (a : Line O) (lines : List (Line O)) → ◌≡◌ {A = List (Line O)} [] (a ∷ lines) → ⊥
  none_first a lines e = cc

  head_of : (a b : Line O) (xs ys : List (Line O)) → a ∷ xs ≡ b ∷ ys → a ≡ b
  head_of a b xs ys e = cc

  tail_of : (a b : Line O) (xs ys : List (Line O)) → a ∷ xs ≡ b ∷ ys → xs ≡ ys
  tail_of a b xs ys e = cc

  strip : (z a : Line O) (xs ys : List (Line O)) → filter (at_once z) (a ∷ ys) ≡ filter (at_once z) (a ∷ xs) →
      filter (at_once z) ys ≡ filter (at_once z) xs
  strip z a xs ys h = go (at_once z a) h
    where
      go : (b : Bool) → cond b (a ∷ filter (at_once z) ys) (filter (at_once z) ys) ≡ cond b (a ∷ filter (at_once z) xs)
          (filter (at_once z) xs) → filter (at_once z) ys ≡ filter (at_once z) xs
      go true e = tail_of a a (filter (at_once z) ys) (filter (at_once z) xs) e
      go false e = e

  -- two lists that rise and agree on those that end at once are the same
  pub rises_same : (xs ys : List (Line O)) → Rises xs → Rises ys →
      ((z : Line O) → filter (at_once z) ys ≡ filter (at_once z) xs) → ys ≡ xs
  rises_same [] [] x y h = refl
  rises_same (a ∷ xs) [] x y h = absurd (none_first a (filter (at_once a) xs) (h a ∙ own a xs))
  rises_same [] (b ∷ ys) x y h = absurd (none_first b (filter (at_once b) ys) (sym (h b) ∙ own b ys))
  rises_same (a ∷ xs) (b ∷ ys) x y h =
      let one : b ≡ a = first (cases_lt a.end b.end) in
      ap (λ l. l ∷ ys) one ∙ ap (λ l. a ∷ l) (rises_same xs ys x.1 y.1
      (λ z. strip z a xs ys (subst (λ l. filter (at_once z) (l ∷ ys) ≡ filter (at_once z) (a ∷ xs)) one (h z))))
    where
      same : a.end ≡ b.end → b ≡ a
      same e =
          head_of b a (filter (at_once a) ys) (filter (at_once a) xs)
          (sym (ap (λ t. cond t (b ∷ filter (at_once a) ys) (filter (at_once a) ys)) (once a b e)) ∙ h a ∙ own a xs)

      second : b.end ≤ a.end → (b.end < a.end) ⊎ (a.end ≤ b.end) → b ≡ a
      second m (inl l) = absurd (none_first b (filter (at_once b) ys)
          (sym (none_once b (a ∷ xs) (l, far b a xs l x.0)) ∙
          sym (h b) ∙ own b ys))
      second m (inr l) = same (omega arith)

      first : (a.end < b.end) ⊎ (b.end ≤ a.end) → b ≡ a
      first (inl l) = absurd (none_first a (filter (at_once a) xs) (sym (none_once a (b ∷ ys) (l, far a b ys l y.0)) ∙
          h a ∙ own a xs))
      first (inr l) = second l (cases_lt b.end a.end)

  -- the lines of a client
  abbrev pub of : ℕ → List (Line O) → List (Line O)
  of k lines = filter (λ (line : Line O). line.client == k) lines

  of_calls : (k : ℕ) (lines : List (Line O)) → of_client k (calls_of lines) ≡ calls_of (of k lines)
  of_calls k [] = refl
  of_calls k (l ∷ ls) = go (l.client == k) (of_calls k ls)
    where
      go : (b : Bool) → of_client k (calls_of ls) ≡ calls_of (of k ls)
          → cond b (call_of l ∷ of_client k (calls_of ls)) (of_client k (calls_of ls)) ≡ calls_of
          (cond b (l ∷ of k ls) (of k ls))
      go true e = ap (λ x. call_of l ∷ x) e
      go false e = e

  filters_swap : (p q : (Line O) → Bool) (lines : List (Line O)) → filter p (filter q lines) ≡ filter q (filter p lines)
  filters_swap p q [] = refl
  filters_swap p q (l ∷ ls) = go (p l) refl (q l) refl (filters_swap p q ls)
    where
      go : (a : Bool) → p l ≡ a → (b : Bool) → q l ≡ b → filter p (filter q ls) ≡ filter q (filter p ls)
          → filter p (cond b (l ∷ filter q ls) (filter q ls)) ≡ filter q (cond a (l ∷ filter p ls) (filter p ls))
      go true e true f h =
          ap (λ t. cond t (l ∷ filter p (filter q ls)) (filter p (filter q ls))) e
          ∙ ap (λ x. l ∷ x) h ∙ sym (ap (λ t. cond t (l ∷ filter q (filter p ls)) (filter q (filter p ls))) f)
      go true e false f h = h ∙ sym (ap (λ t. cond t (l ∷ filter q (filter p ls)) (filter q (filter p ls))) f)
      go false e true f h = ap (λ t. cond t (l ∷ filter p (filter q ls)) (filter p (filter q ls))) e ∙ h
      go false e false f h = h

  each_of : (P : (Line O) → Type 0) (k : ℕ) (lines : List (Line O)) → EachLine P lines → EachLine P (of k lines)
  each_of P k [] h = tt
  each_of P k (l ∷ ls) h = go (l.client == k) (each_of P k ls h.1)
    where
      go : (b : Bool) → EachLine P (of k ls) → EachLine P (cond b (l ∷ of k ls) (of k ls))
      go true g = (h.0, g)
      go false g = g

  rises_of : (k : ℕ) (lines : List (Line O)) → Rises lines → Rises (of k lines)
  rises_of k [] h = tt
  rises_of k (l ∷ ls) h = go (l.client == k) (rises_of k ls h.1) (each_of (λ later. l.end ≤ later.end) k ls h.0)
    where
      go : (b : Bool) → Rises (of k ls) → EachLine (λ later. l.end ≤ later.end) (of k ls) →
          Rises (cond b (l ∷ of k ls) (of k ls))
      go true g e = (e, g)
      go false g e = g

  times : (lines : List (Line O)) → InTurn (calls_of lines) → Each (λ c. c.begin ≤ c.end) (calls_of lines)
  times [] h = tt
  times (l ∷ ls) h = (h.0, times ls h.2)

  -- a client's lines that are in turn rise
  later_of : (k : ℕ) (l : Line O) (ls : List (Line O)) → l.client ≡ k →
      Each (λ c. l.client ≡ c.client → l.end ≤ c.begin) (calls_of ls) → Each (λ c. c.begin ≤ c.end) (calls_of ls)
      → EachLine (λ later. l.end ≤ later.end) (of k ls)
  later_of k l [] e h t = tt
  later_of k l (x ∷ xs) e h t =
      elim (test x.client k) [
        | inl s ↦ rw s.0 (
          (let a : l.end ≤ x.begin = h.0 (e ∙ sym s.1) in let b : x.begin ≤ x.end = t.0 in omega arith),
          later_of k l xs e h.1 t.1,
        )
        | inr s ↦ rw s.0 (later_of k l xs e h.1 t.1)
      ]

  rises_turn : (k : ℕ) (lines : List (Line O)) → InTurn (calls_of lines) → Rises (of k lines)
  rises_turn k [] h = tt
  rises_turn k (l ∷ ls) h =
      elim (test l.client k) [
        | inl s ↦ rw s.0 (later_of k l ls s.1 h.1 (times ls h.2), rises_turn k ls h.2)
        | inr s ↦ rw s.0 (rises_turn k ls h.2)
      ]

  -- a stable sort merges the clients' calls in another way
  pub stable_merges : (xs ys : List (Line O)) → InTurn (calls_of xs) → Rises ys →
      ((z : Line O) → filter (at_once z) ys ≡ filter (at_once z) xs) → (k : ℕ) →
      of_client k (calls_of ys) ≡ of_client k (calls_of xs)
  stable_merges xs ys t r h k =
      of_calls k ys
      ∙ ap calls_of (rises_same (of k xs) (of k ys) (rises_turn k xs t) (rises_of k ys r)
      (λ z. filters_swap (at_once z) (λ (l : Line O). l.client ==
      k) ys ∙ ap (of k) (h z) ∙ sym (filters_swap (at_once z) (λ (l : Line O). l.client == k) xs)))
      ∙ sym (of_calls k xs)
