-- Which calls may come next, by their places.
use Rattle.std.proofs.Common.{◌≡◌, ◌≢◌, ℕ, ◌+◌, ◌<◌, ◌≤◌, ◌==◌, ◌||◌, ◌&&◌, suc, zero, Bool, true, false, not, cond}
use Rattle.std.proofs.Common.{List, [], ◌∷◌, ◌++◌, length, take, drop, get_or, refl, sym, ap, ◌∙◌, subst, inl, inr}
use Rattle.std.proofs.Common.{arith, nat_lt, drop-cons}
use Rattle.std.specs.List.{Contains, list_any}
use Rattle.std.proofs.lemmas.Bool.Decides.{nat_tests}
use Rattle.judge_object.specs.Call.{Call}
use Rattle.judge_object.proofs.Tests.{both_false}
use Rattle.judge_object.specs.Orders.{of_client}
use Rattle.judge_search.specs.Configurations.{IsFirst, MayBegin, without_next}
use Rattle.judge_search.specs.Walk.{AreChoices, AreApart}
use Rattle.judge_search.specs.Calls.{no_call, rest_of, may_next, can_come, tries_of, tries_from}
use Rattle.judge_search.proofs.Each.{Each, test, self}
use Rattle.judge_search.proofs.Clients.{head_same}
use Rattle.judge_object.specs.Rules.{Rules}

module _ {S O R : Type 0} (X : Rules S O R) where
  -- the call at a place
  abbrev pub at : List (Call O) → ℕ → (Call O)
  at cs p = get_or cs p (no_call X)

  -- the calls before a place, that at it and those after it
  pub rest_split : (made : ℕ → Bool) (i : ℕ) (cs : List (Call O)) (p j : ℕ) → j ≡ i + p → p < length cs → made j ≡ false
      → rest_of made i cs ≡ rest_of made i (take p cs) ++ at cs p ∷ rest_of made (suc j) (drop (suc p) cs)
  rest_split made i [] p j e l f = absurd (omega arith)
  rest_split made i (c ∷ cs) zero j e l f =
      let same : j ≡ i = omega arith in
      subst (λ k. rest_of made i (c ∷ cs) ≡ c ∷ rest_of made (suc k) cs) (sym same)
      (go (made i) (ap made (sym same) ∙ f))
    where
      go : (b : Bool) → b ≡ false → cond b (rest_of made (suc i) cs) (c ∷ rest_of made (suc i) cs) ≡ c ∷ rest_of made
          (suc i) cs
      go true h = absurd (true_false h)
        where
          true_false : true ≡ false → ⊥
          true_false x = cc
      go false h = refl
  rest_split made i (c ∷ cs) (suc p) j e l f = go (made i) (rest_split made (suc i) cs p j (omega arith)
      (omega arith) f)
    where
      tail : List (Call O)
      tail = at cs p ∷ rest_of made (suc j) (drop (suc p) cs)

      go : (b : Bool) → rest_of made (suc i) cs ≡ rest_of made (suc i) (take p cs) ++ at cs p ∷ rest_of made (suc j)
          (drop (suc p) cs)
          → cond b (rest_of made (suc i) cs) (c ∷ rest_of made (suc i) cs)
          ≡ cond b (rest_of made (suc i) (take p cs)) (c ∷ rest_of made (suc i) (take p cs)) ++ at cs p ∷ rest_of made
          (suc j) (drop (suc p) cs)
      go true h = h
      go false h = ap (λ l. c ∷ l) h

  -- one more call before a place
  pub front_more : (made : ℕ → Bool) (i : ℕ) (cs : List (Call O)) (p j : ℕ) → j ≡ i + p → p < length cs
      → rest_of made i (take (suc p) cs) ≡ rest_of made i (take p cs) ++ cond (made j) [] (at cs p ∷ [])
  front_more made i [] p j e l = absurd (omega arith)
  front_more made i (c ∷ cs) zero j e l = subst (λ k. cond (made i) [] (c ∷ []) ≡ cond (made k) [] (c ∷ []))
      (let same : i ≡ j = omega arith in same) refl
  front_more made i (c ∷ cs) (suc p) j e l = go (made i) (front_more made (suc i) cs p j (omega arith) (omega arith))
    where
      go : (b : Bool) → rest_of made (suc i) (take (suc p) cs) ≡ rest_of made (suc i) (take p cs) ++ cond (made j) []
          (at cs p ∷ [])
          → cond b (rest_of made (suc i) (take (suc p) cs)) (c ∷ rest_of made (suc i) (take (suc p) cs))
          ≡ cond b (rest_of made (suc i) (take p cs)) (c ∷ rest_of made (suc i) (take p cs)) ++ cond (made j) []
          (at cs p ∷ [])
      go true h = h
      go false h = ap (λ l. c ∷ l) h

  nothing_more : (xs : List (Call O)) → xs ++ [] ≡ xs
  nothing_more [] = refl
  nothing_more (x ∷ xs) = ap (λ l. x ∷ l) (nothing_more xs)

  -- the tries from a place on are that at it, if it may come next, and those after it
  pub tries_step : (made : ℕ → Bool) (cs : List (Call O)) (p : ℕ) → p < length cs
      → tries_from made cs p ≡ cond (can_come X made cs p) (at cs p ∷ tries_from made cs (suc p))
      (tries_from made cs (suc p))
  tries_step made cs p l =
      ap (λ d. tries_of made rest before p d) (drop-cons cs p (no_call X) l)
      ∙ go (made p) refl (may_next rest before (at cs p))
      ∙ ap (λ b. cond b (at cs p ∷ tries_from made cs (suc p)) (tries_from made cs (suc p))) refl
    where
      rest : List (Call O)
      rest = rest_of made 0 cs

      before : List (Call O)
      before = rest_of made 0 (take p cs)

      go : (b : Bool) → made p ≡ b → (m : Bool)
          → cond b (tries_of made (rest_of made 0 cs) (rest_of made 0 (take p cs)) (suc p) (drop (suc p) cs))
          (cond m (at cs p ∷ tries_of made (rest_of made 0 cs) (rest_of made 0 (take p cs) ++ at cs p ∷ []) (suc p)
          (drop (suc p) cs))
          (tries_of made (rest_of made 0 cs) (rest_of made 0 (take p cs) ++ at cs p ∷ []) (suc p) (drop (suc p) cs)))
          ≡ cond (not b && m) (at cs p ∷ tries_from made cs (suc p)) (tries_from made cs (suc p))
      go true e m =
          ap (λ f. tries_of made (rest_of made 0 cs) f (suc p) (drop (suc p) cs))
          (sym (front_more made 0 cs p p (omega arith) l ∙ ap (λ b. rest_of made 0 (take p cs) ++ cond b []
          (at cs p ∷ [])) e ∙ nothing_more (rest_of made 0 (take p cs))))
      go false e m =
          ap (λ f. cond m (at cs p ∷ tries_of made (rest_of made 0 cs) f (suc p) (drop (suc p) cs))
          (tries_of made (rest_of made 0 cs) f (suc p) (drop (suc p) cs)))
          (sym (front_more made 0 cs p p (omega arith) l ∙ ap (λ b. rest_of made 0 (take p cs) ++ cond b []
          (at cs p ∷ [])) e))

  pub tries_none : (made : ℕ → Bool) (cs : List (Call O)) (p : ℕ) → length cs ≤ p → tries_from made cs p ≡ []
  tries_none made cs p l = ap (λ d. tries_of made (rest_of made 0 cs) (rest_of made 0 (take p cs)) p d)
      (drop_all cs p l)
    where
      drop_all : (xs : List (Call O)) (p : ℕ) → length xs ≤ p → drop p xs ≡ []
      drop_all [] zero l = refl
      drop_all [] (suc p) l = refl
      drop_all (x ∷ xs) zero l = absurd (omega arith)
      drop_all (x ∷ xs) (suc p) l = drop_all xs p (omega arith)

  -- a call that has a place is passed over
  pub tries_made : (made : ℕ → Bool) (cs : List (Call O)) (p : ℕ) → made p ≡ true →
      tries_from made cs p ≡ tries_from made cs (suc p)
  tries_made made cs p e = go (nat_lt p (length cs)) refl
    where
      go : (b : Bool) → nat_lt p (length cs) ≡ b → tries_from made cs p ≡ tries_from made cs (suc p)
      go true h =
          tries_step made cs p (let l : p < length cs = grind (arith, nat_tests) in l)
          ∙ ap (λ b. cond (not b && may_next (rest_of made 0 cs) (rest_of made 0 (take p cs)) (at cs p))
          (at cs p ∷ tries_from made cs (suc p)) (tries_from made cs (suc p))) e
      go false h =
          let l : length cs ≤ p = grind (arith, nat_tests) in
          tries_none made cs p l ∙ sym (tries_none made cs (suc p) (omega arith))

  pub tries_skip : (made : ℕ → Bool) (cs : List (Call O)) (from more : ℕ) →
      ((p : ℕ) → p < from + more → made p ≡ true) →
      tries_from made cs from ≡ tries_from made cs (from + more)
  tries_skip made cs from zero h = ap (tries_from made cs) (let e : from ≡ from + 0 = omega arith in e)
  tries_skip made cs from (suc more) h =
      tries_skip made cs from more (λ p l. h p (omega arith))
      ∙ tries_made made cs (from + more) (h (from + more) (omega arith))
      ∙ ap (tries_from made cs) (let e : suc (from + more) ≡ from + suc more = omega arith in e)

  -- the calls before a place of which all have one
  pub front_made : (made : ℕ → Bool) (i : ℕ) (cs : List (Call O)) (p : ℕ) → ((j : ℕ) → j < i + p → made j ≡ true) →
      rest_of made i (take p cs) ≡ []
  front_made made i [] p h = go p
    where
      go : (p : ℕ) → rest_of {O = O} made i (take p []) ≡ []
      go zero = refl
      go (suc p) = refl
  front_made made i (c ∷ cs) zero h = refl
  front_made made i (c ∷ cs) (suc p) h =
      ap (λ b. cond b (rest_of made (suc i) (take p cs)) (c ∷ rest_of made (suc i) (take p cs))) (h i (omega arith))
      ∙ front_made made (suc i) cs p (λ j l. h j (omega arith))

  both_true : (a b : Bool) → (a && b) ≡ true → (a ≡ true) × (b ≡ true)
  both_true true b h = (refl, h)
  both_true false b h = cc

  not_true : (b : Bool) → not b ≡ true → b ≡ false
  not_true true h = cc
  not_true false h = refl

  true_both : (a b : Bool) → a ≡ false → b ≡ false → (not a && not b) ≡ true
  true_both a b h g = rw (h, g) refl

  late : (x y : ℕ) → nat_lt x y ≡ false → y ≤ x
  late x y h = grind (arith, nat_tests)

  early : (x y : ℕ) → y ≤ x → nat_lt x y ≡ false
  early x y h = grind (arith, nat_tests)

  ended_late : (b : ℕ) (cs : List (Call O)) → list_any (λ (o : Call O). nat_lt o.end b) cs ≡ false →
      Each (λ o. b ≤ o.end) cs
  ended_late b [] h = tt
  ended_late b (c ∷ cs) h =
      let both = both_false (nat_lt c.end b) (list_any (λ (o : Call O). nat_lt o.end b) cs) h in
      (late c.end b both.0, ended_late b cs both.1)

  pub late_ended : (b : ℕ) (cs : List (Call O)) → Each (λ o. b ≤ o.end) cs →
      list_any (λ (o : Call O). nat_lt o.end b) cs ≡ false
  late_ended b [] h = refl
  late_ended b (c ∷ cs) h = rw (early c.end b h.0) (late_ended b cs h.1)

  -- none of these is of the client
  none_of_client : (k : ℕ) (cs : List (Call O)) → list_any (λ (o : Call O). o.client == k) cs ≡ false →
      of_client k cs ≡ []
  none_of_client k [] h = refl
  none_of_client k (c ∷ cs) h =
      let both = both_false (c.client == k) (list_any (λ (o : Call O). o.client == k) cs) h in
      rw both.0 (none_of_client k cs both.1)

  of_client_append : (k : ℕ) (xs ys : List (Call O)) → of_client k (xs ++ ys) ≡ of_client k xs ++ of_client k ys
  of_client_append k [] ys = refl
  of_client_append k (x ∷ xs) ys =
      elim (test x.client k) [
        | inl t ↦ rw t.0 (ap (λ l. x ∷ l) (of_client_append k xs ys))
        | inr t ↦ rw t.0 (of_client_append k xs ys)
      ]

  -- what the test of a call says
  pub record Stands (made : ℕ → Bool) (cs : List (Call O)) (p : ℕ) : Type 0 where
    pub free : made p ≡ false
    pub none : list_any (λ (o : Call O). o.client == (at cs p).client) (rest_of made 0 (take p cs)) ≡ false
    pub early : list_any (λ (o : Call O). nat_lt o.end (at cs p).begin) (rest_of made 0 cs) ≡ false

  pub stands_of : (made : ℕ → Bool) (cs : List (Call O)) (p : ℕ) → (can_come X) made cs p ≡ true → Stands made cs p
  stands_of made cs p h =
      let one = both_true (not (made p)) (may_next (rest_of made 0 cs) (rest_of made 0 (take p cs)) (at cs p)) h in
      let two = both_true (not (list_any (λ (o : Call O). nat_lt o.end (at cs p).begin) (rest_of made 0 cs)))
      (not (list_any (λ (o : Call O). o.client == (at cs p).client) (rest_of made 0 (take p cs)))) one.1 in
      record {
        free = not_true (made p) one.0;
        none = not_true (list_any (λ (o : Call O). o.client == (at cs p).client) (rest_of made 0 (take p cs))) two.1;
        early = not_true (list_any (λ (o : Call O). nat_lt o.end (at cs p).begin) (rest_of made 0 cs)) two.0;
      }

  pub of_stands : (made : ℕ → Bool) (cs : List (Call O)) (p : ℕ) → Stands made cs p → (can_come X) made cs p ≡ true
  of_stands made cs p h =
      rw (h.free, h.none, h.early) refl

  -- such a call may begin
  pub may_begin : (made : ℕ → Bool) (cs : List (Call O)) (p : ℕ) → p < length cs → (can_come X) made cs p ≡ true →
      MayBegin (rest_of made 0 cs) (at cs p)
  may_begin made cs p l h =
      let s = stands_of made cs p h in
      let c = at cs p in
      let before = rest_of made 0 (take p cs) in
      let more = rest_of made (suc p) (drop (suc p) cs) in
      record {
        first = record {
          tail = of_client c.client more;
          is = ap (of_client c.client) (rest_split made 0 cs p p (omega arith) l s.free)
              ∙ of_client_append c.client before (c ∷ more)
              ∙ ap (λ b. b ++ of_client c.client (c ∷ more)) (none_of_client c.client before s.none)
              ∙ ap (λ b. cond b (c ∷ of_client c.client more) (of_client c.client more)) (self c.client);
        };
        early = ended_late c.begin (rest_of made 0 cs) s.early;
      }

  without_behind : (k : ℕ) (xs : List (Call O)) (c : Call O) (ys : List (Call O)) →
      list_any (λ (o : Call O). o.client == k) xs ≡ false → c.client ≡ k → without_next k (xs ++ c ∷ ys) ≡ xs ++ ys
  without_behind k [] c ys h e =
      elim (test c.client k) [
        | inl t ↦ rw t.0 refl
        | inr t ↦ absurd (t.1 e)
      ]
  without_behind k (x ∷ xs) c ys h e =
      let both = both_false (x.client == k) (list_any (λ (o : Call O). o.client == k) xs) h in
      rw both.0 (ap (λ l. x ∷ l) (without_behind k xs c ys both.1 e))

  -- calls behind a place that gets one
  rest_behind : (made more : ℕ → Bool) (p i : ℕ) (cs : List (Call O)) → ((j : ℕ) → j ≢ p → more j ≡ made j) → p < i →
      rest_of more i cs ≡ rest_of made i cs
  rest_behind made more p i [] h l = refl
  rest_behind made more p i (c ∷ cs) h l =
      ap (λ b. cond b (rest_of more (suc i) cs) (c ∷ rest_of more (suc i) cs)) (h i (λ e. omega arith))
      ∙ ap (λ r. cond (made i) r (c ∷ r)) (rest_behind made more p (suc i) cs h (omega arith))

  rest_less : (made more : ℕ → Bool) (p i : ℕ) (cs : List (Call O)) (q : ℕ) → ((j : ℕ) → j ≢ p → more j ≡ made j) →
      more p ≡ true → p ≡ i + q → q < length cs
      → rest_of more i cs ≡ rest_of made i (take q cs) ++ rest_of made (suc p) (drop (suc q) cs)
  rest_less made more p i [] q h m e l = absurd (omega arith)
  rest_less made more p i (c ∷ cs) zero h m e l =
      let same : p ≡ i = omega arith in
      ap (λ b. cond b (rest_of more (suc i) cs) (c ∷ rest_of more (suc i) cs)) (ap more (sym same) ∙ m)
      ∙ rest_behind made more p (suc i) cs h (omega arith)
      ∙ ap (λ k. rest_of made (suc k) cs) (sym same)
  rest_less made more p i (c ∷ cs) (suc q) h m e l =
      ap (λ b. cond b (rest_of more (suc i) cs) (c ∷ rest_of more (suc i) cs)) (h i (λ x. omega arith))
      ∙ go (made i) (rest_less made more p (suc i) cs q h m (omega arith) (omega arith))
    where
      go : (b : Bool) → rest_of more (suc i) cs ≡ rest_of made (suc i) (take q cs) ++ rest_of made (suc p)
          (drop (suc q) cs)
          → cond b (rest_of more (suc i) cs) (c ∷ rest_of more (suc i) cs)
          ≡ cond b (rest_of made (suc i) (take q cs)) (c ∷ rest_of made (suc i) (take q cs)) ++ rest_of made (suc p)
          (drop (suc q) cs)
      go true x = x
      go false x = ap (λ l. c ∷ l) x

  -- where a call that may come next gets a place, its client's next is not left
  pub rest_made : (made more : ℕ → Bool) (cs : List (Call O)) (p : ℕ) → p < length cs → (can_come X) made cs p ≡ true
      → ((j : ℕ) → more j ≡ (made j || j == p)) → rest_of more 0 cs ≡ without_next (at cs p).client (rest_of made 0 cs)
  rest_made made more cs p l h m =
      let s = stands_of made cs p h in
      rest_less made more p 0 cs p
      (λ j n. m j ∙ ap (λ b. made j || b) (let t : (j == p) ≡ false = grind (arith, nat_tests) in
      t) ∙ or_false (made j))
      (m p ∙ ap (λ b. made p || b) (self p) ∙ or_true (made p)) (omega arith) l
      ∙ sym (without_behind (at cs p).client (rest_of made 0 (take p cs)) (at cs p)
      (rest_of made (suc p) (drop (suc p) cs)) s.none refl)
      ∙ ap (without_next (at cs p).client) (sym (rest_split made 0 cs p p (omega arith) l s.free))
    where
      or_false : (b : Bool) → (b || false) ≡ b
      or_false true = refl
      or_false false = refl

      or_true : (b : Bool) → (b || true) ≡ true
      or_true true = refl
      or_true false = refl

  contains_more : (c x : Call O) (xs : List (Call O)) → Contains xs c → Contains (x ∷ xs) c
  contains_more c x xs h = (suc h.0, (let l = h.1 in omega arith), h.2)

  none_first : (c : Call O) → IsFirst [] c → ⊥
  none_first c f = let e : ◌≡◌ {A = List (Call O)} [] (c ∷ f.tail) = f.is in cc

  false_both : (a b : Bool) → a ≡ false → b ≡ false → (a || b) ≡ false
  false_both a b h g = rw (h, g) refl

  none_more : (k : ℕ) (xs : List (Call O)) (x : Call O) → list_any (λ (o : Call O). o.client == k) xs ≡ false →
      (x.client == k) ≡ false → list_any (λ (o : Call O). o.client == k) (xs ++ x ∷ []) ≡ false
  none_more k [] x h e = false_both (x.client == k) false e refl
  none_more k (y ∷ ys) x h e =
      let both = both_false (y.client == k) (list_any (λ (o : Call O). o.client == k) ys) h in
      false_both (y.client == k) (list_any (λ (o : Call O). o.client == k) (ys ++ x ∷ [])) both.0
      (none_more k ys x both.1 e)

  -- each call that may begin is among the tries
  covers : (made : ℕ → Bool) (rest before : List (Call O)) (i : ℕ) (cs : List (Call O)) (c : Call O) →
      IsFirst (rest_of made i cs) c
      → list_any (λ (o : Call O). o.client == c.client) before ≡ false →
      list_any (λ (o : Call O). nat_lt o.end c.begin) rest ≡ false
      → Contains (tries_of made rest before i cs) c
  covers made rest before i [] c f n e = absurd (none_first c f)
  covers made rest before i (x ∷ xs) c f n e = go (made i) f (λ b g m. covers made rest b (suc i) xs c g m e)
    where
      go : (b : Bool) → IsFirst (cond b (rest_of made (suc i) xs) (x ∷ rest_of made (suc i) xs)) c
          → ((b : List (Call O)) → IsFirst (rest_of made (suc i) xs) c →
          list_any (λ (o : Call O). o.client == c.client) b ≡ false → Contains (tries_of made rest b (suc i) xs) c)
          → Contains (cond b (tries_of made rest before (suc i) xs)
          (cond (may_next rest before x) (x ∷ tries_of made rest (before ++ x ∷ []) (suc i) xs)
          (tries_of made rest (before ++ x ∷ []) (suc i) xs))) c
      go true f more = more before f n
      go false f more =
          elim (test x.client c.client) [
            | inl t ↦
                let same : x ≡ c = head_same x c (of_client c.client (rest_of made (suc i) xs)) f.tail
                (rw t.0 at f.is) in
                let may : may_next rest before x ≡ true =
                subst (λ (y : Call O). may_next rest before y ≡ true) (sym same)
                (true_both (list_any (λ (o : Call O). nat_lt o.end c.begin) rest) (list_any (λ (o : Call O). o.client ==
                c.client) before) e n) in
                subst (λ m. Contains (cond m (x ∷ tries_of made rest (before ++ x ∷ []) (suc i) xs)
                (tries_of made rest (before ++ x ∷ []) (suc i) xs)) c) (sym may)
                (0, omega arith, same)
            | inr t ↦
                let there = more (before ++ x ∷ []) (record { tail = f.tail; is = rw t.0 at f.is })
                (none_more c.client before x n t.0) in
                put (may_next rest before x) there
          ]
        where
          put : (m : Bool) → Contains (tries_of made rest (before ++ x ∷ []) (suc i) xs) c
              → Contains (cond m (x ∷ tries_of made rest (before ++ x ∷ []) (suc i) xs)
              (tries_of made rest (before ++ x ∷ []) (suc i) xs)) c
          put true h = contains_more c x (tries_of made rest (before ++ x ∷ []) (suc i) xs) h
          put false h = h

  pub all_choices : (made : ℕ → Bool) (cs : List (Call O)) → AreChoices (rest_of made 0 cs) (tries_from made cs 0)
  all_choices made cs c may =
      covers made (rest_of made 0 cs) [] 0 cs c may.first refl (late_ended c.begin (rest_of made 0 cs) may.early)

  -- where one of these is of the client, so it is with one more
  some_more : (k : ℕ) (xs : List (Call O)) (x : Call O) → list_any (λ (o : Call O). o.client == k) xs ≡ true →
      list_any (λ (o : Call O). o.client == k) (xs ++ x ∷ []) ≡ true
  some_more k [] x h = absurd (false_true h)
    where
      false_true : false ≡ true → ⊥
      false_true e = cc
  some_more k (y ∷ ys) x h = go (y.client == k) h (λ g. some_more k ys x g)
    where
      go : (b : Bool) → (b || list_any (λ (o : Call O). o.client == k) ys) ≡ true
          → (list_any (λ (o : Call O). o.client == k) ys ≡ true →
          list_any (λ (o : Call O). o.client == k) (ys ++ x ∷ []) ≡ true)
          → (b || list_any (λ (o : Call O). o.client == k) (ys ++ x ∷ [])) ≡ true
      go true e more = refl
      go false e more = more e

  some_last : (xs : List (Call O)) (x : Call O) → list_any (λ (o : Call O). o.client == x.client) (xs ++ x ∷ []) ≡ true
  some_last [] x = rw (self x.client) refl
  some_last (y ∷ ys) x = go (y.client == x.client) (some_last ys x)
    where
      go : (b : Bool) → list_any (λ (o : Call O). o.client == x.client) (ys ++ x ∷ []) ≡ true →
          (b || list_any (λ (o : Call O). o.client == x.client) (ys ++ x ∷ [])) ≡ true
      go true h = refl
      go false h = h

  -- a client of whom a call stands before has none among the tries
  other_clients : (made : ℕ → Bool) (rest before : List (Call O)) (i : ℕ) (cs : List (Call O)) (k : ℕ) →
      list_any (λ (o : Call O). o.client == k) before ≡ true
      → Each (λ o. o.client ≢ k) (tries_of made rest before i cs)
  other_clients made rest before i [] k h = tt
  other_clients made rest before i (x ∷ xs) k h =
      go (made i) (may_next rest before x) refl (other_clients made rest before (suc i) xs k h)
      (other_clients made rest (before ++ x ∷ []) (suc i) xs k (some_more k before x h))
    where
      true_false : true ≡ false → ⊥
      true_false e = cc

      go : (b m : Bool) → may_next rest before x ≡ m → Each (λ o. o.client ≢ k) (tries_of made rest before (suc i) xs)
          → Each (λ o. o.client ≢ k) (tries_of made rest (before ++ x ∷ []) (suc i) xs)
          → Each (λ o. o.client ≢ k)
          (cond b (tries_of made rest before (suc i) xs) (cond m (x ∷ tries_of made rest (before ++ x ∷ []) (suc i) xs)
          (tries_of made rest (before ++ x ∷ []) (suc i) xs)))
      go true m e same more = same
      go false true e same more =
          let both = both_true (not (list_any (λ (o : Call O). nat_lt o.end x.begin) rest))
          (not (list_any (λ (o : Call O). o.client == x.client) before)) e in
          let none = not_true (list_any (λ (o : Call O). o.client == x.client) before) both.1 in (
            λ own. true_false (sym h ∙ subst (λ n. list_any (λ (o : Call O). o.client == n) before ≡ false) own none),
            more,
          )
      go false false e same more = more

  -- no two of the tries are of one client
  apart : (made : ℕ → Bool) (rest before : List (Call O)) (i : ℕ) (cs : List (Call O)) →
      AreApart (tries_of made rest before i cs)
  apart made rest before i [] = tt
  apart made rest before i (x ∷ xs) =
      go (made i) (may_next rest before x) (apart made rest before (suc i) xs)
      (apart made rest (before ++ x ∷ []) (suc i) xs)
    where
      go : (b m : Bool) → AreApart (tries_of made rest before (suc i) xs) →
          AreApart (tries_of made rest (before ++ x ∷ []) (suc i) xs)
          → AreApart (cond b (tries_of made rest before (suc i) xs)
          (cond m (x ∷ tries_of made rest (before ++ x ∷ []) (suc i) xs)
          (tries_of made rest (before ++ x ∷ []) (suc i) xs)))
      go true m same more = same
      go false true same more = (
        other_clients made rest (before ++ x ∷ []) (suc i) xs x.client (some_last before x),
        more,
      )
      go false false same more = more

  pub tries_apart : (made : ℕ → Bool) (cs : List (Call O)) → AreApart (tries_from made cs 0)
  tries_apart made cs = apart made (rest_of made 0 cs) [] 0 cs
