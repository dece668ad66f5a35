-- Calls without times: an order of them is a linearization if the calls give their replies.
use Rattle.std.proofs.lemmas.Bool.Decides.{nat_tests}
use Rattle.std.proofs.Common.{◌≡◌, ℕ, ◌+◌, ◌<◌, ◌≤◌, suc, zero, true, false, List, [], ◌∷◌, ◌++◌}
use Rattle.std.proofs.Common.{Some, None, refl, sym, ap, ◌∙◌, subst, inl, inr, arith}
use Rattle.judge_object.specs.Rules.{Rules}
use Rattle.judge_object.specs.Call.{Call, EachCall, is_completed}
use Rattle.judge_object.specs.Linear.{IsCallAt, CallsTakeTime, CallsAreSequential, CallsKeepPrecedence}
use Rattle.judge_object.specs.Linear.{GiveReplies, IsLinearization}
use Rattle.judge_object.specs.Orders.{of_client}
use Rattle.judge_object.specs.Relaxed.{OnlyLastIsPending}
use Rattle.judge_object.proofs.Merges.{test, self, AreApart, count, count_own, count_less}

none_some : {X : Type 0} (x : X) → None ≡ Some x → ⊥
none_some x e = cc

some_same : {X : Type 0} (x y : X) → Some x ≡ Some y → x ≡ y
some_same x y e = cc

false_true : false ≡ true → ⊥
false_true e = cc

module _ {O : Type 0} where
  at_each : (P : Call O → Type 0) (xs : List (Call O)) (i : ℕ) (a : Call O) → EachCall P xs → IsCallAt xs i a → P a
  at_each P [] i a h e = absurd (none_some a e)
  at_each P (x ∷ xs) zero a h e = subst P (some_same x a e) h.0
  at_each P (x ∷ xs) (suc i) a h e = at_each P xs i a h.1 e

  -- a call that begins at the time 0, and ends then if it is completed
  pub record IsUntimed (call : Call O) : Type 0 where
    pub begin : call.begin ≡ 0
    pub end : is_completed call ≡ true → call.end ≡ 0

  take_time : (xs : List (Call O)) → EachCall IsUntimed xs → CallsTakeTime xs
  take_time xs h i a e = let u = (at_each IsUntimed xs i a h e).begin in omega (arith, u)

  keep_precedence : (xs : List (Call O)) → EachCall IsUntimed xs → CallsKeepPrecedence xs
  keep_precedence xs h i j a b d e l = let u = (at_each IsUntimed xs j b h e).begin in absurd (omega (arith, u, l))

  counted_at : (xs : List (Call O)) (i : ℕ) (a : Call O) → IsCallAt xs i a → 1 ≤ count a.client xs
  counted_at [] i a e = absurd (none_some a e)
  counted_at (x ∷ xs) zero a e = grind (arith, nat_tests, count, some_same x a e, count_own x xs)
  counted_at (x ∷ xs) (suc i) a e =
      let more = counted_at xs i a e in let less = count_less a.client x xs in omega arith

  -- two calls of one client
  counted_twice : (xs : List (Call O)) (i j : ℕ) (a b : Call O) → IsCallAt xs i a → IsCallAt xs j b → i < j →
      a.client ≡ b.client → 2 ≤ count b.client xs
  counted_twice [] i j a b d e l s = absurd (none_some a d)
  counted_twice (x ∷ xs) zero zero a b d e l s = absurd (omega arith)
  counted_twice (x ∷ xs) zero (suc j) a b d e l s = grind (
    arith,
    nat_tests,
    count x.client (x ∷ xs),
    count x.client xs,
    count_own x xs,
    some_same x a d,
    count b.client xs,
    counted_at xs j b e,
    count b.client (x ∷ xs),
    count,
  )
  counted_twice (x ∷ xs) (suc i) zero a b d e l s = absurd (omega arith)
  counted_twice (x ∷ xs) (suc i) (suc j) a b d e l s = grind (
    arith,
    nat_tests,
    counted_twice xs i j a b d e,
    count_less b.client x xs,
  )

  apart_sequential : (xs : List (Call O)) → AreApart xs → CallsAreSequential xs
  apart_sequential xs h i j a b d e l s =
      let two = counted_twice xs i j a b d e l s in let one = h b.client in absurd (omega arith)

  -- ---- pending calls that are the last of their clients

  only_rest : (x : Call O) (xs : List (Call O)) → OnlyLastIsPending (x ∷ xs) → OnlyLastIsPending xs
  only_rest x [] h = tt
  only_rest x (y ∷ ys) h = h.1

  pub last_rest : (k : ℕ) (x : Call O) (xs : List (Call O)) → OnlyLastIsPending (of_client k (x ∷ xs)) →
      OnlyLastIsPending (of_client k xs)
  last_rest k x xs h = grind (arith, nat_tests, test x.client k, only_rest x (of_client k xs))

  -- a call that is followed by one of its client is completed
  some_at : (xs ys : List (Call O)) (i : ℕ) (a : Call O) → IsCallAt xs i a →
      (first : Call O) × (more : List (Call O)) × (of_client a.client (xs ++ ys) ≡ first ∷ more)
  some_at [] ys i a e = absurd (none_some a e)
  some_at (x ∷ xs) ys zero a e =
      let same = some_same x a e in (
        x,
        of_client a.client (xs ++ ys),
        subst (λ (c : Call O). of_client c.client (x ∷ xs ++ ys) ≡
            x ∷ of_client c.client (xs ++ ys)) same (rw (self x.client) refl),
      )
  some_at (x ∷ xs) ys (suc i) a e =
      let more = some_at xs ys i a e in
      elim (test x.client a.client) [
        | inl t ↦ (x, of_client a.client (xs ++ ys), rw t.0 refl)
        | inr t ↦ (more.0, more.1, rw t.0 more.2)
      ]

  followed : (x : Call O) (cs : List (Call O)) (first : Call O) (more : List (Call O)) → cs ≡ first ∷ more →
      OnlyLastIsPending (x ∷ cs) → is_completed x ≡ true
  followed x cs first more e h = (subst (λ l. OnlyLastIsPending (x ∷ l)) e h).0

  completed : (xs ys : List (Call O)) (i j : ℕ) (a b : Call O) → IsCallAt xs i a → IsCallAt xs j b → i < j →
      a.client ≡ b.client → OnlyLastIsPending (of_client a.client (xs ++ ys)) → is_completed a ≡ true
  completed [] ys i j a b d e l s h = absurd (none_some a d)
  completed (x ∷ xs) ys zero zero a b d e l s h = absurd (omega arith)
  completed (x ∷ xs) ys zero (suc j) a b d e l s h = grind (
    arith,
    nat_tests,
    some_same x a d,
    some_at xs ys j b e,
    self x.client,
    followed x (of_client x.client (xs ++ ys)),
  )
  completed (x ∷ xs) ys (suc i) zero a b d e l s h = absurd (omega arith)
  completed (x ∷ xs) ys (suc i) (suc j) a b d e l s h =
      completed xs ys i j a b d e (omega arith) s (last_rest a.client x (xs ++ ys) h)

  last_sequential : (xs ys : List (Call O)) → ((k : ℕ) → OnlyLastIsPending (of_client k (xs ++ ys))) →
      EachCall IsUntimed xs → CallsAreSequential xs
  last_sequential xs ys last h i j a b d e l s =
      let end = (at_each IsUntimed xs i a h d).end (completed xs ys i j a b d e l s (last a.client)) in
      omega (arith, end)

module _ {S O R : Type 0} (X : Rules S O R) (s : S) where
  pub apart_linearization : (xs : List (Call O)) → EachCall IsUntimed xs → AreApart xs → GiveReplies X s xs →
      IsLinearization X s xs
  apart_linearization xs h apart replies = record {
    replies = replies;
    times = take_time xs h;
    clients = apart_sequential xs apart;
    precedence = keep_precedence xs h;
  }

  pub last_linearization : (xs ys : List (Call O)) → EachCall IsUntimed xs →
      ((k : ℕ) → OnlyLastIsPending (of_client k (xs ++ ys))) → GiveReplies X s xs → IsLinearization X s xs
  last_linearization xs ys h last replies = grind (
    arith,
    nat_tests,
    take_time xs h,
    last_sequential xs ys last h,
    keep_precedence xs h,
  )
