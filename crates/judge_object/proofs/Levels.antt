-- A history is at a level if and only if it is linearizable without the order that the level does not keep.
use Rattle.std.proofs.Common.{◌≡◌, ◌≢◌, ℕ, ◌+◌, ◌<◌, ◌==◌, Bool, true, false, cond, List, [], ◌∷◌, ◌++◌}
use Rattle.std.proofs.Common.{map, refl, sym, ap, ◌∙◌, subst, inl, inr, arith}
use Rattle.std.specs.Prelude.{IsPermutation, nat_lt}
use Rattle.std.proofs.lemmas.List.{map-append}
use Rattle.std.proofs.lemmas.List.Sorted.{IsPermutation-map}
use Rattle.std.proofs.lemmas.Bool.Decides.{nat_tests}
use Rattle.judge_object.specs.declared.level.Level.{Level}
use Rattle.judge_object.specs.declared.level.Level.TheVariants as level
use Rattle.judge_object.specs.Levels.{IsSequentiallyConsistent, IsSerializable, IsAt}
use Rattle.judge_object.specs.Relaxed.{untimed_as, untimed, alone, relax, OnlyLastIsPending, PendingAreLast}
use Rattle.judge_object.specs.LevelLaws.{LinearizableIsSequential, SequentialIsSerializable, LevelIsRelaxed}
use Rattle.judge_object.proofs.Merges.{test, AreApart, count, count_cons, cons_same, without, merge_rest, merge_moves}
use Rattle.judge_object.proofs.Merges.{moved_merges, moved_apart, parted, lifted, own_head, count_front}
use Rattle.judge_object.proofs.Times.{IsUntimed, apart_linearization, last_linearization}
use Rattle.judge_object.specs.declared.span.TheConstants.{NEVER}
use Rattle.judge_object.specs.Rules.{Rules, IsAnswerOf}
use Rattle.judge_object.specs.Call.{Call, EachCall, is_completed}
use Rattle.judge_object.specs.Linear.{GiveReplies}
use Rattle.judge_object.specs.Orders.{of_client, IsMerge, IsLinearizable}

-- a call without times is completed if the call is
pub same_completed : (e : ℕ) → nat_lt (cond {A = ℕ} (nat_lt e NEVER) 0 e) NEVER ≡ nat_lt e NEVER
same_completed e = grind (arith, nat_tests)

-- a completed call without times ends at 0
pub ended : (e : ℕ) → nat_lt (cond {A = ℕ} (nat_lt e NEVER) 0 e) NEVER ≡ true →
    cond {A = ℕ} (nat_lt e NEVER) 0 e ≡ 0
ended e t = ap (λ b. cond {A = ℕ} b 0 e) (sym (same_completed e) ∙ t)

module _ {O : Type 0} where
  -- calls with their numbers
  abbrev pub numbered : ℕ → List (Call O) → List (ℕ × Call O)
  numbered n [] = []
  numbered n (c ∷ cs) = (n, c) ∷ numbered (n + 1) cs

  abbrev pub own : ℕ × Call O → Call O
  own p = untimed_as p.0 p.1

  abbrev pub call : ℕ × Call O → Call O
  call p = p.1

  pub own_is : (n : ℕ) (cs : List (Call O)) → map own (numbered n cs) ≡ alone n cs
  own_is n [] = refl
  own_is n (c ∷ cs) = ap (λ l. untimed_as n c ∷ l) (own_is (n + 1) cs)

  pub call_is : (n : ℕ) (cs : List (Call O)) → map call (numbered n cs) ≡ cs
  call_is n [] = refl
  call_is n (c ∷ cs) = ap (λ l. c ∷ l) (call_is (n + 1) cs)

  -- the clients are numbered from here on
  none_below : (k n : ℕ) (cs : List (Call O)) → k < n → count k (alone n cs) ≡ 0
  none_below k n [] l = refl
  none_below k n (c ∷ cs) l = grind (
    arith,
    nat_tests,
    none_below k (n + 1) cs,
    count_cons k (untimed_as n c) (alone (n + 1) cs),
  )

  pub alone_apart : (n : ℕ) (cs : List (Call O)) → AreApart (alone n cs)
  alone_apart n [] k = omega arith
  alone_apart n (c ∷ cs) k = grind (
    arith,
    nat_tests,
    test n k,
    none_below k (n + 1) cs,
    count_cons k (untimed_as n c) (alone (n + 1) cs),
    alone_apart (n + 1) cs k,
  )

  pub untimed_is : (n : ℕ) (c : Call O) → IsUntimed (untimed_as n c)
  untimed_is n c = record { begin = refl; end = ended c.end }

  -- facts of the calls that a map gives
  module _ {P : Type 0} (f g : P → Call O) where
    never_map : ((p : P) → is_completed (f p) ≡ is_completed (g p)) → (ps : List P) →
        EachCall (λ c. is_completed c ≡ false) (map f ps) →
        EachCall (λ c. is_completed c ≡ false) (map g ps)
    never_map same [] h = tt
    never_map same (p ∷ ps) h = (sym (same p) ∙ h.0, never_map same ps h.1)

    module _ (same : (p : P) → (f p).reply ≡ (g p).reply) {S R : Type 0} (X : Rules S O R)
        (op : (p : P) → (f p).op ≡ (g p).op) where
      replies_map : (s : S) (ps : List P) → GiveReplies X s (map f ps) → GiveReplies X s (map g ps)
      replies_map s [] h = tt
      replies_map s (p ∷ ps) h = (
        subst (λ r. IsAnswerOf X (X.run s (g p).op).1 r) (same p)
            (subst (λ (o : O). IsAnswerOf X (X.run s o).1 (f p).reply) (op p) h.0),
        replies_map (X.run s (g p).op).0 ps (subst (λ (o : O). GiveReplies X (X.run s o).0 (map f ps)) (op p) h.1),
      )

  each_untimed : {P : Type 0} (f : P → Call O) → ((p : P) → IsUntimed (f p)) → (ps : List P) →
      EachCall IsUntimed (map f ps)
  each_untimed f h [] = tt
  each_untimed f h (p ∷ ps) = (h p, each_untimed f h ps)

  -- ---- each client's calls

  pub clients_map : (k : ℕ) (cs : List (Call O)) → of_client k (map untimed cs) ≡ map untimed (of_client k cs)
  clients_map k [] = refl
  clients_map k (c ∷ cs) = grind (arith, nat_tests, test c.client k, clients_map k cs)

  pub merge_map : (xs ys : List (Call O)) → IsMerge xs ys → IsMerge (map untimed xs) (map untimed ys)
  merge_map xs ys m k = clients_map k ys ∙ ap (map untimed) (m k) ∙ sym (clients_map k xs)

  pub only_map : (cs : List (Call O)) → OnlyLastIsPending cs → OnlyLastIsPending (map untimed cs)
  only_map [] h = tt
  only_map (c ∷ []) h = tt
  only_map (c ∷ d ∷ cs) h = (same_completed c.end ∙ h.0, only_map (d ∷ cs) h.1)

  -- an order of the calls without times is one of the calls
  record Given (xs ys : List (Call O)) : Type 0 where
    from : List (Call O)
    merges : IsMerge xs from
    gives : map untimed from ≡ ys

  first_of : (k : ℕ) (xs : List (Call O)) (y : Call O) (tail : List (Call O)) → map untimed xs ≡ y ∷ tail →
      (x : Call O) × (rest : List (Call O)) × (xs ≡ x ∷ rest) × (untimed x ≡ y) × (map untimed rest ≡ tail)
  first_of k [] y tail e = cc
  first_of k (x ∷ xs) y tail e =
      let same = cons_same (untimed x) y (map untimed xs) tail e in (x, xs, refl, same.0, same.1)

  merge_back : (x : Call O) (xs rest from : List (Call O)) →
      of_client x.client xs ≡ x ∷ of_client x.client rest →
      ((c : ℕ) → c ≢ x.client → of_client c rest ≡ of_client c xs) → IsMerge rest from → IsMerge xs (x ∷ from)
  merge_back x xs rest from own others m c = grind (arith, nat_tests, test x.client c)

  given : (ys xs : List (Call O)) → IsMerge (map untimed xs) ys → Given xs ys
  given [] xs m = record {
    from = [];
    merges = λ k. nothing k (of_client k xs) (clients_map k xs);
    gives = refl;
  }
    where
      nothing : (k : ℕ) (cs : List (Call O)) → of_client k (map untimed xs) ≡ map untimed cs → [] ≡ cs
      nothing k [] e = refl
      nothing k (c ∷ cs) e = let none : ◌≡◌ {A = List (Call O)} [] (untimed c ∷ map untimed cs) = m k ∙ e in cc
  given (y ∷ ys) xs m =
      let here : map untimed (of_client y.client xs) ≡ y ∷ of_client y.client ys =
      sym (clients_map y.client xs) ∙ sym (m y.client) ∙ own_head y ys in
      let one = first_of y.client (of_client y.client xs) y (of_client y.client ys) here in
      let x = one.0 in
      let client : x.client ≡ y.client = ap (λ (c : Call O). c.client) one.3 in
      let out = without xs y.client x one.1 one.2 in
      let own : of_client x.client out.rest ≡ one.1 =
      ap (λ k. of_client k out.rest) client ∙ out.own in
      let others : (c : ℕ) → c ≢ x.client → of_client c out.rest ≡ of_client c xs =
      λ c n. out.others c (λ e. n (e ∙ sym client)) in
      let kept : IsMerge ys (map untimed out.rest) =
      merge_rest y ys (map untimed out.rest) (map untimed xs)
      (clients_map y.client out.rest ∙ ap (map untimed) out.own ∙ one.4)
      (λ c n. clients_map c out.rest ∙ ap (map untimed) (out.others c n) ∙ sym (clients_map c xs))
      (λ k. sym (m k)) in
      let more = given ys out.rest (λ k. sym (kept k)) in
      let head : of_client x.client xs ≡ x ∷ of_client x.client out.rest =
      ap (λ k. of_client k xs) client ∙ one.2 ∙ ap (λ l. x ∷ l) (sym own) in
      record {
        from = x ∷ more.from;
        merges = merge_back x xs out.rest more.from head others more.merges;
        gives = ap (λ c. c ∷ map untimed more.from) one.3 ∙ ap (λ l. y ∷ l) more.gives;
      }

  never_untimed : (cs : List (Call O)) → EachCall (λ c. is_completed c ≡ false) cs →
      EachCall (λ c. is_completed c ≡ false) (map untimed cs)
  never_untimed [] h = tt
  never_untimed (c ∷ cs) h = (same_completed c.end ∙ h.0, never_untimed cs h.1)

  untimed_never : (cs : List (Call O)) → EachCall (λ c. is_completed c ≡ false) (map untimed cs) →
      EachCall (λ c. is_completed c ≡ false) cs
  untimed_never [] h = tt
  untimed_never (c ∷ cs) h = (sym (same_completed c.end) ∙ h.0, untimed_never cs h.1)

  front_apart : (xs ys : List (Call O)) → AreApart (xs ++ ys) → AreApart xs
  front_apart xs ys h k = let all = h k in let less = count_front k xs ys in omega arith

module _ {S O R : Type 0} (X : Rules S O R) where
  replies_untimed : (s : S) (cs : List (Call O)) → GiveReplies X s cs → GiveReplies X s (map untimed cs)
  replies_untimed s [] h = tt
  replies_untimed s (c ∷ cs) h = (h.0, replies_untimed (X.run s c.op).0 cs h.1)

  untimed_replies : (s : S) (cs : List (Call O)) → GiveReplies X s (map untimed cs) → GiveReplies X s cs
  untimed_replies s [] h = tt
  untimed_replies s (c ∷ cs) h = (h.0, untimed_replies (X.run s c.op).0 cs h.1)

  pub linearizable_is_sequential : LinearizableIsSequential X
  linearizable_is_sequential s calls h =
      record { order = h.order; orders = h.orders; replies = h.linearization.replies }

  pub sequential_is_serializable : SequentialIsSerializable X
  sequential_is_serializable s calls h = grind (
    arith,
    nat_tests,
    merge_moves calls (h.order ++ h.orders.left) h.orders.merges,
  )

  -- ---- each client's order alone

  sequential_relaxed : (s : S) (calls : List (Call O)) → PendingAreLast calls → IsSequentiallyConsistent X s calls →
      IsLinearizable X s (map untimed calls)
  sequential_relaxed s calls last h =
      let left = h.orders.left in
      let merges : IsMerge (map untimed calls) (map untimed h.order ++ map untimed left) =
      subst (IsMerge (map untimed calls)) (map-append untimed h.order left)
      (merge_map calls (h.order ++ left) h.orders.merges) in
      record {
        order = map untimed h.order;
        orders = record { left = map untimed left; merges = merges; never = never_untimed left h.orders.never };
        linearization = last_linearization X s (map untimed h.order) (map untimed left)
            (each_untimed untimed (λ c. untimed_is c.client c) h.order)
            (λ k. subst OnlyLastIsPending (sym (merges k ∙ clients_map k calls))
            (only_map (of_client k calls) (last k)))
            (replies_untimed s h.order h.replies);
      }

  pub relaxed_sequential : (s : S) (calls : List (Call O)) → IsLinearizable X s (map untimed calls) →
      IsSequentiallyConsistent X s calls
  relaxed_sequential s calls h =
      let from = given (h.order ++ h.orders.left) calls h.orders.merges in
      let parts = parted untimed from.from h.order h.orders.left from.gives in
      record {
        order = parts.front;
        orders = record {
          left = parts.back;
          merges = subst (IsMerge calls) parts.whole from.merges;
          never = untimed_never parts.back (subst (EachCall (λ c. is_completed c ≡ false)) (sym parts.back_is)
              h.orders.never);
        };
        replies = untimed_replies s parts.front (subst (GiveReplies X s) (sym parts.front_is) h.linearization.replies);
      }

  -- ---- no order

  serializable_relaxed : (s : S) (calls : List (Call O)) → IsSerializable X s calls →
      IsLinearizable X s (alone 1 calls)
  serializable_relaxed s calls h =
      let ps = numbered 1 calls in
      let from = lifted call ps (h.order ++ h.selects.left)
      (subst (λ l. IsPermutation l (h.order ++ h.selects.left)) (sym (call_is 1 calls)) h.selects.all) in
      let parts = parted call from.from h.order h.selects.left from.gives in
      let moved : IsPermutation (alone 1 calls) (map own parts.front ++ map own parts.back) =
      subst (λ l. IsPermutation l (map own parts.front ++ map own parts.back)) (own_is 1 calls)
      (subst (IsPermutation (map own ps)) (ap (map own) parts.whole ∙ map-append own parts.front parts.back)
      (IsPermutation-map own ps from.from from.moved)) in
      record {
        order = map own parts.front;
        orders = record {
          left = map own parts.back;
          merges = moved_merges (alone 1 calls) (map own parts.front ++ map own parts.back) moved (alone_apart 1 calls);
          never = never_map call own (λ p. sym (same_completed p.1.end)) parts.back
              (subst (EachCall (λ c. is_completed c ≡ false)) (sym parts.back_is) h.selects.never);
        };
        linearization = apart_linearization X s (map own parts.front)
            (each_untimed own (λ p. untimed_is p.0 p.1) parts.front)
            (front_apart (map own parts.front) (map own parts.back)
            (moved_apart (alone 1 calls) (map own parts.front ++ map own parts.back) moved (alone_apart 1 calls)))
            (replies_map call own (λ p. refl) X (λ p. refl) s parts.front
            (subst (GiveReplies X s) (sym parts.front_is) h.replies));
      }

  pub relaxed_serializable : (s : S) (calls : List (Call O)) → IsLinearizable X s (alone 1 calls) →
      IsSerializable X s calls
  relaxed_serializable s calls h =
      let ps = numbered 1 calls in
      let from = lifted own ps (h.order ++ h.orders.left)
      (subst (λ l. IsPermutation l (h.order ++ h.orders.left)) (sym (own_is 1 calls))
      (merge_moves (alone 1 calls) (h.order ++ h.orders.left) h.orders.merges)) in
      let parts = parted own from.from h.order h.orders.left from.gives in
      record {
        order = map call parts.front;
        selects = record {
          left = map call parts.back;
          all = subst (λ l. IsPermutation l (map call parts.front ++ map call parts.back)) (call_is 1 calls)
              (subst (IsPermutation (map call ps)) (ap (map call) parts.whole ∙ map-append call parts.front parts.back)
              (IsPermutation-map call ps from.from from.moved));
          never = never_map own call (λ p. same_completed p.1.end) parts.back
              (subst (EachCall (λ c. is_completed c ≡ false)) (sym parts.back_is) h.orders.never);
        };
        replies = replies_map own call (λ p. refl) X (λ p. refl) s parts.front
            (subst (GiveReplies X s) (sym parts.front_is) h.linearization.replies);
      }

  pub relaxed_is_at : (kept : Level) (s : S) (calls : List (Call O)) → IsLinearizable X s (relax kept calls) →
      IsAt X kept s calls
  relaxed_is_at level.Linearizable s calls h = h
  relaxed_is_at level.Sequential s calls h = relaxed_sequential s calls h
  relaxed_is_at level.Serializable s calls h = relaxed_serializable s calls h

  pub at_is_relaxed : (kept : Level) (s : S) (calls : List (Call O)) → PendingAreLast calls → IsAt X kept s calls →
      IsLinearizable X s (relax kept calls)
  at_is_relaxed level.Linearizable s calls last h = h
  at_is_relaxed level.Sequential s calls last h = sequential_relaxed s calls last h
  at_is_relaxed level.Serializable s calls last h = serializable_relaxed s calls h

  pub level_is_relaxed : LevelIsRelaxed X
  level_is_relaxed kept s calls last = (at_is_relaxed kept s calls last, relaxed_is_at kept s calls)
