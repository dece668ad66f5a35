-- A history is snapshot isolated at a level if and only if it is strong snapshot isolated without the order that the
-- level does not keep.
use Rattle.std.proofs.Common.{◌≡◌, ℕ, ◌+◌, ◌==◌, ◌||◌, Bool, true, false, cond, List, [], ◌∷◌}
use Rattle.std.proofs.Common.{◌++◌, map, refl, sym, ap, ◌∙◌, subst, inl, inr, arith}
use Rattle.std.specs.Prelude.{IsPermutation, nat_lt}
use Rattle.std.proofs.lemmas.List.{map-append}
use Rattle.std.proofs.lemmas.List.Sorted.{IsPermutation-map}
use Rattle.std.proofs.lemmas.Bool.Decides.{nat_tests}
use Rattle.judge_object.specs.declared.span.Span.{Span}
use Rattle.judge_object.specs.declared.level.Level.{Level}
use Rattle.judge_object.specs.declared.level.Level.TheVariants as level
use Rattle.judge_object.specs.Rules.{Rules}
use Rattle.judge_object.specs.Call.{Call, EachCall, is_completed, span_of}
use Rattle.judge_object.specs.Linear.{IsLinearization, CallsTakeTime, CallsAreSequential}
use Rattle.judge_object.specs.Linear.{CallsKeepPrecedence}
use Rattle.judge_object.specs.Levels.{IsSelectionOf}
use Rattle.judge_object.specs.Orders.{of_client, IsMerge, IsOrderOf}
use Rattle.judge_object.specs.Relaxed.{untimed, alone, relax, OnlyLastIsPending, PendingAreLast}
use Rattle.judge_object.proofs.Merges.{test, self, AreApart, count_cons, count_front, count_less, merge_moves}
use Rattle.judge_object.proofs.Merges.{parted, lifted, moved_merges, moved_apart}
use Rattle.judge_object.proofs.Times.{apart_linearization, last_linearization}
use Rattle.judge_object.proofs.Levels.{same_completed, numbered, own, call, own_is, call_is, alone_apart, untimed_is}
use Rattle.judge_object.proofs.Levels.{clients_map, merge_map, only_map}
use Rattle.judge_snapshot.specs.WriteSets.{WriteSets}
use Rattle.judge_snapshot.specs.Snapshots.{Transaction, Each, calls_of, MayCommitAll}
use Rattle.judge_snapshot.specs.Snapshots.{strong_needs, session_needs, plain_needs}
use Rattle.judge_snapshot.specs.Snapshots.{IsStrongSnapshotIsolated, IsSessionSnapshotIsolated, IsSnapshotIsolated}
use Rattle.judge_snapshot.specs.Levels.{IsIsolatedAt, LevelIsStrongWithoutOrder}
use Rattle.judge_snapshot.proofs.Lifted.{given}
use Rattle.judge_snapshot.proofs.Transfer.{Pairs, transferred}
use Rattle.judge_snapshot.proofs.Zipping.{echo, echoes, each_untimed, never_map, zipped, calls_pairs}

-- ---- what is needed without times

same_client : (a b : Bool) → (a || b) ≡ false → a ≡ false
same_client true b e = e
same_client false b e = refl

strong_of : (a b : Span) → b.begin ≡ 0 → (a.client == b.client) ≡ false → strong_needs a b ≡ false
strong_of a b z e = let none : nat_lt a.end b.begin ≡ false = grind (arith, nat_tests, z) in rw (e, none) refl

-- ---- calls of different clients

module _ {O : Type 0} where
  clients_apart : (p r : ℕ × Call O) (rest : List (Call O)) → AreApart (own p ∷ own r ∷ rest) →
      (p.0 == r.0) ≡ false
  clients_apart p r rest d =
      elim (test p.0 r.0) [
        | inl t ↦
            let one : cond {A = ℕ} (p.0 == r.0) 1 0 ≡ 1 = ap (λ (b : Bool). cond {A = ℕ} b 1 0) t.0 in
            let two : cond {A = ℕ} (r.0 == r.0) 1 0 ≡ 1 = ap (λ (b : Bool). cond {A = ℕ} b 1 0) (self r.0) in
            let all = count_cons r.0 (own p) (own r ∷ rest) in
            let more = count_cons r.0 (own r) rest in
            let most = d r.0 in
            absurd (omega (arith, one, two, all, more, most))
        | inr t ↦ t.0
      ]

  apart_first : (p r : ℕ × Call O) (rest : List (Call O)) → AreApart (own p ∷ own r ∷ rest) → AreApart (own p ∷ rest)
  apart_first p r rest d k =
      let all = count_cons k (own p) (own r ∷ rest) in
      let some = count_cons k (own p) rest in
      let less = count_less k (own r) rest in
      let most = d k in
      omega (arith, all, some, less, most)

  apart_rest : (p : ℕ × Call O) (rest : List (Call O)) → AreApart (own p ∷ rest) → AreApart rest
  apart_rest p rest d k = let less = count_less k (own p) rest in let most = d k in omega (arith, less, most)

  front_apart : (xs ys : List (Call O)) → AreApart (xs ++ ys) → AreApart xs
  front_apart xs ys h k = let all = h k in let less = count_front k xs ys in omega (arith, all, less)

module _ {S O R W : Type 0} (X : Rules S O R) (V : WriteSets S O W) where
  -- an order of calls without times, with the order of the transactions
  strong_of_order : (s : S) (calls : List (Call O)) (ts : List (Transaction O)) (order left : List (Call O)) →
      calls_of ts ≡ order → IsMerge calls (order ++ left) → EachCall (λ c. is_completed c ≡ false) left →
      MayCommitAll X V strong_needs s [] ts → IsLinearization (echo X.none) order order →
      IsStrongSnapshotIsolated X V s calls
  strong_of_order s calls ts order left e m n h l = record {
    order = ts;
    orders = subst (IsOrderOf calls) (sym e) (record { left = left; merges = m; never = n });
    commits = h;
    times = subst CallsTakeTime (sym e) l.times;
    clients = subst CallsAreSequential (sym e) l.clients;
    precedence = subst CallsKeepPrecedence (sym e) l.precedence;
  }

  -- ---- each client's order alone

  abbrev untimed_span : Call O → Span
  untimed_span c = span_of (untimed c)

  session_pairs : (qs : List (Call O × ℕ)) → Pairs X V session_needs strong_needs (λ c. c) span_of untimed_span qs
  session_pairs [] = tt
  session_pairs (q ∷ qs) = (each q qs, session_pairs qs)
    where
      each : (q : Call O × ℕ) (qs : List (Call O × ℕ)) →
          Each (λ r. session_needs (span_of q.0) (span_of r.0) ≡ false →
          strong_needs (untimed_span q.0) (untimed_span r.0) ≡ false) qs
      each q [] = tt
      each q (r ∷ qs) = (λ e. strong_of (untimed_span q.0) (untimed_span r.0) refl e, each q qs)

  pairs_session : (qs : List (Call O × ℕ)) → Pairs X V strong_needs session_needs (λ c. c) untimed_span span_of qs
  pairs_session [] = tt
  pairs_session (q ∷ qs) = (each q qs, pairs_session qs)
    where
      each : (q : Call O × ℕ) (qs : List (Call O × ℕ)) →
          Each (λ r. strong_needs (untimed_span q.0) (untimed_span r.0) ≡ false →
          session_needs (span_of q.0) (span_of r.0) ≡ false) qs
      each q [] = tt
      each q (r ∷ qs) = (λ e. same_client (q.0.client == r.0.client) (nat_lt (untimed_span q.0).end 0) e, each q qs)

  session_relaxed : (s : S) (calls : List (Call O)) → PendingAreLast calls → IsSessionSnapshotIsolated X V s calls →
      IsStrongSnapshotIsolated X V s (map untimed calls)
  session_relaxed s calls last h =
      let cs = calls_of h.order in
      let left = h.orders.left in
      let z = zipped (λ c. c) cs h.order (ids cs) in
      let ts = map (λ (q : Call O × ℕ). record { call = untimed q.0; missed = q.1 }) z.pairs in
      let merges : IsMerge (map untimed calls) (map untimed cs ++ map untimed left) =
      subst (IsMerge (map untimed calls)) (map-append untimed cs left) (merge_map calls (cs ++ left) h.orders.merges) in
      strong_of_order s (map untimed calls) ts (map untimed cs) (map untimed left)
      (calls_pairs untimed z.pairs ∙ ap (map untimed) z.firsts) merges
      (never_map (λ c. c) untimed (λ c. sym (same_completed c.end)) left
      (subst (EachCall (λ c. is_completed c ≡ false)) (sym (ids left)) h.orders.never))
      (transferred X V session_needs strong_needs (λ c. c) span_of untimed_span s [] [] z.pairs tt
      (session_pairs z.pairs)
      (subst (MayCommitAll X V session_needs s []) (sym z.are) h.commits))
      (last_linearization (echo X.none) (map untimed cs) (map untimed cs) (map untimed left)
      (each_untimed untimed (λ c. untimed_is c.client c) cs)
      (λ k. subst OnlyLastIsPending (sym (merges k ∙ clients_map k calls)) (only_map (of_client k calls) (last k)))
      (echoes X.none (map untimed cs)))
    where
      ids : (cs : List (Call O)) → map (λ c. c) cs ≡ cs
      ids [] = refl
      ids (c ∷ cs) = ap (λ l. c ∷ l) (ids cs)

  relaxed_session : (s : S) (calls : List (Call O)) → IsStrongSnapshotIsolated X V s (map untimed calls) →
      IsSessionSnapshotIsolated X V s calls
  relaxed_session s calls h =
      let from = given untimed (λ c. refl) (calls_of h.order ++ h.orders.left) calls h.orders.merges in
      let parts = parted untimed from.from (calls_of h.order) h.orders.left from.gives in
      let z = zipped untimed parts.front h.order parts.front_is in
      let ts = map (λ (q : Call O × ℕ). record { call = q.0; missed = q.1 }) z.pairs in
      let same : calls_of ts ≡ parts.front = calls_pairs (λ c. c) z.pairs ∙ ids (map (λ q. q.0) z.pairs) ∙ z.firsts in
      record {
        order = ts;
        orders = subst (IsOrderOf calls) (sym same) (record {
          left = parts.back;
          merges = subst (IsMerge calls) parts.whole from.merges;
          never = subst (EachCall (λ c. is_completed c ≡ false)) (ids parts.back)
              (never_map untimed (λ c. c) (λ c. same_completed c.end) parts.back
              (subst (EachCall (λ c. is_completed c ≡ false)) (sym parts.back_is) h.orders.never));
        });
        commits = transferred X V strong_needs session_needs (λ c. c) untimed_span span_of s [] [] z.pairs tt
            (pairs_session z.pairs) (subst (MayCommitAll X V strong_needs s []) (sym z.are) h.commits);
      }
    where
      ids : (cs : List (Call O)) → map (λ c. c) cs ≡ cs
      ids [] = refl
      ids (c ∷ cs) = ap (λ l. c ∷ l) (ids cs)

  -- ---- no order

  abbrev own_span : ℕ × Call O → Span
  own_span p = span_of (own p)

  abbrev call_span : ℕ × Call O → Span
  call_span p = span_of (call p)

  -- no later call has the client of an earlier one
  apart_pairs : (qs : List ((ℕ × Call O) × ℕ)) → AreApart (map own (map (λ q. q.0) qs)) →
      Pairs X V plain_needs strong_needs call call_span own_span qs
  apart_pairs [] d = tt
  apart_pairs (q ∷ qs) d = (each q.0 qs d, apart_pairs qs (apart_rest q.0 (map own (map (λ q. q.0) qs)) d))
    where
      each : (p : ℕ × Call O) (rs : List ((ℕ × Call O) × ℕ)) → AreApart (own p ∷ map own (map (λ q. q.0) rs)) →
          Each (λ r. plain_needs (call_span p) (call_span r.0) ≡ false →
          strong_needs (own_span p) (own_span r.0) ≡ false) rs
      each p [] d = tt
      each p (r ∷ rs) d = (
        λ e. strong_of (own_span p) (own_span r.0) refl (clients_apart p r.0 (map own (map (λ q. q.0) rs)) d),
        each p rs (apart_first p r.0 (map own (map (λ q. q.0) rs)) d),
      )

  pairs_plain : (qs : List ((ℕ × Call O) × ℕ)) → Pairs X V strong_needs plain_needs call own_span call_span qs
  pairs_plain [] = tt
  pairs_plain (q ∷ qs) = (each q.0 qs, pairs_plain qs)
    where
      each : (p : ℕ × Call O) (rs : List ((ℕ × Call O) × ℕ)) →
          Each (λ r. strong_needs (own_span p) (own_span r.0) ≡ false →
          plain_needs (call_span p) (call_span r.0) ≡ false) rs
      each p [] = tt
      each p (r ∷ rs) = (λ e. refl, each p rs)

  snapshot_relaxed : (s : S) (calls : List (Call O)) → IsSnapshotIsolated X V s calls →
      IsStrongSnapshotIsolated X V s (alone 1 calls)
  snapshot_relaxed s calls h =
      let cs = calls_of h.order in
      let left = h.selects.left in
      let ps = numbered 1 calls in
      let from = lifted call ps (cs ++ left) (subst (λ l. IsPermutation l (cs ++ left)) (sym (call_is 1 calls))
      h.selects.all) in
      let parts = parted call from.from cs left from.gives in
      let moved : IsPermutation (alone 1 calls) (map own parts.front ++ map own parts.back) =
      subst (λ l. IsPermutation l (map own parts.front ++ map own parts.back)) (own_is 1 calls)
      (subst (IsPermutation (map own ps)) (ap (map own) parts.whole ∙ map-append own parts.front parts.back)
      (IsPermutation-map own ps from.from from.moved)) in
      let apart : AreApart (map own parts.front) =
      front_apart (map own parts.front) (map own parts.back)
      (moved_apart (alone 1 calls) (map own parts.front ++ map own parts.back) moved (alone_apart 1 calls)) in
      let z = zipped call parts.front h.order parts.front_is in
      strong_of_order s (alone 1 calls) (map (λ q. record { call = own q.0; missed = q.1 }) z.pairs)
      (map own parts.front) (map own parts.back) (calls_pairs own z.pairs ∙ ap (map own) z.firsts)
      (moved_merges (alone 1 calls) (map own parts.front ++ map own parts.back) moved (alone_apart 1 calls))
      (never_map call own (λ p. sym (same_completed p.1.end)) parts.back
      (subst (EachCall (λ c. is_completed c ≡ false)) (sym parts.back_is) h.selects.never))
      (transferred X V plain_needs strong_needs call call_span own_span s [] [] z.pairs tt
      (apart_pairs z.pairs (subst AreApart (sym (ap (map own) z.firsts)) apart))
      (subst (MayCommitAll X V plain_needs s []) (sym z.are) h.commits))
      (apart_linearization (echo X.none) (map own parts.front) (map own parts.front)
      (each_untimed own (λ p. untimed_is p.0 p.1) parts.front) apart (echoes X.none (map own parts.front)))

  relaxed_snapshot : (s : S) (calls : List (Call O)) → IsStrongSnapshotIsolated X V s (alone 1 calls) →
      IsSnapshotIsolated X V s calls
  relaxed_snapshot s calls h =
      let cs = calls_of h.order in
      let left = h.orders.left in
      let ps = numbered 1 calls in
      let from = lifted own ps (cs ++ left) (subst (λ l. IsPermutation l (cs ++ left)) (sym (own_is 1 calls))
      (merge_moves (alone 1 calls) (cs ++ left) h.orders.merges)) in
      let parts = parted own from.from cs left from.gives in
      let z = zipped own parts.front h.order parts.front_is in
      let ts = map (λ (q : (ℕ × Call O) × ℕ). record { call = call q.0; missed = q.1 }) z.pairs in
      let same : calls_of ts ≡ map call parts.front = calls_pairs call z.pairs ∙ ap (map call) z.firsts in
      record {
        order = ts;
        selects = subst (IsSelectionOf calls) (sym same) (record {
          left = map call parts.back;
          all = subst (λ l. IsPermutation l (map call parts.front ++ map call parts.back)) (call_is 1 calls)
              (subst (IsPermutation (map call ps)) (ap (map call) parts.whole ∙ map-append call parts.front parts.back)
              (IsPermutation-map call ps from.from from.moved));
          never = never_map own call (λ p. same_completed p.1.end) parts.back
              (subst (EachCall (λ c. is_completed c ≡ false)) (sym parts.back_is) h.orders.never);
        });
        commits = transferred X V strong_needs plain_needs call own_span call_span s [] [] z.pairs tt
            (pairs_plain z.pairs) (subst (MayCommitAll X V strong_needs s []) (sym z.are) h.commits);
      }

  -- ---- all levels

  relaxed : (kept : Level) (s : S) (calls : List (Call O)) → PendingAreLast calls → IsIsolatedAt X V kept s calls →
      IsStrongSnapshotIsolated X V s (relax kept calls)
  relaxed level.Linearizable s calls last h = h
  relaxed level.Sequential s calls last h = session_relaxed s calls last h
  relaxed level.Serializable s calls last h = snapshot_relaxed s calls h

  isolated : (kept : Level) (s : S) (calls : List (Call O)) → IsStrongSnapshotIsolated X V s (relax kept calls) →
      IsIsolatedAt X V kept s calls
  isolated level.Linearizable s calls h = h
  isolated level.Sequential s calls h = relaxed_session s calls h
  isolated level.Serializable s calls h = relaxed_snapshot s calls h

  pub level_is_strong_without_order : LevelIsStrongWithoutOrder X V
  level_is_strong_without_order kept s calls last = (relaxed kept s calls last, isolated kept s calls)
