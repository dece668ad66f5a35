-- Calls without the order that a level does not keep: they are in turn, and as many as before.
use Rattle.std.proofs.Common.{◌≡◌, ℕ, ◌+◌, ◌-◌, ◌^◌, ◌≤◌, suc, Bool, true, false, List, [], ◌∷◌, ◌++◌, length, map}
use Rattle.std.proofs.Common.{refl, sym, ap, ◌∙◌, subst, inl, inr, arith, nat_lt}
use Rattle.std.proofs.lemmas.Bool.Decides.{nat_tests}
use Rattle.std.specs.Set.{distinct_count}
use Rattle.std.specs.Str.{bytes_eq}
use Rattle.judge_object.specs.declared.span.TheConstants.{NEVER}
use Rattle.judge_object.specs.declared.line.Line.{Line}
use Rattle.judge_object.specs.declared.level.Level.{Level}
use Rattle.judge_object.specs.declared.level.Level.TheVariants as level
use Rattle.judge_object.specs.Call.{Call, IsBehind, EachCall, is_completed}
use Rattle.judge_object.specs.Orders.{of_client}
use Rattle.judge_object.specs.Relaxed.{untimed_as, untimed, alone, relax, OnlyLastIsPending, PendingAreLast, IsRelaxed}
use Rattle.judge_object.proofs.Merges.{test, AreApart, only_one}
use Rattle.judge_object.proofs.Times.{IsUntimed, last_rest}
use Rattle.judge_object.proofs.Levels.{alone_apart, untimed_is, clients_map, only_map}
use Rattle.judge_search.specs.Calls.{call_of, calls_of}
use Rattle.judge_search.specs.Walk.{InTurn, IsTimed}
use Rattle.judge_text.specs.declared.counting.Counts.{Counts}
use Rattle.judge_text.specs.Counting.{clients_in, objects_in, counts_of}
use Rattle.judge_text.specs.Reading.{AreNumbered}
use Rattle.judge_text.specs.Relaxing.{AreRelaxed}

late_end : (end : ℕ) → nat_lt end NEVER ≡ false → NEVER ≤ end
late_end end e = grind (arith, nat_tests)

module _ {O : Type 0} where
  -- ---- the calls of relaxed lines

  linearizable_calls : (lines relaxed : List (Line O)) → AreRelaxed level.Linearizable lines relaxed →
      calls_of relaxed ≡ calls_of lines
  linearizable_calls [] [] h = refl
  linearizable_calls [] (r ∷ rs) h = absurd h
  linearizable_calls (l ∷ ls) [] h = absurd h
  linearizable_calls (l ∷ ls) (r ∷ rs) h =
      ap (λ c. c ∷ calls_of rs) h.0.call ∙ ap (λ cs. call_of l ∷ cs) (linearizable_calls ls rs h.1)

  sequential_calls : (lines relaxed : List (Line O)) → AreRelaxed level.Sequential lines relaxed →
      calls_of relaxed ≡ map untimed (calls_of lines)
  sequential_calls [] [] h = refl
  sequential_calls [] (r ∷ rs) h = absurd h
  sequential_calls (l ∷ ls) [] h = absurd h
  sequential_calls (l ∷ ls) (r ∷ rs) h =
      ap (λ c. c ∷ calls_of rs) h.0.call ∙ ap (λ cs. untimed (call_of l) ∷ cs) (sequential_calls ls rs h.1)

  serializable_calls : (n : ℕ) (lines relaxed : List (Line O)) → AreNumbered n lines →
      AreRelaxed level.Serializable lines relaxed → calls_of relaxed ≡ alone n (calls_of lines)
  serializable_calls n [] [] m h = refl
  serializable_calls n [] (r ∷ rs) m h = absurd h
  serializable_calls n (l ∷ ls) [] m h = absurd h
  serializable_calls n (l ∷ ls) (r ∷ rs) m h =
      ap (λ c. c ∷ calls_of rs) (h.0.call ∙ ap (λ k. untimed_as k (call_of l)) m.0)
      ∙ ap (λ cs. untimed_as n (call_of l) ∷ cs) (serializable_calls (n + 1) ls rs m.1 h.1)

  pub relaxed_calls : (kept : Level) (lines relaxed : List (Line O)) → AreNumbered 1 lines →
      AreRelaxed kept lines relaxed → calls_of relaxed ≡ relax kept (calls_of lines)
  relaxed_calls level.Linearizable lines relaxed n h = linearizable_calls lines relaxed h
  relaxed_calls level.Sequential lines relaxed n h = sequential_calls lines relaxed h
  relaxed_calls level.Serializable lines relaxed n h = serializable_calls 1 lines relaxed n h

  pub relaxed_numbered : (kept : Level) (n : ℕ) (lines relaxed : List (Line O)) → AreNumbered n lines →
      AreRelaxed kept lines relaxed → AreNumbered n relaxed
  relaxed_numbered kept n [] [] m h = tt
  relaxed_numbered kept n [] (r ∷ rs) m h = absurd h
  relaxed_numbered kept n (l ∷ ls) [] m h = absurd h
  relaxed_numbered kept n (l ∷ ls) (r ∷ rs) m h =
      (h.0.number ∙ m.0, relaxed_numbered kept (n + 1) ls rs m.1 h.1)

  pub relaxed_append : (kept : Level) (ls rs : List (Line O)) (l r : Line O) → AreRelaxed kept ls rs →
      IsRelaxed kept l r → AreRelaxed kept (ls ++ l ∷ []) (rs ++ r ∷ [])
  relaxed_append kept [] [] l r h one = (one, tt)
  relaxed_append kept [] (y ∷ ys) l r h one = absurd h
  relaxed_append kept (x ∷ xs) [] l r h one = absurd h
  relaxed_append kept (x ∷ xs) (y ∷ ys) l r h one = (h.0, relaxed_append kept xs ys l r h.1 one)

  -- ---- their counts

  ops_untimed : (calls : List (Call O)) → map (λ (call : Call O). call.op) (map untimed calls) ≡ map
      (λ call. call.op) calls
  ops_untimed [] = refl
  ops_untimed (c ∷ cs) = ap (λ ops. c.op ∷ ops) (ops_untimed cs)

  ops_alone : (n : ℕ) (calls : List (Call O)) → map (λ (call : Call O). call.op) (alone n calls) ≡ map
      (λ call. call.op) calls
  ops_alone n [] = refl
  ops_alone n (c ∷ cs) = ap (λ ops. c.op ∷ ops) (ops_alone (n + 1) cs)

  pub ops_relaxed : (kept : Level) (calls : List (Call O)) →
      map (λ (call : Call O). call.op) (relax kept calls) ≡ map (λ call. call.op) calls
  ops_relaxed level.Linearizable calls = refl
  ops_relaxed level.Sequential calls = ops_untimed calls
  ops_relaxed level.Serializable calls = ops_alone 1 calls

  -- ---- their turns

  none_client : (P : Call O → Type 0) (k : ℕ) (cs : List (Call O)) → of_client k cs ≡ [] →
      EachCall (λ d. k ≡ d.client → P d) cs
  none_client P k [] e = tt
  none_client P k (c ∷ cs) e =
      elim (test c.client k) [
        | inl t ↦ let some : c ∷ of_client k cs ≡ [] = rw t.0 at e in cc
        | inr t ↦ ((λ s. absurd (t.1 (sym s))), none_client P k cs (rw t.0 at e))
      ]

  each_behind : (x : Call O) (cs : List (Call O)) → x.end ≡ 0 → EachCall (λ d. IsBehind d x) cs
  each_behind x [] e = tt
  each_behind x (c ∷ cs) e = ((λ s. omega (arith, e)), each_behind x cs e)

  no_more : (x : Call O) (cs : List (Call O)) → is_completed x ≡ false → OnlyLastIsPending (x ∷ cs) → cs ≡ []
  no_more x [] e h = refl
  no_more x (c ∷ cs) e h = absurd (differ (sym h.0 ∙ e))
    where
      differ : true ≡ false → ⊥
      differ f = cc

  own_first : (x : Call O) (cs : List (Call O)) → OnlyLastIsPending (of_client x.client (x ∷ cs)) →
      OnlyLastIsPending (x ∷ of_client x.client cs)
  own_first x cs h =
      elim (test x.client x.client) [
        | inl t ↦ rw t.0 at h
        | inr t ↦ absurd (t.1 refl)
      ]

  behind : (x : Call O) (cs : List (Call O)) → IsUntimed x → OnlyLastIsPending (of_client x.client (x ∷ cs)) →
      EachCall (λ d. IsBehind d x) cs
  behind x cs u h = go (is_completed x) refl
    where
      go : (b : Bool) → is_completed x ≡ b → EachCall (λ d. IsBehind d x) cs
      go true e = each_behind x cs (u.end e)
      go false e =
          none_client (λ d. x.end ≤ d.begin) x.client cs (no_more x (of_client x.client cs) e (own_first x cs h))

  turn_untimed : (cs : List (Call O)) → EachCall IsUntimed cs → PendingAreLast cs → InTurn cs
  turn_untimed [] u h = tt
  turn_untimed (c ∷ cs) u h = (
    (let own = u.0.begin in omega (arith, own)),
    behind c cs u.0 (h c.client),
    turn_untimed cs u.1 (λ k. last_rest k c cs (h k)),
  )

  untimed_each : (cs : List (Call O)) → EachCall IsUntimed (map untimed cs)
  untimed_each [] = tt
  untimed_each (c ∷ cs) = (untimed_is c.client c, untimed_each cs)

  alone_each : (n : ℕ) (cs : List (Call O)) → EachCall IsUntimed (alone n cs)
  alone_each n [] = tt
  alone_each n (c ∷ cs) = (untimed_is n c, alone_each (n + 1) cs)

  pub turn_sequential : (cs : List (Call O)) → PendingAreLast cs → InTurn (map untimed cs)
  turn_sequential cs last = turn_untimed (map untimed cs) (untimed_each cs)
      (λ k. subst OnlyLastIsPending (sym (clients_map k cs)) (only_map (of_client k cs) (last k)))

  pub turn_serializable : (cs : List (Call O)) → InTurn (alone 1 cs)
  turn_serializable cs = turn_untimed (alone 1 cs) (alone_each 1 cs) (λ k. only_one k (alone 1 cs) (alone_apart 1 cs k))

  -- ---- a pending call is its client's last

  first_late : (c d : Call O) → IsTimed (2 ^ 64 - 1) d → IsBehind d c → c.client ≡ d.client → is_completed c ≡ true
  first_late c d t h s = go (is_completed c) refl
    where
      go : (b : Bool) → is_completed c ≡ b → b ≡ true
      go true e = refl
      go false e =
          let end : NEVER ≤ c.end = late_end c.end e in
          let begin = t.begins in
          let order = h s in absurd (omega arith)

  head_late : (c : Call O) (k : ℕ) (cs rest : List (Call O)) → of_client k cs ≡ rest → c.client ≡ k →
      EachCall (IsTimed (2 ^ 64 - 1)) cs → EachCall (λ d. IsBehind d c) cs → OnlyLastIsPending rest →
      OnlyLastIsPending (c ∷ rest)
  head_late c k cs [] e s t h o = tt
  head_late c k [] (d ∷ ds) e s t h o = cc
  head_late c k (x ∷ cs) (d ∷ ds) e s t h o =
      elim (test x.client k) [
        | inl f ↦
            let same : x ∷ of_client k cs ≡ d ∷ ds = rw f.0 at e in
            (first_late c x t.0 h.0 (s ∙ sym f.1), o)
        | inr f ↦ head_late c k cs (d ∷ ds) (rw f.0 at e) s t.1 h.1 o
      ]

  pub pending_last : (cs : List (Call O)) → InTurn cs → EachCall (IsTimed (2 ^ 64 - 1)) cs → PendingAreLast cs
  pending_last [] h t k = tt
  pending_last (c ∷ cs) h t k =
      elim (test c.client k) [
        | inl f ↦ rw f.0 (head_late c k cs (of_client k cs) refl f.1 t.1 h.1
            (pending_last cs h.2 t.1 k))
        | inr f ↦ rw f.0 (pending_last cs h.2 t.1 k)
      ]

-- the counts of calls are those of their relaxed lines, with the clients of the calls
pub counted_relaxed : {O : Type 0} (name : O → List ℕ) (kept : Level) (calls relaxed : List (Call O)) (counts : Counts)
    (clients : ℕ) → relaxed ≡ relax kept calls → clients ≡ clients_in calls →
    counts ≡ record (counts_of name relaxed) { clients = clients } → counts ≡ counts_of name calls
counted_relaxed {O} name kept calls relaxed counts clients e k c =
    c
    ∙ ap (λ (n : ℕ). record (counts_of name relaxed) { clients = n }) k
    ∙ ap (λ (cs : List (Call O)). counts_with cs) e
    ∙ same
  where
    counts_with : List (Call O) → Counts
    counts_with cs = record (counts_of name cs) { clients = clients_in calls }

    ops : (cs : List (Call O)) → List O
    ops cs = map (λ call. call.op) cs

    long : (cs : List (Call O)) → length (ops cs) ≡ length cs
    long [] = refl
    long (x ∷ xs) = ap suc (long xs)

    named : (cs : List (Call O)) → map (λ (call : Call O). name call.op) cs ≡ map name (ops cs)
    named [] = refl
    named (x ∷ xs) = ap (λ ns. name x.op ∷ ns) (named xs)

    of_ops : List O → Counts
    of_ops os = record {
      calls = length os;
      clients = clients_in calls;
      objects = distinct_count bytes_eq (map name os);
    }

    is_of_ops : (cs : List (Call O)) → counts_with cs ≡ of_ops (ops cs)
    is_of_ops cs =
        ap (λ (n : ℕ). record { calls = n; clients = clients_in calls; objects = objects_in name cs }) (sym (long cs))
        ∙ ap (λ (ns : List (List ℕ)). record {
          calls = length (ops cs);
          clients = clients_in calls;
          objects = distinct_count bytes_eq ns;
        }) (named cs)

    same : counts_with (relax kept calls) ≡ counts_of name calls
    same = is_of_ops (relax kept calls) ∙ ap of_ops (ops_relaxed kept calls) ∙ sym (is_of_ops calls)
