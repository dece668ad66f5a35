-- Lines without the order that a level does not keep, and how a search keeps them.
use Rattle.std.proofs.Common.{◌≡◌, ◌≢◌, ℕ, ◌+◌, ◌-◌, ◌^◌, ◌<◌, ◌≤◌, suc, zero, Bool, true, false, cond, List, [], ◌∷◌}
use Rattle.std.proofs.Common.{◌++◌}
use Rattle.std.proofs.Common.{is_some, nat_lt, length, map, get_or, refl, sym, ap, ◌∙◌, subst, inl}
use Rattle.std.proofs.Common.{inr, arith}
use Rattle.std.proofs.Common.{◌||◌}
use Rattle.std.specs.Prelude.{All, IsPermutation, take, nat_le}
use Rattle.std.specs.Global.{Vec}
use Rattle.std.proofs.lemmas.Bool.Decides.{nat_tests}
use Rattle.std.proofs.lemmas.List.{length-map, take_more}
use Rattle.std.proofs.lemmas.List.Elements.{All-cons, All-head, All-tail, All-nil}
use Rattle.std.proofs.lemmas.List.Sorted.{IsPermutation-map, All-permutation}
use Rattle.vac_model.specs.declared.tasks.Task.{Task}
use Rattle.vac_model.proofs.Kept.{lt_false}
use Rattle.judge_object.specs.declared.span.TheConstants.{NEVER}
use Rattle.judge_object.specs.declared.line.Line.{Line}
use Rattle.judge_object.specs.Call.{Call, IsBehind, EachCall, is_completed}
use Rattle.judge_object.specs.Orders.{of_client, IsMerge}
use Rattle.judge_object.specs.declared.level.Level.{Level}
use Rattle.judge_object.specs.declared.level.Level.TheVariants as level
use Rattle.judge_object.specs.Relaxed.{untimed_as, untimed, alone, relax, relaxed_call, OnlyLastIsPending}
use Rattle.judge_object.specs.Relaxed.{PendingAreLast, IsRelaxed}
use Rattle.judge_object.proofs.Merges.{test, AreApart, moved_apart, moved_merges, only_one}
use Rattle.judge_object.proofs.Times.{IsUntimed, last_rest}
use Rattle.judge_object.proofs.Levels.{alone_apart, untimed_is, clients_map, merge_map, only_map}
use Rattle.judge_object.proofs.Levels.{same_completed}
use Rattle.judge_reservations.specs.Reserving.{reserving}
use Rattle.judge_search.specs.Calls.{call_of, calls_of, no_call, soonest_of}
use Rattle.judge_search.specs.Sorting.{AreSortOf}
use Rattle.judge_search.specs.Walk.{InTurn, IsTimed, IsWhole}
use Rattle.judge_search.specs.Walking.{AreDistinct}
use Rattle.judge_search.proofs.Clients.{each_order}
use Rattle.judge_linear.specs.Reading.{AreNumbered, IsLineAt, AreKeptLines, call_at, numbers_of, texts_of}
use Rattle.judge_linear.specs.Relaxed.{IsCopy, IsRelaxedLine, AreRelaxedLines}
use Rattle.judge_linear.proofs.Kept.{at_soonest, numbers_soonest, distinct_sorted}

pub untimed_end : (line : Line Task) →
    (is_some line.reply || nat_le NEVER (cond {A = ℕ} (is_completed (call_of line)) 0 line.end)) ≡ true
untimed_end line = go (is_some line.reply) (nat_lt line.end NEVER) refl line.ended
  where
    go : (some completed : Bool) → nat_lt line.end NEVER ≡ completed → (some || nat_le NEVER line.end) ≡ true →
        (some || nat_le NEVER (cond {A = ℕ} completed 0 line.end)) ≡ true
    go true completed e h = refl
    go false true e h = absurd (let wrong : false ≡ true = grind (arith, nat_tests) in cc)
    go false false e h = h

-- a line with the times and the client that the level leaves
abbrev pub freed : Level → Line Task → Line Task
freed level.Linearizable line = line
freed level.Sequential line = record line {
  begin = 0;
  end = cond {A = ℕ} (is_completed (call_of line)) 0 line.end;
  ended = untimed_end line;
}
freed level.Serializable line = record line {
  client = line.number;
  begin = 0;
  end = cond {A = ℕ} (is_completed (call_of line)) 0 line.end;
  ended = untimed_end line;
}

freed_one : (kept : Level) (line : Line Task) → IsRelaxedLine kept line (freed kept line)
freed_one level.Linearizable line = record { number = refl; text = refl; call = refl }
freed_one level.Sequential line = record { number = refl; text = refl; call = refl }
freed_one level.Serializable line = record { number = refl; text = refl; call = refl }

abbrev pub freed_lines : Level → List (Line Task) → List (Line Task)
freed_lines kept lines = map (freed kept) lines

freed_call : (kept : Level) (line : Line Task) →
    call_of (freed kept line) ≡ relaxed_call kept line.number (call_of line)
freed_call level.Linearizable line = refl
freed_call level.Sequential line = refl
freed_call level.Serializable line = refl

pub freed_are : (kept : Level) (lines : List (Line Task)) → AreRelaxedLines kept lines (freed_lines kept lines)
freed_are kept [] = tt
freed_are kept (line ∷ lines) =
    (freed_one kept line, freed_are kept lines)

pub relaxed_numbers : (kept : Level) (lines relaxed : List (Line Task)) → AreRelaxedLines kept lines relaxed →
    numbers_of relaxed ≡ numbers_of lines
relaxed_numbers kept [] [] h = refl
relaxed_numbers kept [] (r ∷ rs) h = absurd h
relaxed_numbers kept (l ∷ ls) [] h = absurd h
relaxed_numbers kept (l ∷ ls) (r ∷ rs) h =
    ap (λ n. n ∷ numbers_of rs) h.0.number ∙ ap (λ ns. l.number ∷ ns) (relaxed_numbers kept ls rs h.1)

pub relaxed_texts : (kept : Level) (lines relaxed : List (Line Task)) → AreRelaxedLines kept lines relaxed →
    texts_of relaxed ≡ texts_of lines
relaxed_texts kept [] [] h = refl
relaxed_texts kept [] (r ∷ rs) h = absurd h
relaxed_texts kept (l ∷ ls) [] h = absurd h
relaxed_texts kept (l ∷ ls) (r ∷ rs) h =
    ap (λ t. t ∷ texts_of rs) h.0.text ∙ ap (λ ts. l.text.items ∷ ts) (relaxed_texts kept ls rs h.1)

relaxed_calls : (kept : Level) (lines relaxed : List (Line Task)) → AreRelaxedLines kept lines relaxed →
    calls_of relaxed ≡ calls_of (freed_lines kept lines)
relaxed_calls kept [] [] h = refl
relaxed_calls kept [] (r ∷ rs) h = absurd h
relaxed_calls kept (l ∷ ls) [] h = absurd h
relaxed_calls kept (l ∷ ls) (r ∷ rs) h =
    ap (λ c. c ∷ calls_of rs) (h.0.call ∙ sym (freed_call kept l))
    ∙ ap (λ cs. call_of (freed kept l) ∷ cs) (relaxed_calls kept ls rs h.1)

-- ---- the calls of such lines

linearizable_calls : (lines : List (Line Task)) → calls_of (freed_lines level.Linearizable lines) ≡ calls_of lines
linearizable_calls [] = refl
linearizable_calls (l ∷ ls) = ap (λ cs. call_of l ∷ cs) (linearizable_calls ls)

sequential_calls : (lines : List (Line Task)) →
    calls_of (freed_lines level.Sequential lines) ≡ map untimed (calls_of lines)
sequential_calls [] = refl
sequential_calls (l ∷ ls) = ap (λ cs. untimed (call_of l) ∷ cs) (sequential_calls ls)

serializable_calls : (n : ℕ) (lines : List (Line Task)) → AreNumbered n lines →
    calls_of (freed_lines level.Serializable lines) ≡ alone n (calls_of lines)
serializable_calls n [] h = refl
serializable_calls n (l ∷ ls) h =
    ap (λ k. untimed_as k (call_of l) ∷ calls_of (freed_lines level.Serializable ls)) h.0
    ∙ ap (λ cs. untimed_as n (call_of l) ∷ cs) (serializable_calls (n + 1) ls h.1)

pub freed_calls : (kept : Level) (lines : List (Line Task)) → AreNumbered 1 lines →
    calls_of (freed_lines kept lines) ≡ relax kept (calls_of lines)
freed_calls level.Linearizable lines h = linearizable_calls lines
freed_calls level.Sequential lines h = sequential_calls lines
freed_calls level.Serializable lines h = serializable_calls 1 lines h

freed_at : (kept : Level) (n : ℕ) (lines : List (Line Task)) (p : ℕ) → AreNumbered n lines → p < length lines →
    get_or (calls_of (freed_lines kept lines)) p (no_call reserving)
    ≡ relaxed_call kept (n + p) (get_or (calls_of lines) p (no_call reserving))
freed_at kept n [] p h l = absurd (omega arith)
freed_at kept n (x ∷ xs) zero h l =
    let at : x.number ≡ n + 0 = (let own = h.0 in omega arith) in
    freed_call kept x ∙ ap (λ k. relaxed_call kept k (call_of x)) at
freed_at kept n (x ∷ xs) (suc p) h l =
    let at : (n + 1) + p ≡ n + suc p = omega arith in
    freed_at kept (n + 1) xs p h.1 (omega arith)
    ∙ ap (λ k. relaxed_call kept k (get_or (calls_of xs) p (no_call reserving))) at

-- a relaxed line is that of its number among the relaxed lines
line_at : (kept : Level) (lines : List (Line Task)) (k r : Line Task) → AreNumbered 1 lines →
    IsRelaxedLine kept k r → IsLineAt lines k → IsLineAt (freed_lines kept lines) r
line_at kept lines k r n h at =
    let first = at.first in
    let last = at.last in
    let place : 1 + (k.number - 1) ≡ k.number = omega arith in
    record {
      first = subst (λ m. 1 ≤ m) (sym h.number) first;
      last = subst (λ m. m ≤ length (freed_lines kept lines)) (sym h.number)
          (subst (λ m. k.number ≤ m) (sym (length-map lines (freed kept))) last);
      text = ap (λ ts. get_or ts (r.number - 1) []) (relaxed_texts kept lines (freed_lines kept lines)
          (freed_are kept lines)) ∙ ap (λ m. get_or (texts_of lines) (m - 1) []) h.number ∙ at.text ∙ sym h.text;
      call = ap (call_at (calls_of (freed_lines kept lines))) h.number
          ∙ freed_at kept 1 lines (k.number - 1) n (omega arith)
          ∙ ap (λ m. relaxed_call kept m (call_at (calls_of lines) k.number)) place
          ∙ ap (relaxed_call kept k.number) at.call ∙ sym h.call;
    }

lines_at : (kept : Level) (lines ks rs : List (Line Task)) → AreNumbered 1 lines → AreRelaxedLines kept ks rs →
    All (IsLineAt lines) ks → All (IsLineAt (freed_lines kept lines)) rs
lines_at kept lines [] [] n h at = All-nil (IsLineAt (freed_lines kept lines))
lines_at kept lines [] (r ∷ rs) n h at = absurd h
lines_at kept lines (k ∷ ks) [] n h at = absurd h
lines_at kept lines (k ∷ ks) (r ∷ rs) n h at =
    All-cons (IsLineAt (freed_lines kept lines)) r rs
    (line_at kept lines k r n h.0 (All-head (IsLineAt lines) k ks at))
    (lines_at kept lines ks rs n h.1 (All-tail (IsLineAt lines) k ks at))

-- ---- each client's calls

soonest_freed : (kept : Level) (lines : List (Line Task)) →
    calls_of (freed_lines kept (soonest_of lines)) ≡ calls_of (freed_lines kept lines)
soonest_freed kept [] = refl
soonest_freed level.Linearizable (l ∷ ls) = ap (λ cs. call_of l ∷ cs) (soonest_freed level.Linearizable ls)
soonest_freed level.Sequential (l ∷ ls) =
    ap (λ cs. call_of (freed level.Sequential l) ∷ cs) (soonest_freed level.Sequential ls)
soonest_freed level.Serializable (l ∷ ls) =
    ap (λ cs. call_of (freed level.Serializable l) ∷ cs) (soonest_freed level.Serializable ls)

moved : (kept : Level) (lines sorted : List (Line Task)) → AreSortOf lines sorted →
    IsPermutation (calls_of (freed_lines kept lines)) (calls_of (freed_lines kept sorted))
moved kept lines sorted s =
    subst (IsPermutation (calls_of (freed_lines kept lines)))
    (sym (ap (λ (ls : List (Line Task)). calls_of (freed_lines kept ls)) s.2 ∙ soonest_freed kept s.0))
    (IsPermutation-map call_of (freed_lines kept lines) (freed_lines kept s.0)
    (IsPermutation-map (freed kept) lines s.0 s.1))

freed_merges : (kept : Level) (lines sorted : List (Line Task)) → AreNumbered 1 lines → AreSortOf lines sorted →
    IsMerge (calls_of lines) (calls_of sorted) →
    IsMerge (calls_of (freed_lines kept lines)) (calls_of (freed_lines kept sorted))
freed_merges level.Linearizable lines sorted n s m =
    subst (λ cs. IsMerge cs (calls_of (freed_lines level.Linearizable sorted))) (sym (linearizable_calls lines))
    (subst (IsMerge (calls_of lines)) (sym (linearizable_calls sorted)) m)
freed_merges level.Sequential lines sorted n s m =
    subst (λ cs. IsMerge cs (calls_of (freed_lines level.Sequential sorted))) (sym (sequential_calls lines))
    (subst (IsMerge (map untimed (calls_of lines))) (sym (sequential_calls sorted))
    (merge_map (calls_of lines) (calls_of sorted) m))
freed_merges level.Serializable lines sorted n s m =
    moved_merges (calls_of (freed_lines level.Serializable lines)) (calls_of (freed_lines level.Serializable sorted))
    (moved level.Serializable lines sorted s)
    (subst AreApart (sym (serializable_calls 1 lines n)) (alone_apart 1 (calls_of lines)))

relaxed_merges : (kept : Level) (lines sorted relaxed : List (Line Task)) → AreNumbered 1 lines →
    AreSortOf lines sorted → IsMerge (calls_of lines) (calls_of sorted) → AreRelaxedLines kept sorted relaxed →
    IsMerge (calls_of (freed_lines kept lines)) (calls_of relaxed)
relaxed_merges kept lines sorted relaxed n s m h =
    subst (IsMerge (calls_of (freed_lines kept lines))) (sym (relaxed_calls kept sorted relaxed h))
    (freed_merges kept lines sorted n s m)

-- relaxed lines are kept
pub relaxed_kept : (kept : Level) (lines sorted relaxed : List (Line Task)) → AreNumbered 1 lines →
    AreSortOf lines sorted → AreKeptLines lines sorted → AreRelaxedLines kept sorted relaxed →
    AreKeptLines (freed_lines kept lines) relaxed
relaxed_kept kept lines sorted relaxed n s k h = record {
  merges = relaxed_merges kept lines sorted relaxed n s k.merges h;
  each = lines_at kept lines sorted relaxed n h k.each;
  distinct = subst AreDistinct (sym (relaxed_numbers kept sorted relaxed h)) k.distinct;
}

-- and so they are if they are sorted again
pub sorted_kept : (lines relaxed sorted : List (Line Task)) → AreKeptLines lines relaxed → AreSortOf relaxed sorted →
    IsMerge (calls_of relaxed) (calls_of sorted) → AreKeptLines lines sorted
sorted_kept lines relaxed sorted k s m =
    subst (AreKeptLines lines) (sym s.2) (record {
      merges = λ client. subst (λ (ls : List (Line Task)). IsMerge (calls_of relaxed) (calls_of ls)) s.2 m client
          ∙ k.merges client;
      each = at_soonest lines s.0 (All-permutation (IsLineAt lines) relaxed s.0 s.1 k.each);
      distinct = subst AreDistinct (sym (numbers_soonest s.0))
          (distinct_sorted (numbers_of relaxed) (numbers_of s.0)
          (IsPermutation-map (λ (l : Line Task). l.number) relaxed s.0 s.1) k.distinct);
    })

-- ---- the calls of relaxed lines are in turn

abbrev Calls : Type 0
Calls = List (Call Task)

none_client : (P : Call Task → Type 0) (k : ℕ) (cs : Calls) → of_client k cs ≡ [] →
    EachCall (λ d. k ≡ d.client → P d) cs
none_client P k [] e = tt
none_client P k (c ∷ cs) e =
    elim (test c.client k) [
      | inl t ↦ let some : c ∷ of_client k cs ≡ [] = rw t.0 at e in cc
      | inr t ↦ ((λ s. absurd (t.1 (sym s))), none_client P k cs (rw t.0 at e))
    ]

each_behind : (x : Call Task) (cs : Calls) → x.end ≡ 0 → EachCall (λ d. IsBehind d x) cs
each_behind x [] e = tt
each_behind x (c ∷ cs) e = ((λ s. omega (arith, e)), each_behind x cs e)

no_more : (x : Call Task) (cs : Calls) → is_completed x ≡ false → OnlyLastIsPending (x ∷ cs) → cs ≡ []
no_more x [] e h = refl
no_more x (c ∷ cs) e h = absurd (differ (sym h.0 ∙ e))
  where
    differ : true ≡ false → ⊥
    differ f = cc

own_first : (x : Call Task) (cs : Calls) → OnlyLastIsPending (of_client x.client (x ∷ cs)) →
    OnlyLastIsPending (x ∷ of_client x.client cs)
own_first x cs h =
    elim (test x.client x.client) [
      | inl t ↦ rw t.0 at h
      | inr t ↦ absurd (t.1 refl)
    ]

behind : (x : Call Task) (cs : Calls) → IsUntimed x → OnlyLastIsPending (of_client x.client (x ∷ cs)) →
    EachCall (λ d. IsBehind d x) cs
behind x cs u h = go (is_completed x) refl
  where
    go : (b : Bool) → is_completed x ≡ b → EachCall (λ d. IsBehind d x) cs
    go true e = each_behind x cs (u.end e)
    go false e =
        none_client (λ d. x.end ≤ d.begin) x.client cs (no_more x (of_client x.client cs) e (own_first x cs h))

turn_untimed : (cs : Calls) → EachCall IsUntimed cs → PendingAreLast cs → InTurn cs
turn_untimed [] u h = tt
turn_untimed (c ∷ cs) u h = (
  (let own = u.0.begin in omega (arith, own)),
  behind c cs u.0 (h c.client),
  turn_untimed cs u.1 (λ k. last_rest k c cs (h k)),
)

untimed_each : (cs : Calls) → EachCall IsUntimed (map untimed cs)
untimed_each [] = tt
untimed_each (c ∷ cs) = (untimed_is c.client c, untimed_each cs)

serializable_each : (lines : List (Line Task)) → EachCall IsUntimed (calls_of (freed_lines level.Serializable lines))
serializable_each [] = tt
serializable_each (l ∷ ls) = (untimed_is l.number (call_of l), serializable_each ls)

apart_last : (cs : Calls) → AreApart cs → PendingAreLast cs
apart_last cs h k = only_one k cs (h k)

pub turn_relaxed : (kept : Level) (lines sorted relaxed : List (Line Task)) → kept ≢ level.Linearizable →
    AreNumbered 1 lines → AreSortOf lines sorted → IsMerge (calls_of lines) (calls_of sorted) →
    PendingAreLast (calls_of lines) → AreRelaxedLines kept sorted relaxed → InTurn (calls_of relaxed)
turn_relaxed kept lines sorted relaxed below n s m last h =
    subst InTurn (sym (relaxed_calls kept sorted relaxed h)) (go kept below)
  where
    go : (kept : Level) → kept ≢ level.Linearizable → InTurn (calls_of (freed_lines kept sorted))
    go level.Linearizable b = absurd (b refl)
    go level.Sequential b =
        subst InTurn (sym (sequential_calls sorted)) (turn_untimed (map untimed (calls_of sorted))
        (untimed_each (calls_of sorted)) (λ k. subst OnlyLastIsPending
        (sym (clients_map k (calls_of sorted) ∙ ap (map untimed) (m k)))
        (only_map (of_client k (calls_of lines)) (last k))))
    go level.Serializable b =
        turn_untimed (calls_of (freed_lines level.Serializable sorted)) (serializable_each sorted)
        (apart_last (calls_of (freed_lines level.Serializable sorted))
        (moved_apart (calls_of (freed_lines level.Serializable lines))
        (calls_of (freed_lines level.Serializable sorted)) (moved level.Serializable lines sorted s)
        (subst AreApart (sym (serializable_calls 1 lines n)) (alone_apart 1 (calls_of lines)))))

-- ---- they are timed

late : (b : Bool) (last e : ℕ) → (b ≡ false → last ≤ e) → b ≡ false → last ≤ cond {A = ℕ} b 0 e
late true last e h f = cc
late false last e h f = h f

timed_as : (last n : ℕ) (c : Call Task) → IsTimed last c → IsTimed last (untimed_as n c)
timed_as last n c t = record {
  begins = omega arith;
  ends = λ f. late (is_completed c) last c.end t.ends (sym (same_completed c.end) ∙ f);
}

timed_freed : (kept : Level) (last : ℕ) (lines : List (Line Task)) → EachCall (IsTimed last) (calls_of lines) →
    EachCall (IsTimed last) (calls_of (freed_lines kept lines))
timed_freed kept last [] h = tt
timed_freed kept last (l ∷ ls) h = (go kept, timed_freed kept last ls h.1)
  where
    go : (kept : Level) → IsTimed last (call_of (freed kept l))
    go level.Linearizable = h.0
    go level.Sequential = timed_as last l.client (call_of l) h.0
    go level.Serializable = timed_as last l.number (call_of l) h.0

pub whole_relaxed : (kept : Level) (lines sorted relaxed : List (Line Task)) (last : ℕ) →
    kept ≢ level.Linearizable → AreNumbered 1 lines → AreSortOf lines sorted →
    IsMerge (calls_of lines) (calls_of sorted) → PendingAreLast (calls_of lines) →
    AreRelaxedLines kept sorted relaxed → EachCall (IsTimed last) (calls_of lines) → IsWhole (calls_of relaxed)
whole_relaxed kept lines sorted relaxed last below n s m pending h timed = record {
  turn = turn_relaxed kept lines sorted relaxed below n s m pending h;
  last = last;
  timed = subst (EachCall (IsTimed last)) (sym (relaxed_calls kept sorted relaxed h))
      (timed_freed kept last sorted (each_order (IsTimed last) (calls_of lines) (calls_of sorted) m timed));
}

-- ---- a pending call is its client's last

first_late : (c d : Call Task) → IsTimed (2 ^ 64 - 1) d → IsBehind d c → c.client ≡ d.client →
    is_completed c ≡ true
first_late c d t h s = go (is_completed c) refl
  where
    go : (b : Bool) → is_completed c ≡ b → b ≡ true
    go true e = refl
    go false e =
        let end : NEVER ≤ c.end = lt_false c.end NEVER e in
        let begin = t.begins in
        let order = h s in absurd (omega arith)

head_late : (c : Call Task) (k : ℕ) (cs rest : Calls) → of_client k cs ≡ rest → c.client ≡ k →
    EachCall (IsTimed (2 ^ 64 - 1)) cs → EachCall (λ d. IsBehind d c) cs → OnlyLastIsPending rest →
    OnlyLastIsPending (c ∷ rest)
head_late c k cs [] e s t h o = tt
head_late c k [] (d ∷ ds) e s t h o = cc
head_late c k (x ∷ cs) (d ∷ ds) e s t h o =
    elim (test x.client k) [
      | inl f ↦
          let same : x ∷ of_client k cs ≡ d ∷ ds = rw f.0 at e in
          (first_late c x t.0 h.0 (s ∙ sym f.1), o)
      | inr f ↦ head_late c k cs (d ∷ ds) (rw f.0 at e) s t.1 h.1 o
    ]

pub pending_last : (cs : Calls) → InTurn cs → EachCall (IsTimed (2 ^ 64 - 1)) cs → PendingAreLast cs
pending_last [] h t k = tt
pending_last (c ∷ cs) h t k =
    elim (test c.client k) [
      | inl f ↦ rw f.0 (head_late c k cs (of_client k cs) refl f.1 t.1 h.1
          (pending_last cs h.2 t.1 k))
      | inr f ↦ rw f.0 (pending_last cs h.2 t.1 k)
    ]

-- ---- lines that are relaxed one by one

relaxed_append : (kept : Level) (ls rs : List (Line Task)) (l r : Line Task) → AreRelaxedLines kept ls rs →
    IsRelaxedLine kept l r → AreRelaxedLines kept (ls ++ l ∷ []) (rs ++ r ∷ [])
relaxed_append kept [] [] l r h one = (one, tt)
relaxed_append kept [] (y ∷ ys) l r h one = absurd h
relaxed_append kept (x ∷ xs) [] l r h one = absurd h
relaxed_append kept (x ∷ xs) (y ∷ ys) l r h one = (h.0, relaxed_append kept xs ys l r h.1 one)

-- a copy that is relaxed
pub relaxed_copy : (kept : Level) (line copy r : Line Task) → IsCopy line copy → IsRelaxed kept copy r →
    IsRelaxedLine kept line r
relaxed_copy kept line copy r c h = record {
  number = h.number ∙ c.number;
  text = ap (λ (text : Vec ℕ). text.items) h.text ∙ c.text;
  call = h.call ∙ ap (λ n. relaxed_call kept n (call_of copy)) c.number ∙ ap (relaxed_call kept line.number) c.call;
}

pub relaxed_more : (kept : Level) (lines old new : List (Line Task)) (at : ℕ) (line r : Line Task) →
    at < length lines → line ≡ get_or lines at line → AreRelaxedLines kept (take at lines) old →
    IsRelaxedLine kept line r → new ≡ old ++ r ∷ [] → AreRelaxedLines kept (take (at + 1) lines) new
relaxed_more kept lines old new at line r short is h one e =
    subst (AreRelaxedLines kept (take (at + 1) lines)) (sym e)
    (subst (λ ls. AreRelaxedLines kept ls (old ++ r ∷ []))
    (ap (λ l. take at lines ++ l ∷ []) is ∙ sym (take_more lines at line short))
    (relaxed_append kept (take at lines) old line r h one))
