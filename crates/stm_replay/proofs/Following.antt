-- The running core follows the core, event by event.
use Rattle.std.proofs.Common.{◌≡◌, ◌≢◌, ℕ, zero, suc, ◌+◌, ◌-◌, ◌*◌, ◌^◌, ◌≤◌, ◌<◌, ◌⊎◌, inl, inr, ⊎_elim, Bool, true}
use Rattle.std.proofs.Common.{false, cond, eqb, ltb, append-nil, ◌&&◌, ◌||◌, List, [], ◌∷◌, ◌++◌, length, length-set}
use Rattle.std.proofs.Common.{set, get_or, map, replicate, slice_set, refl, sym, ap, ◌∙◌, subst, arith}
use mathlib.Core.Option.{some}
use lib.ListN.{get_elem?}
use Rattle.std.proofs.lemmas.Bool.Decides.{nat_tests}
use Rattle.std.proofs.lemmas.List.{length-replicate}
use Rattle.tx_memory.specs.Image.{In}
use Rattle.stm_core.specs.Client.{shed, Client, Record, Stamp, checked, locked, ticked, validated, version_of}
use Rattle.stm_core.specs.Client.{word_before, value_fetched, writes_to, old_version, is_committed}
use Rattle.stm_core.specs.Event.{decision, Action, begin, check, lock, tick, validate, release, give_back, committed_by}
use Rattle.stm_core.specs.Event.{stepping, failing, read_too, holding, versioned, decides_at_once, won, passes, passing}
use Rattle.stm_core.specs.Event.{after, giving, fresh, taking, renewing, gone, with_ticks, marking, counting}
use Rattle.stm_core.specs.History.{ByPoint}
use Rattle.stm_core.specs.Core.{stamp_of, Core, bounds_of, found, left, written, Event, acts, splits, gathers, renews}
use Rattle.stm_core.specs.Core.{Allowed, client_of, played, Leads, opened, is_out, are_gathered, others_gathered}
use Rattle.stm_core.specs.Core.{may_play}
use Rattle.stm_core.specs.Theorem.{free_law, IsHistory}
use Rattle.stm_core.specs.Invariant.{Inv, now, Rule}
use Rattle.stm_replay.specs.Seat.{blank, seat_after}
use Rattle.stm_replay.specs.Running.{Running, IsSane, stripes_of, may_run, has_number, entered, run_acts, run_played}
use Rattle.stm_replay.specs.Running.{run_opened, found_of, shown_core, ran}
use Rattle.stm_replay.specs.Placing.{Placed}
use Rattle.stm_replay.specs.Follows.{IsOrderOfCore, IsReached, FollowsCore, RunningFollows}
use Rattle.stm_core.proofs.Lists.{clash, nothing_in, by_bool}
use Rattle.stm_core.proofs.Steps.{by_case, word_inside}
use Rattle.stm_core.proofs.Held.{old_in}
use Rattle.stm_core.proofs.Playing.{filed, earlier_after, history_after, Beside, event_beside, opening_beside}
use Rattle.stm_core.proofs.Playing.{is_history, every_list_is_serializable}
use Rattle.stm_core.proofs.Dating.{placed, placed_in}
use Rattle.stm_replay.proofs.Placing.{order_of, as_kept, decision_shown, entered_order, one_history}
use Rattle.stm_core.proofs.Facts.{grants_of_two}
use Rattle.stm_core.proofs.Conditions.{can_play, free_event, out_test}
use Rattle.stm_replay.proofs.Counting.{run_test}
use Rattle.stm_core.specs.Guards.{may_act, stripe_of}

get_map : (l : List Client) (i : ℕ) → get_or (map blank l) i gone ≡ blank (get_or l i gone)
get_map [] i = refl
get_map (x ∷ l) zero = refl
get_map (x ∷ l) (suc i) = get_map l i

map_set : (l : List Client) (i : ℕ) (v : Client) → map blank (set l i v) ≡ set (map blank l) i (blank v)
map_set [] i v = refl
map_set (x ∷ l) zero v = refl
map_set (x ∷ l) (suc i) v = ap (λ m. blank x ∷ m) (map_set l i v)

map_snoc : (l : List Client) (v : Client) → map blank (l ++ v ∷ []) ≡ map blank l ++ blank v ∷ []
map_snoc [] v = refl
map_snoc (x ∷ l) v = ap (λ m. blank x ∷ m) (map_snoc l v)

map_length : (l : List Client) → length (map blank l) ≡ length l
map_length [] = refl
map_length (x ∷ l) = ap suc (map_length l)

client_shown : (c : Core) (k : ℕ) → client_of (shown_core c) k ≡ blank (client_of c k)
client_shown c k = get_map c.clients (k - 1)

found_shown : (lk : ℕ → ℕ) (c : Core) (e : Action) → found lk (shown_core c) e ≡ found lk c e
found_shown lk c begin = refl
found_shown lk c _ = refl

left_shown : (e : Action) (n : ℕ) (v : Client) → left e n (blank v) ≡ left e n v
left_shown begin n v = refl
left_shown _ n v = refl

after_shown : (t : Stamp) (lk : ℕ → ℕ) (e : Action) (n : ℕ) (v : Client) →
    blank (after t lk e n v) ≡ seat_after t.place e n (blank v)
after_shown t lk (check a) n v = by_case (λ b. blank (stepping (checked a (word_before v.attempt.last) n)
    (cond b (read_too a (value_fetched v.attempt.last) v) (failing v))) ≡ blank
    (stepping (checked a (word_before v.attempt.last) n) (cond b (read_too a (value_fetched v.attempt.last) (blank v))
    (failing (blank v))))) (eqb n (word_before v.attempt.last)) (λ e. refl) (λ e. refl)
after_shown t lk (lock k) n v = by_case (λ b. blank (stepping (locked k (word_before v.attempt.last) n)
    (cond b (holding k (version_of n) v) (failing v))) ≡ blank
    (stepping (locked k (word_before v.attempt.last) n) (cond b (holding k (version_of n) (blank v))
    (failing (blank v))))) (eqb n (word_before v.attempt.last)) (λ e. refl) (λ e. refl)
after_shown t lk (tick from tag writes) n v =
    let u : Stamp = record { client = 0; place = t.place; renewal = 0 } in
    let w = versioned t (from + 1) tag writes v in
    let w' = versioned u (from + 1) tag writes (blank v) in
    by_case (λ b. blank (with_ticks (v.attempt.ticks + 1) n (stepping (ticked from n)
    (cond b (won t (from + 1) tag writes v) v))) ≡ blank
    (with_ticks (v.attempt.ticks + 1) n (stepping (ticked from n)
    (cond b (won u (from + 1) tag writes (blank v)) (blank v))))) (eqb n from)
    (λ e. by_case (λ b. blank (with_ticks (v.attempt.ticks + 1) n
    (stepping (ticked from n) (cond b (committed_by t w) w))) ≡ blank
    (with_ticks (v.attempt.ticks + 1) n (stepping (ticked from n) (cond b (committed_by u w') w'))))
    (decides_at_once w) (λ z. refl) (λ z. refl))
    (λ e. refl)
after_shown t lk (validate k) n v =
    let u : Stamp = record { client = 0; place = t.place; renewal = 0 } in
    let w : Client = counting v in
    let w' : Client = counting (blank v) in
    by_case (λ b. blank (marking (writes_to v.attempt.held k)
    (stepping (validated k n) (cond b (passing t v) (failing v)))) ≡ blank
    (marking (writes_to v.attempt.held k) (stepping (validated k n)
    (cond b (passing u (blank v)) (failing (blank v)))))) (passes k n v)
    (λ e. by_case (λ b. blank (marking (writes_to v.attempt.held k)
    (stepping (validated k n) (cond b (committed_by t w) w))) ≡ blank
    (marking (writes_to v.attempt.held k) (stepping (validated k n) (cond b (committed_by u w') w'))))
    (eqb (v.attempt.passed + 1) (length v.attempt.reads)) (λ z. refl) (λ z. refl))
    (λ e. refl)
after_shown t lk _ n v = refl

written_shown : (e : Action) (m : ℕ) (c : Core) (cs : List Client) →
    record (written e m (shown_core c)) { clients = map blank cs; events = c.events + 1 } ≡ shown_core
    (record (written e m c) { clients = cs; events = c.events + 1 })
written_shown begin m c cs = refl
written_shown _ m c cs = refl

entered_core : (rs : List Record) (s : Running) → (entered rs s).core ≡ s.core
entered_core [] s = refl
entered_core (r ∷ rs) s = refl

-- an event keeps that the running core shows the core
play_shown : (e : Event) (c : Core) (s : Running) → s.core ≡ shown_core c →
    (run_played e s).core ≡ shown_core (played (stripes_of c) e c)
play_shown (acts k e) c s same =
    let t = stamp_of (shown_core c) k in
    let v = client_of c k in
    let n = found (stripes_of c) c e in
    let w = after (record { client = k; place = c.events; renewal = c.renewal }) (stripes_of c) e n v in
    subst (λ d. (run_acts k e (record s { core = d })).core ≡ shown_core (played (stripes_of c) (acts k e) c))
    (sym same)
    (entered_core (decision t e (found (stripes_of c) (shown_core c) e) (client_of (shown_core c) k))
    (record s {
      core = record (written e (left e (found (stripes_of c) (shown_core c) e) (client_of (shown_core c) k))
          (shown_core c)) {
            clients = slice_set (map blank c.clients) (k - 1) (seat_after c.events e
                (found (stripes_of c) (shown_core c) e) (client_of (shown_core c) k));
            events = c.events + 1;
          };
    })
    ∙ (rw (
      found_shown (stripes_of c) c e,
      client_shown c k,
      left_shown e n v,
      ← after_shown (record { client = k; place = c.events; renewal = c.renewal }) (stripes_of c) e n v,
      ← map_set c.clients (k - 1) w,
    ) (written_shown e (left e n v) c (set c.clients (k - 1) w))))
play_shown (splits k) c s same =
    subst (λ d. (run_played (splits k) (record s { core = d })).core ≡ shown_core (played (stripes_of c) (splits k) c))
    (sym same)
    (rw (client_shown c k) (λ i. record (shown_core c) {
      clients = sym (map_snoc
          (set c.clients (k - 1) (giving (client_of c k))) (fresh (client_of c k)) ∙
          ap (λ l. l ++ blank (fresh (client_of c k)) ∷ []) (map_set c.clients (k - 1) (giving (client_of c k)))) i;
      events = c.events + 1;
    }))
play_shown (gathers k j) c s same =
    subst (λ d. (run_played (gathers k j) (record s { core = d })).core ≡ shown_core
    (played (stripes_of c) (gathers k j) c))
    (sym same)
    (rw (client_shown c k, client_shown c j) (λ i. record (shown_core c) {
      clients = sym (map_set (set c.clients (k - 1) (taking (client_of c k) (client_of c j))) (j - 1) gone ∙
          ap (λ l. set l (j - 1) gone) (map_set c.clients (k - 1) (taking (client_of c k) (client_of c j)))) i;
      events =
          c.events + 1;
    }))
play_shown (renews k last) c s same =
    subst (λ d. (run_played (renews k last) (record s { core = d })).core ≡ shown_core
    (played (stripes_of c) (renews k last) c)) (sym same)
    (rw (client_shown c k) (λ i. record (shown_core (played (stripes_of c) (renews k last) c)) {
      clients = sym (map_set c.clients (k - 1) (renewing (client_of c k))) i;
    }))

placed_behind : (r : Record) (old h : List Record) → ((x : Record) → In x old → x.point < r.point) →
    placed r (old ++ h) ≡ old ++ placed r h
placed_behind r [] h f = refl
placed_behind r (x ∷ old) h f = let e : ltb r.point x.point ≡ false =
    (let p = f x (0, refl) in grind (arith, nat_tests)) in rw e
    (ap (λ l. x ∷ l) (placed_behind r old h (λ y i. f y (suc i.0, i.1))))

filed_behind : (rs old h : List Record) → ((x y : Record) → In x old → In y (filed rs h) → x.point < y.point) →
    filed rs (old ++ h) ≡ old ++ filed rs h
filed_behind [] old h f = refl
filed_behind (r ∷ rs) old h f = placed_behind r old h (λ x i. f x r i (placed_in r h))

-- an event puts its decision into the order of both cores
play_order : (e : Event) (c : Core) (s : Running) (old h : List Record) → s.core ≡ shown_core c → ByPoint (old ++ h) →
    s.order ≡ order_of (old ++ h) → ((x y : Record) → In x (earlier_after e old h) →
    In y (history_after (stripes_of c) e c h) → x.point < y.point)
    → (run_played e s).order ≡ order_of (earlier_after e old h ++ history_after (stripes_of c) e c h)
play_order (acts k e) c s old h same by o f =
    let t : Stamp = record { client = k; place = c.events; renewal = c.renewal } in
    let rs = decision t e (found (stripes_of c) c e) (client_of c k) in
    let kept : decision (stamp_of (shown_core c) k) e (found (stripes_of c) (shown_core c) e)
    (client_of (shown_core c) k) ≡ map as_kept rs = rw (found_shown (stripes_of c) c e, client_shown c k)
    (decision_shown t e (found (stripes_of c) c e) (client_of c k)) in
    subst (λ d. (run_acts k e (record s { core = d })).order ≡ order_of (filed rs (old ++ h))) (sym same)
    (entered_order _ rs kept _ (old ++ h) by o) ∙ ap order_of (filed_behind rs old h f)
play_order (renews k last) c s old h same by o f = o ∙ ap order_of (sym (append-nil (old ++ h)))
play_order _ c s old h same by o f = o

out_shown : (c : Core) (k : ℕ) → is_out (shown_core c) k ≡ is_out c k
out_shown c k = rw (map_length c.clients, client_shown c k) refl

last_found_shown : (c : Core) (k : ℕ) → found_of (shown_core c) k ≡ found_of c k
last_found_shown c k = rw (map_length c.clients, client_shown c k) refl

may_shown : (lk : ℕ → ℕ) (e : Event) (c : Core) → may_play lk e (shown_core c) ≡ may_play lk e c
may_shown lk (acts k e) c = rw (out_shown c k, client_shown c k) (ap (λ b. is_out c k && b) (same e))
  where
    same : (e : Action) → may_act lk (bounds_of c) e (blank (client_of c k)).attempt ≡ may_act lk (bounds_of c) e
        (client_of c k).attempt
    same begin = refl
    same _ = refl
may_shown lk (splits k) c = rw (out_shown c k, client_shown c k) refl
may_shown lk (gathers k j) c = rw (out_shown c k, out_shown c j, client_shown c k, client_shown c j) refl
may_shown lk (renews k last) c = rw (out_shown c k, client_shown c k, others_shown c.clients (k - 1)) refl
  where
    are_shown : (l : List Client) → are_gathered (map blank l) ≡ are_gathered l
    are_shown [] = refl
    are_shown (v ∷ vs) = ap (λ b. v.is_gathered && b) (are_shown vs)

    others_shown : (l : List Client) (i : ℕ) → others_gathered (map blank l) i ≡ others_gathered l i
    others_shown [] i = refl
    others_shown (v ∷ vs) zero = are_shown vs
    others_shown (v ∷ vs) (suc i) = ap (λ b. v.is_gathered && b) (others_shown vs i)

number_shown : (e : Event) (c : Core) → has_number e (shown_core c) ≡ has_number e c
number_shown (splits k) c = rw (map_length c.clients) refl
number_shown _ c = refl

locks_stay : (lk : ℕ → ℕ) (e : Event) (c : Core) → length (played lk e c).locks ≡ length c.locks
locks_stay lk (acts k begin) c = refl
locks_stay lk (acts k (lock n)) c = length-set c.locks n (left (lock n) (found lk c (lock n)) (client_of c k))
locks_stay lk (acts k (release n)) c = length-set c.locks n (2 * (client_of c k).attempt.wv)
locks_stay lk (acts k (give_back n)) c = length-set c.locks n (2 * old_version (client_of c k).attempt.held n)
locks_stay lk (renews k last) c = length-replicate (length c.locks) 0
locks_stay lk _ c = refl

-- the last version stays small
last_small : (lk : ℕ → ℕ) (e : Event) (c : Core) → Allowed free_law lk e c → c.last < 2 ^ 62 →
    (played lk e c).last < 2 ^ 62
last_small lk (acts k begin) c h l = l
last_small lk (renews k last) c h l = (can_play free_law lk (renews k last) c h).4
last_small lk _ c h l = l

replicated : (n : ℕ) → length (replicate n (let z : ℕ = 0 in z)) ≡ n
replicated zero = refl
replicated (suc n) = ap suc (replicated n)

client_cases : (c : Core) (k : ℕ) → (get_elem? c.clients (k - 1) ≡ some (client_of c k)) ⊎ (client_of c k ≡ gone)
client_cases c k = go c.clients (k - 1)
  where
    go : (l : List Client) (i : ℕ) → (get_elem? l i ≡ some (get_or l i gone)) ⊎ (get_or l i gone ≡ gone)
    go [] i = inr refl
    go (x ∷ l) zero = inl refl
    go (x ∷ l) (suc i) = go l i

old_none : (l : List (ℕ × ℕ)) (k : ℕ) → writes_to l k ≡ false → old_version l k ≡ 0
old_none [] k h = refl
old_none (p ∷ ps) k h = go (eqb p.0 k) refl (λ e. old_none ps k e)
  where
    go : (b : Bool) → eqb p.0 k ≡ b → (writes_to ps k ≡ false → old_version ps k ≡ 0) →
        cond (eqb p.0 k) p.1 (old_version ps k) ≡ 0
    go true e f = clash (ap (λ b. b || writes_to ps k) e) h
    go false e f = rw e (f (subst (λ b. (b || writes_to ps k) ≡ false) e h))

module _ (c : Core) (h : Inv free_law (stripes_of c) c) (low : c.last < 2 ^ 62) (some' : 0 < length c.locks) where
  lock_inside : (k j : ℕ) → writes_to (client_of c k).attempt.held j ≡ true → j < length c.locks
  lock_inside k j t = ⊎_elim
      (λ at. word_inside c.locks j (2 * old_version (client_of c k).attempt.held j)
      ((h.books.booked (k - 1) (client_of c k) at).listed j (old_version (client_of c k).attempt.held j)
      (old_in (client_of c k).attempt.held j t) ∙ omega arith))
      (λ g. clash t (ap (λ (z : Client). writes_to z.attempt.held j) g)) (client_cases c k)

  cell_inside : (k a x : ℕ) → is_committed (client_of c k).attempt.phase ≡ true →
      In (a, x) (client_of c k).attempt.writes → a < length c.cells
  cell_inside k a x t i = ⊎_elim
      (λ at. let z = ((h.books.booked (k - 1) (client_of c k) at).told t).0 in let l =
      ((h.filed.filed (k - 1) (client_of c k) at).writes z).0 a x i in (let e = h.size in omega arith))
      (λ g. absurd (nothing_in (a, x) (subst (λ (z : Client). In (a, x) z.attempt.writes) g i))) (client_cases c k)

  small_version : (k : ℕ) → (client_of c k).attempt.wv < 2 ^ 62
  small_version k = ⊎_elim (λ at. (let a = (h.version.sound (k - 1) (client_of c k) at).wv in let b = h.bounded in
      omega arith)) (λ g. subst (λ (z : Client). z.attempt.wv < 2 ^ 62) (sym g) (omega arith)) (client_cases c k)

  small_old : (k j : ℕ) → old_version (client_of c k).attempt.held j < 2 ^ 62
  small_old k j = by_bool (writes_to (client_of c k).attempt.held j)
      (λ t. ⊎_elim (λ at. (let a = (h.books.booked (k - 1) (client_of c k) at).listed j
      (old_version (client_of c k).attempt.held j) (old_in (client_of c k).attempt.held j t) in let b =
      h.version.versions j in let d = h.bounded in omega arith))
      (λ g. clash t (ap (λ (z : Client). writes_to z.attempt.held j) g)) (client_cases c k))
      (λ f. (let e = old_none (client_of c k).attempt.held j f in omega arith))

  few_grants : (k j : ℕ) → k ≢ j → is_out c k ≡ true → is_out c j ≡ true →
      (client_of c k).grants + (client_of c j).grants + 1 ≤ 63
  few_grants k j n o p = let a = (out_test c k).sound o in let b = (out_test c j).sound p in
      grants_of_two free_law (stripes_of c) c h (k - 1) (j - 1) (client_of c k) (client_of c j) (λ e. n (let x = a.0 in
      let y = b.0 in omega arith)) a.1 b.1 a.2 b.2

  sane_shown : IsSane (shown_core c)
  sane_shown = record {
    last = low;
    some = some';
    held = λ k j t. lock_inside k j (subst (λ (z : Client). writes_to z.attempt.held j ≡ true) (client_shown c k) t);
    written = λ k a x t i. cell_inside k a x (subst (λ (z : Client). is_committed z.attempt.phase ≡ true)
        (client_shown c k) t) (subst (λ (z : Client). In (a, x) z.attempt.writes) (client_shown c k) i);
    versions = λ k. subst (λ (z : Client). z.attempt.wv < 2 ^ 62) (sym (client_shown c k)) (small_version k);
    old = λ k j. subst (λ (z : Client). old_version z.attempt.held j < 2 ^ 62) (sym (client_shown c k)) (small_old k j);
    grants = λ k j n o p. rw (client_shown c k, client_shown c j)
        (few_grants k j n (sym (out_shown c k) ∙ o) (sym (out_shown c j) ∙ p));
  }

-- the fields that no event changes, and the bounds that every event keeps
leads_stays : (lk : ℕ → ℕ) (es : List Event) (c d : Core) → Leads free_law lk c es d → length d.locks ≡ length c.locks
leads_stays lk [] c d e = ap (λ (x : Core). length x.locks) (sym e)
leads_stays lk (a ∷ es) c d e = leads_stays lk es (played lk a c) d e.1 ∙ locks_stay lk a c

leads_small : (lk : ℕ → ℕ) (es : List Event) (c d : Core) → Leads free_law lk c es d → c.last < 2 ^ 62 → d.last < 2 ^ 62
leads_small lk [] c d e l = subst (λ (x : Core). x.last < 2 ^ 62) e l
leads_small lk (a ∷ es) c d e l = leads_small lk es (played lk a c) d e.1 (last_small lk a c e.0 l)

-- the running core beside the core and its histories
record RunsBeside (old h : List Record) (s : Running) (c : Core) : Type 0 where
  shows : s.core ≡ shown_core c
  orders : s.order ≡ order_of (old ++ h)
  beside : Beside free_law (stripes_of c) old h c

runs_next : (e : Event) (old h : List Record) (s : Running) (c : Core) → RunsBeside old h s c →
    Allowed free_law (stripes_of c) e c → RunsBeside (earlier_after e old h) (history_after (stripes_of c) e c h)
    (run_played e s) (played (stripes_of c) e c)
runs_next e old h s c b may =
    let g = event_beside free_law (stripes_of c) c e old h b.beside (can_play free_law (stripes_of c) e c may) in
    record {
      shows = play_shown e c s b.shows;
      orders = play_order e c s old h b.shows (is_history free_law (stripes_of c) c old h b.beside).ascending b.orders
          (λ x y m n. g.dated.old_before x y m n);
      beside = subst (λ m. Beside free_law (stripe_of m) (earlier_after e old h) (history_after (stripes_of c) e c h)
          (played (stripes_of c) e c)) (sym (locks_stay (stripes_of c) e c)) g;
    }

ran_beside : (es : List Event) (old h : List Record) (s : Running) (c d : Core) → RunsBeside old h s c →
    Leads free_law (stripes_of c) c es d → (old' : List Record) × (h' : List Record) × RunsBeside old' h' (ran es s) d
ran_beside [] old h s c d b e = (old, h, subst (RunsBeside old h s) e b)
ran_beside (a ∷ es) old h s c d b e =
    let n = locks_stay (stripes_of c) a c in
    ran_beside es (earlier_after a old h) (history_after (stripes_of c) a c h) (run_played a s)
    (played (stripes_of c) a c) d (runs_next a old h s c b e.0)
    (subst (λ m. Leads free_law (stripe_of m) (played (stripes_of c) a c) es d) (sym n) e.1)

-- a running core beside a history has that history as its order
order_beside : (old h : List Record) (s : Running) (c : Core) → RunsBeside old h s c →
    IsOrderOfCore c s.order.entries s.order.points
order_beside old h s c b =
    let own : IsHistory c (old ++ h) = is_history free_law (stripes_of c) c old h b.beside in
    record {
      history = old ++ h;
      is_history = own;
      only = λ rs i. one_history c rs (old ++ h) i own;
      listed = ap (λ (o : Placed). o.entries) b.orders;
      dated = ap (λ (o : Placed). o.points) b.orders;
    }

pub running_follows : RunningFollows
running_follows image last stripes es c leads =
    let n = replicated stripes in
    let m : length c.locks ≡ stripes = leads_stays (stripe_of stripes) es (opened image last stripes) c leads ∙ n in
    let q = ran_beside es [] [] (run_opened image last stripes) (opened image last stripes) c
    (record {
      shows = refl;
      orders = refl;
      beside = opening_beside free_law (stripes_of
          (opened image last stripes)) image last stripes;
    }) (subst
    (λ k. Leads free_law (stripe_of k) (opened image last stripes) es c) (sym n) leads) in
    let same = q.2.shows in
    let may_now : (e : Event) → may_play (stripes_of (ran es (run_opened image last stripes)).core) e
    (ran es (run_opened image last stripes)).core ≡ may_play (stripes_of c) e c =
    (λ e. ap (λ x. may_play (stripes_of x) e x) same ∙ may_shown (stripes_of c) e c) in record {
      shows = same;
      finds = λ k. ap (λ x. found_of x k) same ∙ last_found_shown c k;
      order = order_beside q.0 q.1 (ran es (run_opened image last stripes)) c q.2;
      allows = λ e.
          let sc = (ran es (run_opened image last stripes)).core in
          let count : has_number e sc ≡ has_number e c = ap (has_number e) same ∙ number_shown e c in (
            (λ t. let q = (run_test (stripes_of sc) e sc).sound t in (
              subst (λ k. Allowed free_law (stripe_of k) e c) m (sym (may_now e) ∙ q.0, free_event e c),
              sym count ∙ q.1,
            )),
            (λ a. (run_test (stripes_of sc) e sc).complete (
              may_now e ∙
                  (subst (λ k. Allowed free_law (stripe_of k) e c) (sym m) a.0).0,
              count ∙ a.1,
            )),
          );
    }

pub reached_opening : (image : List ℕ) (last stripes : ℕ) → last < 2 ^ 62 → 0 < stripes →
    IsReached (run_opened image last stripes)
reached_opening image last stripes l s = record {
  image = image;
  last = last;
  stripes = stripes;
  events = [];
  core = opened image last stripes;
  leads = refl;
  versions = l;
  locks =
      s;
  plays = refl;
}

reached_follows : (s : Running) (r : IsReached s) → FollowsCore (stripe_of r.stripes) s r.core
reached_follows s r = subst (λ x. FollowsCore (stripe_of r.stripes) x r.core) (sym r.plays)
    (running_follows r.image r.last r.stripes r.events r.core r.leads)

-- however the running core was reached, its order is the history of the core that the events lead to
pub reached_order : (s : Running) (r : IsReached s) → IsOrderOfCore r.core s.order.entries s.order.points
reached_order s r = (reached_follows s r).order

pub leads_snoc : (lk : ℕ → ℕ) (es : List Event) (e : Event) (c d : Core) → Leads free_law lk c es d →
    Allowed free_law lk e d → Leads free_law lk c (es ++ e ∷ []) (played lk e d)
leads_snoc lk [] e c d same may = subst (λ x. Leads free_law lk x (e ∷ []) (played lk e d)) (sym same) (may, refl)
leads_snoc lk (a ∷ es) e c d leads may = (leads.0, leads_snoc lk es e (played lk a c) d leads.1 may)

pub ran_snoc : (es : List Event) (e : Event) (s : Running) → ran (es ++ e ∷ []) s ≡ run_played e (ran es s)
ran_snoc [] e s = refl
ran_snoc (a ∷ es) e s = ran_snoc es e (run_played a s)

pub reached_next : (e : Event) (s : Running) → IsReached s → may_run (stripes_of s.core) e s.core ≡ true →
    IsReached (run_played e s)
reached_next e s r may = record {
  image = r.image;
  last = r.last;
  stripes = r.stripes;
  events = r.events ++ e ∷ [];
  core = played (stripe_of r.stripes) e r.core;
  leads = leads_snoc (stripe_of r.stripes) r.events e (opened r.image r.last r.stripes) r.core r.leads
      (((reached_follows s r).allows e).0 may).0;
  versions = r.versions;
  locks = r.locks;
  plays = ap (run_played e) r.plays ∙ sym (ran_snoc r.events e (run_opened r.image r.last r.stripes));
}

-- a reached core is sane
shown_now : (c : Core) → shown_core (now c) ≡ shown_core c
shown_now c = ap (λ l. record (shown_core c) { clients = l }) (go c.clients)
  where
    go : (l : List Client) → map blank (map (shed c.renewal) l) ≡ map blank l
    go [] = refl
    go (v ∷ vs) = ap (λ m. blank v ∷ m) (go vs)

pub reached_sane : (s : Running) → IsReached s → IsSane s.core
reached_sane s r =
    let n : length r.core.locks ≡ r.stripes = leads_stays (stripe_of r.stripes) r.events
    (opened r.image r.last r.stripes) r.core r.leads ∙ replicated r.stripes in
    let k : Rule free_law (stripes_of r.core) r.core = subst (λ m. Rule free_law (stripe_of m) r.core) (sym n)
    (every_list_is_serializable free_law r.image r.last r.stripes r.events r.core r.leads).rule in
    let low : r.core.last < 2 ^ 62 = leads_small (stripe_of r.stripes) r.events
    (opened r.image r.last r.stripes) r.core r.leads r.versions in
    subst IsSane (sym (reached_follows s r).shows) (subst IsSane (shown_now r.core)
    (sane_shown (now r.core) k.inv low (rw n r.locks)))
