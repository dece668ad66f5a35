-- Each event keeps the relation between a list of events and the records that it decides.
use Rattle.std.proofs.Common.{◌≡◌, ◌≢◌, ℕ, zero, suc, ◌+◌, ◌-◌, ◌<◌, ◌≤◌, ◌⊎◌, inl, inr, ⊎_elim, Bool, true, false}
use Rattle.std.proofs.Common.{cond, eq-eqb, List, [], ◌∷◌, ◌++◌, length, length-append, length-set}
use Rattle.std.proofs.Common.{ltb, set, refl, sym, ap, ◌∙◌, subst, arith}
use mathlib.Core.Option.{some, some-injective, some-ne-none}
use lib.ListN.{get_elem?}
use Rattle.std.proofs.lemmas.Bool.Decides.{nat_tests}
use Rattle.tx_memory.specs.Image.{In}
use Rattle.stm_core.specs.Client.{Client, Record, RecordLaw, running, idle, decided}
use Rattle.stm_core.specs.Client.{is_committed}
use Rattle.stm_core.specs.Event.{Action, begin, probe, fetch, check, lock, tick, validate, put, release, give_back}
use Rattle.stm_core.specs.Event.{finish}
use Rattle.stm_core.specs.Event.{after, giving, fresh, taking, renewing, gone}
use Rattle.stm_core.specs.Event.{opener}
use Rattle.stm_core.specs.Core.{Core, Event, acts, splits, gathers, renews, stamp_of, client_of, bounds_of, found}
use Rattle.stm_core.specs.Core.{played, opened}
use Rattle.stm_core.specs.Version.{At}
use Rattle.stm_core.specs.History.{ByPoint}
use Rattle.stm_core.specs.Listed.{is_begin_of, begins, IsStepOf, made, core_at, IsDecision, IsMade, IsOfList}
use Rattle.stm_core.proofs.Lists.{nothing_in, by_bool, clash, in_range, same_at, who_set, only_one}
use Rattle.stm_core.proofs.Orders.{in_cons}
use Rattle.stm_core.proofs.Steps.{undecided_at}
use Rattle.stm_core.proofs.Conditions.{CanAct, CanPlay}
use Rattle.stm_core.proofs.Traced.{last_at, begins_end, begin_first, Rests, Origin, Turn, opens, rests, wins, decides}
use Rattle.stm_core.proofs.Traced.{same, turn_check}
use Rattle.stm_core.proofs.Traced.{turn_lock, turn_tick, turn_validate, turn_finish, turn_begin, turn_give_back}
use Rattle.stm_core.proofs.Traced.{Runs, Ticked, Commits, IsStored, Trace, unbegun, runs_stay, ticked_stay, itself}
use Rattle.stm_core.proofs.Traced.{inside, its_clock, its_core, longer, decision_stays, trace_on}

-- the client and the step of an event
abbrev client_named : Event → ℕ
client_named (acts k e) = k
client_named (splits k) = k
client_named (gathers k j) = k
client_named (renews k last) = k

abbrev action_named : Event → Action
action_named (acts k e) = e
action_named _ = begin

-- a step begins no attempt of another client
not_its : (k j : ℕ) (e : Action) → k ≢ j → is_begin_of j (acts k e) ≡ false
not_its k j begin n = Rattle.std.proofs.Common.ne_eqb k j n
not_its k j _ n = refl

its_begin : (k : ℕ) → is_begin_of k (acts k begin) ≡ true
its_begin k = eq-eqb k k refl

in_one : {A : Type 0} (x y : A) (l : List A) → l ≡ x ∷ [] → In y l → x ≡ y
in_one x y l e i = ⊎_elim (λ p. p) (λ p. absurd (nothing_in y p)) (in_cons x y [] (subst (In y) e i))

not_in : {A X : Type 0} (y : A) (l : List A) → l ≡ [] → In y l → X
not_in y l e i = absurd (nothing_in y (subst (In y) e i))

module _ (lk : ℕ → ℕ) (start : Core) (es : List Event) (c : Core) (h : List Record) (d : Trace lk start es c h) (k : ℕ)
    (some' : 0 < k) (at : At c.clients (k - 1) (client_of c k)) (live : (client_of c k).is_gathered ≡ false) where
  num : suc (k - 1) ≡ k
  num = omega arith

  -- the stepping client, by its number
  abbrev v : Client
  v = client_of c k

  its_count : begins k es (length es) ≡ (client_of c k).attempt.number
  its_count = subst (λ j. begins j es (length es) ≡ (client_of c k).attempt.number) num
      (d.number (k - 1) (client_of c k) at live)

  its_runs : Runs lk start es k (client_of c k)
  its_runs = subst (λ j. Runs lk start es j (client_of c k)) num (d.runs (k - 1) (client_of c k) at)

  its_ticks : Ticked lk start es k (client_of c k)
  its_ticks = subst (λ j. Ticked lk start es j (client_of c k)) num (d.ticks (k - 1) (client_of c k) at)

  its_commits : Commits lk start h k (client_of c k)
  its_commits = subst (λ j. Commits lk start h j (client_of c k)) num (d.commits (k - 1) (client_of c k) at)

  module _ (e : Action) (w : Client) (turn : Turn (stamp_of c k) e (found lk c e) (client_of c k) w
      (made lk (acts k e) c)) where
    abbrev x : Event
    x = acts k e

    abbrev es2 : List Event
    es2 = es ++ acts k e ∷ []

    abbrev n : ℕ
    n = found lk c e

    count_now : begins k (es ++ acts k e ∷ []) (length (es ++ acts k e ∷ [])) ≡ w.attempt.number
    count_now = go turn
      where
        still : is_begin_of k (acts k e) ≡ false → w.attempt.number ≡ v.attempt.number →
            begins k (es ++ acts k e ∷ []) (length (es ++ acts k e ∷ [])) ≡ w.attempt.number
        still f q = unbegun lk start es c h d (acts k e) k f ∙ (its_count ∙ sym q)

        go : Turn (stamp_of c k) e (found lk c e) (client_of c k) w (made lk (acts k e) c) →
            begins k (es ++ acts k e ∷ []) (length (es ++ acts k e ∷ [])) ≡ w.attempt.number
        go (opens is none run number began rv wv) =
            ap (begins k (es ++ acts k e ∷ [])) (longer lk start es c h d (acts k e)) ∙ (begins_end k es (acts k e)
            ∙ (ap (λ b. begins k es (length es) + cond b 1 0) (ap (λ a. is_begin_of k (acts k a)) is ∙ its_begin k) ∙
            (let a = its_count in omega (arith, a, number))))
        go (rests f none q) = still (f k k) q.number
        go (wins f none run number began rv is at' wv undecided) = still (f k k) number
        go (decides r f one run number ends says o) = still (f k k) number

    runs_now : Runs lk start (es ++ acts k e ∷ []) k w
    runs_now = go turn
      where
        stays : w.attempt.number ≡ v.attempt.number → w.attempt.began_at ≡ v.attempt.began_at →
            w.attempt.rv ≡ v.attempt.rv → v.attempt.phase ≡ running →
            IsStepOf es2 k w.attempt.number w.attempt.began_at begin ×
            ((core_at lk start es2 w.attempt.began_at).clock ≡ w.attempt.rv)
        stays number began rv r = rw (number, began, rv) (runs_stay lk start es c h d (acts k e) k v its_runs r)

        go : Turn (stamp_of c k) e (found lk c e) (client_of c k) w (made lk (acts k e) c) →
            Runs lk start (es ++ acts k e ∷ []) k w
        go (opens is none run number began rv wv) r =
            let place : w.attempt.began_at ≡ length es = began ∙ d.count in
            let value : w.attempt.rv ≡ c.clock = rv ∙ ap (found lk c) is in
            rw (place, value) (
              itself lk start es c h d (acts k e) k w.attempt.number begin (ap (acts k) is) count_now,
              its_clock lk start es c h d (acts k e),
            )
        go (rests f none q) r = let p = q.runs r in stays q.number p.1 p.2 p.0
        go (wins f none run number began rv is at' wv undecided) r = stays number began rv run
        go (decides r0 f one run number ends says o) r = absurd (ends r)

    ticks_now : Ticked lk start (es ++ acts k e ∷ []) k w
    ticks_now = go turn
      where
        go : Turn (stamp_of c k) e (found lk c e) (client_of c k) w (made lk (acts k e) c) →
            Ticked lk start (es ++ acts k e ∷ []) k w
        go (opens is none run number began rv wv) r z = absurd (let q = wv in omega arith)
        go (rests f none q) r z =
            let p = q.ticked r z in
            rw (q.number, p.1, p.2, p.3, p.4) (ticked_stay lk start es c h d (acts k e) k v its_ticks (q.runs r).0 p.0)
        go (wins f none run number began rv is at' wv undecided) r z =
            let place : w.attempt.ticked_at ≡ length es = at' ∙ d.count in (
              n,
              rw place (itself lk start es c h d (acts k e) k w.attempt.number (tick n w.attempt.tag w.attempt.writes)
                  (ap (acts k) is) count_now),
              rw place (its_clock lk start es c h d (acts k e) ∙
                  sym (ap (found lk c) is)),
              wv,
            )
        go (decides r0 f one run number ends says o) r z = absurd (ends r)

    module _ (h' : List Record) (old : (r : Record) → In r h → In r h') (new : (r : Record) →
        In r (made lk (acts k e) c) → In r h') where
      commits_now : Commits lk start h' k w
      commits_now = go turn
        where
          go : Turn (stamp_of c k) e (found lk c e) (client_of c k) w (made lk (acts k e) c) → Commits lk start h' k w
          go (opens is none run number began rv wv) z = clash z (undecided_at w run)
          go (rests f none q) z = let p = q.commits z in let r = its_commits p.0 in
              (r.0, old r.0 r.1, r.2, r.3 ∙ sym q.number, r.4, r.5 ∙ sym p.1)
          go (wins f none run number began rv is at' wv undecided) z = clash z undecided
          go (decides r f one run number ends says o) z = let p = says z in
              (r, new r (subst (In r) (sym one) (0, refl)), o.client, o.attempt ∙ sym number, p.0, p.1)

      module _ (r : Record) (o : Origin (stamp_of c k) e (found lk c e) v r) (one : made lk (acts k e) c ≡ r ∷ [])
          (run : v.attempt.phase ≡ running) (number : w.attempt.number ≡ v.attempt.number) where
        b : IsStepOf es2 k v.attempt.number v.attempt.began_at begin ×
            ((core_at lk start es2 v.attempt.began_at).clock ≡ v.attempt.rv)
        b = runs_stay lk start es c h d (acts k e) k v its_runs run

        began' : IsStepOf es2 r.client r.attempt v.attempt.began_at begin
        began' = rw (o.client, o.attempt) b.0

        me : IsStepOf es2 r.client r.attempt (length es) e
        me = rw (o.client, o.attempt, ← number) (itself lk start es c h d
            (acts k e) k w.attempt.number e refl count_now)

        early : v.attempt.began_at < length es
        early = inside lk start es c h d (acts k e) (its_runs run).0

        reads : r.writer ≡ false → IsStepOf es2 r.client r.attempt r.point begin ×
            ((core_at lk start es2 r.point).clock ≡ r.version)
        reads z = let p = o.reader z in rw (p.0, p.1) (began', b.1)

        abbrev Ticks : Type 0
        Ticks = (from : ℕ) × IsStepOf es2 r.client r.attempt r.point (tick from r.tag r.writes) ×
            ((core_at lk start es2 r.point).clock ≡ from) × (r.version ≡ from + 1)

        before_it : (0 < v.attempt.wv) × (r.point ≡ v.attempt.ticked_at) × (r.version ≡ v.attempt.wv) ×
            (r.tag ≡ v.attempt.tag) × (r.writes ≡ v.attempt.writes) → Ticks
        before_it p = let q = ticked_stay lk start es c h d (acts k e) k v its_ticks run p.0 in
            (q.0, rw (o.client, o.attempt, p.1, p.3, p.4) q.1, rw p.1 q.2, p.2 ∙ q.3)

        by_it : (e ≡ tick n r.tag r.writes) × (r.point ≡ c.events) × (r.version ≡ n + 1) → Ticks
        by_it p =
            let place : r.point ≡ length es = p.1 ∙ d.count in
            let clock : (core_at lk start es2 (length es)).clock ≡ n =
            its_clock lk start es c h d (acts k e) ∙ sym (ap (found lk c) p.0) in (
              n,
              subst (λ m. IsStepOf es2 r.client r.attempt m (tick n r.tag r.writes)) (sym place)
                  (subst (IsStepOf es2 r.client r.attempt (length es)) p.0 me),
              subst (λ m. (core_at lk start es2 m).clock ≡ n) (sym place) clock,
              p.2,
            )

        writes : r.writer ≡ true → Ticks
        writes z = ⊎_elim (λ p. before_it p) (λ p. by_it p) (o.writer z)

        past : r.point ≤ length es
        past = by_bool r.writer
            (λ z. ⊎_elim (λ p. (let l = inside lk start es c h d (acts k e) (its_ticks run p.0).1 in let q = p.1 in
            omega arith)) (λ p. (let q = p.1 in let l = d.count in omega (arith, q, l))) (o.writer z))
            (λ z. (let q = (o.reader z).0 in omega (arith, early, q)))

        first : v.attempt.began_at ≤ r.point
        first = by_bool r.writer (λ z. let q = writes z in begin_first r.client es2 r.attempt v.attempt.began_at r.point
            (tick q.0 r.tag r.writes) began' q.1) (λ z. (let q = (o.reader z).0 in omega (arith, q)))

        its_made : IsMade lk start es2 r
        its_made = record {
          decided_at = length es;
          decided = (
            e,
            me,
            subst (λ j. made lk (acts j e) (core_at lk start es2 (length es)) ≡ r ∷ []) (sym o.client)
                (ap (made lk (acts k e)) (its_core lk start es c h d (acts k e)) ∙ one),
          );
          point = past;
          reader = reads;
          writer = writes;
          began_at = v.attempt.began_at;
          began = began';
          begins_first = first;
        }

      each_now : (r : Record) → In r (made lk (acts k e) c) → IsMade lk start (es ++ acts k e ∷ []) r
      each_now r i = go turn
        where
          go : Turn (stamp_of c k) e (found lk c e) (client_of c k) w (made lk (acts k e) c) →
              IsMade lk start (es ++ acts k e ∷ []) r
          go (opens is none run number began rv wv) = not_in r (made lk (acts k e) c) none i
          go (rests f none q) = not_in r (made lk (acts k e) c) none i
          go (wins f none run number began rv is at' wv undecided) = not_in r (made lk (acts k e) c) none i
          go (decides r0 f one run number ends says o) =
              let q = in_one r0 r (made lk (acts k e) c) one i in
              its_made r (subst (Origin (stamp_of c k) e (found lk c e) v) q o) (one ∙ ap (λ y. y ∷ []) q) run number

      -- a put stores a write of the client's record
      stored_now : (a y : ℕ) → e ≡ put a y → decided v ≡ true → In (a, y) v.attempt.writes →
          IsStored lk start (es ++ acts k e ∷ []) h' k (begins k (es ++ acts k e ∷ []) (suc (length es)))
          (length es) a y
      stored_now a y is z i =
          let q = its_commits z in
          let m = d.each q.0 q.1 in
          let same' : begins k (es ++ acts k e ∷ []) (suc (length es)) ≡ q.0.attempt =
          ap (begins k (es ++ acts k e ∷ [])) (sym (longer lk start es c h d (acts k e))) ∙
          (unbegun lk start es c h d (acts k e) k (ap (λ b. is_begin_of k (acts k b)) is) ∙ (its_count ∙ sym q.3))
          in
          rw same' (
            q.0,
            old q.0 q.1,
            q.2,
            refl,
            q.4,
            subst (In (a, y)) (sym q.5) i,
            (
              m.decided_at,
              inside lk start es c h d (acts k e) m.decided.1,
              subst (λ j. IsDecision lk start es2 j q.0.attempt m.decided_at q.0) q.2
                  (decision_stays lk start es c h d (acts k e) q.0.client q.0.attempt m.decided_at q.0 m.decided),
            ),
          )

abbrev is_act : Event → Bool
is_act (acts k e) = true
is_act _ = false

ending_idle : {X : Type 0} → idle ≡ running → X
ending_idle r = absurd (let z : idle ≡ running = r in cc)

module _ (lawful : RecordLaw) (lk : ℕ → ℕ) (start : Core) (es : List Event) (c : Core) (h : List Record)
    (d : Trace lk start es c h) where
  -- a step of a client
  module _ (k : ℕ) (e : Action) (may : CanPlay lawful lk (acts k e) c) where
    abbrev i : ℕ
    i = k - 1

    abbrev it : Client
    it = client_of c k

    abbrev then : Client
    then = after (stamp_of c k) lk e (found lk c e) it

    turn_of : (e : Action) → CanAct lawful lk (bounds_of c) e (client_of c k).attempt →
        Turn (stamp_of c k) e (found lk c e) (client_of c k) (after (stamp_of c k) lk e (found lk c e) (client_of c k))
        (made lk (acts k e) c)
    turn_of begin m = turn_begin (stamp_of c k) lk c.clock it
    turn_of (probe a) m = rests (λ k j. refl) refl (same it _ refl refl refl refl refl refl refl refl)
    turn_of (fetch a) m = rests (λ k j. refl) refl (same it _ refl refl refl refl refl refl refl refl)
    turn_of (check a) m = turn_check (stamp_of c k) lk _ it a
    turn_of (lock a) m = turn_lock (stamp_of c k) lk _ it a
    turn_of (tick from tag writes) m = turn_tick (stamp_of c k) lk c.clock it from tag writes m.0.0
    turn_of (validate a) m = turn_validate (stamp_of c k) lk _ it a m.0 m.1
    turn_of (put a y) m = rests (λ k j. refl) refl (same it _ refl refl refl refl refl refl refl refl)
    turn_of (release a) m = rests (λ k j. refl) refl (same it _ refl refl refl refl refl refl refl refl)
    turn_of (give_back a) m = turn_give_back (stamp_of c k) lk _ it a
    turn_of (finish tag) m = turn_finish (stamp_of c k) lk c.clock it tag m.0.0

    turn_it : Turn (stamp_of c k) e (found lk c e) (client_of c k)
        (after (stamp_of c k) lk e (found lk c e) (client_of c k)) (made lk (acts k e) c)
    turn_it = turn_of e may.1

    -- the step decides at most one record
    pub at_most_one : (made lk (acts k e) c ≡ []) ⊎ ((r : Record) × (made lk (acts k e) c ≡ r ∷ []))
    at_most_one = go turn_it
      where
        go : Turn (stamp_of c k) e (found lk c e) (client_of c k)
            (after (stamp_of c k) lk e (found lk c e) (client_of c k)) (made lk (acts k e) c) →
            (made lk (acts k e) c ≡ []) ⊎ ((r : Record) × (made lk (acts k e) c ≡ r ∷ []))
        go (opens is none run number began rv wv) = inl none
        go (rests f none q) = inl none
        go (wins f none run number began rv is at' wv undecided) = inl none
        go (decides r f one run number ends says o) = inr (r, one)

    -- a writer's tick and writes after the step are those from before the step, or the step itself
    -- is the tick
    abbrev pub Since : ℕ → List (ℕ × ℕ) → Type 0
    Since ticked_at writes = ((it.attempt.phase ≡ running) × (0 < it.attempt.wv) × (it.attempt.ticked_at ≡ ticked_at) ×
        (it.attempt.writes ≡ writes)) ⊎ (ticked_at ≡ c.events)

    writing_since : then.attempt.phase ≡ running → 0 < then.attempt.wv →
        Since then.attempt.ticked_at then.attempt.writes
    writing_since run above = go turn_it
      where
        go : Turn (stamp_of c k) e (found lk c e) (client_of c k)
            (after (stamp_of c k) lk e (found lk c e) (client_of c k)) (made lk (acts k e) c) →
            Since then.attempt.ticked_at then.attempt.writes
        go (opens is none run' number began rv wv) = absurd (omega (arith, above, wv))
        go (rests f none q) = let t = q.ticked run above in inl ((q.runs run).0, t.0, sym t.2, sym t.4)
        go (wins f none run' number began rv is at' wv undecided) = inr at'
        go (decides r f one run' number ends says o) = absurd (ends run)

    -- a record that the step decides as a writer's
    pub decided_since : (r : Record) → In r (made lk (acts k e) c) → r.writer ≡ true → Since r.point r.writes
    decided_since r m writer = go turn_it
      where
        go : Turn (stamp_of c k) e (found lk c e) (client_of c k)
            (after (stamp_of c k) lk e (found lk c e) (client_of c k)) (made lk (acts k e) c) → Since r.point r.writes
        go (opens is none run' number began rv wv) = not_in r (made lk (acts k e) c) none m
        go (rests f none q) = not_in r (made lk (acts k e) c) none m
        go (wins f none run' number began rv is at' wv undecided) = not_in r (made lk (acts k e) c) none m
        go (decides x f one run' number ends says o) =
            subst (λ (y : Record). y.writer ≡ true → Since y.point y.writes) (in_one x r (made lk (acts k e) c) one m)
            (λ u. ⊎_elim (λ p. inl (run', p.0, sym p.1, sym p.4)) (λ p. inr p.1) (o.writer u)) writer

    other : (j : ℕ) → j ≢ k - 1 → is_begin_of (suc j) (acts k e) ≡ false
    other j n = not_its k (suc j) e (λ z. n (let a = may.0.0 in omega arith))

    named : suc (k - 1) ≡ k
    named = (let a = may.0.0 in omega arith)

    pub act_trace : (h' : List Record) → ((r : Record) → In r h' → In r h ⊎ In r (made lk (acts k e) c)) →
        ((r : Record) → In r h → In r h') → ((r : Record) → In r (made lk (acts k e) c) → In r h') →
        length h' ≡ length h + length (made lk (acts k e) c)
        → Trace lk start (es ++ acts k e ∷ []) (played lk (acts k e) c) h'
    act_trace h' from old new many =
        let x : Event = acts k e in
        let es2 : List Event = es ++ acts k e ∷ [] in
        let w : Client = then in
        trace_on lk start es c h d x h' from old new many refl
        (λ j o a. who_set c.clients (k - 1) w (λ j o. o.is_gathered ≡ false →
        begins (suc j) es2 (length es2) ≡ o.attempt.number)
        (λ s. subst (λ m. begins m es2 (length es2) ≡ w.attempt.number) (sym named)
        (count_now lk start es c h d k may.0.0 may.0.1 may.0.2 e w turn_it))
        (λ j o a n s. unbegun lk start es c h d x (suc j) (other j n) ∙ d.number j o a s) j o a)
        (λ j l. let size : length (set c.clients (k - 1) w) ≡ length c.clients = length-set c.clients (k - 1) w in
        unbegun lk start es c h d x (suc j) (other j (let b = in_range c.clients (k - 1) (client_of c k) may.0.1 in
        let l' : length c.clients ≤ j = omega (arith, size, l) in
        λ z. (let y : j ≡ k - 1 = z in omega arith))) ∙ d.unborn j (omega (arith, size, l)))
        (who_set c.clients (k - 1) w (λ j o. Runs lk start es2 (suc j) o)
        (subst (λ m. Runs lk start es2 m w) (sym named) (runs_now lk start es c h d k may.0.0 may.0.1 may.0.2 e w
        turn_it)) (λ j o a n. runs_stay lk start es c h d x (suc j) o (d.runs j o a)))
        (who_set c.clients (k - 1) w (λ j o. Ticked lk start es2 (suc j) o)
        (subst (λ m. Ticked lk start es2 m w) (sym named)
        (ticks_now lk start es c h d k may.0.0 may.0.1 may.0.2 e w turn_it))
        (λ j o a n. ticked_stay lk start es c h d x (suc j) o (d.ticks j o a)))
        (who_set c.clients (k - 1) w (λ j o. Commits lk start h' (suc j) o)
        (subst (λ m. Commits lk start h' m w) (sym named)
        (commits_now lk start es c h d k may.0.0 may.0.1 may.0.2 e w turn_it h' old new))
        (λ j o a n z. let q = d.commits j o a z in (q.0, old q.0 q.1, q.2, q.3, q.4, q.5)))
        (each_now lk start es c h d k may.0.0 may.0.1 may.0.2 e w turn_it h' old new)
        (λ j a y is. subst (λ m. IsStored lk start es2 h' m (begins m es2 (suc (length es))) (length es) a y)
        (ap client_named is) (let p : e ≡ put a y = ap action_named is in
        let q : CanAct lawful lk (bounds_of c) (put a y) (client_of c k).attempt =
        subst (λ b. CanAct lawful lk (bounds_of c) b (client_of c k).attempt) p may.1 in
        stored_now lk start es c h d k may.0.0 may.0.1 may.0.2 e w turn_it h' old new a y p (ap is_committed q.0) q.1))

  -- an event that is no step decides nothing
  module _ (x : Event) (no : is_act x ≡ false) (none : made lk x c ≡ []) (quiet : (k : ℕ) →
      is_begin_of k x ≡ false) (counts : (played lk x c).events ≡ c.events + 1)
      (all : (j : ℕ) (o : Client) → At (played lk x c).clients j o →
      ((v : Client) × At c.clients j v × (o.is_gathered ≡ false → v.is_gathered ≡ false) × Rests v o) ⊎
      ((length c.clients ≤ j) × (o.attempt.number ≡ 0) × (o.attempt.phase ≡ idle)) ⊎
      ((o.is_gathered ≡ true) × (o.attempt.phase ≡ idle)))
      (grows : length c.clients ≤ length (played lk x c).clients) where
    -- the origin of a client's value after the event: an equal value before it, a new client, or a
    -- client that is gathered now
    abbrev Was : ℕ → Client → Type 0
    Was j o = ((v : Client) × At c.clients j v × (o.is_gathered ≡ false → v.is_gathered ≡ false) × Rests v o) ⊎
        ((length c.clients ≤ j) × (o.attempt.number ≡ 0) × (o.attempt.phase ≡ idle)) ⊎
        ((o.is_gathered ≡ true) × (o.attempt.phase ≡ idle))

    idles : {X : Type 0} (o : Client) → o.attempt.phase ≡ idle → o.attempt.phase ≡ running → X
    idles o i r = ending_idle (sym i ∙ r)

    other_trace : (h' : List Record) → ((r : Record) → In r h' → In r h) → ((r : Record) → In r h → In r h') →
        length h' ≡ length h → Trace lk start (es ++ x ∷ []) (played lk x c) h'
    other_trace h' from old many =
        let es2 : List Event = es ++ x ∷ [] in
        trace_on lk start es c h d x h' (λ r i. inl (from r i)) old (λ r i. not_in r (made lk x c) none i) (let e =
        ap length none in omega (arith, many, e))
        counts
        (λ j o a s. unbegun lk start es c h d x (suc j) (quiet (suc j)) ∙ number' j o s (all j o a))
        (λ j l. unbegun lk start es c h d x (suc j) (quiet (suc j)) ∙ d.unborn j (let g = grows in omega (arith, g, l)))
        (λ j o a. runs' j o (all j o a)) (λ j o a. ticks' j o (all j o a)) (λ j o a. commits' j o (all j o a))
        (λ r i. not_in r (made lk x c) none i) (λ k a y is. clash (ap is_act is ∙ refl) no)
      where
        number' : (j : ℕ) (o : Client) → o.is_gathered ≡ false → Was j o →
            begins (suc j) es (length es) ≡ o.attempt.number
        number' j o s (inl p) = d.number j p.0 p.1 (p.2 s) ∙ sym p.3.number
        number' j o s (inr (inl p)) = d.unborn j p.0 ∙ sym p.1
        number' j o s (inr (inr p)) = clash p.0 s

        runs' : (j : ℕ) (o : Client) → Was j o → Runs lk start (es ++ x ∷ []) (suc j) o
        runs' j o (inl p) r = let q = p.3.runs r in rw (p.3.number, q.1, q.2)
            (runs_stay lk start es c h d x (suc j) p.0 (d.runs j p.0 p.1) q.0)
        runs' j o (inr (inl p)) r = idles o p.2 r
        runs' j o (inr (inr p)) r = idles o p.1 r

        ticks' : (j : ℕ) (o : Client) → Was j o → Ticked lk start (es ++ x ∷ []) (suc j) o
        ticks' j o (inl p) r z = let q = p.3.ticked r z in rw (p.3.number, q.1, q.2, q.3, q.4)
            (ticked_stay lk start es c h d x (suc j) p.0 (d.ticks j p.0 p.1) (p.3.runs r).0 q.0)
        ticks' j o (inr (inl p)) r z = idles o p.2 r
        ticks' j o (inr (inr p)) r z = idles o p.1 r

        commits' : (j : ℕ) (o : Client) → Was j o → Commits lk start h' (suc j) o
        commits' j o (inl p) z = let t = p.3.commits z in let q = d.commits j p.0 p.1 t.0 in
            (q.0, old q.0 q.1, q.2, q.3 ∙ sym p.3.number, q.4, q.5 ∙ sym t.1)
        commits' j o (inr (inl p)) z = clash z (ap is_committed p.2)
        commits' j o (inr (inr p)) z = clash z (ap is_committed p.1)

  pub split_trace : (k : ℕ) → CanPlay lawful lk (splits k) c → (h' : List Record) → ((r : Record) → In r h' → In r h) →
      ((r : Record) → In r h → In r h') → length h' ≡ length h →
      Trace lk start (es ++ splits k ∷ []) (played lk (splits k) c) h'
  split_trace k may h' from old many =
      let v : Client = client_of c k in
      let size : length (set c.clients (k - 1) (giving v)) ≡ length c.clients =
      length-set c.clients (k - 1) (giving v) in
      other_trace (splits k) refl refl (λ j. refl) refl
      (λ j o a. ⊎_elim (λ p. inl (who_set c.clients (k - 1) (giving v) (λ j o. (u : Client) × At c.clients j u ×
      (o.is_gathered ≡ false → u.is_gathered ≡ false) × Rests u o) (
        v,
        may.0.1,
        (λ s. s),
        same v (giving v) refl refl refl refl refl refl refl refl,
      )
      (λ j o b n. (o, b, (λ s. s), same o o refl refl refl refl refl refl refl refl)) j o p))
      (λ p. inr (inl (
        let e = p.0 in omega (arith, size, e),
        sym (ap (λ (y : Client). y.attempt.number) p.1),
        sym (ap (λ (y : Client). y.attempt.phase) p.1),
      ))) (last_at (set c.clients (k - 1) (giving v))
      (fresh v) o j a))
      (let e = length-append (set c.clients (k - 1) (giving v)) (fresh v ∷ []) in
      omega (arith, size, e)) h' from old many

  pub gather_trace : (k l : ℕ) → CanPlay lawful lk (gathers k l) c → (h' : List Record) →
      ((r : Record) → In r h' → In r h) → ((r : Record) → In r h → In r h') → length h' ≡ length h →
      Trace lk start (es ++ gathers k l ∷ []) (played lk (gathers k l) c) h'
  gather_trace k l may h' from old many =
      let v : Client = taking (client_of c k) (client_of c l) in
      other_trace (gathers k l) refl refl (λ j. refl) refl
      (λ j o a. who_set (set c.clients (k - 1) v) (l - 1) gone
      (λ j o. ((u : Client) × At c.clients j u × (o.is_gathered ≡ false → u.is_gathered ≡ false) × Rests u o) ⊎
      ((length c.clients ≤ j) × (o.attempt.number ≡ 0) × (o.attempt.phase ≡ idle)) ⊎
      ((o.is_gathered ≡ true) × (o.attempt.phase ≡ idle))) (inr (inr (refl, refl)))
      (λ j o b n. inl (who_set c.clients (k - 1) v (λ j o. (u : Client) × At c.clients j u × (o.is_gathered ≡ false →
      u.is_gathered ≡ false) × Rests u o) (
        client_of c k,
        may.0.1,
        (λ s. s),
        same (client_of c k) v refl refl refl refl refl refl refl refl,
      )
      (λ j o b n. (o, b, (λ s. s), same o o refl refl refl refl refl refl refl refl)) j o b)) j o a)
      (let a = length-set (set c.clients (k - 1) v) (l - 1) gone in let b = length-set c.clients (k - 1) v in
      omega (arith, a, b)) h' from old many

  pub renew_trace : (k last : ℕ) → CanPlay lawful lk (renews k last) c → (h' : List Record) →
      ((r : Record) → In r h' → In r h) → ((r : Record) → In r h → In r h') → length h' ≡ length h →
      Trace lk start (es ++ renews k last ∷ []) (played lk (renews k last) c) h'
  renew_trace k last may h' from old many =
      let v : Client = client_of c k in
      other_trace (renews k last) refl refl (λ j. refl) refl
      (λ j o a. inl (who_set c.clients (k - 1) (renewing v) (λ j o. (u : Client) × At c.clients j u ×
      (o.is_gathered ≡ false → u.is_gathered ≡ false) × Rests u o) (
        v,
        may.0.1,
        (λ s. may.0.2),
        record {
          number = refl;
          runs = λ r. ending_idle r;
          ticked = λ r z. ending_idle r;
          commits = λ z. (let q : false ≡ true = z in
              absurd cc);
        },
      ) (λ j o b n. (o, b, (λ s. s), same o o refl refl refl refl refl refl refl refl)) j o a))
      (let a = length-set c.clients (k - 1) (renewing v) in omega (arith, a)) h' from old many

  -- a client that is to write after an event was to write the same before it, or won its tick by
  -- the event
  abbrev pub WroteBefore : Client → ℕ → Client → Type 0
  WroteBefore o j v = At c.clients j v × (v.attempt.phase ≡ running) × (0 < v.attempt.wv) ×
      (v.attempt.ticked_at ≡ o.attempt.ticked_at) × (v.attempt.writes ≡ o.attempt.writes)

  abbrev pub IsWriting : ℕ → Client → Type 0
  IsWriting j o = o.attempt.phase ≡ running → 0 < o.attempt.wv →
      ((v : Client) × WroteBefore o j v) ⊎ (o.attempt.ticked_at ≡ c.events)

  pub writing_before : (x : Event) → CanPlay lawful lk x c → (j : ℕ) (o : Client) → At (played lk x c).clients j o →
      IsWriting j o
  writing_before (acts k e) may = who_set c.clients (k - 1) (then k e may) (λ j o. IsWriting j o)
      (λ run above. ⊎_elim (λ p. inl (client_of c k, (may.0.1, p.0, p.1, p.2, p.3))) (λ p. inr p)
      (writing_since k e may run above))
      (λ j o a n run above. inl (o, (a, run, above, refl, refl)))
  writing_before (splits k) may = λ j o a. ⊎_elim
      (λ p. who_set c.clients (k - 1) (giving (client_of c k)) (λ j o. IsWriting j o)
      (λ run above. inl (client_of c k, (may.0.1, run, above, refl, refl)))
      (λ j o a n run above. inl (o, (a, run, above, refl, refl))) j o p)
      (λ p run above. ending_idle (ap (λ (y : Client). y.attempt.phase) p.1 ∙ run))
      (last_at (set c.clients (k - 1) (giving (client_of c k))) (fresh (client_of c k)) o j a)
  writing_before (gathers k l) may = who_set (set c.clients (k - 1) (taking (client_of c k) (client_of c l)))
      (l - 1) gone (λ j o. IsWriting j o) (λ run above. ending_idle run)
      (λ j o a n. who_set c.clients (k - 1) (taking (client_of c k) (client_of c l)) (λ j o. IsWriting j o)
      (λ run above. inl (client_of c k, (may.0.1, run, above, refl, refl)))
      (λ j o a n run above. inl (o, (a, run, above, refl, refl))) j o a)
  writing_before (renews k last) may = who_set c.clients (k - 1) (renewing (client_of c k)) (λ j o. IsWriting j o)
      (λ run above. ending_idle run) (λ j o a n run above. inl (o, (a, run, above, refl, refl)))

-- a list of events that decides nothing yet
pub opening_trace : (lk : ℕ → ℕ) (image : List ℕ) (last stripes : ℕ) →
    Trace lk (opened image last stripes) [] (opened image last stripes) []
opening_trace lk image last stripes = record {
  here = refl;
  count = refl;
  number = λ i v e s. ap (λ (y : Client). y.attempt.number) (only_one opener i v e);
  unborn = λ i l. refl;
  runs = λ i v e r. ending_idle (ap (λ (y : Client). y.attempt.phase) (only_one opener i v e) ∙ r);
  ticks = λ i v e r z. ending_idle (ap (λ (y : Client). y.attempt.phase) (only_one opener i v e) ∙ r);
  commits = λ i v e z. clash z (sym (ap decided (only_one opener i v e)));
  each = λ r i. absurd (nothing_in r i);
  all_in = λ r i. absurd (nothing_in r i);
  all_of = λ r i. absurd (nothing_in r i);
  as_many = refl;
  stored = λ k a n b y s. absurd (some-ne-none (acts k (put b y)) (sym s.0));
}

-- of two records in the order of point steps, the earlier one has the earlier point
later_point : (l : List Record) (i j : ℕ) (x y : Record) → ByPoint l → i < j → get_elem? l i ≡ some x →
    get_elem? l j ≡ some y → x.point < y.point
later_point [] i j x y b l e f = absurd (some-ne-none x (sym e))
later_point (r ∷ rs) zero zero x y b l e f = absurd (omega arith)
later_point (r ∷ rs) zero (suc j) x y b l e f = subst (λ (z : Record). z.point < y.point) (some-injective r x e)
    (b.0 y (j, f))
later_point (r ∷ rs) (suc i) zero x y b l e f = absurd (omega arith)
later_point (r ∷ rs) (suc i) (suc j) x y b l e f = later_point rs i j x y b.1 (omega arith) e f

by_place : (l : List Record) (i j : ℕ) (x y : Record) → ByPoint l → get_elem? l i ≡ some x → get_elem? l j ≡ some y →
    x.point < y.point → i < j
by_place l i j x y b e f p = go (ltb i j) refl (ltb j i) refl
  where
    go : (m : Bool) → ltb i j ≡ m → (n : Bool) → ltb j i ≡ n → i < j
    go true s n t = grind (arith, nat_tests)
    go false s true t = absurd (let q = later_point l j i y x b (grind (arith, nat_tests)) f e in omega arith)
    go false s false t = absurd (let q : i ≡ j = grind (arith, nat_tests) in let z =
        same_at l j x y (subst (λ m. get_elem? l m ≡ some x) q e) f in let u = ap (λ (r : Record). r.point) z in
        omega (arith, p, u))

-- the relation of a list of events to the records that it decides
pub of_list : (lk : ℕ → ℕ) (start : Core) (es : List Event) (c : Core) (h : List Record) → Trace lk start es c h →
    ByPoint h → IsOfList lk start es h
of_list lk start es c h d b = record {
  all = λ r. (d.all_in r, d.all_of r);
  as_many = d.as_many;
  each = d.each;
  in_time = λ i j n x y e f begins' ends.
      let p = points x (d.each x (i, e)) in
      let q = points y (d.each y (j, f)) in
      by_place h i j x y b e f (let m = ends x.point p.0 p.1 in let l =
      begin_first y.client es y.attempt n y.point q.0 begins' q.1 in omega (arith, m, l));
  stored = d.stored;
  no_trace = λ k a none. (
    λ r i same_client same_attempt. none (d.each r i).decided_at r
        (subst (λ m. IsDecision lk start es m a (d.each r i).decided_at r) same_client
        (subst (λ m. IsDecision lk start es r.client m (d.each r i).decided_at r) same_attempt (d.each r i).decided)),
    λ n b y s. let q = d.stored k a n b y s in none q.6.0 q.0 q.6.2,
  );
}
  where
    points : (r : Record) → IsMade lk start es r → (e : Action) × IsStepOf es r.client r.attempt r.point e
    points r m = by_bool r.writer (λ z. let q = m.writer z in
        (tick q.0 r.tag r.writes, q.1)) (λ z. (begin, (m.reader z).0))
