-- Every event keeps what a running attempt shows of the steps of others.
use Rattle.std.proofs.Common.{◌≡◌, ◌≢◌, ℕ, zero, suc, ◌+◌, ◌-◌, ◌<◌, ◌≤◌, inl, inr, ⊎_elim, false}
use Rattle.std.proofs.Common.{cond, eqb, List, [], length, set, slice_index, slice_set, refl, sym, ap, ◌∙◌, subst}
use Rattle.std.proofs.Common.{arith}
use Rattle.std.proofs.lemmas.Bool.Decides.{nat_tests}
use mathlib.Core.Option.{some, some-injective}
use lib.ListN.{get_elem?}
use Rattle.stm_core.specs.Client.{Client, Phase, idle, running, ending, committed, finished, Step, probed, fetched}
use Rattle.stm_core.specs.Client.{checked}
use Rattle.stm_core.specs.Client.{locked, ticked, validated, RecordLaw, version_of, IsFree, writes_to, word_before}
use Rattle.stm_core.specs.Client.{value_fetched}
use Rattle.stm_core.specs.Event.{Action, begin, probe, fetch, check, lock, tick, validate, put, release, give_back}
use Rattle.stm_core.specs.Event.{finish}
use Rattle.stm_core.specs.Event.{after, stepping, failing, read_too, holding, won, versioned, committed_by}
use Rattle.stm_core.specs.Event.{decides_at_once}
use Rattle.stm_core.specs.Event.{with_ticks, marking, counting, passes, passing, giving, fresh, taking, renewing, gone}
use Rattle.stm_core.specs.Event.{opener}
use Rattle.stm_core.specs.Core.{Core, Event, acts, splits, gathers, renews, stamp_of, client_of, found, played, Leads}
use Rattle.stm_core.specs.Core.{opened}
use Rattle.stm_core.specs.Version.{At}
use Rattle.stm_core.specs.Listed.{begins, core_at}
use Rattle.stm_core.specs.Causes.{actor, LosesTickAt}
use Rattle.stm_core.proofs.Amounts.{at_least_more}
use Rattle.stm_core.proofs.Lists.{at_set, at_snoc, nothing_in, set_here, who_set, only_one}
use Rattle.stm_core.proofs.Renewing.{at_below}
use Rattle.stm_core.proofs.Steps.{by_case}
use Rattle.stm_core.proofs.Places.{rule_at, count_at, number_at, began_before, may_at, after_at, begins_next, holder_is}
use Rattle.stm_core.proofs.Courses.{Course, Of, Seen, Probed, Moves, Lost, on_other, on_own, lost_on, quiet_on, widen}
use Rattle.stm_core.proofs.Moving.{word_set, act_moves, split_moves, gather_moves}

-- a phase that is not running
not_so : {X : Type 0} (p q : Phase) → q ≡ p → (p ≡ running → ⊥) → q ≡ running → X
not_so p q e n r = absurd (n (sym e ∙ r))

idle_rests : {X : Type 0} → idle ≡ running → X
idle_rests r = absurd (let z : idle ≡ running = r in cc)

ending_rests : {X : Type 0} → ending ≡ running → X
ending_rests r = absurd (let z : ending ≡ running = r in cc)

committed_rests : {X : Type 0} → committed ≡ running → X
committed_rests r = absurd (let z : committed ≡ running = r in cc)

finished_rests : {X : Type 0} → finished ≡ running → X
finished_rests r = absurd (let z : finished ≡ running = r in cc)

no_probe : {X : Type 0} (a l k : ℕ) → acts k (fetch a) ≡ acts k (probe l) → X
no_probe a l k e = absurd (let z : acts k (fetch a) ≡ acts k (probe l) = e in cc)

module _ (lawful : RecordLaw) (lk : ℕ → ℕ) (image : List ℕ) (last stripes : ℕ) (es : List Event) (end : Core)
    (leads : Leads lawful lk (opened image last stripes) es end) where
  abbrev start : Core
  start = opened image last stripes

  abbrev core : ℕ → Core
  core n = core_at lk (opened image last stripes) es n

  -- all running attempts just before a place, beside a core
  abbrev pub All : ℕ → Core → Type 0
  All n c = (i : ℕ) (v : Client) → At c.clients i v → v.attempt.phase ≡ running →
      Of lk (opened image last stripes) es n c (suc i) v

  module _ (n : ℕ) (within : n < length es) (all : All n (core_at lk (opened image last stripes) es n)) where
    inside : n ≤ length es
    inside = omega arith

    now : n < suc n
    now = omega arith

    -- the client of the event is the one that takes the step
    who : (x : Event) → get_elem? es n ≡ some x → (j : ℕ) (e : Action) → get_elem? es n ≡ some (acts j e) → j ≡ actor x
    who x here j e at = ap actor (some-injective (acts j e) x (sym at ∙ here))

    -- an event of client k
    module _ (k : ℕ) (some' : 0 < k) (d : Core) (m : Moves lk (opened image last stripes) es n k
        (core_at lk (opened image last stripes) es n) d) where
      num : suc (k - 1) ≡ k
      num = omega arith

      others : ((j : ℕ) (e : Action) → get_elem? es n ≡ some (acts j e) → j ≡ k) → (j : ℕ) (o : Client) →
          At (core_at lk (opened image last stripes) es n).clients j o → j ≢ (k - 1) →
          o.attempt.phase ≡ running → Of lk (opened image last stripes) es (suc n) d (suc j) o
      others is j o a ne run =
          on_other lk start es n (suc j) k (core n) d m (λ e. ne (let z : j ≡ k - 1 = omega (arith, e) in z))
          (λ e at. ne (let y = is (suc j) e at in let z : j ≡ k - 1 = omega (arith, y) in z)) o.attempt.number
          o.attempt.rv o.attempt.began_at o.attempt.wv o.attempt.ticks o.attempt.next_from
          o.attempt.last (began_before lawful lk image last stripes es end leads n inside j o a run).1 (all j o a run)

      mine : (v : Client) → At (core_at lk (opened image last stripes) es n).clients (k - 1) v →
          v.attempt.phase ≡ running → Of lk (opened image last stripes) es n
          (core_at lk (opened image last stripes) es n) k v
      mine v a run = subst (λ j. Of lk (opened image last stripes) es n
          (core_at lk (opened image last stripes) es n) j v) num (all (k - 1) v a run)

      -- its own event changes neither words nor clock, and its versions and ticks stay
      calm : (v : Client) → At (core_at lk (opened image last stripes) es n).clients (k - 1) v →
          v.attempt.phase ≡ running →
          ((l : ℕ) → version_of (slice_index d.locks l) ≡
          version_of (slice_index (core_at lk (opened image last stripes) es n).locks l)) →
          d.clock ≡ (core_at lk (opened image last stripes) es n).clock → (s : Step) →
          Seen lk (opened image last stripes) es (suc n) d k v.attempt.number s →
          Course lk (opened image last stripes) es (suc n) d k v.attempt.number v.attempt.rv v.attempt.began_at
          v.attempt.wv v.attempt.ticks v.attempt.next_from s
      calm v a run same clock s seen =
          let g = mine v a run in
          on_own lk start es n k (core n) d m v.attempt.number v.attempt.rv v.attempt.began_at v.attempt.wv
          v.attempt.ticks v.attempt.next_from v.attempt.last g same v.attempt.wv v.attempt.ticks v.attempt.next_from s
          seen (λ z. let p = g.paced z in (z, clock, p.0, p.1))
          (λ z. lost_on lk start es n k v.attempt.number v.attempt.ticks (g.lost z))

    -- a step of client k
    module _ (k : ℕ) where
      abbrev it : Client
      it = client_of (core_at lk (opened image last stripes) es n) k

      abbrev stamp : Rattle.stm_core.specs.Client.Stamp
      stamp = stamp_of (core_at lk (opened image last stripes) es n) k

      abbrev then : Action → Client
      then e = after (stamp_of (core_at lk (opened image last stripes) es n) k) lk e
          (found lk (core_at lk (opened image last stripes) es n) e)
          (client_of (core_at lk (opened image last stripes) es n) k)

      abbrev next : Action → Core
      next e = played lk (acts k e) (core_at lk (opened image last stripes) es n)

      moves : (e : Action) → get_elem? es n ≡ some (acts k e) → Moves lk (opened image last stripes) es n k
          (core_at lk (opened image last stripes) es n) (next e)
      moves e here = act_moves lawful lk start es n (rule_at lawful lk image last stripes es end leads n inside) k e
          here
          (may_at lawful lk image last stripes es end leads n (acts k e) here)

      -- the number of its attempt after the step
      number_next : (e : Action) → get_elem? es n ≡ some (acts k e) → (then e).is_gathered ≡ false →
          begins k es (suc n) ≡ (then e).attempt.number
      number_next e here out =
          let may = may_at lawful lk image last stripes es end leads n (acts k e) here in
          let number : suc (k - 1) ≡ k = (let z = may.0.0 in omega (arith, z)) in
          let stands : At (core (suc n)).clients (k - 1) (then e) =
          subst (λ (d : Core). At d.clients (k - 1) (then e))
          (sym (after_at lawful lk image last stripes es end leads n (acts k e) here))
          (set_here (core n).clients (k - 1) it (then e) may.0.1) in
          subst (λ j. begins j es (suc n) ≡ (then e).attempt.number) number
          (number_at lawful lk image last stripes es end leads (suc n) (let z : suc n ≤ length es = omega arith in z)
          (k - 1) (then e) stands out)

      abbrev Goes : Action → Type 0
      Goes e = get_elem? es n ≡ some (acts k e) → (then e).attempt.phase ≡ running →
          Of lk (opened image last stripes) es (suc n) (next e) k (then e)

      calmly : (e : Action) → (here : get_elem? es n ≡ some (acts k e)) → it.attempt.phase ≡ running →
          ((l : ℕ) → version_of (slice_index (next e).locks l) ≡ version_of (slice_index (core n).locks l)) →
          (next e).clock ≡ (core n).clock → (s : Step) →
          Seen lk (opened image last stripes) es (suc n) (next e) k it.attempt.number s →
          Course lk (opened image last stripes) es (suc n) (next e) k it.attempt.number it.attempt.rv
          it.attempt.began_at it.attempt.wv it.attempt.ticks it.attempt.next_from s
      calmly e here run same clock s seen =
          let may = may_at lawful lk image last stripes es end leads n (acts k e) here in
          calm k may.0.0 (next e) (moves e here) it may.0.1 run same clock s seen

      goes_begin : Goes begin
      goes_begin here run =
          let may = may_at lawful lk image last stripes es end leads n (acts k begin) here in
          let rule = rule_at lawful lk image last stripes es end leads n inside in
          subst (λ b. Course lk (opened image last stripes) es (suc n) (next begin) k (it.attempt.number + 1)
          (core n).clock b 0 0 (core n).clock (Rattle.stm_core.specs.Client.began (core n).clock))
          (sym (count_at lawful lk image last stripes es end leads n inside))
          (record {
            newer = λ l h. absurd (let q = rule.inv.version.versions l in omega (arith, q, h));
            seen = tt;
            paced = λ z. (
              (let q : (core n).clock + 0 ≤ (core n).clock = omega arith in q),
              (let q : (core n).clock ≤ (core n).clock = omega arith in q),
            );
            lost = λ z. ([], refl, tt, λ m i. absurd (nothing_in m i));
            won = λ z u low high. absurd (omega (arith, low, high));
            held = λ j l w ne a h. inl (⊎_elim
                (λ p. absurd (ne (let q = p.0 in let r = may.0.0 in let z : suc j ≡ k = omega (arith, q, r) in z)))
                (λ p. holder_is lawful lk (core n) rule j l w p.1 h)
                (at_set (core n).clients (k - 1) j (then begin) w a));
          })

      goes_probe : (a : ℕ) → Goes (probe a)
      goes_probe a here run = calmly (probe a) here run (λ l. refl) refl
          (probed a (slice_index (core n).locks a))
          (λ free. (
            n,
            (
              (
                here,
                number_next (probe a) here
                    (may_at lawful lk image last stripes es end leads n (acts k (probe a)) here).0.2,
              ),
              now,
              λ m low high. absurd (omega (arith, low, high)),
            ),
            inl refl,
          ))

      goes_fetch : (a : ℕ) → Goes (fetch a)
      goes_fetch a here run =
          let may = may_at lawful lk image last stripes es end leads n (acts k (fetch a)) here in
          let p = may.1.3 in
          let g = mine k may.0.0 (next (fetch a)) (moves (fetch a) here) it may.0.1 run in
          let word : word_before it.attempt.last ≡ p.0 = ap word_before p.1 in
          let was : IsFree p.0 → Probed lk (opened image last stripes) es n (core n) k it.attempt.number (lk a) p.0 =
          subst (λ s. Seen lk (opened image last stripes) es n (core n) k it.attempt.number s) p.1 g.seen in
          calmly (fetch a) here run (λ l. refl) refl
          (fetched a (word_before it.attempt.last) (slice_index (core n).cells a))
          (λ free. let q = was (subst IsFree word free) in (
            q.0,
            (
              q.1.0,
              (let z = q.1.1 in omega (arith, z)),
              quiet_on lk start es k (lk a) q.0 n (λ e.
                  let z : acts k (fetch a) ≡ acts k (probe (lk a)) =
                  some-injective (acts k (fetch a)) (acts k (probe (lk a))) (sym here ∙ e) in
                  no_probe a (lk a) k z) q.1.2,
            ),
            ⊎_elim (λ e. inl (e ∙ sym word)) (λ t. inr (widen t)) q.2,
          ))

      goes_check : (a : ℕ) → Goes (check a)
      goes_check a here =
          let w = slice_index (core n).locks (lk a) in
          let m = word_before it.attempt.last in
          by_case (λ b. (stepping (checked a m w) (cond b (read_too a (value_fetched it.attempt.last) it)
          (failing it))).attempt.phase ≡ running → Of lk (opened image last stripes) es (suc n) (next (check a)) k
          (stepping (checked a m w) (cond b (read_too a (value_fetched it.attempt.last) it) (failing it)))) (eqb w m)
          (λ e run. calmly (check a) here run (λ l. refl) refl (checked a m w) tt)
          (λ e run. ending_rests run)

      goes_lock : (a : ℕ) → Goes (lock a)
      goes_lock a here =
          let w = slice_index (core n).locks a in
          let m = word_before it.attempt.last in
          by_case (λ b. (stepping (locked a m w) (cond b (holding a (version_of w) it)
          (failing it))).attempt.phase ≡ running → Of lk (opened image last stripes) es (suc n) (next (lock a)) k
          (stepping (locked a m w) (cond b (holding a (version_of w) it) (failing it)))) (eqb w m)
          (λ e run. calmly (lock a) here run same refl (locked a m w) tt)
          (λ e run. ending_rests run)
        where
          same : (l : ℕ) → version_of (slice_index (next (lock a)).locks l) ≡ version_of (slice_index (core n).locks l)
          same l =
              let may = may_at lawful lk image last stripes es end leads n (acts k (lock a)) here in
              let w = slice_index (core n).locks a in
              let f = may.1.2 in
              by_case (λ b. version_of (slice_index (slice_set (core n).locks a (cond b (w + 1) w)) l) ≡
              version_of (slice_index (core n).locks l)) (eqb w (word_before it.attempt.last))
              (λ e. ⊎_elim
              (λ p. let is : w ≡ f.0 = (let z : w ≡ word_before it.attempt.last = grind (arith, nat_tests) in
              z ∙ ap word_before f.1) in
              let free : IsFree w = subst IsFree (sym is) f.2 in
              let q : version_of (w + 1) ≡ version_of w = omega (arith, free) in
              ap version_of p.1 ∙ (q ∙ ap (λ y. version_of (slice_index (core n).locks y)) p.0))
              (λ p. ap version_of p) (word_set (core n).locks a l (w + 1) may.1.1))
              (λ e. ⊎_elim
              (λ p. ap version_of (p.1 ∙ ap (λ y. slice_index (core n).locks y) p.0))
              (λ p. ap version_of p) (word_set (core n).locks a l w may.1.1))

      -- one lost tick more
      loses_one : (from : ℕ) (tag : List ℕ) (writes : List (ℕ × ℕ)) →
          get_elem? es n ≡ some (acts k (tick from tag writes)) →
          (core_at lk (opened image last stripes) es n).clock ≢ from →
          Lost lk (opened image last stripes) es n k it.attempt.number it.attempt.ticks →
          Lost lk (opened image last stripes) es (suc n) k it.attempt.number (it.attempt.ticks + 1)
      loses_one from tag writes here ne q =
          let may = may_at lawful lk image last stripes es end leads n (acts k (tick from tag writes)) here in
          let number : suc (k - 1) ≡ k = (let z = may.0.0 in omega (arith, z)) in
          let before : begins k es n ≡ it.attempt.number =
          subst (λ j. begins j es n ≡ it.attempt.number) number
          (number_at lawful lk image last stripes es end leads n inside (k - 1) it may.0.1 may.0.2) in
          let next : begins k es (suc n) ≡ begins k es n + 0 =
          begins_next k es n (acts k (tick from tag writes)) here in
          at_least_more it.attempt.ticks n (λ m. LosesTickAt lk start es k it.attempt.number m × (m < n))
          (λ m. LosesTickAt lk start es k it.attempt.number m × (m < suc n))
          (λ m p. (p.0, (let z = p.1 in omega (arith, z)))) (λ p. (let z = p.1 in omega (arith, z))) (
            (
              from,
              tag,
              writes,
              (here, (let z : begins k es (suc n) ≡ it.attempt.number = omega (arith, before, next) in z)),
              ne,
            ),
            now,
          ) q

      goes_tick : (from : ℕ) (tag : List ℕ) (writes : List (ℕ × ℕ)) → Goes (tick from tag writes)
      goes_tick from tag writes here =
          let may = may_at lawful lk image last stripes es end leads n (acts k (tick from tag writes)) here in
          let clock = (core n).clock in
          let w0 : Client = versioned stamp (from + 1) tag writes it in
          let g = mine k may.0.0 (next (tick from tag writes)) (moves (tick from tag writes) here) it may.0.1 may.1.0.0
          in
          by_case (λ b. (with_ticks (it.attempt.ticks + 1) clock (stepping (ticked from clock)
          (cond b (won stamp (from + 1) tag writes it) it))).attempt.phase ≡ running →
          Of lk (opened image last stripes) es (suc n) (next (tick from tag writes)) k
          (with_ticks (it.attempt.ticks + 1) clock (stepping (ticked from clock)
          (cond b (won stamp (from + 1) tag writes it) it)))) (eqb clock from)
          (λ e. by_case (λ b. (with_ticks (it.attempt.ticks + 1) clock (stepping (ticked from clock)
          (cond b (committed_by stamp w0) w0))).attempt.phase ≡ running →
          Of lk (opened image last stripes) es (suc n) (next (tick from tag writes)) k
          (with_ticks (it.attempt.ticks + 1) clock (stepping (ticked from clock)
          (cond b (committed_by stamp w0) w0)))) (decides_at_once w0)
          (λ z run. committed_rests run)
          (λ z run. on_own lk start es n k (core n) (next (tick from tag writes)) (moves (tick from tag writes) here)
          it.attempt.number it.attempt.rv it.attempt.began_at it.attempt.wv it.attempt.ticks it.attempt.next_from
          it.attempt.last g (λ l. refl) (from + 1) (it.attempt.ticks + 1) clock (ticked from clock) tt
          (λ y. absurd (omega (arith, y))) (λ y. absurd (omega (arith, y)))))
          (λ e run. on_own lk start es n k (core n) (next (tick from tag writes)) (moves (tick from tag writes) here)
          it.attempt.number it.attempt.rv it.attempt.began_at it.attempt.wv it.attempt.ticks it.attempt.next_from
          it.attempt.last g (λ l. refl) it.attempt.wv (it.attempt.ticks + 1) clock (ticked from clock) tt
          (λ y. let p = g.paced y in
          let low : it.attempt.rv + it.attempt.ticks ≤ it.attempt.next_from = p.0 in
          let high : it.attempt.next_from ≤ clock = p.1 in
          let is : from ≡ it.attempt.next_from = may.1.1 in
          let ne : clock ≢ from = grind (arith, nat_tests) in (
            y,
            ap (λ b. cond b (from + 1) clock) e,
            (let q : it.attempt.rv + (it.attempt.ticks + 1) ≤ clock = omega (arith, low, high, is, ne) in q),
            (let q : clock ≤ clock = omega arith in q),
          ))
          (λ y. loses_one from tag writes here (let ne : clock ≢ from = grind (arith, nat_tests) in ne) (g.lost y)))

      goes_validate : (a : ℕ) → Goes (validate a)
      goes_validate a here =
          let may = may_at lawful lk image last stripes es end leads n (acts k (validate a)) here in
          let w = slice_index (core n).locks a in
          let w0 : Client = counting it in
          let own = writes_to it.attempt.held a in
          by_case (λ b. (marking own (stepping (validated a w) (cond b (passing stamp it)
          (failing it)))).attempt.phase ≡ running →
          Of lk (opened image last stripes) es (suc n) (next (validate a)) k
          (marking own (stepping (validated a w) (cond b (passing stamp it) (failing it))))) (passes a w it)
          (λ e. by_case (λ b. (marking own (stepping (validated a w)
          (cond b (committed_by stamp w0) w0))).attempt.phase ≡ running →
          Of lk (opened image last stripes) es (suc n) (next (validate a)) k
          (marking own (stepping (validated a w) (cond b (committed_by stamp w0) w0))))
          (eqb w0.attempt.passed (length it.attempt.reads))
          (λ z run. committed_rests run)
          (λ z run. calmly (validate a) here run (λ l. refl) refl (validated a w) tt))
          (λ e run. ending_rests run)

      goes : (e : Action) → Goes e
      goes begin = goes_begin
      goes (probe a) = goes_probe a
      goes (fetch a) = goes_fetch a
      goes (check a) = goes_check a
      goes (lock a) = goes_lock a
      goes (tick from tag writes) = goes_tick from tag writes
      goes (validate a) = goes_validate a
      goes (put a x) = λ here run. not_so committed it.attempt.phase
          (may_at lawful lk image last stripes es end leads n (acts k (put a x)) here).1.0
          (λ r. committed_rests r) run
      goes (release a) = λ here run. not_so committed it.attempt.phase
          (may_at lawful lk image last stripes es end leads n (acts k (release a)) here).1.0
          (λ r. committed_rests r) run
      goes (give_back a) = λ here run. ending_rests run
      goes (finish tag) = λ here run. finished_rests run

    -- any event
    goes_on : (x : Event) → get_elem? es n ≡ some x → All (suc n) (played lk x (core n))
    goes_on (acts k e) here =
        let may = may_at lawful lk image last stripes es end leads n (acts k e) here in
        who_set (core n).clients (k - 1) (then k e)
        (λ j o. o.attempt.phase ≡ running → Of lk (opened image last stripes) es (suc n) (next k e) (suc j) o)
        (λ run. subst (λ j. Of lk (opened image last stripes) es (suc n) (next k e) j (then k e))
        (sym (num k may.0.0 (next k e) (moves k e here))) (goes k e here run))
        (λ j o a ne run. others k may.0.0 (next k e) (moves k e here) (who (acts k e) here) j o a ne run)
    goes_on (splits k) here =
        let may = may_at lawful lk image last stripes es end leads n (splits k) here in
        let rule = rule_at lawful lk image last stripes es end leads n inside in
        let d = played lk (splits k) (core n) in
        let v : Client = client_of (core n) k in
        let m = split_moves lawful lk start es n rule k may in
        λ j o a run. ⊎_elim
        (λ p. who_set (core n).clients (k - 1) (giving v)
        (λ j o. o.attempt.phase ≡ running → Of lk (opened image last stripes) es (suc n) d (suc j) o)
        (λ r. subst (λ j. Of lk (opened image last stripes) es (suc n) d j (giving v)) (sym (num k may.0.0 d m))
        (calm k may.0.0 d m v may.0.1 r (λ l. refl) refl Rattle.stm_core.specs.Client.nothing tt))
        (λ j o b ne r. others k may.0.0 d m (who (splits k) here) j o b ne r) j o p run)
        (λ e. idle_rests (ap (λ (y : Client). y.attempt.phase) e ∙ run))
        (at_snoc (set (core n).clients (k - 1) (giving v)) (fresh v) o j a)
    goes_on (gathers k i) here =
        let may = may_at lawful lk image last stripes es end leads n (gathers k i) here in
        let rule = rule_at lawful lk image last stripes es end leads n inside in
        let d = played lk (gathers k i) (core n) in
        let v : Client = client_of (core n) k in
        let w : Client = taking v (client_of (core n) i) in
        let m = gather_moves lawful lk start es n rule k i may in
        who_set (set (core n).clients (k - 1) w) (i - 1) gone
        (λ j o. o.attempt.phase ≡ running → Of lk (opened image last stripes) es (suc n) d (suc j) o)
        (λ run. idle_rests run)
        (λ j o a ne. who_set (core n).clients (k - 1) w
        (λ j o. o.attempt.phase ≡ running → Of lk (opened image last stripes) es (suc n) d (suc j) o)
        (λ r. subst (λ j. Of lk (opened image last stripes) es (suc n) d j w) (sym (num k may.0.0 d m))
        (calm k may.0.0 d m v may.0.1 r (λ l. refl) refl Rattle.stm_core.specs.Client.nothing tt))
        (λ j o b ne r. others k may.0.0 d m (who (gathers k i) here) j o b ne r) j o a)
    goes_on (renews k u) here =
        let may = may_at lawful lk image last stripes es end leads n (renews k u) here in
        let rule = rule_at lawful lk image last stripes es end leads n inside in
        let d = played lk (renews k u) (core n) in
        who_set (core n).clients (k - 1) (renewing (client_of (core n) k))
        (λ j o. o.attempt.phase ≡ running → Of lk (opened image last stripes) es (suc n) d (suc j) o)
        (λ run. idle_rests run)
        (λ j o a ne run. idle_rests (sym (ap (λ (y : Client). y.attempt.phase)
        (rule.past.are_gone j o a (may.2 j o a ne))) ∙ run))

  -- so every running attempt shows it, before any place
  pub all_at : (n : ℕ) → n ≤ length es → All n (core_at lk (opened image last stripes) es n)
  all_at zero h = λ i v a run. idle_rests (ap (λ (y : Client). y.attempt.phase) (only_one opener i v a) ∙ run)
  all_at (suc n) h =
      let within : n < length es = omega arith in
      let q = at_below es n within in
      subst (λ d. All (suc n) d) (sym (after_at lawful lk image last stripes es end leads n q.0 q.1))
      (goes_on n within (all_at n (let z : n ≤ length es = omega arith in z)) q.0 q.1)
