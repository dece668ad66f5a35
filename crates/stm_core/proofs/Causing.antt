-- Every conflict has a cause, and an attempt that is not disturbed meets none.
use Rattle.std.proofs.Common.{◌≡◌, ◌≢◌, ℕ, zero, suc, ◌+◌, ◌-◌, ◌*◌, ◌<◌, ◌≤◌, ◌⊎◌, inl, inr, ⊎_elim, Bool, true, false}
use Rattle.std.proofs.Common.{cond, eqb, leb, ◌||◌, ◌&&◌, get_or, List, [], ◌∷◌, length, set, slice_index, refl, sym}
use Rattle.std.proofs.Common.{ap, ◌∙◌, subst}
use Rattle.std.proofs.Common.{arith}
use Rattle.std.proofs.lemmas.Bool.Decides.{nat_tests}
use mathlib.Core.Option.{some}
use mathlib.Core.Logic.{dite}
use native.Mathlib.Decide.{ℕ_discrete}
use lib.ListN.{get_elem?}
use Rattle.tx_memory.specs.Image.{In}
use Rattle.stm_core.specs.Client.{Client, idle, running, ending, committed, finished, checked}
use Rattle.stm_core.specs.Client.{locked, ticked, validated, RecordLaw, Stamp, shed, version_of, IsFree, is_free}
use Rattle.stm_core.specs.Client.{writes_to}
use Rattle.stm_core.specs.Client.{word_before, value_fetched, decided}
use Rattle.stm_core.specs.Event.{Action, begin, probe, fetch, check, lock, tick, validate, put, release, give_back}
use Rattle.stm_core.specs.Event.{finish}
use Rattle.stm_core.specs.Event.{after, stepping, failing, read_too, holding, won, versioned, committed_by}
use Rattle.stm_core.specs.Event.{decides_at_once}
use Rattle.stm_core.specs.Event.{with_ticks, marking, counting, passes, passing, gone, is_empty}
use Rattle.stm_core.specs.Core.{Core, Event, acts, stamp_of, client_of, bounds_of, found, Leads, opened}
use Rattle.stm_core.specs.Guards.{stripe_of, Holds}
use Rattle.stm_core.specs.Version.{At}
use Rattle.stm_core.specs.Invariant.{GoesOnAlone}
use Rattle.stm_core.specs.Listed.{is_begin_of, begins, IsStepOf, core_at}
use Rattle.stm_core.specs.declared.limits.TheConstants.{MOST_TICKS}
use Rattle.stm_core.proofs.Lists.{by_bool, clash, in_range, same_at, set_here}
use Rattle.stm_core.proofs.Held.{held_has}
use Rattle.stm_core.proofs.Lones.{at_unmap}
use Rattle.stm_core.proofs.Steps.{by_case}
use Rattle.stm_core.proofs.Conditions.{can_act}
use Rattle.stm_core.proofs.Traced.{begin_first}
use Rattle.stm_core.specs.Conflicts.{Conflict, held, newer, moved, lost_lock, lost_tick, Shows, probe_held}
use Rattle.stm_core.specs.Conflicts.{validate_held, probe_newer, validate_newer, check_moved, lock_lost, tick_lost}
use Rattle.stm_core.specs.Causes.{IsHeldByAnother, IsTakenByAnother, HasCause, IsUndisturbed}
use Rattle.stm_core.specs.Progress.{EveryListIsProgressive}
use Rattle.stm_core.proofs.Places.{rule_at, number_at, began_before, may_at, after_at, begins_next, get_at}
use Rattle.stm_core.proofs.Places.{holder_is}
use Rattle.stm_core.proofs.Courses.{Course, Seen, Probed, Since}
use Rattle.stm_core.proofs.Going.{all_at}

-- who stands at a place, or nobody does
stands : (l : List Client) (i : ℕ) → (get_elem? l i ≡ some (get_or l i gone)) ⊎ (get_or l i gone ≡ gone)
stands [] i = inr refl
stands (x ∷ l) zero = inl refl
stands (x ∷ l) (suc i) = stands l i

second : (a x : Bool) → x ≡ true → (a || x) ≡ true
second true x e = refl
second false x e = e

module _ (lawful : RecordLaw) (lk : ℕ → ℕ) (image : List ℕ) (last stripes : ℕ) (es : List Event) (end : Core)
    (leads : Leads lawful lk (opened image last stripes) es end) where
  abbrev start : Core
  start = opened image last stripes

  abbrev core : ℕ → Core
  core n = core_at lk (opened image last stripes) es n

  abbrev it : (k n : ℕ) → Client
  it k n = client_of (core_at lk (opened image last stripes) es n) k

  -- the running attempt of client k with this number, which began at the place from
  abbrev pub Ran : (k attempt from to : ℕ) → Type 0
  Ran k attempt from to =
      Course lk (opened image last stripes) es to (core_at lk (opened image last stripes) es to) k attempt
      (it k to).attempt.rv from (it k to).attempt.wv (it k to).attempt.ticks (it k to).attempt.next_from
      (it k to).attempt.last

  ran : (k attempt from to : ℕ) → IsStepOf es k attempt from begin → to ≤ length es → begins k es to ≡ attempt →
      0 < k → At (core to).clients (k - 1) (it k to) → (it k to).is_gathered ≡ false →
      (it k to).attempt.phase ≡ running → Ran k attempt from to
  ran k attempt from to b within count some' at out run =
      let num : suc (k - 1) ≡ k = omega arith in
      let same : (it k to).attempt.number ≡ attempt =
      sym (subst (λ j. begins j es to ≡ (it k to).attempt.number) num
      (number_at lawful lk image last stripes es end leads to within (k - 1) (it k to) at out)) ∙ count in
      let own : IsStepOf es k attempt (it k to).attempt.began_at begin =
      subst (λ m. IsStepOf es k m (it k to).attempt.began_at begin) same
      (subst (λ j. IsStepOf es j (it k to).attempt.number (it k to).attempt.began_at begin) num
      (began_before lawful lk image last stripes es end leads to within (k - 1) (it k to) at run).0) in
      let place : (it k to).attempt.began_at ≡ from =
      (let low = begin_first k es attempt (it k to).attempt.began_at from begin own b in
      let high = begin_first k es attempt from (it k to).attempt.began_at begin b own in omega (arith, low, high)) in
      subst (λ m. Course lk start es to (core to) k attempt (it k to).attempt.rv m (it k to).attempt.wv
      (it k to).attempt.ticks (it k to).attempt.next_from (it k to).attempt.last) place
      (subst (λ m. Course lk start es to (core to) k m (it k to).attempt.rv (it k to).attempt.began_at
      (it k to).attempt.wv (it k to).attempt.ticks (it k to).attempt.next_from (it k to).attempt.last) same
      (subst (λ j. Course lk start es to (core to) j (it k to).attempt.number (it k to).attempt.rv
      (it k to).attempt.began_at (it k to).attempt.wv (it k to).attempt.ticks (it k to).attempt.next_from
      (it k to).attempt.last) num
      (all_at lawful lk image last stripes es end leads to within (k - 1) (it k to) at run)))

  -- a lock word that is not free is that of a client
  holder_of : (n : ℕ) → n ≤ length es → (l : ℕ) → (IsFree (slice_index (core n).locks l) → ⊥) →
      (i : ℕ) × (o : Client) × At (core n).clients i o × Holds o.attempt.held l
  holder_of n within l odd =
      let rule = rule_at lawful lk image last stripes es end leads n within in
      let w = slice_index (core n).locks l in
      let ne : w ≢ 2 * version_of w = odd in
      let q = rule.inv.version.holder l (let z : w ≡ 2 * version_of w + 1 = omega (arith, ne) in z) in
      let p = at_unmap (shed (core n).renewal) (core n).clients q.0 q.1 q.2 in
      (q.0, p.0, p.1, (version_of w, subst (λ (z : Client). In (l, version_of w) z.attempt.held) (sym p.2) q.3))

  module _ (k attempt from to : ℕ) (b : IsStepOf es k attempt from begin) where
    -- a step of the running attempt
    pub step_ran : (action : Action) → IsStepOf es k attempt to action → is_begin_of k (acts k action) ≡ false →
        (it k to).attempt.phase ≡ running → Ran k attempt from to
    step_ran action s other run =
        let may = may_at lawful lk image last stripes es end leads to (acts k action) s.0 in
        let less = in_range es to (acts k action) s.0 in
        ran k attempt from to b (omega (arith, less))
        (let q = begins_next k es to (acts k action) s.0 in
        let z : begins k es (suc to) ≡ begins k es to + 0 =
        subst (λ y. begins k es (suc to) ≡ begins k es to + cond y 1 0) other q in
        let e = s.1 in let f : begins k es to ≡ attempt = omega (arith, z, e) in f)
        may.0.0 may.0.1 may.0.2 run

    within : (action : Action) → IsStepOf es k attempt to action → to ≤ length es
    within action s = (let less = in_range es to (acts k action) s.0 in omega (arith, less))

    held_cause : (action : Action) → IsStepOf es k attempt to action → Ran k attempt from to → (l : ℕ) →
        is_free (slice_index (core to).locks l) ≡ false → writes_to (it k to).attempt.held l ≡ false →
        IsHeldByAnother lk start es k from to l
    held_cause action s g l odd other =
        let may = may_at lawful lk image last stripes es end leads to (acts k action) s.0 in
        let rule = rule_at lawful lk image last stripes es end leads to (within action s) in
        let q = holder_of to (within action s) l (λ (free : IsFree (slice_index (core to).locks l)).
        (let z : is_free (slice_index (core to).locks l) ≡ true = grind (arith, nat_tests) in clash z odd)) in
        let holds : writes_to q.1.attempt.held l ≡ true = held_has q.1.attempt.held l q.3.0 q.3.1 in
        let ne : suc q.0 ≢ k = (λ e. clash
        (subst (λ (z : Client). writes_to z.attempt.held l ≡ true)
        (same_at (core to).clients (k - 1) q.1 (it k to)
        (subst (λ i. At (core to).clients i q.1) (let z : q.0 ≡ k - 1 = omega (arith, e) in z) q.2) may.0.1) holds)
        other) in
        (suc q.0, ne, holder_is lawful lk (core to) rule q.0 l q.1 q.2 holds, g.held q.0 l q.1 ne q.2 holds)

    taken : (l w : ℕ) → IsFree w → slice_index (core to).locks l ≢ w →
        (IsFree w → Probed lk start es to (core to) k attempt l w) → IsTakenByAnother lk start es k attempt to l
    taken l w free ne f = let q = f free in (q.0, q.1, ⊎_elim (λ e. absurd (ne e)) (λ t. t) q.2)

    pub cause : {action : Action} {w : ℕ} {x : Conflict} → IsStepOf es k attempt to action →
        w ≡ found lk (core to) action →
        Shows lk (it k to) action w x → HasCause lk start es k attempt (it k to).attempt.rv from to x
    cause s e (probe_held l w odd other) =
        let may = may_at lawful lk image last stripes es end leads to (acts k (probe l)) s.0 in
        held_cause (probe l) s (step_ran (probe l) s refl may.1.0.0) l (subst (λ y. is_free y ≡ false) e odd) other
    cause s e (validate_held l w odd other) =
        let may = may_at lawful lk image last stripes es end leads to (acts k (validate l)) s.0 in
        held_cause (validate l) s (step_ran (validate l) s refl may.1.0) l (subst (λ y. is_free y ≡ false) e odd) other
    cause s e (probe_newer l w less) =
        let may = may_at lawful lk image last stripes es end leads to (acts k (probe l)) s.0 in
        (step_ran (probe l) s refl may.1.0.0).newer l (subst (λ y. (it k to).attempt.rv < version_of y) e less)
    cause s e (validate_newer l w less) =
        let may = may_at lawful lk image last stripes es end leads to (acts k (validate l)) s.0 in
        (step_ran (validate l) s refl may.1.0).newer l (subst (λ y. (it k to).attempt.rv < version_of y) e less)
    cause s e (check_moved a w ne) =
        let may = may_at lawful lk image last stripes es end leads to (acts k (check a)) s.0 in
        let p = may.1.3 in
        let g = step_ran (check a) s refl may.1.0.0 in
        taken (lk a) p.0 p.3 (λ h. ne (e ∙ (h ∙ sym (ap word_before p.2))))
        (subst (λ z. Seen lk start es to (core to) k attempt z) p.2 g.seen)
    cause s e (lock_lost l w ne) =
        let may = may_at lawful lk image last stripes es end leads to (acts k (lock l)) s.0 in
        let p = may.1.2 in
        let g = step_ran (lock l) s refl may.1.0.0 in
        taken l p.0 p.2 (λ h. ne (e ∙ (h ∙ sym (ap word_before p.1))))
        (subst (λ z. Seen lk start es to (core to) k attempt z) p.1 g.seen)
    cause s e (tick_lost f tag writes w all ne) =
        let may = may_at lawful lk image last stripes es end leads to (acts k (tick f tag writes)) s.0 in
        let g = step_ran (tick f tag writes) s refl may.1.0.0 in
        let p = g.paced may.1.0.1 in
        let low : (it k to).attempt.rv + (it k to).attempt.ticks ≤ (it k to).attempt.next_from = p.0 in
        let high : (it k to).attempt.next_from ≤ (core to).clock = p.1 in
        let is : f ≡ (it k to).attempt.next_from = may.1.1 in
        let clock : w ≡ (core to).clock = e in
        λ i less. g.won may.1.0.1 ((it k to).attempt.rv + i)
        (let z : (it k to).attempt.rv ≤ (it k to).attempt.rv + i = omega arith in z)
        (let z : (it k to).attempt.rv + i < (core to).clock = omega (arith, low, high, is, clock, all, ne, less) in z)

    -- what another client did is no step of an attempt that is not disturbed
    module _ (u : IsUndisturbed lk (opened image last stripes) es k from to) where
      not_another : (j n : ℕ) (e : Action) → j ≢ k → from < n → n < to → get_elem? es n ≡ some (acts j e) → ⊥
      not_another j n e ne low high here = ne (u.alone n (acts j e) low high here)

      not_taken : (l : ℕ) → IsTakenByAnother lk start es k attempt to l → ⊥
      not_taken l q =
          let first = begin_first k es attempt from q.0 (probe l) b q.1.0 in
          not_another q.2.0 q.2.1 (lock l) q.2.2 (let z = q.2.3 in let y : from < q.2.1 = omega (arith, first, z) in y)
          q.2.4 q.2.5.0

      not_since : (j l : ℕ) → j ≢ k → Since lk start es j l from to → ⊥
      not_since j l ne s = ⊎_elim (λ h. u.unlocked j l ne h) (λ q. not_another j q.0 (lock l) ne q.1 q.2 q.3.0) s

      none : (rv : ℕ) (x : Conflict) → HasCause lk start es k attempt rv from to x → ⊥
      none rv (held l) q = not_since q.0 l q.1 q.3
      none rv (newer l) q = not_another q.0 q.1 (release l) q.2 q.3 q.4 q.5.0
      none rv (moved l) q = not_taken l q
      none rv (lost_lock l) q = not_taken l q
      none rv lost_tick q =
          let p = q 0 (let z : 0 < MOST_TICKS = omega arith in z) in
          not_another p.0 p.1 (tick (rv + 0) p.5.0 p.5.1) p.2 p.3 p.4 p.5.2

      module _ (less : from < to) (inside : to ≤ length es) (count : begins k es to ≡ attempt)
          (run : (client_of (core_at lk (opened image last stripes) es to) k).attempt.phase ≡ running) where
        some' : 0 < k
        some' = (may_at lawful lk image last stripes es end leads from (acts k begin) b.0).0.0

        not_gone : {X : Type 0} → it k to ≡ gone → X
        not_gone e = absurd (let z : idle ≡ running = sym (ap (λ (y : Client). y.attempt.phase) e) ∙ run in cc)

        here : At (core to).clients (k - 1) (it k to)
        here = ⊎_elim (λ e. e) (λ e. not_gone e) (stands (core to).clients (k - 1))

        out : (it k to).is_gathered ≡ false
        out = by_bool (it k to).is_gathered
            (λ g. not_gone ((rule_at lawful lk image last stripes es end leads to inside).past.are_gone (k - 1)
            (it k to)
            here g)) (λ g. g)

        g : Ran k attempt from to
        g = ran k attempt from to b inside count some' here out run

        low_version : (l : ℕ) → version_of (slice_index (core to).locks l) ≤ (it k to).attempt.rv
        low_version l = by_bool (leb (version_of (slice_index (core to).locks l)) (it k to).attempt.rv)
            (λ t. grind (arith, nat_tests))
            (λ t. absurd (none (it k to).attempt.rv (newer l) (g.newer l (let z :
            (it k to).attempt.rv < version_of (slice_index (core to).locks l) = grind (arith, nat_tests) in z))))

        free_or_mine : (l : ℕ) → IsFree (slice_index (core to).locks l) ⊎ Holds (it k to).attempt.held l
        free_or_mine l = dite (ℕ_discrete (slice_index (core to).locks l)
            (2 * version_of (slice_index (core to).locks l))) (λ e. inl e)
            (λ odd. let q = holder_of to inside l odd in
            dite (ℕ_discrete q.0 (k - 1))
            (λ e. inr (subst (λ (z : Client). Holds z.attempt.held l)
            (same_at (core to).clients (k - 1) q.1 (it k to) (subst (λ i. At (core to).clients i q.1) e q.2) here) q.3))
            (λ y. absurd (let ne : suc q.0 ≢ k = (λ e. y (let s = some' in let z : q.0 ≡ k - 1 = omega (arith, e) in z))
            in
            not_since (suc q.0) l ne (g.held q.0 l q.1 ne q.2 (held_has q.1.attempt.held l q.3.0 q.3.1)))))

        found_again : (l w : ℕ) → IsFree w → (IsFree w → Probed lk start es to (core to) k attempt l w) →
            slice_index (core to).locks l ≡ w
        found_again l w free f = let q = f free in ⊎_elim (λ e. e) (λ t. absurd (not_taken l (q.0, q.1, t))) q.2

        its_clock : (it k to).attempt.wv ≡ 0 → ((core to).clock ≡ (it k to).attempt.rv) ×
            ((it k to).attempt.next_from ≡ (core to).clock)
        its_clock z =
            let p = g.paced z in
            let low : (it k to).attempt.rv + (it k to).attempt.ticks ≤ (it k to).attempt.next_from = p.0 in
            let high : (it k to).attempt.next_from ≤ (core to).clock = p.1 in
            dite (ℕ_discrete (core to).clock (it k to).attempt.rv)
            (λ e. (e, (let y : (it k to).attempt.next_from ≡ (core to).clock = omega (arith, low, high, e) in y)))
            (λ ne. absurd (let q = g.won z (it k to).attempt.rv (let y : (it k to).attempt.rv ≤ (it k to).attempt.rv =
            omega arith in y) (let y : (it k to).attempt.rv < (core to).clock = omega (arith, low, high, ne) in y) in
            not_another q.0 q.1 (tick (it k to).attempt.rv q.5.0 q.5.1) q.2 q.3 q.4 q.5.2))

        decides : (t : Stamp) (f : ℕ) (tag : List ℕ) (writes : List (ℕ × ℕ)) → (core to).clock ≡ f →
            (core to).clock ≡ (it k to).attempt.rv →
            decided (after t lk (tick f tag writes) (core to).clock (it k to)) ≡ true
        decides t f tag writes s r =
            let won' : eqb (core to).clock f ≡ true = grind (arith, nat_tests) in
            let w0 : Client = versioned t (f + 1) tag writes (it k to) in
            by_case (λ x. decided (stepping (ticked f (core to).clock) (cond x (won t (f + 1) tag writes (it k to))
            (it k to))) ≡ true) (eqb (core to).clock f)
            (λ _. by_case (λ x. decided (stepping (ticked f (core to).clock) (cond x (committed_by t w0) w0)) ≡ true)
            (decides_at_once w0) (λ _. refl)
            (λ z. clash (let y : f ≡ (it k to).attempt.rv = sym s ∙ r in
            let e : eqb (f + 1) ((it k to).attempt.rv + 1) ≡ true = grind (arith, nat_tests) in
            second (is_empty (it k to).attempt.reads) (eqb (f + 1) ((it k to).attempt.rv + 1)) e) z))
            (λ z. clash won' z)

        goes_alone : GoesOnAlone lawful lk (core to) (it k to)
        goes_alone = record {
          probes = λ l. (free_or_mine l, low_version l);
          checks = λ a may. let m = can_act lk lawful (bounds_of (core to)) (it k to).attempt (check a) may in
              let p = m.3 in
              found_again (lk a) p.0 p.3 (subst (λ z. Seen lk start es to (core to) k attempt z) p.2 g.seen)
              ∙ sym (ap word_before p.2);
          locks = λ l may. let m = can_act lk lawful (bounds_of (core to)) (it k to).attempt (lock l) may in
              let p = m.2 in
              found_again l p.0 p.2 (subst (λ z. Seen lk start es to (core to) k attempt z) p.1 g.seen)
              ∙ sym (ap word_before p.1);
          ticks = λ f tag writes may.
              let m = can_act lk lawful (bounds_of (core to)) (it k to).attempt (tick f tag writes) may in
              let q = its_clock m.0.1 in
              let s : (core to).clock ≡ f = sym q.1 ∙ sym m.1 in
              (s, λ t. decides t f tag writes s q.0);
        }

  -- the value of a client after its step
  pub value_after : (k n : ℕ) (action : Action) → get_elem? es n ≡ some (acts k action) →
      it k (suc n) ≡ after (stamp_of (core n) k) lk action (found lk (core n) action) (it k n)
  value_after k n action e =
      let may = may_at lawful lk image last stripes es end leads n (acts k action) e in
      let w : Client = after (stamp_of (core n) k) lk action (found lk (core n) action) (it k n) in
      subst (λ (d : Core). client_of d k ≡ w) (sym (after_at lawful lk image last stripes es end leads n
      (acts k action) e))
      (get_at (set (core n).clients (k - 1) w) (k - 1) w (set_here (core n).clients (k - 1) (it k n) w may.0.1))

  -- a running attempt that takes a step, which is no begin, has begun before
  module _ (k attempt to : ℕ) (action : Action) (s : IsStepOf es k attempt to action)
      (other : is_begin_of k (acts k action) ≡ false) where
    begun_if : (client_of (core_at lk (opened image last stripes) es to) k).attempt.phase ≡ running →
        (from : ℕ) × (from < to) × IsStepOf es k attempt from begin
    begun_if run =
        let may = may_at lawful lk image last stripes es end leads to (acts k action) s.0 in
        let less = in_range es to (acts k action) s.0 in
        let inside : to ≤ length es = omega (arith, less) in
        let num : suc (k - 1) ≡ k = (let z = may.0.0 in omega (arith, z)) in
        let next : begins k es (suc to) ≡ begins k es to + 0 =
        subst (λ y. begins k es (suc to) ≡ begins k es to + cond y 1 0) other
        (begins_next k es to (acts k action) s.0) in
        let count : begins k es to ≡ (it k to).attempt.number =
        subst (λ j. begins j es to ≡ (it k to).attempt.number) num
        (number_at lawful lk image last stripes es end leads to inside (k - 1) (it k to) may.0.1 may.0.2) in
        let same : (it k to).attempt.number ≡ attempt = (let e = s.1 in omega (arith, next, count, e)) in
        let q = began_before lawful lk image last stripes es end leads to inside (k - 1) (it k to) may.0.1 run in (
          (it k to).attempt.began_at,
          q.1,
          subst (λ m. IsStepOf es k m (it k to).attempt.began_at begin) same
              (subst (λ j. IsStepOf es j (it k to).attempt.number (it k to).attempt.began_at begin) num q.0),
        )

  begun_of : (k attempt to : ℕ) {action : Action} {w : ℕ} {x : Conflict} → IsStepOf es k attempt to action →
      Shows lk (it k to) action w x → (from : ℕ) × (from < to) × IsStepOf es k attempt from begin
  begun_of k attempt to s (probe_held l w odd other) = begun_if k attempt to (probe l) s refl
      (may_at lawful lk image last stripes es end leads to (acts k (probe l)) s.0).1.0.0
  begun_of k attempt to s (probe_newer l w less) = begun_if k attempt to (probe l) s refl
      (may_at lawful lk image last stripes es end leads to (acts k (probe l)) s.0).1.0.0
  begun_of k attempt to s (validate_held l w odd other) = begun_if k attempt to (validate l) s refl
      (may_at lawful lk image last stripes es end leads to (acts k (validate l)) s.0).1.0
  begun_of k attempt to s (validate_newer l w less) = begun_if k attempt to (validate l) s refl
      (may_at lawful lk image last stripes es end leads to (acts k (validate l)) s.0).1.0
  begun_of k attempt to s (check_moved a w ne) = begun_if k attempt to (check a) s refl
      (may_at lawful lk image last stripes es end leads to (acts k (check a)) s.0).1.0.0
  begun_of k attempt to s (lock_lost l w ne) = begun_if k attempt to (lock l) s refl
      (may_at lawful lk image last stripes es end leads to (acts k (lock l)) s.0).1.0.0
  begun_of k attempt to s (tick_lost f tag writes w all ne) = begun_if k attempt to (tick f tag writes) s refl
      (may_at lawful lk image last stripes es end leads to (acts k (tick f tag writes)) s.0).1.0.0

  module _ (k n : ℕ) (run : (client_of (core_at lk (opened image last stripes) es n) k).attempt.phase ≡ running) where
    abbrev v : Client
    v = client_of (core_at lk (opened image last stripes) es n) k

    abbrev Shown : Action → Type 0
    Shown action = ((l : ℕ) × (action ≡ give_back l)) ⊎ ((x : Conflict) ×
        Shows lk v action (found lk (core n) action) x)

    abbrev Aborts : Action → Type 0
    Aborts action = get_elem? es n ≡ some (acts k action) →
        (after (stamp_of (core n) k) lk action (found lk (core n) action) v).attempt.phase ≡ ending → Shown action

    goes_still : {X : Type 0} → v.attempt.phase ≡ ending → X
    goes_still e = absurd (let z : running ≡ ending = sym run ∙ e in cc)

    runs_still : {X : Type 0} → running ≡ ending → X
    runs_still e = absurd (let z : running ≡ ending = e in cc)

    commits_then : {X : Type 0} → committed ≡ ending → X
    commits_then e = absurd (let z : committed ≡ ending = e in cc)

    finishes_then : {X : Type 0} → finished ≡ ending → X
    finishes_then e = absurd (let z : finished ≡ ending = e in cc)

    abort_validate : (a : ℕ) → passes a (slice_index (core n).locks a) v ≡ false → Shown (validate a)
    abort_validate a e =
        let w = slice_index (core n).locks a in
        go (is_free w) refl (writes_to v.attempt.held a) refl (leb (version_of w) v.attempt.rv) refl e
      where
        go : (x : Bool) → is_free (slice_index (core n).locks a) ≡ x → (y : Bool) → writes_to v.attempt.held a ≡ y →
            (z : Bool) → leb (version_of (slice_index (core n).locks a)) v.attempt.rv ≡ z → ((x || y) && z) ≡ false →
            Shown (validate a)
        go x p y q false r f = inr (
          newer a,
          validate_newer a (slice_index (core n).locks a)
              (let s : v.attempt.rv < version_of (slice_index (core n).locks a) = grind (arith, nat_tests) in s),
        )
        go false p false q true r f = inr (held a, validate_held a (slice_index (core n).locks a) p q)
        go true p y q true r f = clash refl f
        go false p true q true r f = clash refl f

    aborts : (action : Action) → Aborts action
    aborts begin shown = λ e. runs_still e
    aborts (probe a) shown = λ e. goes_still e
    aborts (fetch a) shown = λ e. goes_still e
    aborts (check a) shown =
        let w = slice_index (core n).locks (lk a) in
        let m = word_before v.attempt.last in
        by_case (λ b. (stepping (checked a m w) (cond b (read_too a (value_fetched v.attempt.last) v)
        (failing v))).attempt.phase ≡ ending → Shown (check a)) (eqb w m)
        (λ y e. goes_still e)
        (λ y e. inr (moved (lk a), check_moved a w (let ne : w ≢ m = grind (arith, nat_tests) in ne)))
    aborts (lock a) shown =
        let w = slice_index (core n).locks a in
        let m = word_before v.attempt.last in
        by_case (λ b. (stepping (locked a m w) (cond b (holding a (version_of w) v)
        (failing v))).attempt.phase ≡ ending → Shown (lock a)) (eqb w m)
        (λ y e. goes_still e)
        (λ y e. inr (lost_lock a, lock_lost a w (let ne : w ≢ m = grind (arith, nat_tests) in ne)))
    aborts (tick f tag writes) shown =
        let t = stamp_of (core n) k in
        let clock = (core n).clock in
        let w0 : Client = versioned t (f + 1) tag writes v in
        by_case (λ b. (with_ticks (v.attempt.ticks + 1) clock (stepping (ticked f clock)
        (cond b (won t (f + 1) tag writes v) v))).attempt.phase ≡ ending → Shown (tick f tag writes)) (eqb clock f)
        (λ y. by_case (λ b. (with_ticks (v.attempt.ticks + 1) clock (stepping (ticked f clock)
        (cond b (committed_by t w0) w0))).attempt.phase ≡ ending → Shown (tick f tag writes)) (decides_at_once w0)
        (λ z e. commits_then e) (λ z e. goes_still e))
        (λ y e. goes_still e)
    aborts (validate a) shown =
        let t = stamp_of (core n) k in
        let w = slice_index (core n).locks a in
        let w0 : Client = counting v in
        by_case (λ b. (marking (writes_to v.attempt.held a) (stepping (validated a w) (cond b (passing t v)
        (failing v)))).attempt.phase ≡ ending → Shown (validate a)) (passes a w v)
        (λ y. by_case (λ b. (marking (writes_to v.attempt.held a) (stepping (validated a w)
        (cond b (committed_by t w0) w0))).attempt.phase ≡ ending → Shown (validate a))
        (eqb w0.attempt.passed (length v.attempt.reads)) (λ z e. commits_then e) (λ z e. goes_still e))
        (λ y e. abort_validate a y)
    aborts (put a x) shown = λ e. goes_still e
    aborts (release a) shown = λ e. goes_still e
    aborts (give_back a) shown = λ e. inl (a, refl)
    aborts (finish tag) shown = λ e. finishes_then e

-- every list of allowed events is progressive
pub every_list_is_progressive : (lawful : RecordLaw) → EveryListIsProgressive lawful
every_list_is_progressive lawful image last stripes es end leads = record {
  begun = λ k attempt to action x s.
      begun_of lawful (stripe_of stripes) image last stripes es end leads k attempt to s.0 s.1;
  causes = λ k attempt from to action x b s.
      cause lawful (stripe_of stripes) image last stripes es end leads k attempt from to b s.0 refl s.1;
  aborts = λ k n action here run e.
      aborts lawful (stripe_of stripes) image last stripes es end leads k n run action here
      (sym (ap (λ (y : Client). y.attempt.phase)
      (value_after lawful (stripe_of stripes) image last stripes es end leads k n action here)) ∙ e);
  undisturbed = λ k attempt from to action x b u s.
      none lawful (stripe_of stripes) image last stripes es end leads k attempt from to b u
      (client_of (core_at (stripe_of stripes) (opened image last stripes) es to) k).attempt.rv x
      (cause lawful (stripe_of stripes) image last stripes es end leads k attempt from to b s.0 refl s.1);
  goes_on = λ k attempt from to b u less inside count run.
      goes_alone lawful (stripe_of stripes) image last stripes es end leads k attempt from to b u less inside count
      run;
}
