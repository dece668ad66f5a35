-- An attempt whose stripes no other client touches meets no conflict, and so many attempts that meet conflicts have as
-- many steps of others.
use Rattle.std.proofs.Common.{◌≡◌, ◌≢◌, ℕ, suc, ◌+◌, ◌<◌, ◌≤◌, ◌⊎◌, inl, inr, ⊎_elim, List, refl, ◌∙◌}
use Rattle.std.proofs.Common.{subst, arith}
use Rattle.stm_core.specs.Client.{Client, RecordLaw}
use Rattle.stm_core.specs.Event.{Action, begin, probe, tick}
use Rattle.stm_core.specs.Core.{Core, Event, acts, client_of, found, Leads, opened}
use Rattle.stm_core.specs.Guards.{stripe_of}
use Rattle.stm_core.specs.Listed.{begins, IsStepOf, core_at}
use Rattle.stm_core.specs.declared.limits.TheConstants.{MOST_TICKS}
use Rattle.stm_core.specs.Conflicts.{Conflict, held, newer, moved, lost_lock, lost_tick, Shows, probe_held}
use Rattle.stm_core.specs.Conflicts.{validate_held, probe_newer, validate_newer, check_moved, lock_lost, tick_lost}
use Rattle.stm_core.specs.Causes.{AtLeast, IsOnLock, IsAtLock, IsDoneByAnother, HoldsAt, TakesAt, ReleasesAt}
use Rattle.stm_core.specs.Causes.{ReleasesAbove, LosesTickAt, IsHeldByAnother, IsTakenByAnother, HasCause, IsStripe}
use Rattle.stm_core.specs.Causes.{IsUntouched, LosesAllTicks, IsTouchedByAnother}
use Rattle.stm_core.specs.Progress.{MeetsFreshConflict, UntouchedMeetsNone, ConflictsAreCounted, OfEveryList}
use Rattle.stm_core.proofs.Traced.{begin_first, begins_more}
use Rattle.stm_core.proofs.Places.{may_at}
use Rattle.stm_core.proofs.Amounts.{at_least_more, at_least_from}
use Rattle.stm_core.proofs.Causing.{step_ran, cause}

-- the step that shows a conflict is on the conflict's lock
on_lock : {lk : ℕ → ℕ} {v : Client} {action : Action} {w : ℕ} {x : Conflict} → Shows lk v action w x → (l : ℕ) →
    IsAtLock x l → IsOnLock lk action l
on_lock (probe_held k n odd other) l e = e
on_lock (validate_held k n odd other) l e = e
on_lock (probe_newer k n less) l e = e
on_lock (validate_newer k n less) l e = e
on_lock (check_moved a n ne) l e = e
on_lock (lock_lost k n ne) l e = e
on_lock (tick_lost u tag writes n all ne) l e = absurd e

module _ (lawful : RecordLaw) (lk : ℕ → ℕ) (image : List ℕ) (last stripes : ℕ) (es : List Event) (end : Core)
    (leads : Leads lawful lk (opened image last stripes) es end) where
  abbrev start : Core
  start = opened image last stripes

  abbrev core : ℕ → Core
  core n = core_at lk (opened image last stripes) es n

  abbrev it : (k n : ℕ) → Client
  it k n = client_of (core_at lk (opened image last stripes) es n) k

  module _ (k attempt from to : ℕ) (b : IsStepOf es k attempt from begin) where
    abbrev Touched : (l : ℕ) → Type 0
    Touched l = IsDoneByAnother k from to (λ j n. TakesAt lk start es l j n ⊎ ReleasesAt lk start es l j n)

    abbrev Unheld : (l : ℕ) → Type 0
    Unheld l = (j : ℕ) → j ≢ k → HoldsAt lk start es j l from → ⊥

    of_held : (l : ℕ) → IsHeldByAnother lk start es k from to l → Unheld l → Touched l
    of_held l q free = ⊎_elim (λ h. absurd (free q.0 q.1 h)) (λ p. (q.0, p.0, q.1, p.1, p.2, inl p.3)) q.3

    of_taken : (l : ℕ) → IsTakenByAnother lk start es k attempt to l → Touched l
    of_taken l q =
        let first = begin_first k es attempt from q.0 (probe l) b q.1.0 in
        let p = q.2 in
        (p.0, p.1, p.2, (let z = p.3 in let y : from < p.1 = omega (arith, first, z) in y), p.4, inl p.5)

    -- a conflict at a lock that nobody else held at the begin
    pub touched : (rv l : ℕ) (x : Conflict) → HasCause lk start es k attempt rv from to x → IsAtLock x l → Unheld l →
        Touched l
    touched rv l (held m) q e free = of_held l (subst (IsHeldByAnother lk start es k from to) e q) free
    touched rv l (newer m) q e free =
        let p = subst (λ z. IsDoneByAnother k from to (ReleasesAbove lk start es z rv)) e q in
        (p.0, p.1, p.2, p.3, p.4, inr p.5.0)
    touched rv l (moved m) q e free = of_taken l (subst (IsTakenByAnother lk start es k attempt to) e q)
    touched rv l (lost_lock m) q e free = of_taken l (subst (IsTakenByAnother lk start es k attempt to) e q)
    touched rv l lost_tick q e free = absurd e

    module _ (u : IsUntouched lk (opened image last stripes) es k attempt from to)
        (few : LosesAllTicks lk (opened image last stripes) es k attempt to → ⊥) where
      at_lock : {action : Action} {w : ℕ} {x : Conflict} → IsStepOf es k attempt to action →
          w ≡ found lk (core to) action → Shows lk (it k to) action w x → (l : ℕ) → IsAtLock x l → ⊥
      at_lock {action} {w} {x} s e shown l at =
          let stripe : IsStripe lk start es k attempt to l =
          (to, action, (let z : to ≤ to = omega arith in z), s, on_lock shown l at) in
          let p = touched (it k to).attempt.rv l x
          (cause lawful lk image last stripes es end leads k attempt from to b s e shown) at
          (λ j ne h. u.unheld l j stripe ne h) in
          ⊎_elim (λ t. u.untaken l stripe (p.0, p.1, p.2, p.3, p.4, t))
          (λ t. u.unreleased l stripe (p.0, p.1, p.2, p.3, p.4, t)) p.5

      -- the sixteenth lost tick
      all_lost : (f : ℕ) (tag : List ℕ) (writes : List (ℕ × ℕ)) → IsStepOf es k attempt to (tick f tag writes) →
          (it k to).attempt.ticks + 1 ≡ MOST_TICKS → (core to).clock ≢ f → LosesAllTicks lk start es k attempt to
      all_lost f tag writes s all ne =
          let may = may_at lawful lk image last stripes es end leads to (acts k (tick f tag writes)) s.0 in
          let g = step_ran lawful lk image last stripes es end leads k attempt from to b (tick f tag writes) s refl
          may.1.0.0 in
          subst (λ c. AtLeast c (λ n. LosesTickAt lk start es k attempt n × (n ≤ to))) all
          (at_least_more (it k to).attempt.ticks to (λ n. LosesTickAt lk start es k attempt n × (n < to))
          (λ n. LosesTickAt lk start es k attempt n × (n ≤ to)) (λ n p. (p.0, (let z = p.1 in omega (arith, z))))
          (λ p. (let z = p.1 in omega (arith, z)))
          ((f, tag, writes, s, ne), (let z : to ≤ to = omega arith in z)) (g.lost may.1.0.1))

      none : {action : Action} {w : ℕ} {x : Conflict} → IsStepOf es k attempt to action →
          w ≡ found lk (core to) action → Shows lk (it k to) action w x → ⊥
      none s e (probe_held l w odd other) = at_lock s e (probe_held l w odd other) l refl
      none s e (validate_held l w odd other) = at_lock s e (validate_held l w odd other) l refl
      none s e (probe_newer l w less) = at_lock s e (probe_newer l w less) l refl
      none s e (validate_newer l w less) = at_lock s e (validate_newer l w less) l refl
      none s e (check_moved a w ne) = at_lock s e (check_moved a w ne) (lk a) refl
      none s e (lock_lost l w ne) = at_lock s e (lock_lost l w ne) l refl
      none s e (tick_lost f tag writes w all ne) = few (all_lost f tag writes s all (λ z. ne (e ∙ z)))

  -- attempts with conflicts, and steps of others
  module _ (k low high : ℕ) where
    abbrev Step : (n : ℕ) → Type 0
    Step n = (low < n) × (n < high) × ((l : ℕ) × IsTouchedByAnother lk start es k l n)

    -- a step of another client within the attempt
    within : (a : ℕ) → MeetsFreshConflict lk start es k low high a → (n : ℕ) × Step n × (begins k es (suc n) ≡ a)
    within a (from, to, l, action, x, above, below, b, shown, at, free) =
        let p = touched k a from to b (it k to).attempt.rv l x
        (cause lawful lk image last stripes es end leads k a from to b shown.0 refl shown.1) at free in
        let n = p.1 in
        let first : from < n = p.3 in
        let second : n < to = p.4 in (
          n,
          (
            (let z : low < n = omega (arith, above, first) in z),
            (let z : n < high = omega (arith, below, second) in z),
            (l, (p.0, p.2, p.5)),
          ),
          (let c = begins_more k es (suc from) (suc n) (omega (arith, first)) in
              let d = begins_more k es (suc n) (suc to) (omega (arith, second)) in
              let e = b.1 in
              let f = shown.0.1 in
              let z : begins k es (suc n) ≡ a = omega (arith, c, d, e, f) in z),
        )

    counted : (count : ℕ) → AtLeast count (MeetsFreshConflict lk start es k low high) → AtLeast count Step
    counted count q = at_least_from (MeetsFreshConflict lk start es k low high) Step (λ n. begins k es (suc n)) within
        count q

pub untouched_meets_none : (lawful : RecordLaw) → OfEveryList lawful UntouchedMeetsNone
untouched_meets_none lawful image last stripes es end leads k attempt from to action x b u few s =
    none lawful (stripe_of stripes) image last stripes es end leads k attempt from to b u
    few s.0 refl s.1

pub conflicts_are_counted : (lawful : RecordLaw) → OfEveryList lawful ConflictsAreCounted
conflicts_are_counted lawful image last stripes es end leads k low high count q =
    counted lawful (stripe_of stripes) image last stripes es end leads k low high count q
