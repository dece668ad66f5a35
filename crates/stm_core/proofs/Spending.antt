-- While the clock is spent, no step decides an attempt that holds a lock and has won no tick.
use Rattle.std.proofs.Common.{◌≡◌, ◌≢◌, ℕ, suc, ◌+◌, ◌<◌, ◌⊎◌, inl, inr, cond, eqb, List, []}
use Rattle.std.proofs.Common.{◌∷◌, ◌++◌, length, refl, sym, ap, subst, arith}
use Rattle.std.proofs.lemmas.Bool.Decides.{nat_tests}
use mathlib.Core.Option.{some}
use lib.ListN.{get_elem?}
use Rattle.stm_core.specs.Client.{Client, RecordLaw, ending, locked, ticked, version_of, word_before}
use Rattle.stm_core.specs.Event.{Action, begin, probe, fetch, check, lock, tick, validate, put, release, give_back}
use Rattle.stm_core.specs.Event.{finish, after, stepping, failing, holding, won, with_ticks}
use Rattle.stm_core.specs.Core.{Core, Event, acts, stamp_of, client_of, found, Leads, opened}
use Rattle.stm_core.specs.Guards.{stripe_of, may_end}
use Rattle.stm_core.specs.Listed.{core_at}
use Rattle.stm_core.specs.Causes.{HoldsUnticked, IsSpentAt}
use Rattle.stm_core.specs.Progress.{SpentClockDecidesNone, OfEveryList}
use Rattle.stm_core.proofs.Lists.{clash}
use Rattle.stm_core.proofs.Steps.{by_case}
use Rattle.stm_core.proofs.Places.{may_at}
use Rattle.stm_core.proofs.Causing.{value_after}

one_more : (l : List (ℕ × ℕ)) (x : ℕ × ℕ) → l ++ x ∷ [] ≢ []
one_more [] x e = (let z : 1 ≡ 0 = ap length e in omega (arith, z))
one_more (y ∷ l) x e = (let z : suc (length (l ++ x ∷ [])) ≡ 0 = ap length e in omega (arith, z))

module _ (lawful : RecordLaw) (lk : ℕ → ℕ) (image : List ℕ) (last stripes : ℕ) (es : List Event) (end : Core)
    (leads : Leads lawful lk (opened image last stripes) es end) (k n : ℕ)
    (spent : IsSpentAt lk (opened image last stripes) es n)
    (h : HoldsUnticked (client_of (core_at lk (opened image last stripes) es n) k).attempt) where
  abbrev core : Core
  core = core_at lk (opened image last stripes) es n

  abbrev v : Client
  v = client_of (core_at lk (opened image last stripes) es n) k

  abbrev Then : Action → Client → Type 0
  Then action w =
      (HoldsUnticked w.attempt × (w.attempt.number ≡ v.attempt.number))
      ⊎ (((l : ℕ) × (action ≡ give_back l)) × (w.attempt.phase ≡ ending))

  goes : (action : Action) → get_elem? es n ≡ some (acts k action) →
      Then action (after (stamp_of core k) lk action (found lk core action) v)
  goes begin here = absurd (h.holds (may_at lawful lk image last stripes es end leads n (acts k begin) here).1)
  goes (probe a) here = inl (record { holds = h.holds; unticked = h.unticked; unsettled = h.unsettled }, refl)
  goes (fetch a) here =
      absurd (h.holds (may_at lawful lk image last stripes es end leads n (acts k (fetch a)) here).1.2)
  goes (check a) here =
      absurd (h.holds (may_at lawful lk image last stripes es end leads n (acts k (check a)) here).1.2)
  goes (lock a) here =
      let w = found lk core (lock a) in
      let m = word_before v.attempt.last in
      by_case (λ b. Then (lock a) (stepping (locked a m w) (cond b (holding a (version_of w) v) (failing v))))
      (eqb w m)
      (λ e. inl (
        record { holds = one_more v.attempt.held (a, version_of w); unticked = h.unticked; unsettled = h.unsettled },
        refl,
      ))
      (λ e. inl (record { holds = h.holds; unticked = h.unticked; unsettled = refl }, refl))
  goes (tick f tag writes) here =
      let may = may_at lawful lk image last stripes es end leads n (acts k (tick f tag writes)) here in
      let t = stamp_of core k in
      let clock = core.clock in
      by_case (λ b. Then (tick f tag writes) (with_ticks (v.attempt.ticks + 1) clock (stepping (ticked f clock)
      (cond b (won t (f + 1) tag writes v) v)))) (eqb clock f)
      (λ e. absurd (let is : clock ≡ f = grind (arith, nat_tests) in let less : f < core.last = may.1.2 in
      omega (arith, is, less, spent)))
      (λ e. inl (record { holds = h.holds; unticked = h.unticked; unsettled = h.unsettled }, refl))
  goes (validate a) here =
      absurd (let p = (may_at lawful lk image last stripes es end leads n (acts k (validate a)) here).1.1 in
      let z = h.unticked in omega (arith, p, z))
  goes (put a x) here =
      clash h.unsettled (ap may_end (may_at lawful lk image last stripes es end leads n (acts k (put a x)) here).1.0)
  goes (release a) here =
      clash h.unsettled (ap may_end (may_at lawful lk image last stripes es end leads n (acts k (release a)) here).1.0)
  goes (give_back a) here = inr ((a, refl), refl)
  goes (finish tag) here =
      absurd (h.holds (may_at lawful lk image last stripes es end leads n (acts k (finish tag)) here).1.1)

pub spent_clock_decides_none : (lawful : RecordLaw) → OfEveryList lawful SpentClockDecidesNone
spent_clock_decides_none lawful image last stripes es end leads k n action here spent h =
    let lk = stripe_of stripes in
    subst (Then lawful lk image last stripes es end leads k n spent h action)
    (sym (value_after lawful lk image last stripes es end leads k n action here))
    (goes lawful lk image last stripes es end leads k n spent h action here)
