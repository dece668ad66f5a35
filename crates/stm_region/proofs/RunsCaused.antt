-- Conflicts of running threads have their causes, since those of every list have.
use Rattle.std.proofs.Common.{◌≡◌, ℕ, suc, ◌+◌, ◌-◌, ◌≤◌, false, cond, List, [], ◌∷◌, ◌++◌, length, refl, sym, ap}
use Rattle.std.proofs.Common.{◌∙◌, subst, arith}
use mathlib.Core.Option.{some}
use lib.ListN.{get_elem?}
use Rattle.stm_core.specs.Client.{Client, Record, RecordLaw}
use Rattle.stm_core.specs.Event.{Action}
use Rattle.stm_core.specs.Guards.{stripe_of}
use Rattle.stm_core.specs.Core.{Core, Event, acts, client_of, found, opened}
use Rattle.stm_core.specs.Listed.{is_begin_of, begins, IsStepOf, core_at}
use Rattle.stm_core.specs.Theorem.{Reaches}
use Rattle.stm_core.specs.Conflicts.{Conflict, Shows, probe_held, validate_held, probe_newer, validate_newer}
use Rattle.stm_core.specs.Conflicts.{check_moved, lock_lost, tick_lost}
use Rattle.stm_core.specs.Causes.{HasCause}
use Rattle.stm_core.specs.Progress.{EveryListIsProgressive}
use Rattle.stm_core.proofs.Traced.{at_end, core_before, core_after}
use Rattle.stm_core.proofs.Places.{number_at, client_is, may_at, begins_next}
use Rattle.stm_region.specs.Shown.{opened_with}
use Rattle.stm_region.specs.Traced.{unplaced_client, IsTraced}
use Rattle.stm_region.specs.Runs.{start_of, events_of}
use Rattle.stm_region.specs.RealTime.{client_at}
use Rattle.stm_region.proofs.Mirroring.{found_same}
use Rattle.stm_region.proofs.Timing.{finds}
use Rattle.stm_region.specs.Caused.{EndsInConflict, EveryConflictOfARunHasACause, EveryConflictOfACallHasACause}

-- a step that shows a conflict is no begin
no_begin : {lk : ℕ → ℕ} {v : Client} {action : Action} {n : ℕ} {x : Conflict} (k : ℕ) → Shows lk v action n x →
    is_begin_of k (acts k action) ≡ false
no_begin k (probe_held l n odd other) = refl
no_begin k (validate_held l n odd other) = refl
no_begin k (probe_newer l n less) = refl
no_begin k (validate_newer l n less) = refl
no_begin k (check_moved a n ne) = refl
no_begin k (lock_lost l n ne) = refl
no_begin k (tick_lost u tag writes n all ne) = refl

-- what the value in a region shows, the value in the list shows
shows_same : {lk : ℕ → ℕ} {action : Action} {n : ℕ} {x : Conflict} (rs : List Record)
    (w : Client) → Shows lk (unplaced_client rs w) action n x → Shows lk w action n x
shows_same rs w (probe_held l n odd other) = probe_held l n odd other
shows_same rs w (validate_held l n odd other) = validate_held l n odd other
shows_same rs w (probe_newer l n less) = probe_newer l n less
shows_same rs w (validate_newer l n less) = validate_newer l n less
shows_same rs w (check_moved a n ne) = check_moved a n ne
shows_same rs w (lock_lost l n ne) = lock_lost l n ne
shows_same rs w (tick_lost u tag writes n all ne) = tick_lost u tag writes n all ne

module _ (lawful : RecordLaw) (all : EveryListIsProgressive lawful) (image : List ℕ) (last stripes : ℕ)
    (es : List Event) (c : Core) (leads : Reaches lawful image last stripes es c) (k : ℕ) (action : Action) (d : Core)
    (longer : Reaches lawful image last stripes (es ++ acts k action ∷ []) d) where
  abbrev lk : ℕ → ℕ
  lk = stripe_of stripes

  abbrev start : Core
  start = opened image last stripes

  abbrev more : List Event
  more = es ++ acts k action ∷ []

  here : core_at lk start more (length es) ≡ c
  here = core_before lk start es (acts k action) (length es) (let z : length es ≤ length es = omega arith in z)
      ∙ core_after lk lawful es start c leads

  length_more : (l : List Event) → length (l ++ acts k action ∷ []) ≡ suc (length l)
  length_more [] = refl
  length_more (e ∷ l) = ap suc (length_more l)

  ends : (v w : Client) (x : Conflict) → v ≡ unplaced_client v.records w → client_of c k ≡ w →
      Shows lk v action (found lk c action) x → EndsInConflict lk start more k v.attempt.number v.attempt.rv action x
  ends v w x shadow is shown =
      let to = length es in
      let p = all image last stripes more d longer in
      let last' : get_elem? more to ≡ some (acts k action) = at_end es (acts k action) in
      let may = may_at lawful lk image last stripes more d longer to (acts k action) last' in
      let v' : Client = client_of (core_at lk start more to) k in
      let there : v' ≡ w = ap (λ (z : Core). client_of z k) here ∙ is in
      let number : v'.attempt.number ≡ v.attempt.number =
      ap (λ (y : Client). y.attempt.number) there ∙ sym (ap (λ (y : Client). y.attempt.number) shadow) in
      let inside : to ≤ length more = (let z = length_more es in omega (arith, z)) in
      let num : suc (k - 1) ≡ k = (let z = may.0.0 in omega (arith, z)) in
      let before : begins k more to ≡ v'.attempt.number =
      subst (λ j. begins j more to ≡ v'.attempt.number) num
      (number_at lawful lk image last stripes more d longer to inside (k - 1) v' may.0.1 may.0.2) in
      let count : begins k more (suc to) ≡ begins k more to + 0 =
      subst (λ b. begins k more (suc to) ≡ begins k more to + cond b 1 0) (no_begin k shown)
      (begins_next k more to (acts k action) last') in
      let s : IsStepOf more k v.attempt.number to action =
      (last', (let z : begins k more (suc to) ≡ v.attempt.number = omega (arith, count, before, number) in z)) in
      let in_list : Shows lk w action (found lk c action) x =
      shows_same v.records w (subst (λ y. Shows lk y action (found lk c action) x) shadow shown) in
      let at_place : Shows lk v' action (found lk (core_at lk start more to) action) x =
      subst (λ (z : Core). Shows lk (client_of z k) action (found lk z action) x) (sym here)
      (subst (λ y. Shows lk y action (found lk c action) x) (sym is) in_list) in
      let rv : v'.attempt.rv ≡ v.attempt.rv =
      ap (λ (y : Client). y.attempt.rv) there ∙ sym (ap (λ (y : Client). y.attempt.rv) shadow) in
      let b = p.begun k v.attempt.number to action x (s, at_place) in record {
        from = b.0;
        begun = b.2;
        to = to;
        ended = s;
        last = length_more es;
        cause = subst (λ r. HasCause lk start more k v.attempt.number r b.0 to x) rv
            (p.causes k v.attempt.number b.0 to action x b.2 (s, at_place));
      }

pub run_conflicts_have_causes : (fits : List ℕ → Type 0) (lawful : RecordLaw) → EveryListIsProgressive lawful →
    EveryConflictOfARunHasACause fits lawful
run_conflicts_have_causes fits lawful all moments moves run first one n i v action x is at shown =
    let t = one.lists n in
    let t' = one.lists (suc n) in
    let g = one.goes_on n in
    let o = (moments n).opened in
    let k = client_at one n i in
    let w = t.clients.each i v at in
    let event : t'.events ≡ t.events ++ acts k action ∷ [] =
    subst (λ y. t'.events ≡ t.events ++ events_of t.clients.number y) is g.events in
    let longer : Reaches lawful o.first t.last o.stripes (t.events ++ acts k action ∷ []) t'.core =
    subst (λ es. Reaches lawful o.first t.last o.stripes es t'.core) event
    (subst (λ s. Reaches lawful o.first t.last s t'.events t'.core) g.stripes
    (subst (λ l. Reaches lawful o.first l (moments (suc n)).opened.stripes t'.events t'.core) g.last
    (subst (λ f. Reaches lawful f t'.last (moments (suc n)).opened.stripes t'.events t'.core) g.first t'.leads))) in
    let q = ends lawful all o.first t.last o.stripes t.events t.core t.leads k action t'.core longer v w.0 x w.2.0
    (client_is t.core (t.clients.number i) w.0 w.1)
    (subst (λ z. Shows (stripe_of o.stripes) v action z x) (finds one run n i action is) shown) in
    subst (λ es. EndsInConflict (stripe_of o.stripes) (start_of first) es k v.attempt.number v.attempt.rv action x)
    (sym event)
    (subst (λ c. EndsInConflict (stripe_of o.stripes) c (t.events ++ acts k action ∷ []) k v.attempt.number
    v.attempt.rv action x) (one.opening n) q)

pub call_conflicts_have_causes : (lawful : RecordLaw) → EveryListIsProgressive lawful →
    EveryConflictOfACallHasACause lawful
call_conflicts_have_causes lawful all region action word was v x one shown =
    let a = one.after in
    let t = a.traced in
    let g = a.goes_on t in
    let t' : IsTraced lawful (opened_with region) one.core = g.0 in
    let k = suc (t.clients.number one.number) in
    let lk = stripe_of region.stripes in
    let w = t.clients.each one.number was a.member in
    let same : word ≡ found lk t.core action =
    sym a.finds ∙ (ap (λ z. found lk z action) t.same
    ∙ found_same lk t.core a.before.clients a.before.events a.before.past action) in
    let longer : Reaches lawful region.first t.last region.stripes (t.events ++ acts k action ∷ []) t'.core =
    subst (λ es. Reaches lawful region.first t.last region.stripes es t'.core) g.3
    (subst (λ l. Reaches lawful region.first l region.stripes t'.events t'.core) g.1 t'.leads) in
    let q = ends lawful all region.first t.last region.stripes t.events t.core t.leads k action t'.core longer was w.0 x
    w.2.0 (client_is t.core (t.clients.number one.number) w.0 w.1)
    (subst (λ z. Shows lk was action z x) same shown) in (
      t',
      subst (λ es. EndsInConflict lk (opened region.first t'.last region.stripes) es
          (suc (t'.clients.number one.number)) was.attempt.number was.attempt.rv action x) (sym g.3)
          (subst (λ j. EndsInConflict lk (opened region.first t'.last region.stripes)
          (t.events ++ acts k action ∷ []) (suc j) was.attempt.number was.attempt.rv action x) (sym (g.2 one.number))
          (subst (λ l. EndsInConflict lk (opened region.first l region.stripes) (t.events ++ acts k action ∷ []) k
          was.attempt.number was.attempt.rv action x) (sym g.1) q)),
    )
