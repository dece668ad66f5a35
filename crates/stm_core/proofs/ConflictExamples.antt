-- The worked lists are computed.
use Rattle.std.proofs.Common.{◌≡◌, ◌≢◌, ◌<◌, ◌≤◌, ℕ, zero, suc, ◌-◌, Bool, true, false, cond, eqb, ltb, leb, ◌&&◌}
use Rattle.std.proofs.Common.{List, [], ◌∷◌, length, refl, sym, ap, ◌∙◌, subst, arith}
use Rattle.std.proofs.lemmas.Bool.Decides.{nat_tests}
use mathlib.Core.Option.{some, some-injective, some-ne-none}
use lib.ListN.{get_elem?}
use Rattle.tx_memory.specs.Image.{In}
use Rattle.stm_core.specs.Client.{Client}
use Rattle.stm_core.specs.Event.{Action, begin, probe, fetch, check, lock, tick, validate, put, release, give_back}
use Rattle.stm_core.specs.Event.{finish, is_empty}
use Rattle.stm_core.specs.Guards.{stripe_of}
use Rattle.stm_core.specs.Core.{Core, Event, acts, client_of, may_play, played, Leads}
use Rattle.stm_core.specs.Examples.{IsAllowedList}
use Rattle.stm_core.specs.Listed.{core_at}
use Rattle.stm_core.specs.Theorem.{free_law}
use Rattle.stm_core.proofs.Lists.{clash, nothing_in}
use Rattle.stm_core.proofs.Amounts.{in_more}
use Rattle.stm_core.proofs.Conditions.{and2, bool_test, empty_test, out_test, free_event, can_play}
use Rattle.stm_core.specs.Causes.{actor, HoldsAt, IsOnLock, IsStripe, IsUntouched}
use Rattle.stm_core.specs.Progress.{MeetsFreshConflict}
use Rattle.stm_core.specs.Conflicts.{held, probe_held, validate_held, probe_newer, validate_newer, check_moved}
use Rattle.stm_core.specs.Conflicts.{lock_lost}
use Rattle.stm_core.specs.Conflicts.{tick_lost}
use Rattle.stm_core.specs.ConflictExamples.{start, WorkedConflicts, meets_held, meets_newer, meets_moved, loses_lock}
use Rattle.stm_core.specs.ConflictExamples.{validates_held, validates_newer, loses_ticks, undisturbed, probes_twice}
use Rattle.stm_core.specs.ConflictExamples.{passes_by, meets_twice, brief, spends_clock}

-- whether the events may be played one by one
abbrev plays : (ℕ → ℕ) → Core → List Event → Bool
plays lk c [] = true
plays lk c (e ∷ es) = may_play lk e c && plays lk (played lk e c) es

leads_by : (lk : ℕ → ℕ) (c : Core) (es : List Event) → plays lk c es ≡ true →
    Leads free_law lk c es (core_at lk c es (length es))
leads_by lk c [] h = refl
leads_by lk c (e ∷ es) h =
    let p = (and2 (bool_test (may_play lk e c)) (bool_test (plays lk (played lk e c) es))).sound h in
    ((p.0, free_event e c), leads_by lk (played lk e c) es p.1)

allowed : (es : List Event) → plays (stripe_of 32) start es ≡ true → IsAllowedList es
allowed es h = (core_at (stripe_of 32) start es (length es), leads_by (stripe_of 32) start es h)

apart : (n m : ℕ) → n ≡ suc m → n ≢ m
apart n m e f = omega (arith, e, f)

below : {n : ℕ} → 0 < suc n
below = omega arith

-- no client of the list holds a lock
abbrev all_free : List Client → Bool
all_free [] = true
all_free (v ∷ vs) = is_empty v.attempt.held && all_free vs

nobody : (l : List Client) → all_free l ≡ true → (i : ℕ) (w : Client) → get_elem? l i ≡ some w → w.attempt.held ≡ []
nobody [] h i w e = absurd (some-ne-none w (sym e))
nobody (v ∷ vs) h zero w e =
    let p = (and2 (bool_test (is_empty v.attempt.held)) (bool_test (all_free vs))).sound h in
    subst (λ (z : Client). z.attempt.held ≡ []) (some-injective v w e) ((empty_test v.attempt.held).sound p.0)
nobody (v ∷ vs) h (suc i) w e =
    let p = (and2 (bool_test (is_empty v.attempt.held)) (bool_test (all_free vs))).sound h in nobody vs p.1 i w e

no_holder : (lk : ℕ → ℕ) (first : Core) (es : List Event) (n : ℕ) →
    all_free (core_at lk first es n).clients ≡ true → (k l : ℕ) → HoldsAt lk first es k l n → ⊥
no_holder lk first es n free k l h =
    let c = core_at lk first es n in
    let q = (out_test c k).sound h.0 in
    let e = nobody c.clients free (k - 1) (client_of c k) q.1 in
    nothing_in (l, h.1.0) (subst (In (l, h.1.0)) e h.1.1)

none_holds : (lk : ℕ → ℕ) (es : List Event) (n : ℕ) → all_free (core_at lk start es n).clients ≡ true →
    (k l : ℕ) → HoldsAt lk start es k l n → ⊥
none_holds lk es n free k l h = no_holder lk start es n free k l h

-- from a place on the client takes all steps of the list
abbrev own_from : (client place : ℕ) → List Event → Bool
own_from k n [] = true
own_from k zero (e ∷ es) = eqb (actor e) k && own_from k zero es
own_from k (suc n) (e ∷ es) = own_from k n es

acts_alone : (k from : ℕ) (es : List Event) → own_from k from es ≡ true → (n : ℕ) (e : Event) → from ≤ n →
    get_elem? es n ≡ some e → actor e ≡ k
acts_alone k from [] h n e low at = absurd (some-ne-none e (sym at))
acts_alone k zero (x ∷ es) h zero e low at =
    let p = (and2 (bool_test (eqb (actor x) k)) (bool_test (own_from k zero es))).sound h in
    let t : eqb (actor x) k ≡ true = p.0 in
    subst (λ z. actor z ≡ k) (some-injective x e at) (let q : actor x ≡ k = grind (arith, nat_tests) in q)
acts_alone k zero (x ∷ es) h (suc n) e low at =
    let p = (and2 (bool_test (eqb (actor x) k)) (bool_test (own_from k zero es))).sound h in
    acts_alone k zero es p.1 n e (omega arith) at
acts_alone k (suc from) (x ∷ es) h zero e low at = absurd (omega arith)
acts_alone k (suc from) (x ∷ es) h (suc n) e low at = acts_alone k from es h n e (omega arith) at

-- an event is a probe of lock 8 by client 1
abbrev is_probe : Event → Bool
is_probe (acts k (probe l)) = eqb k 1 && eqb l 8
is_probe _ = false

-- from a place on the list has no such probe
abbrev unprobed : (place : ℕ) → List Event → Bool
unprobed n [] = true
unprobed zero (e ∷ es) = cond (is_probe e) false (unprobed zero es)
unprobed (suc n) (e ∷ es) = unprobed n es

later : (b c : Bool) → cond b false c ≡ true → c ≡ true
later true c e = clash e refl
later false c e = e

no_probe : (from : ℕ) (es : List Event) → unprobed from es ≡ true → (n : ℕ) → from ≤ n →
    get_elem? es n ≢ some (acts 1 (probe 8))
no_probe from [] h n low at = some-ne-none (acts 1 (probe 8)) (sym at)
no_probe zero (x ∷ es) h zero low at = clash h
    (ap (λ e. cond (is_probe e) false (unprobed zero es)) (some-injective x (acts 1 (probe 8)) at))
no_probe zero (x ∷ es) h (suc n) low at = no_probe zero es (later (is_probe x) (unprobed zero es) h) n (omega arith) at
no_probe (suc from) (x ∷ es) h zero low at = omega (arith, low)
no_probe (suc from) (x ∷ es) h (suc n) low at = no_probe from es h n (omega (arith, low)) at

-- the step is on no lock from this number on
abbrev is_below : (bound : ℕ) → Action → Bool
is_below b begin = true
is_below b (probe k) = ltb k b
is_below b (fetch a) = ltb (stripe_of 32 a) b
is_below b (check a) = ltb (stripe_of 32 a) b
is_below b (lock k) = ltb k b
is_below b (tick u tag writes) = true
is_below b (validate k) = ltb k b
is_below b (put a x) = ltb (stripe_of 32 a) b
is_below b (release k) = ltb k b
is_below b (give_back k) = ltb k b
is_below b (finish tag) = true

-- the step takes and releases no lock below this number
abbrev is_above : (bound : ℕ) → Action → Bool
is_above b (lock k) = leb b k
is_above b (release k) = leb b k
is_above b _ = true

abbrev keeps_apart : (bound : ℕ) → Event → Bool
keeps_apart b (acts k action) = cond (eqb k 1) (is_below b action) (is_above b action)
keeps_apart b _ = true

abbrev are_apart : (bound : ℕ) → List Event → Bool
are_apart b [] = true
are_apart b (e ∷ es) = keeps_apart b e && are_apart b es

each_apart : (b : ℕ) (es : List Event) → are_apart b es ≡ true → (n : ℕ) (e : Event) → get_elem? es n ≡ some e →
    keeps_apart b e ≡ true
each_apart b [] h n e at = absurd (some-ne-none e (sym at))
each_apart b (x ∷ es) h zero e at =
    let p = (and2 (bool_test (keeps_apart b x)) (bool_test (are_apart b es))).sound h in
    subst (λ z. keeps_apart b z ≡ true) (some-injective x e at) p.0
each_apart b (x ∷ es) h (suc n) e at =
    let p = (and2 (bool_test (keeps_apart b x)) (bool_test (are_apart b es))).sound h in each_apart b es p.1 n e at

smaller : (b k l : ℕ) → ltb k b ≡ true → k ≡ l → l < b
smaller b k l h e = (let z : k < b = grind (arith, nat_tests) in let y : l < b = omega (arith, z, e) in y)

on_below : (b l : ℕ) (action : Action) → is_below b action ≡ true → IsOnLock (stripe_of 32) action l → l < b
on_below b l begin h e = absurd e
on_below b l (probe k) h e = smaller b k l h e
on_below b l (fetch a) h e = smaller b (stripe_of 32 a) l h e
on_below b l (check a) h e = smaller b (stripe_of 32 a) l h e
on_below b l (lock k) h e = smaller b k l h e
on_below b l (tick u tag writes) h e = absurd e
on_below b l (validate k) h e = smaller b k l h e
on_below b l (put a x) h e = smaller b (stripe_of 32 a) l h e
on_below b l (release k) h e = smaller b k l h e
on_below b l (give_back k) h e = smaller b k l h e
on_below b l (finish tag) h e = absurd e

module _ (b : ℕ) (es : List Event) (h : are_apart b es ≡ true) where
  stripe_below : (attempt to l : ℕ) → IsStripe (stripe_of 32) start es 1 attempt to l → l < b
  stripe_below attempt to l (n, action, low, s, on) =
      on_below b l action (each_apart b es h n (acts 1 action) s.0) on

  lock_above : (j n l : ℕ) (action : Action) → j ≢ 1 → get_elem? es n ≡ some (acts j action) →
      is_above b action ≡ leb b l → b ≤ l
  lock_above j n l action ne at same =
      let t : cond (eqb j 1) (is_below b action) (is_above b action) ≡ true =
      each_apart b es h n (acts j action) at in
      let other : eqb j 1 ≡ false = grind (arith, nat_tests) in
      let t' : is_above b action ≡ true =
      subst (λ z. cond z (is_below b action) (is_above b action) ≡ true) other t in
      let t'' : leb b l ≡ true = sym same ∙ t' in
      (let z : b ≤ l = grind (arith, nat_tests) in z)

  -- nobody touches the stripes of client 1 if nobody else holds a lock at first
  no_touch : (attempt from to : ℕ) → all_free (core_at (stripe_of 32) start es from).clients ≡ true →
      IsUntouched (stripe_of 32) start es 1 attempt from to
  no_touch attempt from to free = record {
    unheld = λ l j stripe ne held. none_holds (stripe_of 32) es from free j l held;
    untaken = λ l stripe p. let low = stripe_below attempt to l stripe in
        let high = lock_above p.0 p.1 l (lock l) p.2 p.5.0 refl in omega (arith, low, high);
    unreleased = λ l stripe p. let low = stripe_below attempt to l stripe in
        let high = lock_above p.0 p.1 l (release l) p.2 p.5 refl in omega (arith, low, high);
  }

not_two : In {A = ℕ} 1 (2 ∷ []) → ⊥
not_two (zero, e) = (let z : 2 ≡ 1 = some-injective 2 1 e in omega (arith, z))
not_two (suc j, e) = some-ne-none 1 (sym e)

abbrev one_lock : List (ℕ × ℕ)
one_lock = (9, 0) ∷ []

one_held : one_lock ≡ [] → ⊥
one_held e = (let z : 1 ≡ 0 = ap length e in omega (arith, z))

-- the second attempt may only tick from a version below the last one, and from the clock's value
too_late : (u : ℕ) (tag : List ℕ) (writes : List (ℕ × ℕ)) → may_play (stripe_of 32) (acts 1 (tick u tag writes))
    (core_at (stripe_of 32) brief spends_clock 9) ≡ true → ⊥
too_late u tag writes h =
    let m = can_play free_law (stripe_of 32) (acts 1 (tick u tag writes))
    (core_at (stripe_of 32) brief spends_clock 9) (h, tt) in
    let next : u ≡ 1 = m.1.1 in
    let less : u < 1 = m.1.2 in
    omega (arith, next, less)

pub worked_conflicts : WorkedConflicts
worked_conflicts = record {
  held_is_met = (allowed meets_held refl, ((refl, refl), probe_held 8 1 refl refl));
  held_before = (refl, (0, (0, refl)));
  newer_is_met = (
    allowed meets_newer refl,
    ((refl, refl), probe_newer 8 2 below),
  );
  released_newer = (refl, below);
  moved_is_met = (allowed meets_moved refl, ((refl, refl), check_moved 8 1 (apart 1 0 refl)));
  taken_before_the_check = (refl, refl);
  lock_is_lost = (allowed loses_lock refl, ((refl, refl), lock_lost 8 1 (apart 1 0 refl)));
  taken_before_the_exchange = (refl, refl);
  validation_meets_held = (allowed validates_held refl, ((refl, refl), validate_held 8 1 refl refl));
  taken_since = (refl, refl);
  validation_meets_newer = (
    allowed validates_newer refl,
    ((refl, refl), validate_newer 8 6 below),
  );
  released_since = (refl, below);
  last_tick_is_lost = (
    allowed loses_ticks refl,
    ((refl, refl), tick_lost 15 (2 ∷ []) ((9, 5) ∷ []) 16 refl (apart 16 15 refl)),
  );
  first_won = (1 ∷ [], (10, 6) ∷ [], refl, refl);
  last_won = (1 ∷ [], (10, 6) ∷ [], refl, refl);
  undisturbed_is_allowed = allowed undisturbed refl;
  begun_alone = (refl, refl);
  none_disturbs = record {
    unlocked = λ j l ne h. none_holds (stripe_of 32) undisturbed 7 refl j l h;
    alone = λ n e low high at. acts_alone 1 8 undisturbed refl n e (let z : 8 ≤ n = omega arith in z) at;
  };
  both_out = refl;
  still_runs = refl;
  moved_since_last_probe = (allowed probes_twice refl, ((refl, refl), check_moved 8 1 (apart 1 0 refl)));
  taken_before = (refl, refl);
  last_probe = (
    (refl, refl),
    omega arith,
    λ m low high. no_probe 8 probes_twice refl m (let z : 8 ≤ m = omega (arith, low) in z),
  );
  not_last = λ p. p.2 7 (omega arith) (omega arith) refl;
  taken_again = (refl, refl);
  passing_is_allowed = allowed passes_by refl;
  passed_by = no_touch 20 passes_by refl 1 1 15 refl;
  one_tick_lost = (0, 2 ∷ [], (9, 5) ∷ [], (refl, refl), apart 1 0 refl);
  commits = refl;
  meeting_is_allowed = allowed meets_twice refl;
  two_attempts = (
    1 ∷ 2 ∷ [],
    refl,
    ((λ i. not_two i), ((λ i. nothing_in 2 i), tt)),
    in_more (MeetsFreshConflict (stripe_of 32) start meets_twice 1 0 11) 1 (2 ∷ []) (
      1,
      5,
      8,
      probe 8,
      held 8,
      omega arith,
      omega arith,
      (refl, refl),
      ((refl, refl), probe_held 8 1 refl refl),
      refl,
      λ j ne h. none_holds (stripe_of 32) meets_twice 1 refl j 8 h,
    ) (in_more (MeetsFreshConflict (stripe_of 32) start meets_twice 1 0 11) 2 [] (
      7,
      11,
      8,
      probe 8,
      held 8,
      omega arith,
      omega arith,
      (refl, refl),
      ((refl, refl), probe_held 8 1 refl refl),
      refl,
      λ j ne h. none_holds (stripe_of 32) meets_twice 7 refl j 8 h,
    ) (λ n i. absurd (nothing_in n i))),
  );
  first_taken = (refl, refl);
  second_taken = (refl, refl);
  spending_is_allowed = (
    core_at (stripe_of 32) brief spends_clock 9,
    leads_by (stripe_of 32) brief spends_clock refl,
  );
  alone_since = record {
    unlocked = λ j l ne h. no_holder (stripe_of 32) brief spends_clock 6 refl j l h;
    alone = λ n e low high at. acts_alone 1 7 spends_clock refl n e (let z : 7 ≤ n = omega arith in z) at;
  };
  is_spent = (let z : 1 ≤ 1 = omega arith in z);
  holds_its_lock = record { holds = λ e. one_held e; unticked = refl; unsettled = refl };
  no_tick = λ u tag writes h. too_late u tag writes h;
  gives_back = refl;
}
