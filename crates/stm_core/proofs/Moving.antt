-- Effects of each event on the lock words, the clock and the held locks.
use Rattle.std.proofs.Common.{◌≡◌, ℕ, suc, ◌+◌, ◌-◌, ◌*◌, ◌<◌, ◌⊎◌, inl, inr, ⊎_elim, Bool, true, false}
use Rattle.std.proofs.Common.{cond, eqb, ◌||◌, List, [], ◌∷◌, ◌++◌, length, set, slice_index, slice_set}
use Rattle.std.proofs.Common.{get_or-set_same}
use Rattle.std.proofs.Common.{get_or-set_other, refl, sym, ap, ◌∙◌, subst, arith}
use Rattle.std.proofs.lemmas.Bool.Decides.{nat_tests}
use mathlib.Core.Option.{some}
use mathlib.Core.Logic.{dite}
use native.Mathlib.Decide.{ℕ_discrete}
use lib.ListN.{get_elem?}
use Rattle.tx_memory.specs.Image.{In}
use Rattle.stm_core.specs.LockWord.{free_word, held_word}
use Rattle.stm_core.specs.Client.{Client, RecordLaw, shed, version_of, IsFree, writes_to, without, old_version}
use Rattle.stm_core.specs.Client.{word_before}
use Rattle.stm_core.specs.Client.{checked, locked, ticked, validated, value_fetched}
use Rattle.stm_core.specs.Event.{Action, begin, probe, fetch, check, lock, tick, validate, put, release, give_back}
use Rattle.stm_core.specs.Event.{finish}
use Rattle.stm_core.specs.Event.{after, stepping, failing, read_too, holding, won, versioned, committed_by}
use Rattle.stm_core.specs.Event.{decides_at_once}
use Rattle.stm_core.specs.Event.{with_ticks, marking, counting, passes, passing, giving, fresh, taking, gone}
use Rattle.stm_core.specs.Core.{Core, Event, acts, splits, gathers, stamp_of, client_of, found, played}
use Rattle.stm_core.specs.Version.{At}
use Rattle.stm_core.specs.Invariant.{Rule}
use Rattle.stm_core.specs.Listed.{core_at}
use Rattle.stm_core.proofs.Lists.{at_set, at_snoc, clash}
use Rattle.stm_core.proofs.Lones.{at_map}
use Rattle.stm_core.proofs.Held.{old_in, held_has, drops}
use Rattle.stm_core.proofs.Steps.{by_case, word_inside}
use Rattle.stm_core.proofs.Conditions.{CanPlay}
use Rattle.stm_core.specs.Causes.{TakesAt, WinsTickAt}
use Rattle.stm_core.proofs.Courses.{Turned, stays, takes, releases, returns, Moves}

-- a pair more
writes_more : (held : List (ℕ × ℕ)) (k u l : ℕ) → writes_to (held ++ (k, u) ∷ []) l ≡ true →
    (writes_to held l ≡ true) ⊎ (k ≡ l)
writes_more [] k u l h = go (eqb k l) refl h
  where
    go : (b : Bool) → eqb k l ≡ b → (b || false) ≡ true → (writes_to [] l ≡ true) ⊎ (k ≡ l)
    go true e f = inr (grind (arith, nat_tests))
    go false e f = clash f refl
writes_more (p ∷ ps) k u l h = go (eqb p.0 l) h (λ f. writes_more ps k u l f)
  where
    go : (b : Bool) → (b || writes_to (ps ++ (k, u) ∷ []) l) ≡ true →
        (writes_to (ps ++ (k, u) ∷ []) l ≡ true → (writes_to ps l ≡ true) ⊎ (k ≡ l)) →
        ((b || writes_to ps l) ≡ true) ⊎ (k ≡ l)
    go true f rest = inl refl
    go false f rest = rest f

-- a pair less
writes_less : (held : List (ℕ × ℕ)) (k l : ℕ) → writes_to (without held k) l ≡ true → writes_to held l ≡ true
writes_less held k l h =
    held_has held l (old_version (without held k) l)
    ((drops held k).fewer l (old_version (without held k) l) (old_in (without held k) l h)).0

-- a word that is set, and the others
pub word_set : (l : List ℕ) (a b x : ℕ) → a < length l →
    ((a ≡ b) × (slice_index (slice_set l a x) b ≡ x)) ⊎ (slice_index (slice_set l a x) b ≡ slice_index l b)
word_set l a b x h = dite (ℕ_discrete b a)
    (λ e. inl (sym e, subst (λ m. slice_index (slice_set l a x) m ≡ x) (sym e) (get_or-set_same l a x 0 h)))
    (λ n. inr (get_or-set_other l a b x 0 n))

module _ (lawful : RecordLaw) (lk : ℕ → ℕ) (start : Core) (es : List Event) (n : ℕ) where
  abbrev c : Core
  c = core_at lk start es n

  module _ (rule : Rule lawful lk (core_at lk start es n)) where
    -- the word of a lock that a client holds
    listed : (i : ℕ) (v : Client) (k u : ℕ) → At c.clients i v → In (k, u) v.attempt.held →
        slice_index c.locks k ≡ held_word u
    listed i v k u at m =
        (rule.inv.books.booked i (shed c.renewal v) (at_map (shed c.renewal) c.clients i v at)).listed k u m

  -- a step
  module _ (rule : Rule lawful lk (core_at lk start es n)) (k : ℕ) where
    abbrev it : Client
    it = client_of (core_at lk start es n) k

    abbrev then : Action → Client
    then e = after (stamp_of (core_at lk start es n) k) lk e (found lk (core_at lk start es n) e)
        (client_of (core_at lk start es n) k)

    abbrev Locks : Action → Type 0
    Locks e = (l : ℕ) → Turned lk start es n k l (slice_index (core_at lk start es n).locks l)
        (slice_index (played lk (acts k e) (core_at lk start es n)).locks l)

    locks_of : (e : Action) → get_elem? es n ≡ some (acts k e) → CanPlay lawful lk (acts k e) (core_at lk start es n) →
        Locks e
    locks_of (lock a) here may l =
        let w = slice_index (core_at lk start es n).locks a in
        by_case (λ b. Turned lk start es n k l (slice_index (core_at lk start es n).locks l)
        (slice_index (slice_set (core_at lk start es n).locks a (cond b (w + 1) w)) l))
        (eqb w (word_before it.attempt.last))
        (λ e. ⊎_elim
        (λ p. takes
        (p.1 ∙ ap (λ m. slice_index (core_at lk start es n).locks m + 1) p.0)
        (let f = may.1.2 in
        let same : w ≡ f.0 = (let z : w ≡ word_before it.attempt.last = grind (arith, nat_tests) in
        z ∙ ap word_before f.1) in
        subst (λ m. IsFree (slice_index (core_at lk start es n).locks m)) p.0 (subst IsFree (sym same) f.2))
        (subst (λ m. TakesAt lk start es m k n) p.0 (
          here,
          (let z : w ≡ word_before it.attempt.last =
              grind (arith, nat_tests) in z),
        )))
        (λ p. stays p) (word_set (core_at lk start es n).locks a l (w + 1) may.1.1))
        (λ e. ⊎_elim (λ p. stays (p.1 ∙ ap (λ m. slice_index (core_at lk start es n).locks m) p.0)) (λ p. stays p)
        (word_set (core_at lk start es n).locks a l w may.1.1))
    locks_of (release a) here may l =
        let h = may.1.1 in
        let odd = listed rule (k - 1) it a h.0 may.0.1 h.1 in
        ⊎_elim
        (λ p. releases it.attempt.wv
        (λ free. let z : slice_index (core_at lk start es n).locks a ≡ held_word h.0 = odd in
        let f : IsFree (slice_index (core_at lk start es n).locks a) =
        subst (λ m. IsFree (slice_index (core_at lk start es n).locks m)) (sym p.0) free in omega (arith, z, f))
        p.1 (λ b less. (subst (λ m. get_elem? es n ≡ some (acts k (release m))) p.0 here, less)))
        (λ p. stays p)
        (word_set (core_at lk start es n).locks a l (free_word it.attempt.wv)
        (word_inside (core_at lk start es n).locks a (2 * h.0) (let z : slice_index (core_at lk start es n).locks a ≡
        suc (2 * h.0) = omega (arith, odd) in z)))
    locks_of (give_back a) here may l =
        let h = may.1.1 in
        let u = old_version it.attempt.held a in
        let odd = listed rule (k - 1) it a u may.0.1 (old_in it.attempt.held a (held_has it.attempt.held a h.0 h.1)) in
        ⊎_elim
        (λ p. returns
        (λ free. let z : slice_index (core_at lk start es n).locks a ≡ held_word u = odd in
        let f : IsFree (slice_index (core_at lk start es n).locks a) =
        subst (λ m. IsFree (slice_index (core_at lk start es n).locks m)) (sym p.0) free in omega (arith, z, f))
        (ap version_of p.1 ∙ (let q : version_of (free_word u) ≡ version_of
        (slice_index (core_at lk start es n).locks a)
        = omega (arith, odd) in q ∙ ap (λ m. version_of (slice_index (core_at lk start es n).locks m)) p.0)))
        (λ p. stays p)
        (word_set (core_at lk start es n).locks a l (free_word u)
        (word_inside (core_at lk start es n).locks a (2 * u) (let z : slice_index (core_at lk start es n).locks a ≡
        suc (2 * u) = omega (arith, odd) in z)))
    locks_of begin here may l = stays refl
    locks_of (probe a) here may l = stays refl
    locks_of (fetch a) here may l = stays refl
    locks_of (check a) here may l = stays refl
    locks_of (tick from tag writes) here may l = stays refl
    locks_of (validate a) here may l = stays refl
    locks_of (put a x) here may l = stays refl
    locks_of (finish tag) here may l = stays refl

    abbrev Clock : Action → Type 0
    Clock e = ((played lk (acts k e) (core_at lk start es n)).clock ≡ (core_at lk start es n).clock) ⊎
        (((played lk (acts k e) (core_at lk start es n)).clock ≡ suc (core_at lk start es n).clock) ×
        WinsTickAt lk start es (core_at lk start es n).clock k n)

    clock_of : (e : Action) → get_elem? es n ≡ some (acts k e) → Clock e
    clock_of (tick from tag writes) here =
        let clock = (core_at lk start es n).clock in
        by_case (λ b. (cond b (from + 1) clock ≡ clock) ⊎ ((cond b (from + 1) clock ≡ suc clock) ×
        WinsTickAt lk start es clock k n)) (eqb clock from)
        (λ e. let is : clock ≡ from = grind (arith, nat_tests) in
        inr (
          (let z : from + 1 ≡ suc clock = omega (arith, is) in z),
          (tag, writes, subst (λ f. get_elem? es n ≡ some (acts k (tick f tag writes))) (sym is) here, refl),
        ))
        (λ e. inl refl)
    clock_of begin here = inl refl
    clock_of (probe a) here = inl refl
    clock_of (fetch a) here = inl refl
    clock_of (check a) here = inl refl
    clock_of (lock a) here = inl refl
    clock_of (validate a) here = inl refl
    clock_of (put a x) here = inl refl
    clock_of (release a) here = inl refl
    clock_of (give_back a) here = inl refl
    clock_of (finish tag) here = inl refl

    abbrev Has : Action → ℕ → Type 0
    Has e l = writes_to (then e).attempt.held l ≡ true → (writes_to it.attempt.held l ≡ true) ⊎
        TakesAt lk start es l k n

    held_of : (e : Action) → get_elem? es n ≡ some (acts k e) → (l : ℕ) → Has e l
    held_of (check a) here l =
        let m = word_before it.attempt.last in
        let w = slice_index (core_at lk start es n).locks (lk a) in
        by_case (λ b. writes_to (stepping (checked a m w)
        (cond b (read_too a (value_fetched it.attempt.last) it) (failing it))).attempt.held l ≡ true →
        (writes_to it.attempt.held l ≡ true) ⊎ TakesAt lk start es l k n) (eqb w m) (λ e h. inl h) (λ e h. inl h)
    held_of (lock a) here l =
        let m = word_before it.attempt.last in
        let w = slice_index (core_at lk start es n).locks a in
        by_case (λ b. writes_to (stepping (locked a m w) (cond b (holding a (version_of w) it)
        (failing it))).attempt.held
        l ≡ true → (writes_to it.attempt.held l ≡ true) ⊎ TakesAt lk start es l k n) (eqb w m)
        (λ e h. ⊎_elim (λ p. inl p)
        (λ p. inr (subst (λ y. TakesAt lk start es y k n) p (here, (let z : w ≡ m = grind (arith, nat_tests) in z))))
        (writes_more it.attempt.held a (version_of w) l h))
        (λ e h. inl h)
    held_of (tick from tag writes) here l =
        let t = stamp_of (core_at lk start es n) k in
        let clock = (core_at lk start es n).clock in
        let w0 : Client = versioned t (from + 1) tag writes it in
        by_case (λ b. writes_to (with_ticks (it.attempt.ticks + 1) clock
        (stepping (ticked from clock) (cond b (won t (from + 1) tag writes it) it))).attempt.held l ≡ true →
        (writes_to it.attempt.held l ≡ true) ⊎ TakesAt lk start es l k n) (eqb clock from)
        (λ e. by_case (λ b. writes_to (with_ticks (it.attempt.ticks + 1) clock
        (stepping (ticked from clock) (cond b (committed_by t w0) w0))).attempt.held l ≡ true →
        (writes_to it.attempt.held l ≡ true) ⊎ TakesAt lk start es l k n) (decides_at_once w0) (λ z h. inl h)
        (λ z h. inl h))
        (λ e h. inl h)
    held_of (validate a) here l =
        let t = stamp_of (core_at lk start es n) k in
        let w = slice_index (core_at lk start es n).locks a in
        let w0 : Client = counting it in
        by_case (λ b. writes_to (marking (writes_to it.attempt.held a)
        (stepping (validated a w) (cond b (passing t it) (failing it)))).attempt.held l ≡ true →
        (writes_to it.attempt.held l ≡ true) ⊎ TakesAt lk start es l k n) (passes a w it)
        (λ e. by_case (λ b. writes_to (marking (writes_to it.attempt.held a)
        (stepping (validated a w) (cond b (committed_by t w0) w0))).attempt.held l ≡ true →
        (writes_to it.attempt.held l ≡ true) ⊎ TakesAt lk start es l k n)
        (eqb w0.attempt.passed (length it.attempt.reads)) (λ z h. inl h) (λ z h. inl h))
        (λ e h. inl h)
    held_of (release a) here l = λ h. inl (writes_less it.attempt.held a l h)
    held_of (give_back a) here l = λ h. inl (writes_less it.attempt.held a l h)
    held_of begin here l = λ h. inl h
    held_of (probe a) here l = λ h. inl h
    held_of (fetch a) here l = λ h. inl h
    held_of (put a x) here l = λ h. inl h
    held_of (finish tag) here l = λ h. inl h

    pub act_moves : (e : Action) → get_elem? es n ≡ some (acts k e) →
        CanPlay lawful lk (acts k e) (core_at lk start es n) →
        Moves lk start es n k (core_at lk start es n) (played lk (acts k e) (core_at lk start es n))
    act_moves e here may = record {
      locks = locks_of e here may;
      clock = clock_of e here;
      held = λ j l w at h. ⊎_elim
          (λ p. ⊎_elim
          (λ q. inl (it, subst (λ i. At (core_at lk start es n).clients i it) (sym p.0) may.0.1, q))
          (λ q. inr ((let a = p.0 in let b = may.0.0 in let z : suc j ≡ k = omega (arith, a, b) in z), q))
          (held_of e here l (subst (λ (z : Client). writes_to z.attempt.held l ≡ true) (sym p.1) h)))
          (λ p. inl (w, p.1, h)) (at_set (core_at lk start es n).clients (k - 1) j (then e) w at);
    }

    pub split_moves : CanPlay lawful lk (splits k) (core_at lk start es n) →
        Moves lk start es n k (core_at lk start es n) (played lk (splits k) (core_at lk start es n))
    split_moves may = record {
      locks = λ l. stays refl;
      clock = inl refl;
      held = λ j l w at h. ⊎_elim
          (λ a. ⊎_elim
          (λ p. inl (
            it,
            subst (λ i. At (core_at lk start es n).clients i it) (sym p.0) may.0.1,
            subst (λ (z : Client). writes_to z.attempt.held l ≡ true) (sym p.1) h,
          ))
          (λ p. inl (w, p.1, h)) (at_set (core_at lk start es n).clients (k - 1) j (giving it) w a))
          (λ e. clash h (ap (λ (z : Client). writes_to z.attempt.held l) (sym e)))
          (at_snoc (set (core_at lk start es n).clients (k - 1) (giving it)) (fresh it) w j at);
    }

    pub gather_moves : (o : ℕ) → CanPlay lawful lk (gathers k o) (core_at lk start es n) →
        Moves lk start es n k (core_at lk start es n) (played lk (gathers k o) (core_at lk start es n))
    gather_moves o may = record {
      locks = λ l. stays refl;
      clock = inl refl;
      held = λ j l w at h. ⊎_elim
          (λ e. clash h (ap (λ (z : Client). writes_to z.attempt.held l) (sym e.1)))
          (λ q. ⊎_elim
          (λ p. inl (
            it,
            subst (λ i. At (core_at lk start es n).clients i it) (sym p.0) may.0.1,
            subst (λ (z : Client). writes_to z.attempt.held l ≡ true) (sym p.1) h,
          ))
          (λ p. inl (w, p.1, h)) (at_set (core_at lk start es n).clients (k - 1) j
          (taking it (client_of (core_at lk start es n) o)) w q.1))
          (at_set (set (core_at lk start es n).clients (k - 1) (taking it (client_of (core_at lk start es n) o)))
          (o - 1)
          j gone w at);
    }
