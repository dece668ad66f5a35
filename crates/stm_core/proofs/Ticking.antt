-- A writer ticks the clock, and is not decided yet.
use Rattle.std.proofs.Common.{◌≡◌, ℕ, ◌+◌, ◌≤◌, ◌<◌, inl, inr, ⊎_elim, Bool, true, false, ◌-◌, List, set, sym, ◌∙◌}
use Rattle.std.proofs.Common.{subst, arith, le_refl}
use mathlib.Core.Logic.{dite}
use native.Mathlib.Decide.{ℕ_discrete}
use Rattle.tx_memory.specs.Image.{In}
use Rattle.stm_core.specs.Client.{Client, Step, probed, fetched, decided, version_of, writes_to}
use Rattle.stm_core.specs.Version.{World, At, Claims, runs, passes, noted, gave_up, Saw, IsSound, IsKept, IsBooked}
use Rattle.stm_core.proofs.Lists.{same_at, clash}
use Rattle.stm_core.proofs.Turns.{Heart, turn_keeps}

module _ (lk : ℕ → ℕ) (s : World) (cs : List Client) (id : ℕ) (v w : Client) (val : ℕ → ℕ → ℕ) (wrote : ℕ → ℕ →
    Bool) (h : Heart lk s cs) (at : At cs id v) (none' : v.attempt.wv ≡ 0) (undecided : decided v ≡ false)
    (same_val : (b a : ℕ) → val b a ≡ s.val b a) (same_wrote : (u a : ℕ) → wrote u a ≡ s.wrote u a)
    (locks : (a : ℕ) → writes_to w.attempt.writes a ≡ true →
    (u : ℕ) × In (lk a, u) v.attempt.held) (held : w.attempt.held ≡ v.attempt.held)
    (wv : w.attempt.wv ≡ s.clock + 1) (phase : decided w ≡ false) (rv : w.attempt.rv ≡ v.attempt.rv)
    (floor : w.floor ≤ s.clock + 1) (reads : w.attempt.reads ≡ v.attempt.reads)
    (passed : w.attempt.passed ≡ 0) (records : w.records ≡ v.records)
    (aborted : w.aborted ≡ v.aborted) where
  me : IsSound lk s v
  me = h.version.sound id v at

  abbrev after : World
  after = record s { clock = s.clock + 1; val = val; wrote = wrote }

  -- the newest image is the same
  newest_same : (a : ℕ) → s.val s.clock a ≡ val (s.clock + 1) a
  newest_same a = h.books.steady a s.clock (s.clock + 1) (omega arith) (λ u p q. h.books.story u a p) ∙
      sym (same_val (s.clock + 1) a)

  saw_ticks : (r : ℕ) (l : Step) → Saw lk s r l → Saw lk after r l
  saw_ticks r (probed j m) p = p
  saw_ticks r (fetched a m x) p = (
    p.0,
    p.1,
    p.2,
    ⊎_elim (λ e. inl (e ∙ newest_same a))
        (λ e. inr (e.0, e.1, same_wrote e.0 a ∙ e.2)) p.3,
  )
  saw_ticks r _ p = tt

  other_sound : (i : ℕ) (o : Client) → At cs i o → IsSound lk after o
  other_sound i o e = let it = h.version.sound i o e in record {
    rv = (let p = it.rv in omega arith);
    wv = (let p = it.wv in omega arith);
    floor = (let p = it.floor in omega arith);
    recorded = λ r g. (let p = it.recorded r g in omega arith);
    agrees = λ b a x p. let q = it.agrees b a x p in (same_val b a ∙ q.0, omega (arith, q.1));
    locked = it.locked;
    pending = it.pending;
    above = it.above;
    saw = saw_ticks o.attempt.rv o.attempt.last it.saw;
  }

  other_booked : (i : ℕ) (o : Client) → At cs i o → IsBooked lk after o
  other_booked i o e = let it = h.books.booked i o e in record {
    later = it.later;
    listed = it.listed;
    unwritten = λ op a. same_wrote o.attempt.wv a ∙ it.unwritten op a;
    told = λ d. ((it.told d).0, λ a. same_wrote o.attempt.wv a ∙ (it.told d).1 a);
    values = λ d a x u g m. same_val o.attempt.wv a ∙ it.values d a x u g m;
  }

  claims_same : (b a x : ℕ) → Claims w b a x → Claims v b a x
  claims_same b a x (runs e i) = runs (e ∙ rv) (subst (In (a, x)) reads i)
  claims_same b a x (passes e j l i) = absurd (let l' : j < 0 = subst (λ n. j < n) passed l in omega arith)
  claims_same b a x (noted r i e m) = noted r (subst (In r) records i) e m
  claims_same b a x (gave_up r i e m) = gave_up r (subst (In r) aborted i) e m

  bound : (i : ℕ) (o : Client) (b a x : ℕ) → At cs i o → Claims o b a x → b ≤ s.clock
  bound i o b a x e c = ((h.version.sound i o e).agrees b a x c).1

  old : (i : ℕ) (o : Client) (k u : ℕ) → At cs i o → In (k, u) o.attempt.held → u ≤ s.clock
  old i o k u e g = (let p = (h.books.booked i o e).listed k u g in let q = h.version.versions k in omega arith)

  kept_on : (o : Client) (k u : ℕ) → IsKept lk s o k u → IsKept lk after o k u
  kept_on o k u was = record {
    same = λ a l c. was.same a l c ∙ newest_same a;
    waiting = λ a l d t n. was.waiting a l d t n ∙ sym (same_val (o.attempt.wv - 1) a);
    newest =
        λ a m l b c. same_wrote m a ∙ was.newest a m l b c;
  }

  pub tick_keeps : Saw lk after w.attempt.rv w.attempt.last → Heart lk after (set cs id w)
  tick_keeps saw = turn_keeps lk s after cs id v w h at record {
    sound = record {
      rv = rw rv (let p = me.rv in omega arith);
      wv = rw wv (le_refl _);
      floor = floor;
      recorded = λ r i. (let p = me.recorded r (subst (In r) records i) in omega arith);
      agrees = λ b a x p. let q = me.agrees b a x (claims_same b a x p) in (same_val b a ∙ q.0, omega (arith, q.1));
      locked = λ o a t. rw held (locks a t);
      pending = λ d. clash d phase;
      above = λ k u g z. rw wv (let p = old id v k u at (subst (In (k, u)) held g) in omega arith);
      saw = saw;
    };
    booked = record {
      later = λ z. rw (rv, wv) (let p = me.rv in omega arith);
      listed = λ k u g. (h.books.booked id v at).listed k u (subst (In (k, u)) held g);
      unwritten = λ o a. rw wv (same_wrote (s.clock + 1) a ∙ h.books.story (s.clock + 1) a (omega arith));
      told = λ d. clash d phase;
      values = λ d. clash d phase;
    };
    others = λ i o e n. other_sound i o e;
    others_booked = λ i o e n. other_booked i o e;
    story = λ u a l. same_wrote u a ∙ h.books.story u a (omega arith);
    steady = λ a m n l q. same_val m a ∙ (h.books.steady a m n l (λ u y z. sym (same_wrote u a) ∙ q u y z) ∙
        sym (same_val n a));
    versions = λ k. (let p = h.version.versions k in omega arith);
    own = λ i o e n z same. (let p = (h.version.sound i o e).wv in let q : o.attempt.wv ≡ s.clock + 1 = sym same ∙ wv in
        omega arith);
    free = λ k a m e l. let was = h.version.free k a m e l in (was.0 ∙ newest_same a, λ y. same_wrote m a ∙ was.1 y);
    holder = λ k odd. let q = h.version.holder k odd in
        dite (ℕ_discrete q.0 id) (λ e. inl (rw held (subst (λ (c : Client). In (
          k,
          version_of (s.lock k),
        ) c.attempt.held) (same_at cs id q.1 v (subst (λ n. At cs n q.1) e q.2) at) q.3)))
        (λ n. inr (q.0, q.1, q.2, n, q.3));
    alone = λ i o k m n e ne a b. ne (h.version.alone i id o v k m n e at a (subst (In (k, n)) held b));
    kept = λ k u g. let was = h.version.kept id v k u at (subst (In (k, u)) held g) in record {
      same = λ a l c. was.same a l (inl undecided) ∙ newest_same a;
      waiting = λ a l d. clash d phase;
      newest = λ a m l b c. same_wrote m a ∙ was.newest a m l b (inl undecided);
    };
    kept_else = λ i o k u e n g. kept_on o k u (h.version.kept i o k u e g);
    apart_mine = λ i o b a x e n c op l. h.version.apart id i v o b a x at e (claims_same b a x c) op l;
    apart_else = λ i o b a x e n c op l. absurd (let p = bound i o b a x e c in let q : s.clock + 1 ≤ b =
        subst (λ y. y ≤ b) wv l in omega arith);
    apart_self = λ b a x c op l. absurd (let p = bound id v b a x at (claims_same b a x c) in let q : s.clock + 1 ≤ b =
        subst (λ y. y ≤ b) wv l in omega arith);
  }
