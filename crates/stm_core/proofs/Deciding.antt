-- A writer is decided: its writes enter the story at its version, among the others.
use Rattle.std.proofs.Common.{◌≡◌, ◌≢◌, ℕ, ◌+◌, ◌-◌, ◌*◌, ◌/◌, ◌≤◌, ◌<◌, inl, inr, ⊎_elim, Bool, true, false, List, []}
use Rattle.std.proofs.Common.{set, sym, ap, ◌∙◌, subst, arith, lt_of_not-le}
use mathlib.Core.Option.{some}
use mathlib.Core.Logic.{dite}
use native.Mathlib.Decide.{ℕ_discrete, dec_le}
use lib.ListN.{get_elem?}
use Rattle.tx_memory.specs.Image.{In}
use Rattle.stm_core.specs.Client.{Client, Record, Step, probed, fetched, decided, version_of, IsFree, writes_to, base}
use Rattle.stm_core.specs.Client.{inserted}
use Rattle.stm_core.specs.Version.{World, At, IsOpen, Claims, runs, passes, noted, gave_up, Saw, IsSound, IsKept}
use Rattle.stm_core.specs.Version.{IsBooked}
use Rattle.stm_core.proofs.Lists.{same_at, clash, by_bool, nothing_in}
use Rattle.stm_core.proofs.Turns.{Heart, turn_keeps}
use Rattle.stm_core.proofs.Orders.{in_inserted}

-- the story after the writer of version n is decided with these writes
pub record Decides (s : World) (val : ℕ → ℕ → ℕ) (wrote : ℕ → ℕ → Bool) (n : ℕ) (writes : List (ℕ × ℕ)) : Type 0 where
  pub others : (u a : ℕ) → u ≢ n → wrote u a ≡ s.wrote u a
  pub own : (a : ℕ) → wrote n a ≡ writes_to writes a
  pub value : (a x : ℕ) → In (a, x) writes → val n a ≡ x
  pub before : (b a : ℕ) → b < n → val b a ≡ s.val b a
  pub beside : (b a : ℕ) → writes_to writes a ≡ false → val b a ≡ s.val b a
  pub steady : (a v w : ℕ) → v ≤ w → ((u : ℕ) → v < u → u ≤ w → wrote u a ≡ false) → val v a ≡ val w a

module _ (lk : ℕ → ℕ) (s : World) (cs : List Client) (id : ℕ) (v w : Client) (r : Record) (val : ℕ → ℕ → ℕ) (wrote : ℕ →
    ℕ → Bool) (h : Heart lk s cs) (at : At cs id v) (open' : IsOpen v)
    (d : Decides s val wrote v.attempt.wv v.attempt.writes)
    (all : (a x : ℕ) → In (a, x) v.attempt.reads → Claims v (v.attempt.wv - 1) a x)
    (held : w.attempt.held ≡ v.attempt.held) (wv : w.attempt.wv ≡ v.attempt.wv)
    (writes : w.attempt.writes ≡ v.attempt.writes) (stored : w.attempt.stored ≡ []) (phase : decided w ≡ true)
    (rv : w.attempt.rv ≡ v.attempt.rv) (floor : w.floor ≡ v.floor) (reads : w.attempt.reads ≡ v.attempt.reads)
    (passed : w.attempt.passed ≡ v.attempt.passed) (records : w.records ≡ inserted r v.records)
    (same : r.reads ≡ v.attempt.reads) (there : base r ≡ v.attempt.wv - 1)
    (version : r.version ≡ v.attempt.wv) (aborted : w.aborted ≡ v.aborted) where
  me : IsSound lk s v
  me = h.version.sound id v at

  mine : IsBooked lk s v
  mine = h.books.booked id v at

  abbrev told' : World
  told' = record s { val = val; wrote = wrote }

  -- a claim that held before still holds
  claim_stays : (i : ℕ) (o : Client) (b a x : ℕ) → At cs i o → Claims o b a x → val b a ≡ x
  claim_stays i o b a x e p =
      let was = ((h.version.sound i o e).agrees b a x p).0 in
      by_bool (writes_to v.attempt.writes a) (λ t. dite (dec_le v.attempt.wv b)
      (λ l. clash t (h.version.apart i id o v b a x e at p open' l)) (λ l. d.before b a (lt_of_not-le l) ∙ was))
      (λ f. d.beside b a f ∙ was)

  number_else : (i : ℕ) (o : Client) → At cs i o → i ≢ id → 0 < o.attempt.wv → o.attempt.wv ≢ v.attempt.wv
  number_else i o e n z eq = n (h.version.own i id o v e at z eq)

  -- the client holds the lock of every written word
  its_lock : (a : ℕ) → writes_to v.attempt.writes a ≡ true →
      (u : ℕ) × In (lk a, u) v.attempt.held × (s.lock (lk a) ≡ 2 * u + 1) × (u < v.attempt.wv)
  its_lock a t = let g = me.locked open' a t in (g.0, g.1, mine.listed (lk a) g.0 g.1, me.above (lk a) g.0 g.1 open'.0)

  -- a word under a lock that v does not hold is not written
  not_mine : (a : ℕ) → ((u : ℕ) → In (lk a, u) v.attempt.held → ⊥) → writes_to v.attempt.writes a ≡ false
  not_mine a f = by_bool (writes_to v.attempt.writes a) (λ t. let g = its_lock a t in absurd (f g.0 g.1)) (λ e. e)

  saw_stays : (y : ℕ) (l : Step) → Saw lk s y l → Saw lk told' y l
  saw_stays y (probed k n) p = p
  saw_stays y (fetched a n x) p = (
    p.0,
    p.1,
    p.2,
    ⊎_elim (λ eq. by_bool (writes_to v.attempt.writes a) (λ t. let g = its_lock a t in
        inr (v.attempt.wv, omega (arith, g.2, g.3, p.2), d.own a ∙ t)) (λ f. inl (eq ∙ sym (d.beside s.clock a f))))
        (λ over. inr (
          over.0,
          over.1,
          d.others over.0 a (λ e. clash over.2
              (subst (λ n. s.wrote n a ≡ false) (sym e) (mine.unwritten open' a))) ∙ over.2,
        )) p.3,
  )
  saw_stays y _ p = tt

  other_sound : (i : ℕ) (o : Client) → At cs i o → IsSound lk told' o
  other_sound i o e = let it = h.version.sound i o e in record {
    rv = it.rv;
    wv = it.wv;
    floor = it.floor;
    recorded = it.recorded;
    locked = it.locked;
    pending = it.pending;
    above = it.above;
    agrees = λ b a x p. (claim_stays i o b a x e p, (it.agrees b a x p).1);
    saw = saw_stays o.attempt.rv o.attempt.last it.saw;
  }

  other_booked : (i : ℕ) (o : Client) → At cs i o → i ≢ id → IsBooked lk told' o
  other_booked i o e n = let it = h.books.booked i o e in record {
    later = it.later;
    listed = it.listed;
    unwritten = λ op a. d.others o.attempt.wv a (number_else i o e n op.0) ∙ it.unwritten op a;
    told = λ t. ((it.told t).0, λ a. d.others o.attempt.wv a (number_else i o e n (it.told t).0) ∙ (it.told t).1 a);
    values = λ t a x u g m. d.beside o.attempt.wv a (not_mine a
        (λ y z. n (h.version.alone i id o v (lk a) u y e at m z))) ∙ it.values t a x u g m;
  }

  my_claims : (b a x : ℕ) → Claims w b a x → Claims v b a x
  my_claims b a x (runs e i) = runs (e ∙ rv) (subst (In (a, x)) reads i)
  my_claims b a x (passes e j l i) = passes (e ∙ wv) j (subst (λ n. j < n) passed l)
      (subst (λ y. get_elem? y j ≡ some (a, x)) reads i)
  my_claims b a x (noted y i e m) = ⊎_elim (λ new. subst (λ n. Claims v n a x) (sym (e ∙ (ap base (sym new) ∙ there)))
      (all a x (subst (In (a, x)) same (subst (λ (z : Record). In (a, x) z.reads) (sym new) m))))
      (λ old. noted y old e m)
      (in_inserted r v.records y (subst (In y) records i))
  my_claims b a x (gave_up y i e m) = gave_up y (subst (In y) aborted i) e m

  wrote_still : (m a : ℕ) → writes_to v.attempt.writes a ≡ false → s.wrote m a ≡ false → wrote m a ≡ false
  wrote_still m a f g = dite (ℕ_discrete m v.attempt.wv) (λ e. rw e (d.own a ∙ f)) (λ n. d.others m a n ∙ g)

  free_stays : (k a m : ℕ) → IsFree (s.lock k) → lk a ≡ k → (s.cell a ≡ val s.clock a) × (version_of (s.lock k) < m →
      wrote m a ≡ false)
  free_stays k a m e l =
      let was = h.version.free k a m e l in
      let f : writes_to v.attempt.writes a ≡ false = not_mine a (λ u g. let p = mine.listed (lk a) u g in
      let q : s.lock (lk a) ≡ 2 * (s.lock (lk a) / 2) = rw l e in omega (arith, p, q)) in
      (was.0 ∙ sym (d.beside s.clock a f), λ y. wrote_still m a f (was.1 y))

  other_kept : (i : ℕ) (o : Client) (k u : ℕ) → At cs i o → i ≢ id → In (k, u) o.attempt.held → IsKept lk told' o k u
  other_kept i o k u e n g =
      let was = h.version.kept i o k u e g in
      let f : (a : ℕ) → lk a ≡ k → writes_to v.attempt.writes a ≡ false =
      λ a l. not_mine a (λ t m. n (h.version.alone i id o v k u t e at g
      (subst (λ z. In (z, t) v.attempt.held) l m))) in record {
        same = λ a l c. was.same a l c ∙ sym (d.beside s.clock a (f a l));
        waiting = λ a l t y z. was.waiting a l t y z ∙ sym (d.beside (o.attempt.wv - 1) a (f a l));
        newest = λ a m l b c. wrote_still m a (f a l) (was.newest a m l b c);
      }

  -- no writer above the old version wrote the word, so just before the new version the word is as
  -- it was
  just_before : (k u a : ℕ) → In (k, u) v.attempt.held → lk a ≡ k → s.cell a ≡ val (v.attempt.wv - 1) a
  just_before k u a g l =
      let was = h.version.kept id v k u at g in
      let low = me.above k u g open'.0 in
      let old : s.val (v.attempt.wv - 1) a ≡ s.val s.clock a =
      h.books.steady a (v.attempt.wv - 1) s.clock (let p = me.wv in
      omega arith) (λ y p q. was.newest a y l (omega arith) (inl open'.1)) in
      was.same a l (inl open'.1) ∙ (sym old ∙ sym (d.before (v.attempt.wv - 1) a (let p = open'.0 in omega arith)))

  pub decide_keeps : Saw lk s w.attempt.rv w.attempt.last → Heart lk told' (set cs id w)
  decide_keeps saw = turn_keeps lk s told' cs id v w h at record {
    sound = record {
      rv = rw rv me.rv;
      wv = rw wv me.wv;
      floor = rw floor me.floor;
      recorded = λ y i. ⊎_elim (λ new. subst (λ (z : Record). z.version ≤ s.clock) new (rw version me.wv))
          (λ old. me.recorded y old) (in_inserted r v.records y (subst (In y) records i));
      agrees = λ b a x p. (claim_stays id v b a x at (my_claims b a x p), (me.agrees b a x (my_claims b a x p)).1);
      locked = λ o. clash phase o.1;
      pending = λ t a y. rw held (inr (me.locked open' a (subst (λ l. writes_to l a ≡ true) writes y)));
      above = λ k u g z. rw wv (me.above k u (subst (In (k, u)) held g) open'.0);
      saw = saw_stays w.attempt.rv w.attempt.last saw;
    };
    booked = record {
      later = λ z. rw (rv, wv) (mine.later open'.0);
      listed = λ k u g. mine.listed k u (subst (In (k, u)) held g);
      unwritten = λ o. clash phase o.1;
      told = λ t. (rw wv open'.0, λ a. rw (wv, writes) (d.own a));
      values = λ t a x u g m. rw wv (d.value a x (subst (In (a, x)) writes g));
    };
    others = λ i o e n. other_sound i o e;
    others_booked = λ i o e n. other_booked i o e n;
    story = λ u a l. d.others u a (λ e. (let q = me.wv in omega arith)) ∙ h.books.story u a l;
    steady = d.steady;
    versions = h.version.versions;
    own = λ i o e n z eq. number_else i o e n (let q : 0 < v.attempt.wv = open'.0 in
        let p : v.attempt.wv ≡ o.attempt.wv = sym wv ∙ eq in omega arith) (sym eq ∙ wv);
    free = free_stays;
    holder = λ k odd. let q = h.version.holder k odd in
        dite (ℕ_discrete q.0 id) (λ e. inl (rw held (subst (λ (c : Client). In (
          k,
          version_of (s.lock k),
        ) c.attempt.held) (same_at cs id q.1 v (subst (λ n. At cs n q.1) e q.2) at) q.3)))
        (λ n. inr (q.0, q.1, q.2, n, q.3));
    alone = λ i o k m n e ne a b. ne (h.version.alone i id o v k m n e at a (subst (In (k, n)) held b));
    kept = λ k u g. let g' = subst (In (k, u)) held g in let was = h.version.kept id v k u at g' in record {
      same = λ a l c. ⊎_elim (λ x. clash phase x) (λ y. ⊎_elim
          (λ f. was.same a l (inl open'.1) ∙ sym (d.beside s.clock a (subst (λ z. writes_to z a ≡ false) writes f)))
          (λ i. absurd (nothing_in a (subst (In a) stored i))) y) c;
      waiting = λ a l t y n. rw wv (just_before k u a g' l);
      newest = λ a m l b c. ⊎_elim (λ x. clash phase x) (λ n. d.others m a (λ e. n (e ∙ sym wv)) ∙
          was.newest a m l b (inl open'.1)) c;
    };
    kept_else = other_kept;
    apart_mine = λ i o b a x e n c op l. h.version.apart id i v o b a x at e (my_claims b a x c) op l;
    apart_else = λ i o b a x e n c op. clash phase op.1;
    apart_self = λ b a x c op. clash phase op.1;
  }
