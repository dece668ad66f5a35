-- The steps that change no word and leave locks, versions and writes as they are: they load a
-- word, or fail.
use Rattle.std.proofs.Common.{◌≡◌, ℕ, suc, ◌+◌, ◌*◌, ◌-◌, ◌≤◌, ◌<◌, ◌⊎◌, inl, inr, ⊎_elim, Bool, true, false, List, []}
use Rattle.std.proofs.Common.{◌∷◌}
use Rattle.std.proofs.Common.{◌++◌, cond, set, refl, sym, ap, ◌∙◌, subst, arith}
use mathlib.Core.Option.{some, some-injective}
use mathlib.Core.Logic.{dite}
use native.Mathlib.Decide.{ℕ_discrete}
use lib.ListN.{get_elem?}
use Rattle.tx_memory.specs.Image.{In}
use Rattle.stm_core.specs.Client.{Client, Record, Aborted, is_settled, aborted_of, given_up, fetched, decided}
use Rattle.stm_core.specs.Client.{version_of, IsFree, writes_to, base, inserted}
use Rattle.stm_core.specs.Version.{World, At, IsOpen, Claims, runs, passes, noted, gave_up, Saw, IsSound, IsBooked}
use Rattle.stm_core.proofs.Lists.{in_snoc, same_at, by_bool, not_true}
use Rattle.stm_core.proofs.Turns.{Heart, look_keeps}
use Rattle.stm_core.proofs.Orders.{in_inserted}

-- an aborted attempt of the present renewal is an earlier one, or the last one
pub given_cases : (v : Client) (r : Aborted) → In r (given_up v) →
    In r v.aborted ⊎ ((is_settled v.attempt.phase ≡ false) × (aborted_of v.attempt ≡ r))
given_cases v r m = go (is_settled v.attempt.phase) refl m
  where
    go : (b : Bool) → is_settled v.attempt.phase ≡ b →
        In r (cond b v.aborted (v.aborted ++ aborted_of v.attempt ∷ [])) →
        In r v.aborted ⊎ ((is_settled v.attempt.phase ≡ false) × (aborted_of v.attempt ≡ r))
    go true e i = inl i
    go false e i = ⊎_elim (λ p. inl p) (λ p. inr (e, p)) (in_snoc v.aborted (aborted_of v.attempt) r i)

-- so the client has read what the aborted attempt has read
pub given_claims : (v : Client) (r : Aborted) (b a x : ℕ) → In r (given_up v) → b ≡ r.version →
    In (a, x) r.reads → Claims v b a x
given_claims v r b a x m e n = ⊎_elim (λ p. gave_up r p e n)
    (λ p. runs (e ∙ ap (λ (z : Aborted). z.version) (sym p.1))
    (subst (λ (z : Aborted). In (a, x) z.reads) (sym p.1) n)) (given_cases v r m)

pub claims_as : (v w : Client) → w.attempt.rv ≡ v.attempt.rv → w.attempt.reads ≡ v.attempt.reads →
    w.attempt.wv ≡ v.attempt.wv → w.attempt.passed ≡ v.attempt.passed → w.records ≡ v.records →
    w.aborted ≡ v.aborted → (b a x : ℕ) → Claims w b a x → Claims v b a x
claims_as v w e f g p q z b a x (runs k i) = runs (k ∙ e) (subst (In (a, x)) f i)
claims_as v w e f g p q z b a x (passes k j l i) = passes (k ∙ g) j (subst (λ n. j < n) p l)
    (subst (λ y. get_elem? y j ≡ some (a, x)) f i)
claims_as v w e f g p q z b a x (noted r i k m) = noted r (subst (In r) q i) k m
claims_as v w e f g p q z b a x (gave_up r i k m) = gave_up r (subst (In r) z i) k m

module _ (lk : ℕ → ℕ) (s : World) (cs : List Client) (id : ℕ) (v : Client) (h : Heart lk s cs) (at : At cs id v) where
  me : IsSound lk s v
  me = h.version.sound id v at

  mine : IsBooked lk s v
  mine = h.books.booked id v at

  -- locks, versions and writes stay, and the claims of the client are given
  told_keeps : (w : Client) → w.attempt.held ≡ v.attempt.held → w.attempt.wv ≡ v.attempt.wv →
      w.attempt.writes ≡ v.attempt.writes → w.attempt.stored ≡ v.attempt.stored → decided w ≡ decided v →
      w.attempt.rv ≡ v.attempt.rv → w.floor ≤ s.clock → Saw lk s w.attempt.rv w.attempt.last
      → ((r : Record) → In r w.records → r.version ≤ s.clock) →
      ((b a x : ℕ) → Claims w b a x → (s.val b a ≡ x) × (b ≤ s.clock))
      → ((i : ℕ) (o : Client) (b a x : ℕ) → At cs i o → Claims w b a x → IsOpen o → o.attempt.wv ≤ b →
      writes_to o.attempt.writes a ≡ false) → Heart lk s (set cs id w)
  told_keeps w held wv writes stored phase rv floor saw recorded agrees apart =
      let later : 0 < w.attempt.wv → w.attempt.rv < w.attempt.wv =
      λ z. rw (rv, wv) (mine.later (subst (λ n. 0 < n) wv z)) in
      look_keeps lk s cs id v w h at (record {
        held = held;
        wv = wv;
        writes = writes;
        stored = stored;
        phase = phase;
        rv = rw rv me.rv;
        floor = floor;
        recorded = recorded;
        later =
            later;
        agrees = agrees;
        saw = saw;
        apart = apart;
      })

  -- nothing changes but bookkeeping and the last step
  pub same_keeps : (w : Client) → w.attempt.held ≡ v.attempt.held → w.attempt.wv ≡ v.attempt.wv →
      w.attempt.writes ≡ v.attempt.writes → w.attempt.stored ≡ v.attempt.stored → decided w ≡ decided v →
      w.attempt.rv ≡ v.attempt.rv → w.floor ≤ s.clock → w.attempt.reads ≡ v.attempt.reads →
      w.attempt.passed ≡ v.attempt.passed → w.records ≡ v.records → w.aborted ≡ v.aborted
      → Saw lk s w.attempt.rv w.attempt.last → Heart lk s (set cs id w)
  same_keeps w held wv writes stored phase rv floor reads passed records aborted saw =
      let c : (b a x : ℕ) → Claims w b a x → Claims v b a x = claims_as v w rv reads wv passed records aborted in
      told_keeps w held wv writes stored phase rv floor saw (λ r i. me.recorded r (subst (In r) records i))
      (λ b a x p. me.agrees b a x (c b a x p)) (λ i o b a x e p q l. h.version.apart id i v o b a x at e
      (c b a x p) q l)

  -- the finding of a fetch: the value of the newest image, unless a writer above the probe's
  -- version wrote the word
  pub shown : (a n : ℕ) → version_of n ≤ version_of (s.lock (lk a)) →
      (s.cell a ≡ s.val s.clock a) ⊎ ((u : ℕ) × (version_of n < u) × (s.wrote u a ≡ true))
  shown a n l =
      dite (ℕ_discrete (s.lock (lk a)) (2 * version_of (s.lock (lk a))))
      (λ e. inl (h.version.free (lk a) a 0 e refl).0)
      (λ ne. let q = h.version.holder (lk a) (omega arith) in
      let it = h.version.kept q.0 q.1 (lk a) (version_of (s.lock (lk a))) q.2 q.3 in
      let so = h.version.sound q.0 q.1 q.2 in
      let bo = h.books.booked q.0 q.1 q.2 in
      by_bool (decided q.1) (λ d. by_bool (writes_to q.1.attempt.writes a) (λ t. let z = bo.told d in
      inr (
        q.1.attempt.wv,
        (let p = so.above (lk a) (version_of (s.lock (lk a))) q.3 z.0 in omega arith),
        z.1 a ∙ t,
      )) (λ f. inl (it.same a refl (inr (inl f)))))
      (λ d. inl (it.same a refl (inl d))))

  -- the finding of a check if the word is still the probe's
  unchanged : (a n x : ℕ) → Saw lk s v.attempt.rv (fetched a n x) → s.lock (lk a) ≡ n → s.val v.attempt.rv a ≡ x
  unchanged a n x saw e =
      let even : IsFree (s.lock (lk a)) = rw e saw.1 in
      let quiet : (w : ℕ) → version_of n < w → s.wrote w a ≡ false =
      λ w p. (h.version.free (lk a) a w even refl).1 (rw e p) in
      let now : s.val v.attempt.rv a ≡ s.val s.clock a = h.books.steady a v.attempt.rv s.clock me.rv
      (λ u p q. quiet u (omega (arith, saw.0))) in
      now ∙ ⊎_elim (λ same. sym same) (λ over. absurd (let k : true ≡ false = sym over.2 ∙ quiet over.0 over.1 in
      cc)) saw.3

  -- a read that was checked
  module _ (w : Client) (a n x : ℕ) (last : v.attempt.last ≡ fetched a n x) (still : s.lock (lk a) ≡ n)
      (fresh : v.attempt.wv ≡ 0) (more : w.attempt.reads ≡ v.attempt.reads ++ (a, x) ∷ [])
      (rv : w.attempt.rv ≡ v.attempt.rv) (wv : w.attempt.wv ≡ v.attempt.wv) (records : w.records ≡ v.records)
      (aborted : w.aborted ≡ v.aborted) where
    claims_more : (b c y : ℕ) → Claims w b c y → Claims v b c y ⊎ ((b ≡ v.attempt.rv) × (c ≡ a) × (y ≡ x))
    claims_more b c y (runs e i) =
        ⊎_elim (λ p. inl (runs (e ∙ rv) p)) (λ (p : (a, x) ≡ (c, y)). inr (
          e ∙ rv,
          sym (ap (λ (q : ℕ × ℕ). q.0) p),
          sym (ap (λ (q : ℕ × ℕ). q.1) p),
        )) (in_snoc v.attempt.reads (a, x) (c, y) (subst (In (c, y)) more i))
    claims_more b c y (passes e j l i) = absurd (let z : suc b ≡ 0 = e ∙ (wv ∙ fresh) in omega arith)
    claims_more b c y (noted r i e m) = inl (noted r (subst (In r) records i) e m)
    claims_more b c y (gave_up r i e m) = inl (gave_up r (subst (In r) aborted i) e m)

    saw' : Saw lk s v.attempt.rv (fetched a n x)
    saw' = subst (Saw lk s v.attempt.rv) last me.saw

    odd_even : (m u : ℕ) → m ≡ 2 * u + 1 → IsFree m → ⊥
    odd_even m u p q = omega arith

    pub check_keeps : w.attempt.held ≡ v.attempt.held → w.attempt.writes ≡ v.attempt.writes →
        w.attempt.stored ≡ v.attempt.stored → decided w ≡ decided v → w.floor ≡ v.floor →
        Saw lk s w.attempt.rv w.attempt.last → Heart lk s (set cs id w)
    check_keeps held writes stored phase floor saw =
        told_keeps w held wv writes stored phase rv (rw floor me.floor) saw
        (λ r i. me.recorded r (subst (In r) records i))
        (λ b c y p. ⊎_elim (λ old. me.agrees b c y old) (λ new. (
          rw (new.0, new.1, new.2) (unchanged a n x saw' still),
          omega (arith, new.0, me.rv),
        )) (claims_more b c y p))
        (λ j o b c y f p op l. ⊎_elim (λ old. h.version.apart id j v o b c y at f old op l)
        (λ new. not_true (writes_to o.attempt.writes c) (λ t. let g = (h.version.sound j o f).locked op c t in
        let odd : s.lock (lk a) ≡ 2 * g.0 + 1 = subst (λ d. s.lock (lk d) ≡ 2 * g.0 + 1) new.1
        ((h.books.booked j o f).listed (lk c) g.0 g.1) in odd_even n g.0 (sym still ∙ odd) saw'.1))
        (claims_more b c y p))

  -- a validation that passes
  module _ (w : Client) (a x : ℕ) (open' : IsOpen v) (read : get_elem? v.attempt.reads v.attempt.passed ≡ some (a, x))
      (fine : (IsFree (s.lock (lk a)) × (version_of (s.lock (lk a)) ≤ v.attempt.rv)) ⊎
      ((u : ℕ) × In (lk a, u) v.attempt.held × (u ≤ v.attempt.rv)))
      (rv : w.attempt.rv ≡ v.attempt.rv) (reads : w.attempt.reads ≡ v.attempt.reads) (wv : w.attempt.wv ≡ v.attempt.wv)
      (passed : w.attempt.passed ≡ v.attempt.passed + 1) (records : w.records ≡ v.records)
      (aborted : w.aborted ≡ v.aborted) where
    quiet : (u : ℕ) → v.attempt.rv < u → s.wrote u a ≡ false
    quiet u l = ⊎_elim (λ f. (h.version.free (lk a) a u f.0 refl).1 (let k = f.1 in omega arith))
        (λ m. (h.version.kept id v (lk a) m.0 at m.1).newest a u refl (let k = m.2 in omega arith) (inl open'.1)) fine

    value_there : s.val (v.attempt.wv - 1) a ≡ x
    value_there =
        let low = mine.later open'.0 in
        sym (h.books.steady a v.attempt.rv (v.attempt.wv - 1) (omega arith) (λ u p q. quiet u p)) ∙
        (me.agrees v.attempt.rv a x (runs refl (v.attempt.passed, read))).0

    none_below : (j : ℕ) (o : Client) → At cs j o → IsOpen o → o.attempt.wv ≤ v.attempt.wv - 1 →
        writes_to o.attempt.writes a ≡ false
    none_below j o e op l =
        by_bool (writes_to o.attempt.writes a) (λ t. let g = (h.version.sound j o e).locked op a t in let odd =
        (h.books.booked j o e).listed (lk a) g.0 g.1 in
        absurd (⊎_elim (λ f. (let even = f.0 in omega arith)) (λ m. let here : j ≡ id =
        h.version.alone j id o v (lk a) g.0 m.0 e at g.1 m.1 in let same : o ≡ v =
        same_at cs id o v (subst (λ k. At cs k o) here e) at in
        (let z : o.attempt.wv ≡ v.attempt.wv = ap (λ (c : Client). c.attempt.wv) same in let p = open'.0 in
        omega arith)) fine)) (λ f. f)

    claims_passed : (b c y : ℕ) → Claims w b c y → Claims v b c y ⊎ ((b ≡ v.attempt.wv - 1) × (c ≡ a) × (y ≡ x))
    claims_passed b c y (runs e i) = inl (runs (e ∙ rv) (subst (In (c, y)) reads i))
    claims_passed b c y (passes e j l i) =
        let i' : get_elem? v.attempt.reads j ≡ some (c, y) = subst (λ y'. get_elem? y' j ≡ some (c, y)) reads i in
        let e' : suc b ≡ v.attempt.wv = e ∙ wv in
        dite (ℕ_discrete j v.attempt.passed) (λ n. let p : (a, x) ≡ (c, y) =
        some-injective (a, x) (c, y) (sym read ∙ subst (λ k. get_elem? v.attempt.reads k ≡ some (c, y)) n i') in
        inr (omega arith, sym (ap (λ (q : ℕ × ℕ). q.0) p), sym (ap (λ (q : ℕ × ℕ). q.1) p)))
        (λ n. inl (passes e' j (let l' : j < v.attempt.passed + 1 = subst (λ m. j < m) passed l in omega arith) i'))
    claims_passed b c y (noted r i e m) = inl (noted r (subst (In r) records i) e m)
    claims_passed b c y (gave_up r i e m) = inl (gave_up r (subst (In r) aborted i) e m)

    pub pass_keeps : w.attempt.held ≡ v.attempt.held → w.attempt.writes ≡ v.attempt.writes →
        w.attempt.stored ≡ v.attempt.stored → decided w ≡ decided v → w.floor ≡ v.floor →
        Saw lk s w.attempt.rv w.attempt.last → Heart lk s (set cs id w)
    pass_keeps held writes stored phase floor saw =
        told_keeps w held wv writes stored phase rv (rw floor me.floor) saw
        (λ r i. me.recorded r (subst (In r) records i))
        (λ b c y p. ⊎_elim (λ old. me.agrees b c y old) (λ new. (
          rw (new.0, new.1, new.2) value_there,
          (let k = me.wv in
              omega (arith, new.0)),
        )) (claims_passed b c y p))
        (λ j o b c y f p op l. ⊎_elim (λ old. h.version.apart id j v o b c y at f old op l)
        (λ new. rw new.1 (none_below j o f op (let k = new.0 in omega arith))) (claims_passed b c y p))

  -- one more record of a reader
  module _ (w : Client) (r : Record) (reads : w.attempt.reads ≡ v.attempt.reads) (rv : w.attempt.rv ≡ v.attempt.rv)
      (wv : w.attempt.wv ≡ v.attempt.wv) (passed : w.attempt.passed ≡ v.attempt.passed)
      (records : w.records ≡ inserted r v.records) (same : r.reads ≡ v.attempt.reads) (there : base r ≡ v.attempt.rv)
      (version : r.version ≡ v.attempt.rv) (aborted : w.aborted ≡ v.aborted) where
    claims_read : (b a x : ℕ) → Claims w b a x → Claims v b a x
    claims_read b a x (runs e i) = runs (e ∙ rv) (subst (In (a, x)) reads i)
    claims_read b a x (passes e j l i) = passes (e ∙ wv) j (subst (λ n. j < n) passed l)
        (subst (λ y. get_elem? y j ≡ some (a, x)) reads i)
    claims_read b a x (noted y i e m) =
        ⊎_elim (λ new. runs (e ∙ (ap base (sym new) ∙ there))
        (subst (In (a, x)) same (subst (λ (z : Record). In (a, x) z.reads) (sym new) m))) (λ old. noted y old e m)
        (in_inserted r v.records y (subst (In y) records i))
    claims_read b a x (gave_up y i e m) = gave_up y (subst (In y) aborted i) e m

    pub finish_keeps : w.attempt.held ≡ v.attempt.held → w.attempt.writes ≡ v.attempt.writes →
        w.attempt.stored ≡ v.attempt.stored → decided w ≡ decided v → w.floor ≡ v.floor →
        Saw lk s w.attempt.rv w.attempt.last → Heart lk s (set cs id w)
    finish_keeps held writes stored phase floor saw =
        told_keeps w held wv writes stored phase rv (rw floor me.floor) saw
        (λ y i. ⊎_elim (λ new. subst (λ (z : Record). z.version ≤ s.clock) new (rw version me.rv))
        (λ old. me.recorded y old) (in_inserted r v.records y (subst (In y) records i)))
        (λ b a x p. me.agrees b a x (claims_read b a x p))
        (λ j o b a x f p op l. h.version.apart id j v o b a x at f (claims_read b a x p) op l)
