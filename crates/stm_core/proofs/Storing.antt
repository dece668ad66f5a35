-- A decided writer stores a value.
use Rattle.std.proofs.Common.{◌≡◌, ◌≢◌, ℕ, ◌<◌, inl, inr, ⊎_elim, true, false, List, [], ◌∷◌, ◌++◌, set, refl, sym, ap}
use Rattle.std.proofs.Common.{◌∙◌, subst, arith}
use mathlib.Core.Logic.{dite}
use native.Mathlib.Decide.{ℕ_discrete}
use Rattle.tx_memory.specs.Image.{In}
use Rattle.stm_core.specs.Client.{Client, Step, probed, fetched, decided, version_of, writes_to}
use Rattle.stm_core.specs.Version.{World, At, Claims, Saw, IsSound, IsBooked}
use Rattle.stm_core.proofs.Locking.{sound_stays}
use Rattle.stm_core.proofs.Lists.{in_snoc, in_longer, in_last, same_at, clash}
use Rattle.stm_core.proofs.Turns.{Heart, turn_keeps}
use Rattle.stm_core.proofs.Loading.{claims_as}

-- the words after the word a became x
pub record Stores (cell cell' : ℕ → ℕ) (a x : ℕ) : Type 0 where
  pub here : cell' a ≡ x
  pub else : (b : ℕ) → b ≢ a → cell' b ≡ cell b

module _ (lk : ℕ → ℕ) (s : World) (cs : List Client) (id : ℕ) (v w : Client) (a x u : ℕ) (cell : ℕ →
    ℕ) (h : Heart lk s cs) (at : At cs id v) (is_decided : decided v ≡ true) (holds : In (lk a, u) v.attempt.held)
    (pair : In (a, x) v.attempt.writes)
    (word : Stores s.cell cell a x) (held : w.attempt.held ≡ v.attempt.held) (wv : w.attempt.wv ≡ v.attempt.wv)
    (writes : w.attempt.writes ≡ v.attempt.writes) (stored : w.attempt.stored ≡ v.attempt.stored ++ a ∷ [])
    (phase : decided w ≡ decided v) (rv : w.attempt.rv ≡ v.attempt.rv) (floor : w.floor ≡ v.floor)
    (reads : w.attempt.reads ≡ v.attempt.reads)
    (passed : w.attempt.passed ≡ v.attempt.passed) (records : w.records ≡ v.records)
    (aborted : w.aborted ≡ v.aborted) where
  abbrev after : World
  after = record s { cell = cell }

  me : IsSound lk s v
  me = h.version.sound id v at

  mine : IsBooked lk s v
  mine = h.books.booked id v at

  -- the stored value is that of the newest image
  is_newest : x ≡ s.val s.clock a
  is_newest =
      let z = (mine.told is_decided).0 in
      let below = me.above (lk a) u holds z in
      sym (mine.values is_decided a x u pair holds) ∙ h.books.steady a v.attempt.wv s.clock me.wv
      (λ m p q. (h.version.kept id v (lk a) u at holds).newest a m refl (omega arith)
      (inr (λ e. (let y : m ≡ v.attempt.wv = e in omega arith))))

  cell_new : (b : ℕ) → (b ≢ a → s.cell b ≡ s.val s.clock b) → cell b ≡ s.val s.clock b
  cell_new b f = dite (ℕ_discrete b a) (λ e. rw e (word.here ∙ is_newest)) (λ n. word.else b n ∙ f n)

  claims_same : (b c y : ℕ) → Claims w b c y → Claims v b c y
  claims_same = claims_as v w rv reads wv passed records aborted

  saw_stays : (m : ℕ) (l : Step) → Saw lk s m l → Saw lk after m l
  saw_stays m (probed k n) p = p
  saw_stays m (fetched b n y) p = p
  saw_stays m _ p = tt

  other_sound : (i : ℕ) (o : Client) → At cs i o → IsSound lk after o
  other_sound i o e = let it = h.version.sound i o e in sound_stays lk s s.lock cell o it
      (saw_stays o.attempt.rv o.attempt.last it.saw)

  other_booked : (i : ℕ) (o : Client) → At cs i o → IsBooked lk after o
  other_booked i o e = let it = h.books.booked i o e in record {
    later = it.later;
    listed = it.listed;
    unwritten = it.unwritten;
    told = it.told;
    values = it.values;
  }

  was_decided : decided w ≡ true
  was_decided = phase ∙ is_decided

  pub put_keeps : Saw lk s w.attempt.rv w.attempt.last → Heart lk after (set cs id w)
  put_keeps saw = turn_keeps lk s after cs id v w h at record {
    sound = record {
      rv = rw rv me.rv;
      wv = rw wv me.wv;
      floor = rw floor me.floor;
      recorded = λ r i. me.recorded r (subst (In r) records i);
      agrees = λ b c y p. me.agrees b c y (claims_same b c y p);
      locked = λ o. clash was_decided o.1;
      pending = λ d b t. rw (held, stored) (⊎_elim (λ i. inl (in_longer v.attempt.stored a b i)) (λ i. inr i)
          (me.pending is_decided b (subst (λ l. writes_to l b ≡ true) writes t)));
      above = λ k m g z. rw wv (me.above k m (subst (In (k, m)) held g) (subst (λ n. 0 < n) wv z));
      saw = saw_stays w.attempt.rv w.attempt.last saw;
    };
    booked = record {
      later = λ z. rw (rv, wv) (mine.later (subst (λ n. 0 < n) wv z));
      listed = λ k m g. mine.listed k m (subst (In (k, m)) held g);
      unwritten = λ o. clash was_decided o.1;
      told = λ d. rw (wv, writes) (mine.told is_decided);
      values = λ d b y m i j. rw wv (mine.values is_decided b y m (subst (In (b, y)) writes i)
          (subst (In (lk b, m)) held j));
    };
    others = λ i o e n. other_sound i o e;
    others_booked = λ i o e n. other_booked i o e;
    story = h.books.story;
    steady = h.books.steady;
    versions = h.version.versions;
    own = λ i o e n z same. n (h.version.own i id o v e at (let q : o.attempt.wv ≡ v.attempt.wv = sym same ∙ wv in
        let p : w.attempt.wv ≡ o.attempt.wv = same in omega arith) (sym same ∙ wv));
    free = λ k b m e l. let was = h.version.free k b m e l in (cell_new b (λ n. was.0), was.1);
    holder = λ k odd. let q = h.version.holder k odd in
        dite (ℕ_discrete q.0 id) (λ e. inl (rw held (subst (λ (c : Client). In (
          k,
          version_of (s.lock k),
        ) c.attempt.held) (same_at cs id q.1 v (subst (λ n. At cs n q.1) e q.2) at) q.3)))
        (λ n. inr (q.0, q.1, q.2, n, q.3));
    alone = λ i o k m n e ne p q. ne (h.version.alone i id o v k m n e at p (subst (In (k, n)) held q));
    kept = λ k m g. let was = h.version.kept id v k m at (subst (In (k, m)) held g) in record {
      same = λ b l c. cell_new b (λ n. was.same b l (⊎_elim (λ p. inl (sym phase ∙ p))
          (λ p. inr (⊎_elim (λ q. inl (subst (λ y. writes_to y b ≡ false) writes q))
          (λ q. inr (⊎_elim (λ r. r) (λ (r : a ≡ b). absurd (n (sym r)))
          (in_snoc v.attempt.stored a b (subst (In b) stored q)))) p)) c));
      waiting = λ b l d t n. word.else b (λ e. n (rw (stored, e) (in_last v.attempt.stored a))) ∙
          rw wv (was.waiting b l is_decided (subst (λ y. writes_to y b ≡ true) writes t)
          (λ i. n (rw stored (in_longer v.attempt.stored a b i))));
      newest = λ b y l z c. was.newest b y l z (⊎_elim (λ p. inl (sym phase ∙ p)) (λ p. inr (λ e. p (e ∙ sym wv))) c);
    };
    kept_else = λ i o k m e n g. let was = h.version.kept i o k m e g in record {
      same = λ b l c. cell_new b (λ n. was.same b l c);
      waiting = λ b l d t z. word.else b (λ e'. n (h.version.alone i id o v (lk a) m u e at
          (subst (λ y. In (y, m) o.attempt.held) (sym l ∙ ap lk e') g) holds)) ∙ was.waiting b l d t z;
      newest = was.newest;
    };
    apart_mine = λ i o b c y e n p op l. h.version.apart id i v o b c y at e (claims_same b c y p) op l;
    apart_else = λ i o b c y e n p op. clash was_decided op.1;
    apart_self = λ b c y p op. clash was_decided op.1;
  }
