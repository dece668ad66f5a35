-- One client's step, clause by clause: the obligations on the client itself, on the other clients,
-- and on the words.
use Rattle.std.proofs.Common.{◌≡◌, ◌≢◌, ℕ, ◌+◌, ◌*◌, ◌≤◌, ◌<◌, ◌⊎◌, inl, inr, ⊎_elim, true, false, List, set, refl, sym}
use Rattle.std.proofs.Common.{◌∙◌, subst}
use mathlib.Core.Logic.{dite}
use native.Mathlib.Decide.{ℕ_discrete}
use Rattle.tx_memory.specs.Image.{In}
use Rattle.stm_core.specs.Client.{Client, Record, decided, version_of, IsFree, writes_to}
use Rattle.stm_core.specs.Version.{World, At, IsOpen, Claims, Saw, IsSound, IsKept, Version, IsBooked, Books}
use Rattle.stm_core.proofs.Lists.{set_here, set_else, same_at, who_set}

module _ (lk : ℕ → ℕ) where
  pub record Heart (s : World) (cs : List Client) : Type 0 where
    pub version : Version lk s cs
    pub books : Books lk s cs

  -- the client at id goes from v to w, and the words from s to t
  pub record Turn (s t : World) (cs : List Client) (id : ℕ) (w : Client) : Type 0 where
    pub sound : IsSound lk t w
    pub booked : IsBooked lk t w
    pub others : (i : ℕ) (o : Client) → At cs i o → i ≢ id → IsSound lk t o
    pub others_booked : (i : ℕ) (o : Client) → At cs i o → i ≢ id → IsBooked lk t o
    pub story : (u a : ℕ) → t.clock < u → t.wrote u a ≡ false
    pub steady : (a m n : ℕ) → m ≤ n → ((u : ℕ) → m < u → u ≤ n → t.wrote u a ≡ false) → t.val m a ≡ t.val n a
    pub versions : (k : ℕ) → version_of (t.lock k) ≤ t.clock
    pub own : (i : ℕ) (o : Client) → At cs i o → i ≢ id → 0 < w.attempt.wv → w.attempt.wv ≢ o.attempt.wv
    pub free : (k a m : ℕ) → IsFree (t.lock k) → lk a ≡ k → (t.cell a ≡ t.val t.clock a) × (version_of (t.lock k) < m →
        t.wrote m a ≡ false)
    pub holder : (k : ℕ) → t.lock k ≡ 2 * version_of (t.lock k) + 1 →
        In (k, version_of (t.lock k)) w.attempt.held ⊎ ((i : ℕ) × (o : Client) × At cs i o × (i ≢ id) ×
        In (k, version_of (t.lock k)) o.attempt.held)
    pub alone : (i : ℕ) (o : Client) (k m n : ℕ) → At cs i o → i ≢ id → In (k, m) o.attempt.held →
        In (k, n) w.attempt.held → ⊥
    pub kept : (k u : ℕ) → In (k, u) w.attempt.held → IsKept lk t w k u
    pub kept_else : (i : ℕ) (o : Client) (k u : ℕ) → At cs i o → i ≢ id → In (k, u) o.attempt.held → IsKept lk t o k u
    pub apart_mine : (i : ℕ) (o : Client) (b a x : ℕ) → At cs i o → i ≢ id → Claims w b a x → IsOpen o →
        o.attempt.wv ≤ b → writes_to o.attempt.writes a ≡ false
    pub apart_else : (i : ℕ) (o : Client) (b a x : ℕ) → At cs i o → i ≢ id → Claims o b a x → IsOpen w →
        w.attempt.wv ≤ b → writes_to w.attempt.writes a ≡ false
    pub apart_self : (b a x : ℕ) → Claims w b a x → IsOpen w → w.attempt.wv ≤ b → writes_to w.attempt.writes a ≡ false

  module _ (s t : World) (cs : List Client) (id : ℕ) (v w : Client) (h : Heart s cs) (at : At cs id v)
      (g : Turn s t cs id w) where
    turned : Version lk t (set cs id w)
    turned = record {
      versions = g.versions;
      own = λ i j o p e f z same. who_set cs id w (λ n c. 0 < c.attempt.wv → c.attempt.wv ≡ p.attempt.wv → n ≡ j)
          (λ z' same'. who_set cs id w (λ n c. w.attempt.wv ≡ c.attempt.wv →
          id ≡ n) (λ _. refl) (λ n c at' ne same''. absurd (g.own n c at' ne z' same'')) j p f same')
          (λ n c at' ne z' same'. who_set cs id w (λ m d. c.attempt.wv ≡ d.attempt.wv →
          n ≡ m) (λ e'. absurd (g.own n c at' ne (let q : 0 < w.attempt.wv = subst (λ y. 0 < y) e' z' in
          q) (sym e'))) (λ m d at'' ne' e'. h.version.own n m c d at' at'' z' e') j p f same')
          i o e z same;
      free = g.free;
      holder = λ k odd. ⊎_elim (λ m. (id, w, set_here cs id v w at, m))
          (λ q. (q.0, q.1, set_else cs id q.0 w q.1 q.3 q.2, q.4)) (g.holder k odd);
      alone = λ i j o p k m n e f a b. who_set cs id w (λ y c. In (k, m) c.attempt.held → y ≡ j)
          (λ a'. who_set cs id w (λ y c. In (k, n) c.attempt.held →
          id ≡ y) (λ _. refl) (λ y c at' ne b'. absurd (g.alone y c k n m at' ne b' a')) j p f b)
          (λ y c at' ne a'. who_set cs id w (λ z d. In (k, n) d.attempt.held →
          y ≡ z) (λ b'. absurd (g.alone y c k m n at' ne a' b'))
          (λ z d at'' ne' b'. h.version.alone y z c d k m n at' at'' a' b') j p f b)
          i o e a;
      kept = λ i o k u e a. who_set cs id w (λ y c. In (k, u) c.attempt.held →
          IsKept lk t c k u) (g.kept k u) (λ y c at' ne a'. g.kept_else y c k u at' ne a') i o e a;
      apart = λ i j o p b a x e f c op le. who_set cs id w (λ y d. Claims d b a x →
          writes_to p.attempt.writes a ≡ false)
          (λ c'. who_set cs id w (λ z d. IsOpen d → d.attempt.wv ≤ b →
          writes_to d.attempt.writes a ≡ false) (λ op' le'. g.apart_self b a x c' op' le')
          (λ z d at' ne op' le'. g.apart_mine z d b a x at' ne c' op' le') j p f op le)
          (λ y d at' ne c'. who_set cs id w (λ z q. IsOpen q → q.attempt.wv ≤ b →
          writes_to q.attempt.writes a ≡ false) (λ op' le'. g.apart_else y d b a x at' ne c' op' le')
          (λ z q at'' ne' op' le'. h.version.apart y z d q b a x at' at'' c' op' le') j p f op le)
          i o e c;
      sound = λ i o e. who_set cs id w (λ y c. IsSound lk t c) g.sound (λ y c at' ne. g.others y c at' ne) i o e;
    }

    pub turn_keeps : Heart t (set cs id w)
    turn_keeps = record {
      version = turned;
      books = record {
        story = g.story;
        steady = g.steady;
        booked = λ i o e. who_set cs id w (λ y c. IsBooked lk t
            c) g.booked (λ y c at' ne. g.others_booked y c at' ne) i o e;
      };
    }

  -- a step that changes no word, and neither locks nor versions nor writes
  pub record Look (s : World) (cs : List Client) (v w : Client) : Type 0 where
    pub held : w.attempt.held ≡ v.attempt.held
    pub wv : w.attempt.wv ≡ v.attempt.wv
    pub writes : w.attempt.writes ≡ v.attempt.writes
    pub stored : w.attempt.stored ≡ v.attempt.stored
    pub phase : decided w ≡ decided v
    pub rv : w.attempt.rv ≤ s.clock
    pub floor : w.floor ≤ s.clock
    pub recorded : (r : Record) → In r w.records → r.version ≤ s.clock
    pub later : 0 < w.attempt.wv → w.attempt.rv < w.attempt.wv
    pub agrees : (b a x : ℕ) → Claims w b a x → (s.val b a ≡ x) × (b ≤ s.clock)
    pub saw : Saw lk s w.attempt.rv w.attempt.last
    pub apart : (i : ℕ) (o : Client) (b a x : ℕ) → At cs i o → Claims w b a x → IsOpen o → o.attempt.wv ≤ b →
        writes_to o.attempt.writes a ≡ false

  module _ (s : World) (cs : List Client) (id : ℕ) (v w : Client) (h : Heart s cs) (at : At cs id v)
      (g : Look s cs v w) where
    me : IsSound lk s v
    me = h.version.sound id v at

    mine : IsBooked lk s v
    mine = h.books.booked id v at

    was_open : IsOpen w → IsOpen v
    was_open o = (subst (λ n. 0 < n) g.wv o.0, sym g.phase ∙ o.1)

    look : Turn s s cs id w
    look = record {
      sound = record {
        rv = g.rv;
        wv = rw g.wv me.wv;
        floor = g.floor;
        recorded = g.recorded;
        agrees = g.agrees;
        locked = λ o a t. rw g.held (me.locked (was_open o) a (subst (λ l. writes_to l a ≡ true) g.writes t));
        pending = λ d a t. rw (g.held, g.stored) (me.pending (sym g.phase ∙ d) a
            (subst (λ l. writes_to l a ≡ true) g.writes t));
        above = λ k u i z. rw g.wv (me.above k u (subst (In (k, u)) g.held i) (subst (λ n. 0 < n) g.wv z));
        saw = g.saw;
      };
      booked = record {
        later = g.later;
        listed = λ k u i. mine.listed k u (subst (In (k, u)) g.held i);
        unwritten = λ o a. rw g.wv (mine.unwritten (was_open o) a);
        told = λ d. rw (g.wv, g.writes) (mine.told (sym g.phase ∙ d));
        values = λ d a x u i j. rw g.wv (mine.values (sym g.phase ∙ d) a x u (subst (In (a, x)) g.writes i)
            (subst (In (lk a, u)) g.held j));
      };
      others = λ i o e n. h.version.sound i o e;
      others_booked = λ i o e n. h.books.booked i o e;
      story = h.books.story;
      steady = h.books.steady;
      versions = h.version.versions;
      own = λ i o e n z same. n (h.version.own i id o v e at (rw (sym same, g.wv) (subst (λ y. 0 < y) g.wv z))
          (sym same ∙ g.wv));
      free = h.version.free;
      holder = λ k odd. let q = h.version.holder k odd in
          dite (ℕ_discrete q.0 id) (λ e. inl (rw g.held (subst
          (λ (c : Client). In (k, version_of (s.lock k)) c.attempt.held)
          (same_at cs id q.1 v (subst (λ n. At cs n q.1) e q.2) at) q.3))) (λ n. inr (q.0, q.1, q.2, n, q.3));
      alone = λ i o k m n e ne a b. ne (h.version.alone i id o v k m n e at a (subst (In (k, n)) g.held b));
      kept = λ k u i. let was = h.version.kept id v k u at (subst (In (k, u)) g.held i) in record {
        same = λ a l c. was.same a l (subst₃ g.phase g.writes g.stored c);
        waiting = λ a l d t n. rw g.wv (was.waiting a l (sym g.phase ∙ d) (subst (λ y. writes_to y a ≡ true) g.writes t)
            (λ y. n (rw g.stored y)));
        newest = λ a m l b c. was.newest a m l b (⊎_elim (λ d. inl (sym g.phase ∙ d))
            (λ d. inr (λ e. d (e ∙ sym g.wv))) c);
      };
      kept_else = λ i o k u e n a. h.version.kept i o k u e a;
      apart_mine = λ i o b a x e n c op le. g.apart i o b a x e c op le;
      apart_else = λ i o b a x e n c op le. rw g.writes (h.version.apart i id o v b a x e at c (was_open op)
          (rw (sym g.wv) le));
      apart_self = λ b a x c op le. rw g.writes (g.apart id v b a x at c (was_open op) (rw (sym g.wv) le));
    }
      where
        subst₃ : {a : ℕ} → decided w ≡ decided v → w.attempt.writes ≡ v.attempt.writes →
            w.attempt.stored ≡ v.attempt.stored → (decided w ≡ false) ⊎
            ((writes_to w.attempt.writes a ≡ false) ⊎ In a w.attempt.stored) →
            (decided v ≡ false) ⊎ ((writes_to v.attempt.writes a ≡ false) ⊎ In a v.attempt.stored)
        subst₃ {a} p q r c = ⊎_elim (λ d. inl (sym p ∙ d)) (λ d. inr
            (⊎_elim (λ f. inl (subst (λ y. writes_to y a ≡ false) q f)) (λ i. inr (subst (In a) r i)) d)) c

    pub look_keeps : Heart s (set cs id w)
    look_keeps = turn_keeps s s cs id v w h at look
