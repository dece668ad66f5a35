-- A client lets a lock go: a decided writer with its write version, an undecided client with the
-- old version.
use Rattle.std.proofs.Common.{◌≡◌, ◌≢◌, ℕ, suc, ◌+◌, ◌*◌, ◌/◌, ◌≤◌, ◌<◌, ◌⊎◌, inl, inr, ⊎_elim, true, false, List, set}
use Rattle.std.proofs.Common.{sym, ap, ◌∙◌, subst, arith, le_refl}
use mathlib.Core.Logic.{dite}
use native.Mathlib.Decide.{ℕ_discrete}
use Rattle.tx_memory.specs.Image.{In}
use Rattle.stm_core.specs.Client.{Client, decided, version_of, IsFree, writes_to}
use Rattle.stm_core.specs.Version.{World, At, Claims, runs, passes, noted, gave_up, Saw, IsSound, IsKept, IsBooked}
use Rattle.stm_core.proofs.Lists.{same_at, clash, by_bool}
use Rattle.stm_core.proofs.Turns.{Heart, turn_keeps}
use Rattle.stm_core.proofs.Loading.{claims_as}
use Rattle.stm_core.proofs.Locking.{Writes, saw_stays, sound_stays}

-- the held locks without the lock k
pub record Drops (held held' : List (ℕ × ℕ)) (k : ℕ) : Type 0 where
  pub fewer : (j t : ℕ) → In (j, t) held' → In (j, t) held × (j ≢ k)
  pub rest : (j t : ℕ) → j ≢ k → In (j, t) held → In (j, t) held'

-- the word of a lock that v holds becomes that of a free lock of version n, not below the old one
module _ (lk : ℕ → ℕ) (s : World) (cs : List Client) (id : ℕ) (v w : Client) (k u n : ℕ) (lock : ℕ →
    ℕ) (h : Heart lk s cs) (at : At cs id v) (holds : In (k, u) v.attempt.held)
    (drops : Drops v.attempt.held w.attempt.held k) (word : Writes s.lock lock k (2 * n)) (low : u ≤ n)
    (high : n ≤ s.clock) where
  abbrev after : World
  after = record s { lock = lock }

  me : IsSound lk s v
  me = h.version.sound id v at

  mine : IsBooked lk s v
  mine = h.books.booked id v at

  number : s.lock k ≡ 2 * u + 1
  number = mine.listed k u holds

  up : (j : ℕ) → version_of (s.lock j) ≤ version_of (lock j)
  up j = dite (ℕ_discrete j k) (λ e. rw (e, word.here) (let p = number in omega (arith, p)))
      (λ y. rw (word.else j y) (le_refl _))

  bound : (j : ℕ) → version_of (lock j) ≤ s.clock
  bound j = dite (ℕ_discrete j k) (λ e. rw (e, word.here) (omega arith))
      (λ y. rw (word.else j y) (h.version.versions j))

  other_sound : (i : ℕ) (o : Client) → At cs i o → IsSound lk after o
  other_sound i o e = let it = h.version.sound i o e in sound_stays lk s lock s.cell o it
      (saw_stays lk s lock o.attempt.rv o.attempt.last up it.saw)

  other_booked : (i : ℕ) (o : Client) → At cs i o → i ≢ id → IsBooked lk after o
  other_booked i o e y = let it = h.books.booked i o e in record {
    later = it.later;
    unwritten = it.unwritten;
    told = it.told;
    values = it.values;
    listed = λ j t g. word.else j (λ z. y (h.version.alone i id o v k t u e at
        (subst (λ m. In (m, t) o.attempt.held) z g) holds)) ∙ it.listed j t g;
  }

  other_kept : (o : Client) (j t : ℕ) → IsKept lk s o j t → IsKept lk after o j t
  other_kept o j t was = record { same = was.same; waiting = was.waiting; newest = was.newest }

  free_stays : ((a : ℕ) → lk a ≡ k → (s.cell a ≡ s.val s.clock a) × ((m : ℕ) → n < m → s.wrote m a ≡ false)) →
      (j a m : ℕ) → IsFree (lock j) → lk a ≡ j → (s.cell a ≡ s.val s.clock a) × (version_of (lock j) < m →
      s.wrote m a ≡ false)
  free_stays f j a m e l =
      dite (ℕ_discrete j k)
      (λ same. let was = f a (l ∙ same) in let half : version_of (lock j) ≡ n = rw (same, word.here) (omega arith) in
      (was.0, λ y. was.1 m (omega (arith, y, half))))
      (λ y. let same = word.else j y in let was = h.version.free j a m
      (sym same ∙ (e ∙ ap (λ z. 2 * (z / 2)) same)) l in (was.0, λ z. was.1 (omega (arith, z, same))))

  holder_stays : (j : ℕ) → lock j ≡ 2 * version_of (lock j) + 1 →
      In (j, version_of (lock j)) w.attempt.held ⊎ ((i : ℕ) × (o : Client) × At cs i o × (i ≢ id) ×
      In (j, version_of (lock j)) o.attempt.held)
  holder_stays j e =
      let y : j ≢ k = λ z. (let p : lock j ≡ 2 * n = ap lock z ∙ word.here in omega arith) in
      let same = word.else j y in
      let q = h.version.holder j (sym same ∙ (e ∙ ap (λ z. 2 * (z / 2) + 1) same)) in
      let g : In (j, version_of (lock j)) q.1.attempt.held =
      subst (λ m. In (j, m / 2) q.1.attempt.held) (sym same) q.3 in
      dite (ℕ_discrete q.0 id) (λ z. inl (drops.rest j (version_of (lock j)) y
      (subst (λ (c : Client). In (j, version_of (lock j)) c.attempt.held)
      (same_at cs id q.1 v (subst (λ m. At cs m q.1) z q.2) at) g))) (λ z. inr (q.0, q.1, q.2, z, g))

  alone_stays : (i : ℕ) (o : Client) (j m t : ℕ) → At cs i o → i ≢ id → In (j, m) o.attempt.held →
      In (j, t) w.attempt.held → ⊥
  alone_stays i o j m t e ne a b = ne (h.version.alone i id o v j m t e at a (drops.fewer j t b).0)

  listed_stays : (j t : ℕ) → In (j, t) w.attempt.held → lock j ≡ 2 * t + 1
  listed_stays j t g = let q = drops.fewer j t g in word.else j q.1 ∙ mine.listed j t q.0

  -- a decided writer, once all its pairs under the lock are stored
  pub release_keeps : n ≡ v.attempt.wv → decided v ≡ true → ((a : ℕ) → lk a ≡ k → writes_to v.attempt.writes a ≡ true →
      In a v.attempt.stored) → w.attempt.wv ≡ v.attempt.wv → w.attempt.writes ≡ v.attempt.writes →
      w.attempt.stored ≡ v.attempt.stored → decided w ≡ decided v → w.attempt.rv ≡ v.attempt.rv → w.floor ≡ v.floor →
      w.attempt.reads ≡ v.attempt.reads
      → w.attempt.passed ≡ v.attempt.passed → w.records ≡ v.records → w.aborted ≡ v.aborted →
      Saw lk s w.attempt.rv w.attempt.last → Heart lk after (set cs id w)
  release_keeps number' is_decided all wv writes stored phase rv floor reads passed records aborted saw =
      let was_decided : decided w ≡ true = phase ∙ is_decided in
      let claims_same : (b a x : ℕ) → Claims w b a x → Claims v b a x =
      claims_as v w rv reads wv passed records aborted in
      let z : 0 < v.attempt.wv = (mine.told is_decided).0 in
      let below : u < v.attempt.wv = me.above k u holds z in
      turn_keeps lk s after cs id v w h at record {
        sound = record {
          rv = rw rv me.rv;
          wv = rw wv me.wv;
          floor = rw floor me.floor;
          recorded = λ r i. me.recorded r (subst (In r) records i);
          agrees = λ b a x p. me.agrees b a x (claims_same b a x p);
          locked = λ o. clash was_decided o.1;
          pending = λ d a t. rw stored (let t' : writes_to v.attempt.writes a ≡ true =
              subst (λ l. writes_to l a ≡ true) writes t in
              dite (ℕ_discrete (lk a) k) (λ e. inl (all a e t'))
              (λ ne. ⊎_elim (λ i. inl i) (λ i. inr (i.0, drops.rest (lk a) i.0 ne i.1))
              (me.pending is_decided a t')));
          above = λ j t g y. rw wv (me.above j t (drops.fewer j t g).0 z);
          saw = saw_stays lk s lock w.attempt.rv w.attempt.last up saw;
        };
        booked = record {
          later = λ y. rw (rv, wv) (mine.later z);
          listed = listed_stays;
          unwritten = λ o. clash was_decided o.1;
          told = λ d. rw (wv, writes) (mine.told is_decided);
          values = λ d a x t i j. rw wv (mine.values is_decided a x t (subst (In (a, x)) writes i)
              (drops.fewer (lk a) t j).0);
        };
        others = λ i o e y. other_sound i o e;
        others_booked = other_booked;
        story = h.books.story;
        steady = h.books.steady;
        versions = bound;
        own = λ i o e y q same. y (h.version.own i id o v e at (let p : o.attempt.wv ≡ v.attempt.wv = sym same ∙ wv in
            omega arith) (sym same ∙ wv));
        free = free_stays (λ a l. let was = h.version.kept id v k u at holds in (
          was.same a l (by_bool (writes_to v.attempt.writes a) (λ t. inr (inr (all a l t))) (λ f. inr (inl f))),
          λ m y. was.newest a m l (omega arith) (inr (λ e. (let e' : m ≡ v.attempt.wv = e in omega arith))),
        ));
        holder = holder_stays;
        alone = alone_stays;
        kept = λ j t g. let was = h.version.kept id v j t at (drops.fewer j t g).0 in record {
          same = λ a l c. was.same a l (⊎_elim (λ d. clash was_decided d)
              (λ d. inr (⊎_elim (λ f. inl (subst (λ y. writes_to y a ≡ false) writes f))
              (λ i. inr (subst (In a) stored i)) d)) c);
          waiting = λ a l d y i. rw wv (was.waiting a l is_decided (subst (λ z'. writes_to z' a ≡ true) writes y)
              (λ i'. i (rw stored i')));
          newest = λ a m l b c. was.newest a m l b (⊎_elim (λ d. clash was_decided d)
              (λ d. inr (λ e. d (e ∙ sym wv))) c);
        };
        kept_else = λ i o j t e y g. other_kept o j t (h.version.kept i o j t e g);
        apart_mine = λ i o b a x e y c op l. h.version.apart id i v o b a x at e (claims_same b a x c) op l;
        apart_else = λ i o b a x e y c op. clash was_decided op.1;
        apart_self = λ b a x c op. clash was_decided op.1;
      }

  -- an undecided client, which gives up its write version
  pub give_back_keeps : n ≡ u → decided v ≡ false → w.attempt.wv ≡ 0 → w.attempt.passed ≡ 0 → decided w ≡ false →
      w.attempt.rv ≡ v.attempt.rv → w.floor ≡ v.floor → w.attempt.reads ≡ v.attempt.reads → w.records ≡ v.records →
      w.aborted ≡ v.aborted → Saw lk s w.attempt.rv w.attempt.last → Heart lk after (set cs id w)
  give_back_keeps number' undecided wv passed phase rv floor reads records aborted saw =
      let none : 0 < w.attempt.wv → ⊥ = λ z. (let e = wv in omega arith) in
      let claims_same : (b a x : ℕ) → Claims w b a x → Claims v b a x = claims_fewer wv rv reads records aborted in
      turn_keeps lk s after cs id v w h at record {
        sound = record {
          rv = rw rv me.rv;
          wv = (let e = wv in omega arith);
          floor = rw floor me.floor;
          recorded = λ r i. me.recorded r (subst (In r) records i);
          agrees = λ b a x p. me.agrees b a x (claims_same b a x p);
          locked = λ o. absurd (none o.0);
          pending = λ d. clash d phase;
          above = λ j t g z. absurd (none z);
          saw = saw_stays lk s lock w.attempt.rv w.attempt.last up saw;
        };
        booked = record {
          later = λ z. absurd (none z);
          listed = listed_stays;
          unwritten = λ o. absurd (none o.0);
          told = λ d. clash d phase;
          values = λ d. clash d phase;
        };
        others = λ i o e y. other_sound i o e;
        others_booked = other_booked;
        story = h.books.story;
        steady = h.books.steady;
        versions = bound;
        own = λ i o e y z. absurd (none z);
        free = free_stays (λ a l. let was = h.version.kept id v k u at holds in
            (was.same a l (inl undecided), λ m y. was.newest a m l (omega arith) (inl undecided)));
        holder = holder_stays;
        alone = alone_stays;
        kept = λ j t g. let was = h.version.kept id v j t at (drops.fewer j t g).0 in
            record {
              same = λ a l c. was.same a l (inl undecided);
              waiting = λ a l d. clash d phase;
              newest = λ a m l b c. was.newest a m l b (inl undecided);
            };
        kept_else = λ i o j t e y g. other_kept o j t (h.version.kept i o j t e g);
        apart_mine = λ i o b a x e y c op l. h.version.apart id i v o b a x at e (claims_same b a x c) op l;
        apart_else = λ i o b a x e y c op. absurd (none op.0);
        apart_self = λ b a x c op. absurd (none op.0);
      }
    where
      claims_fewer : w.attempt.wv ≡ 0 → w.attempt.rv ≡ v.attempt.rv → w.attempt.reads ≡ v.attempt.reads →
          w.records ≡ v.records → w.aborted ≡ v.aborted → (b a x : ℕ) → Claims w b a x → Claims v b a x
      claims_fewer wv rv reads records aborted b a x (runs e i) = runs (e ∙ rv) (subst (In (a, x)) reads i)
      claims_fewer wv rv reads records aborted b a x (passes e j l i) =
          absurd (let z : suc b ≡ 0 = e ∙ wv in omega arith)
      claims_fewer wv rv reads records aborted b a x (noted r i e m) = noted r (subst (In r) records i) e m
      claims_fewer wv rv reads records aborted b a x (gave_up r i e m) = gave_up r (subst (In r) aborted i) e m
