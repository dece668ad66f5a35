-- A client takes a lock that was free.
use Rattle.std.proofs.Common.{◌≡◌, ◌≢◌, ℕ, ◌+◌, ◌*◌, ◌/◌, ◌≤◌, ◌<◌, ◌⊎◌, inl, inr, ⊎_elim, false, List, [], ◌∷◌, ◌++◌}
use Rattle.std.proofs.Common.{set, sym, ap, ◌∙◌, subst, arith}
use mathlib.Core.Logic.{dite}
use native.Mathlib.Decide.{ℕ_discrete}
use Rattle.tx_memory.specs.Image.{In}
use Rattle.stm_core.specs.Client.{Client, Step, probed, fetched, decided, version_of, IsFree}
use Rattle.stm_core.specs.Version.{World, At, Claims, Saw, IsSound, IsBooked}
use Rattle.stm_core.proofs.Lists.{in_snoc, in_longer, in_last, same_at, clash}
use Rattle.stm_core.proofs.Turns.{Heart, turn_keeps}
use Rattle.stm_core.proofs.Loading.{claims_as}

-- the lock words after the word k became n
pub record Writes (lock lock' : ℕ → ℕ) (k n : ℕ) : Type 0 where
  pub here : lock' k ≡ n
  pub else : (j : ℕ) → j ≢ k → lock' j ≡ lock j

-- a lock word's version never falls, so the finding of a client's last step still holds
pub saw_stays : (lk : ℕ → ℕ) (s : World) (lock : ℕ → ℕ) (rv : ℕ) (l : Step) →
    ((j : ℕ) → version_of (s.lock j) ≤ version_of (lock j)) → Saw lk s rv l → Saw lk (record s { lock = lock }) rv l
saw_stays lk s lock rv (probed k n) up p = (let q = up k in omega arith)
saw_stays lk s lock rv (fetched a n x) up p = (p.0, p.1, (let q = up (lk a) in omega (arith, p.2)), p.3)
saw_stays lk s lock rv _ up p = tt

-- if only lock words and data words change, the clauses on a client still hold, except the one on
-- its last step
pub sound_stays : (lk : ℕ → ℕ) (s : World) (lock cell : ℕ → ℕ) (o : Client) → IsSound lk s o →
    Saw lk (record s { lock = lock; cell = cell }) o.attempt.rv o.attempt.last →
    IsSound lk (record s { lock = lock; cell = cell }) o
sound_stays lk s lock cell o it saw = record {
  rv = it.rv;
  wv = it.wv;
  floor = it.floor;
  recorded = it.recorded;
  agrees = it.agrees;
  locked = it.locked;
  pending = it.pending;
  above =
      it.above;
  saw = saw;
}

module _ (lk : ℕ → ℕ) (s : World) (cs : List Client) (id : ℕ) (v w : Client) (k u : ℕ) (lock : ℕ →
    ℕ) (h : Heart lk s cs) (at : At cs id v) (free' : s.lock k ≡ 2 * u) (none' : v.attempt.wv ≡ 0)
    (undecided : decided v ≡ false)
    (word : Writes s.lock lock k (2 * u + 1)) (held : w.attempt.held ≡ v.attempt.held ++ (k, u) ∷ [])
    (wv : w.attempt.wv ≡ v.attempt.wv) (phase : decided w ≡ decided v) (rv : w.attempt.rv ≡ v.attempt.rv)
    (floor : w.floor ≡ v.floor) (reads : w.attempt.reads ≡ v.attempt.reads)
    (passed : w.attempt.passed ≡ v.attempt.passed) (records : w.records ≡ v.records)
    (aborted : w.aborted ≡ v.aborted) where
  me : IsSound lk s v
  me = h.version.sound id v at

  abbrev after : World
  after = record s { lock = lock }

  even : IsFree (s.lock k)
  even = omega arith

  -- no client holds lock k
  not_held : (i : ℕ) (o : Client) (j t : ℕ) → At cs i o → In (j, t) o.attempt.held → j ≢ k
  not_held i o j t e g z = (let p : s.lock k ≡ 2 * t + 1 = subst (λ y. s.lock y ≡ 2 * t + 1) z
      ((h.books.booked i o e).listed j t g) in omega arith)

  same_half : (j : ℕ) → version_of (lock j) ≡ version_of (s.lock j)
  same_half j = dite (ℕ_discrete j k) (λ e. rw (e, word.here, free') (omega arith))
      (λ n. ap (λ z. z / 2) (word.else j n))

  up : (j : ℕ) → version_of (s.lock j) ≤ version_of (lock j)
  up j = (let e = same_half j in omega arith)

  claims_same : (b a x : ℕ) → Claims w b a x → Claims v b a x
  claims_same = claims_as v w rv reads wv passed records aborted

  no_version : 0 < w.attempt.wv → ⊥
  no_version z = (let e : w.attempt.wv ≡ 0 = wv ∙ none' in omega arith)

  other_sound : (i : ℕ) (o : Client) → At cs i o → IsSound lk after o
  other_sound i o e = let it = h.version.sound i o e in sound_stays lk s lock s.cell o it
      (saw_stays lk s lock o.attempt.rv o.attempt.last up it.saw)

  other_booked : (i : ℕ) (o : Client) → At cs i o → IsBooked lk after o
  other_booked i o e = let it = h.books.booked i o e in record {
    later = it.later;
    unwritten = it.unwritten;
    told = it.told;
    values = it.values;
    listed = λ j t g. word.else j (not_held i o j t e g) ∙ it.listed j t g;
  }

  split : (j t : ℕ) → In (j, t) w.attempt.held → In (j, t) v.attempt.held ⊎ ((j ≡ k) × (t ≡ u))
  split j t g = ⊎_elim (λ p. inl p) (λ (p : (k, u) ≡ (j, t)). inr (
    sym (ap (λ (q : ℕ × ℕ). q.0) p),
    sym (ap (λ (q : ℕ × ℕ). q.1) p),
  )) (in_snoc v.attempt.held (k, u) (j, t) (subst (In (j, t)) held g))

  grow : (j t : ℕ) → In (j, t) v.attempt.held → In (j, t) w.attempt.held
  grow j t g = rw held (in_longer v.attempt.held (k, u) (j, t) g)

  pub lock_keeps : Saw lk s w.attempt.rv w.attempt.last → Heart lk after (set cs id w)
  lock_keeps saw = turn_keeps lk s after cs id v w h at record {
    sound = record {
      rv = rw rv me.rv;
      wv = rw wv me.wv;
      floor = rw floor me.floor;
      recorded = λ r i. me.recorded r (subst (In r) records i);
      agrees = λ b a x p. me.agrees b a x (claims_same b a x p);
      locked = λ o. absurd (no_version o.0);
      pending = λ d. clash d (phase ∙ undecided);
      above = λ j t g z. absurd (no_version z);
      saw = saw_stays lk s lock w.attempt.rv w.attempt.last up saw;
    };
    booked = record {
      later = λ z. absurd (no_version z);
      listed = λ j t g. ⊎_elim (λ old. word.else j (not_held id v j t at old) ∙ (h.books.booked id v at).listed j t old)
          (λ new. rw (new.0, new.1) word.here) (split j t g);
      unwritten = λ o. absurd (no_version o.0);
      told = λ d. clash d (phase ∙ undecided);
      values = λ d. clash d (phase ∙ undecided);
    };
    others = λ i o e n. other_sound i o e;
    others_booked = λ i o e n. other_booked i o e;
    story = h.books.story;
    steady = h.books.steady;
    versions = λ j. rw same_half (h.version.versions j);
    own = λ i o e n z. absurd (no_version z);
    free = λ j a m e l.
        let n : j ≢ k = λ z. (let p : lock j ≡ 2 * u + 1 = ap lock z ∙ word.here in omega arith) in
        let same = word.else j n in let was = h.version.free j a m (sym same ∙ (e ∙ ap (λ z. 2 * (z / 2)) same)) l in
        (was.0, λ y. was.1 (omega (arith, y, same)));
    holder = λ j e. dite (ℕ_discrete j k) (λ z. let y : version_of (lock j) ≡ u = rw (z, word.here) (omega arith) in
        inl (rw held (subst (λ (p : ℕ × ℕ). In p (v.attempt.held ++ (k, u) ∷ [])) (λ i. (sym z i, sym y i))
        (in_last v.attempt.held (k, u)))))
        (λ n. let same = word.else j n in let q = h.version.holder j
        (sym same ∙ (e ∙ ap (λ z. 2 * (z / 2) + 1) same)) in
        let g : In (j, version_of (lock j)) q.1.attempt.held =
        subst (λ y. In (j, y / 2) q.1.attempt.held) (sym same) q.3 in
        dite (ℕ_discrete q.0 id) (λ z. inl (grow j (version_of (lock j))
        (subst (λ (c : Client). In (j, version_of (lock j)) c.attempt.held)
        (same_at cs id q.1 v (subst (λ y. At cs y q.1) z q.2) at) g))) (λ z. inr (q.0, q.1, q.2, z, g)));
    alone = λ i o j m t e n a b. ⊎_elim (λ old. n (h.version.alone i id o v j m t e at a old))
        (λ new. not_held i o j m e a new.0) (split j t b);
    kept = λ j t g. ⊎_elim
        (λ old. let was = h.version.kept id v j t at old in record {
          same = λ a l c. was.same a l (inl undecided);
          waiting = λ a l d. clash d (phase ∙ undecided);
          newest =
              λ a m l b c. was.newest a m l b (inl undecided);
        })
        (λ new. record {
          same = λ a l c. (h.version.free k a 0 even (l ∙ new.0)).0;
          waiting = λ a l d. clash d (phase ∙ undecided);
          newest =
              λ a m l b c. (h.version.free k a m even (l ∙ new.0)).1 (let e = new.1 in omega arith);
        }) (split j t g);
    kept_else = λ i o j t e n g. let was = h.version.kept i o j t e g in
        record { same = was.same; waiting = was.waiting; newest = was.newest };
    apart_mine = λ i o b a x e n c op l. h.version.apart id i v o b a x at e (claims_same b a x c) op l;
    apart_else = λ i o b a x e n c op. absurd (no_version op.0);
    apart_self = λ b a x c op. absurd (no_version op.0);
  }
