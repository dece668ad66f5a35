-- The words that an attempt has read are those that the committed attempts before its begin leave,
-- at that time and after all later events.
use Rattle.std.proofs.Common.{◌≡◌, ℕ, zero, suc, ◌+◌, ◌-◌, ◌≤◌, ◌<◌, ◌⊎◌, inl, inr, ⊎_elim, Bool, true, false, cond}
use Rattle.std.proofs.Common.{eqb, leb, ltb, ◌||◌, List, [], ◌∷◌, ◌++◌, append_assoc, append-nil, length, slice_index}
use Rattle.std.proofs.Common.{refl, sym, ap, ◌∙◌, subst, arith}
use Rattle.std.proofs.lemmas.Bool.Decides.{nat_tests}
use Rattle.tx_memory.specs.Image.{In, laid}
use Rattle.stm_core.specs.Client.{Client, Record, RecordLaw, shed, running, writes_to, is_committed}
use Rattle.stm_core.specs.Event.{Action, begin}
use Rattle.stm_core.specs.Core.{Core, Event, acts, splits, gathers, renews, client_of, played, Leads, opened}
use Rattle.stm_core.specs.Version.{At, IsOpen, runs}
use Rattle.stm_core.specs.Records.{value_over}
use Rattle.stm_core.specs.Invariant.{now}
use Rattle.stm_core.specs.Guards.{stripe_of}
use Rattle.stm_core.specs.History.{image_after, image_at}
use Rattle.stm_core.specs.Listed.{IsStepOf, core_at, made}
use Rattle.stm_core.proofs.Lists.{by_bool}
use Rattle.stm_core.proofs.Lones.{at_map}
use Rattle.stm_core.proofs.Conditions.{CanPlay, can_play}
use Rattle.stm_core.proofs.Histories.{laid_value, laid_length, image_length}
use Rattle.stm_core.proofs.Facts.{ahead_by, agrees_by}
use Rattle.stm_core.proofs.Dating.{placed, placed_in, ranked_by}
use Rattle.stm_core.proofs.Traced.{Trace, begin_first, step_stays}
use Rattle.stm_core.proofs.Tracing.{at_most_one, decided_since, writing_before}
use Rattle.stm_core.proofs.Tracing.{opening_trace}
use Rattle.stm_core.proofs.Playing.{filed, earlier_after, history_after, Beside, event_beside, event_traced}
use Rattle.stm_core.proofs.Playing.{first_stays, opening_beside, is_history, every_list_is_serializable}
use Rattle.stm_replay.specs.Opacity.{before_place, IsLive, EveryListIsOpaque}
use Rattle.stm_replay.proofs.Placing.{one_history}

-- the value at an address after some records, if the value before them was d
abbrev over_all : ℕ → List Record → ℕ → ℕ
over_all d [] a = d
over_all d (r ∷ rs) a = over_all (value_over d r.writes a) rs a

image_value : (rs : List Record) (m : List ℕ) (a : ℕ) → a < length m
    → slice_index (image_after m rs) a ≡ over_all (slice_index m a) rs a
image_value [] m a l = refl
image_value (r ∷ rs) m a l =
    image_value rs (laid m r.writes) a (rw (laid_length m r.writes) l)
    ∙ ap (λ d. over_all d rs a) (laid_value m r.writes a l)

image_long : (rs : List Record) (m : List ℕ) → length (image_after m rs) ≡ length m
image_long [] m = refl
image_long (r ∷ rs) m = image_long rs (laid m r.writes) ∙ laid_length m r.writes

over_none : (ws : List (ℕ × ℕ)) (a d : ℕ) → writes_to ws a ≡ false → value_over d ws a ≡ d
over_none [] a d e = refl
over_none (p ∷ ps) a d e = go (eqb p.0 a) e (λ f. over_none ps a d f)
  where
    go : (b : Bool) → (b || writes_to ps a) ≡ false → (writes_to ps a ≡ false → value_over d ps a ≡ d)
        → value_over (cond b p.1 d) ps a ≡ d
    go true f rest = absurd (let k : true ≡ false = f in cc)
    go false f rest = rest f

over_append : (xs ys : List Record) (d a : ℕ) → over_all d (xs ++ ys) a ≡ over_all (over_all d xs a) ys a
over_append [] ys d a = refl
over_append (x ∷ xs) ys d a = over_append xs ys (value_over d x.writes a) a

before_append : (p : ℕ) (xs ys : List Record) → before_place p (xs ++ ys) ≡ before_place p xs ++ before_place p ys
before_append p [] ys = refl
before_append p (x ∷ xs) ys = go (ltb x.point p) (before_append p xs ys)
  where
    go : (b : Bool) → before_place p (xs ++ ys) ≡ before_place p xs ++ before_place p ys
        → cond b (x ∷ before_place p (xs ++ ys)) (before_place p (xs ++ ys))
        ≡ cond b (x ∷ before_place p xs) (before_place p xs) ++ before_place p ys
    go true e = ap (λ l. x ∷ l) e
    go false e = e

before_all : (p : ℕ) (rs : List Record) → ((r : Record) → In r rs → r.point < p) → before_place p rs ≡ rs
before_all p [] f = refl
before_all p (r ∷ rs) f =
    let l : ltb r.point p ≡ true = (let h = f r (0, refl) in grind (arith, nat_tests)) in
    rw l (ap (λ l. r ∷ l) (before_all p rs (λ x i. f x (suc i.0, i.1))))

-- the value after both parts of the records
parted : (p : ℕ) (old h : List Record) (d a : ℕ)
    → over_all d (before_place p (old ++ h)) a ≡ over_all (over_all d (before_place p old) a) (before_place p h) a
parted p old h d a =
    ap (λ l. over_all d l a) (before_append p old h) ∙ over_append (before_place p old) (before_place p h) d a

-- a record that does not matter: it stands after the position, or does not write the address
abbrev Spares : Record → ℕ → ℕ → Type 0
Spares r p a = ltb r.point p ≡ true → (d : ℕ) → value_over d r.writes a ≡ d

in_front : (r : Record) (p a : ℕ) → Spares r p a → (rs : List Record) (d : ℕ)
    → over_all d (cond (ltb r.point p) (r ∷ rs) rs) a ≡ over_all d rs a
in_front r p a s rs d = go (ltb r.point p) s
  where
    go : (b : Bool) → (b ≡ true → (d : ℕ) → value_over d r.writes a ≡ d) →
        over_all d (cond b (r ∷ rs) rs) a ≡ over_all d rs a
    go true f = ap (λ e. over_all e rs a) (f refl d)
    go false f = refl

both_front : (x : Record) (p a : ℕ) (l k : List Record) → ((e : ℕ) → over_all e l a ≡ over_all e k a) → (d : ℕ)
    → over_all d (cond (ltb x.point p) (x ∷ l) l) a ≡ over_all d (cond (ltb x.point p) (x ∷ k) k) a
both_front x p a l k f d = go (ltb x.point p)
  where
    go : (b : Bool) → over_all d (cond b (x ∷ l) l) a ≡ over_all d (cond b (x ∷ k) k) a
    go true = f (value_over d x.writes a)
    go false = f d

placed_same : (r : Record) (p a : ℕ) → Spares r p a → (l : List Record) (d : ℕ)
    → over_all d (before_place p (placed r l)) a ≡ over_all d (before_place p l) a
placed_same r p a s [] d = in_front r p a s [] d
placed_same r p a s (x ∷ l) d = go (ltb r.point x.point) (λ e. placed_same r p a s l e)
  where
    go : (b : Bool) → ((e : ℕ) → over_all e (before_place p (placed r l)) a ≡ over_all e (before_place p l) a)
        → over_all d (before_place p (cond b (r ∷ x ∷ l) (x ∷ placed r l))) a ≡ over_all d (before_place p (x ∷ l)) a
    go true f = in_front r p a s (before_place p (x ∷ l)) d
    go false f = both_front x p a (before_place p (placed r l)) (before_place p l) f d

-- the reads agree with what the records before the position leave, and no client that is still to
-- write and won its tick before the position writes any of the addresses read
pub record Fits (first : List ℕ) (p : ℕ) (reads : List (ℕ × ℕ)) (old h : List Record) (c : Core) : Type 0 where
  pub agrees : (a x : ℕ) → In (a, x) reads
      → (a < length first) × (over_all (slice_index first a) (before_place p (old ++ h)) a ≡ x)
  pub unwritten : (j : ℕ) (o : Client) (a x : ℕ) → At c.clients j o → o.attempt.phase ≡ running → 0 < o.attempt.wv
      → o.attempt.ticked_at < p → In (a, x) reads → writes_to o.attempt.writes a ≡ false
  pub past : p ≤ c.events

-- a record in the history of a core that is no writer's record has no writes
reader_writes : (lawful : RecordLaw) (lk : ℕ → ℕ) (old h : List Record) (c : Core) → Beside lawful lk old h c
    → (r : Record) → In r h → r.writer ≡ false → r.writes ≡ []
reader_writes lawful lk old h c b r m w =
    let q = b.dated.only r m in ((b.rule.inv.filed.filed q.0 q.1 q.2).told r q.3).reader w

-- the reads still fit after an event
module _ (lawful : RecordLaw) (lk : ℕ → ℕ) (start : Core) (es : List Event) (c : Core) (old h : List Record)
    (t : Trace lk start es c (old ++ h)) (first : List ℕ) (p : ℕ) (reads : List (ℕ × ℕ))
    (f : Fits first p reads old h c) where
  still : (x : Event) → CanPlay lawful lk x c → (j : ℕ) (o : Client) (a y : ℕ) → At (played lk x c).clients j o
      → o.attempt.phase ≡ running → 0 < o.attempt.wv → o.attempt.ticked_at < p → In (a, y) reads
      → writes_to o.attempt.writes a ≡ false
  still x may j o a y at run above less i = ⊎_elim
      (λ q. subst (λ ws. writes_to ws a ≡ false) q.1.4
      (f.unwritten j q.0 a y q.1.0 q.1.1 q.1.2 (let e = q.1.3 in omega (arith, e, less)) i))
      (λ q. absurd (let l = f.past in omega (arith, q, less, l)))
      (writing_before lawful lk start es c (old ++ h) t x may j o at run above)

  -- a record that a step decides
  spares : (k : ℕ) (e : Action) → CanPlay lawful lk (acts k e) c → (r : Record) → In r (made lk (acts k e) c)
      → (r.writer ≡ false → r.writes ≡ []) → (a x : ℕ) → In (a, x) reads → Spares r p a
  spares k e may r m reader a x i = λ less d. by_bool r.writer
      (λ w. ⊎_elim
      (λ q. over_none r.writes a d (subst (λ ws. writes_to ws a ≡ false) q.3
      (f.unwritten (k - 1) (client_of c k) a x may.0.1 q.0 q.1
      (let s = q.2 in let l : r.point < p = grind (arith, nat_tests) in omega (arith, s, l)) i)))
      (λ q. absurd (let s = f.past in let l : r.point < p = grind (arith, nat_tests) in omega (arith, s, l, q)))
      (decided_since lawful lk start es c (old ++ h) t k e may r m w))
      (λ w. ap (λ ws. value_over d ws a) (reader w))

  filed_same : (rs : List Record) → (rs ≡ []) ⊎ ((r : Record) × (rs ≡ r ∷ [])) → (a : ℕ)
      → ((r : Record) → In r rs → In r (filed rs h) → Spares r p a) → (d : ℕ)
      → over_all d (before_place p (old ++ filed rs h)) a ≡ over_all d (before_place p (old ++ h)) a
  filed_same rs (inl e) a s d =
      subst (λ l. over_all d (before_place p (old ++ filed l h)) a ≡ over_all d (before_place p (old ++ h)) a) (sym e)
      refl
  filed_same rs (inr q) a s d =
      let spare : Spares q.0 p a = s q.0 (subst (λ l. In q.0 l) (sym q.1) (0, refl))
      (subst (λ l. In q.0 (filed l h)) (sym q.1) (placed_in q.0 h)) in
      subst (λ l. over_all d (before_place p (old ++ filed l h)) a ≡ over_all d (before_place p (old ++ h)) a) (sym q.1)
      (parted p old (placed q.0 h) d a
      ∙ (placed_same q.0 p a spare h (over_all d (before_place p old) a) ∙ sym (parted p old h d a)))

  pub fits_on : (x : Event) → CanPlay lawful lk x c
      → Beside lawful lk (earlier_after x old h) (history_after lk x c h) (played lk x c)
      → Fits first p reads (earlier_after x old h) (history_after lk x c h) (played lk x c)
  fits_on (acts k e) may b = record {
    agrees = λ a x i. (
      (f.agrees a x i).0,
      filed_same (made lk (acts k e) c) (at_most_one lawful lk start es c (old ++ h) t k e may) a
          (λ r m n. spares k e may r m (λ w. reader_writes lawful lk old (history_after lk (acts k e) c h)
          (played lk (acts k e) c) b r n w) a x i) (slice_index first a) ∙ (f.agrees a x i).1,
    );
    unwritten = still (acts k e) may;
    past = let l = f.past in let n : (played lk (acts k e) c).events ≡ c.events + 1 = refl in omega (arith, l, n);
  }
  fits_on (splits k) may b = record {
    agrees = f.agrees;
    unwritten = still (splits k) may;
    past = let l = f.past in let n : (played lk (splits k) c).events ≡ c.events + 1 = refl in omega (arith, l, n);
  }
  fits_on (gathers k j) may b = record {
    agrees = f.agrees;
    unwritten = still (gathers k j) may;
    past = let l = f.past in let n : (played lk (gathers k j) c).events ≡ c.events + 1 = refl in omega (arith, l, n);
  }
  fits_on (renews k last) may b = record {
    agrees = λ a x i. (
      (f.agrees a x i).0,
      ap (λ l. over_all (slice_index first a) (before_place p l) a) (append-nil (old ++ h)) ∙ (f.agrees a x i).1,
    );
    unwritten = still (renews k last) may;
    past = let l = f.past in let n : (played lk (renews k last) c).events ≡ c.events + 1 = refl in omega (arith, l, n);
  }

-- the image of a version is what the records before a position leave, if these are the records of
-- at most the version
image_before : (v p : ℕ) (rs : List Record)
    → ((r : Record) → In r rs → (leb r.version v ≡ ltb r.point p) ⊎ (r.writes ≡ [])) → (m : List ℕ) (a : ℕ)
    → a < length m → slice_index (image_at m v rs) a ≡ over_all (slice_index m a) (before_place p rs) a
image_before v p [] f m a l = refl
image_before v p (r ∷ rs) f m a l =
    go (leb r.version v) (ltb r.point p) (f r (0, refl)) (λ k s. image_before v p rs (λ x i. f x (suc i.0, i.1)) k a s)
  where
    inside : a < length (laid m r.writes)
    inside = rw (laid_length m r.writes) l

    go : (b b' : Bool) → (b ≡ b') ⊎ (r.writes ≡ [])
        → ((k : List ℕ) → a < length k → slice_index (image_at k v rs) a ≡ over_all (slice_index k a)
        (before_place p rs) a)
        → slice_index (image_at (cond b (laid m r.writes) m) v rs) a
        ≡ over_all (slice_index m a) (cond b' (r ∷ before_place p rs) (before_place p rs)) a
    go true true s rest = rest (laid m r.writes) inside ∙ ap (λ d. over_all d (before_place p rs) a)
        (laid_value m r.writes a l)
    go false false s rest = rest m l
    go true false s rest = ⊎_elim (λ e. absurd (let k : true ≡ false = e in cc))
        (λ e. rest (laid m r.writes) inside
        ∙ ap (λ d. over_all d (before_place p rs) a) (laid_value m r.writes a l ∙
        ap (λ ws. value_over (slice_index m a) ws a) e)) s
    go false true s rest = ⊎_elim (λ e. absurd (let k : false ≡ true = e in cc))
        (λ e. rest m l ∙ sym (ap (λ d. over_all d (before_place p rs) a)
        (ap (λ ws. value_over (slice_index m a) ws a) e))) s

-- the reads fit while the attempt may read on
module _ (lawful : RecordLaw) (lk : ℕ → ℕ) (c : Core) (old h : List Record) (b : Beside lawful lk old h c) (i : ℕ)
    (v : Client) (at : At c.clients i v) (live : IsLive v) where
  at_now : (j : ℕ) (o : Client) → At c.clients j o → At (now c).clients j (shed c.renewal o)
  at_now j o e = at_map (shed c.renewal) c.clients j o e

  born : (v.attempt.began_at < c.events) × (b.dated.time v.attempt.began_at ≡ v.attempt.rv)
      × (b.dated.time (suc v.attempt.began_at) ≡ v.attempt.rv)
  born = (b.dated.each i (shed c.renewal v) (at_now i v at)).reading live

  by_version : (r : Record) → In r h → (leb r.version v.attempt.rv ≡ ltb r.point v.attempt.began_at) ⊎ (r.writes ≡ [])
  by_version r m = by_bool r.writer
      (λ z. inl (let s = (b.dated.stamped r m).writer z in by_bool (ltb r.point v.attempt.began_at)
      (λ e. (let less : suc r.point ≤ v.attempt.began_at = grind (arith, nat_tests) in
      let g = b.dated.grows (suc r.point) v.attempt.began_at less in
      let l : r.version ≤ v.attempt.rv = (let s1 = s.1 in let b1 = born.1 in omega (arith, g, s1, b1)) in
      let y : leb r.version v.attempt.rv ≡ true = grind (arith, nat_tests) in y ∙ sym e))
      (λ e. (let n = b.dated.unused i (shed c.renewal v) v.attempt.began_at r (at_now i v at) (inl (live, refl)) m in
      let less : suc v.attempt.began_at ≤ r.point = grind (arith, nat_tests) in
      let g = b.dated.grows (suc v.attempt.began_at) r.point less in
      let l : v.attempt.rv < r.version = (let s0 = s.0 in let b2 = born.2 in omega (arith, g, s0, b2)) in
      let y : leb r.version v.attempt.rv ≡ false = grind (arith, nat_tests) in y ∙ sym e))))
      (λ z. inr (reader_writes lawful lk old h c b r m z))

  agreeing : (a x : ℕ) → In (a, x) v.attempt.reads
      → (a < length c.first) × (over_all (slice_index c.first a) (before_place v.attempt.began_at (old ++ h)) a ≡ x)
  agreeing a x m =
      let d = b.dated in
      let k = b.rule.inv in
      let ranked = ranked_by old c.clock c.events (now c).clients h d h d.ascending (λ r n. n) in
      let g = ahead_by lawful lk (now c) k h ranked (λ r n. d.only r n) (λ j o r e n. d.every j o r e n) in
      let q = agrees_by lawful lk (now c) k h g i (shed c.renewal v) (at_now i v at) a x m in
      let leads : image_after c.first old ≡ c.opening = b.earlier.leads in
      let long = image_length c.opening k.story h c.opening v.attempt.rv in
      let inside : a < length c.opening = (let l = q.0 in omega (arith, l, long)) in
      let size : length c.opening ≡ length c.first = ap (λ (y : List ℕ). length y) (sym leads) ∙
      image_long old c.first in
      let there : a < length c.first = omega (arith, inside, size) in
      let all_old : before_place v.attempt.began_at old ≡ old = before_all v.attempt.began_at old
      (λ r n. d.old_marked i (shed c.renewal v) v.attempt.began_at r (at_now i v at) (inl (live, refl)) n) in
      let opening : over_all (slice_index c.first a) old a ≡ slice_index c.opening a =
      sym (image_value old c.first a there) ∙ ap (λ (y : List ℕ). slice_index y a) leads in (
        there,
        parted v.attempt.began_at old h (slice_index c.first a) a
            ∙ (ap (λ l. over_all (over_all (slice_index c.first a) l a) (before_place v.attempt.began_at h) a) all_old
            ∙ (ap (λ e. over_all e (before_place v.attempt.began_at h) a) opening
            ∙ (sym (image_before v.attempt.rv v.attempt.began_at h by_version c.opening a inside) ∙ q.1))),
      )

  not_writing : (j : ℕ) (o : Client) (a x : ℕ) → At c.clients j o → o.attempt.phase ≡ running → 0 < o.attempt.wv
      → o.attempt.ticked_at < v.attempt.began_at → In (a, x) v.attempt.reads → writes_to o.attempt.writes a ≡ false
  not_writing j o a x e run above less m =
      let d = b.dated in
      let open' : IsOpen (shed c.renewal o) = (above, ap is_committed run) in
      let s = (d.each j (shed c.renewal o) (at_now j o e)).ticking open' in
      let g = d.grows (suc o.attempt.ticked_at) v.attempt.began_at less in
      let low : o.attempt.wv ≤ v.attempt.rv = (let s2 = s.2 in let b1 = born.1 in omega (arith, g, s2, b1)) in
      b.rule.inv.version.apart i j (shed c.renewal v) (shed c.renewal o) v.attempt.rv a x (at_now i v at) (at_now j o e)
      (runs refl m) open' low

  pub fits_now : Fits c.first v.attempt.began_at v.attempt.reads old h c
  fits_now = record { agrees = agreeing; unwritten = not_writing; past = let l = born.0 in omega (arith, l) }

-- the histories after more events
abbrev ends : (ℕ → ℕ) → Core → List Event → List Record → List Record → List Record × List Record
ends lk c [] old h = (old, h)
ends lk c (e ∷ es) old h = ends lk (played lk e c) es (earlier_after e old h) (history_after lk e c h)

module _ (lawful : RecordLaw) (lk : ℕ → ℕ) (start : Core) where
  through : (es before : List Event) (c d : Core) (old h : List Record) → Beside lawful lk old h c
      → Trace lk start before c (old ++ h) → Leads lawful lk c es d
      → Beside lawful lk (ends lk c es old h).0 (ends lk c es old h).1 d
  through [] before c d old h b t l = subst (λ x. Beside lawful lk old h x) l b
  through (e ∷ es) before c d old h b t l =
      let may = can_play lawful lk e c l.0 in
      through es (before ++ e ∷ []) (played lk e c) d (earlier_after e old h) (history_after lk e c h)
      (event_beside lawful lk c e old h b may) (event_traced lawful lk start before c e old h t may) l.1

  fits_through : (first : List ℕ) (p : ℕ) (reads : List (ℕ × ℕ)) (es before : List Event) (c d : Core)
      (old h : List Record) → Beside lawful lk old h c → Trace lk start before c (old ++ h) → Leads lawful lk c es d
      → Fits first p reads old h c → Fits first p reads (ends lk c es old h).0 (ends lk c es old h).1 d
  fits_through first p reads [] before c d old h b t l f = subst (λ x. Fits first p reads old h x) l f
  fits_through first p reads (e ∷ es) before c d old h b t l f =
      let may = can_play lawful lk e c l.0 in
      let next = event_beside lawful lk c e old h b may in
      fits_through first p reads es (before ++ e ∷ []) (played lk e c) d (earlier_after e old h)
      (history_after lk e c h)
      next (event_traced lawful lk start before c e old h t may) l.1
      (fits_on lawful lk start before c old h t first p reads f e may next)

  step_through : (es before : List Event) (k a n : ℕ) (e : Action) → IsStepOf before k a n e
      → IsStepOf (before ++ es) k a n e
  step_through [] before k a n e s = subst (λ l. IsStepOf l k a n e) (sym (append-nil before)) s
  step_through (x ∷ es) before k a n e s =
      subst (λ l. IsStepOf l k a n e) (append_assoc before (x ∷ []) es)
      (step_through es (before ++ x ∷ []) k a n e (step_stays before x k a n e s))

  -- an attempt that may read on at some moment of the events to come
  abbrev Placed : List Event → List Event → Core → List Record → List Record → Core → ℕ → Client → Type 0
  Placed before es c old h d i v =
      IsStepOf (before ++ es) (suc i) v.attempt.number v.attempt.began_at begin
      × Fits start.first v.attempt.began_at v.attempt.reads (ends lk c es old h).0 (ends lk c es old h).1 d

  placed_now : (es before : List Event) (c d : Core) (old h : List Record) → Beside lawful lk old h c
      → Trace lk start before c (old ++ h) → Leads lawful lk c es d → c.first ≡ start.first → (i : ℕ) (v : Client)
      → At c.clients i v → IsLive v → Placed before es c old h d i v
  placed_now es before c d old h b t l same i v at live = (
    step_through es before (suc i) v.attempt.number v.attempt.began_at begin (t.runs i v at live.0).0,
    fits_through start.first v.attempt.began_at v.attempt.reads es before c d old h b t l
        (subst (λ m. Fits m v.attempt.began_at v.attempt.reads old h c) same
        (fits_now lawful lk c old h b i v at live)),
  )

  placed_then : (n : ℕ) (es before : List Event) (c d : Core) (old h : List Record) → Beside lawful lk old h c
      → Trace lk start before c (old ++ h) → Leads lawful lk c es d → c.first ≡ start.first → (i : ℕ) (v : Client)
      → At (core_at lk c es n).clients i v → IsLive v → Placed before es c old h d i v
  placed_then zero es before c d old h b t l same i v at live = placed_now es before c d old h b t l same i v at live
  placed_then (suc n) [] before c d old h b t l same i v at live =
      placed_now [] before c d old h b t l same i v at live
  placed_then (suc n) (e ∷ es) before c d old h b t l same i v at live =
      let may = can_play lawful lk e c l.0 in
      let q = placed_then n es (before ++ e ∷ []) (played lk e c) d (earlier_after e old h) (history_after lk e c h)
      (event_beside lawful lk c e old h b may) (event_traced lawful lk start before c e old h t may) l.1
      (first_stays lawful lk e c ∙ same) i v at live in (
        subst (λ l. IsStepOf l (suc i) v.attempt.number v.attempt.began_at begin) (append_assoc before (e ∷ []) es) q.0,
        q.1,
      )

pub every_list_is_opaque : (lawful : RecordLaw) → EveryListIsOpaque lawful
every_list_is_opaque lawful image last stripes es c leads =
    let lk = stripe_of stripes in
    let start = opened image last stripes in
    let s = every_list_is_serializable lawful image last stripes es c leads in
    let opens = opening_beside lawful lk image last stripes in
    let trace = opening_trace lk image last stripes in
    let last_one = through lawful lk start es [] start c [] [] opens trace leads in
    let two = ends lk start es [] [] in
    let same = one_history c (two.0 ++ two.1) (s.earlier ++ s.present) (is_history lawful lk c two.0 two.1 last_one)
    s.is_history in record {
      committed = s.earlier ++ s.present;
      is_history = s.is_history;
      is_listed = s.is_listed;
      serial = s.serial;
      all = λ n i v at live.
          let q = placed_then lawful lk start n es [] start c [] [] opens trace leads refl i v at live in record {
            begun = q.0;
            reads = λ a x m.
                let f = q.1.agrees a x m in
                let rs = before_place v.attempt.began_at (s.earlier ++ s.present) in (
                  (let long = image_long rs image in let l = f.0 in omega (arith, long, l)),
                  image_value rs image a f.0
                      ∙ (sym (ap (λ l. over_all (slice_index image a) (before_place v.attempt.began_at l) a) same) ∙
                      f.1),
                );
            behind = λ r m ended. by_bool r.writer
                (λ w. let y = (s.is_listed.each r m).writer w in ended r.point _ y.1)
                (λ w. ended r.point begin ((s.is_listed.each r m).reader w).0);
            ahead = λ r n' m ended began.
                let first = ended v.attempt.began_at begin q.0 in
                let low : n' ≤ r.point = by_bool r.writer
                (λ w. let y = (s.is_listed.each r m).writer w in
                begin_first r.client es r.attempt n' r.point _ began y.1)
                (λ w. begin_first r.client es r.attempt n' r.point begin began ((s.is_listed.each r m).reader w).0) in
                omega (arith, first, low);
          };
    }
