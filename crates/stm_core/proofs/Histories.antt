-- Records that agree with the story and are in order are serial, and the images are those of the
-- story.
use Rattle.std.proofs.Common.{◌≡◌, ◌≢◌, ℕ, suc, ◌+◌, ◌-◌, ◌*◌, ◌≤◌, ◌<◌, ⊎_elim, Bool, true, false, cond, eqb, leb}
use Rattle.std.proofs.Common.{List, [], ◌∷◌, length, set, slice_index, slice_set, length-set, get_or-set_same}
use Rattle.std.proofs.Common.{get_or-set_other, refl, sym, ap, ◌∙◌, subst, arith}
use mathlib.Core.Option.{some}
use lib.ListN.{get_elem?}
use Rattle.std.proofs.lemmas.Bool.Decides.{nat_tests}
use Rattle.tx_memory.specs.Image.{In, Agrees, laid}
use Rattle.stm_core.specs.Client.{Record, rank, base, RecordLaw}
use Rattle.stm_core.specs.Records.{value_over, value_of, wrote_in}
use Rattle.stm_core.specs.History.{Serial, image_after, image_at}
use Rattle.stm_core.proofs.Lists.{by_bool, clash, nothing_in, not_true}
use Rattle.stm_core.proofs.Orders.{in_cons}
use Rattle.stm_core.proofs.Stories.{steady, value_next, wrote_by}

over_one : (m : List ℕ) (k v a : ℕ) → a < length m → (b : Bool) → eqb k a ≡ b →
    slice_index (slice_set m k v) a ≡ cond b v (slice_index m a)
over_one m k v a h true e = let same : k ≡ a = grind (arith, nat_tests) in rw same (get_or-set_same m a v 0 h)
over_one m k v a h false e = let other : a ≢ k = grind (arith, nat_tests) in get_or-set_other m k a v 0 other

pub laid_value : (m : List ℕ) (w : List (ℕ × ℕ)) (a : ℕ) → a < length m →
    slice_index (laid m w) a ≡ value_over (slice_index m a) w a
laid_value m [] a h = refl
laid_value m (p ∷ ps) a h = laid_value (set m p.0 p.1) ps a (rw length-set h) ∙ ap (λ d. value_over d ps a)
    (over_one m p.0 p.1 a h (eqb p.0 a) refl)

pub laid_length : (m : List ℕ) (w : List (ℕ × ℕ)) → length (laid m w) ≡ length m
laid_length m [] = refl
laid_length m (p ∷ ps) = laid_length (set m p.0 p.1) ps ∙ length-set m p.0 p.1

-- one record beside the story of an image
pub record IsInStory (image : List ℕ) (story : List (List (ℕ × ℕ))) (r : Record) : Type 0 where
  pub reads : (a x : ℕ) → In (a, x) r.reads → (a < length image) × (value_of image story (base r) a ≡ x)
  pub writer : r.writer ≡ true → (0 < r.version) × (get_elem? story (r.version - 1) ≡ some r.writes)
  pub reader : r.writer ≡ false → r.writes ≡ []

-- the records are ranked by version, the one writer of a version before its readers
abbrev pub Ranked : List Record → Type 0
Ranked [] = Unit {0}
Ranked (x ∷ xs) = ((r : Record) → In r xs → (rank x ≤ rank r) × (x.writer ≡ true → r.writer ≡ true →
    x.version ≢ r.version)) × Ranked xs

-- the records still to come, if the image is that of version n
pub record Ahead (image : List ℕ) (story : List (List (ℕ × ℕ))) (rs : List Record) (m : List ℕ) (n : ℕ) : Type 0 where
  pub size : length m ≡ length image
  pub now : (a : ℕ) → a < length image → slice_index m a ≡ value_of image story n a
  pub each : (r : Record) → In r rs → IsInStory image story r
  pub ranked : Ranked rs
  pub complete : (u : ℕ) (ws : List (ℕ × ℕ)) → get_elem? story u ≡ some ws → ws ≢ [] → n ≤ u →
      (r : Record) × In r rs × (r.writer ≡ true) × (r.version ≡ suc u)
  pub above : (r : Record) → In r rs → (n ≤ r.version) × (r.writer ≡ true → n < r.version)

pub rank_writer : (r : Record) → r.writer ≡ true → rank r ≡ 2 * r.version
rank_writer r e = rw e (omega arith)

pub rank_reader : (r : Record) → r.writer ≡ false → rank r ≡ 2 * r.version + 1
rank_reader r e = rw e refl

module _ (image : List ℕ) (story : List (List (ℕ × ℕ))) where
  -- from version n up to one below every writer to come, the value does not change
  gap : (rs : List Record) (m : List ℕ) (n d a : ℕ) → Ahead image story rs m n → n ≤ d →
      ((r : Record) → In r rs → r.writer ≡ true → d < r.version) → value_of image story n a ≡ value_of image story d a
  gap rs m n d a h l f = steady story (slice_index image a) a n d l (λ u p q. not_true (wrote_in story u a) (λ t.
      let w = wrote_by story u a t in
      let r = h.complete w.0 w.1 w.3 (λ e. clash w.4 (rw e refl)) (let e = w.2 in omega arith) in
      let z = f r.0 r.1 r.2 in (let e = w.2 in let e' = r.3 in omega arith)))

  module _ (r : Record) (rs : List Record) (m : List ℕ) (n : ℕ) (h : Ahead image story (r ∷ rs) m n) where
    me : IsInStory image story r
    me = h.each r (0, refl)

    later : (x : Record) → In x rs → (rank r ≤ rank x) × (r.writer ≡ true → x.writer ≡ true → r.version ≢ x.version)
    later x i = h.ranked.0 x i

    rest : Ranked rs
    rest = h.ranked.1

    -- the image just before the record is that of the version with which the record's reads agree
    just_before : (a : ℕ) → a < length image → slice_index m a ≡ value_of image story (base r) a
    just_before a l = h.now a l ∙ by_bool r.writer
        (λ t. rw t (gap (r ∷ rs) m n (r.version - 1) a h (let p = (h.above r (0, refl)).1 t in
        omega arith) (λ x i w. ⊎_elim (λ e. subst (λ (z : Record). r.version - 1 < z.version) e (let p =
        (h.above r (0, refl)).1 t in omega arith))
        (λ j. let p = (later x j).0 in let q = (h.above r (0, refl)).1 t in let a' = rank_writer r t in let b' =
        rank_writer x w in omega arith) (in_cons r x rs i))))
        (λ t. rw t (gap (r ∷ rs) m n r.version a h (h.above r (0, refl)).0
        (λ x i w. ⊎_elim (λ e. clash w (subst (λ (z : Record). z.writer ≡ false) e t))
        (λ j. let p = (later x j).0 in let a' = rank_reader r t in let b' = rank_writer x w in
        omega arith) (in_cons r x rs i))))

    pub agreeing : Agrees m r.reads
    agreeing a x i = let q = me.reads a x i in (rw h.size q.0, just_before a q.0 ∙ q.1)

    -- the image just after the record is that of the record's version
    just_after : (a : ℕ) → a < length image → slice_index (laid m r.writes) a ≡ value_of image story r.version a
    just_after a l = by_bool r.writer
        (λ t. let w = me.writer t in
        let b : slice_index m a ≡ value_of image story (r.version - 1) a =
        just_before a l ∙ ap (λ c. value_of image story (cond c (r.version - 1) r.version) a) t in
        let s : suc (r.version - 1) ≡ r.version = (let z = w.0 in omega arith) in
        laid_value m r.writes a (rw h.size l) ∙ (ap (λ d. value_over d r.writes a) b ∙
        (sym (value_next story (r.version - 1) r.writes (slice_index image a) a w.1) ∙
        ap (λ k. value_of image story k a) s)))
        (λ t. let e = me.reader t in rw e (just_before a l ∙
        ap (λ c. value_of image story (cond c (r.version - 1) r.version) a) t))

    pub advance : Ahead image story rs (laid m r.writes) r.version
    advance = record {
      size = laid_length m r.writes ∙ h.size;
      now = just_after;
      each = λ x i. h.each x (suc i.0, i.1);
      ranked = rest;
      complete = λ u ws e k l.
          let q = h.complete u ws e k (let p = (h.above r (0, refl)).0 in omega arith) in
          ⊎_elim (λ z. absurd (let s : r.version ≡ q.0.version = ap (λ (y : Record). y.version) z in let t = q.3 in
          omega arith)) (λ i. (q.0, i, q.2, q.3)) (in_cons r q.0 rs q.1);
      above = λ x i. (
        by_bool r.writer (λ t. let p = (later x i).0 in by_bool x.writer (λ w. let a' = rank_writer r t in let b' =
            rank_writer x w in omega arith) (λ w. let a' = rank_writer r t in let b' = rank_reader x w in omega arith))
            (λ t. let p = (later x i).0 in by_bool x.writer (λ w. let a' = rank_reader r t in let b' =
            rank_writer x w in omega arith) (λ w. let a' = rank_reader r t in let b' = rank_reader x w in
            omega arith)),
        λ w. by_bool r.writer (λ t. let p = later x i in let n' = p.1 t w in let a' = rank_writer r t in let b' =
            rank_writer x w in omega (arith, p.0)) (λ t. let p = (later x i).0 in let a' = rank_reader r t in let b' =
            rank_writer x w in omega arith),
      );
    }

  pub serial : (rs : List Record) (m : List ℕ) (n : ℕ) → Ahead image story rs m n → Serial m rs
  serial [] m n h = tt
  serial (r ∷ rs) m n h = (agreeing r rs m n h, serial rs (laid m r.writes) r.version (advance r rs m n h))

  skips : (rs : List Record) (m : List ℕ) (v : ℕ) → ((r : Record) → In r rs → v < r.version) → image_at m v rs ≡ m
  skips [] m v f = refl
  skips (r ∷ rs) m v f = let l : leb r.version v ≡ false = (let p = f r (0, refl) in grind (arith, nat_tests)) in
      rw l (skips rs m v (λ x i. f x (suc i.0, i.1)))

  above_too : (r : Record) (rs : List Record) (m : List ℕ) (n v : ℕ) → Ahead image story (r ∷ rs) m n →
      leb r.version v ≡ false → (x : Record) → In x (r ∷ rs) → v < x.version
  above_too r rs m n v h e x i = ⊎_elim (λ z. subst (λ (y : Record). v < y.version) z (grind (arith, nat_tests)))
      (λ j. let p = ((advance r rs m n h).above x j).0 in let q : v < r.version = grind (arith, nat_tests) in
      omega arith) (in_cons r x rs i)

  -- the image of a version from n on is the story's
  pub image_is : (rs : List Record) (m : List ℕ) (n v a : ℕ) → Ahead image story rs m n → n ≤ v → a < length image →
      slice_index (image_at m v rs) a ≡ value_of image story v a
  image_is [] m n v a h l i = h.now a i ∙ gap [] m n v a h l (λ r j. absurd (nothing_in r j))
  image_is (r ∷ rs) m n v a h l i = go (leb r.version v) refl
      (λ e. image_is rs (laid m r.writes) r.version v a (advance r rs m n h) e i)
    where
      go : (b : Bool) → leb r.version v ≡ b → (r.version ≤ v →
          slice_index (image_at (laid m r.writes) v rs) a ≡ value_of image story v a) →
          slice_index (image_at (cond (leb r.version v) (laid m r.writes) m) v rs) a ≡ value_of image story v a
      go true e f = rw e (f (grind (arith, nat_tests)))
      go false e f =
          let up = above_too r rs m n v h e in
          rw (e, skips rs m v (λ x j. up x (suc j.0, j.1))) (h.now a i ∙ gap (r ∷ rs) m n v a h l (λ x j w. up x j))

  pub image_length : (rs : List Record) (m : List ℕ) (v : ℕ) → length (image_at m v rs) ≡ length m
  image_length [] m v = refl
  image_length (r ∷ rs) m v = go (leb r.version v) (λ k. image_length rs k v)
    where
      go : (b : Bool) → ((k : List ℕ) → length (image_at k v rs) ≡ length k) →
          length (image_at (cond b (laid m r.writes) m) v rs) ≡ length m
      go true f = f (laid m r.writes) ∙ laid_length m r.writes
      go false f = f m

  -- the image of a version that no record is above is the image after all records
  pub image_last : (rs : List Record) (m : List ℕ) (v : ℕ) → ((r : Record) → In r rs → r.version ≤ v) →
      image_at m v rs ≡ image_after m rs
  image_last [] m v f = refl
  image_last (r ∷ rs) m v f = let l : leb r.version v ≡ true = (let p = f r (0, refl) in grind (arith, nat_tests)) in
      rw l (image_last rs (laid m r.writes) v (λ x i. f x (suc i.0, i.1)))

  -- under a law each image of a version fits
  pub image_fits : (fits : List ℕ → Type 0) (lawful : RecordLaw) →
      ((tag m : List ℕ) (reads writes : List (ℕ × ℕ)) → fits m → Agrees m reads → lawful tag reads writes →
      fits (laid m writes))
      → (rs : List Record) (m : List ℕ) (n v : ℕ) → Ahead image story rs m n →
      ((r : Record) → In r rs → lawful r.tag r.reads r.writes) → fits m → fits (image_at m v rs)
  image_fits fits lawful law [] m n v h f k = k
  image_fits fits lawful law (r ∷ rs) m n v h f k = go (leb r.version v) refl
      (λ q. image_fits fits lawful law rs (laid m r.writes) r.version v (advance r rs m n h)
      (λ x i. f x (suc i.0, i.1)) q)
    where
      go : (b : Bool) → leb r.version v ≡ b → (fits (laid m r.writes) → fits (image_at (laid m r.writes) v rs)) →
          fits (image_at (cond (leb r.version v) (laid m r.writes) m) v rs)
      go true e g = rw e (g (law r.tag m r.reads r.writes k (agreeing r rs m n h) (f r (0, refl))))
      go false e g = let up = above_too r rs m n v h e in rw (e, skips rs m v (λ x j. up x (suc j.0, j.1))) k
