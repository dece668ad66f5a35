-- Ordered lists of records: their members, and that they stay ordered.
use Rattle.std.proofs.Common.{◌≡◌, ◌≢◌, ℕ, suc, ◌<◌, ◌≤◌, ◌⊎◌, inl, inr, ⊎_elim, Bool, true, false, cond, eqb, ltb}
use Rattle.std.proofs.Common.{◌||◌, ◌&&◌, List, [], ◌∷◌, refl, sym, subst, arith}
use Rattle.std.proofs.lemmas.Bool.Decides.{nat_tests}
use Rattle.tx_memory.specs.Image.{In}
use Rattle.stm_core.specs.Client.{Record, before, rank, inserted, merged}
use Rattle.stm_core.specs.Records.{MayFollow, Ordered}
pub use Rattle.stm_core.specs.Merging.{in_cons, in_inserted, in_merged, inserted_in, inserted_old, merged_left}
pub use Rattle.stm_core.specs.Merging.{merged_right}
use Rattle.stm_core.proofs.Lists.{nothing_in, not_true, clash, by_bool}

-- the order of places is strict
before_is : (a b c d e f : ℕ) → (ltb a d || (eqb a d && (ltb b e || (eqb b e && ltb c f)))) ≡ true →
    (a < d) ⊎ ((a ≡ d) × ((b < e) ⊎ ((b ≡ e) × (c < f))))
before_is a b c d e f h = grind (arith, nat_tests)

is_before : (a b c d e f : ℕ) → (a < d) ⊎ ((a ≡ d) × ((b < e) ⊎ ((b ≡ e) × (c < f)))) →
    (ltb a d || (eqb a d && (ltb b e || (eqb b e && ltb c f)))) ≡ true
is_before a b c d e f h = grind (arith, nat_tests)

Place : Record → Record → Type 0
Place r x = (r.renewal < x.renewal) ⊎ ((r.renewal ≡ x.renewal) ×
    ((rank r < rank x) ⊎ ((rank r ≡ rank x) × (r.point < x.point))))

place_of : (r x : Record) → before r x ≡ true → Place r x
unfolding Place
place_of r x h = before_is r.renewal (rank r) r.point x.renewal (rank x) x.point h

of_place : (r x : Record) → Place r x → before r x ≡ true
unfolding Place
of_place r x h = is_before r.renewal (rank r) r.point x.renewal (rank x) x.point h

pub before_asym : (r x : Record) → before r x ≡ true → before x r ≡ false
unfolding Place
before_asym r x h = not_true (before x r) (λ k. let p = place_of r x h in let q = place_of x r k in
    go r.renewal (rank r) r.point x.renewal (rank x) x.point p q)
  where
    go : (a b c d e f : ℕ) → (a < d) ⊎ ((a ≡ d) × ((b < e) ⊎ ((b ≡ e) × (c < f)))) →
        (d < a) ⊎ ((d ≡ a) × ((e < b) ⊎ ((e ≡ b) × (f < c)))) → ⊥
    go a b c d e f p q = grind arith

pub before_trans : (r x y : Record) → before r x ≡ true → before x y ≡ true → before r y ≡ true
unfolding Place
before_trans r x y h k = of_place r y (go r.renewal (rank r) r.point x.renewal (rank x) x.point y.renewal
    (rank y) y.point (place_of r x h) (place_of x y k))
  where
    go : (a b c d e f g h i : ℕ) → (a < d) ⊎ ((a ≡ d) × ((b < e) ⊎ ((b ≡ e) × (c < f)))) →
        (d < g) ⊎ ((d ≡ g) × ((e < h) ⊎ ((e ≡ h) × (f < i)))) → (a < g) ⊎ ((a ≡ g) × ((b < h) ⊎ ((b ≡ h) × (c < i))))
    go a b c d e f g h i p q = ⊎_elim (λ l. ⊎_elim (λ m. inl (omega arith)) (λ m. inl (omega arith)) q)
        (λ l. ⊎_elim (λ m. inl (omega arith)) (λ m. inr (
          omega arith,
          ⊎_elim (λ u. ⊎_elim (λ w. inl (omega arith)) (λ w. inl (omega arith)) m.1)
              (λ u. ⊎_elim (λ w. inl (omega arith)) (λ w. inr (omega arith, omega arith)) m.1) l.1,
        )) q) p

-- if r is before x and y is not before x, then y is not before r
pub behind : (r x y : Record) → before r x ≡ true → before y x ≡ false → before y r ≡ false
behind r x y h k = not_true (before y r) (λ m. clash (before_trans y r x m h) k)

-- a record that is not before another of its renewal has no smaller rank
pub rank_after : (r x : Record) → before r x ≡ false → r.renewal ≡ x.renewal → rank x ≤ rank r
rank_after r x h e = by_bool (ltb (rank r) (rank x)) (λ t. clash (of_place_rank r x e t) h)
    (λ f. grind (arith, nat_tests))
  where
    of_place_rank : (r x : Record) → r.renewal ≡ x.renewal → ltb (rank r) (rank x) ≡ true → before r x ≡ true
    of_place_rank r x e t = is_before r.renewal (rank r) r.point x.renewal (rank x) x.point
        (inr (e, inl (grind (arith, nat_tests))))

-- a record whose version no writer of the list has is inserted in order
pub inserted_ordered : (r : Record) (l : List Record) → Ordered l →
    ((x : Record) → In x l → x.writer ≡ true → r.writer ≡ true → x.version ≢ r.version) → Ordered (inserted r l)
inserted_ordered r [] o f = (λ y i. absurd (nothing_in y i), tt)
inserted_ordered r (x ∷ xs) o f = go (before r x) refl (inserted_ordered r xs o.1 (λ y i. f y (suc i.0, i.1)))
  where
    follow : before r x ≡ true → (y : Record) → In y (x ∷ xs) → MayFollow r y
    follow t y i = (
      ⊎_elim (λ e. subst (λ z. before z r ≡ false) e (before_asym r x t)) (λ j. behind r x y t (o.0 y j).0)
          (in_cons x y xs i),
      λ p q e. f y i q p (sym e),
    )

    go : (b : Bool) → before r x ≡ b → Ordered (inserted r xs) → Ordered (cond b (r ∷ x ∷ xs) (x ∷ inserted r xs))
    go true t k = (follow t, o)
    go false t k = (
      λ y i. ⊎_elim (λ e. subst (λ z. MayFollow x z) e (t, λ p q. f x (0, refl) p q)) (λ j. o.0 y j)
          (in_inserted r xs y i),
      k,
    )

pub merged_ordered : (l m : List Record) → Ordered l → Ordered m →
    ((x y : Record) → In x l → In y m → x.writer ≡ true → y.writer ≡ true → x.version ≢ y.version) →
    Ordered (merged l m)
merged_ordered l [] o p f = o
merged_ordered l (y ∷ m) o p f = merged_ordered (inserted y l) m (inserted_ordered y l o (λ x i. f x y i (0, refl))) p.1
    (λ x z i j. ⊎_elim (λ e. subst (λ (q : Record). q.writer ≡ true → z.writer ≡ true →
    q.version ≢ z.version) e (p.0 z j).1) (λ k. f x z k (suc j.0, j.1)) (in_inserted y l x i))

-- if r is before x and y is not before x, then r is before y
pub before_le : (r x y : Record) → before r x ≡ true → before y x ≡ false → before r y ≡ true
unfolding Place
before_le r x y h k = by_bool (before x y) (λ t. before_trans r x y h t)
    (λ f. of_place r y (go r.renewal (rank r) r.point x.renewal (rank x) x.point y.renewal (rank y) y.point
    (place_of r x h) (λ p. clash (of_place y x p) k) (λ p. clash (of_place x y p) f)))
  where
    go : (a b c d e f g h i : ℕ) → (a < d) ⊎ ((a ≡ d) × ((b < e) ⊎ ((b ≡ e) × (c < f)))) →
        ((g < d) ⊎ ((g ≡ d) × ((h < e) ⊎ ((h ≡ e) × (i < f)))) → ⊥) →
        ((d < g) ⊎ ((d ≡ g) × ((e < h) ⊎ ((e ≡ h) × (f < i)))) → ⊥)
        → (a < g) ⊎ ((a ≡ g) × ((b < h) ⊎ ((b ≡ h) × (c < i))))
    go a b c d e f g h i p q r =
        let s : d ≡ g = same d g (λ z. q (inl z)) (λ z. r (inl z)) in
        let t : e ≡ h = same e h (λ z. q (inr (sym s, inl z))) (λ z. r (inr (s, inl z))) in
        let u : f ≡ i = same f i (λ z. q (inr (sym s, inr (sym t, z)))) (λ z. r (inr (s, inr (t, z)))) in
        subst (λ z. (a < z) ⊎ ((a ≡ z) × ((b < h) ⊎ ((b ≡ h) × (c < i))))) s
        (subst (λ z. (a < d) ⊎ ((a ≡ d) × ((b < z) ⊎ ((b ≡ z) × (c < i))))) t
        (subst (λ z. (a < d) ⊎ ((a ≡ d) × ((b < e) ⊎ ((b ≡ e) × (c < z))))) u p))
      where
        same : (m n : ℕ) → (n < m → ⊥) → (m < n → ⊥) → m ≡ n
        same m n x y = grind arith
