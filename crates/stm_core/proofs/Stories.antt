-- The laws of the story, which lists the writes of each version's decided writer.
use Rattle.std.proofs.Common.{◌≡◌, ◌≢◌, ℕ, zero, suc, ◌≤◌, ◌<◌, Bool, true, false, not, cond, eqb, ◌||◌, ◌&&◌, List, []}
use Rattle.std.proofs.Common.{◌∷◌, ◌++◌, length, set, slice_index, refl, sym, ap, ◌∙◌, subst, arith, zero-le}
use mathlib.Core.Option.{some, some-injective, some-ne-none}
use lib.ListN.{get_elem?}
use Rattle.std.proofs.lemmas.Bool.Decides.{nat_tests}
use Rattle.stm_core.specs.Client.{writes_to}
use Rattle.stm_core.specs.Records.{value_over, value_in, value_of, wrote_in}
use Rattle.stm_core.proofs.Lists.{clash}
use Rattle.stm_core.proofs.Deciding.{Decides}
use Rattle.stm_core.specs.Guards.{is_map}

-- writes that do not name an address leave its value as it is
pub over_else : (w : List (ℕ × ℕ)) (d a : ℕ) → writes_to w a ≡ false → value_over d w a ≡ d
over_else [] d a e = refl
over_else (p ∷ ps) d a e = go (eqb p.0 a) refl (λ h. over_else ps d a h)
  where
    go : (b : Bool) → eqb p.0 a ≡ b → (writes_to ps a ≡ false → value_over d ps a ≡ d) →
        value_over (cond (eqb p.0 a) p.1 d) ps a ≡ d
    go true h k = clash refl (sym (ap (λ c. c || writes_to ps a) h) ∙ e)
    go false h k = rw h (k (sym (ap (λ c. c || writes_to ps a) h) ∙ e))

pub at_zero : (ws : List (List (ℕ × ℕ))) (d a : ℕ) → value_in ws d 0 a ≡ d
at_zero [] d a = refl
at_zero (w ∷ ws) d a = refl

next : (w : List (ℕ × ℕ)) (ws : List (List (ℕ × ℕ))) (u a : ℕ) → 0 < u → wrote_in (w ∷ ws) (suc u) a ≡ wrote_in ws u a
next w ws zero a h = absurd (omega arith)
next w ws (suc u) a h = refl

pub steady : (ws : List (List (ℕ × ℕ))) (d a v w : ℕ) → v ≤ w → ((u : ℕ) → v < u → u ≤ w → wrote_in ws u a ≡ false) →
    value_in ws d v a ≡ value_in ws d w a
steady [] d a v w l q = refl
steady (x ∷ xs) d a zero zero l q = refl
steady (x ∷ xs) d a zero (suc w) l q =
    let first : value_over d x a ≡ d = over_else x d a (q 1 (omega arith) (omega arith)) in
    rw first (sym (at_zero xs d a) ∙ steady xs d a 0 w zero-le
    (λ u p r. sym (next x xs u a p) ∙ q (suc u) (omega arith) (omega arith)))
steady (x ∷ xs) d a (suc v) zero l q = absurd (omega arith)
steady (x ∷ xs) d a (suc v) (suc w) l q = steady xs (value_over d x a) a v w (omega arith)
    (λ u p r. sym (next x xs u a (omega arith)) ∙ q (suc u) (omega arith) (omega arith))

others : (ws : List (List (ℕ × ℕ))) (n : ℕ) (w : List (ℕ × ℕ)) (u a : ℕ) → u ≢ suc n →
    wrote_in (set ws n w) u a ≡ wrote_in ws u a
others [] n w u a e = refl
others (x ∷ xs) n w zero a e = refl
others (x ∷ xs) zero w (suc zero) a e = absurd (e refl)
others (x ∷ xs) (suc n) w (suc zero) a e = refl
others (x ∷ xs) zero w (suc (suc u)) a e = refl
others (x ∷ xs) (suc n) w (suc (suc u)) a e = others xs n w (suc u) a (λ p. e (ap suc p))

own : (ws : List (List (ℕ × ℕ))) (n : ℕ) (w : List (ℕ × ℕ)) (a : ℕ) → n < length ws →
    wrote_in (set ws n w) (suc n) a ≡ writes_to w a
own [] n w a l = absurd (omega arith)
own (x ∷ xs) zero w a l = refl
own (x ∷ xs) (suc n) w a l = own xs n w a (omega arith)

before : (ws : List (List (ℕ × ℕ))) (n : ℕ) (w : List (ℕ × ℕ)) (d b a : ℕ) → b ≤ n →
    value_in (set ws n w) d b a ≡ value_in ws d b a
before [] n w d b a l = refl
before (x ∷ xs) zero w d zero a l = refl
before (x ∷ xs) zero w d (suc b) a l = absurd (omega arith)
before (x ∷ xs) (suc n) w d zero a l = refl
before (x ∷ xs) (suc n) w d (suc b) a l = before xs n w (value_over d x a) b a (omega arith)

beside : (ws : List (List (ℕ × ℕ))) (n : ℕ) (w : List (ℕ × ℕ)) (d b a : ℕ) → wrote_in ws (suc n) a ≡ false →
    writes_to w a ≡ false → value_in (set ws n w) d b a ≡ value_in ws d b a
beside [] n w d b a e f = refl
beside (x ∷ xs) zero w d zero a e f = refl
beside (x ∷ xs) zero w d (suc b) a e f = ap (λ z. value_in xs z b a) (over_else w d a f ∙ sym (over_else x d a e))
beside (x ∷ xs) (suc n) w d zero a e f = refl
beside (x ∷ xs) (suc n) w d (suc b) a e f = beside xs n w (value_over d x a) b a e f

pub is_written : (w : List (ℕ × ℕ)) (a x j : ℕ) → get_elem? w j ≡ some (a, x) → writes_to w a ≡ true
is_written [] a x j e = absurd (some-ne-none (a, x) (sym e))
is_written (p ∷ ps) a x zero e = let same : p.0 ≡ a = ap (λ (q : ℕ × ℕ). q.0) (some-injective p (a, x) e) in
    let hit : eqb p.0 a ≡ true = grind (arith, nat_tests) in ap (λ c. c || writes_to ps a) hit
is_written (p ∷ ps) a x (suc j) e = go (eqb p.0 a) (is_written ps a x j e)
  where
    go : (c : Bool) → writes_to ps a ≡ true → (c || writes_to ps a) ≡ true
    go true k = refl
    go false k = k

once : (p : ℕ × ℕ) (ps : List (ℕ × ℕ)) → is_map (p ∷ ps) ≡ true → (writes_to ps p.0 ≡ false) × (is_map ps ≡ true)
once p ps h = go (writes_to ps p.0) (is_map ps) h
  where
    go : (a b : Bool) → (not a && b) ≡ true → (a ≡ false) × (b ≡ true)
    go false b h = (refl, h)
    go true b h = clash h refl

-- the value of a pair, if no address occurs twice
pub over_pair : (w : List (ℕ × ℕ)) (d a x j : ℕ) → is_map w ≡ true → get_elem? w j ≡ some (a, x) → value_over d w a ≡ x
over_pair [] d a x j m e = absurd (some-ne-none (a, x) (sym e))
over_pair (p ∷ ps) d a x zero m e =
    let same : p.0 ≡ a = ap (λ (q : ℕ × ℕ). q.0) (some-injective p (a, x) e) in
    let value : p.1 ≡ x = ap (λ (q : ℕ × ℕ). q.1) (some-injective p (a, x) e) in
    let hit : eqb p.0 a ≡ true = grind (arith, nat_tests) in
    over_else ps (cond (eqb p.0 a) p.1 d) a (subst (λ y. writes_to ps y ≡ false) same (once p ps m).0) ∙
    (ap (λ b. cond b p.1 d) hit ∙ value)
over_pair (p ∷ ps) d a x (suc j) m e = over_pair ps (cond (eqb p.0 a) p.1 d) a x j (once p ps m).1 e

-- the image of a version is the image of the version before with the writes of the version applied
pub value_next : (ws : List (List (ℕ × ℕ))) (n : ℕ) (w : List (ℕ × ℕ)) (d a : ℕ) → get_elem? ws n ≡ some w →
    value_in ws d (suc n) a ≡ value_over (value_in ws d n a) w a
value_next [] n w d a e = absurd (some-ne-none w (sym e))
value_next (x ∷ xs) zero w d a e = at_zero xs (value_over d x a) a ∙ ap (λ y. value_over d y a) (some-injective x w e)
value_next (x ∷ xs) (suc n) w d a e = value_next xs n w (value_over d x a) a e

pub wrote_at : (ws : List (List (ℕ × ℕ))) (n : ℕ) (w : List (ℕ × ℕ)) (a : ℕ) → get_elem? ws n ≡ some w →
    wrote_in ws (suc n) a ≡ writes_to w a
wrote_at [] n w a e = absurd (some-ne-none w (sym e))
wrote_at (x ∷ xs) zero w a e = ap (λ y. writes_to y a) (some-injective x w e)
wrote_at (x ∷ xs) (suc n) w a e = wrote_at xs n w a e

-- a written address was written by the writer of some version
pub wrote_by : (ws : List (List (ℕ × ℕ))) (u a : ℕ) → wrote_in ws u a ≡ true →
    (n : ℕ) × (w : List (ℕ × ℕ)) × (u ≡ suc n) × (get_elem? ws n ≡ some w) × (writes_to w a ≡ true)
wrote_by ws zero a e = clash e refl
wrote_by [] (suc u) a e = clash e refl
wrote_by (w ∷ ws) (suc zero) a e = (0, w, refl, refl, e)
wrote_by (w ∷ ws) (suc (suc u)) a e = let q = wrote_by ws (suc u) a e in (suc q.0, q.1, ap suc q.2, q.3, q.4)

-- if the story has no writes yet for version n + 1, adding writes there is a decision
pub decides : (clock : ℕ) (lock cell : ℕ → ℕ) (image : List ℕ) (story : List (List (ℕ × ℕ))) (n : ℕ) (w : List (ℕ × ℕ))
    → is_map w ≡ true → get_elem? story n ≡ some []
    → Decides (record { clock = clock; lock = lock; cell = cell; val = value_of image story; wrote = wrote_in story })
    (value_of image (set story n w)) (wrote_in (set story n w)) (suc n) w
decides clock lock cell image story n w m e =
    let l : n < length story = below story n [] e in record {
      others = λ u a p. others story n w u a p;
      own = λ a. own story n w a l;
      value = λ a x g. value_next (set story n w) n w (slice_index image a) a (here story n w e) ∙
          over_pair w (value_in (set story n w) (slice_index image a) n a) a x g.0 m g.1;
      before = λ b a p. before story n w (slice_index image a) b a (omega arith);
      beside = λ b a f. beside story n w (slice_index image a) b a (wrote_at story n [] a e) f;
      steady = λ a v t p q. steady (set story n w) (slice_index image a) a v t p q;
    }
  where
    below : (l : List (List (ℕ × ℕ))) (i : ℕ) (x : List (ℕ × ℕ)) → get_elem? l i ≡ some x → i < length l
    below [] i x e = absurd (some-ne-none x (sym e))
    below (y ∷ ys) zero x e = omega arith
    below (y ∷ ys) (suc i) x e = (let h = below ys i x e in omega arith)

    here : (l : List (List (ℕ × ℕ))) (i : ℕ) (x : List (ℕ × ℕ)) → get_elem? l i ≡ some [] →
        get_elem? (set l i x) i ≡ some x
    here l i x e = Rattle.stm_core.proofs.Lists.set_here l i [] x e

-- a tick adds a version at which nobody has written
pub tick_value : (ws : List (List (ℕ × ℕ))) (d b a : ℕ) → value_in (ws ++ [] ∷ []) d b a ≡ value_in ws d b a
tick_value [] d zero a = refl
tick_value [] d (suc b) a = refl
tick_value (w ∷ ws) d zero a = refl
tick_value (w ∷ ws) d (suc b) a = tick_value ws (value_over d w a) b a

pub tick_wrote : (ws : List (List (ℕ × ℕ))) (u a : ℕ) → wrote_in (ws ++ [] ∷ []) u a ≡ wrote_in ws u a
tick_wrote [] zero a = refl
tick_wrote [] (suc zero) a = refl
tick_wrote [] (suc (suc u)) a = refl
tick_wrote (w ∷ ws) zero a = refl
tick_wrote (w ∷ ws) (suc zero) a = refl
tick_wrote (w ∷ ws) (suc (suc u)) a = tick_wrote ws (suc u) a
