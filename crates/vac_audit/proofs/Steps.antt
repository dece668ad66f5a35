-- Steps of the walk.
use Rattle.std.proofs.Common.{◌≡◌, ◌≢◌, ◌⊎◌, inl, inr, ℕ, ◌+◌, ◌-◌, ◌/◌, ◌%◌, ◌≤◌, Bool, true, false, cond, List, refl}
use Rattle.std.proofs.Common.{ap, ◌∙◌, subst, arith, nat_eq}
use Rattle.std.specs.Prelude.{Result, Ok, Err}
use Rattle.std.proofs.lemmas.Bool.Decides.{nat_tests}
use Rattle.tx_alloc.specs.Pool.{IsBlock, held}
use Rattle.vac_audit.specs.Walk.{then, wants, follow, is_place}
use Rattle.vac_audit.specs.declared.Flaw.{Flaw}
use Rattle.vac_audit.specs.declared.Flaw.TheVariants.{Pointer, Shared}

pub then_with : {A B : Type 0} (x : Result A Flaw) (k : A → Result B Flaw) (a : A) (r : Result B Flaw) → x ≡ Ok a →
    k a ≡ r → then x k ≡ r
then_with {A = A} x k a r e f = ap (λ (z : Result A Flaw). then z k) e ∙ f

pub wants_ok : (t : Bool) (f : Flaw) (u : Unit {0}) → wants t f ≡ Ok u → t ≡ true
wants_ok true f u e = refl
wants_ok false f u e = absurd (let q : Err f ≡ Ok u = e in cc)

pub wants_with : (t : Bool) (f : Flaw) → t ≡ true → wants t f ≡ Ok tt
wants_with t f e = ap (λ (z : Bool). wants z f) e

pub split : {A : Type 0} (t : Bool) (x y z : A) → cond t x y ≡ z → ((t ≡ true) × (x ≡ z)) ⊎ ((t ≡ false) × (y ≡ z))
split true x y z e = inl (refl, e)
split false x y z e = inr (refl, e)

pub place_block : (n p : ℕ) → is_place n p ≡ true → IsBlock n p
place_block n p e =
    let low : 16 ≤ p = grind (arith, nat_tests) in
    let high : p + 8 ≤ n = grind (arith, nat_tests) in
    let whole : p % 8 ≡ 0 = grind (arith, nat_tests) in
    (p / 8 - 2, (high, omega arith))

pub block_place : (n p : ℕ) → IsBlock n p → is_place n p ≡ true
block_place n p (b, (high, is)) =
    let low : 16 ≤ p = omega arith in
    let whole : p % 8 ≡ 0 = omega arith in
    grind (arith, nat_tests)

-- a followed pointer: it points to a block that was not reached before
pub record IsFresh (m : ℕ → ℕ) (n a : ℕ) (seen : List ℕ) (p : ℕ) : Type 0 where
  pub at : m a ≡ p
  pub block : IsBlock n p
  pub fresh : held p seen ≡ 0

follow_at : (m : ℕ → ℕ) (n a : ℕ) (seen : List ℕ) (p : ℕ) (z u v : Bool) → nat_eq (m a) 0 ≡ z → is_place n (m a) ≡ u →
    nat_eq (held (m a) seen) 0 ≡ v
    → cond z (Ok 0) (cond u (cond v (Ok (m a)) (Err (Shared a))) (Err (Pointer a))) ≡ Ok p →
    ((p ≡ 0) × (m a ≡ 0)) ⊎ IsFresh m n a seen p
follow_at m n a seen p true u v z' u' v' e = inl (
  (let z : ◌≡◌ {A = Result ℕ Flaw} (Ok 0) (Ok p) = e in cc),
  grind (arith, nat_tests),
)
follow_at m n a seen p false true true z' u' v' e =
    let same : m a ≡ p = let z : ◌≡◌ {A = Result ℕ Flaw} (Ok (m a)) (Ok p) = e in cc in
    inr (record {
      at = same;
      block = subst (λ (x : ℕ). IsBlock n x) same (place_block n (m a) u');
      fresh = subst (λ (x : ℕ). held x seen ≡ 0) same (grind (arith, nat_tests));
    })
follow_at m n a seen p false true false z' u' v' e = absurd (let z : Err (Shared a) ≡ Ok p = e in cc)
follow_at m n a seen p false false v z' u' v' e = absurd (let z : Err (Pointer a) ≡ Ok p = e in cc)

pub follow_ok : (m : ℕ → ℕ) (n a : ℕ) (seen : List ℕ) (p : ℕ) → follow m n a seen ≡ Ok p →
    ((p ≡ 0) × (m a ≡ 0)) ⊎ IsFresh m n a seen p
follow_ok m n a seen p e = follow_at m n a seen p _ _ _ refl refl refl e

pub follow_end : (m : ℕ → ℕ) (n a : ℕ) (seen : List ℕ) → m a ≡ 0 → follow m n a seen ≡ Ok 0
follow_end m n a seen e = let t : nat_eq (m a) 0 ≡ true = grind (arith, nat_tests) in rw t refl

pub follow_block : (m : ℕ → ℕ) (n a : ℕ) (seen : List ℕ) (p : ℕ) → IsFresh m n a seen p → follow m n a seen ≡ Ok p
follow_block m n a seen p h =
    let b = h.block in
    let t : nat_eq p 0 ≡ false = grind (arith, nat_tests, b.1.1) in
    let u : is_place n p ≡ true = block_place n p b in
    let v : nat_eq (held p seen) 0 ≡ true = grind (arith, nat_tests, h.fresh) in
    rw h.at (rw (t, u, v) refl)

pub not_none : (n p : ℕ) → IsBlock n p → nat_eq p 0 ≡ false
not_none n p (b, (high, is)) = let ne : p ≢ 0 = omega arith in grind (arith, nat_tests)

-- if two parts succeed in order, both succeed
pub both_ok : {A B : Type 0} (G : Type 0) (x : Result A Flaw) (k : A → Result B Flaw) (b : B) → then x k ≡ Ok b →
    ((a : A) → x ≡ Ok a → k a ≡ Ok b → G) → G
both_ok G (Ok a) k b e go = go a refl e
both_ok G (Err f) k b e go = absurd (let q : Err f ≡ Ok b = e in cc)

pub test_ok : {B : Type 0} (G : Type 0) (t : Bool) (f : Flaw) (k : Unit {0} → Result B Flaw) (b : B) →
    then (wants t f) k ≡ Ok b → (t ≡ true → k tt ≡ Ok b → G) → G
test_ok G true f k b e go = go refl e
test_ok G false f k b e go = absurd (let q : Err f ≡ Ok b = e in cc)

pub test_with : {B : Type 0} (t : Bool) (f : Flaw) (k : Unit {0} → Result B Flaw) (r : Result B Flaw) → t ≡ true →
    k tt ≡ r → then (wants t f) k ≡ r
test_with t f k r e g = ap (λ (z : Bool). then (wants z f) k) e ∙ g

cond_ok : {A : Type 0} (G : Type 0) (t : Bool) (x y z : A) → cond t x y ≡ z → (t ≡ true → x ≡ z → G) →
    (t ≡ false → y ≡ z → G) → G
cond_ok G true x y z e at else = at refl e
cond_ok G false x y z e at else = else refl e

-- a walk that follows the pointer in word a, and ends without a flaw
pub enter_ok : {A : Type 0} (G : Type 0) (m : ℕ → ℕ) (n a : ℕ) (seen : List ℕ) (x : Result A Flaw) (k : ℕ →
    Result A Flaw) (b : A)
    → then (follow m n a seen) (λ p. cond (nat_eq p 0) x (k p)) ≡ Ok b → (m a ≡ 0 → x ≡ Ok b → G) →
    ((p : ℕ) → IsFresh m n a seen p → k p ≡ Ok b → G) → G
enter_ok G m n a seen x k b e stop go = both_ok G (follow m n a seen) _ b e (λ p f g.
    elim (follow_ok m n a seen p f) [
      | inl w ↦ cond_ok G (nat_eq p 0) _ _ _ g (λ t q. stop w.1 q) (λ t q. absurd (let u : nat_eq p 0 ≡ true =
          grind (arith, nat_tests, w.0) in cc))
      | inr h ↦ cond_ok G (nat_eq p 0) _ _ _ g (λ t q. absurd (let u : nat_eq p 0 ≡ false = not_none n p h.block in cc))
          (λ t q. go p h q)
    ])

pub enter_end : {A : Type 0} (m : ℕ → ℕ) (n a : ℕ) (seen : List ℕ) (x : Result A Flaw) (k : ℕ →
    Result A Flaw) (r : Result A Flaw)
    → m a ≡ 0 → x ≡ r → then (follow m n a seen) (λ p. cond (nat_eq p 0) x (k p)) ≡ r
enter_end m n a seen x k r e q = then_with (follow m n a seen) _ 0 r (follow_end m n a seen e) q

pub enter_block : {A : Type 0} (m : ℕ → ℕ) (n a : ℕ) (seen : List ℕ) (x : Result A Flaw) (k : ℕ →
    Result A Flaw) (p : ℕ) (r : Result A Flaw)
    → IsFresh m n a seen p → k p ≡ r → then (follow m n a seen) (λ p. cond (nat_eq p 0) x (k p)) ≡ r
enter_block m n a seen x k p r h q =
    then_with (follow m n a seen) _ p r (follow_block m n a seen p h)
    (ap (λ (z : Bool). cond z x (k p)) (not_none n p h.block) ∙ q)
