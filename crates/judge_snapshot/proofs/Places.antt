-- Elements at a position, and lists by their elements.
use Rattle.std.proofs.Common.{◌≡◌, ℕ, ◌<◌, ◌≤◌, ◌||◌, ◌&&◌, not, suc, zero, Bool, true, false, List, [], ◌∷◌, length}
use Rattle.std.proofs.Common.{take}
use Rattle.std.proofs.Common.{cond, drop, get_or, refl, ap, ◌∙◌, arith}
use Rattle.std.specs.Prelude.{nat_lt}
use Rattle.std.specs.List.{list_any}
use Rattle.judge_object.specs.declared.span.Span.{Span}
use Rattle.judge_snapshot.specs.Snapshots.{Version}
use Rattle.judge_snapshot.specs.Horizons.{IsHorizon}
use Rattle.judge_snapshot.specs.Possible.{Past}
use Rattle.judge_snapshot.specs.Trimmed.{trim_versions}

module _ {A : Type 0} (p : A → Bool) where
  or_true : (a : Bool) → (a || true) ≡ true
  or_true true = refl
  or_true false = refl

  pub any_at : (xs : List A) (i n : ℕ) (d : A) → i < n → n ≤ length xs → p (get_or xs i d) ≡ true →
      list_any p (take n xs) ≡ true
  any_at [] i n d l m e = absurd (omega arith)
  any_at (x ∷ xs) i zero d l m e = absurd (omega arith)
  any_at (x ∷ xs) zero (suc n) d l m e = rw e refl
  any_at (x ∷ xs) (suc i) (suc n) d l m e =
      ap (λ b. p x || b) (any_at xs i n d (omega arith) (omega arith) e) ∙ or_true (p x)

  pub any_more : (xs : List A) (i : ℕ) (d : A) → i < length xs → list_any p (take i xs) ≡ false →
      p (get_or xs i d) ≡ false → list_any p (take (suc i) xs) ≡ false
  any_more [] i d l h e = absurd (omega arith)
  any_more (x ∷ []) zero d l h e = rw e refl
  any_more (x ∷ (y ∷ xs)) zero d l h e = rw e refl
  any_more (x ∷ xs) (suc i) d l h e = go (p x) h (any_more xs i d (omega arith))
    where
      go : (a : Bool) → (a || list_any p (take i xs)) ≡ false →
          (list_any p (take i xs) ≡ false → p (get_or xs i d) ≡ false → list_any p (take (suc i) xs) ≡ false) →
          (a || list_any p (take (suc i) xs)) ≡ false
      go true h more = h
      go false h more = more h e

module _ {A : Type 0} where
  -- lists are equal one element further
  pub take_same : (xs ys : List A) (i : ℕ) (d e : A) → i < length xs → i < length ys → take i xs ≡ take i ys →
      get_or xs i d ≡ get_or ys i e → take (suc i) xs ≡ take (suc i) ys
  take_same [] ys i d e l m h g = absurd (omega arith)
  take_same (x ∷ xs) [] i d e l m h g = absurd (omega arith)
  take_same (x ∷ []) (y ∷ []) zero d e l m h g = ap (λ z. z ∷ []) g
  take_same (x ∷ []) (y ∷ z ∷ ys) zero d e l m h g = ap (λ z. z ∷ []) g
  take_same (x ∷ z ∷ xs) (y ∷ []) zero d e l m h g = ap (λ z. z ∷ []) g
  take_same (x ∷ z ∷ xs) (y ∷ w ∷ ys) zero d e l m h g = ap (λ z. z ∷ []) g
  take_same (x ∷ xs) (y ∷ ys) (suc i) d e l m h g =
      cons_take (first_same h) (take_same xs ys i d e (omega arith) (omega arith) (rest_same h) g)
    where
      first_same : x ∷ take i xs ≡ y ∷ take i ys → x ≡ y
      first_same h = cc

      rest_same : x ∷ take i xs ≡ y ∷ take i ys → take i xs ≡ take i ys
      rest_same h = cc

      cons_take : x ≡ y → take (suc i) xs ≡ take (suc i) ys → x ∷ take (suc i) xs ≡ y ∷ take (suc i) ys
      cons_take e f = cc

-- the parts of a test
pub allowed : (t r c m right clash must : Bool) → t ≡ true → right ≡ r → clash ≡ c → must ≡ m →
    (right && not clash && not must) ≡ (t && r && not c && not m)
allowed t r c m right clash must e f g h = rw (e, f, g, h) refl

module _ {S W : Type 0} where
  abbrev pub is_old : ℕ → Version S W → Bool
  is_old horizon v = nat_lt v.span.end horizon

  -- versions with a first one that is old
  pub trim_at : (horizon : ℕ) (first : S) (vs : List (Version S W)) (i : ℕ) (d : Version S W) → i < length vs →
      list_any (is_old horizon) (take i vs) ≡ false → is_old horizon (get_or vs i d) ≡ true →
      ◌≡◌ {A = Past S W} (record { first = (get_or vs i d).state; versions = take i vs })
      (trim_versions horizon first vs)
  trim_at horizon first [] i d l h e = absurd (omega arith)
  trim_at horizon first (v ∷ vs) zero d l h e = rw e refl
  trim_at horizon first (v ∷ vs) (suc i) d l h e =
      go (is_old horizon v) h (trim_at horizon first vs i d (omega arith))
    where
      go : (a : Bool) → (a || list_any (is_old horizon) (take i vs)) ≡ false →
          (list_any (is_old horizon) (take i vs) ≡ false → is_old horizon (get_or vs i d) ≡ true →
          ◌≡◌ {A = Past S W} (record { first = (get_or vs i d).state; versions = take i vs })
          (trim_versions horizon first vs)) →
          ◌≡◌ {A = Past S W} (record { first = (get_or vs i d).state; versions = v ∷ take i vs })
          (cond {A = Past S W} a (record { first = v.state; versions = [] }) (record {
            first = (trim_versions horizon first vs).first;
            versions = v ∷ (trim_versions horizon first vs).versions;
          }))
      go true h more = cc
      go false h more =
          ap (λ (p : Past S W). record { first = p.first; versions = v ∷ p.versions }) (more h e)

  -- versions of which none is old
  pub trim_none : (horizon : ℕ) (first : S) (vs : List (Version S W)) → list_any (is_old horizon) vs ≡ false →
      ◌≡◌ {A = Past S W} (record { first = first; versions = vs }) (trim_versions horizon first vs)
  trim_none horizon first [] h = refl
  trim_none horizon first (v ∷ vs) h = go (is_old horizon v) h (trim_none horizon first vs)
    where
      go : (a : Bool) → (a || list_any (is_old horizon) vs) ≡ false →
          (list_any (is_old horizon) vs ≡ false →
          ◌≡◌ {A = Past S W} (record { first = first; versions = vs }) (trim_versions horizon first vs)) →
          ◌≡◌ {A = Past S W} (record { first = first; versions = v ∷ vs })
          (cond {A = Past S W} a (record { first = v.state; versions = [] }) (record {
            first = (trim_versions horizon first vs).first;
            versions = v ∷ (trim_versions horizon first vs).versions;
          }))
      go true h more = cc
      go false h more = ap (λ (p : Past S W). record { first = p.first; versions = v ∷ p.versions }) (more h)

  pub past_is : (f g : S) (vs ws : List (Version S W)) → f ≡ g → vs ≡ ws →
      ◌≡◌ {A = Past S W} (record { first = f; versions = vs }) (record { first = g; versions = ws })
  past_is f g vs ws e h = cc

-- ---- ends of lists

module _ {A : Type 0} where
  pub take_all : (xs : List A) (n : ℕ) → length xs ≤ n → take n xs ≡ xs
  take_all [] zero l = refl
  take_all [] (suc n) l = refl
  take_all (x ∷ xs) zero l = absurd (omega arith)
  take_all (x ∷ xs) (suc n) l = ap (λ l. x ∷ l) (take_all xs n (omega arith))

  pub drop_all : (xs : List A) (n : ℕ) → length xs ≤ n → drop n xs ≡ []
  drop_all [] zero l = refl
  drop_all [] (suc n) l = refl
  drop_all (x ∷ xs) zero l = absurd (omega arith)
  drop_all (x ∷ xs) (suc n) l = drop_all xs n (omega arith)

  pub drop_none : (xs : List A) (n : ℕ) → n ≡ 0 → drop n xs ≡ xs
  drop_none [] zero e = refl
  drop_none (x ∷ xs) zero e = refl
  drop_none xs (suc n) e = absurd (omega (arith, e))

  pub drop_at : (xs : List A) (i : ℕ) (d : A) → i < length xs → drop i xs ≡ get_or xs i d ∷ drop (suc i) xs
  drop_at [] i d l = absurd (omega arith)
  drop_at (x ∷ []) zero d l = refl
  drop_at (x ∷ y ∷ xs) zero d l = refl
  drop_at (x ∷ xs) (suc i) d l = drop_at xs i d (omega arith)

-- ---- horizons

pub horizon_none : (spans : List Span) (begin horizon : ℕ) → IsHorizon (take 0 spans) begin horizon
horizon_none [] begin horizon = tt
horizon_none (s ∷ spans) begin horizon = tt

pub horizon_more : (spans : List Span) (i : ℕ) (d : Span) (begin far near : ℕ) → i < length spans → near ≤ far →
    (begin ≤ (get_or spans i d).end → near ≤ (get_or spans i d).begin) → IsHorizon (take i spans) begin far →
    IsHorizon (take (suc i) spans) begin near
horizon_more [] i d begin far near l less here h = absurd (omega arith)
horizon_more (s ∷ []) zero d begin far near l less here h = (here, tt)
horizon_more (s ∷ t ∷ spans) zero d begin far near l less here h = (here, tt)
horizon_more (s ∷ spans) (suc i) d begin far near l less here h = (
  λ e. let b = h.0 e in omega (arith, b, less),
  horizon_more spans i d begin far near (omega arith) less here h.1,
)
