-- The keys of moments are in the order of lanes and moments, so that a call runs at a moment if its BEGIN is among
-- the keys up to the moment, and its END is not.
use Rattle.std.proofs.Common.{◌≡◌, ℕ, ◌+◌, ◌-◌, ◌<◌, ◌≤◌, max, Bool, true, false, cond, not, ◌&&◌, ◌==◌, List}
use Rattle.std.proofs.Common.{refl, sym, ap, ◌∙◌, inl, inr, arith, nat_le, nat_lt, ◌⊎◌}
use Rattle.std.specs.List.{count_by}
use Rattle.std.proofs.lemmas.Bool.Decides.{nat_tests}
use Rattle.judge_object.specs.declared.span.Span.{Span}
use Rattle.judge_object.specs.declared.span.TheConstants.{NEVER}
use Rattle.judge_coverage.specs.declared.moments.Moments.{Moments}
use Rattle.judge_coverage.specs.declared.meetings.Meetings.{Meetings}
use Rattle.judge_coverage.specs.Moments.{lane_of, key_of, begin_key, end_key, number_up_to, AreMoments}
use Rattle.judge_coverage.specs.Meetings.{AreMeetings}
use Rattle.judge_coverage.specs.Coverage.{runs_at, meets, met_by}
use Rattle.judge_coverage.proofs.Counting.{count_map, count_splits}

le_yes : (a b : ℕ) → a ≤ b → nat_le a b ≡ true
le_yes a b h = grind (arith, nat_tests)

le_no : (a b : ℕ) → b < a → nat_le a b ≡ false
le_no a b h = grind (arith, nat_tests)

-- keys of an earlier lane, of a later one, and of the same lane
key_below : (m l a b : ℕ) → m < l → key_of m a ≤ key_of l b
key_below m l a b h = omega arith

key_above : (m l a b : ℕ) → l < m → key_of l b < key_of m a
key_above m l a b h = omega arith

key_same : (l a b : ℕ) → b < NEVER → nat_le (key_of l a) (key_of l b) ≡ nat_le a b
key_same l a b h = grind (arith, nat_tests)

-- in one lane: the BEGIN is not later than the moment, and the END is or is not
runs_between : (b e t : ℕ) →
    cond (nat_le b t) 1 0 ≡ cond (nat_le (max b e) t) 1 0 + cond (not (nat_lt t b) && nat_lt t e) 1 0
runs_between b e t = grind (arith, nat_tests)

lanes : (m l : ℕ) → (m < l) ⊎ ((m ≡ l) ⊎ (l < m))
lanes m l = grind arith

other_lane : (m l : ℕ) (b : Bool) → (m < l) ⊎ (l < m) → ◌≡◌ {A = ℕ} (cond ((m == l) && b) 1 0) 0
other_lane m l b (inl h) = grind (arith, nat_tests)
other_lane m l b (inr h) = grind (arith, nat_tests)

own_lane : (m l : ℕ) (b : Bool) → m ≡ l → ((m == l) && b) ≡ b
own_lane m l b h = grind (arith, nat_tests)

-- the keys of one call
edges : (m l b e t : ℕ) → t < NEVER →
    cond (nat_le (key_of m b) (key_of l t)) 1 0
    ≡ cond (nat_le (key_of m (max b e)) (key_of l t)) 1 0
    + cond ((m == l) && (not (nat_lt t b) && nat_lt t e)) 1 0
edges m l b e t h =
    elim (lanes m l) [
      | inl below ↦
          ap (λ x. cond x 1 0) (le_yes _ _ (key_below m l b t below))
          ∙ sym (both 1 _ _ (ap (λ x. cond x 1 0) (le_yes _ _ (key_below m l (max b e) t below)))
          (other_lane m l (not (nat_lt t b) && nat_lt t e) (inl below)))
      | inr rest ↦ elim rest [
        | inl same ↦ at_same same
        | inr above ↦
            ap (λ x. cond x 1 0) (le_no _ _ (key_above m l b t above))
            ∙ sym (both 0 _ _ (ap (λ x. cond x 1 0) (le_no _ _ (key_above m l (max b e) t above)))
            (other_lane m l (not (nat_lt t b) && nat_lt t e) (inr above)))
      ]
    ]
  where
    both : (n x y : ℕ) → x ≡ n → y ≡ 0 → x + y ≡ n
    both n x y e f = omega arith

    at_same : m ≡ l → cond (nat_le (key_of m b) (key_of l t)) 1 0
        ≡ cond (nat_le (key_of m (max b e)) (key_of l t)) 1 0
        + cond ((m == l) && (not (nat_lt t b) && nat_lt t e)) 1 0
    at_same s =
        ap (λ k. cond (nat_le (key_of k b) (key_of l t)) 1 0) s
        ∙ ap (λ x. cond x 1 0) (key_same l b t h)
        ∙ runs_between b e t
        ∙ ap (λ x. cond x 1 0 + cond (not (nat_lt t b) && nat_lt t e) 1 0) (sym (key_same l (max b e) t h))
        ∙ ap (λ k. cond (nat_le (key_of k (max b e)) (key_of l t)) 1 0 + cond (not (nat_lt t b) && nat_lt t e) 1 0)
        (sym s)
        ∙ ap (λ x. cond (nat_le (key_of m (max b e)) (key_of l t)) 1 0 + cond x 1 0)
        (sym (own_lane m l (not (nat_lt t b) && nat_lt t e) s))

taken : (a b x y z : ℕ) → a ≡ x → b ≡ y → x ≡ y + z → a - b ≡ z
taken a b x y z e f g = omega arith

-- the number of calls of a lane that run at a moment
running_is : (apart : Bool) (calls : List Span) (moments : Moments) (lane t : ℕ) → AreMoments apart calls moments →
    t < NEVER →
    number_up_to (key_of lane t) moments.begins.items - number_up_to (key_of lane t) moments.ends.items
    ≡ count_by (λ call. (lane_of apart call == lane) && runs_at t call) calls
running_is apart calls moments lane t are h =
    let key = key_of lane t in
    taken (number_up_to key moments.begins.items) (number_up_to key moments.ends.items)
    (count_by (λ call. nat_le (begin_key apart call) key) calls)
    (count_by (λ call. nat_le (end_key apart call) key) calls)
    (count_by (λ call. (lane_of apart call == lane) && runs_at t call) calls)
    (are.begins key ∙ count_map (begin_key apart) (λ other. nat_le other key) calls)
    (are.ends key ∙ count_map (end_key apart) (λ other. nat_le other key) calls)
    (count_splits (λ call. nat_le (begin_key apart call) key) (λ call. nat_le (end_key apart call) key)
    (λ call. (lane_of apart call == lane) && runs_at t call)
    (λ call. edges (lane_of apart call) lane call.begin call.end t h) calls)

own_or_other : (own runs : Bool) →
    cond runs 1 0 ≡ cond (own && runs) 1 0 + cond (not own && runs) 1 0
own_or_other true true = refl
own_or_other true false = refl
own_or_other false true = refl
own_or_other false false = refl

-- the calls of other clients that run when a call begins
pub met_is : (meetings : Meetings) (call : Span) (all own : ℕ) → AreMeetings meetings → call.begin < NEVER →
    all ≡ number_up_to (key_of 0 call.begin) meetings.together.begins.items
    - number_up_to (key_of 0 call.begin) meetings.together.ends.items →
    own ≡ number_up_to (key_of call.client call.begin) meetings.apart.begins.items
    - number_up_to (key_of call.client call.begin) meetings.apart.ends.items →
    all - own ≡ met_by meetings.calls.now call
met_is meetings call all own are h e f =
    let calls = meetings.calls.now in
    taken all own (count_by (runs_at call.begin) calls)
    (count_by (λ other. (other.client == call.client) && runs_at call.begin other) calls)
    (met_by calls call)
    (e ∙ running_is false calls meetings.together 0 call.begin are.together h)
    (f ∙ running_is true calls meetings.apart call.client call.begin are.apart h)
    (count_splits (runs_at call.begin) (λ other. (other.client == call.client) && runs_at call.begin other)
    (meets call) (λ other. own_or_other (other.client == call.client) (runs_at call.begin other)) calls)
