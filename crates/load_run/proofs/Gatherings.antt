-- Clients are gathered one by one.
use Rattle.std.proofs.Common.{◌≡◌, ◌∙◌, ℕ, ◌+◌, inl, inr, min, Bool, true, false, cond, List, [], ◌∷◌, ◌++◌, refl}
use Rattle.std.proofs.Common.{sym, ap, subst, arith}
use Rattle.tx_memory.specs.Image.{In}
use Rattle.stm_core.specs.Client.{Client, Record, Aborted, is_settled, aborted_of, given_up, all_aborted, merged}
use Rattle.stm_core.proofs.Eras.{in_append, append_left, append_right}
use Rattle.stm_core.proofs.Loading.{given_cases}
use Rattle.stm_region.specs.Shown.{with_gathered}
use Rattle.vac_manager.specs.Called.{CallerShown}
use Rattle.load_run.specs.declared.outcomes.Outcomes.{Outcomes}
use Rattle.load_run.specs.Looping.{plus}
use Rattle.load_run.specs.Several.{Within, AllWithin, sum_of, added_up}
use Rattle.load_run.specs.Load.{all_merged, Gathered}

sum_more : {X : Type 0} (f : X → ℕ) (xs : List X) (x : X) → sum_of f (xs ++ (x ∷ [])) ≡ sum_of f xs + f x
sum_more f [] x = omega arith
sum_more f (y ∷ xs) x = omega (arith, sum_more f xs x)

pub sum_one : {X : Type 0} (f : X → ℕ) (x : X) → f x ≡ sum_of f (x ∷ [])
sum_one f x = omega arith

-- the sum with one element more
pub sum_on : {X : Type 0} (f : X → ℕ) (x : X) (xs : List X) (y : X) (n m : ℕ) → n ≡ sum_of f (x ∷ xs) →
    m ≡ n + f y → m ≡ sum_of f (x ∷ (xs ++ (y ∷ [])))
sum_on f x xs y n m e g = omega (arith, sum_more f xs y, e, g)

added_more : {X : Type 0} (f : X → Outcomes) (xs : List X) (x : X) →
    added_up f (xs ++ (x ∷ [])) ≡ plus (added_up f xs) (f x)
added_more f xs x = λ i. record {
  answered = sum_more (λ y. (f y).answered) xs x i;
  busy = sum_more (λ y. (f y).busy) xs x i;
  memory = sum_more (λ y. (f y).memory) xs x i;
  spent = sum_more (λ y. (f y).spent) xs x i;
}

merged_more : {X : Type 0} (records_of : X → List Record) (first : List Record) (xs : List X) (y : X) →
    all_merged records_of first (xs ++ (y ∷ [])) ≡ merged (all_merged records_of first xs) (records_of y)
merged_more records_of first [] y = refl
merged_more records_of first (x ∷ xs) y = merged_more records_of (merged first (records_of x)) xs y

pub aborted_one : {X : Type 0} (f : X → List Aborted) (x : X) → AllWithin f (x ∷ []) (f x)
aborted_one f x = (λ a i. i, tt)

pub gathered_one : {X : Type 0} (records_of : X → List Record) (tally_of : X → Outcomes) (x : X) →
    Gathered records_of tally_of x [] (records_of x) (tally_of x)
gathered_one records_of tally_of x = record {
  records_are = refl;
  tallies = λ i. record {
    answered = zero_more (tally_of x).answered i;
    busy = zero_more (tally_of x).busy i;
    memory = zero_more (tally_of x).memory i;
    spent = zero_more (tally_of x).spent i;
  };
}
  where
    zero_more : (n : ℕ) → n ≡ n + 0
    zero_more n = omega arith

pub gathered_more : {X : Type 0} (records_of : X → List Record) (tally_of : X →
    Outcomes) (x : X) (xs : List X) (y : X) (v v' : Client) (t t' : Outcomes) →
    Gathered records_of tally_of x xs v.records t →
    v'.records ≡ merged v.records (records_of y) → t' ≡ plus t (tally_of y) →
    Gathered records_of tally_of x (xs ++ (y ∷ [])) v'.records t'
gathered_more records_of tally_of x xs y v v' t t' h e f = record {
  records_are = e ∙ (ap (λ (l : List Record). merged l (records_of y)) h.records_are ∙
      sym (merged_more records_of (records_of x) xs y));
  tallies = f ∙ (ap (λ (u : Outcomes). plus u (tally_of y)) h.tallies ∙ sym (added_more tally_of (x ∷ xs) y));
}

-- an aborted attempt stays among those of the present renewal
given_old : (v : Client) (a : Aborted) → In a v.aborted → In a (given_up v)
given_old v a i = go (is_settled v.attempt.phase)
  where
    go : (b : Bool) → In a (cond b v.aborted (v.aborted ++ aborted_of v.attempt ∷ []))
    go true = i
    go false = append_left v.aborted (aborted_of v.attempt ∷ []) a i

given_last : (v : Client) → is_settled v.attempt.phase ≡ false → In (aborted_of v.attempt) (given_up v)
given_last v e = subst (λ (b : Bool). In (aborted_of v.attempt)
    (cond b v.aborted (v.aborted ++ aborted_of v.attempt ∷ []))) (sym e)
    (append_right v.aborted (aborted_of v.attempt ∷ []) (aborted_of v.attempt) (0, refl))

-- those of both clients are among those of the one that gathered the other
within_mine : (v w : Client) → Within (all_aborted v) (all_aborted (with_gathered v w))
within_mine v w a i =
    let u : Client = with_gathered v w in
    elim (in_append v.aborted_before (given_up v) a i) [
      | inl p ↦ append_left u.aborted_before (given_up u) a (append_left v.aborted_before w.aborted_before a p)
      | inr p ↦ append_right u.aborted_before (given_up u) a (elim (given_cases v a p) [
        | inl q ↦ given_old u a (append_left v.aborted (given_up w) a q)
        | inr q ↦ subst (λ (x : Aborted). In x (given_up u)) q.1 (given_last u q.0)
      ])
    ]

within_theirs : (v w : Client) → Within (all_aborted w) (all_aborted (with_gathered v w))
within_theirs v w a i =
    let u : Client = with_gathered v w in
    elim (in_append w.aborted_before (given_up w) a i) [
      | inl p ↦ append_left u.aborted_before (given_up u) a (append_right v.aborted_before w.aborted_before a p)
      | inr p ↦ append_right u.aborted_before (given_up u) a
          (given_old u a (append_right v.aborted (given_up w) a p))
    ]

pub aborted_more : {X : Type 0} (f : X → List Aborted) (xs : List X) (y : X) (l m : List Aborted) → AllWithin f xs l →
    Within l m → Within (f y) m → AllWithin f (xs ++ (y ∷ [])) m
aborted_more f [] y l m h k q = (q, tt)
aborted_more f (x ∷ xs) y l m h k q = (λ a i. k a (h.0 a i), aborted_more f xs y l m h.1 k q)

-- a caller after it took in another
pub record TookIn (y other after : CallerShown) : Type 0 where
  pub manager : after.shared ≡ y.shared
  pub mine : Within (all_aborted y.user.value) (all_aborted after.user.value)
  pub theirs : Within (all_aborted other.user.value) (all_aborted after.user.value)
  pub records : after.user.value.records ≡ merged y.user.value.records other.user.value.records
  pub grants : after.user.value.grants ≡ min (y.user.value.grants + other.user.value.grants + 1) 63

pub took_in : (y other after : CallerShown) → after ≡ record y {
  user = record y.user { value = with_gathered y.user.value other.user.value };
} → TookIn y other after
took_in y other after e = record {
  manager = ap (λ (x : CallerShown). x.shared) e;
  mine = subst (λ (x : CallerShown). Within (all_aborted y.user.value) (all_aborted x.user.value)) (sym e)
      (within_mine y.user.value other.user.value);
  theirs = subst (λ (x : CallerShown). Within (all_aborted other.user.value) (all_aborted x.user.value)) (sym e)
      (within_theirs y.user.value other.user.value);
  records = ap (λ (x : CallerShown). x.user.value.records) e;
  grants = ap (λ (x : CallerShown). x.user.value.grants) e;
}
