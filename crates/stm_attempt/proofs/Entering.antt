-- A value that a read of the region answers enters the reads.
use Rattle.std.proofs.Common.{◌≡◌, Bool, true, false, Option, inl, inr, refl, sym, ap, subst, ◌∙◌, ℕ, zero, suc, ◌<◌}
use Rattle.std.proofs.Common.{List, [], ◌∷◌, ◌++◌, Some, None, Result, Ok, Err, MatchResult, arith}
use Rattle.std.specs.FinMap.{get, insert, empty, get-empty, len, empty_of_len}
use Rattle.std.specs.Ordering.{nat_cmp}
use Rattle.std.specs.Option.{is_some}
use Rattle.tx_memory.specs.Image.{In, Agrees}
use Rattle.tx_memory.specs.View.{HasRead, SameFrame, Words}
use Rattle.tx_memory.specs.Pairs.{map_of}
use Rattle.tx_memory.specs.Seen.{same_or, get_here, get_other}
use Rattle.tx_memory.specs.Paired.{with_pairs-append, get-with_pairs, in_later}
use Rattle.stm_core.specs.Client.{Client}
use Rattle.stm_logs.specs.Log.{LogValue, empty_log}
use Rattle.stm_region.specs.Shown.{RegionShown}
use Rattle.stm_core.specs.Guards.{stripe_of}
use Rattle.stm_region.specs.Findings.{StandsOn}
use Rattle.stm_attempt.specs.Begun.{HasReadWord, IsPlaced, addresses}
use Rattle.stm_attempt.specs.declared.conflict.Conflict.{Conflict}
use Rattle.stm_attempt.specs.Meaning.{memory_of}

pub in_front : {A : Type 0} (x : A) (xs ys : List A) → In x xs → In x (xs ++ ys)
in_front x [] ys (zero, e) = cc
in_front x [] ys (suc j, e) = cc
in_front x (y ∷ xs) ys (zero, e) = (zero, e)
in_front x (y ∷ xs) ys (suc j, e) = in_later _ _ _ (in_front x xs ys (j, e))

pub in_last : {A : Type 0} (x : A) (xs : List A) → In x (xs ++ x ∷ [])
in_last x [] = (zero, refl)
in_last x (y ∷ xs) = in_later _ _ _ (in_last x xs)

pub same_some : {A : Type 0} (x y : A) → Some x ≡ Some y → x ≡ y
same_some x y e = cc

none_not_some : {A B : Type 0} (x : A) → None ≡ Some x → B
none_not_some x e = cc

one_value : (image : List ℕ) (reads : List (ℕ × ℕ)) (a x w : ℕ) → Agrees image (reads ++ (a, x) ∷ []) →
    get (map_of reads) a ≡ Some w → x ≡ w
one_value image reads a x w agrees e =
    elim (get-with_pairs empty reads a w e) [
      | inl none ↦ none_not_some w (sym (get-empty nat_cmp a) ∙ none)
      | inr stands ↦ sym (agrees a x (in_last _ reads)).1 ∙ (agrees a w (in_front _ reads _ stands)).1
    ]

-- a memory that has an address is that of a running attempt
pub runs_inside : (running : Bool) (region : RegionShown) (fits : List ℕ → Type 0) (v : Client) (writes : LogValue)
    (a : ℕ) → a < (memory_of running region fits v writes).size → running ≡ true
runs_inside true region fits v writes a l = refl
runs_inside false region fits v writes a l = absurd (omega arith)

pub inside : (running : Bool) (region : RegionShown) (fits : List ℕ → Type 0) (v : Client) (writes : LogValue) (a : ℕ) →
    a < (memory_of running region fits v writes).size → a < region.size
inside true region fits v writes a l = l
inside false region fits v writes a l = absurd (omega arith)

pub has_entered : (running : Bool) (region : RegionShown) (fits : List ℕ → Type 0) (v v' : Client) (writes : LogValue)
    (a x : ℕ) → running ≡ true → get writes.words a ≡ None → HasReadWord v v' a x →
    StandsOn fits region.size v'.attempt.reads → HasRead (memory_of running region fits v writes)
    (memory_of running region fits v' writes) a x
has_entered true region fits v v' writes a x runs none read stands = record {
  own = λ w e. none_not_some w (sym none ∙ e);
  entered = λ _. (
    ap map_of read.reads ∙ with_pairs-append empty v.attempt.reads a x,
    λ w e. one_value stands.image v.attempt.reads a x w (subst
        (λ (rs : List (ℕ × ℕ)). Agrees stands.image rs) read.reads stands.agrees) e,
  );
}
has_entered false region fits v v' writes a x runs none read stands = cc

has_entered_now : (runs : Bool) (region : RegionShown) (fits : List ℕ → Type 0) (v v' : Client) (writes : LogValue)
    (a x : ℕ) → runs ≡ true → get writes.words a ≡ None → HasReadWord v v' a x →
    StandsOn fits region.size v'.attempt.reads → HasRead (memory_of runs region fits v writes)
    (memory_of true region fits v' writes) a x
has_entered_now true region fits v v' writes a x r none read stands =
    has_entered true region fits v v' writes a x r none read stands
has_entered_now false region fits v v' writes a x r none read stands = cc

-- the same, of a memory that tells by its client's phase whether it runs
pub has_entered_also : (runs runs' : Bool) (region : RegionShown) (fits : List ℕ →
    Type 0) (v v' : Client) (writes : LogValue) (a x : ℕ) → runs ≡ true → runs' ≡ true → get writes.words a ≡ None →
    HasReadWord v v' a x → StandsOn fits region.size v'.attempt.reads →
    HasRead (memory_of runs region fits v writes) (memory_of runs' region fits v' writes) a x
has_entered_also runs true region fits v v' writes a x r r' none read stands =
    has_entered_now runs region fits v v' writes a x r none read stands
has_entered_also runs false region fits v v' writes a x r r' none read stands = cc

pub same_frame : (runs runs' : Bool) (region : RegionShown) (fits : List ℕ → Type 0) (v v' : Client) (writes : LogValue)
    → runs ≡ true → runs' ≡ true → SameFrame (memory_of runs region fits v writes)
    (memory_of runs' region fits v' writes)
same_frame true true region fits v v' writes r r' = record { size = refl; fits = λ image h. h }
same_frame true false region fits v v' writes r r' = cc
same_frame false runs' region fits v v' writes r r' = cc

pub same_reads : (runs runs' : Bool) (region : RegionShown) (fits : List ℕ → Type 0) (v v' : Client) (writes : LogValue)
    → runs ≡ true → runs' ≡ true → v'.attempt.reads ≡ v.attempt.reads →
    (memory_of runs' region fits v' writes).reads ≡ (memory_of runs region fits v writes).reads
same_reads true true region fits v v' writes r r' e = ap map_of e
same_reads true false region fits v v' writes r r' e = cc
same_reads false runs' region fits v v' writes r r' e = cc

-- an empty map has nothing
pub none_there : (w : Words) (a : ℕ) → len w ≡ 0 → get w a ≡ None
none_there w a e = ap (λ (m : Words). get m a) (empty_of_len w e) ∙ get-empty nat_cmp a

-- nothing is placed in an empty log
pub nothing_placed : (region : RegionShown) (writes : LogValue) → writes ≡ empty_log → IsPlaced region writes
nothing_placed region writes e =
    let none : (a : ℕ) → get writes.locks a ≡ None = λ a. ap (λ (w : LogValue). get w.locks a) e ∙
    get-empty nat_cmp a in
    record {
      lock = λ a k is. none_not_some k (sym (none a) ∙ is);
      inside = λ a k is. none_not_some k (sym (none a) ∙ is);
      range = λ a k is. none_not_some k (sym (none a) ∙ is);
    }

module _ (region : RegionShown) (w : LogValue) (a x : ℕ) (placed : IsPlaced region w) (inside : a < region.size)
    (few : stripe_of region.stripes a < region.stripes) where
  abbrev with_word : LogValue
  with_word = record { words = insert w.words a x; locks = insert w.locks a (stripe_of region.stripes a) }

  placed_lock : (b k : ℕ) → get (insert w.locks a (stripe_of region.stripes a)) b ≡ Some k →
      k ≡ stripe_of region.stripes b
  placed_lock b k is =
      elim (same_or b a) [
        | inl e ↦ (let here : get (insert w.locks a (stripe_of region.stripes a)) b ≡ Some
            (stripe_of region.stripes a) = rw e (get_here w.locks a (stripe_of region.stripes a)) in
            sym (same_some _ _ (sym here ∙ is)) ∙ ap (stripe_of region.stripes) (sym e))
        | inr ne ↦ placed.lock b k (sym (get_other w.locks a _ b ne) ∙ is)
      ]

  placed_inside : (b k : ℕ) → get (insert w.locks a (stripe_of region.stripes a)) b ≡ Some k → b < region.size
  placed_inside b k is =
      elim (same_or b a) [
        | inl e ↦ (rw e inside)
        | inr ne ↦ placed.inside b k (sym (get_other w.locks a _ b ne) ∙ is)
      ]

  placed_range : (b k : ℕ) → get (insert w.locks a (stripe_of region.stripes a)) b ≡ Some k → k < region.stripes
  placed_range b k is =
      elim (same_or b a) [
        | inl e ↦ (let here : get (insert w.locks a (stripe_of region.stripes a)) b ≡ Some
            (stripe_of region.stripes a) = rw e (get_here w.locks a (stripe_of region.stripes a)) in
            subst (λ (n : ℕ). n < region.stripes) (same_some _ _ (sym here ∙ is)) few)
        | inr ne ↦ placed.range b k (sym (get_other w.locks a _ b ne) ∙ is)
      ]

  pub placed_with : IsPlaced region with_word
  placed_with = record { lock = placed_lock; inside = placed_inside; range = placed_range }

pub placed_put : {E U : Type 0} (r : Result U E) (region : RegionShown) (w w' : LogValue) (a lock x : ℕ) →
    IsPlaced region w → a < region.size → lock ≡ stripe_of region.stripes a → lock < region.stripes →
    MatchResult r (λ _. w' ≡ record { words = insert w.words a x; locks = insert w.locks a lock }) (λ _. w' ≡ w) →
    IsPlaced region w'
placed_put (Ok u) region w w' a lock x placed inside is few e =
    subst (λ (o : LogValue). IsPlaced region o) (ap (λ (k : ℕ). record {
      words = insert w.words a x;
      locks = insert w.locks a k;
    }) (sym is) ∙
    sym e) (placed_with region w a x placed inside (subst (λ (n : ℕ). n < region.stripes) is few))
placed_put (Err x₁) region w w' a lock x placed inside is few e =
    subst (λ (o : LogValue). IsPlaced region o) (sym e) placed

-- what is logged follows the reads
pub logged_too : (reads reads' : List (ℕ × ℕ)) (logged logged' : List ℕ) (a x : ℕ) → logged ≡ addresses reads →
    logged' ≡ logged ++ a ∷ [] → reads' ≡ reads ++ (a, x) ∷ [] → logged' ≡ addresses reads'
logged_too reads reads' logged logged' a x is pushed entered =
    pushed ∙ ap (λ (xs : List ℕ). xs ++ a ∷ []) is ∙ sym (one_more reads) ∙ ap addresses (sym entered) where
      one_more : (rs : List (ℕ × ℕ)) → addresses (rs ++ (a, x) ∷ []) ≡ addresses rs ++ a ∷ []
      one_more [] = refl
      one_more (r ∷ rs) = ap (λ (xs : List ℕ). r.0 ∷ xs) (one_more rs)

some_is : (c d : Conflict) → Some c ≡ Some d → c ≡ d
some_is c d e = cc

-- what a test of the kept conflict says
pub not_stopped : {A : Type 0} (s : Option Conflict) (conflict : Conflict) → is_some s ≡ false → s ≡ Some conflict → A
not_stopped (Some d) conflict is e = cc
not_stopped None conflict is e = cc

pub was_stopped : {A : Type 0} (s : Option Conflict) → is_some s ≡ true → s ≡ None → A
was_stopped (Some d) is e = cc
was_stopped None is e = cc

-- what a look into the log says
pub is_there : {A : Type 0} (found : Option ℕ) (x : ℕ) → Some x ≡ found → found ≡ None → A
is_there (Some y) x e f = cc
is_there None x e f = cc
