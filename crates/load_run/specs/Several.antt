-- The combined results of several clients: records, contents of recorders and counts.
use Rattle.std.specs.Prelude.{ℕ, ◌+◌, List, [], ◌∷◌}
use Rattle.tx_memory.specs.Image.{In}
use Rattle.stm_core.specs.Client.{Record, Aborted}
use Rattle.load_run.specs.declared.outcomes.Outcomes.{Outcomes}
use Rattle.load_run.specs.Keeping.{RecorderContents, AreKept}

-- the third list has exactly the elements of the first two, each once, and those of each list in
-- their order
pub data Interleaved {A : Type 0} : List A → List A → List A → Type 0 where
  no_more : Interleaved [] [] []
  of_first : (x : A) {xs ys zs : List A} → Interleaved xs ys zs → Interleaved (x ∷ xs) ys (x ∷ zs)
  of_second : (y : A) {xs ys zs : List A} → Interleaved xs ys zs →
      Interleaved xs (y ∷ ys) (y ∷ zs)

-- for each element, the recorder at the same position appended the calls of exactly the element's
-- records, and the traces of the element's attempts
pub data AllKept {X : Type 0} (attempts_of : X → ℕ) (records_of : X → List Record)
    (aborts_of : X → List Aborted)
    : List X → List RecorderContents → List RecorderContents → Type 0 where
  none_kept : AllKept attempts_of records_of aborts_of [] [] []
  one_kept : {x : X} {k k' : RecorderContents} {xs : List X} {ks ks' : List RecorderContents} →
      AreKept (attempts_of x) (records_of x) (aborts_of x) k k' →
      AllKept attempts_of records_of aborts_of xs ks ks' →
      AllKept attempts_of records_of aborts_of (x ∷ xs) (k ∷ ks) (k' ∷ ks')

-- each aborted attempt of the first list is in the second
abbrev pub Within : List Aborted → List Aborted → Type 0
Within aborts all = (a : Aborted) → In a aborts → In a all

-- each aborted attempt of each element is in the list
abbrev pub AllWithin : {X : Type 0} → (X → List Aborted) → List X → List Aborted → Type 0
AllWithin aborts_of [] all = Unit {0}
AllWithin aborts_of (x ∷ xs) all = Within (aborts_of x) all × AllWithin aborts_of xs all

-- the sum of f over the elements
abbrev pub sum_of : {X : Type 0} → (X → ℕ) → List X → ℕ
sum_of f [] = 0
sum_of f (x ∷ xs) = f x + sum_of f xs

-- the counts of all elements added up
abbrev pub added_up : {X : Type 0} → (X → Outcomes) → List X → Outcomes
added_up f xs = record {
  answered = sum_of (λ x. (f x).answered) xs;
  busy = sum_of (λ x. (f x).busy) xs;
  memory = sum_of (λ x. (f x).memory) xs;
  spent = sum_of (λ x. (f x).spent) xs;
}
