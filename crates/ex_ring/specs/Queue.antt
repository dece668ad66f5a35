-- The queue in a ring's words, and the effects of the ring's transactions on it. Each example of
-- an object has its own `after`, `Finds` and `code`.
use Rattle.std.specs.Prelude.{◌≡◌, ℕ, zero, suc, ◌+◌, ◌-◌, ◌%◌, ◌^◌, ◌<◌, ◌≤◌, true, false, cond, Option, None, Some, List, [], ◌∷◌, length, slice_index, slice_set}
use Rattle.stm_object.specs.Object.{Specification}
use Rattle.stm_object.specs.Steps.{words_object}
use Rattle.ex_ring.specs.declared.entry.Entry.{Entry}
use Rattle.ex_ring.specs.declared.entry.Entry.TheVariants.{Push, Pop, Empty, Len}
use Rattle.ex_ring.specs.declared.law.TheConstants.{SLOTS, HEAD, TAIL, WORDS}

-- the number of values that were taken out; `tail` is the number of values that were put in
abbrev pub head : List ℕ → ℕ
head xs = slice_index xs HEAD

abbrev pub tail : List ℕ → ℕ
tail xs = slice_index xs TAIL

-- n values, starting with the value of number `from`
abbrev pub values : List ℕ → ℕ → ℕ → List ℕ
values xs from zero = []
values xs from (suc n) = slice_index xs (from % SLOTS) ∷ values xs (from + 1) n

-- the values in the ring, the oldest first
abbrev pub content : List ℕ → List ℕ
content xs = values xs (head xs) (tail xs - head xs)

-- there is a free slot, and the count of values put in can grow
pub record HasRoom (xs : List ℕ) : Type 0 where
  pub slot : tail xs < head xs + SLOTS
  pub count : tail xs < 2 ^ 64 - 1

-- the words after a value was put in
abbrev pub pushing : List ℕ → ℕ → List ℕ
pushing xs value = slice_set (slice_set xs (tail xs % SLOTS) value) TAIL (tail xs + 1)

-- the words after an entry
abbrev pub after : Entry → List ℕ → List ℕ
after (Push value true) xs = pushing xs value
after (Push value false) xs = xs
after (Pop value) xs = slice_set xs HEAD (head xs + 1)
after Empty xs = xs
after (Len count) xs = xs

-- the statement of an entry about the words before it
abbrev pub Finds : Entry → List ℕ → Type 0
Finds (Push value true) xs = HasRoom xs
Finds (Push value false) xs = HasRoom xs → ⊥
Finds (Pop value) xs = (head xs < tail xs) × (slice_index xs (head xs % SLOTS) ≡ value)
Finds Empty xs = tail xs ≡ head xs
Finds (Len count) xs = head xs + count ≡ tail xs

-- the values that entries put in, in their order; `popped` gives those that entries took out
abbrev pub pushed : List Entry → List ℕ
pushed [] = []
pushed (Push value true ∷ es) = value ∷ pushed es
pushed (Push value false ∷ es) = pushed es
pushed (Pop value ∷ es) = pushed es
pushed (Empty ∷ es) = pushed es
pushed (Len count ∷ es) = pushed es

abbrev pub popped : List Entry → List ℕ
popped [] = []
popped (Push value room ∷ es) = popped es
popped (Pop value ∷ es) = value ∷ popped es
popped (Empty ∷ es) = popped es
popped (Len count ∷ es) = popped es

-- the entry of the answer of a pop
abbrev pub popping : Option ℕ → Entry
popping None = Empty
popping (Some value) = Pop value

-- an entry as numbers
abbrev pub code : Entry → List ℕ
code (Push value room) = 0 ∷ value ∷ cond room 1 0 ∷ []
code (Pop value) = 1 ∷ value ∷ []
code Empty = 2 ∷ []
code (Len count) = 3 ∷ count ∷ []

-- the image has the words of a ring, and at most as many values are in the ring as there are slots
pub record IsRing (image : List ℕ) : Type 0 where
  pub size : length image ≡ WORDS
  pub order : head image ≤ tail image
  pub bound : tail image ≤ head image + SLOTS

-- the ring as a sequential object; a push may be of any value
abbrev pub ring : Specification Entry
ring = words_object WORDS Entry IsRing (λ e. Unit {0}) Finds after code
