-- Drawn words, and readers that read values from them.
use Rattle.std.specs.Prelude.{◌≡◌, ℕ, zero, suc, ◌%◌}
use Rattle.std.specs.Prelude.{List, [], ◌∷◌, ◌++◌, Option, Some, None}

-- the words are drawn one after the other, and lead from the first state to the last state
abbrev pub Drew : {D : Type 0} → (D → ℕ → D → Type 0) → D → List ℕ → D → Type 0
Drew leads state [] last = state ≡ last
Drew {D} leads state (w ∷ words) last =
    (next : D) × leads state w next × Drew leads next words last

-- a reader: from a list of words, the value that is read at the front and the words that are left;
-- none if there are too few words
abbrev pub Reader : Type 0 → Type 0
Reader X = List ℕ → Option (X × List ℕ)

-- reads no word and gives this value
abbrev pub always : {X : Type 0} → X → Reader X
always x words = Some (x, words)

-- reads one word modulo n
abbrev pub below : ℕ → Reader ℕ
below n [] = None
below n (w ∷ words) = Some (w % n, words)

-- continues a reading with the reader that depends on the value read
abbrev pub going_on : {X Y : Type 0} → Option (X × List ℕ) → (X → Reader Y) → Option (Y × List ℕ)
going_on None next = None
going_on (Some r) next = next r.0 r.1

-- reads a value, and then continues with the reader that depends on the value
abbrev pub followed_by : {X Y : Type 0} → Reader X → (X → Reader Y) → Reader Y
followed_by first next words = going_on (first words) next

-- reads the items of the first reader, and then the items of the second reader
abbrev pub joined : {X : Type 0} → Reader (List X) → Reader (List X) → Reader (List X)
joined first second = followed_by first (λ xs. followed_by second (λ ys. always (xs ++ ys)))

-- reads a list of one item
abbrev pub one : {X : Type 0} → Reader X → Reader (List X)
one reader = followed_by reader (λ x. always (x ∷ []))

-- reads the items for each number from 1 to n, in this order
abbrev pub for_each : {X : Type 0} → ℕ → (ℕ → Reader (List X)) → Reader (List X)
for_each zero f = always []
for_each (suc n) f = joined (for_each n f) (f (suc n))

-- reads n items, one after the other
abbrev pub times_over : {X : Type 0} → ℕ → Reader X → Reader (List X)
times_over n reader = for_each n (λ _. one reader)

-- the reader reads exactly these words, whatever follows them, and gives x
abbrev pub Reads : {X : Type 0} → Reader X → List ℕ → X → Type 0
Reads reader words x = (rest : List ℕ) → reader (words ++ rest) ≡ Some (x, rest)

-- some words were drawn from the first state to the last state, and exactly from these words the
-- reader reads x
pub record Drawn {D X : Type 0} (leads : D → ℕ → D → Type 0) (reader : Reader X)
    (state : D) (x : X) (last : D) : Type 0 where
  pub words : List ℕ
  pub drew : Drew leads state words last
  pub reads : Reads reader words x
