-- The customers and items that words name.
use Rattle.std.specs.Prelude.{ℕ, ◌&&◌, ◌||◌, Bool, Option, Some, None, List, [], ◌∷◌, length, nat_le, if◌then◌else◌}
use Rattle.vac_model.specs.declared.items.Kind.{Kind}
use Rattle.vac_model.specs.declared.limits.TheConstants.{MOST_ID}
use Rattle.vac_model.specs.State.{Place}
use Rattle.vac_lines.specs.Words as words
use Rattle.judge_reservations.specs.declared.scope.Names.{Names}
use Rattle.judge_part_text.specs.declared.naming.TheConstants.{MOST_NAMES, ID_DIGITS}

-- some customers and some items
abbrev pub Named : Type 0
Named = List ℕ × List Place

-- customers and items, as code has them
abbrev pub shown : Names → Named
shown names = (names.customers.items, names.items.items)

-- the id that a word writes
abbrev pub id_of : List ℕ → Option ℕ
id_of word = words.number_between ID_DIGITS 1 MOST_ID word

-- the kind of item that a word names
abbrev pub kind_of : List ℕ → Option Kind
kind_of word = words.kind_of word

module _ {A B : Type 0} where
  -- two values, if there are both
  abbrev pub both : Option A → Option B → Option (A × B)
  both (Some a) (Some b) = Some (a, b)
  both _ _ = None

module _ {A : Type 0} where
  -- a value before those behind it, if there are all of them
  abbrev pub before : Option A → Option (List A) → Option (List A)
  before (Some first) (Some rest) = Some (first ∷ rest)
  before _ _ = None

-- the item that two words name
abbrev pub item_of : List ℕ → List ℕ → Option Place
item_of kind id = both (kind_of kind) (id_of id)

-- the ids that words write, if each word writes one
abbrev pub ids_of : List (List ℕ) → Option (List ℕ)
ids_of [] = Some []
ids_of (word ∷ words) = before (id_of word) (ids_of words)

-- the items that words name, two words for each, if they do
abbrev pub items_of : List (List ℕ) → Option (List Place)
items_of [] = Some []
items_of (kind ∷ []) = None
items_of (kind ∷ id ∷ words) = before (item_of kind id) (items_of words)

-- true if these numbers of customers and of items are few enough, and one of them is not 0
abbrev pub are_few : ℕ → ℕ → Bool
are_few customers items = nat_le customers MOST_NAMES && nat_le items MOST_NAMES
    && (nat_le 1 customers || nat_le 1 items)

-- customers and items, if they are few enough and at least one
abbrev pub few_of : Option Named → Option Named
few_of (Some names) =
    if are_few (length names.0) (length names.1) then Some names else None
few_of None = None

-- the customers and items that words name, if each word is a name, and the names are few enough and
-- at least one
abbrev pub names_of : List (List ℕ) → List (List ℕ) → Option Named
names_of customers items = few_of (both (ids_of customers) (items_of items))
