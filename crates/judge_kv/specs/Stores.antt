-- A key-value store: its keys with their values, in the order of the keys' bytes. A key that has no
-- value is none of them.
use Rattle.std.specs.Prelude.{◌≡◌, ◌<◌, ℕ, Option, Some, None, List, [], ◌∷◌, length, get_or, if◌then◌else◌}
use Rattle.std.specs.Ordering.{is_lt, nat_cmp}
use Rattle.std.specs.Cmp.Lexicographic.{slice_cmp}
use Rattle.std.specs.Str.{bytes_eq}
use Rattle.judge_kv.specs.Rules.{Held}

-- the keys of a store with their values
abbrev pub Pairs : Type 0
Pairs = List (List ℕ × List ℕ)

-- what a key has
abbrev pub held_at : List ℕ → Pairs → Held
held_at key [] = None
held_at key (pair ∷ pairs) = if bytes_eq pair.0 key then Some pair.1 else held_at key pairs

-- the store without this key
abbrev pub without : List ℕ → Pairs → Pairs
without key [] = []
without key (pair ∷ pairs) =
    if bytes_eq pair.0 key then without key pairs else pair ∷ without key pairs

-- the store with this key, which it has not yet, and its value
abbrev pub among : List ℕ → List ℕ → Pairs → Pairs
among key value [] = (key, value) ∷ []
among key value (pair ∷ pairs) =
    if is_lt (slice_cmp nat_cmp pair.0 key) then pair ∷ among key value pairs
    else (key, value) ∷ pair ∷ pairs

-- the store in which a key has this value, or none
abbrev pub with_held : List ℕ → Held → Pairs → Pairs
with_held key None pairs = without key pairs
with_held key (Some value) pairs = among key value (without key pairs)

-- the first pair with this key stands at this place, or there is none
abbrev pub IsPlaceOf : List ℕ → Pairs → Option ℕ → Type 0
IsPlaceOf key pairs None = held_at key pairs ≡ None
IsPlaceOf key pairs (Some place) =
    (place < length pairs)
    × ((d : List ℕ × List ℕ) → held_at key pairs ≡ Some (get_or pairs place d).1)
    × ((d : List ℕ × List ℕ) → (get_or pairs place d).0 ≡ key)
