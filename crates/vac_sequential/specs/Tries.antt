-- A finite map as a trie: the value at 0, and for each digit from 0 to 3 the map of those ids n
-- above 0 for which (n - 1) mod 4 is the digit.
use Rattle.std.specs.Prelude.{◌≡◌, ◌≢◌, Bool, true, false, ℕ, ◌+◌, ◌*◌, ◌==◌, max, List, [], ◌∷◌, ◌++◌, map, sum_by, Option, Some, None, if◌then◌else◌}
use Rattle.std.specs.Ordering.{nat_cmp}
use Rattle.std.specs.FinMap as fin
use Rattle.std.specs.FinMap.{FinMap}
use Rattle.std.specs.declared.rc.Rc.{Rc}
use Rattle.std.specs.declared.alloc.Global.{Global}
use Rattle.vac_sequential.specs.declared.tries.Parts.{Parts}
use Rattle.vac_sequential.specs.declared.tries.Kids.{Kids}
use Rattle.vac_sequential.specs.declared.tries.Node.{Node}
use Rattle.vac_sequential.specs.declared.tries.Node.TheVariants.{Empty, Bare, Full}

-- finite maps from ids to values
abbrev pub Ids : Type 0 → Type 0
Ids V = FinMap nat_cmp V

-- a shared reference to a trie, seen as its map and its depth
abbrev pub Link : Type 0 → Type 0
Link V = Rc (Ids V × ℕ) Global

module _ {V : Type 0} where
  -- the map of a link
  abbrev pub map_in : Link V → Ids V
  map_in rc = rc.value.0

  -- the depth of a link
  abbrev pub depth_in : Link V → ℕ
  depth_in rc = rc.value.1

  -- the map at a root; the empty map if there is no root
  abbrev pub map_at : Option (Link V) → Ids V
  map_at None = fin.empty
  map_at (Some rc) = rc.value.0

  -- the value of an optional reference
  abbrev pub value_in : Option (Rc V Global) → Option V
  value_in None = None
  value_in (Some rc) = Some rc.value

  -- the entries of a digit's map, at their ids in the whole map
  abbrev pub spread : ℕ → List (ℕ × V) → List (ℕ × V)
  spread d es = map (λ e. (4 * e.0 + 1 + d, e.1)) es

  -- the entry at 0, if there is a value
  abbrev pub first_entry : Option (Rc V Global) → List (ℕ × V)
  first_entry None = []
  first_entry (Some rc) = (0, rc.value) ∷ []

  -- the entries of the map with these parts
  abbrev pub woven : Option (Rc V Global) → Ids V → Ids V → Ids V → Ids V → List (ℕ × V)
  woven v a b c d =
      first_entry v ++ (spread 0 (fin.entries a) ++ (spread 1 (fin.entries b)
      ++ (spread 2 (fin.entries c) ++ spread 3 (fin.entries d))))

  -- the map with these parts
  abbrev pub weave : Option (Rc V Global) → Ids V → Ids V → Ids V → Ids V → Ids V
  weave v a b c d = fin.from_entries (woven v a b c d)

  -- the map of a value with its parts
  abbrev pub map_of : Parts V → Ids V
  map_of p =
      weave p.value (map_in p.kids.zero) (map_in p.kids.one) (map_in p.kids.two)
      (map_in p.kids.three)

  -- the map of a digit
  abbrev pub child_of : Kids V → ℕ → Link V
  child_of k d =
      if d == 0 then k.zero else if d == 1 then k.one else if d == 2 then k.two else k.three

  -- the maps of the digits, with that of digit d and that of digit 0 exchanged
  abbrev pub swapped : Kids V → ℕ → Kids V
  swapped k d =
      if d == 0 then k
      else if d == 1 then record k { zero = k.one; one = k.zero }
      else if d == 2 then record k { zero = k.two; two = k.zero }
      else record k { zero = k.three; three = k.zero }

  -- the parts of a value and of the maps of the digits
  abbrev pub parts_of : Option (Rc V Global) → Kids V → Parts V
  parts_of v k = record { value = v; kids = k }

  -- the map with this value at an id; the id is removed if the value is None
  abbrev pub with_value : Ids V → ℕ → Option V → Ids V
  with_value m id None = fin.remove m id
  with_value m id (Some x) = fin.insert m id x

  -- the map after a change of the value at an id
  abbrev pub changed_at : (Option V → Option V) → Ids V → ℕ → Ids V
  changed_at f m id = with_value m id (f (fin.get m id))

  -- one more than the greatest depth of the digits' maps
  abbrev pub depth_of : Kids V → ℕ
  depth_of k =
      1 + max (max (depth_in k.zero) (depth_in k.one)) (max (depth_in k.two) (depth_in k.three))

  -- the map and the depth of a node
  abbrev pub seen : Node V → Ids V × ℕ
  seen Empty = (fin.empty, 0)
  seen (Bare k) = (map_of (parts_of None k), depth_of k)
  seen (Full v k) = (map_of (parts_of (Some v) k), depth_of k)

  -- a node with maps of digits has at least one entry
  abbrev pub IsPruned : Node V → Type 0
  IsPruned Empty = Unit {0}
  IsPruned (Bare k) = map_of (parts_of None k) ≢ fin.empty
  IsPruned (Full v k) = map_of (parts_of (Some v) k) ≢ fin.empty

  -- the map is not empty and has these parts, and the depth is that of the parts
  pub record Shows (t : Ids V × ℕ) (v : Option (Rc V Global)) (k : Kids V) : Type 0 where
    pub map : t.0 ≡ map_of (parts_of v k)
    pub full : t.0 ≢ fin.empty
    pub depth : t.1 ≡ depth_of k

-- the answer says whether two values are equal
abbrev pub TellsSame : {A : Type 0} → A → A → Bool → Type 0
TellsSame x y true = x ≡ y
TellsSame x y false = x ≢ y

-- the answer says whether a map has no entry
abbrev pub TellsEmpty : {V : Type 0} → Ids V → Bool → Type 0
TellsEmpty m true = m ≡ fin.empty
TellsEmpty m false = m ≢ fin.empty

-- these are the number of a map's entries and the sum of their weights
abbrev pub IsSummedUp : {V : Type 0} → (V → ℕ) → Ids V → ℕ → ℕ → Type 0
IsSummedUp f m len weight = (len ≡ fin.len m) × (weight ≡ sum_by f (fin.values m))

-- these are the number and the weight that an optional entry adds
abbrev pub EntryAdds : {V : Type 0} → (V → ℕ) → Option V → ℕ → ℕ → Type 0
EntryAdds f None len weight = (len ≡ 0) × (weight ≡ 0)
EntryAdds f (Some x) len weight = (len ≡ 1) × (weight ≡ f x)
