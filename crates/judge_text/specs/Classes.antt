-- Classes of names: names that were joined are in one class.
use Rattle.std.specs.Prelude.{◌≡◌, ◌≢◌, ◌<◌, ◌≤◌, ℕ, Option, Some, None, List, [], length, map, get_or}
use Rattle.std.specs.Ordering.{nat_cmp}
use Rattle.std.specs.Cmp.Lexicographic.{slice_cmp}
use Rattle.std.specs.BTreeMap.{get_by}
use Rattle.judge_text.specs.declared.classes.Classes.{Classes}

-- the place of a name, if it was joined with another
abbrev pub place_in : Classes → List ℕ → Option ℕ
place_in classes name = get_by (λ key. slice_cmp nat_cmp name key.items) classes.places

-- the name at a place
abbrev pub name_at : Classes → ℕ → List ℕ
name_at classes place = get_or (map (λ name. name.items) classes.names.items) place []

-- the place of a name of the class of that at a place, nearer to the one that names the class
abbrev pub parent_at : Classes → ℕ → ℕ
parent_at classes place = get_or classes.parents.items place place

-- the name at the parent of a place, or the name itself if it has no place
abbrev pub class_at : Classes → List ℕ → Option ℕ → List ℕ
class_at classes name None = name
class_at classes name (Some place) = name_at classes (parent_at classes place)

-- the name of a name's class, when all parents name their classes
abbrev pub class_of : Classes → List ℕ → List ℕ
class_of classes name = class_at classes name (place_in classes name)

-- a function gives the same for all names of a class
abbrev pub IsOneForEach : (List ℕ → List ℕ) → Classes → Type 0
IsOneForEach g classes = (place : ℕ) → place < length classes.parents.items →
    g (name_at classes place) ≡ g (name_at classes (parent_at classes place))

-- each name has its place, and parents come before their children or are their own
pub record AreWellFormed (classes : Classes) : Type 0 where
  pub long : length classes.names.items ≡ length classes.parents.items
  pub below : (place : ℕ) → place < length classes.parents.items →
      parent_at classes place ≤ place
  pub found : (name : List ℕ) (place : ℕ) → place_in classes name ≡ Some place →
      (place < length classes.parents.items) × (name_at classes place ≡ name)
  pub listed : (place : ℕ) → place < length classes.parents.items →
      place_in classes (name_at classes place) ≡ Some place

-- a name has this place
pub record HasPlace (classes : Classes) (name : List ℕ) (place : ℕ) : Type 0 where
  pub within : place < length classes.parents.items
  pub is : name_at classes place ≡ name

-- names keep the places that they have
abbrev pub KeepsPlaces : Classes → Classes → Type 0
KeepsPlaces old new = (name : List ℕ) (place : ℕ) → HasPlace old name place →
    HasPlace new name place

-- a place has this parent, and all else is the same
pub record HasParent (old new : Classes) (place parent : ℕ) : Type 0 where
  pub names : new.names ≡ old.names
  pub places : new.places ≡ old.places
  pub long : length new.parents.items ≡ length old.parents.items
  pub own : parent_at new place ≡ parent
  pub others : (other : ℕ) → other ≢ place → parent_at new other ≡ parent_at old other

-- no name was joined with another
abbrev pub HasNoClass : Classes → Type 0
HasNoClass classes = (g : List ℕ → List ℕ) → IsOneForEach g classes

-- the classes of two names, and no others, have become one class
abbrev pub AreJoined : List ℕ → List ℕ → Classes → Classes → Type 0
AreJoined name other old new = (g : List ℕ → List ℕ) →
    (IsOneForEach g new → IsOneForEach g old × (g name ≡ g other))
    × (IsOneForEach g old → g name ≡ g other → IsOneForEach g new)

-- the classes are the same
abbrev pub AreSameClasses : Classes → Classes → Type 0
AreSameClasses old new = (g : List ℕ → List ℕ) →
    (IsOneForEach g new → IsOneForEach g old) × (IsOneForEach g old → IsOneForEach g new)

-- all names at these places, and before, name their classes as their parents
abbrev pub AreFlatTo : ℕ → Classes → Type 0
AreFlatTo end classes = (place : ℕ) → place < end →
    parent_at classes (parent_at classes place) ≡ parent_at classes place
