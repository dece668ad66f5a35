-- The invariant of a region's table between any two steps of any threads.
use mathlib.Core.Option.{some}
use lib.ListN.{get_elem?}
use Rattle.std.specs.Prelude.{◌≡◌, ◌≢◌, ℕ, ◌<◌, List, ◌∷◌, ◌++◌, ◌-◌, length}
use Rattle.atomic_table.specs.Table.{State}
use Rattle.stm_core.specs.Client.{Client, RecordLaw}
use Rattle.stm_core.specs.Core.{Core}
use Rattle.stm_core.specs.Invariant.{Rule}
use Rattle.stm_region.specs.Shown.{Opened}
use Rattle.stm_core.specs.Guards.{stripe_of}
use Rattle.stm_region.specs.Layout.{padding}
use Rattle.stm_region.specs.Traced.{IsTraced}
use Rattle.stm_region.specs.declared.layout.TheConstants.{FIRST_LOCK}
use Rattle.stm_core.specs.declared.version.TheConstants.{VERSION_LIMIT}

-- the words of a core in the order of a table: the clock, a gap, the lock words, a padding and the
-- data words
abbrev pub listed : List ℕ → List ℕ → Core → List ℕ
listed gap pad c = c.clock ∷ (gap ++ (c.locks ++ (pad ++ c.cells)))

-- the table's words and all clients' values are those of a core state that meets the version
-- invariant
pub record IsCoreState {S : Type 0} (fits : List ℕ → Type 0) (lawful : RecordLaw) (o : Opened)
    (s : State S Client) : Type 0 where
  pub core : Core
  pub gap : List ℕ
  pub pad : List ℕ
  pub words : s.words ≡ listed gap pad core
  pub views : s.views ≡ core.clients
  pub before_locks : length gap ≡ FIRST_LOCK - 1
  pub locks : length core.locks ≡ o.stripes
  pub before_cells : length pad ≡ padding o.stripes
  pub last : core.last ≡ o.last
  pub opening : core.opening ≡ o.image
  pub first : core.first ≡ o.first
  pub renewal : core.renewal ≡ o.renewal
  pub rule : Rule lawful (stripe_of o.stripes) core
  -- a list of allowed events leads to this core state, apart from the fields that a region does
  -- not keep
  pub traced : IsTraced lawful o core
  pub fitting : fits o.first
  pub bounded : o.last < VERSION_LIMIT
  pub some : 0 < o.stripes

-- P holds of a region's opening and of its table's state, between any two steps of any threads
abbrev pub Always : (List ℕ → Type 0) → RecordLaw →
    (Opened → State (Unit {0}) Client → Type 0) → Type 0
Always fits lawful P = (o : Opened) (s : State (Unit {0}) Client) → IsCoreState fits lawful o s
    → P o s

-- P holds of the value of each client
abbrev pub OfEach : State (Unit {0}) Client → (Client → Type 0) → Type 0
OfEach s P = (i : ℕ) (v : Client) → get_elem? s.views i ≡ some v → P v

-- P holds of the values of every two clients
abbrev pub OfEachTwo : State (Unit {0}) Client → (Client → Client → Type 0) → Type 0
OfEachTwo s P = (i j : ℕ) (v w : Client) → i ≢ j → get_elem? s.views i ≡ some v
    → get_elem? s.views j ≡ some w → P v w
