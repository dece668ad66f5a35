-- The largest sets of closed items and whole customers that a history allows.
use Rattle.std.specs.Prelude.{◌≡◌, ℕ, true, List}
use Rattle.std.specs.List.{list_all}
use Rattle.vac_model.specs.State.{Place}
use Rattle.vac_model.specs.declared.tasks.Task.{Task}
use Rattle.judge_object.specs.Call.{Call}
use Rattle.judge_reservations.specs.declared.scope.Scope.{Scope}
use Rattle.judge_reservations.specs.Scopes.{is_among, is_place_among, is_closed, is_whole}
use Rattle.judge_reservations.specs.Lines.{has_part}

-- a scope of these customers and items, on which all calls have parts
pub record IsScopeOf (customers : List ℕ) (items : List Place) (calls : List (Call Task))
    (scope : Scope) : Type 0 where
  pub customers_are : scope.customers.items ≡ customers
  pub items_are : scope.items.items ≡ items
  pub parts : list_all (has_part scope) calls ≡ true

-- the items that are closed on some scope of these customers and items, on which all calls have
-- parts
abbrev pub HasAllClosed : List ℕ → List Place → List (Call Task) → List Place → Type 0
HasAllClosed customers items calls closed =
    (other : Scope) → IsScopeOf customers items calls other →
    (place : Place) → is_closed other place ≡ true → is_place_among closed place ≡ true

-- the customers that are whole on some scope of these customers and items, on which all calls have
-- parts
abbrev pub HasAllWhole : List ℕ → List Place → List (Call Task) → List ℕ → Type 0
HasAllWhole customers items calls whole = (other : Scope) → IsScopeOf customers items calls other →
    (c : ℕ) → is_whole other c ≡ true → is_among whole c ≡ true

-- this item is closed on some scope of these customers and items, on which all calls have parts
pub record MayClose (customers : List ℕ) (items : List Place) (calls : List (Call Task))
    (place : Place) : Type 0 where
  pub scope : Scope
  pub is_scope : IsScopeOf customers items calls scope
  pub closed : is_place_among scope.closed.items place ≡ true

-- each of these items is closed on some scope of these customers and items, on which all calls have
-- parts
abbrev pub MayCloseEach : List ℕ → List Place → List (Call Task) → List Place → Type 0
MayCloseEach customers items calls closed = (place : Place) →
    is_place_among closed place ≡ true → MayClose customers items calls place

-- this customer is whole on some scope of these customers and items, on which all calls have parts
pub record MayBeWhole (customers : List ℕ) (items : List Place) (calls : List (Call Task)) (c : ℕ)
    : Type 0 where
  pub scope : Scope
  pub is_scope : IsScopeOf customers items calls scope
  pub whole : is_among scope.whole.items c ≡ true

-- each of these customers is whole on some scope of these customers and items, on which all calls
-- have parts
abbrev pub MayBeWholeEach : List ℕ → List Place → List (Call Task) → List ℕ → Type 0
MayBeWholeEach customers items calls whole = (c : ℕ) →
    is_among whole c ≡ true → MayBeWhole customers items calls c

-- no scope of these customers and items has parts of all calls
abbrev pub HasNoScope : List ℕ → List Place → List (Call Task) → Type 0
HasNoScope customers items calls = (scope : Scope) → IsScopeOf customers items calls scope → ⊥
