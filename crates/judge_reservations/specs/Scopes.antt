-- Scopes: some customers and some items of the reservation system.
use Rattle.std.specs.Prelude.{◌≡◌, ℕ, Bool, true, List, [], ◌==◌, ◌&&◌, ◌||◌, not}
use Rattle.std.specs.List.{list_any}
use Rattle.vac_model.specs.State.{Place, kind_number}
use Rattle.judge_reservations.specs.declared.scope.Scope.{Scope}

-- tests if a list has a customer
abbrev pub is_among : List ℕ → ℕ → Bool
is_among customers c = list_any (λ x. x == c) customers

-- tests if a list has an item
abbrev pub is_place_among : List Place → Place → Bool
is_place_among places place =
    list_any (λ x. kind_number x.0 == kind_number place.0 && x.1 == place.1) places

-- tests if a customer belongs to the scope
abbrev pub has_customer : Scope → ℕ → Bool
has_customer scope c = is_among scope.customers.items c

-- tests if an item belongs to the scope
abbrev pub has_item : Scope → Place → Bool
has_item scope place = is_place_among scope.items.items place

-- tests if an item belongs to the scope and is closed
abbrev pub is_closed : Scope → Place → Bool
is_closed scope place = has_item scope place && is_place_among scope.closed.items place

-- tests if a customer belongs to the scope and is whole
abbrev pub is_whole : Scope → ℕ → Bool
is_whole scope c = has_customer scope c && is_among scope.whole.items c

-- tests if a booking leaves closed items closed and whole customers whole
abbrev pub allows : Scope → ℕ → Place → Bool
allows scope c place =
    (has_customer scope c || not (is_closed scope place))
    && (has_item scope place || not (is_whole scope c))

-- the scope of these customers and items on which no item is closed and no customer is whole
pub record IsOpen (customers : List ℕ) (items : List Place) (scope : Scope) : Type 0 where
  pub customers_are : scope.customers.items ≡ customers
  pub items_are : scope.items.items ≡ items
  pub closed : scope.closed.items ≡ []
  pub whole : scope.whole.items ≡ []

-- the first scope has the customers and the items of the second scope, and no closed items and no
-- whole customers but those of the second scope. So a part on the first scope says no more
pub record IsCoarser (one other : Scope) : Type 0 where
  pub customers : one.customers.items ≡ other.customers.items
  pub items : one.items.items ≡ other.items.items
  pub closed : (place : Place) → is_closed one place ≡ true → is_closed other place ≡ true
  pub whole : (c : ℕ) → is_whole one c ≡ true → is_whole other c ≡ true
