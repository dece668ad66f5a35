-- The commands of a trip keep the prices of items.
use Rattle.std.proofs.Common.{◌≡◌, ◌≢◌, ℕ, ◌+◌, Some, refl, sym, ap, ◌∙◌, inl, inr}
use Rattle.std.specs.Prelude.{Option, None, nat_lt}
use Rattle.std.specs.Option.{option_map}
use Rattle.std.specs.FinMap.{empty, get, insert}
use Rattle.vac_model.specs.declared.items.Kind.{Kind}
use Rattle.vac_model.specs.declared.items.Item.{Item}
use Rattle.vac_model.specs.declared.items.Booking.{Booking}
use Rattle.vac_model.specs.State.{State, Place, Bookings, item_of, with_item, bookings_of, with_bookings, is_full}
use Rattle.vac_model.specs.Step.{Outcome, price_of, taken, new_customer, reserve, book_new, book_more}
use Rattle.vac_model.specs.Step.{new_booking, extended, unit_limit}
use Rattle.vac_model.proofs.Balance.{item_here, item_elsewhere}
use Rattle.vac_model.proofs.Kept.{found_both, if_both}
use Rattle.vac_model.proofs.Places.{place_cmp_total, place_cmp-IsAntisymmetric}
use Rattle.vac_model.proofs.States.{item_of-with_bookings}
use Rattle.vac_model.proofs.Sums.{either_key}

-- the price of an item that is there, or none
abbrev price_in : Option Item → Option ℕ
price_in o = option_map (λ item. item.price) o

-- an item gets other numbers and keeps its price
same_price : (s : State) (kind : Kind) (id : ℕ) (item old : Item) (k : Kind) (i : ℕ) → item_of s kind id ≡ Some old →
    item.price ≡ old.price → price_of (with_item s kind id item) k i ≡ price_of s k i
same_price s kind id item old k i there same =
    elim (either_key place_cmp_total place_cmp-IsAntisymmetric (k, i) (kind, id)) [
      | inl here ↦
          ap (λ (p : Place). price_of (with_item s kind id item) p.0 p.1) here
          ∙ ap price_in (item_here s kind id item) ∙ ap (λ (n : ℕ). Some n) same
          ∙ sym (ap (λ (p : Place). price_of s p.0 p.1) here ∙ ap price_in there)
      | inr apart ↦ ap price_in (item_elsewhere s kind id item k i apart)
    ]

-- an outcome keeps the price of an item
abbrev KeepsPrice : State → Kind → ℕ → Outcome → Type 0
KeepsPrice s k i o = price_of o.0 k i ≡ price_of s k i

-- some units of an item are booked
module _ (s : State) (customer : ℕ) (kind : Kind) (id num : ℕ) (b : Bookings) (item : Item) (k : Kind) (i : ℕ)
    (there : item_of s kind id ≡ Some item) where
  booked : (x : Booking) →
      price_of (with_item (with_bookings s customer (insert b (kind, id) x)) kind id (taken item num)) k i ≡
      price_of s k i
  booked x =
      let after = insert b (kind, id) x in
      same_price (with_bookings s customer after) kind id (taken item num) item k i
      (item_of-with_bookings s customer after kind id ∙ there) refl
      ∙ ap price_in (item_of-with_bookings s customer after k i)

  new_keeps : KeepsPrice s k i (book_new s customer kind id num b item)
  new_keeps = if_both (KeepsPrice s k i) (is_full s) _ _ (λ full. refl) (λ room. booked (new_booking num item.price))

  more_keeps : (x : Booking) → KeepsPrice s k i (book_more s customer kind id num b item x)
  more_keeps x = if_both (KeepsPrice s k i) (nat_lt unit_limit (x.units + num)) _ _ (λ over. refl)
      (λ under. booked (extended x num item.price))

pub reserve_keeps : (s : State) (customer : ℕ) (kind : Kind) (id num : ℕ) (k : Kind) (i : ℕ) →
    price_of (reserve s customer kind id num).0 k i ≡ price_of s k i
reserve_keeps s customer kind id num k i =
    found_both (KeepsPrice s k i) (bookings_of s customer) _ _ (λ none. refl) (λ b h.
    found_both (KeepsPrice s k i) (item_of s kind id) _ _ (λ none. refl) (λ item there.
    if_both (KeepsPrice s k i) (nat_lt item.free num) _ _ (λ short. refl) (λ enough.
    found_both (KeepsPrice s k i) (get b (kind, id)) _ _
    (λ none. new_keeps s customer kind id num b item k i there)
    (λ x found. more_keeps s customer kind id num b item k i there x))))

pub new_customer_keeps : (s : State) (id : ℕ) (k : Kind) (i : ℕ) →
    price_of (new_customer s id).0 k i ≡ price_of s k i
new_customer_keeps s id k i =
    found_both (KeepsPrice s k i) (bookings_of s id) _ _
    (λ none. if_both (KeepsPrice s k i) (is_full s) _ _ (λ full. refl)
    (λ room. ap price_in (item_of-with_bookings s id empty k i)))
    (λ b there. refl)
