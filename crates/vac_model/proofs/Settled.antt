-- The units given back are the booked ones, and a bill is the sum of the prices kept.
use Rattle.std.proofs.lemmas.Bool.Decides.{nat_tests}
use Rattle.std.proofs.Common.{◌≡◌, ℕ, ◌+◌, ◌*◌, refl, ap, sym, subst, ◌∙◌, arith}
use Rattle.std.specs.Prelude.{Option, Some, None, nat_lt, if◌then◌else◌}
use Rattle.std.specs.Option.{option_map, option_map_or}
use Rattle.std.specs.FinMap.{get, insert, remove, nat_cmp-IsAntisymmetric}
use Rattle.std.specs.Cmp.{nat_cmp_total}
use Rattle.vac_model.specs.declared.items.Kind.{Kind}
use Rattle.vac_model.specs.declared.items.Item.{Item}
use Rattle.vac_model.specs.declared.commands.Command.TheVariants as command
use Rattle.vac_model.specs.declared.commands.Refusal.TheVariants.{SoldOut, Full, UnitLimit}
use Rattle.vac_model.specs.declared.replies.Reply.{Reply}
use Rattle.vac_model.specs.declared.replies.Reply.TheVariants as reply
use Rattle.vac_model.specs.State.{State, Booking, Bookings, item_of, with_item, bookings_of, with_bookings}
use Rattle.vac_model.specs.State.{units_of, is_full}
use Rattle.vac_model.specs.Step.{Outcome, step, taken, given_back, new_booking, extended}
use Rattle.vac_model.specs.Step.{unit_limit, book_new, book_more, refused, when_found, add_new, new_item}
use Rattle.vac_model.specs.Laws.{IsBilled}
use Rattle.vac_model.proofs.Sums.{get_here, sum-insert}
use Rattle.vac_model.proofs.Places.{place_cmp_total, place_cmp-IsAntisymmetric}
use Rattle.vac_model.proofs.Balance.{item_here, bookings-with_item}
use Rattle.vac_model.proofs.Departure.{item_of-departed}
use Rattle.vac_model.proofs.Kept.{found_both, if_both}

pub cancelled : (s : State) (c : ℕ) (kind : Kind) (id : ℕ) (bookings : Bookings) (b : Booking) (item : Item)
    → bookings_of s c ≡ Some bookings → item_of s kind id ≡ Some item → get bookings (kind, id) ≡ Some b
    → item_of (step s (command.Cancel c kind id)).0 kind id ≡ Some (given_back item b.units)
cancelled s c kind id bookings b item h there found = grind (
  arith,
  nat_tests,
  item_here (with_bookings s c (remove bookings (kind, id))) kind id (given_back item b.units),
)

pub dropped : (s : State) (c : ℕ) (bookings : Bookings) (kind : Kind) (id : ℕ) → bookings_of s c ≡ Some bookings
    → item_of (step s (command.DropCustomer c)).0 kind id ≡ option_map
    (λ item. given_back item (units_of bookings (kind, id))) (item_of s kind id)
dropped s c bookings kind id h = grind (arith, nat_tests, item_of-departed s c bookings kind id)

module _ (s : State) (c : ℕ) (kind : Kind) (id num : ℕ) (bookings : Bookings) (item : Item) where
  -- an outcome that took effect has the bill
  abbrev Bills : Outcome → Type 0
  Bills o = o.1 ≡ reply.Done → IsBilled bookings o.0 c num item.price

  put_bill : (x : Booking) → x.sum ≡ option_map_or (λ b. b.sum) (get bookings (kind, id)) 0 + num * item.price
      → IsBilled bookings (with_item (with_bookings s c (insert bookings (kind, id) x)) kind id (taken item num)) c num
      item.price
  put_bill x sum =
      let after = with_bookings s c (insert bookings (kind, id) x) in
      let sums = sum-insert place_cmp_total place_cmp-IsAntisymmetric (λ (b : Booking). b.sum) bookings (kind, id) x in
      record {
        bookings = insert bookings (kind, id) x;
        there = bookings-with_item after kind id (taken item num) c ∙
            get_here nat_cmp_total nat_cmp-IsAntisymmetric s.customers c (insert bookings (kind, id) x);
        bill = omega (arith, sums, sum);
      }

  new_bill : get bookings (kind, id) ≡ None → Bills (book_new s c kind id num bookings item)
  new_bill none = if_both Bills (is_full s) _ _
      (λ _ e. absurd (let never : ◌≡◌ {A = Reply} (reply.No Full) reply.Done = e in cc))
      (λ _ e.
      let nothing : option_map_or (λ (b : Booking). b.sum) (get bookings (kind, id)) 0 ≡ 0 =
      ap (λ o. option_map_or {T = Booking} (λ b. b.sum) o 0) none in
      put_bill (new_booking num item.price) (omega (arith, nothing)))

  more_bill : (b : Booking) → get bookings (kind, id) ≡ Some b → Bills (book_more s c kind id num bookings item b)
  more_bill b found = if_both Bills (nat_lt unit_limit (b.units + num)) _ _
      (λ _ e. absurd (let never : ◌≡◌ {A = Reply} (reply.No UnitLimit) reply.Done = e in cc))
      (λ _ e.
      let old : option_map_or (λ (x : Booking). x.sum) (get bookings (kind, id)) 0 ≡ b.sum =
      ap (λ o. option_map_or {T = Booking} (λ x. x.sum) o 0) found in
      put_bill (extended b num item.price) (omega (arith, old)))

  -- the outcome after the customer and the item were found
  abbrev found_outcome : Outcome
  found_outcome =
      if nat_lt item.free num then refused s SoldOut
      else when_found (get bookings (kind, id)) (book_new s c kind id num bookings item)
      (book_more s c kind id num bookings item)

  found_bills : Bills found_outcome
  found_bills = if_both Bills (nat_lt item.free num) _ _
      (λ _ e. absurd (let never : ◌≡◌ {A = Reply} (reply.No SoldOut) reply.Done = e in cc))
      (λ _. found_both Bills (get bookings (kind, id)) _ _ new_bill more_bill)

  pub billed : bookings_of s c ≡ Some bookings → item_of s kind id ≡ Some item →
      (step s (command.Reserve c kind id num)).1 ≡ reply.Done
      → IsBilled bookings (step s (command.Reserve c kind id num)).0 c num item.price
  billed h there =
      let whole : step s (command.Reserve c kind id num) ≡ found_outcome = rw (h, there) refl in
      subst Bills (sym whole) found_bills

-- an outcome that leaves the bookings of all customers as they are
abbrev SameBookings : State → Outcome → Type 0
SameBookings s o = (c : ℕ) → bookings_of o.0 c ≡ bookings_of s c

added_new : (s : State) (kind : Kind) (id num : ℕ) (price : Option ℕ) → SameBookings s (add_new s kind id num price)
added_new s kind id num None = λ c. refl
added_new s kind id num (Some price) = grind (
  arith,
  nat_tests,
  if_both,
  bookings-with_item s kind id (new_item num price),
)

-- a price that is replaced changes no bill
pub bookings-add : (s : State) (kind : Kind) (id num : ℕ) (price : Option ℕ) →
    SameBookings s (step s (command.Add kind id num price))
bookings-add s kind id num price = grind (
  arith,
  nat_tests,
  found_both,
  added_new s kind id num price,
  if_both,
  bookings-with_item s kind id,
)
