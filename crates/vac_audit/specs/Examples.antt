-- Worked heaps, each with its first flaw.
use Rattle.std.specs.Prelude.{◌≡◌, ℕ, ◌-◌, ◌^◌, List, [], ◌∷◌, ◌++◌, Result, Ok, Err, slice_index}
use Rattle.vac_model.specs.declared.replies.Report.{Report}
use Rattle.vac_audit.specs.Walk.{audit}
use Rattle.vac_audit.specs.declared.Flaw.{Flaw}
use Rattle.vac_audit.specs.declared.Flaw.TheVariants.{Pointer, Shared, Lost, Order, Colour, Counts, Bookings}

-- the words of an item's block
abbrev item : ℕ → ℕ → ℕ → ℕ → ℕ → ℕ → List ℕ
item key left right colour used total =
    key ∷ left ∷ right ∷ colour ∷ used ∷ (total - used) ∷ total ∷ 50 ∷ []

-- the words of a customer's block, whose node has no left side
abbrev customer : ℕ → ℕ → ℕ → ℕ → List ℕ
customer key right colour head = key ∷ 0 ∷ right ∷ colour ∷ head ∷ 0 ∷ 0 ∷ 0 ∷ []

-- the words of a booking's block
abbrev booking : ℕ → ℕ → ℕ → ℕ → ℕ → List ℕ
booking kind id sum next units = kind ∷ id ∷ sum ∷ next ∷ units ∷ 0 ∷ 0 ∷ 0 ∷ []

-- the words of a free block, which points to the next one
abbrev free : ℕ → List ℕ
free next = next ∷ 0 ∷ 0 ∷ 0 ∷ 0 ∷ 0 ∷ 0 ∷ 0 ∷ []

-- the heads of the free lists, of which only lists 3 and 5 have blocks
abbrev heads : ℕ → ℕ → List ℕ
heads third fifth = 0 ∷ 0 ∷ 0 ∷ third ∷ 0 ∷ fifth ∷ 0 ∷ 0 ∷ []

-- the words of these blocks, block after block
abbrev joined : List (List ℕ) → List ℕ
joined [] = []
joined (b ∷ bs) = b ++ joined bs

-- the roots of cars, flights, rooms and customers
abbrev roots : ℕ → ℕ → ℕ → ℕ → List ℕ
roots cars flights rooms customers = cars ∷ flights ∷ rooms ∷ customers ∷ []

-- the word at an address of a heap with these roots, heads and blocks
abbrev heap : List ℕ → List ℕ → List (List ℕ) → ℕ → ℕ
heap tables lists blocks =
    slice_index (0 ∷ (tables ++ (0 ∷ 0 ∷ 0 ∷ (lists ++ joined blocks))))

-- the audit of a heap of four blocks: in 16 a car, in 24 a customer, in 32 the customer's booking,
-- and in 40 a free block
abbrev audit_of : List ℕ → List ℕ → List ℕ → Result Report Flaw
audit_of car book lists =
    audit (heap (roots 16 0 0 24) lists (car ∷ customer 3 0 0 32 ∷ book ∷ free 0 ∷ [])) 4

-- the words of car 7, which has two of its five units booked for 90
abbrev car_7 : List ℕ
car_7 = item 7 0 0 0 2 5

-- the words of the booking of these two units
abbrev two_of_7 : List ℕ
two_of_7 = booking 0 7 90 0 2

-- the audit of that heap with the car replaced
abbrev with_car : List ℕ → Result Report Flaw
with_car car = audit_of car two_of_7 (heads 40 0)

-- the audit of that heap with the booking replaced
abbrev with_booking : List ℕ → Result Report Flaw
with_booking book = audit_of car_7 book (heads 40 0)

-- the audit of that heap with the heads of the free lists replaced
abbrev with_heads : List ℕ → Result Report Flaw
with_heads lists = audit_of car_7 two_of_7 lists

-- the audit of a heap with cars only
abbrev with_cars : ℕ → List (List ℕ) → Result Report Flaw
with_cars blocks cars = audit (heap (roots 16 0 0 0) (heads 0 0) cars) blocks

-- the audit of nine blocks: a car, flight 7, room 9, customers 3 and 4, and two bookings of each
-- customer. Customer 4 has a unit of car 7 and a unit of flight 7
abbrev with_all : List ℕ → List ℕ → List ℕ → Result Report Flaw
with_all car first second =
    audit (heap (roots 16 24 32 40) (heads 0 0)
    (car ∷ item 7 0 0 0 1 8 ∷ item 9 0 0 0 2 4 ∷ customer 3 48 0 56 ∷ customer 4 0 1 72 ∷
    first ∷ second ∷ booking 0 7 50 80 1 ∷ booking 1 7 10 0 1 ∷ [])) 9

-- heaps without a flaw
pub record SoundHeaps : Type 0 where
  pub booked : with_car car_7 ≡ Ok (record {
    cars = 1;
    flights = 0;
    rooms = 0;
    customers = 1;
    bookings = 2;
    used = 2;
    free = 3;
    total = 5;
    billed = 90;
  })
  pub coloured : with_cars 2 (item 2 24 0 0 0 3 ∷ item 1 0 0 1 0 4 ∷ []) ≡ Ok (record {
    cars = 2;
    flights = 0;
    rooms = 0;
    customers = 0;
    bookings = 0;
    used = 0;
    free = 7;
    total = 7;
    billed = 0;
  })
  pub all_tables :
      with_all (item 7 0 0 0 3 5) (booking 0 7 90 64 2) (booking 2 9 140 0 2) ≡ Ok (record {
        cars = 1;
        flights = 1;
        rooms = 1;
        customers = 2;
        bookings = 6;
        used = 6;
        free = 11;
        total = 17;
        billed = 290;
      })

-- heaps with one flaw
pub record OneFlaw : Type 0 where
  pub pointer_into_a_block : with_car (item 7 20 0 0 2 5) ≡ Err (Pointer 17)
  pub pointer_behind_the_last : with_car (item 7 0 48 0 2 5) ≡ Err (Pointer 18)
  pub pointer_to_a_root : with_booking (booking 0 7 90 8 2) ≡ Err (Pointer 35)
  pub booking_behind_itself : with_booking (booking 0 7 90 32 2) ≡ Err (Shared 35)
  pub car_among_the_bookings : with_booking (booking 0 7 90 16 2) ≡ Err (Shared 35)
  pub one_block_in_two_lists : with_heads (heads 40 40) ≡ Err (Shared 13)
  pub key_0 : with_car (item 0 0 0 0 2 5) ≡ Err (Order 16)
  pub key_too_large : with_car (item (2 ^ 32) 0 0 0 2 5) ≡ Err (Order 16)
  pub same_key_twice : with_cars 2 (item 2 24 0 0 0 3 ∷ item 2 0 0 1 0 4 ∷ []) ≡ Err (Order 16)
  pub fourth_kind : with_booking (booking 3 7 90 0 2) ≡ Err (Order 32)
  pub booking_of_id_0 : with_booking (booking 0 0 90 0 2) ≡ Err (Order 32)
  pub bookings_out_of_order :
      with_all (item 7 0 0 0 3 5) (booking 2 9 140 64 2) (booking 0 7 90 0 2) ≡ Err (Order 64)
  pub item_booked_twice :
      with_all (item 7 0 0 0 5 5) (booking 0 7 90 64 2) (booking 0 7 90 0 2) ≡ Err (Order 64)
  pub room_among_the_cars :
      with_all (item 7 0 0 0 3 5) (booking 0 7 90 64 2) (booking 2 7 140 0 2) ≡ Err (Bookings 64)
  pub units_of_one_customer :
      with_all (item 7 0 0 0 2 5) (booking 0 7 90 64 2) (booking 2 9 140 0 2) ≡ Err (Bookings 20)
  pub total_0 : with_car (item 7 0 0 0 0 0) ≡ Err (Counts 20)
  pub total_too_large : with_car (item 7 0 0 0 2 1000000001) ≡ Err (Counts 20)
  pub price_too_large :
      with_car (7 ∷ 0 ∷ 0 ∷ 0 ∷ 2 ∷ 3 ∷ 5 ∷ 1000001 ∷ []) ≡ Err (Counts 20)
  pub more_used_than_there : with_car (item 7 0 0 0 6 5) ≡ Err (Counts 20)
  pub booking_of_no_item : with_booking (booking 0 8 90 0 2) ≡ Err (Bookings 32)
  pub booking_of_no_units : with_booking (booking 0 7 0 0 0) ≡ Err (Bookings 32)
  pub too_many_units : with_booking (booking 0 7 90 0 10001) ≡ Err (Bookings 32)
  pub sum_too_large : with_booking (booking 0 7 2000001 0 2) ≡ Err (Bookings 32)
  pub fewer_used_than_booked : with_car (item 7 0 0 0 1 5) ≡ Err (Bookings 20)
  pub colour_2 : with_car (item 7 0 0 2 2 5) ≡ Err (Colour 19)
  pub red_root : with_car (item 7 0 0 1 2 5) ≡ Err (Colour 19)
  pub uneven : with_cars 2 (item 2 24 0 0 0 3 ∷ item 1 0 0 0 0 4 ∷ []) ≡ Err (Colour 19)
  pub red_below_red :
      with_cars 3 (item 3 24 0 0 0 3 ∷ item 2 32 0 1 0 4 ∷ item 1 0 0 1 0 1 ∷ []) ≡ Err (Colour 27)
  pub lost_block : with_heads (heads 0 0) ≡ Err (Lost 40)

-- heaps with two flaws, of which the first one met is returned
pub record TwoFlaws : Type 0 where
  pub left_before_key : with_car (item 0 20 0 0 2 5) ≡ Err (Pointer 17)
  pub key_before_counts : with_car (item 0 0 0 0 6 5) ≡ Err (Order 16)
  pub counts_before_right : with_car (item 7 0 20 0 6 5) ≡ Err (Counts 20)
  pub right_before_colour : with_car (item 7 0 20 2 2 5) ≡ Err (Pointer 18)
  pub order_before_item : with_booking (booking 3 7 90 0 0) ≡ Err (Order 32)
  pub booking_before_next : with_booking (booking 0 8 90 20 2) ≡ Err (Bookings 32)
  pub cars_before_customers :
      audit_of (item 7 0 0 1 2 5) (booking 3 7 90 0 2) (heads 40 0) ≡ Err (Colour 19)
  pub customers_before_used :
      audit_of (item 7 0 0 0 1 5) (booking 3 7 90 0 2) (heads 40 0) ≡ Err (Order 32)
  pub used_before_free :
      audit_of (item 7 0 0 0 1 5) two_of_7 (heads 20 0) ≡ Err (Bookings 20)
  pub free_before_lost : with_heads (heads 0 20) ≡ Err (Pointer 13)
  pub car_before_room :
      with_all (item 7 0 0 0 2 5) (booking 0 7 90 64 2) (booking 2 9 140 0 3) ≡ Err (Bookings 20)
  pub smallest_lost : with_cars 3 (item 7 0 0 0 0 5 ∷ free 0 ∷ free 0 ∷ []) ≡ Err (Lost 24)
