-- The audit of words as a function. The audit walks the words of a heap in order and returns a
-- report, or the first flaw that it meets. Words 1 to 4 point to the tables of cars, flights,
-- rooms and customers, words 8 to 15 to the lists of free blocks. The blocks begin at word 16, and
-- have eight words each. A node of a table has key, left, right, colour; after them an item has
-- used, free, total, price, and a customer the head of its bookings. A booking has kind, id, sum,
-- next, units. Each flaw has the word at which it was met.
use Rattle.std.specs.Prelude.{ℕ, ◌+◌, ◌*◌, ◌^◌, Bool, true, false, cond, not, ◌&&◌, ◌||◌, List, [], ◌∷◌, length, Result, Ok, Err, nat_eq, nat_lt, nat_le, zero, suc, ◌%◌, sum_by}
use Rattle.tx_alloc.specs.Pool.{held, sum_below, with_at}
use Rattle.tx_alloc.specs.Rows.{Rows, block_at}
use Rattle.tx_alloc.specs.declared.place.TheConstants.{FIRST_BLOCK, BLOCK_WORDS, LISTS, FIRST_HEAD}
use Rattle.vac_bookings.specs.Bookings.{key_code, place_code}
use Rattle.vac_model.specs.declared.limits.TheConstants.{MOST_AMOUNT, MOST_TOTAL, MOST_UNITS}
use Rattle.vac_model.specs.declared.replies.Report.{Report}
use Rattle.vac_records.specs.Heap.{Parts, over}
use Rattle.vac_audit.specs.Tree.{Tree, leaf, node, rows, blacks, is_red}
use Rattle.vac_audit.specs.declared.Flaw.{Flaw}
use Rattle.vac_audit.specs.declared.Flaw.TheVariants.{Pointer, Shared, Lost, Order, Colour, Counts, Bookings}

-- one part of the walk, then the next, unless the first part has a flaw
abbrev pub then : {A B : Type 0} → Result A Flaw → (A → Result B Flaw) → Result B Flaw
then (Ok a) next = next a
then (Err e) next = Err e

-- the flaw, if a test fails
abbrev pub wants : Bool → Flaw → Result (Unit {0}) Flaw
wants true e = Ok tt
wants false e = Err e

-- the blocks that were reached, the latest first, and the walked lists of bookings by their
-- customers' blocks
pub record Seen : Type 0 where
  pub blocks : List ℕ
  pub lists : ℕ → Rows

-- true if p is the first word of a block of a memory of n words
abbrev pub is_place : ℕ → ℕ → Bool
is_place n p =
    nat_le FIRST_BLOCK p && (nat_le (p + BLOCK_WORDS) n && nat_eq (p % BLOCK_WORDS) 0)

-- the pointer in word a: 0, or a block that was not reached before
abbrev pub follow : (ℕ → ℕ) → ℕ → ℕ → List ℕ → Result ℕ Flaw
follow m n a seen = cond (nat_eq (m a) 0) (Ok 0)
    (cond (is_place n (m a))
    (cond (nat_eq (held (m a) seen) 0) (Ok (m a)) (Err (Shared a)))
    (Err (Pointer a)))

-- the least key that may follow these rows, if lo is the least key that may be first
abbrev pub above : ℕ → Rows → ℕ
above lo [] = lo
above lo (r ∷ rs) = above (r.0 + 1) rs

-- Each level of a walk reaches one more block, so a walk with more levels than there are blocks
-- never runs out of them.

-- true if the kind and the id of the booking in block p are in their ranges and above the booking
-- before
abbrev pub is_in_order : (ℕ → ℕ) → ℕ → ℕ → Bool
is_in_order m p lo =
    nat_le (m p) 2 &&
    (nat_le 1 (m (p + 1)) && (nat_lt (m (p + 1)) (2 ^ 32) && nat_le lo (place_code m p)))

-- true if the units and the sum of the booking in block p are in their ranges and its item is in
-- the tables
abbrev pub is_booking : (ℕ → ℕ) → (ℕ → Rows) → ℕ → Bool
is_booking m tables p =
    nat_le 1 (m (p + 4)) &&
    (nat_le (m (p + 4)) MOST_UNITS &&
    (nat_le (m (p + 2)) (m (p + 4) * MOST_AMOUNT) &&
    not (nat_eq (block_at (tables (m p)) (m (p + 1))) 0)))

-- the bookings from the pointer in word a on, whose least code may be lo. The pointer is followed,
-- then the order is tested, then the booking; the walk goes on at the word that points to the next
-- booking
abbrev pub walk_bookings : (ℕ → ℕ) → ℕ → (ℕ → Rows) → ℕ → ℕ → ℕ → List ℕ →
    Result (Rows × List ℕ) Flaw
walk_bookings m n tables zero a lo seen = Err (Shared a)
walk_bookings m n tables (suc levels) a lo seen =
    then (follow m n a seen) (λ p. cond (nat_eq p 0) (Ok ([], seen))
    (then (wants (is_in_order m p lo) (Order p)) (λ _.
    then (wants (is_booking m tables p) (Bookings p)) (λ _.
    then (walk_bookings m n tables levels (p + 3) (place_code m p + 1) (p ∷ seen)) (λ x.
    Ok ((place_code m p, p) ∷ x.0, x.1))))))

-- the test of a node besides its key, by the node's block
abbrev pub Look : Type 0
Look = ℕ → Seen → Result Seen Flaw

-- true if the numbers of the item in block p are in their ranges and consistent
abbrev pub is_item : (ℕ → ℕ) → ℕ → Bool
is_item m p =
    nat_le 1 (m (p + 6)) &&
    (nat_le (m (p + 6)) MOST_TOTAL &&
    (nat_eq (m (p + 4) + m (p + 5)) (m (p + 6)) && nat_le (m (p + 7)) MOST_AMOUNT))

-- the test of an item: its numbers
abbrev pub look_at_item : (ℕ → ℕ) → Look
look_at_item m p s = then (wants (is_item m p) (Counts (p + 4))) (λ _. Ok s)

-- the test of a customer: its bookings are walked
abbrev pub look_at_customer : (ℕ → ℕ) → ℕ → (ℕ → Rows) → ℕ → Look
look_at_customer m n tables levels p s =
    then (walk_bookings m n tables levels (p + 4) 0 s.blocks) (λ x.
    Ok (record { blocks = x.1; lists = with_at s.lists p x.0 }))

-- true if the key in block p is in its range and above the keys before it
abbrev pub is_key : (ℕ → ℕ) → ℕ → ℕ → Bool
is_key m p lo = nat_le lo (m p) && nat_lt (m p) (2 ^ 32)

-- true if c is a valid colour of a node with these sides: black 0, or red 1 over no red side, and
-- with as many black nodes down one side as down the other
abbrev pub is_coloured : ℕ → Tree → Tree → Bool
is_coloured c l t =
    nat_le c 1 && (not (nat_eq c 1 && (is_red l || is_red t)) && nat_eq (blacks l) (blacks t))

-- the tree that the pointer in word a leads to, whose least key may be lo. The pointer is
-- followed; then come the left side, the node itself, the right side, and the node's colour
abbrev pub walk_tree : (ℕ → ℕ) → ℕ → Look → ℕ → ℕ → ℕ → Seen → Result (Tree × Seen) Flaw
walk_tree m n look zero a lo s = Err (Shared a)
walk_tree m n look (suc levels) a lo s =
    then (follow m n a s.blocks) (λ p. cond (nat_eq p 0) (Ok (leaf, s))
    (then (walk_tree m n look levels (p + 1) lo (record s { blocks = p ∷ s.blocks })) (λ l.
    then (wants (is_key m p (above lo (rows l.0))) (Order p)) (λ _.
    then (look p l.1) (λ s'.
    then (walk_tree m n look levels (p + 2) (m p + 1) s') (λ t.
    then (wants (is_coloured (m (p + 3)) l.0 t.0) (Colour (p + 3))) (λ _.
    Ok (node (nat_eq (m (p + 3)) 1) l.0 (m p, p) t.0, t.1))))))))

-- the table with this root word: its tree, with keys from 1 on and a black root
abbrev pub walk_table : (ℕ → ℕ) → ℕ → Look → ℕ → ℕ → Seen → Result (Rows × Seen) Flaw
walk_table m n look levels root s =
    then (walk_tree m n look levels root 1 s) (λ x.
    then (wants (not (is_red x.0)) (Colour (m root + 3))) (λ _.
    Ok (rows x.0, x.1)))

-- the free blocks from the pointer in word a on, each linked by its first word
abbrev pub walk_free : (ℕ → ℕ) → ℕ → ℕ → ℕ → List ℕ → Result (List ℕ × List ℕ) Flaw
walk_free m n zero a seen = Err (Shared a)
walk_free m n (suc levels) a seen =
    then (follow m n a seen) (λ p. cond (nat_eq p 0) (Ok ([], seen))
    (then (walk_free m n levels p (p ∷ seen)) (λ x. Ok (p ∷ x.0, x.1))))

-- the first k lists of free blocks, list after list
abbrev pub walk_lists : (ℕ → ℕ) → ℕ → ℕ → ℕ → List ℕ →
    Result ((ℕ → List ℕ) × List ℕ) Flaw
walk_lists m n levels zero seen = Ok ((λ _. []), seen)
walk_lists m n levels (suc k) seen =
    then (walk_lists m n levels k seen) (λ x.
    then (walk_free m n levels (FIRST_HEAD + k) x.1) (λ y.
    Ok (with_at x.0 k y.0, y.1)))

-- the units that a list of bookings has of the item with this code
abbrev pub units_in : (ℕ → ℕ) → ℕ → Rows → ℕ
units_in m code [] = 0
units_in m code (r ∷ rs) = cond (nat_eq r.0 code) (m (r.1 + 4)) 0 + units_in m code rs

-- each item of these rows has as many used units as are booked of it, or the first that has not is
-- the flaw
abbrev pub check_used : (ℕ → ℕ) → Rows → (ℕ → Rows) → ℕ → Rows → Result (Unit {0}) Flaw
check_used m customers lists kind [] = Ok tt
check_used m customers lists kind (r ∷ rs) =
    then (wants (nat_eq (m (r.1 + 4)) (over (units_in m (key_code kind r.0)) customers lists))
    (Bookings (r.1 + 4))) (λ _.
    check_used m customers lists kind rs)

-- each of the first k blocks was reached, or the first that was not is the flaw
abbrev pub check_reached : ℕ → List ℕ → Result (Unit {0}) Flaw
check_reached zero seen = Ok tt
check_reached (suc k) seen =
    then (check_reached k seen) (λ _.
    wants (not (nat_eq (held (FIRST_BLOCK + BLOCK_WORDS * k) seen) 0))
    (Lost (FIRST_BLOCK + BLOCK_WORDS * k)))

-- the first k tables of items, table after table
abbrev pub walk_items : (ℕ → ℕ) → ℕ → ℕ → ℕ → Seen → Result ((ℕ → Rows) × Seen) Flaw
walk_items m n levels zero s = Ok ((λ _. []), s)
walk_items m n levels (suc k) s =
    then (walk_items m n levels k s) (λ x.
    then (walk_table m n (look_at_item m) levels (1 + k) x.1) (λ y.
    Ok (with_at x.0 k y.0, y.1)))

-- the items of the first k tables have as many used units as are booked, or the first that has not
-- is the flaw
abbrev pub check_all_used : (ℕ → ℕ) → (ℕ → Rows) → (ℕ → Rows) → ℕ → Result (Unit {0}) Flaw
check_all_used m tables lists zero = Ok tt
check_all_used m tables lists (suc k) =
    then (check_all_used m tables lists k) (λ _. check_used m (tables 3) lists k (tables k))

-- the walk of a heap of this many blocks with this many levels: the tables of items, the customers
-- with their bookings, the used units, the free blocks, and then the blocks that were not reached
abbrev pub walk_by : (ℕ → ℕ) → ℕ → ℕ → Result Parts Flaw
walk_by m blocks levels =
    let n = FIRST_BLOCK + BLOCK_WORDS * blocks in
    then (walk_items m n levels 3 (record { blocks = []; lists = λ _. [] })) (λ items.
    then (walk_table m n (look_at_customer m n items.0 levels) levels 4 items.1) (λ customers.
    then (check_all_used m (with_at items.0 3 customers.0) customers.1.lists 3) (λ _.
    then (walk_lists m n levels LISTS customers.1.blocks) (λ free.
    then (check_reached blocks free.1) (λ _.
    Ok (record {
      tables = with_at items.0 3 customers.0;
      lists = customers.1.lists;
      free = free.0;
      out = [];
    }))))))

-- the walk of a heap of this many blocks, with one level more than blocks
abbrev pub walk : (ℕ → ℕ) → ℕ → Result Parts Flaw
walk m blocks = walk_by m blocks (suc blocks)

-- a word of each item, summed over the three tables
abbrev pub sum_items : (ℕ → ℕ) → ℕ → (ℕ → Rows) → ℕ
sum_items m word tables = sum_below 3 (λ i. sum_by (λ r. m (r.1 + word)) (tables i))

-- the report of the walked parts of a heap
abbrev pub report_of : (ℕ → ℕ) → Parts → Report
report_of m p = record {
  cars = length (p.tables 0);
  flights = length (p.tables 1);
  rooms = length (p.tables 2);
  customers = length (p.tables 3);
  bookings = over (sum_by (λ r. m (r.1 + 4))) (p.tables 3) p.lists;
  used = sum_items m 4 p.tables;
  free = sum_items m 5 p.tables;
  total = sum_items m 6 p.tables;
  billed = over (sum_by (λ r. m (r.1 + 2))) (p.tables 3) p.lists;
}

-- the audit of the words of a heap of this many blocks: the report, or the first flaw
-- Not said: that this order of the walk is that of the rules, beyond the heaps of
-- `damaged_words_have_their_flaws`: it is read here.
abbrev pub audit : (ℕ → ℕ) → ℕ → Result Report Flaw
audit m blocks = then (walk m blocks) (λ p. Ok (report_of m p))
