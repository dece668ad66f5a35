-- Bookings of a customer who goes are given back, always the first one.
use Rattle.std.proofs.Common.{◌≡◌, ◌≢◌, ℕ, ◌+◌, ◌-◌, ◌<◌, ◌≤◌, ◌^◌, List, [], ◌∷◌, length, Some, None, true, refl, sym}
use Rattle.std.proofs.Common.{ap, ◌∙◌, subst, arith, add-zero}
use Rattle.std.specs.Prelude.{IsSome}
use Rattle.std.proofs.lemmas.Grind.{not_there}
use Rattle.std.specs.FinMap.{entries, remove, len, len-entries}
use Rattle.tx_memory.specs.View.{View, Words, Sees, RestsOn, Loaded, memory}
use Rattle.tx_memory.specs.Seen.{some_le}
use Rattle.vac_model.specs.declared.items.Booking.{Booking}
use Rattle.vac_model.specs.declared.commands.Command.TheVariants as command
use Rattle.vac_model.specs.declared.replies.Reply.{Reply}
use Rattle.vac_model.specs.Amounts.{is_id}
use Rattle.vac_model.specs.Balanced.{IsBalanced}
use Rattle.vac_model.proofs.Ids.{id_low, id_high, id_between}
use Rattle.vac_model.specs.Ranges.{is_command}
use Rattle.vac_model.specs.State.{State, Bookings, Place, item_of, bookings_of}
use Rattle.vac_model.specs.Step.{Outcome}
use Rattle.vac_model.proofs.Balance.{some_same}
use Rattle.vac_model.proofs.Views.{not_some}
use Rattle.tx_alloc.specs.Rows.{Rows, times}
use Rattle.tx_alloc.proofs.Times.{times_first}
use Rattle.vac_bookings.specs.Bookings.{IsList, place_code, first_block}
use Rattle.vac_bookings.specs.Lists.{IsListAt, SomeBooking, HasList, First, HasBooking}
use Rattle.vac_bookings.specs.declared.search.Spot.{Spot}
use Rattle.vac_bookings.specs.Search.{SpotAt}
use Rattle.vac_bookings.proofs.Frame.{list_booked}
use Rattle.vac_bookings.proofs.Frame.{linked_first}
use Rattle.vac_bookings.proofs.Spots.{first_spot}
use Rattle.vac_records.specs.Items.{mem, item_in}
use Rattle.vac_records.specs.Bookings.{place_in, place_key, booking_in}
use Rattle.vac_records.specs.Customers.{head_of}
use Rattle.vac_records.specs.Represents.{IsState, bookings_in}
use Rattle.vac_records.specs.InMemory.{HoldsState, OnlyRead}
use Rattle.vac_records.specs.Steps.{kept_none, kept_both, stood}
use Rattle.vac_records.proofs.Booked.{kind_back}
use Rattle.vac_records.proofs.Bridges.{list_there}
use Rattle.vac_records.proofs.Customers.{customer_found}
use Rattle.vac_records.proofs.Items.{item_found}
use Rattle.vac_records.proofs.Counting.{some_lt}
use Rattle.vac_tasks.specs.Entries.{customer_block, LacksItem, HasItemAt, CustomerIsAt}
use Rattle.vac_tasks.specs.BookingSteps.{Here, AtSpot, HasSpot, Lands, ServesCommand}
use Rattle.vac_tasks.specs.CustomerSteps.{HasFirst, StartsAt, PlaceRead, IsLeaving, OneGivenBack, GivenBack}
use Rattle.vac_tasks.proofs.Held.{state_on, item_same, item_is, item_none}
use Rattle.vac_tasks.proofs.Serving.{serves_after, outcome_lands, customer_lands}
use Rattle.vac_tasks.proofs.Owners.{owner_list, spot_same, list_held}
use Rattle.vac_tasks.proofs.Billing.{seated, few_bookings}
use Rattle.vac_tasks.proofs.Dropping.{first_found, cancelled, cancel_is, still_there, drop_same, one_less}

-- the id of a booking in a list
pub id_small : (s s1 s2 : View) (b k v : ℕ) → HasBooking s b → Loaded s s1 (b + 0) k → Loaded s1 s2 (b + 1) v →
    ∥ ((image : List ℕ) × RestsOn s2 image) ∥₁ → v < 2 ^ 32
id_small s s1 s2 b k v has l1 l2 ws = some_lt v (2 ^ 32) ws (λ w.
    let i1 = stood l2.kept w.0 w.1 in
    let t = has.under w.0 (stood l1.kept w.0 i1) in
    let is = list_booked (mem s w.0) (length w.0) t.start b t.entries t.list t.has in
    let at : mem s w.0 (b + 1) ≡ v = rw l1.writes at (l2.answer w.0 w.1.sees) in
    omega (arith, is.id, at))

pub in_a_list : (s : View) (id c b : ℕ) → HoldsState s → StartsAt s id c b → HasBooking s b
in_a_list s id c b held first = record {
  small = held.small;
  under = λ image i. (let t = held.under image i in (first.under image t.0 i t.1).listed);
}

-- the customer's first booking is of this item
record IsFirst (state : State) (id : ℕ) (place : Place) : Type 0 where
  bookings : Bookings
  there : bookings_of state id ≡ Some bookings
  booking : Booking
  rest : List (Place × Booking)
  entries_are : entries bookings ≡ (place, booking) ∷ rest

first_at : (m : ℕ → ℕ) (n : ℕ) (state : State) (id b : ℕ) (place : Place) → HasFirst m n state id b →
    place_in m b ≡ place → IsFirst state id place
first_at m n state id b place f is = record {
  bookings = f.bookings;
  there = f.there;
  booking = booking_in m b;
  rest = f.rest;
  entries_are = f.entries_are ∙ ap (λ (z : Place). (z, booking_in m b) ∷ f.rest) is;
}

item_there : (state : State) (id : ℕ) (place : Place) → IsBalanced state → IsFirst state id place →
    IsSome (item_of state place.0 place.1)
item_there state id place balanced f =
    (balanced.bookings id f.bookings place.0 place.1 f.booking f.there
    (first_found f.bookings place f.booking f.rest f.entries_are)).item

pub reads_of : (s s1 s2 : View) (b : ℕ) (place : Place) → PlaceRead s s1 b place → OnlyRead s1 s2 → OnlyRead s s2
reads_of s s1 s2 b place read r = record {
  kept = kept_both s s1 s2 read.kept r.kept;
  writes = r.writes ∙ read.writes;
}

-- the key of a booking in a list is that of its place
code_is : (m : ℕ → ℕ) (n b : ℕ) (place : Place) → SomeBooking m n b → place_in m b ≡ place →
    place_code m b ≡ place_key place
code_is m n b place t is =
    let k = list_booked m n t.start b t.entries t.list t.has in
    let zero : m (b + 0) ≡ m b = rw add-zero refl in
    omega (arith, zero, kind_back (m b) (omega (arith, k.kind, zero)), ap place_key is)

-- the spot of the first booking
abbrev head_spot : ℕ → ℕ → Spot
head_spot c b = record { link = record { 0 = head_of c }; word = b; entry = Some b }

head_spot_at : (m : ℕ → ℕ) (n : ℕ) (state : State) (h : IsState m n state) (id c b : ℕ) (place : Place) →
    customer_block h id ≡ c → c ≢ 0 → b ≢ 0 → m (head_of c) ≡ b → SomeBooking m n b → place_in m b ≡ place →
    SpotAt m (head_of c) (place_key place) (head_spot c b) (h.represents.parts.lists c)
head_spot_at m n state h id c b place seat c_some b_some leads listed is =
    first_spot m n (head_of c) b (place_key place) (h.represents.parts.lists c)
    (owner_list m n state h id c seat c_some) leads b_some (code_is m n b place listed is)

module _ (s s1 s2 : View) (id c b : ℕ) (place : Place) (read : PlaceRead s s1 b place) (r : OnlyRead s1 s2) where
  place_is : (image : List ℕ) → Sees s2 image → place_in (mem s image) b ≡ place
  place_is image i = read.is image (r.kept.seen image i)

  module _ (held : HoldsState s) (first : StartsAt s id c b) where
    pub item_not_missing : LacksItem s2 place.0 place.1 → ∥ ((image : List ℕ) × RestsOn s2 image) ∥₁ → ⊥
    item_not_missing lacks ws = not_there ws (λ w.
        let image = w.0 in
        let i0 = stood read.kept image (stood r.kept image w.1) in
        let t = held.under image i0 in
        let f = first_at (mem s image) (length image) t.0 id b place (first.under image t.0 i0 t.1)
        (place_is image w.1.sees) in
        let h2 = state_on s s2 image t.0 (r.writes ∙ read.writes) t.1 in
        not_some (item_of t.0 place.0 place.1) (item_none s2 place.0 place.1 lacks image t.0 w.1.sees h2)
        (item_there t.0 id place t.1.small.balanced f))

    ids : (item : ℕ) → HasItemAt s2 place.0 place.1 item → (image : List ℕ) → RestsOn s2 image → is_id place.1 ≡ true
    ids item at image w =
        let t = held.under image (stood read.kept image (stood r.kept image w)) in
        let h2 = state_on s s2 image t.0 (r.writes ∙ read.writes) t.1 in
        let there = item_is s2 place.0 place.1 item at image t.0 w.sees h2 in
        (t.1.small.balanced.items place.0 place.1 (item_in (mem s2 image) item) there).id_range

    pub id_fits : (item : ℕ) → HasItemAt s2 place.0 place.1 item → ∥ ((image : List ℕ) × RestsOn s2 image) ∥₁ →
        place.1 < 2 ^ 32
    id_fits item at ws = some_lt place.1 (2 ^ 32) ws (λ w. id_high place.1 (ids item at w.0 w.1))

    pub cancel_range : (item : ℕ) → is_command (command.DropCustomer id) ≡ true →
        HasItemAt s2 place.0 place.1 item → ∥ ((image : List ℕ) × RestsOn s2 image) ∥₁ →
        is_command (command.Cancel id place.0 place.1) ≡ true
    cancel_range item range at ws =
        let low : 1 ≤ place.1 = some_le 1 place.1 ws (λ w. id_low place.1 (ids item at w.0 w.1)) in
        let high : place.1 < 2 ^ 32 = id_fits item at ws in
        let is : is_id place.1 ≡ true = id_between place.1 low high in
        rw (range, is) refl

    -- the word that leads to the customer's bookings is the spot of the first one
    pub its_spot : CustomerIsAt s id c → HasSpot s2 c place (head_spot c b)
    its_spot customer =
        let e : s2.writes ≡ s.writes = r.writes ∙ read.writes in
        let size : s2.size ≡ s.size = r.kept.size ∙ read.kept.size in
        let b_some : b ≢ 0 = (let low = first.inside.0 in omega arith) in
        record {
          room = omega (arith, customer.inside.1, size);
          within = (first.inside.0, omega (arith, first.inside.1, size));
          at = λ image state i. spot_same s s2 image state c place (head_spot c b) e (λ h.
              let i0 = stood read.kept image (stood r.kept image i) in
              head_spot_at (mem s image) (length image) state h id c b place
              (customer.at image state i0 h) customer.some b_some (first.leads image i0)
              (first.under image state i0 h).listed (place_is image i.sees));
        }

  module _ (s3 : View) (item : ℕ) (reply : Reply) (c_some : c ≢ 0) (b_some : b ≢ 0)
      (at : HasItemAt s2 place.0 place.1 item) (small : place.1 < 2 ^ 32)
      (range : is_command (command.Cancel id place.0 place.1) ≡ true)
      (v : ServesCommand s2 s3 (command.Cancel id place.0 place.1) reply
      (AtSpot id c place.0 place.1 item (head_spot c b)))
    where
      lands : (image : List ℕ) (state : State) → Sees s3 image → (h : IsState (mem s image) (length image) state) →
          customer_block h id ≡ c → mem s image (head_of c) ≡ b →
          HasFirst (mem s image) (length image) state id b → Here h id c place.0 place.1 item × Lands h (mem s3 image)
          (command.Cancel id place.0 place.1) reply
      lands image state i3 h seat leads first =
          let e : s2.writes ≡ s.writes = r.writes ∙ read.writes in
          let i2 = v.kept.seen image i3 in
          let here : Here h id c place.0 place.1 item = record {
            owner_is = seat;
            owner_some = c_some;
            item_is = item_same s2 s image state place.0 place.1 item (sym e) (at.at image state i2) h;
            item_some = at.some;
            small = small;
          } in
          let spot = head_spot_at (mem s image) (length image) state h id c b place seat c_some b_some leads
          first.listed
          (place_is image i2) in
          let all = serves_after s s2 s3 (command.Cancel id place.0 place.1) reply
          (AtSpot id c place.0 place.1 item (head_spot c b)) (reads_of s s1 s2 b place read r) v in
          (here, all.lands image state i3 h (record { here = here; at = spot }))

      left : (image : List ℕ) (state : State) (bookings : Bookings) → Sees s3 image →
          (h : IsState (mem s image) (length image) state) → customer_block h id ≡ c → mem s image (head_of c) ≡ b →
          HasFirst (mem s image) (length image) state id b → bookings_of state id ≡ Some bookings →
          IsLeaving (mem s3 image) (length image) state id c (len bookings - 1)
      left image state bookings i3 h seat leads first there =
          let l = lands image state i3 h seat leads first in
          let out = outcome_lands (mem s image) (mem s3 image) (length image) state
          (command.Cancel id place.0 place.1) reply h range l.1 in
          let f = first_at (mem s image) (length image) state id b place first
          (place_is image (v.kept.seen image i3)) in
          let found = first_found f.bookings place f.booking f.rest f.entries_are in
          let x = item_in (mem s image) item in
          let is_there : item_of state place.0 place.1 ≡ Some x =
          item_found (mem s image) (length image) [] state h.represents place.0 place.1 item
          (record { at = l.0.item_is; some = l.0.item_some }) in
          let after = cancelled state id f.bookings place.0 place.1 x f.booking in
          let e = cancel_is state id f.bookings place.0 place.1 x f.booking f.there is_there found in
          let now : IsState (mem s3 image) (length image) after =
          subst (λ (o : Outcome). IsState (mem s3 image) (length image) o.0) e out.state in
          let same : f.bookings ≡ bookings = some_same f.bookings bookings (sym f.there ∙ there) in
          let fewer = one_less f.bookings place f.booking f.rest f.entries_are in
          let long : len f.bookings ≡ len bookings = ap (λ (z : Bookings). len z) same in
          record {
            state = after;
            is = now;
            seat = customer_lands (mem s image) (mem s3 image) (length image) state after
                (command.Cancel id place.0 place.1) reply h now l.1 id ∙ seat;
            bookings = remove f.bookings place;
            there = still_there state id f.bookings place.0 place.1 x f.booking;
            few = omega (arith, fewer, long);
            drops = drop_same state id f.bookings place.0 place.1 x f.booking f.rest f.there is_there f.entries_are;
          }

      pub one_given : OneGivenBack s s3 id c b
      one_given = record {
        kept = kept_both s s2 s3 (kept_both s s1 s2 read.kept r.kept) v.kept;
        under = left;
      }

-- the word that leads to the bookings
pub bookings_held : (s : View) (id c head : ℕ) → head ≡ c + 4 → HoldsState s → CustomerIsAt s id c → HasList s head
bookings_held s id c head e held at = subst (λ (z : ℕ). HasList s z) (sym e) (list_held s id c held at)

-- the first row of a list
record Opens (m : ℕ → ℕ) (n b : ℕ) (rows : Rows) : Type 0 where
  rest : Rows
  is : bookings_in m rows ≡ (place_in m b, booking_in m b) ∷ bookings_in m rest
  has : 0 < times b rows

opens : (m : ℕ → ℕ) (n b : ℕ) (rows : Rows) → b ≢ 0 → b ≡ first_block rows → Opens m n b rows
opens m n b [] some e = absurd (some e)
opens m n b (r ∷ rs) some e = record {
  rest = rs;
  is = ap (λ (z : ℕ). (place_in m z, booking_in m z) ∷ bookings_in m rs) (sym e);
  has = subst (λ (z : ℕ). 0 < times z (r ∷ rs)) (sym e) (times_first r.0 r.1 rs);
}

no_rows : (m : ℕ → ℕ) (n p : ℕ) (rows : Rows) → IsList m n p rows → 0 ≡ first_block rows → rows ≡ []
no_rows m n p [] h e = refl
no_rows m n p (r ∷ rs) h e = absurd (omega (arith, e, h.linked.0.block.1.1))

-- the first booking of a customer, and the word that leads to it
first_has : (m : ℕ → ℕ) (n : ℕ) (state : State) (h : IsState m n state) (id c b : ℕ) → customer_block h id ≡ c → c ≢ 0 →
    b ≢ 0 → b ≡ first_block (h.represents.parts.lists c) →
    (m (head_of c) ≡ b) × HasFirst m n state id b
first_has m n state h id c b seat c_some some is =
    let t = seated m n state h id c seat c_some in
    let rows = h.represents.parts.lists c in
    let list = list_there m n [] state id c t.bookings h.represents t.is in
    let o = opens m n b rows some is in (
      linked_first m n (m (c + 4)) 0 rows list.list.linked ∙ sym is,
      record {
        bookings = t.bookings;
        there = t.is.there;
        rest = bookings_in m o.rest;
        entries_are = t.entries_are ∙ o.is;
        listed = record { start = m (c + 4); entries = rows; list = list.list; has = o.has };
      },
    )

pub first_found_at : (s s1 : View) (id c head : ℕ) (block : ℕ) → head ≡ c + 4 → c ≢ 0 → First s s1 head (Some block) →
    (image : List ℕ) (state : State) → Sees s1 image → (h : IsState (mem s1 image) (length image) state) →
    customer_block h id ≡ c →
    (mem s1 image (head_of c) ≡ block) × HasFirst (mem s1 image) (length image) state id block
first_found_at s s1 id c head block e c_some f image state i =
    subst (λ (ws : Words). (h : IsState (memory image ws) (length image) state) → customer_block h id ≡ c →
    (memory image ws (head_of c) ≡ block) × HasFirst (memory image ws) (length image) state id block) (sym f.writes)
    (λ h seat.
    let m = mem s image in
    let n = length image in
    let some : block ≢ 0 = (let w = f.within in let low = w.0 in omega arith) in
    let rows = h.represents.parts.lists c in
    let list = owner_list m n state h id c seat c_some in
    let is : block ≡ first_block rows = f.is image rows i (subst (λ (z : ℕ). IsListAt m n z rows) (sym e) list) in
    first_has m n state h id c block seat c_some some is)

pub starts_at : (s s1 : View) (id c head : ℕ) (block : ℕ) → head ≡ c + 4 → HoldsState s1 → CustomerIsAt s1 id c →
    First s s1 head (Some block) → StartsAt s1 id c block
starts_at s s1 id c head block e held at f = record {
  inside = f.within;
  leads = λ image i.
      let t = held.under image i in
      (first_found_at s s1 id c head block e at.some f image t.0 i.sees t.1 (at.at image t.0 i t.1)).0;
  under = λ image state i h. (first_found_at s s1 id c head block e at.some f image state i.sees h
      (at.at image state i h)).1;
}

-- at the start all bookings are left
pub all_left : (s : View) (id c : ℕ) → c ≢ 0 → GivenBack s s id c 262144
all_left s id c some = record {
  kept = kept_none s;
  under = λ image state i h seat.
      let t = customer_found (mem s image) (length image) [] state h.represents id c seat some in
      record {
        state = state;
        is = h;
        seat = seat;
        bookings = t.bookings;
        there = t.there;
        few = few_bookings (mem s image) (length image) state id t.bookings h t.there;
        drops = refl;
      };
}

pub given_read : (s0 s s1 : View) (id c most : ℕ) → OnlyRead s s1 → GivenBack s0 s id c most → GivenBack s0 s1 id c most
given_read s0 s s1 id c most r g = record {
  kept = kept_both s0 s s1 g.kept r.kept;
  under = λ image state i h seat. rw r.writes (g.under image state (r.kept.seen image i) h seat);
}

pub given_one : (s0 s1 s2 : View) (id c b most less : ℕ) → less ≡ most - 1 → GivenBack s0 s1 id c most →
    ((image : List ℕ) (state : State) → Sees s1 image → (h : IsState (mem s1 image) (length image) state) →
    customer_block h id ≡ c → (mem s1 image (head_of c) ≡ b) × HasFirst (mem s1 image) (length image) state id b) →
    OneGivenBack s1 s2 id c b → GivenBack s0 s2 id c less
given_one s0 s1 s2 id c b most less e g first one = record {
  kept = kept_both s0 s1 s2 g.kept one.kept;
  under = λ image state i h seat.
      let i1 = one.kept.seen image i in
      let l = g.under image state i1 h seat in
      let f = first image l.state i1 l.is l.seat in
      let o = one.under image l.state l.bookings i l.is l.seat f.0 f.1 l.there in
      record {
        state = o.state;
        is = o.is;
        seat = o.seat;
        bookings = o.bookings;
        there = o.there;
        few = (let a = o.few in let b = l.few in omega arith);
        drops = o.drops ∙ l.drops;
      };
}

-- an empty list: no booking is left
pub none_first : (s0 s s1 : View) (id c head most : ℕ) → head ≡ c + 4 → c ≢ 0 →
    First s s1 head None → GivenBack s0 s id c most → GivenBack s0 s1 id c 0
none_first s0 s s1 id c head most e some f g = record {
  kept = kept_both s0 s s1 g.kept f.kept;
  under = λ image state i h at.
      let m = mem s image in
      let n = length image in
      let l = g.under image state (f.kept.seen image i) h at in
      let t = seated m n l.state l.is id c l.seat some in
      let rows = l.is.represents.parts.lists c in
      let list = list_there m n [] l.state id c t.bookings l.is.represents t.is in
      let is : 0 ≡ first_block rows = f.is image rows i (subst (λ (z : ℕ). IsListAt m n z rows) (sym e) list) in
      let none = no_rows m n (m (c + 4)) rows list.list is in
      let none_left : len t.bookings ≡ 0 =
      len-entries t.bookings ∙ (ap length t.entries_are ∙ ap (λ (z : Rows). length (bookings_in m z)) none) in
      let after : IsLeaving m n state id c 0 = record {
        state = l.state;
        is = l.is;
        seat = l.seat;
        bookings = t.bookings;
        there = t.is.there;
        few = omega arith;
        drops = l.drops;
      } in
      rw f.writes after;
}
