-- Whether an item has so many units, and at which price.
use Rattle.std.proofs.Common.{◌≡◌, ℕ, ◌+◌, ◌<◌, ◌≤◌, ◌^◌, List, length, Some, true, nat_lt, refl, sym, ap, ◌∙◌, arith}
use Rattle.std.proofs.lemmas.Bool.Decides.{nat_tests}
use Rattle.tx_memory.specs.View.{View, Sees, Loaded}
use Rattle.vac_model.specs.declared.items.Kind.{Kind}
use Rattle.vac_model.specs.declared.items.Item.{Item}
use Rattle.vac_model.specs.declared.commands.Command.{Command}
use Rattle.vac_model.specs.declared.commands.Command.TheVariants as command
use Rattle.vac_model.specs.declared.commands.Refusal.{Refusal}
use Rattle.vac_model.specs.declared.commands.Refusal.TheVariants.{SoldOut}
use Rattle.vac_model.specs.declared.replies.Reply.{Reply}
use Rattle.vac_model.specs.declared.replies.Reply.TheVariants as reply
use Rattle.vac_model.specs.Ranges.{is_command}
use Rattle.vac_model.specs.State.{State, Place, Bookings, item_of, bookings_of}
use Rattle.vac_model.specs.Step.{refused, step}
use Rattle.tx_alloc.specs.Pointer.{pointer}
use Rattle.vac_bookings.specs.Search.{Sought}
use Rattle.vac_bookings.specs.declared.search.Spot.{Spot}
use Rattle.vac_records.specs.Items.{mem, item_in}
use Rattle.vac_records.specs.Bookings.{place_key}
use Rattle.vac_records.specs.Customers.{head_of}
use Rattle.vac_records.specs.Represents.{IsState}
use Rattle.vac_records.specs.Steps.{stood}
use Rattle.vac_records.specs.InMemory.{OnlyRead}
use Rattle.vac_tasks.specs.Entries.{HasItemAt, HasCustomerAt}
use Rattle.vac_tasks.specs.BookingSteps.{AtBlocks, AtBooking, AtSpot, AtPrice, HasPriceAt, IsOffered, ServesCommand}
use Rattle.vac_tasks.proofs.Held.{read_none, read_both}
use Rattle.vac_tasks.proofs.Serving.{RanInPlace, in_place, reads_serve, serves_after, serves_where}
use Rattle.vac_tasks.specs.Starts.{AtStart, LeavesStart, LeavesBooking}
use Rattle.vac_tasks.proofs.Owners.{here, owned, its_item, sought_only, spot_at}
use Rattle.vac_tasks.proofs.Staying.{spot_started, start_head, start_reads, start_past, start_after, start_where}

pub load_only : (s s1 : View) (a v : ℕ) → Loaded s s1 a v → OnlyRead s s1
load_only s s1 a v l = record { kept = l.kept; writes = l.writes }

sold_step : (s : State) (customer : ℕ) (kind : Kind) (id num : ℕ) (b : Bookings) (item : Item) →
    bookings_of s customer ≡ Some b → item_of s kind id ≡ Some item → item.free < num →
    step s (command.Reserve customer kind id num) ≡ refused s SoldOut
sold_step s customer kind id num b item owner there less =
    let t : nat_lt item.free num ≡ true = grind (arith, nat_tests) in
    rw (owner, there, t) refl

pub sold_out : (s s1 : View) (customer owner : ℕ) (kind : Kind) (id item price link num v : ℕ) →
    Loaded s s1 (item + 5) v → v < num → ServesCommand s s1 (command.Reserve customer kind id num) (reply.No SoldOut)
    (AtPrice item price (AtStart customer owner kind id item link))
sold_out s s1 customer owner kind id item price link num v l less = reads_serve s s1
    (command.Reserve customer kind id num) (reply.No SoldOut)
    (AtPrice item price (AtStart customer owner kind id item link)) (load_only s s1 (item + 5) v l)
    (λ image state i h p.
    let o = owned (mem s image) (length image) state h customer owner kind id item p.there.here in
    let there = its_item (mem s image) (length image) state h customer owner kind id item p.there.here in
    sold_step state customer kind id num o.bookings (item_in (mem s image) item) o.there there
    (omega (arith, less, l.answer image i)))

-- what holds wherever P holds, holds wherever P holds at a price
booking_priced : (s s' : View) (owner : ℕ) (place : Place) (b item price : ℕ) (P : (m : ℕ → ℕ) (n : ℕ)
    (state : State) → IsState m n state → Type 0) → LeavesBooking s s' owner place b P →
    LeavesBooking s s' owner place b (AtPrice item price P)
booking_priced s s' owner place b item price P k = record {
  room = k.room;
  at = λ image state state' i h p h'. k.at image state state' i h p.there h';
}

pub start_priced : (s s' : View) (customer owner : ℕ) (kind : Kind) (id item price link : ℕ) → link < s.size →
    OnlyRead s s' → LeavesStart s s' owner link (place_key (kind, id) + 1)
    (AtPrice item price (AtStart customer owner kind id item link))
start_priced s s' customer owner kind id item price link room r =
    start_where s s' owner link (place_key (kind, id) + 1)
    (AtPrice item price (AtStart customer owner kind id item link)) (AtStart customer owner kind id item link)
    (start_reads s s' customer owner kind id item link room r) (λ image state i h p. p.there)

-- a search may start at a link, and came to a spot
module _ (s s2 s3 s4 : View) (customer owner : ℕ) (kind : Kind) (id item price link : ℕ) (spot : Spot)
    (reads : OnlyRead s s2) (f : Sought s2 s3 link (place_key (kind, id)) spot) where
  searched : OnlyRead s s3
  searched = read_both s s2 s3 reads (sought_only s2 s3 link (place_key (kind, id)) spot f)

  -- the booking that was found
  some_at : (b : ℕ) → spot.entry ≡ Some b → (image : List ℕ) (state : State) → Sees s3 image →
      (h : IsState (mem s image) (length image) state) →
      AtStart customer owner kind id item link (mem s image) (length image) state h →
      AtBooking customer owner kind id item b (mem s image) (length image) state h
  some_at b is image state i h p = record {
    here = p.here;
    is = sym (spot_started s s2 s3 customer owner kind id item link spot reads f image state i h p).entry ∙
        ap pointer is;
  }

  pub reserved_some : (b : ℕ) (c : Command) (r : Reply) → spot.entry ≡ Some b →
      ServesCommand s3 s4 c r (AtPrice item price (AtBooking customer owner kind id item b)) →
      ServesCommand s s4 c r (AtPrice item price (AtStart customer owner kind id item link))
  reserved_some b c r is v =
      serves_where s s4 c r (AtPrice item price (AtStart customer owner kind id item link))
      (AtPrice item price (AtBooking customer owner kind id item b))
      (serves_after s s3 s4 c r (AtPrice item price (AtBooking customer owner kind id item b)) searched v)
      (λ image state i h p. record {
        there = some_at b is image state (v.kept.seen image i) h p.there;
        price_is = p.price_is;
      })

  pub some_leaves : (b : ℕ) (c : Command) (r : Reply) → spot.entry ≡ Some b →
      ServesCommand s3 s4 c r (AtPrice item price (AtBooking customer owner kind id item b)) →
      LeavesBooking s3 s4 owner (kind, id) b (AtBooking customer owner kind id item b) →
      LeavesStart s s4 owner (b + 3) (place_key (kind, id) + 1)
      (AtPrice item price (AtStart customer owner kind id item link))
  some_leaves b c r is v k =
      let P = AtPrice item price (AtBooking customer owner kind id item b) in
      start_where s s4 owner (b + 3) (place_key (kind, id) + 1)
      (AtPrice item price (AtStart customer owner kind id item link)) P
      (start_after s s3 s4 owner (b + 3) (place_key (kind, id) + 1) P searched
      (start_past s3 s4 customer owner kind id item b c r P v
      (booking_priced s3 s4 owner (kind, id) b item price (AtBooking customer owner kind id item b) k)
      (λ image state h p. p.there.here)))
      (λ image state i h p. record {
        there = some_at b is image state (v.kept.seen image i) h p.there;
        price_is = p.price_is;
      })

  -- or the spot of the one that was not
  none_at : (image : List ℕ) (state : State) → Sees s3 image → (h : IsState (mem s image) (length image) state) →
      AtStart customer owner kind id item link (mem s image) (length image) state h →
      AtSpot customer owner kind id item spot (mem s image) (length image) state h
  none_at image state i h p = record {
    here = p.here;
    at = spot_started s s2 s3 customer owner kind id item link spot reads f image state i h p;
  }

  pub reserved_none : (c : Command) (r : Reply) →
      ServesCommand s3 s4 c r (AtPrice item price (AtSpot customer owner kind id item spot)) →
      ServesCommand s s4 c r (AtPrice item price (AtStart customer owner kind id item link))
  reserved_none c r v =
      serves_where s s4 c r (AtPrice item price (AtStart customer owner kind id item link))
      (AtPrice item price (AtSpot customer owner kind id item spot))
      (serves_after s s3 s4 c r (AtPrice item price (AtSpot customer owner kind id item spot)) searched v)
      (λ image state i h p. record {
        there = none_at image state (v.kept.seen image i) h p.there;
        price_is = p.price_is;
      })

  pub none_leaves : (b : ℕ) (c : Command) (r : Reply) →
      ServesCommand s3 s4 c r (AtPrice item price (AtSpot customer owner kind id item spot)) →
      LeavesBooking s3 s4 owner (kind, id) b (AtSpot customer owner kind id item spot) →
      LeavesStart s s4 owner (b + 3) (place_key (kind, id) + 1)
      (AtPrice item price (AtStart customer owner kind id item link))
  none_leaves b c r v k =
      let P = AtPrice item price (AtSpot customer owner kind id item spot) in
      start_where s s4 owner (b + 3) (place_key (kind, id) + 1)
      (AtPrice item price (AtStart customer owner kind id item link)) P
      (start_after s s3 s4 owner (b + 3) (place_key (kind, id) + 1) P searched
      (start_past s3 s4 customer owner kind id item b c r P v
      (booking_priced s3 s4 owner (kind, id) b item price (AtSpot customer owner kind id item spot) k)
      (λ image state h p. p.there.here)))
      (λ image state i h p. record {
        there = none_at image state (v.kept.seen image i) h p.there;
        price_is = p.price_is;
      })

  -- a refusal wrote nothing, and so a later search may start where this one did
  pub full_leaves : (c : Command) (why : Refusal) → link < s.size →
      ServesCommand s3 s4 c (reply.No why) (AtPrice item price (AtSpot customer owner kind id item spot)) →
      LeavesStart s s4 owner link (place_key (kind, id) + 1)
      (AtPrice item price (AtStart customer owner kind id item link))
  full_leaves c why room v = start_priced s s4 customer owner kind id item price link room
      (read_both s s3 s4 searched (record { kept = v.kept; writes = v.untouched }))

-- a command at the head of the list, after the price was read
pub at_head : (s s1 s' : View) (customer owner : ℕ) (kind : Kind) (id item price : ℕ) (c : Command) (r : Reply) →
    Loaded s s1 (item + 7) price →
    ServesCommand s1 s' c r (AtPrice item price (AtStart customer owner kind id item (head_of owner))) →
    ServesCommand s s' c r (AtBlocks customer owner kind id item)
at_head s s1 s' customer owner kind id item price c r l v =
    let P = AtPrice item price (AtStart customer owner kind id item (head_of owner)) in
    serves_where s s' c r (AtBlocks customer owner kind id item) P
    (serves_after s s1 s' c r P (load_only s s1 (item + 7) price l) v)
    (λ image state i h e. record {
      there = record {
        here = e;
        start = start_head (head_of owner) (place_key (kind, id)) (h.represents.parts.lists owner);
      };
      price_is = l.answer image (v.kept.seen image i);
    })

-- the price that was read is that of the item
pub price_read : (s s1 : View) (item price : ℕ) → Loaded s s1 (item + 7) price → HasPriceAt s1 item price
price_read s s1 item price l = record { at = λ image i. rw l.writes (l.answer image i.sees) }

-- the customer and the item were found
pub served_found : (s s' : View) (customer owner : ℕ) (kind : Kind) (id item : ℕ) (c : Command) (r : Reply) →
    is_command c ≡ true → HasCustomerAt s customer owner → HasItemAt s kind id item → id < 2 ^ 32 →
    ServesCommand s s' c r (AtBlocks customer owner kind id item) → RanInPlace s s' c r
served_found s s' customer owner kind id item c r range at f small v =
    in_place s s' c r (AtBlocks customer owner kind id item) range v
    (λ image state i h. here s customer owner kind id item at f small image state (v.kept.seen image i) h)

-- and so was the booking's spot
pub cancelled_found : (s s1 s' : View) (customer owner : ℕ) (kind : Kind) (id item : ℕ) (spot : Spot) (r : Reply) →
    is_command (command.Cancel customer kind id) ≡ true → HasCustomerAt s customer owner → HasItemAt s kind id item →
    id < 2 ^ 32 →
    Sought s s1 (head_of owner) (place_key (kind, id)) spot →
    ServesCommand s1 s' (command.Cancel customer kind id) r (AtSpot customer owner kind id item spot) →
    RanInPlace s s' (command.Cancel customer kind id) r
cancelled_found s s1 s' customer owner kind id item spot r range at f small k v =
    let c = command.Cancel customer kind id in
    in_place s s' c r (AtSpot customer owner kind id item spot) range
    (serves_after s s1 s' c r (AtSpot customer owner kind id item spot)
    (sought_only s s1 (head_of owner) (place_key (kind, id)) spot k) v) (λ image state i h.
    let i1 = v.kept.seen image i in
    let e = here s customer owner kind id item at f small image state (k.kept.seen image i1) h in
    record { here = e; at = spot_at s s s1 customer owner kind id item spot (read_none s) k image state i1 h e })

-- free units that were read, and a price that was known, are there after further reads
pub offered : (s s1 s2 : View) (item num v price : ℕ) → Loaded s s1 (item + 5) v → num ≤ v →
    HasPriceAt s item price → OnlyRead s1 s2 → IsOffered s2 item num (record { num = num; free = v; price = price })
offered s s1 s2 item num v price l le p r = record {
  enough = le;
  free_is = λ image i. rw (r.writes, l.writes) (l.answer image (r.kept.seen image i));
  price = record {
    at = λ image i. rw r.writes (rw l.writes (p.at image (stood l.kept image (stood r.kept image i))));
  };
}
