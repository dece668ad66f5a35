-- Units are booked of an item that has so many: by a customer who has no booking of it.
use Rattle.std.proofs.Common.{◌≡◌, inl, inr, ℕ, ◌+◌, ◌<◌, ◌≤◌, ◌^◌, List, [], ◌∷◌, length, Option, Some, None, true}
use Rattle.std.proofs.Common.{false, nat_le, nat_lt, nat_eq, refl, sym, ap, ◌∙◌, subst, arith}
use Rattle.std.proofs.lemmas.Bool.Decides.{nat_tests}
use Rattle.std.specs.FinMap.{get, insert}
use Rattle.tx_memory.specs.Seen.{same_or}
use Rattle.tx_memory.specs.View.{View, Sees, RestsOn}
use Rattle.vac_model.specs.declared.items.Kind.{Kind}
use Rattle.vac_model.specs.declared.items.Item.{Item}
use Rattle.vac_model.specs.declared.items.Booking.{Booking}
use Rattle.vac_model.specs.declared.commands.Command.TheVariants as command
use Rattle.vac_model.specs.declared.commands.Refusal.TheVariants.{Full}
use Rattle.vac_model.specs.declared.replies.Reply.TheVariants as reply
use Rattle.vac_model.specs.State.{State, Bookings, Place, item_of, with_item, with_bookings, size, is_full}
use Rattle.vac_model.specs.Step.{done, refused, step, taken, new_booking}
use Rattle.vac_model.proofs.States.{item_of-with_bookings}
use Rattle.tx_alloc.specs.Pointer.{pointer}
use Rattle.tx_alloc.specs.Drawing.{DrawnBlock, IsDrawing}
use Rattle.tx_alloc.specs.Pool.{NoneFree}
use Rattle.tx_alloc.specs.Rows.{Rows, times, put_row, block_at}
use Rattle.tx_alloc.proofs.Order.{at_put}
use Rattle.tx_alloc.proofs.Sums.{sum_has}
use Rattle.vac_bookings.specs.declared.search.Spot.{Spot}
use Rattle.vac_bookings.specs.Bookings.{IsList}
use Rattle.vac_bookings.specs.Lists.{IsListAt}
use Rattle.vac_bookings.specs.Search.{SpotAt}
use Rattle.vac_bookings.proofs.Frame.{list_frame, list_block}
use Rattle.vac_bookings.proofs.Spots.{Unmoved, spot_stays}
use Rattle.vac_records.specs.Items.{mem, item_in, IsNode, IsItemNow, CanMakeOf, ItemChangedOf}
use Rattle.vac_model.specs.Coded.{kind_of_number, kind_back}
use Rattle.vac_records.specs.Bookings.{place_in, place_key, booking_in}
use Rattle.vac_records.specs.Customers.{head_of, IsLoose, IsBooked, BookedAt}
use Rattle.vac_records.specs.Heap.{used_in, count_in}
use Rattle.vac_records.specs.Represents.{Represents, IsState}
use Rattle.vac_records.specs.InMemory.{HoldsState}
use Rattle.vac_records.specs.Laws.{Stays, IsItemAt, IsCustomerAt, IsBookingAt, ListGrown}
use Rattle.vac_records.specs.Steps.{kept_both, stood}
use Rattle.vac_records.proofs.Items.{item_replaced}
use Rattle.vac_records.proofs.Booked.{booking_found, booking_inserted}
use Rattle.vac_records.proofs.Bridges.{pool_there, list_there}
use Rattle.vac_records.proofs.Overs.{over_has}
use Rattle.vac_records.proofs.Take.{draw_same}
use Rattle.vac_records.proofs.Hands.{block_drawn, block_written}
use Rattle.vac_records.proofs.Links.{list_one}
use Rattle.vac_records.proofs.Single.{none_left, some_left}
use Rattle.vac_tasks.specs.declared.bookings.Offer.{Offer}
use Rattle.vac_tasks.specs.Entries.{ItemIsAt, CustomerIsAt}
use Rattle.vac_tasks.specs.BookingSteps.{booking_block, Here, AtSpot, AtPrice, HasSpot, IsOffered, Lands, ServesCommand}
use Rattle.vac_tasks.specs.Starts.{LeavesBooking}
use Rattle.vac_tasks.proofs.Listed.{list_of_item, list_same, customer_still, list_after}
use Rattle.vac_tasks.proofs.Serving.{reads_serve}
use Rattle.vac_tasks.proofs.Owners.{here_at, owned, at_owner, its_list, at_item, its_item, not_booked}
use Rattle.vac_tasks.proofs.Owners.{owner_in_table, owner_is_block}
use Rattle.vac_tasks.proofs.InHand.{loose, outside, same_rows}
use Rattle.vac_tasks.proofs.Cancelling.{item_stays, item_words}
use Rattle.vac_tasks.proofs.Extending.{counts_fit}

enough_free : (free num : ℕ) → num ≤ free → nat_lt free num ≡ false
enough_free free num l = grind (arith, nat_tests)

has_room : (s : State) → size s < s.capacity → is_full s ≡ false
has_room s l = nat_le_false s.capacity (size s) l where
  nat_le_false : (a b : ℕ) → b < a → nat_le a b ≡ false
  nat_le_false a b l = grind (arith, nat_tests)

has_no_room : (s : State) → size s ≡ s.capacity → is_full s ≡ true
has_no_room s e = nat_le_true s.capacity (size s) e where
  nat_le_true : (a b : ℕ) → b ≡ a → nat_le a b ≡ true
  nat_le_true a b e = grind (arith, nat_tests)

-- the customer stands where it stood, with the same bookings
customer_stays : (m m' : ℕ → ℕ) (n : ℕ) (out out' : List ℕ) (s : State) (h : Represents m n out s) (customer owner : ℕ)
    (bs : Bookings) → (g : Stays h m' out' s) → IsCustomerAt h customer owner bs →
    IsCustomerAt g.after customer owner bs
customer_stays m m' n out out' s h customer owner bs g at =
    let four : 3 < 4 = omega arith in
    record { at = ap (λ (rs : Rows). block_at rs customer) (g.tables 3 four) ∙ at.at; some = at.some; there = at.there }

-- a row that is put in is found
row_put : (rows : Rows) (key b : ℕ) → block_at (put_row rows key b) key ≡ b
row_put rows key b =
    let same : nat_eq key key ≡ true = grind (arith, nat_tests) in
    at_put rows key b key ∙ rw same refl

-- a booking that the state does not have is in no list
no_row : (m : ℕ → ℕ) (n : ℕ) (out : List ℕ) (s : State) (h : Represents m n out s) (customer owner : ℕ) (bs : Bookings)
    (place : Place) → IsCustomerAt h customer owner bs → place.1 < 2 ^ 32 → get bs place ≡ None →
    block_at (h.parts.lists owner) (place_key place) ≡ 0
no_row m n out s h customer owner bs place at small missing =
    elim (same_or (block_at (h.parts.lists owner) (place_key place)) 0) [
      | inl z ↦ z
      | inr nz ↦ (
          let b = block_at (h.parts.lists owner) (place_key place) in
          let never : ◌≡◌ {A = Option Booking} None (Some (booking_in m b)) =
          sym missing ∙ booking_found m n out s h customer owner bs place b at
          (record { small = small; at = refl; some = nz }) in
          absurd cc)
    ]

module _ (m : ℕ → ℕ) (n : ℕ) (s : State) (h : IsState m n s) (customer owner : ℕ) (kind : Kind) (id item : ℕ)
    (e : Here h customer owner kind id item)
    (none : booking_block h owner (kind, id) ≡ 0) where
  abbrev had : Bookings
  had = (owned m n s h customer owner kind id item e).bookings

  missing : get had (kind, id) ≡ None
  missing = not_booked m n s h customer owner kind id item e (owned m n s h customer owner kind id item e) none

  there : item_of s kind id ≡ Some (item_in m item)
  there = its_item m n s h customer owner kind id item e

  pub no_place : (num : ℕ) → num ≤ m (item + 5) → ((i : ℕ) → i < 8 → h.represents.parts.free i ≡ []) →
      step s (command.Reserve customer kind id num) ≡ refused s Full
  no_place num free all =
      let f : nat_lt (item_in m item).free num ≡ false = enough_free (m (item + 5)) num free in
      let t : is_full s ≡ true = has_no_room s (none_left m n s h.represents all) in
      rw ((owned m n s h customer owner kind id item e).there, there, f, missing, t) refl

  module _ (m1 : ℕ → ℕ) (b start : ℕ) (t : IsDrawing m m1 n h.represents.parts.free (used_in h.represents.parts)
      (count_in h.represents.parts) start b) where
    hand : Stays h.represents m1 (b ∷ []) s
    hand = block_drawn m m1 n start b [] s h.represents t

    at_hand : IsCustomerAt hand.after customer owner had
    at_hand = customer_stays m m1 n [] (b ∷ []) s h.represents customer owner had hand
        (at_owner m n s h customer owner kind id item e (owned m n s h customer owner kind id item e))

    pub rows_now : Rows
    rows_now = hand.after.parts.lists owner

    pub list_now : IsListAt m1 n (head_of owner) rows_now
    unfolding rows_now
    list_now = list_there m1 n (b ∷ []) s customer owner had hand.after at_hand

    pub can_hang : (rows : Rows) → IsListAt m1 n (head_of owner) rows → IsLoose m1 n owner rows (kind, id) b
    unfolding rows_now
    can_hang rows l =
        let same : rows_now ≡ rows = list_one m1 n (m1 (head_of owner)) rows_now rows list_now.list l.list in
        subst (λ (z : Rows). IsLoose m1 n owner z (kind, id) b) same (record {
          block = t.block;
          outside = outside m1 n b s t.block hand.after customer owner had at_hand;
          absent = no_row m1 n (b ∷ []) s hand.after customer owner had (kind, id) at_hand e.small missing;
          loose = loose m1 n b s t.block hand.after customer owner had at_hand;
        })

    module _ (m2 : ℕ → ℕ) (num price : ℕ) (k : IsBooked m1 m2 n owner rows_now (kind, id) num price b)
        (free : num ≤ m (item + 5)) where
      written : Stays hand.after k.between (b ∷ []) s
      written = block_written m1 k.between n b [] s t.block hand.after k.made.others

      at_written : IsCustomerAt written.after customer owner had
      at_written = customer_stays m1 k.between n (b ∷ []) (b ∷ []) s hand.after customer owner had written at_hand

      grown : ListGrown k.between m2 n owner (written.after.parts.lists owner) (place_key (kind, id)) b
      unfolding rows_now
      grown = subst (λ (z : Rows). ListGrown k.between m2 n owner z (place_key (kind, id)) b)
          (same_rows m1 n b s t.block hand.after customer owner had at_hand k.between written k.made.others)
          (record { list = k.list.list; relinks = k.relinks })

      placed : place_in k.between b ≡ (kind, id)
      placed =
          let kind_is : kind_of_number (k.between b) ≡ kind = ap kind_of_number k.made.kind_is ∙ kind_back kind in
          let id_is : k.between (b + 1) ≡ id = k.made.id_is in
          λ i. (kind_is i, id_is i)

      abbrev more : State
      more = with_bookings s customer (insert had (kind, id) (booking_in k.between b))

      hung : Stays written.after m2 [] more
      hung = booking_inserted k.between m2 n b [] s customer owner had (
        kind,
        id,
      ) t.block written.after at_written e.small
          (no_row k.between n (b ∷ []) s written.after customer owner had (kind, id) at_written e.small missing) placed
          grown

      joined : Stays h.represents m2 [] more
      joined = record { after = hung.after; tables = λ i l. hung.tables i l ∙ (written.tables i l ∙ hand.tables i l) }

      item_at : IsItemAt joined.after kind id item
      item_at = item_stays m m2 n [] [] s more h.represents kind id item joined
          (at_item m n s h customer owner kind id item e)

      item_same : item_in m2 item ≡ item_in m item
      item_same = item_words m m2 n [] [] s more h.represents kind id item joined
          (at_item m n s h customer owner kind id item e) (item_of-with_bookings s customer
          (insert had (kind, id) (booking_in k.between b)) kind id)

      pub free_same : m2 (item + 5) ≡ m (item + 5)
      free_same = ap (λ (x : Item). x.free) item_same

      pub used_fits : m2 (item + 4) + num < 2 ^ 64
      used_fits = omega (arith, counts_fit m n s h kind id item num there free, ap (λ (x : Item). x.used) item_same)

      pub added_lands : (m3 : ℕ → ℕ) → m (item + 7) ≡ price → IsItemNow m2 m3 item (taken (item_in m2 item) num) →
          Lands h m3 (command.Reserve customer kind id num) reply.Done
      added_lands m3 price_is made =
          let after = item_replaced m2 m3 n [] more kind id item joined.after item_at made.others in
          let f : nat_lt (item_in m item).free num ≡ false = enough_free (m (item + 5)) num free in
          let r : is_full s ≡ false = has_room s (some_left m1 n b s hand.after) in
          let stepped : step s (command.Reserve customer kind id num) ≡ done
          (with_item (with_bookings s customer (insert had (kind, id) (new_booking num (m (item + 7))))) kind id
          (taken (item_in m item) num)) =
          rw ((owned m n s h customer owner kind id item e).there, there, f, missing, r) refl in
          let booked : new_booking num (m (item + 7)) ≡ booking_in k.between b =
          ap (new_booking num) price_is ∙ sym k.made.is in
          let put : taken (item_in m item) num ≡ item_in m3 item =
          ap (λ (x : Item). taken x num) (sym item_same) ∙ sym made.is in
          record {
            state = with_item more kind id (item_in m3 item);
            is = stepped ∙ (ap (λ (x : Booking). done (with_item
                (with_bookings s customer (insert had (kind, id) x)) kind id (taken (item_in m item) num))) booked
                ∙ ap (λ (x : Item). done (with_item more kind id x)) put);
            stays = record { after = after.after; tables = λ i l. after.tables i l ∙ joined.tables i l };
          }

      pub added_booking : (m3 : ℕ → ℕ) → IsItemNow m2 m3 item (taken (item_in m2 item) num) → (s3 : State) →
          (h3 : IsState m3 n s3) → IsBookingAt h3.represents owner (kind, id) b
      added_booking m3 made s3 h3 =
          let key = place_key (kind, id) in
          let rows = written.after.parts.lists owner in
          let whose = owner_in_table m n s h customer owner kind id item e in
          let still = customer_still m m2 n [] [] s more h.represents owner joined whose in
          let same = list_same m2 n [] more joined.after owner (put_row rows key b) still grown.list in
          let l3 = list_of_item m2 m3 n [] more joined.after kind id item owner item_at made.others still in
          let after = item_replaced m2 m3 n [] more kind id item joined.after item_at made.others in
          let last = with_item more kind id (item_in m3 item) in
          let still3 = customer_still m2 m3 n [] [] more last joined.after owner after still in
          let same3 = list_after m3 n last s3 after.after h3.represents owner (joined.after.parts.lists owner) still3 l3
          in
          record {
            small = e.small;
            at = ap (λ (rs : Rows). block_at rs key) (same3 ∙ same) ∙ row_put rows key b;
            some = omega (arith, t.block.1.1);
          }

-- the customer has no booking where the spot has none
none_at : (m : ℕ → ℕ) (n : ℕ) (s : State) (h : IsState m n s) (customer owner : ℕ) (kind : Kind) (id item : ℕ)
    (spot : Spot) → spot.entry ≡ None → AtSpot customer owner kind id item spot m n s h →
    booking_block h owner (kind, id) ≡ 0
none_at m n s h customer owner kind id item spot absent p = sym p.at.entry ∙ ap pointer absent

-- the calls, under each image
module _ (s : View) (customer owner : ℕ) (kind : Kind) (id item num : ℕ) (offer : Offer) (spot : Spot)
    (o : IsOffered s item num offer) (absent : spot.entry ≡ None) where
  enough_at : (image : List ℕ) → Sees s image → num ≤ mem s image (item + 5)
  enough_at image i = omega (arith, o.enough, o.free_is image i)

  none : (image : List ℕ) (state : State) (h : IsState (mem s image) (length image) state) →
      AtSpot customer owner kind id item spot (mem s image) (length image) state h →
      booking_block h owner (kind, id) ≡ 0
  none image state h p = none_at (mem s image) (length image) state h customer owner kind id item spot absent p

  pub no_block : (s1 : View) → NoneFree s s1 → ServesCommand s s1 (command.Reserve customer kind id num) (reply.No Full)
      (AtPrice item offer.price (AtSpot customer owner kind id item spot))
  no_block s1 z = reads_serve s s1 (command.Reserve customer kind id num) (reply.No Full)
      (AtPrice item offer.price (AtSpot customer owner kind id item spot))
      (record { kept = z.kept; writes = z.writes }) (λ image state i h p.
      let q = h.represents.parts in
      no_place (mem s image) (length image) state h customer owner kind id item p.there.here
      (none image state h p.there)
      num (enough_at image (z.kept.seen image i)) (z.none image q.free (used_in q) (count_in q) i
      (pool_there (mem s image) (length image) [] state h.represents)))

  module _ (s1 : View) (b start : ℕ) (t : DrawnBlock s s1 start b) where
    its_taking : (image : List ℕ) (state : State) → Sees s1 image → (h : IsState (mem s image) (length image) state) →
        IsDrawing (mem s image) (mem s1 image) (length image) h.represents.parts.free (used_in h.represents.parts)
        (count_in h.represents.parts) start b
    its_taking image state i h = let p = h.represents.parts in
        t.drawing image p.free (used_in p) (count_in p) i
        (pool_there (mem s image) (length image) [] state h.represents)

    pub block_node : HoldsState s → IsNode s1 b
    block_node held = record { inside = t.room; small = omega (arith, held.small, t.kept.size) }

    pub spot_room : HasSpot s owner (kind, id) spot → spot.link.0 < s1.size
    spot_room p = omega (arith, p.room, t.kept.size)

    module _ (s2 : View) (w : BookedAt s1 s2 spot (kind, id) num offer.price b) where
      -- the words of the customer's list are as before, and so its spots
      its_booking : (image : List ℕ) (state : State) → Sees s2 image → (i1 : Sees s1 image) →
          (h : IsState (mem s image) (length image) state) →
          (p : AtSpot customer owner kind id item spot (mem s image) (length image) state h) →
          IsBooked (mem s1 image) (mem s2 image) (length image) owner
          (rows_now (mem s image) (length image) state h customer owner kind id item p.here (none image state h p)
          (mem s1 image) b start (its_taking image state i1 h))
          (kind, id) num offer.price b
      its_booking image state i i1 h p =
          let m = mem s image in
          let m1 = mem s1 image in
          let n = length image in
          let g = its_taking image state i1 h in
          let rows = h.represents.parts.lists owner in
          let list = its_list m n state h customer owner kind id item p.here in
          let now = rows_now m n state h customer owner kind id item p.here (none image state h p) m1 b start g in
          let listed = list_now m n state h customer owner kind id item p.here (none image state h p) m1 b start g in
          let owner_block = owner_is_block m n state h customer owner kind id item p.here in
          let parts = h.represents.parts in
          let inside : 0 < times owner (parts.tables 3) = owner_in_table m n state h customer owner kind id item
          p.here in
          let still : Unmoved m m1 (head_of owner) rows = record {
            start = draw_same m m1 n start b parts h.represents.heap g owner 4 owner_block
                (omega (arith, inside, sum_has 4 3 (λ z. times owner (parts.tables z)) (omega arith))) (omega arith);
            blocks = λ a o k less.
                let ba = list_block m n (m (head_of owner)) a rows list.list o in
                draw_same m m1 n start b parts h.represents.heap g a k ba
                (omega (arith, o, over_has (times a) owner (parts.tables 3) parts.lists inside)) (omega arith);
          } in
          let kept : IsList m1 n (m1 (head_of owner)) rows =
          rw still.start (list_frame m m1 n (m (head_of owner)) rows list.list still.blocks) in
          let same : rows ≡ now = list_one m1 n (m1 (head_of owner)) rows now kept listed.list in
          let there = spot_stays m m1 (head_of owner) (place_key (kind, id)) spot rows still p.at in
          w.booked image i owner now listed (subst (λ (z : Rows). SpotAt m1 (head_of owner)
          (place_key (kind, id)) spot z) same there)
          (can_hang m n state h customer owner kind id item p.here (none image state h p) m1 b start g now listed)

      free_now : (image : List ℕ) (state : State) → Sees s2 image → (i1 : Sees s1 image) → Sees s image →
          (h : IsState (mem s image) (length image) state) →
          (p : AtSpot customer owner kind id item spot (mem s image) (length image) state h) →
          mem s2 image (item + 5) ≡ offer.free
      free_now image state i i1 i0 h p =
          free_same (mem s image) (length image) state h customer owner kind id item p.here (none image state h p)
          (mem s1 image) b start (its_taking image state i1 h)
          (mem s2 image) num offer.price (its_booking image state i i1 h p) (enough_at image i0) ∙ o.free_is image i0

      pub can_make : HoldsState s → CustomerIsAt s customer owner → ItemIsAt s kind id item →
          HasSpot s owner (kind, id) spot → id < 2 ^ 32 → CanMakeOf s2 item num offer.free
      can_make held c f q small =
          let at : (image : List ℕ) (state : State) → RestsOn s image →
          (h : IsState (mem s image) (length image) state) →
          AtSpot customer owner kind id item spot (mem s image) (length image) state h = λ image state i h.
          record {
            here = here_at s customer owner kind id item c f small image state i h;
            at = q.at image state i h;
          } in
          record {
            free_is = λ image i.
                let i1 = stood w.kept image i in
                let i0 = stood t.kept image i1 in
                let r = held.under image i0 in
                free_now image r.0 i.sees i1.sees i0.sees r.1 (at image r.0 i0 r.1);
            enough = o.enough;
            used = record {
              fits = λ image i.
                  let i1 = stood w.kept image i in
                  let i0 = stood t.kept image i1 in
                  let r = held.under image i0 in
                  let p = at image r.0 i0 r.1 in
                  used_fits (mem s image) (length image) r.0 r.1 customer owner kind id item p.here
                  (none image r.0 r.1 p) (mem s1 image) b start (its_taking image r.0 i1.sees r.1)
                  (mem s2 image) num offer.price (its_booking image r.0 i.sees i1.sees r.1 p) (enough_at image i0.sees);
            };
          }

      pub add_done : (s3 : View) → ItemChangedOf s2 s3 item offer.free (λ x. taken x num) →
          ServesCommand s s3 (command.Reserve customer kind id num) reply.Done
          (AtPrice item offer.price (AtSpot customer owner kind id item spot))
      add_done s3 made = record {
        kept = kept_both s s2 s3 (kept_both s s1 s2 t.kept w.kept) made.kept;
        untouched = tt;
        idle = tt;
        lands = λ image state i h p.
            let i2 = made.kept.seen image i in
            let i1 = w.kept.seen image i2 in
            let i0 = t.kept.seen image i1 in
            added_lands (mem s image) (length image) state h customer owner kind id item p.there.here
            (none image state h p.there) (mem s1 image) b start (its_taking image state i1 h)
            (mem s2 image) num offer.price (its_booking image state i2 i1 h p.there) (enough_at image i0)
            (mem s3 image) p.price_is (made.changed image i (free_now image state i2 i1 i0 h p.there));
      }

      pub add_stays : (s3 : View) → ItemChangedOf s2 s3 item offer.free (λ x. taken x num) →
          LeavesBooking s s3 owner (kind, id) b (AtSpot customer owner kind id item spot)
      add_stays s3 made = record {
        room = omega (arith, t.room, w.kept.size, made.kept.size);
        at = λ image state state' i h p h'.
            let i2 = made.kept.seen image i in
            let i1 = w.kept.seen image i2 in
            let i0 = t.kept.seen image i1 in
            added_booking (mem s image) (length image) state h customer owner kind id item p.here (none image state h p)
            (mem s1 image) b start (its_taking image state i1 h)
            (mem s2 image) num offer.price (its_booking image state i2 i1 h p) (enough_at image i0)
            (mem s3 image) (made.changed image i (free_now image state i2 i1 i0 h p)) state' h';
      }
