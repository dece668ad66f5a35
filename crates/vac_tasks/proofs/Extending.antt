-- Units are booked of an item that has so many: by a customer who has a booking of it.
use Rattle.std.proofs.Common.{◌≡◌, ◌≢◌, ℕ, ◌+◌, ◌*◌, ◌<◌, ◌≤◌, ◌^◌, List, [], length, Some, true, false, nat_lt, refl}
use Rattle.std.proofs.Common.{sym, ap, ◌∙◌, arith}
use Rattle.std.proofs.lemmas.Bool.Decides.{nat_tests}
use Rattle.std.proofs.Math.Nat.{mul-le-mul_left}
use Rattle.std.specs.FinMap.{get, insert}
use Rattle.tx_memory.specs.Seen.{some_le}
use Rattle.tx_memory.specs.View.{View, Sees, RestsOn, Loaded}
use Rattle.vac_model.specs.declared.items.Kind.{Kind}
use Rattle.vac_model.specs.declared.items.Item.{Item}
use Rattle.vac_model.specs.declared.items.Booking.{Booking}
use Rattle.vac_model.specs.declared.commands.Command.TheVariants as command
use Rattle.vac_model.specs.declared.commands.Refusal.TheVariants.{UnitLimit}
use Rattle.vac_model.specs.declared.replies.Reply.TheVariants as reply
use Rattle.vac_model.specs.State.{State, Bookings, item_of, with_item, with_bookings}
use Rattle.vac_model.specs.Step.{done, refused, step, taken, extended, unit_limit}
use Rattle.vac_model.specs.Balanced.{IsBooking}
use Rattle.vac_model.proofs.States.{item_of-with_bookings}
use Rattle.tx_alloc.specs.Rows.{Rows, block_at}
use Rattle.vac_records.specs.Items.{mem, item_in, IsItemNow, CanMakeOf, ItemChangedOf}
use Rattle.vac_records.specs.Bookings.{place_key, booking_in}
use Rattle.vac_records.specs.Customers.{IsBookingNow, CanExtend, BookingChanged}
use Rattle.vac_records.specs.Represents.{IsState}
use Rattle.vac_records.specs.InMemory.{HoldsState}
use Rattle.vac_records.specs.Laws.{Stays, IsItemAt, IsBookingAt}
use Rattle.vac_records.specs.Steps.{kept_both, stood}
use Rattle.vac_records.proofs.Keyed.{row_at, row_times}
use Rattle.vac_records.proofs.Items.{item_replaced}
use Rattle.vac_records.proofs.Booked.{booking_replaced}
use Rattle.vac_tasks.specs.declared.bookings.Offer.{Offer}
use Rattle.vac_tasks.specs.Entries.{ItemIsAt, CustomerIsAt}
use Rattle.vac_tasks.specs.BookingSteps.{booking_block, Here, AtBooking, AtPrice, HasBookingAt, IsOffered, Lands}
use Rattle.vac_tasks.specs.BookingSteps.{ServesCommand}
use Rattle.vac_tasks.specs.Starts.{LeavesBooking}
use Rattle.vac_tasks.proofs.Listed.{list_of_item, list_of_booking, list_same, customer_still, list_after}
use Rattle.vac_tasks.proofs.Serving.{reads_serve}
use Rattle.vac_tasks.proofs.Held.{item_stood}
use Rattle.vac_tasks.proofs.Owners.{here_at, owned, at_owner, at_item, its_item, booked_at, owner_in_table}
use Rattle.vac_tasks.proofs.Cancelling.{item_stays, item_words}

-- an item that is offered has a price in its range
pub price_small : (s : View) (kind : Kind) (id item num : ℕ) (offer : Offer) → HoldsState s → ItemIsAt s kind id item →
    IsOffered s item num offer → ∥ ((image : List ℕ) × RestsOn s image) ∥₁ → offer.price ≤ 1000000
price_small s kind id item num offer held f o ws = some_le offer.price 1000000 ws (λ w.
    let t = held.under w.0 w.1 in
    let r = t.1.small.balanced.items kind id (item_in (mem s w.0) item) (item_stood s kind id item f w.0 t.0 w.1 t.1) in
    omega (arith, r.price_range, o.price.at w.0 w.1))

pub sum_small : (num price : ℕ) → num < 2 ^ 32 → price ≤ 1000000 → num * price < 2 ^ 64
sum_small num price few small =
    let product : num * price ≤ num * 1000000 = mul-le-mul_left num small in
    omega (arith, product, few)

-- the counts of an item of which so many units are free
pub counts_fit : (m : ℕ → ℕ) (n : ℕ) (s : State) (h : IsState m n s) (kind : Kind) (id item num : ℕ) →
    item_of s kind id ≡ Some (item_in m item) → num ≤ m (item + 5) → m (item + 4) + num < 2 ^ 64
counts_fit m n s h kind id item num there free =
    let r = h.small.balanced.items kind id (item_in m item) there in
    omega (arith, r.counts, r.few_units, free)

module _ (m : ℕ → ℕ) (n : ℕ) (s : State) (h : IsState m n s) (customer owner : ℕ) (kind : Kind) (id item b : ℕ)
    (e : Here h customer owner kind id item)
    (is : booking_block h owner (kind, id) ≡ b) (some : b ≢ 0) where
  abbrev had : Bookings
  had = (owned m n s h customer owner kind id item e).bookings

  found : get had (kind, id) ≡ Some (booking_in m b)
  found = booked_at m n s h customer owner kind id item e (owned m n s h customer owner kind id item e) b is some

  there : item_of s kind id ≡ Some (item_in m item)
  there = its_item m n s h customer owner kind id item e

  pub its_range : IsBooking s kind id (booking_in m b)
  its_range = h.small.balanced.bookings customer had kind id (booking_in m b)
      (owned m n s h customer owner kind id item e).there found

  pub over_limit : (num : ℕ) → num ≤ m (item + 5) → unit_limit < m (b + 4) + num →
      step s (command.Reserve customer kind id num) ≡ refused s UnitLimit
  over_limit num free over =
      let f : nat_lt (item_in m item).free num ≡ false = grind (arith, nat_tests) in
      let t : nat_lt unit_limit ((booking_in m b).units + num) ≡ true = grind (arith, nat_tests) in
      rw ((owned m n s h customer owner kind id item e).there, there, f, found, t) refl

  module _ (m2 : ℕ → ℕ) (num price : ℕ) (free : num ≤ m (item + 5))
      (now : IsBookingNow m m2 b (extended (booking_in m b) num price)) where
    abbrev more : State
    more = with_bookings s customer (insert had (kind, id) (booking_in m2 b))

    grown : Stays h.represents m2 [] more
    grown = booking_replaced m m2 n [] s customer owner had (kind, id) b h.represents
        (at_owner m n s h customer owner kind id item e (owned m n s h customer owner kind id item e))
        (record { small = e.small; at = is; some = some }) now.others

    item_at : IsItemAt grown.after kind id item
    item_at = item_stays m m2 n [] [] s more h.represents kind id item grown
        (at_item m n s h customer owner kind id item e)

    item_same : item_in m2 item ≡ item_in m item
    item_same = item_words m m2 n [] [] s more h.represents kind id item grown
        (at_item m n s h customer owner kind id item e) (item_of-with_bookings s customer
        (insert had (kind, id) (booking_in m2 b)) kind id)

    pub free_same : m2 (item + 5) ≡ m (item + 5)
    free_same = ap (λ (x : Item). x.free) item_same

    pub used_fits : m2 (item + 4) + num < 2 ^ 64
    used_fits = omega (arith, counts_fit m n s h kind id item num there free, ap (λ (x : Item). x.used) item_same)

    pub extended_lands : (m3 : ℕ → ℕ) → m (item + 7) ≡ price → m (b + 4) + num ≤ unit_limit →
        IsItemNow m2 m3 item (taken (item_in m2 item) num) →
        Lands h m3 (command.Reserve customer kind id num) reply.Done
    extended_lands m3 price_is few made =
        let after = item_replaced m2 m3 n [] more kind id item grown.after item_at made.others in
        let f : nat_lt (item_in m item).free num ≡ false = grind (arith, nat_tests) in
        let t : nat_lt unit_limit ((booking_in m b).units + num) ≡ false = grind (arith, nat_tests) in
        let stepped : step s (command.Reserve customer kind id num) ≡ done
        (with_item (with_bookings s customer (insert had (kind, id) (extended (booking_in m b) num (m (item + 7)))))
        kind id (taken (item_in m item) num)) =
        rw ((owned m n s h customer owner kind id item e).there, there, f, found, t) refl in
        let booked : extended (booking_in m b) num (m (item + 7)) ≡ booking_in m2 b =
        ap (extended (booking_in m b) num) price_is ∙ sym now.is in
        let put : taken (item_in m item) num ≡ item_in m3 item =
        ap (λ (x : Item). taken x num) (sym item_same) ∙ sym made.is in
        record {
          state = with_item more kind id (item_in m3 item);
          is = stepped ∙ (ap (λ (x : Booking). done (with_item
              (with_bookings s customer (insert had (kind, id) x)) kind id (taken (item_in m item) num))) booked
              ∙ ap (λ (x : Item). done (with_item more kind id x)) put);
          stays = record { after = after.after; tables = λ i l. after.tables i l ∙ grown.tables i l };
        }

    pub extended_booking : (m3 : ℕ → ℕ) → IsItemNow m2 m3 item (taken (item_in m2 item) num) → (s3 : State) →
        (h3 : IsState m3 n s3) → IsBookingAt h3.represents owner (kind, id) b
    extended_booking m3 made s3 h3 =
        let key = place_key (kind, id) in
        let rows = h.represents.parts.lists owner in
        let whose = owner_in_table m n s h customer owner kind id item e in
        let inside = row_times key b rows (row_at key b rows is some) in
        let l2 = list_of_booking m m2 n [] s h.represents owner b inside now.others whose in
        let still = customer_still m m2 n [] [] s more h.represents owner grown whose in
        let same = list_same m2 n [] more grown.after owner rows still l2 in
        let l3 = list_of_item m2 m3 n [] more grown.after kind id item owner item_at made.others still in
        let after = item_replaced m2 m3 n [] more kind id item grown.after item_at made.others in
        let last = with_item more kind id (item_in m3 item) in
        let still3 = customer_still m2 m3 n [] [] more last grown.after owner after still in
        let same3 = list_after m3 n last s3 after.after h3.represents owner (grown.after.parts.lists owner) still3 l3 in
        record { small = e.small; at = ap (λ (rs : Rows). block_at rs key) (same3 ∙ same) ∙ is; some = some }

-- the calls, under each image
module _ (s : View) (customer owner : ℕ) (kind : Kind) (id item num : ℕ) (offer : Offer) (b : ℕ)
    (o : IsOffered s item num offer) (b_some : b ≢ 0) where
  enough_at : (image : List ℕ) → Sees s image → num ≤ mem s image (item + 5)
  enough_at image i = omega (arith, o.enough, o.free_is image i)

  module _ (s1 : View) (v : ℕ) (l : Loaded s s1 (b + 4) v) where
    pub too_many : 10000 < v + num → ServesCommand s s1 (command.Reserve customer kind id num) (reply.No UnitLimit)
        (AtPrice item offer.price (AtBooking customer owner kind id item b))
    too_many over = reads_serve s s1 (command.Reserve customer kind id num) (reply.No UnitLimit)
        (AtPrice item offer.price (AtBooking customer owner kind id item b))
        (record { kept = l.kept; writes = l.writes }) (λ image state i h p.
        over_limit (mem s image) (length image) state h customer owner kind id item b p.there.here p.there.is b_some
        num (enough_at image (l.kept.seen image i)) (omega (arith, over, l.answer image i)))

    module _ (held : HoldsState s) (c : CustomerIsAt s customer owner) (f : ItemIsAt s kind id item)
        (g : HasBookingAt s owner (kind, id) b) (small : id < 2 ^ 32) where
      at_size : (image : List ℕ) (state : State) → RestsOn s image → (h : IsState (mem s image) (length image) state) →
          AtBooking customer owner kind id item b (mem s image) (length image) state h
      at_size image state i h = record {
        here = here_at s customer owner kind id item c f small image state i h;
        is = g.at image state i h;
      }

      range_at : (image : List ℕ) → (i : RestsOn s1 image) →
          IsBooking ((held.under image (stood l.kept image i)).0) kind id (booking_in (mem s image) b)
      range_at image i =
          let i0 = stood l.kept image i in
          let t = held.under image i0 in
          let p = at_size image t.0 i0 t.1 in
          its_range (mem s image) (length image) t.0 t.1 customer owner kind id item b p.here p.is b_some

      pub units_small : ∥ ((image : List ℕ) × RestsOn s1 image) ∥₁ → v ≤ 10000
      units_small ws = some_le v 10000 ws (λ w. omega (arith, (range_at w.0 w.1).few_units, l.answer w.0 w.1.sees))

      pub can_extend : num < 2 ^ 32 → offer.price ≤ 1000000 → CanExtend s1 b num offer.price
      can_extend few cheap =
          let product : num * offer.price ≤ num * 1000000 = mul-le-mul_left num cheap in
          record {
            sum = record {
              fits = λ image i.
                  let r = range_at image i in
                  rw l.writes (omega (arith, r.few_units, r.sum_range, product, few));
            };
            units = record { fits = λ image i. rw l.writes (omega (arith, (range_at image i).few_units, few)) };
          }

    module _ (s2 : View) (w : BookingChanged s1 s2 b (λ x. extended x num offer.price)) where
      its_change : (image : List ℕ) → Sees s2 image → IsBookingNow (mem s image) (mem s2 image) b
          (extended (booking_in (mem s image) b) num offer.price)
      its_change image i = rw l.writes at (w.changed image i)

      free_now : (image : List ℕ) (state : State) → Sees s2 image → Sees s image →
          (h : IsState (mem s image) (length image) state) →
          AtBooking customer owner kind id item b (mem s image) (length image) state h →
          mem s2 image (item + 5) ≡ offer.free
      free_now image state i i0 h p =
          free_same (mem s image) (length image) state h customer owner kind id item b p.here p.is b_some
          (mem s2 image) num offer.price (enough_at image i0) (its_change image i) ∙ o.free_is image i0

      pub can_make : HoldsState s → CustomerIsAt s customer owner → ItemIsAt s kind id item →
          HasBookingAt s owner (kind, id) b → id < 2 ^ 32 → CanMakeOf s2 item num offer.free
      can_make held c f g small = record {
        free_is = λ image i.
            let i0 = stood l.kept image (stood w.kept image i) in
            let t = held.under image i0 in
            free_now image t.0 i.sees i0.sees t.1 (at_size held c f g small image t.0 i0 t.1);
        enough = o.enough;
        used = record {
          fits = λ image i.
              let i0 = stood l.kept image (stood w.kept image i) in
              let t = held.under image i0 in
              let p = at_size held c f g small image t.0 i0 t.1 in
              used_fits (mem s image) (length image) t.0 t.1 customer owner kind id item b p.here p.is b_some
              (mem s2 image) num offer.price (enough_at image i0.sees) (its_change image i.sees);
        };
      }

      pub extend_done : (s3 : View) → v + num ≤ 10000 → ItemChangedOf s2 s3 item offer.free (λ x. taken x num) →
          ServesCommand s s3 (command.Reserve customer kind id num) reply.Done
          (AtPrice item offer.price (AtBooking customer owner kind id item b))
      extend_done s3 under made = record {
        kept = kept_both s s2 s3 (kept_both s s1 s2 l.kept w.kept) made.kept;
        untouched = tt;
        idle = tt;
        lands = λ image state i h p.
            let i2 = made.kept.seen image i in
            let i1 = w.kept.seen image i2 in
            let i0 = l.kept.seen image i1 in
            extended_lands (mem s image) (length image) state h customer owner kind id item b p.there.here p.there.is
            b_some (mem s2 image) num offer.price (enough_at image i0) (its_change image i2)
            (mem s3 image) p.price_is (omega (arith, under, l.answer image i1))
            (made.changed image i (free_now image state i2 i0 h p.there));
      }

      pub extend_stays : (s3 : View) → ItemChangedOf s2 s3 item offer.free (λ x. taken x num) → b + 8 ≤ s.size →
          LeavesBooking s s3 owner (kind, id) b (AtBooking customer owner kind id item b)
      extend_stays s3 made room = record {
        room = omega (arith, room, l.kept.size, w.kept.size, made.kept.size);
        at = λ image state state' i h p h'.
            let i2 = made.kept.seen image i in
            let i1 = w.kept.seen image i2 in
            let i0 = l.kept.seen image i1 in
            extended_booking (mem s image) (length image) state h customer owner kind id item b p.here p.is b_some
            (mem s2 image) num offer.price (enough_at image i0) (its_change image i2)
            (mem s3 image) (made.changed image i (free_now image state i2 i0 h p)) state' h';
      }
