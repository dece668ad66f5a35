-- A booking leaves its list, its units are given back to the item, and its block is free.
use Rattle.std.proofs.Common.{◌≡◌, ◌≢◌, ℕ, ◌+◌, ◌<◌, ◌≤◌, ◌^◌, List, [], ◌∷◌, length, Option, Some, None, refl, sym, ap}
use Rattle.std.proofs.Common.{◌∙◌, arith}
use Rattle.std.specs.FinMap.{get, remove}
use Rattle.tx_memory.specs.View.{View, Sees, RestsOn}
use Rattle.vac_model.specs.declared.items.Kind.{Kind}
use Rattle.vac_model.specs.declared.items.Item.{Item}
use Rattle.vac_model.specs.declared.commands.Command.TheVariants as command
use Rattle.vac_model.specs.declared.commands.Refusal.TheVariants.{NotBooked}
use Rattle.vac_model.specs.declared.replies.Reply.TheVariants as reply
use Rattle.vac_model.specs.State.{State, Bookings, kind_number, item_of, with_item, with_bookings}
use Rattle.vac_model.specs.Step.{done, step, given_back}
use Rattle.vac_model.proofs.States.{item_of-with_bookings}
use Rattle.vac_model.proofs.Balance.{some_same}
use Rattle.vac_model.proofs.Holdings.{units-used}
use Rattle.vac_bookings.specs.declared.search.Spot.{Spot}
use Rattle.tx_alloc.specs.Pool.{IsBlock, IsUsed, IsGiving, HasUsed, Given}
use Rattle.tx_alloc.specs.Rows.{Rows, block_at}
use Rattle.vac_records.specs.Items.{mem, item_in, IsItemNow, CanCancel, ItemChanged}
use Rattle.vac_records.specs.Bookings.{place_key, booking_in}
use Rattle.vac_records.specs.Customers.{IsUnbooking, UnbookedAt}
use Rattle.vac_records.specs.Heap.{used_in, count_in}
use Rattle.vac_records.specs.Represents.{Represents, IsState}
use Rattle.vac_records.specs.InMemory.{HoldsState}
use Rattle.vac_records.specs.Laws.{Stays, ListCut, IsItemAt}
use Rattle.vac_records.specs.Steps.{kept_both, stood}
use Rattle.vac_records.proofs.Shifts.{kind_small}
use Rattle.vac_records.proofs.Items.{item_found, item_replaced}
use Rattle.vac_records.proofs.Booked.{booking_removed}
use Rattle.vac_records.proofs.Hands.{block_given}
use Rattle.vac_records.proofs.Bridges.{hand_there}
use Rattle.vac_tasks.specs.Entries.{ItemIsAt, CustomerIsAt}
use Rattle.vac_tasks.specs.BookingSteps.{booking_block, Here, AtSpot, HasSpot, Lands, ServesCommand}
use Rattle.vac_tasks.proofs.Serving.{reads_serve}
use Rattle.vac_tasks.proofs.Owners.{here_at, owned, at_owner, its_list, at_item, its_item, booked_at, not_booked}
use Rattle.vac_tasks.proofs.Owners.{booking_is_block}

-- the item stands where it stood after a change that lets the tables stay
pub item_stays : (m m' : ℕ → ℕ) (n : ℕ) (out out' : List ℕ) (s s' : State) (h : Represents m n out s) (kind : Kind)
    (id item : ℕ) → (g : Stays h m' out' s') → IsItemAt h kind id item → IsItemAt g.after kind id item
item_stays m m' n out out' s s' h kind id item g at =
    let small = kind_small kind in
    record {
      at = ap (λ (rs : Rows). block_at rs id) (g.tables (kind_number kind) (omega (arith, small))) ∙ at.at;
      some = at.some;
    }

-- and it is the same item where the state's items are the same
pub item_words : (m m' : ℕ → ℕ) (n : ℕ) (out out' : List ℕ) (s s' : State) (h : Represents m n out s) (kind : Kind)
    (id item : ℕ) → (g : Stays h m' out' s') → IsItemAt h kind id item →
    item_of s' kind id ≡ item_of s kind id → item_in m' item ≡ item_in m item
item_words m m' n out out' s s' h kind id item g at same =
    some_same (item_in m' item) (item_in m item)
    (sym (item_found m' n out' s' g.after kind id item (item_stays m m' n out out' s s' h kind id item g at)) ∙
    (same ∙ item_found m n out s h kind id item at))

module _ (m m1 : ℕ → ℕ) (n : ℕ) (s : State) (h : IsState m n s) (customer owner : ℕ) (kind : Kind) (id item b units : ℕ)
    (e : Here h customer owner kind id item)
    (is : booking_block h owner (kind, id) ≡ b) (some : b ≢ 0)
    (cut : ListCut m m1 n owner (h.represents.parts.lists owner) (place_key (kind, id)))
    (units_is : m (b + 4) ≡ units) where
  abbrev had : Bookings
  had = (owned m n s h customer owner kind id item e).bookings

  abbrev less : State
  less = with_bookings s customer (remove had (kind, id))

  unhung : Stays h.represents m1 (b ∷ []) less
  unhung = booking_removed m m1 n [] s customer owner had (kind, id) b h.represents
      (at_owner m n s h customer owner kind id item e (owned m n s h customer owner kind id item e))
      (record { small = e.small; at = is; some = some }) cut

  item_at : IsItemAt unhung.after kind id item
  item_at = item_stays m m1 n [] (b ∷ []) s less h.represents kind id item unhung
      (at_item m n s h customer owner kind id item e)

  item_same : item_in m1 item ≡ item_in m item
  item_same = item_words m m1 n [] (b ∷ []) s less h.represents kind id item unhung
      (at_item m n s h customer owner kind id item e) (item_of-with_bookings s customer (remove had (kind, id)) kind id)

  found : get had (kind, id) ≡ Some (booking_in m b)
  found = booked_at m n s h customer owner kind id item e (owned m n s h customer owner kind id item e) b is some

  there : item_of s kind id ≡ Some (item_in m item)
  there = its_item m n s h customer owner kind id item e

  pub units_are_used : units ≤ m1 (item + 4)
  units_are_used =
      let used = units-used s customer had kind id (item_in m item) (booking_in m b) h.small.balanced
      (owned m n s h customer owner kind id item e).there there found in
      omega (arith, used, units_is, ap (λ (x : Item). x.used) item_same)

  pub units_fit : m1 (item + 5) + units < 2 ^ 64
  units_fit =
      let used = units-used s customer had kind id (item_in m item) (booking_in m b) h.small.balanced
      (owned m n s h customer owner kind id item e).there there found in
      let f = h.small.balanced.items kind id (item_in m item) there in
      omega (arith, used, units_is, f.counts, f.few_units, ap (λ (x : Item). x.free) item_same)

  module _ (m2 : ℕ → ℕ) (now : IsItemNow m1 m2 item (given_back (item_in m1 item) units)) where
    given : Stays unhung.after m2 (b ∷ []) (with_item less kind id (item_in m2 item))
    given = item_replaced m1 m2 n (b ∷ []) less kind id item unhung.after item_at now.others

    is_block : IsBlock n b
    is_block = booking_is_block m n s h customer owner kind id item e b is some

    pub in_hand : (free : ℕ → List ℕ) × ((used : ℕ → ℕ) × ((count : ℕ) × IsUsed m2 n free used count b))
    in_hand = (
      given.after.parts.free,
      (
        used_in (record given.after.parts { out = [] }),
        (
          count_in (record given.after.parts { out = [] }),
          hand_there m2 n b []
              (with_item less kind id (item_in m2 item)) is_block given.after,
        ),
      ),
    )

    pub cancelled : (m3 : ℕ → ℕ) (start : ℕ) → start < 8 →
        ((free : ℕ → List ℕ) (used : ℕ → ℕ) (count : ℕ) → IsUsed m2 n free used count b →
        IsGiving m2 m3 n free used count start b) →
        Lands h m3 (command.Cancel customer kind id) reply.Done
    cancelled m3 start low give =
        let after = with_item less kind id (item_in m2 item) in
        let free = block_given m2 m3 n start b [] after low is_block given.after
        (λ used count u. give given.after.parts.free used count u) in
        let put : item_in m2 item ≡ given_back (item_in m item) (booking_in m b).units =
        now.is ∙ (ap (λ (x : Item). given_back x units) item_same ∙ ap (given_back (item_in m item)) (sym units_is)) in
        let stepped : step s (command.Cancel customer kind id) ≡ done
        (with_item less kind id (given_back (item_in m item) (booking_in m b).units)) =
        rw ((owned m n s h customer owner kind id item e).there, there, found) refl in
        record {
          state = after;
          is = stepped ∙ ap (λ (x : Item). done (with_item less kind id x)) (sym put);
          stays = record {
            after = free.after;
            tables = λ i l. free.tables i l ∙ (given.tables i l ∙
                unhung.tables i l);
          };
        }

-- the calls, under each image
module _ (s s1 : View) (customer owner : ℕ) (kind : Kind) (id item : ℕ) (spot : Spot) where
  its_unbooking : (taken : Option (ℕ × ℕ)) → UnbookedAt s s1 spot taken → (image : List ℕ) (state : State) →
      Sees s1 image → (h : IsState (mem s image) (length image) state) →
      AtSpot customer owner kind id item spot (mem s image) (length image) state h →
      IsUnbooking (mem s image) (mem s1 image) (length image) owner (kind, id) taken (h.represents.parts.lists owner)
  its_unbooking taken u image state i h p =
      u.unbooking image i owner (kind, id) (h.represents.parts.lists owner)
      (its_list (mem s image) (length image) state h customer owner kind id item p.here) p.at

  pub none_booked : UnbookedAt s s1 spot None → ServesCommand s s1 (command.Cancel customer kind id)
      (reply.No NotBooked)
      (AtSpot customer owner kind id item spot)
  none_booked u = reads_serve s s1 (command.Cancel customer kind id) (reply.No NotBooked)
      (AtSpot customer owner kind id item spot) (record { kept = u.kept; writes = u.none refl }) (λ image state i h p.
      let o = owned (mem s image) (length image) state h customer owner kind id item p.here in
      let there = its_item (mem s image) (length image) state h customer owner kind id item p.here in
      let gone = not_booked (mem s image) (length image) state h customer owner kind id item p.here o
      (sym (its_unbooking None u image state i h p).is) in
      rw (o.there, there, gone) refl)

  module _ (x : ℕ) (units : ℕ) (u : UnbookedAt s s1 spot (Some (x, units))) where
    some : x ≢ 0
    some = let w = u.within in omega (arith, w.0)

    its_cut : (image : List ℕ) (state : State) → Sees s1 image → (h : IsState (mem s image) (length image) state) →
        AtSpot customer owner kind id item spot (mem s image) (length image) state h →
        ListCut (mem s image) (mem s1 image) (length image) owner (h.represents.parts.lists owner)
        (place_key (kind, id))
    its_cut image state i h p =
        let r = its_unbooking (Some (x, units)) u image state i h p in
        record { list = r.list.list; relinks = r.relinks }

    module _ (held : HoldsState s) (c : CustomerIsAt s customer owner) (f : ItemIsAt s kind id item)
        (q : HasSpot s owner (kind, id) spot) (small : id < 2 ^ 32) where
      at_size : (image : List ℕ) (state : State) → RestsOn s image → (h : IsState (mem s image) (length image) state) →
          AtSpot customer owner kind id item spot (mem s image) (length image) state h
      at_size image state i h = record {
        here = here_at s customer owner kind id item c f small image state i h;
        at = q.at image state i h;
      }

      pub can_cancel : CanCancel s1 item units
      can_cancel = record {
        used = record {
          enough = λ image i.
              let i0 = stood u.kept image i in
              let t = held.under image i0 in
              let p = at_size image t.0 i0 t.1 in
              let r = its_unbooking (Some (x, units)) u image t.0 i.sees t.1 p in
              units_are_used (mem s image) (mem s1 image) (length image) t.0 t.1 customer owner kind id item x units
              p.here (sym r.is) some (its_cut image t.0 i.sees t.1 p) r.units;
        };
        free = record {
          fits = λ image i.
              let i0 = stood u.kept image i in
              let t = held.under image i0 in
              let p = at_size image t.0 i0 t.1 in
              let r = its_unbooking (Some (x, units)) u image t.0 i.sees t.1 p in
              units_fit (mem s image) (mem s1 image) (length image) t.0 t.1 customer owner kind id item x units p.here
              (sym r.is) some (its_cut image t.0 i.sees t.1 p) r.units;
        };
      }

      pub used_now : (s2 : View) → ItemChanged s1 s2 item (λ y. given_back y units) → HasUsed s2 x
      used_now s2 w = record {
        small = omega (arith, held.small, u.kept.size, w.kept.size);
        under = λ image i.
            let i1 = stood w.kept image i in
            let i0 = stood u.kept image i1 in
            let t = held.under image i0 in
            let p = at_size image t.0 i0 t.1 in
            let k = its_unbooking (Some (x, units)) u image t.0 i1.sees t.1 p in
            let r = in_hand (mem s image) (mem s1 image) (length image) t.0 t.1 customer owner kind id item x units
            p.here (sym k.is) some (its_cut image t.0 i1.sees t.1 p) k.units
            (mem s2 image) (w.changed image i.sees) in
            record { free = r.0; used = r.1.0; count = r.1.1.0; is = r.1.1.1 };
      }

    pub cancel_done : (s2 s3 : View) (start : ℕ) → start < 8 → ItemChanged s1 s2 item (λ y. given_back y units) →
        Given s2 s3 start x → ServesCommand s s3 (command.Cancel customer kind id) reply.Done
        (AtSpot customer owner kind id item spot)
    cancel_done s2 s3 start low w v = record {
      kept = kept_both s s2 s3 (kept_both s s1 s2 u.kept w.kept) v.kept;
      untouched = tt;
      idle = tt;
      lands = λ image state i h p.
          let i2 = v.kept.seen image i in
          let i1 = w.kept.seen image i2 in
          let r = its_unbooking (Some (x, units)) u image state i1 h p in
          cancelled (mem s image) (mem s1 image) (length image) state h customer owner kind id item x units p.here
          (sym r.is) some (its_cut image state i1 h p) r.units
          (mem s2 image) (w.changed image i2) (mem s3 image) start low
          (λ free used count z. v.giving image free used count i z);
    }
