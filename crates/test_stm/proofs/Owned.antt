-- The effects of the calls on a customer on its bookings.
use Rattle.std.proofs.Common.{◌≡◌, ◌≢◌, inl, inr, ℕ, ◌+◌, ◌*◌, ◌<◌, ◌≤◌, ◌^◌, List, [], ◌∷◌, length, nat_eq, false}
use Rattle.std.proofs.Common.{refl, sym, ap, ◌∙◌, subst, arith}
use Rattle.std.proofs.lemmas.Bool.Decides.{nat_tests}
use Rattle.tx_memory.specs.View.{View, Sees, Kept}
use Rattle.tx_memory.specs.Seen.{same_or}
use Rattle.tx_alloc.specs.Steps.{mem}
use Rattle.tx_alloc.specs.Rows.{Rows, times}
use Rattle.vac_bookings.specs.Bookings.{IsList}
use Rattle.vac_bookings.specs.Lists.{IsListAt, HasList}
use Rattle.vac_bookings.specs.Search.{Sought, SpotAt}
use Rattle.vac_bookings.specs.declared.search.Spot.{Spot}
use Rattle.vac_bookings.proofs.Spots.{sought_spot}
use Rattle.vac_model.specs.declared.items.Booking.{Booking}
use Rattle.vac_model.specs.State.{Place}
use Rattle.vac_model.specs.Step.{extended}
use Rattle.vac_records.specs.Items.{IsNode}
use Rattle.vac_records.specs.Bookings.{place_key}
use Rattle.vac_records.specs.Customers.{CustomerMade, IsLoose, IsBooked, BookedAt, CanExtend, BookingChanged}
use Rattle.vac_records.specs.Customers.{CanBill}
use Rattle.vac_records.proofs.Links.{list_kept}
use Rattle.test_stm.specs.Laws.{HoldsUnder}
use Rattle.test_stm.specs.Records.{IsSized, HasNoBooking, HasOneBooking}

pub customer_held : (s : View) → HoldsUnder (λ m n. IsSized m n) 96 s → IsNode s 24
customer_held s h = record { inside = omega (arith, h.size_is); small = omega (arith, h.size_is) }

pub customer_made : (s s' : View) (key : ℕ) → HoldsUnder (λ m n. IsSized m n) 96 s → CustomerMade s s' 24 key →
    HasNoBooking s'
customer_made s s' key h c = record {
  size = c.kept.size ∙ h.size_is;
  long = λ image i. h.under image (c.kept.seen image i);
  head_is = λ image i. (c.made image i).head_is;
}

list_empty : (m : ℕ → ℕ) (n : ℕ) → m 28 ≡ 0 → IsListAt m n 28 []
list_empty m n e = record { list = record { linked = e }; outside = λ a x. absurd (omega (arith, x)) }

pub no_list : (s : View) → HasNoBooking s → HasList s 28
no_list s h = record {
  small = omega (arith, h.size);
  room = omega (arith, h.size);
  under = λ image i. record { entries = []; is = list_empty _ _ (h.head_is image i.sees) };
}

none_loose : (m : ℕ → ℕ) (n : ℕ) (place : Place) (rows : Rows) → m 28 ≡ 0 → n ≡ 96 → IsListAt m n 28 rows →
    IsLoose m n 24 rows place 32
none_loose m n place [] e size l = record {
  block = (2, (omega (arith, size), omega arith));
  outside = inl (omega arith);
  absent = refl;
  loose = refl;
}
none_loose m n place (r ∷ rs) e size l =
    let b = l.list.linked.0 in
    absurd (omega (arith, e, b.at, b.block.1.1))

pub none_node : (s : View) → HasNoBooking s → (node : ℕ) → node + 8 ≤ 96 → IsNode s node
none_node s h node l = record { inside = omega (arith, h.size, l); small = omega (arith, h.size) }

pub none_read : (s s' : View) → HasNoBooking s → Kept s s' → s'.writes ≡ s.writes → HasNoBooking s'
none_read s s' h k w = record {
  size = k.size ∙ h.size;
  long = λ image i. h.long image (k.seen image i);
  head_is = λ image i. rw w (h.head_is image (k.seen image i));
}

-- the only block of one row
only : (key a : ℕ) → 0 < times a ((key, 32) ∷ []) → a ≡ 32
only key a h =
    elim (same_or a 32) [
      | inl e ↦ e
      | inr ne ↦ (let t : nat_eq 32 a ≡ false = grind (arith, nat_tests) in let z : 0 < 0 = rw t at h in
          absurd (omega (arith, z)))
    ]

booked_one : (s s1 s2 : View) (place : Place) (num price : ℕ) (spot : Spot) → HasNoBooking s →
    Sought s s1 28 (place_key place) spot → BookedAt s1 s2 spot place num price 32 → (image : List ℕ) → Sees s2 image →
    IsBooked (mem s1 image) (mem s2 image) (length image) 24 [] place num price 32
booked_one s s1 s2 place num price spot h k b image i =
    let i1 = b.kept.seen image i in
    let list = list_empty (mem s image) (length image) (h.head_is image (k.kept.seen image i1)) in
    let p : SpotAt (mem s image) 28 (place_key place) spot [] =
    sought_spot s s1 28 (place_key place) spot k image [] i1 list in
    let h1 = none_read s s1 h k.kept k.writes in
    let list1 = list_empty (mem s1 image) (length image) (h1.head_is image i1) in
    b.booked image i 24 [] list1 (rw k.writes p) (none_loose (mem s1 image) (length image) place []
    (h1.head_is image i1) (h1.long image i1) list1)

pub booked : (s s1 s2 : View) (place : Place) (num price : ℕ) (spot : Spot) → HasNoBooking s →
    Sought s s1 28 (place_key place) spot → BookedAt s1 s2 spot place num price 32 →
    HasOneBooking s2 (place_key place) num (num * price)
booked s s1 s2 place num price spot h k b = record {
  size = b.kept.size ∙ (k.kept.size ∙ h.size);
  long = λ image i. h.long image (k.kept.seen image (b.kept.seen image i));
  list = λ image i. (booked_one s s1 s2 place num price spot h k b image i).list;
  sum_is = λ image i.
      let t = booked_one s s1 s2 place num price spot h k b image i in
      t.relinks.others 34 (omega arith) (λ a x. let e = only (place_key place) a x in
      inl (omega (arith, e))) ∙ ap (λ (v : Booking). v.sum) t.made.is;
  units_is = λ image i.
      let t = booked_one s s1 s2 place num price spot h k b image i in
      t.relinks.others 36 (omega arith) (λ a x. let e = only (place_key place) a x in
      inr (omega (arith, e))) ∙ ap (λ (v : Booking). v.units) t.made.is;
}

-- the words that link the blocks, and the keys, are as before
kept_list : (m m' : ℕ → ℕ) (n key : ℕ) → ((x : ℕ) → x ≢ 34 → x ≢ 36 → m' x ≡ m x) → IsListAt m n 28 ((key, 32) ∷ []) →
    IsListAt m' n 28 ((key, 32) ∷ [])
kept_list m m' n key same l =
    let head : m' 28 ≡ m 28 = same 28 (omega arith) (omega arith) in
    let rest = list_kept m m' n (m 28) ((key, 32) ∷ []) l.list (λ a x.
    let e = only key a x in
    record {
      kind = same (a + 0) (omega (arith, e)) (omega (arith, e));
      id = same (a + 1) (omega (arith, e)) (omega (arith, e));
      next =
          same (a + 3) (omega (arith, e)) (omega (arith, e));
    }) in
    record { list = subst (λ (p : ℕ). IsList m' n p ((key, 32) ∷ [])) (sym head) rest; outside = l.outside }

module _ (s : View) (key units sum : ℕ) (h : HasOneBooking s key units sum) where
  pub one_list : HasList s 28
  one_list = record {
    small = omega (arith, h.size);
    room = omega (arith, h.size);
    under = λ image i. record { entries = (key, 32) ∷ []; is = h.list image i.sees };
  }

  pub booking_node : IsNode s 32
  booking_node = record { inside = omega (arith, h.size); small = omega (arith, h.size) }

  pub can_extend : (num price : ℕ) → sum + num * price < 2 ^ 64 → units + num < 2 ^ 64 → CanExtend s 32 num price
  can_extend num price l k = record {
    sum = record { fits = λ image i. let e = h.sum_is image i.sees in rw e l };
    units = record { fits = λ image i. let e = h.units_is image i.sees in rw e k };
  }

  pub extended_booking : (s' : View) (num price : ℕ) → BookingChanged s s' 32 (λ b. extended b num price) →
      HasOneBooking s' key (units + num) (sum + num * price)
  extended_booking s' num price c = record {
    size = c.kept.size ∙ h.size;
    long = λ image i. h.long image (c.kept.seen image i);
    list = λ image i. kept_list (mem s image) (mem s' image) (length image) key (c.changed image i).others
        (h.list image (c.kept.seen image i));
    sum_is = λ image i. ap (λ (b : Booking). b.sum) (c.changed image i).is ∙ ap (λ (v : ℕ). v + num * price)
        (h.sum_is image (c.kept.seen image i));
    units_is = λ image i. ap (λ (b : Booking). b.units) (c.changed image i).is ∙ ap (λ (v : ℕ). v + num)
        (h.units_is image (c.kept.seen image i));
  }

  pub can_bill : sum < 2 ^ 64 → CanBill s 24
  can_bill l = record {
    small = omega (arith, h.size);
    room = omega (arith, h.size);
    under = λ image i. record {
      entries = (key, 32) ∷ [];
      is = record {
        list = h.list image i.sees;
        few = omega arith;
        fits = omega (arith, h.sum_is image i.sees, l);
      };
    };
  }

  pub one_read : (s' : View) → Kept s s' → s'.writes ≡ s.writes → HasOneBooking s' key units sum
  one_read s' k w = record {
    size = k.size ∙ h.size;
    long = λ image i. h.long image (k.seen image i);
    list = λ image i. rw w (h.list image (k.seen image i));
    sum_is = λ image i. rw w (h.sum_is image (k.seen image i));
    units_is = λ image i. rw w (h.units_is image (k.seen image i));
  }

  pub customer_node : IsNode s 24
  customer_node = record { inside = omega (arith, h.size); small = omega (arith, h.size) }
