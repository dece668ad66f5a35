-- A booking is hung into a customer's list, and taken out of it.
use Rattle.std.proofs.Common.{◌≡◌, ◌≢◌, inl, inr, ℕ, ◌+◌, ◌<◌, ◌≤◌, ◌^◌, length, Option, Some, None, refl, sym, ap, ◌∙◌}
use Rattle.std.proofs.Common.{subst, arith, add-zero}
use Rattle.std.proofs.lemmas.Bool.{cases_lt}
use Rattle.tx_memory.specs.View.{View, Loaded}
use Rattle.vac_model.specs.declared.items.Kind.{Kind}
use Rattle.vac_model.specs.State.{Place, kind_number}
use Rattle.tx_alloc.specs.Rows.{Rows, times, block_at, Relinks}
use Rattle.vac_bookings.specs.declared.key.Key.{Key}
use Rattle.vac_bookings.specs.declared.search.Spot.{Spot}
use Rattle.vac_bookings.specs.Lists.{IsListAt, FreshBooking}
use Rattle.vac_bookings.specs.Search.{Hung, Unhung}
use Rattle.vac_bookings.proofs.Frame.{list_frame, list_block}
use Rattle.vac_bookings.proofs.Spots.{Unmoved, spot_stays}
use Rattle.vac_records.specs.Bookings.{place_key}
use Rattle.vac_records.specs.Items.{mem, IsNode}
use Rattle.vac_records.specs.Customers.{head_of, IsNewBooking, BookingMade, IsLoose, BookedAt, UnbookedAt}
use Rattle.vac_records.specs.Steps.{kept_both}
use Rattle.vac_records.proofs.Keyed.{row_at, row_times}
use Rattle.vac_records.proofs.Shifts.{kind_small}

-- the list is as before where a block outside of it became a booking
unmoved : (m m' : ℕ → ℕ) (n customer : ℕ) (rows : Rows) (place : Place) (num price b : ℕ) →
    IsListAt m n (head_of customer) rows → IsLoose m n customer rows place b → IsNewBooking m m' b place num price →
    Unmoved m m' (head_of customer) rows
unmoved m m' n customer rows place num price b h l w = record {
  start = w.others (head_of customer) l.outside;
  blocks = λ a o k less.
      let ba = list_block m n (m (head_of customer)) a rows h.list o in
      let ne : a ≢ b = λ q. absurd (omega (arith, o, l.loose, ap (λ (z : ℕ). times z rows) q)) in
      w.others (a + k) (elim (cases_lt a b) [
        | inl below ↦ inl (omega (arith, ba.1.1, l.block.1.1))
        | inr above ↦
            inr (omega (arith, ba.1.1, l.block.1.1))
      ]);
}

list_untouched : (m m' : ℕ → ℕ) (n customer : ℕ) (rows : Rows) (place : Place) (num price b : ℕ) →
    IsListAt m n (head_of customer) rows → IsLoose m n customer rows place b → IsNewBooking m m' b place num price →
    IsListAt m' n (head_of customer) rows
list_untouched m m' n customer rows place num price b h l w =
    let u = unmoved m m' n customer rows place num price b h l w in
    record {
      list = rw u.start (list_frame m m' n (m (head_of customer)) rows h.list u.blocks);
      outside = h.outside;
    }

-- the key of a place
abbrev key : Kind → ℕ → Key
key kind id = record { kind = kind_number kind; id = id }

fresh_after : (m m1 : ℕ → ℕ) (n customer : ℕ) (kind : Kind) (id num price b : ℕ) (rows : Rows) →
    IsLoose m n customer rows (kind, id) b → IsNewBooking m m1 b (kind, id) num price →
    FreshBooking m1 n (head_of customer) rows (key kind id) b
fresh_after m m1 n customer kind id num price b rows loose made =
    let first : m1 (b + 0) ≡ m1 b = rw add-zero refl in
    record {
      block = loose.block;
      outside = loose.outside;
      absent = loose.absent;
      loose = loose.loose;
      kind_is = first ∙ made.kind_is;
      id_is = made.id_is;
    }

-- a spot of the list stays where a block outside of it became a booking
pub booked_after : (s s1 s2 : View) (spot : Spot) (kind : Kind) (id num price b : ℕ) → id < 2 ^ 32 →
    BookingMade s s1 b (kind, id) num price → Hung s1 s2 spot b → BookedAt s s2 spot (kind, id) num price b
booked_after s s1 s2 spot kind id num price b small w hung = record {
  kept = kept_both s s1 s2 w.kept hung.kept;
  booked = λ image i customer rows listed p l.
      let made = w.made image (hung.kept.seen image i) in
      let m = mem s image in
      let m1 = mem s1 image in
      let later = list_untouched m m1 (length image) customer rows (kind, id) num price b listed l made in
      let still = spot_stays m m1 (head_of customer) (place_key (kind, id)) spot rows
      (unmoved m m1 (length image) customer rows (kind, id) num price b listed l made) p in
      let fresh = fresh_after m m1 (length image) customer kind id num price b rows l made in
      let ins = hung.insertion image i (head_of customer) (key kind id) rows (
        kind_small kind,
        small,
      ) later still fresh in
      record { between = m1; made = made; list = ins.list; relinks = ins.relinks };
}

-- the words of the block that left the list, but its link, are as before
units_same : (m m' : ℕ → ℕ) (n customer key b : ℕ) (rows : Rows) → IsListAt m n (head_of customer) rows →
    Relinks m m' 3 (head_of customer) rows → b ≡ block_at rows key → b ≢ 0 → m' (b + 4) ≡ m (b + 4)
units_same m m' n customer key b rows at r e some =
    let o = row_times key b rows (row_at key b rows (sym e) some) in
    let bb = list_block m n (m (head_of customer)) b rows at.list o in
    let ne : b + 4 ≢ head_of customer = λ q. elim (at.outside b o) [
      | inl low ↦ absurd (omega arith)
      | inr high ↦
          absurd (omega arith)
    ] in
    r.others (b + 4) ne (λ a oa.
    let ba = list_block m n (m (head_of customer)) a rows at.list oa in
    elim (cases_lt b a) [
      | inl below ↦ inl (omega (arith, ba.1.1, bb.1.1))
      | inr above ↦
          inr (omega (arith, ba.1.1, bb.1.1))
    ])

pub unbooked_some : (s s1 s2 : View) (spot : Spot) (found : Option ℕ) (block : ℕ) (units : ℕ) → found ≡ Some block →
    Unhung s s1 spot found → Loaded s1 s2 (block + 4) units → UnbookedAt s s2 spot (Some (block, units))
unbooked_some s s1 s2 spot found block units is v l =
    let u = subst (λ (z : Option ℕ). Unhung s s1 spot z) is v in
    record {
      kept = kept_both s s1 s2 u.kept l.kept;
      none = λ e. absurd (let z : ◌≡◌ {A = Option (ℕ × ℕ)} (Some (block, units)) None = e in cc);
      within = (let w = u.within in (w.0, omega (arith, w.1, l.kept.size)));
      unbooking = λ image i customer place rows listed p.
          let r = u.removal image (l.kept.seen image i) (head_of customer) (place_key place) rows listed p in
          let some : block ≢ 0 = (let w = u.within in λ z. absurd (omega (arith, z, w.0))) in
          record {
            is = r.is;
            units = sym (units_same (mem s image) (mem s1 image) (length image) customer
                (place_key place) block rows listed r.relinks r.is some) ∙ l.answer image i;
            list = rw l.writes r.list;
            relinks = rw l.writes r.relinks;
          };
    }

pub unbooked_none : (s s1 : View) (spot : Spot) (found : Option ℕ) → found ≡ None → Unhung s s1 spot found →
    UnbookedAt s s1 spot None
unbooked_none s s1 spot found is v =
    let u = subst (λ (z : Option ℕ). Unhung s s1 spot z) is v in
    record {
      kept = u.kept;
      none = λ _. u.none refl;
      within = tt;
      unbooking = λ image i customer place rows listed p.
          let r = u.removal image i (head_of customer) (place_key place) rows listed p in
          record { is = r.is; units = tt; list = r.list; relinks = r.relinks };
    }

-- the block that was taken out is a block of the memory
pub taken_node : (s s1 : View) (spot : Spot) (block : ℕ) → s.size ≤ 2 ^ 32 → Unhung s s1 spot (Some block) →
    IsNode s1 block
taken_node s s1 spot block small v = let w = v.within in record {
  inside = w.1;
  small = omega (arith, small, v.kept.size);
}
