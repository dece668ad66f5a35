-- An insertion and a removal, over every memory that there may be.
use Rattle.std.proofs.Common.{◌≡◌, ◌≢◌, inl, inr, ℕ, ◌+◌, length, Option, Some, None, refl, sym, ap, ◌∙◌, arith}
use Rattle.std.proofs.lemmas.Bool.Decides.{nat_tests}
use Rattle.tx_memory.specs.View.{View, Loaded, Stored, IsWrite}
use Rattle.tx_alloc.specs.Pointer.{pointer, IsWithin}
use Rattle.tx_alloc.specs.Rows.{Rows, put_row, block_at, Relinks}
use Rattle.tx_alloc.specs.Steps.{mem, kept_none, kept_both, write_at_start}
use Rattle.tx_alloc.proofs.Times.{times_put, times_cut}
use Rattle.vac_bookings.specs.Bookings.{code_of, IsKey, link_to_key}
use Rattle.vac_bookings.specs.declared.key.Key.{Key}
use Rattle.vac_bookings.specs.declared.search.Spot.{Spot}
use Rattle.vac_bookings.specs.Lists.{IsListAt, HasList, FreshBooking, IsFreshBooking, IsInsertion}
use Rattle.vac_bookings.specs.Lists.{InsertedBooking, IsRemoval, RemovedBooking}
use Rattle.vac_bookings.specs.Search.{Sought, SpotAt, Hung, Unhung}
use Rattle.vac_bookings.proofs.Links.{outside_spares, link_is, Puts, put_linked, Cuts, cut_linked, cut_none, link_leads}
use Rattle.vac_bookings.proofs.Reading.{Inside, inside, SomeImage}
use Rattle.vac_bookings.proofs.Spots.{sought_spot}

put_relinks : (m m' : ℕ → ℕ) (head key b x : ℕ) (rs : Rows) → Puts m m' b x → x ≡ link_to_key head rs key →
    Relinks m m' 3 head (put_row rs key b)
put_relinks m m' head key b x rs w e =
    let own = times_put b key b rs in
    record {
      others = λ z nh away. elim (link_is head key rs) [
        | inl at ↦ grind (arith, nat_tests, w.others z, away b)
        | inr (a, at) ↦ (let t = times_put a key b rs in grind (arith, nat_tests, w.others z, away a, away b))
      ];
    }

-- two writes put a fresh block in at the key's spot
put_in : (m m1 m2 : ℕ → ℕ) (n head : ℕ) (key : Key) (b : ℕ) (spot : Spot) (rs : Rows) → IsKey key →
    IsListAt m n head rs → SpotAt m head (code_of key) spot rs → FreshBooking m n head rs key b →
    IsWrite m m1 (b + 3) spot.word → IsWrite m1 m2 spot.link.0 b → IsInsertion m m2 n head (code_of key) b rs
put_in m m1 m2 n head key b spot rs is_key h p f w w' =
    let x = spot.link.0 in
    let apart : x ≢ b + 3 = λ e. elim (link_is head (code_of key) rs) [
      | inl at ↦ grind (arith, p.link, f.outside)
      | inr (a, at) ↦ (let loose = f.loose in let same : a ≡ b = omega (arith, at.0, p.link, e) in grind arith)
    ] in
    let puts : Puts m m2 b x = record {
      here = w'.here;
      next = w'.others (b + 3) (λ e. apart (sym e)) ∙ (w.here ∙ sym p.word);
      others = λ z nl nb. w'.others z nl ∙ w.others z nb;
    } in
    record {
      list = record {
        list = record {
          linked = put_linked m m2 n head 0 (code_of key) b x rs h.list.linked
              (λ a i. outside_spares head a (h.outside a i)) (outside_spares head b f.outside) (grind arith)
              f.loose (omega arith) f.absent puts p.link;
        };
        outside = λ a i. let t = times_put a (code_of key) b rs in grind (arith, nat_tests, h.outside a, f.outside);
      };
      relinks = put_relinks m m2 head (code_of key) b x rs puts p.link;
    }

-- two writes hang a block in
pub hung : (s s1 s2 : View) (b : ℕ) (spot : Spot) → Stored s s1 (b + 3) spot.word → Stored s1 s2 spot.link.0 b →
    Hung s s2 spot b
hung s s1 s2 b spot w w' = record {
  kept = kept_both s s1 s2 w.kept w'.kept;
  insertion = λ image seen head key rs is_key h p o.
      put_in (mem s image) (mem s1 image) (mem s2 image) (length image) head key b spot rs is_key h p o
      (w.written image) (w'.written image);
}

-- a block that was hung in after a search came into the list
pub hung_after : (s s1 s2 : View) (head : ℕ) (key : Key) (b : ℕ) (spot : Spot) → IsKey key →
    Sought s s1 head (code_of key) spot → Hung s1 s2 spot b → InsertedBooking s s2 head key b
hung_after s s1 s2 head key b spot is_key k w = record {
  kept = kept_both s s1 s2 k.kept w.kept;
  insertion = λ image rs seen h.
      let p = sought_spot s s1 head (code_of key) spot k image rs (w.kept.seen image seen) h in
      (rw k.writes at (w.insertion image seen head key rs is_key)) h p;
}

-- a block that has room for eight words can be written
pub fresh_in : (s : View) (head : ℕ) (key : Key) (b : ℕ) → HasList s head → IsFreshBooking s head key b →
    SomeImage s → Inside s b
fresh_in s head key b has f ws = inside s b has.small ws (λ w. let t = has.under w.0 w.1 in
    (f.under w.0 t.entries w.1 t.is).block)

-- a write cuts the block at the spot out
cut_out : (m m' : ℕ → ℕ) (n head key b next : ℕ) (spot : Spot) (rs : Rows) → IsListAt m n head rs →
    SpotAt m head key spot rs → pointer spot.entry ≡ b → b ≢ 0 → m (b + 3) ≡ next → IsWrite m m' spot.link.0 next →
    IsRemoval m m' n head key (Some b) rs
cut_out m m' n head key b next spot rs h p is some behind w =
    let here : b ≡ block_at rs key = sym is ∙ p.entry in
    let leads = link_leads m n head 0 key rs h.list.linked in
    let cuts : Cuts m m' spot.link.0 = record { here = grind (arith, w.here, p.link); others = w.others } in
    record {
      is = here;
      list = record {
        list = record {
          linked = cut_linked m m' n head 0 key spot.link.0 rs h.list.linked
              (λ a i. outside_spares head a (h.outside a i)) (grind arith) cuts p.link;
        };
        outside = λ a i. let t = times_cut a key b rs (sym here) some in h.outside a (omega arith);
      };
      relinks = record {
        others = λ z nh away. elim (link_is head key rs) [
          | inl at ↦ grind (arith, w.others z, p.link)
          | inr (a, at) ↦ grind (arith, w.others z, away a, p.link)
        ];
      };
    }

-- nothing is taken out at a spot without a booking
pub unhung_none : (s : View) (spot : Spot) → spot.entry ≡ None → Unhung s s spot None
unhung_none s spot e = record {
  kept = kept_none s;
  none = λ _. refl;
  within = tt;
  removal = λ image seen head key rs h p.
      let is : 0 ≡ block_at rs key = sym (ap pointer e) ∙ p.entry in
      record {
        is = is;
        list = rw (cut_none (mem s image) (length image) (mem s image head) 0 key rs h.list.linked (sym is)) h;
        relinks = record { others = λ x nh away. refl };
      };
}

pub unhung_some : (s s1 s2 : View) (next : ℕ) (b : ℕ) (spot : Spot) → spot.entry ≡ Some b → IsWithin s spot.entry →
    Loaded s s1 (b + 3) next → Stored s1 s2 spot.link.0 next → Unhung s s2 spot (Some b)
unhung_some s s1 s2 next b spot e within l w =
    let inside : IsWithin s (Some b) = rw e at within in
    record {
      kept = kept_both s s1 s2 l.kept w.kept;
      none = λ z. cc;
      within = (inside.0, omega (arith, inside.1, l.kept.size, w.kept.size));
      removal = λ image seen head key rs h p.
          cut_out (mem s image) (mem s2 image) (length image) head key b next spot rs h p (ap pointer e)
          (omega (arith, inside.0)) (l.answer image (w.kept.seen image seen))
          (write_at_start s s1 s2 spot.link.0 next l.writes w image seen);
    }

-- a booking that was taken out after a search left the list
pub unhung_after : (s s1 s2 : View) (head key : ℕ) (spot : Spot) (o : Option ℕ) → Sought s s1 head key spot →
    Unhung s1 s2 spot o → RemovedBooking s s2 head key o
unhung_after s s1 s2 head key spot o k v = record {
  kept = kept_both s s1 s2 k.kept v.kept;
  none = λ e. v.none e ∙ k.writes;
  within = v.within;
  removal = λ image rs seen h.
      let p = sought_spot s s1 head key spot k image rs (v.kept.seen image seen) h in
      (rw k.writes at (v.removal image seen head key rs)) h p;
}
