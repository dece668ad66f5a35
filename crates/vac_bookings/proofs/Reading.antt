-- Pointers of a list, read over every memory that there may be.
use Rattle.std.proofs.Common.{◌≡◌, ◌≢◌, ℕ, ◌+◌, ◌<◌, ◌≤◌, ◌^◌, List, [], ◌∷◌, length, Option, Some, sym, ◌∙◌, arith}
use Rattle.std.proofs.lemmas.Bool.Decides.{nat_tests}
use Rattle.tx_memory.specs.Seen.{some_le}
use Rattle.tx_memory.specs.View.{View, Sees, RestsOn, Kept, Loaded}
use Rattle.tx_alloc.specs.Pool.{IsBlock}
use Rattle.tx_alloc.specs.Rows.{Rows, times}
use Rattle.tx_alloc.specs.Steps.{mem, stood}
use Rattle.tx_alloc.specs.Pointer.{LeadsToBlock, IsWithin, pointer}
use Rattle.vac_bookings.specs.Bookings.{first_block, block_behind}
use Rattle.vac_bookings.specs.Lists.{HasList, HasBooking, First, Next}
use Rattle.vac_bookings.specs.Search.{led_to}
use Rattle.vac_bookings.proofs.Frame.{list_block, linked_first, linked_block, linked_in}

-- some image fits
abbrev pub SomeImage : View → Type 0
SomeImage s = ∥ ((image : List ℕ) × RestsOn s image) ∥₁

-- a pointer that was read leads to a block of the memory
pub record Inside (s : View) (p : ℕ) : Type 0 where
  pub low : 16 ≤ p
  pub room : p + 8 ≤ s.size
  pub small : p + 8 ≤ 2 ^ 32

pub inside : (s : View) (p : ℕ) → s.size ≤ 2 ^ 32 → SomeImage s →
    ((w : (image : List ℕ) × RestsOn s image) → IsBlock (length w.0) p) → Inside s p
inside s p small ws block =
    let low : 16 ≤ p = some_le 16 p ws (λ w. let b = block w in grind arith) in
    let room : p + 8 ≤ s.size = some_le (p + 8) s.size ws (λ w. let b = block w in grind (arith, w.1.size)) in
    omega arith

followed_in : (s s' : View) (link p : ℕ) → LeadsToBlock s link → Loaded s s' link p → p ≢ 0 → SomeImage s' → Inside s' p
followed_in s s' link p has l ne ws = inside s' p (omega (arith, has.small, l.kept.size)) ws (λ w.
    rw (l.answer w.0 w.1.sees) at (has.under w.0 (stood l.kept w.0 w.1)) ne)

-- what was read at a link fits the address of a block
pub followed_small : (s s' : View) (link p : ℕ) → LeadsToBlock s link → Loaded s s' link p → SomeImage s' → p < 2 ^ 32
followed_small s s' link p has l ws = let i = followed_in s s' link p has l in grind arith

-- only reads were made, and the word at the link leads to the result
record FollowedLink (s s' : View) (link : ℕ) (found : Option ℕ) : Type 0 where
  pub kept : Kept s s'
  pub writes : s'.writes ≡ s.writes
  pub within : IsWithin s' found
  pub is : (image : List ℕ) → Sees s' image → mem s image link ≡ pointer found

-- the block that a pointer leads to, where the pointer was read at a link
followed : (s s' : View) (link p : ℕ) → LeadsToBlock s link → Loaded s s' link p → SomeImage s' →
    FollowedLink s s' link (led_to p)
followed s s' link p has l ws =
    let i = followed_in s s' link p has l in
    record {
      kept = l.kept;
      writes = l.writes;
      within = grind (arith, nat_tests);
      is = λ image seen. grind (arith, nat_tests, l.answer image seen);
    }

-- the head of a list leads to its first block
pub head_leads : (s : View) (head : ℕ) → HasList s head → LeadsToBlock s head
head_leads s head has = record {
  small = has.small;
  room = has.room;
  under = λ image seen. let t = has.under image seen in
      linked_block (mem s image) (length image) (mem s image head) 0 t.entries t.is.list.linked;
}

pub first_followed : (s s' : View) (head p : ℕ) → HasList s head → Loaded s s' head p → SomeImage s' →
    First s s' head (led_to p)
first_followed s s' head p has l ws =
    let f = followed s s' head p (head_leads s head has) l ws in
    record {
      kept = f.kept;
      writes = f.writes;
      within = f.within;
      is = λ image rs seen h. sym (f.is image seen) ∙
          linked_first (mem s image) (length image) (mem s image head) 0 rs h.list.linked;
    }

pub booking_in : (s : View) (b : ℕ) → HasBooking s b → SomeImage s → Inside s b
booking_in s b has ws = inside s b has.small ws (λ w. let t = has.under w.0 w.1 in
    list_block (mem s w.0) (length w.0) t.start b t.entries t.list t.has)

pub next_leads : (s : View) (b : ℕ) → HasBooking s b → SomeImage s → LeadsToBlock s (b + 3)
next_leads s b has ws = record {
  small = has.small;
  room = let i = booking_in s b has ws in omega (arith, i.room);
  under = λ image seen. let t = has.under image seen in
      (linked_in (mem s image) (length image) t.start 0 b t.entries t.list.linked t.has).leads;
}

pub next_followed : (s s' : View) (b p : ℕ) → HasBooking s b → SomeImage s → Loaded s s' (b + 3) p → SomeImage s' →
    Next s s' b (led_to p)
next_followed s s' b p has ws l ws' =
    let f = followed s s' (b + 3) p (next_leads s b has ws) l ws' in
    record {
      kept = f.kept;
      writes = f.writes;
      within = f.within;
      is = λ image start rs seen h i. sym (f.is image seen) ∙
          (linked_in (mem s image) (length image) start 0 b rs h.linked i).behind;
    }

-- the first block of a list and the block behind one are blocks of it
first_has : (rs : Rows) (b : ℕ) → b ≡ first_block rs → b ≢ 0 → 0 < times b rs
first_has [] b e ne = absurd (ne e)
first_has ((k, a) ∷ rs) b e ne = grind (arith, nat_tests)

behind_has : (rs : Rows) (b c : ℕ) → c ≡ block_behind rs b → c ≢ 0 → 0 < times c rs
behind_has [] b c e ne = absurd (ne e)
behind_has ((k, a) ∷ rs) b c e ne =
    let first = first_has rs c in let ih = behind_has rs b c in grind (arith, nat_tests)

pub first_booking : (s s' : View) (head : ℕ) (found : Option ℕ) (b : ℕ) → HasList s head → First s s' head found →
    found ≡ Some b → HasBooking s' b
first_booking s s' head found b h f e =
    let g = rw e at f in
    record {
      small = omega (arith, h.small, g.kept.size);
      under = λ image i.
          let t = h.under image (stood g.kept image i) in
          let has = first_has t.entries b (g.is image t.entries i.sees t.is) (omega (arith, g.within.0)) in
          rw g.writes (record { start = mem s image head; entries = t.entries; list = t.is.list; has = has });
    }

pub next_booking : (s s' : View) (a : ℕ) (found : Option ℕ) (b : ℕ) → HasBooking s a → Next s s' a found →
    found ≡ Some b → HasBooking s' b
next_booking s s' a found b h f e =
    let g = rw e at f in
    record {
      small = omega (arith, h.small, g.kept.size);
      under = λ image i.
          let t = h.under image (stood g.kept image i) in
          let has = behind_has t.entries a b (g.is image t.start t.entries i.sees t.list t.has)
          (omega (arith, g.within.0)) in
          rw g.writes (record { start = t.start; entries = t.entries; list = t.list; has = has });
    }
