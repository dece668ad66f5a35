-- A walk over a customer's bookings adds up their units and their sums.
use Rattle.std.proofs.Common.{◌≡◌, ◌≢◌, ℕ, ◌+◌, ◌<◌, ◌^◌, List, [], ◌∷◌, length, Option, Some, nat_eq, true}
use Rattle.std.proofs.Common.{refl, sym, ap, ◌∙◌, subst, arith}
use Rattle.std.proofs.lemmas.Bool.Decides.{nat_tests}
use Rattle.tx_memory.specs.View.{View, Sees, RestsOn, Loaded}
use Rattle.tx_alloc.specs.Pointer.{pointer, IsWithin}
use Rattle.tx_alloc.specs.Rows.{Rows, times}
use Rattle.vac_bookings.specs.Bookings.{IsList, first_block, block_behind}
use Rattle.vac_bookings.specs.Lists.{HasList, Next, HasBooking}
use Rattle.vac_bookings.proofs.Frame.{list_rest}
use Rattle.vac_records.specs.Items.{mem, IsNode}
use Rattle.vac_records.specs.Customers.{head_of}
use Rattle.vac_records.specs.InMemory.{OnlyRead}
use Rattle.vac_records.specs.Steps.{stood}
use Rattle.vac_records.proofs.Counting.{some_lt}
use Rattle.vac_tasks.specs.Sums.{words_at, HasSums, CanCount}
use Rattle.vac_tasks.proofs.HeldReport.{read_both}

-- the rest of the rows, from the block at p on: i rows, so many units and so much of the sums are
-- behind
pub record Trail (m : ℕ → ℕ) (n p i units billed : ℕ) (rows : Rows) : Type 0 where
  pub rest : Rows
  pub list : IsList m n p rest
  pub long : i + length rest ≡ length rows
  pub units_are : units + words_at m 4 rest ≡ words_at m 4 rows
  pub billed_is : billed + words_at m 2 rest ≡ words_at m 2 rows

-- so far in the walk, of the memory at the start
pub record BookingWalk (s0 s : View) (customer : ℕ) (next : Option ℕ) (i units billed : ℕ) : Type 0 where
  pub reads : OnlyRead s0 s
  pub within : IsWithin s next
  pub trail : (image : List ℕ) (rows : Rows) → Sees s image → HasSums (mem s0 image) (length image) customer rows →
      Trail (mem s0 image) (length image) (pointer next) i units billed rows

-- the pointer to a list is its first block
list_pointer : (m : ℕ → ℕ) (n p : ℕ) (rs : Rows) → IsList m n p rs → p ≡ first_block rs
list_pointer m n p [] h = h.linked
list_pointer m n p (r ∷ rs) h = h.linked.0.at

list_at : (m : ℕ → ℕ) (n p q : ℕ) (rs : Rows) → p ≡ q → IsList m n q rs → IsList m n p rs
list_at m n p q rs e h = subst (λ (z : ℕ). IsList m n z rs) (sym e) h

pub has_list : (s : View) (customer : ℕ) → CanCount s customer → HasList s (head_of customer)
has_list s customer h = record {
  small = h.small;
  room = h.room;
  under = λ image i. let b = h.under image i in record { entries = b.entries; is = b.is.list };
}

-- the row of the next block, and the rows behind it
record Opened (m : ℕ → ℕ) (n b i units billed : ℕ) (rows : Rows) : Type 0 where
  row : ℕ × ℕ
  rest : Rows
  list : IsList m n b (row ∷ rest)
  is : row.1 ≡ b
  here : 0 < times b (row ∷ rest)
  long : i + (1 + length rest) ≡ length rows
  units_are : units + (m (b + 4) + words_at m 4 rest) ≡ words_at m 4 rows
  billed_is : billed + (m (b + 2) + words_at m 2 rest) ≡ words_at m 2 rows

open_trail : (m : ℕ → ℕ) (n b i units billed : ℕ) (rows rest : Rows) → b ≢ 0 → IsList m n b rest →
    i + length rest ≡ length rows → units + words_at m 4 rest ≡ words_at m 4 rows →
    billed + words_at m 2 rest ≡ words_at m 2 rows → Opened m n b i units billed rows
open_trail m n b i units billed rows [] ne h l e f = absurd (ne h.linked)
open_trail m n b i units billed rows (r ∷ rs) ne h l e f =
    let t : nat_eq r.1 b ≡ true = (let q = h.linked.0.at in grind (arith, nat_tests)) in
    record {
      row = r;
      rest = rs;
      list = h;
      is = sym h.linked.0.at;
      here = rw t (omega arith);
      long = omega arith;
      units_are = omega (arith, ap (λ (z : ℕ). m (z + 4)) h.linked.0.at);
      billed_is = omega (arith, ap (λ (z : ℕ). m (z + 2)) h.linked.0.at);
    }

-- at a block that is next
opened : (s0 s : View) (customer i units billed : ℕ) (block : ℕ) →
    BookingWalk s0 s customer (Some block) i units billed → (image : List ℕ) (rows : Rows) → Sees s image →
    HasSums (mem s0 image) (length image) customer rows → Opened (mem s0 image) (length image) block i units billed rows
opened s0 s customer i units billed block h image rows j has =
    let t = h.trail image rows j has in
    let ne : block ≢ 0 = λ z. (let w = h.within in absurd (omega (arith, z, w.0))) in
    open_trail (mem s0 image) (length image) block i units billed rows t.rest ne t.list t.long t.units_are t.billed_is

pub block_node : (s0 s : View) (customer i units billed : ℕ) (block : ℕ) → CanCount s0 customer →
    BookingWalk s0 s customer (Some block) i units billed → IsNode s block
block_node s0 s customer i units billed block c h = let w = h.within in
    record { inside = w.1; small = omega (arith, c.small, h.reads.kept.size) }

loaded_read : (s s' : View) (a v : ℕ) → Loaded s s' a v → OnlyRead s s'
loaded_read s s' a v l = record { kept = l.kept; writes = l.writes }

-- a word that was loaded, of the memory at the start
word_is : (s0 s s' : View) (a v : ℕ) → OnlyRead s0 s → Loaded s s' a v → (image : List ℕ) → Sees s' image →
    mem s0 image a ≡ v
word_is s0 s s' a v r l image i = rw r.writes at (l.answer image i)

-- the units stay a word
pub units_fit : (s0 s s1 : View) (customer i units billed v : ℕ) (block : ℕ) → CanCount s0 customer →
    BookingWalk s0 s customer (Some block) i units billed → Loaded s s1 (block + 4) v →
    ∥ ((image : List ℕ) × RestsOn s1 image) ∥₁ → units + v < 2 ^ 64
units_fit s0 s s1 customer i units billed v block c h l ws = some_lt (units + v) (2 ^ 64) ws (λ w.
    let image = w.0 in
    let j = stood l.kept image w.1 in
    let b = c.under image (stood h.reads.kept image j) in
    let t = opened s0 s customer i units billed block h image b.entries j.sees b.is in
    omega (arith, b.is.units, t.units_are, word_is s0 s s1 (block + 4) v h.reads l image w.1.sees))

-- and so do the sums
pub sums_fit : (s0 s s1 s2 : View) (customer i units billed u v : ℕ) (block : ℕ) → CanCount s0 customer →
    BookingWalk s0 s customer (Some block) i units billed → Loaded s s1 (block + 4) u → Loaded s1 s2 (block + 2) v →
    ∥ ((image : List ℕ) × RestsOn s2 image) ∥₁ → billed + v < 2 ^ 64
sums_fit s0 s s1 s2 customer i units billed u v block c h k l ws = some_lt (billed + v) (2 ^ 64) ws (λ w.
    let image = w.0 in
    let j = stood k.kept image (stood l.kept image w.1) in
    let b = c.under image (stood h.reads.kept image j) in
    let t = opened s0 s customer i units billed block h image b.entries j.sees b.is in
    let r = read_both s0 s s1 h.reads (loaded_read s s1 (block + 4) u k) in
    omega (arith, b.is.sums, t.billed_is, word_is s0 s1 s2 (block + 2) v r l image w.1.sees))

-- the block is one of a list, so that the next one can be asked for
pub in_a_list : (s0 s s1 s2 : View) (customer i units billed u v : ℕ) (block : ℕ) → CanCount s0 customer →
    BookingWalk s0 s customer (Some block) i units billed → Loaded s s1 (block + 4) u → Loaded s1 s2 (block + 2) v →
    HasBooking s2 block
in_a_list s0 s s1 s2 customer i units billed u v block c h k l = record {
  small = omega (arith, c.small, h.reads.kept.size, k.kept.size, l.kept.size);
  under = λ image i2.
      let j = stood k.kept image (stood l.kept image i2) in
      let b = c.under image (stood h.reads.kept image j) in
      let t = opened s0 s customer i units billed block h image b.entries j.sees b.is in
      let same : s2.writes ≡ s0.writes = l.writes ∙ (k.writes ∙ h.reads.writes) in
      rw same (record { start = block; entries = t.row ∷ t.rest; list = t.list; has = t.here });
}

behind_first : (r : ℕ × ℕ) (rs : Rows) (b : ℕ) → r.1 ≡ b → block_behind (r ∷ rs) b ≡ first_block rs
behind_first r rs b e = let t : nat_eq r.1 b ≡ true = grind (arith, nat_tests) in rw t refl

pub booking_step : (s0 s s1 s2 s3 : View) (customer i units billed u v : ℕ) (block : ℕ) (next : Option ℕ) →
    CanCount s0 customer → BookingWalk s0 s customer (Some block) i units billed → Loaded s s1 (block + 4) u →
    Loaded s1 s2 (block + 2) v → Next s2 s3 block next → BookingWalk s0 s3 customer next (i + 1) (units + u)
    (billed + v)
booking_step s0 s s1 s2 s3 customer i units billed u v block next c h k l x =
    let r1 = read_both s0 s s1 h.reads (loaded_read s s1 (block + 4) u k) in
    let r2 = read_both s0 s1 s2 r1 (loaded_read s1 s2 (block + 2) v l) in
    record {
      reads = read_both s0 s2 s3 r2 (record { kept = x.kept; writes = x.writes });
      within = x.within;
      trail = λ image rows i3 has.
          let i2 = x.kept.seen image i3 in
          let i1 = l.kept.seen image i2 in
          let j = k.kept.seen image i1 in
          let m = mem s0 image in
          let n = length image in
          let t = opened s0 s customer i units billed block h image rows j has in
          let unit : m (block + 4) ≡ u = word_is s0 s s1 (block + 4) u h.reads k image i1 in
          let sum : m (block + 2) ≡ v = word_is s0 s1 s2 (block + 2) v r1 l image i2 in
          let rest_list : IsList m n (m (t.row.1 + 3)) t.rest = list_rest m n block t.row t.rest t.list in
          let whole : IsList (mem s2 image) n block (t.row ∷ t.rest) = rw r2.writes t.list in
          let found : pointer next ≡ block_behind (t.row ∷ t.rest) block =
          x.is image block (t.row ∷ t.rest) i3 whole t.here in
          record {
            rest = t.rest;
            list = list_at m n (pointer next) (m (t.row.1 + 3)) t.rest
                (found ∙ (behind_first t.row t.rest block t.is ∙
                sym (list_pointer m n (m (t.row.1 + 3)) t.rest rest_list))) rest_list;
            long = omega (arith, t.long);
            units_are = omega (arith, t.units_are, unit);
            billed_is = omega (arith, t.billed_is, sum);
          };
    }

no_rest : (m : ℕ → ℕ) (n : ℕ) (rest : Rows) → IsList m n 0 rest → rest ≡ []
no_rest m n [] h = refl
no_rest m n (r ∷ rs) h = absurd (omega (arith, h.linked.0.at, h.linked.0.block.1.1))

-- the next block, as it was found
pub walk_at : (s0 s : View) (customer i units billed : ℕ) (next : Option ℕ) (found : Option ℕ) → next ≡ found →
    BookingWalk s0 s customer next i units billed → BookingWalk s0 s customer found i units billed
walk_at s0 s customer i units billed next found e h = subst (λ
    (z : Option ℕ). BookingWalk s0 s customer z i units billed) e h
