-- A bill is added up along the list.
use Rattle.std.proofs.Common.{◌≡◌, ◌≢◌, ℕ, ◌+◌, ◌<◌, ◌≤◌, ◌^◌, List, [], ◌∷◌, length, Option, Some, None, nat_eq, true}
use Rattle.std.proofs.Common.{refl, sym, ap, ◌∙◌, subst, arith}
use Rattle.std.proofs.lemmas.Bool.Decides.{nat_tests}
use Rattle.tx_memory.specs.View.{View, Sees, RestsOn, Kept, Loaded}
use Rattle.tx_alloc.specs.Pointer.{pointer, IsWithin}
use Rattle.tx_alloc.specs.Rows.{Rows}
use Rattle.vac_bookings.specs.Bookings.{IsList, first_block, block_behind}
use Rattle.vac_bookings.specs.Lists.{HasList, First, Next, HasBooking}
use Rattle.vac_bookings.proofs.Frame.{list_rest}
use Rattle.vac_records.specs.Items.{mem, IsNode}
use Rattle.vac_records.specs.Customers.{head_of, sum_in, HasBill, CanBill, Billed}
use Rattle.vac_records.specs.Steps.{kept_both, stood}
use Rattle.vac_records.proofs.Counting.{some_lt}

-- the rest of the rows, from the block at p on: i rows and so much of the sum are behind
pub record Trail (m : ℕ → ℕ) (n p i total : ℕ) (rows : Rows) : Type 0 where
  pub rest : Rows
  pub list : IsList m n p rest
  pub long : i + length rest ≡ length rows
  pub sum : total + sum_in m rest ≡ sum_in m rows

-- so far in the bill, of the memory at the start
pub record Billing (s0 s : View) (customer : ℕ) (next : Option ℕ) (i total : ℕ) : Type 0 where
  pub kept : Kept s0 s
  pub writes : s.writes ≡ s0.writes
  pub within : IsWithin s next
  pub trail : (image : List ℕ) (rows : Rows) → Sees s image → HasBill (mem s0 image) (length image) customer rows →
      Trail (mem s0 image) (length image) (pointer next) i total rows

-- the pointer to a list is its first block
list_pointer : (m : ℕ → ℕ) (n p : ℕ) (rs : Rows) → IsList m n p rs → p ≡ first_block rs
list_pointer m n p [] h = h.linked
list_pointer m n p (r ∷ rs) h = h.linked.0.at

list_at : (m : ℕ → ℕ) (n p q : ℕ) (rs : Rows) → p ≡ q → IsList m n q rs → IsList m n p rs
list_at m n p q rs e h = subst (λ (z : ℕ). IsList m n z rs) (sym e) h

pub has_list : (s : View) (customer head : ℕ) → head ≡ head_of customer → CanBill s customer → HasList s head
has_list s customer head e h = subst (λ (z : ℕ). HasList s z) (sym e) (record {
  small = h.small;
  room = h.room;
  under = λ image i. let b = h.under image i in record { entries = b.entries; is = b.is.list };
})

pub billing_start : (s s1 : View) (customer head : ℕ) (next : Option ℕ) → head ≡ head_of customer →
    First s s1 head next → Billing s s1 customer next 0 0
billing_start s s1 customer head next e f =
    let g : First s s1 (head_of customer) next = subst (λ (z : ℕ). First s s1 z next) e f in
    record {
      kept = g.kept;
      writes = g.writes;
      within = g.within;
      trail = λ image rows i bill.
          let m = mem s image in
          let n = length image in
          let at = bill.list.list in
          record {
            rest = rows;
            list = list_at m n (pointer next) (m (head_of customer)) rows
                (g.is image rows i bill.list ∙ sym (list_pointer m n (m (head_of customer)) rows at)) at;
            long = omega arith;
            sum = omega arith;
          };
    }

-- the row of the next block, and the rows behind it
record Opened (m : ℕ → ℕ) (n b i total : ℕ) (rows : Rows) : Type 0 where
  row : ℕ × ℕ
  rest : Rows
  list : IsList m n b (row ∷ rest)
  is : row.1 ≡ b
  long : i + (1 + length rest) ≡ length rows
  sum : total + (m (b + 2) + sum_in m rest) ≡ sum_in m rows

open_trail : (m : ℕ → ℕ) (n b i total : ℕ) (rows rest : Rows) → b ≢ 0 → IsList m n b rest →
    i + length rest ≡ length rows → total + sum_in m rest ≡ sum_in m rows → Opened m n b i total rows
open_trail m n b i total rows [] ne h l e = absurd (ne h.linked)
open_trail m n b i total rows (r ∷ rs) ne h l e = record {
  row = r;
  rest = rs;
  list = h;
  is = sym h.linked.0.at;
  long = omega arith;
  sum = omega (arith, ap (λ (z : ℕ). m (z + 2)) h.linked.0.at);
}

opened : (m : ℕ → ℕ) (n b i total : ℕ) (rows : Rows) → b ≢ 0 → Trail m n b i total rows → Opened m n b i total rows
opened m n b i total rows ne t = open_trail m n b i total rows t.rest ne t.list t.long t.sum

pub some_block : (s0 s : View) (customer i total : ℕ) (block : ℕ) → Billing s0 s customer (Some block) i total →
    block ≢ 0
some_block s0 s customer i total block h z = (let w = h.within in absurd (omega (arith, z, w.0)))

pub block_node : (s0 s : View) (customer i total : ℕ) (block : ℕ) → CanBill s0 customer →
    Billing s0 s customer (Some block) i total → IsNode s block
block_node s0 s customer i total block c h = let w = h.within in
    record { inside = w.1; small = omega (arith, c.small, h.kept.size) }

-- the sum stays a word
pub sum_fits : (s0 s s1 : View) (customer i total v : ℕ) (block : ℕ) → CanBill s0 customer →
    Billing s0 s customer (Some block) i total → Loaded s s1 (block + 2) v →
    ∥ ((image : List ℕ) × RestsOn s1 image) ∥₁ → total + v < 2 ^ 64
sum_fits s0 s s1 customer i total v block c h l ws = some_lt (total + v) (2 ^ 64) ws (λ w.
    let image = w.0 in
    let j = stood l.kept image w.1 in
    let b = c.under image (stood h.kept image j) in
    let t = opened (mem s0 image) (length image) block i total b.entries (some_block s0 s customer i total block h)
    (h.trail image b.entries j.sees b.is) in
    let e : mem s0 image (block + 2) ≡ v = rw h.writes at (l.answer image w.1.sees) in
    omega (arith, b.is.fits, t.sum, e))

-- the block is one of a list, so that the next one can be asked for
pub in_a_list : (s0 s s1 : View) (customer i total v : ℕ) (block : ℕ) → CanBill s0 customer →
    Billing s0 s customer (Some block) i total → Loaded s s1 (block + 2) v → HasBooking s1 block
in_a_list s0 s s1 customer i total v block c h l = record {
  small = omega (arith, c.small, h.kept.size, l.kept.size);
  under = λ image i1.
      let j = stood l.kept image i1 in
      let b = c.under image (stood h.kept image j) in
      let t = opened (mem s0 image) (length image) block i total b.entries (some_block s0 s customer i total block h)
      (h.trail image b.entries j.sees b.is) in
      let same : s1.writes ≡ s0.writes = l.writes ∙ h.writes in
      let here : nat_eq t.row.1 block ≡ true = (let q = t.is in grind (arith, nat_tests)) in
      rw same (record { start = block; entries = t.row ∷ t.rest; list = t.list; has = rw here (omega arith) });
}

behind_first : (r : ℕ × ℕ) (rs : Rows) (b : ℕ) → r.1 ≡ b → block_behind (r ∷ rs) b ≡ first_block rs
behind_first r rs b e = let t : nat_eq r.1 b ≡ true = grind (arith, nat_tests) in rw t refl

pub billing_step : (s0 s s1 s2 : View) (customer i total v : ℕ) (block : ℕ) (next : Option ℕ) → CanBill s0 customer →
    Billing s0 s customer (Some block) i total → Loaded s s1 (block + 2) v → Next s1 s2 block next →
    Billing s0 s2 customer next (i + 1) (total + v)
billing_step s0 s s1 s2 customer i total v block next c h l x = record {
  kept = kept_both s0 s1 s2 (kept_both s0 s s1 h.kept l.kept) x.kept;
  writes = x.writes ∙ (l.writes ∙ h.writes);
  within = x.within;
  trail = λ image rows i2 bill.
      let i1 = x.kept.seen image i2 in
      let j = l.kept.seen image i1 in
      let m = mem s0 image in
      let n = length image in
      let t = opened m n block i total rows (some_block s0 s customer i total block h) (h.trail image rows j bill) in
      let same : s1.writes ≡ s0.writes = l.writes ∙ h.writes in
      let e : m (block + 2) ≡ v = rw h.writes at (l.answer image i1) in
      let rest_list : IsList m n (m (t.row.1 + 3)) t.rest = list_rest m n block t.row t.rest t.list in
      let here : nat_eq t.row.1 block ≡ true = (let q = t.is in grind (arith, nat_tests)) in
      let whole : IsList (mem s1 image) n block (t.row ∷ t.rest) = rw same t.list in
      let found : pointer next ≡ block_behind (t.row ∷ t.rest) block =
      x.is image block (t.row ∷ t.rest) i2 whole (rw here (omega arith)) in
      record {
        rest = t.rest;
        list = list_at m n (pointer next) (m (t.row.1 + 3)) t.rest
            (found ∙ (behind_first t.row t.rest block t.is ∙ sym (list_pointer m n (m (t.row.1 + 3)) t.rest rest_list)))
            rest_list;
        long = omega (arith, t.long);
        sum = omega (arith, t.sum, e);
      };
}

no_rest : (m : ℕ → ℕ) (n : ℕ) (rest : Rows) → IsList m n 0 rest → rest ≡ []
no_rest m n [] h = refl
no_rest m n (r ∷ rs) h = absurd (omega (arith, h.linked.0.at, h.linked.0.block.1.1))

pub billed_none : (s0 s : View) (customer i total : ℕ) → Billing s0 s customer None i total → Billed s0 s customer total
billed_none s0 s customer i total h = record {
  kept = h.kept;
  writes = h.writes;
  is = λ image rows j bill.
      let t = h.trail image rows j bill in
      let e = no_rest (mem s0 image) (length image) t.rest t.list in
      let z : sum_in (mem s0 image) t.rest ≡ 0 = ap (sum_in (mem s0 image)) e in
      omega (arith, t.sum, z);
}

empty_rest : (rest : Rows) → length rest ≡ 0 → rest ≡ []
empty_rest [] e = refl
empty_rest (r ∷ rs) e = absurd (omega arith)

pub billed_all : (s0 s : View) (customer i total : ℕ) (next : Option ℕ) → 262144 ≤ i →
    Billing s0 s customer next i total → Billed s0 s customer total
billed_all s0 s customer i total next l h = record {
  kept = h.kept;
  writes = h.writes;
  is = λ image rows j bill.
      let t = h.trail image rows j bill in
      let e = empty_rest t.rest (omega (arith, t.long, bill.few)) in
      let z : sum_in (mem s0 image) t.rest ≡ 0 = ap (sum_in (mem s0 image)) e in
      omega (arith, t.sum, z);
}

-- the next block, as it was found
pub at_next : (s0 s : View) (customer i total : ℕ) (next : Option ℕ) (found : Option ℕ) → next ≡ found →
    Billing s0 s customer next i total → Billing s0 s customer found i total
at_next s0 s customer i total next found e h = subst (λ (z : Option ℕ). Billing s0 s customer z i total) e h
