-- A walk over the customers adds up their bookings.
use Rattle.std.proofs.Common.{◌≡◌, ◌≢◌, ℕ, ◌+◌, ◌<◌, ◌≤◌, ◌^◌, List, [], ◌∷◌, ◌++◌, length, Some, None, refl, sym, ap}
use Rattle.std.proofs.Common.{◌∙◌, subst, arith, append_assoc}
use Rattle.std.specs.FinMap.{entries, len-entries}
use Rattle.tx_memory.specs.View.{View, Sees, RestsOn}
use Rattle.vac_model.specs.State.{State, units_booked, bill_of}
use Rattle.vac_model.proofs.Bounds.{small_sums}
use Rattle.tx_alloc.specs.Rows.{Rows, times, block_at, IsFrom}
use Rattle.tx_alloc.proofs.Order.{split, at_between}
use Rattle.tx_tree.specs.declared.walk.Walk.{Walk}
use Rattle.tx_tree.specs.Walk.{IsAhead, HasWalk, Begun, Stepped, first_block, later_rows}
use Rattle.tx_tree.proofs.TableFrame.{table_rises}
use Rattle.vac_records.specs.Items.{mem}
use Rattle.vac_records.specs.Heap.{over}
use Rattle.vac_records.specs.Represents.{IsState}
use Rattle.vac_records.specs.InMemory.{HoldsState, OnlyRead}
use Rattle.vac_records.specs.Steps.{stood}
use Rattle.vac_records.proofs.Bridges.{list_there}
use Rattle.vac_records.proofs.Counting.{some_lt}
use Rattle.vac_records.proofs.Customers.{customer_found}
use Rattle.vac_records.proofs.Keyed.{row_at, row_times}
use Rattle.vac_records.proofs.Overs.{over_has}
use Rattle.vac_tasks.specs.declared.customer_report.CustomerSums.{CustomerSums}
use Rattle.vac_tasks.specs.Sums.{customers_together, CustomersFit, HasSums, CanCount, customer_alone, CustomerCounted}
use Rattle.vac_tasks.specs.Sums.{CustomersSummed, sums_of_customers, words_at}
use Rattle.vac_tasks.proofs.HeldReport.{read_both, rows_of, few_rows, no_rows, begun_rows, has_walk, step_rows}
use Rattle.vac_tasks.proofs.HeldReport.{first_row, no_row}
use Rattle.vac_tasks.proofs.Totals.{list_words, customers_words, customers_len}

-- the rows of the customers' lists
abbrev lists_of : (m : ℕ → ℕ) (n : ℕ) (state : State) → IsState m n state → ℕ → Rows
lists_of m n state h = h.represents.parts.lists

-- the words at one place of the bookings of the customers in these rows, added up
abbrev pub booked_at : (ℕ → ℕ) → ℕ → Rows → (ℕ → Rows) → ℕ
booked_at m place rows lists = over (words_at m place) rows lists

-- with what the rows still to come add, these are the sums over all rows
pub record CustomerTrail (m : ℕ → ℕ) (n : ℕ) (rows : Rows) (lists : ℕ → Rows) (walk : Walk) (i : ℕ)
    (sums : CustomerSums) : Type 0 where
  pub front : Rows
  pub later : Rows
  pub is : rows ≡ front ++ later
  pub ahead : IsAhead m n walk later
  pub steps : sums.count ≡ i
  pub count : sums.count + length later ≡ length rows
  pub units : sums.units + booked_at m 4 later lists ≡ booked_at m 4 rows lists
  pub billed : sums.billed + booked_at m 2 later lists ≡ booked_at m 2 rows lists

-- so far in the walk, of the memory at the start: i customers
pub record CustomerWalk (s0 s : View) (walk : Walk) (i : ℕ) (sums : CustomerSums) : Type 0 where
  pub reads : OnlyRead s0 s
  pub trail : (image : List ℕ) (state : State) → Sees s image → (h : IsState (mem s0 image) (length image) state) →
      CustomerTrail (mem s0 image) (length image) (rows_of (mem s0 image) (length image) state h 3)
      (lists_of (mem s0 image) (length image) state h) walk i sums

pub customer_start : (s s1 : View) (walk : Walk) → Begun s s1 4 walk →
    CustomerWalk s s1 walk 0 (record { count = 0; units = 0; billed = 0 })
customer_start s s1 walk b = record {
  reads = record { kept = b.kept; writes = b.writes };
  trail = λ image state j h. record {
    front = [];
    later = rows_of (mem s image) (length image) state h 3;
    is = refl;
    ahead = begun_rows s s1 3 4 walk refl (omega arith) b image state j h;
    steps = refl;
    count = omega arith;
    units = omega arith;
    billed = omega arith;
  };
}

pub customer_ahead : (s0 s : View) (walk : Walk) (i : ℕ) (sums : CustomerSums) → HoldsState s0 →
    CustomerWalk s0 s walk i sums → HasWalk s walk
customer_ahead s0 s walk i sums holds w = has_walk s0 s walk holds w.reads (λ image state j h.
    let t = w.trail image state j h in (t.later, t.ahead))

-- the first row that is still to come
pub record NextRow (rows front later : Rows) (b : ℕ) : Type 0 where
  pub key : ℕ
  pub begins : later ≡ (key, b) ∷ later_rows later
  pub is : rows ≡ (front ++ ((key, b) ∷ [])) ++ later_rows later
  pub at : block_at rows key ≡ b

next_row : (rows front later : Rows) (b : ℕ) → IsFrom 0 rows → rows ≡ front ++ later → first_block later ≡ Some b →
    NextRow rows front later b
next_row rows front later b rises is first =
    let r = first_row later b first in
    let e : rows ≡ front ++ ((r.0, b) ∷ later_rows later) = is ∙ ap (λ (rs : Rows). front ++ rs) r.1 in
    let s = split 0 front (r.0, b) (later_rows later) (subst (λ (rs : Rows). IsFrom 0 rs) e rises) in
    record {
      key = r.0;
      begins = r.1;
      is = e ∙ sym (append_assoc front ((r.0, b) ∷ []) (later_rows later));
      at = ap (λ (rs : Rows). block_at rs r.0) e ∙ at_between front (later_rows later) r.0 b s.before;
    }

trail_step : (m : ℕ → ℕ) (n : ℕ) (rows : Rows) (lists : ℕ → Rows) (walk walk' : Walk) (i b : ℕ)
    (sums : CustomerSums) → (t : CustomerTrail m n rows lists walk i sums) → NextRow rows t.front t.later b →
    IsAhead m n walk' (later_rows t.later) →
    CustomerTrail m n rows lists walk' (i + 1) (customers_together sums (customer_alone m (lists b)))
trail_step m n rows lists walk walk' i b sums t r ahead =
    let e = r.begins in
    record {
      front = t.front ++ ((r.key, b) ∷ []);
      later = later_rows t.later;
      is = r.is;
      ahead = ahead;
      steps = omega (arith, t.steps);
      count = omega (arith, t.count, ap (λ (rs : Rows). length rs) e);
      units = omega (arith, t.units, ap (λ (rs : Rows). booked_at m 4 rs lists) e);
      billed = omega (arith, t.billed, ap (λ (rs : Rows). booked_at m 2 rs lists) e);
    }

-- the sums over all rows are those of the state
all_rows : (m : ℕ → ℕ) (rows : Rows) (lists : ℕ → Rows) → CustomerSums
all_rows m rows lists = record {
  count = length rows;
  units = booked_at m 4 rows lists;
  billed = booked_at m 2 rows lists;
}

units_total : (m : ℕ → ℕ) (n : ℕ) (state : State) (h : IsState m n state) →
    (sums_of_customers state.customers).units ≡ booked_at m 4 (rows_of m n state h 3) (lists_of m n state h)
units_total m n state h =
    customers_words units_booked (words_at m 4) m (lists_of m n state h) (list_words (λ b. b.units) m 4 (λ a. refl))
    (entries state.customers) (rows_of m n state h 3) h.represents.customers

bills_total : (m : ℕ → ℕ) (n : ℕ) (state : State) (h : IsState m n state) →
    (sums_of_customers state.customers).billed ≡ booked_at m 2 (rows_of m n state h 3) (lists_of m n state h)
bills_total m n state h =
    customers_words bill_of (words_at m 2) m (lists_of m n state h) (list_words (λ b. b.sum) m 2 (λ a. refl))
    (entries state.customers) (rows_of m n state h 3) h.represents.customers

table_sums : (m : ℕ → ℕ) (n : ℕ) (state : State) (h : IsState m n state) →
    sums_of_customers state.customers ≡ all_rows m (rows_of m n state h 3) (lists_of m n state h)
unfolding all_rows
table_sums m n state h =
    let count = len-entries state.customers ∙ customers_len m (lists_of m n state h) (entries state.customers)
    (rows_of m n state h 3) h.represents.customers in
    let units = units_total m n state h in
    let billed = bills_total m n state h in
    λ j. record { count = count j; units = units j; billed = billed j }

-- and stay words
pub record AreFew (sums : CustomerSums) : Type 0 where
  pub count : sums.count < 2 ^ 60
  pub units : sums.units < 2 ^ 60
  pub billed : sums.billed < 2 ^ 60

few_total : (m : ℕ → ℕ) (n : ℕ) (state : State) (h : IsState m n state) →
    AreFew (all_rows m (rows_of m n state h 3) (lists_of m n state h))
unfolding all_rows
few_total m n state h =
    let b = small_sums state h.small in
    record {
      count = omega (arith, few_rows m n state h 3 (omega arith));
      units = omega (arith, b.units, units_total m n state h);
      billed = omega (arith, b.bills, bills_total m n state h);
    }

-- a row's customer has bookings whose sums fit
row_sums : (m : ℕ → ℕ) (n : ℕ) (state : State) (h : IsState m n state) (k b : ℕ) →
    block_at (rows_of m n state h 3) k ≡ b → b ≢ 0 → HasSums m n b (lists_of m n state h b)
unfolding all_rows
row_sums m n state h k b at ne =
    let rows = rows_of m n state h 3 in
    let lists = lists_of m n state h in
    let f = customer_found m n [] state h.represents k b at ne in
    let o : 0 < times b rows = row_times k b rows (row_at k b rows at ne) in
    let total = few_total m n state h in
    record {
      list = list_there m n [] state k b f.bookings h.represents (record { at = at; some = ne; there = f.there });
      few = omega (
        arith,
        h.small.small,
        h.represents.size,
        h.represents.heap.pool.all,
        over_has (λ rs. length rs) b rows lists o,
      );
      units = omega (arith, total.units, over_has (words_at m 4) b rows lists o);
      sums = omega (arith, total.billed, over_has (words_at m 2) b rows lists o);
    }

-- the first row that is still to come, of the memory at the start
row_there : (s0 s s1 : View) (walk walk' : Walk) (i b : ℕ) (sums : CustomerSums) →
    (w : CustomerWalk s0 s walk i sums) → (f : Stepped s s1 walk walk' (Some b)) → (image : List ℕ) (state : State) →
    (j : Sees s1 image) → (h : IsState (mem s0 image) (length image) state) →
    NextRow (rows_of (mem s0 image) (length image) state h 3)
    (w.trail image state (f.kept.seen image j) h).front (w.trail image state (f.kept.seen image j) h).later b
row_there s0 s s1 walk walk' i b sums w f image state j h =
    let m = mem s0 image in
    let n = length image in
    let rows = rows_of m n state h 3 in
    let t = w.trail image state (f.kept.seen image j) h in
    let rises = table_rises m n (m 4) rows (h.represents.heap.tables 3 (omega arith)) in
    next_row rows t.front t.later b rises t.is
    (step_rows s0 s s1 walk walk' (Some b) w.reads f image t.later j t.ahead).0

-- so it can be counted
pub can_count : (s0 s s1 : View) (walk walk' : Walk) (i b : ℕ) (sums : CustomerSums) → HoldsState s0 →
    CustomerWalk s0 s walk i sums → Stepped s s1 walk walk' (Some b) → CanCount s1 b
can_count s0 s s1 walk walk' i b sums holds w f = record {
  small = omega (arith, holds.small, w.reads.kept.size, f.kept.size);
  room = (let at = f.inside.1 in omega arith);
  under = λ image j.
      let state = holds.under image (stood w.reads.kept image (stood f.kept image j)) in
      let same : s1.writes ≡ s0.writes = f.writes ∙ w.reads.writes in
      let ne : b ≢ 0 = λ z. absurd (omega (arith, z, f.inside.0)) in
      let r = row_there s0 s s1 walk walk' i b sums w f image state.0 j.sees state.1 in
      rw same (record {
        entries = lists_of (mem s0 image) (length image) state.0 state.1 b;
        is = row_sums (mem s0 image) (length image) state.0 state.1 r.key b r.at ne;
      });
}

-- one customer further, of the memory at the start
step_trail : (s0 s s1 s2 : View) (walk walk' : Walk) (i b : ℕ) (sums one : CustomerSums) →
    CustomerWalk s0 s walk i sums → Stepped s s1 walk walk' (Some b) → CustomerCounted s1 s2 b one →
    (image : List ℕ) (state : State) → Sees s2 image → (h : IsState (mem s0 image) (length image) state) →
    CustomerTrail (mem s0 image) (length image) (rows_of (mem s0 image) (length image) state h 3)
    (lists_of (mem s0 image) (length image) state h) walk' (i + 1) (customers_together sums one)
step_trail s0 s s1 s2 walk walk' i b sums one w f c image state j h =
    let m = mem s0 image in
    let n = length image in
    let rows = rows_of m n state h 3 in
    let lists = lists_of m n state h in
    let j1 = c.reads.kept.seen image j in
    let t = w.trail image state (f.kept.seen image j1) h in
    let same : s1.writes ≡ s0.writes = f.writes ∙ w.reads.writes in
    let ne : b ≢ 0 = λ z. absurd (omega (arith, z, f.inside.0)) in
    let r = row_there s0 s s1 walk walk' i b sums w f image state j1 h in
    let has : HasSums (mem s1 image) n b (lists b) = rw same (row_sums m n state h r.key b r.at ne) in
    let is : customer_alone m (lists b) ≡ one = rw same at (c.is image (lists b) j has) in
    subst (λ (x : CustomerSums). CustomerTrail m n rows lists walk' (i + 1) (customers_together sums x)) is
    (trail_step m n rows lists walk walk' i b sums t r
    (step_rows s0 s s1 walk walk' (Some b) w.reads f image t.later j1 t.ahead).1)

pub customer_step : (s0 s s1 s2 : View) (walk walk' : Walk) (i b : ℕ) (sums one after : CustomerSums) →
    after ≡ customers_together sums one → CustomerWalk s0 s walk i sums → Stepped s s1 walk walk' (Some b) →
    CustomerCounted s1 s2 b one → CustomerWalk s0 s2 walk' (i + 1) after
customer_step s0 s s1 s2 walk walk' i b sums one after is w f c = rw is (record {
  reads = read_both s0 s s2 w.reads (read_both s s1 s2 (record { kept = f.kept; writes = f.writes }) c.reads);
  trail = step_trail s0 s s1 s2 walk walk' i b sums one w f c;
})

few_seen : {W : Type 0} (sums : CustomerSums) → ∥ W ∥₁ → (W → AreFew sums) → AreFew sums
few_seen sums ws f = record {
  count = some_lt sums.count (2 ^ 60) ws (λ w. (f w).count);
  units = some_lt sums.units (2 ^ 60) ws (λ w. (f w).units);
  billed = some_lt sums.billed (2 ^ 60) ws (λ w. (f w).billed);
}

-- the sums with one customer more stay words
pub customers_fit : (s0 s s1 s2 : View) (walk walk' : Walk) (i b : ℕ) (sums one : CustomerSums) → HoldsState s0 →
    CustomerWalk s0 s walk i sums → Stepped s s1 walk walk' (Some b) → CustomerCounted s1 s2 b one →
    ∥ ((image : List ℕ) × RestsOn s2 image) ∥₁ → CustomersFit sums one
unfolding all_rows
customers_fit s0 s s1 s2 walk walk' i b sums one holds w f c ws =
    let few : AreFew (customers_together sums one) = few_seen (customers_together sums one) ws (λ v.
    let image = v.0 in
    let j1 = stood c.reads.kept image v.1 in
    let state = holds.under image (stood w.reads.kept image (stood f.kept image j1)) in
    let t = step_trail s0 s s1 s2 walk walk' i b sums one w f c image state.0 v.1.sees state.1 in
    let total = few_total (mem s0 image) (length image) state.0 state.1 in
    record {
      count = omega (arith, t.count, total.count);
      units = omega (arith, t.units, total.units);
      billed = omega (arith, t.billed, total.billed);
    }) in
    record {
      count = omega (arith, few.count);
      units = omega (arith, few.units);
      billed = omega (arith, few.billed);
    }

-- when no row is still to come, all were added up
customer_end : (s0 s : View) (walk : Walk) (i : ℕ) (sums : CustomerSums) → (w : CustomerWalk s0 s walk i sums) →
    ((image : List ℕ) (state : State) (j : Sees s image) (h : IsState (mem s0 image) (length image) state) →
    (w.trail image state j h).later ≡ []) → CustomersSummed s0 s sums
unfolding all_rows
customer_end s0 s walk i sums w none = record {
  reads = w.reads;
  is = λ image state j h.
      let m = mem s0 image in
      let rows = rows_of m (length image) state h 3 in
      let lists = lists_of m (length image) state h in
      let t = w.trail image state j h in
      let e = none image state j h in
      let count : length rows ≡ sums.count = omega (arith, t.count, ap (λ (rs : Rows). length rs) e) in
      let units : booked_at m 4 rows lists ≡ sums.units = omega (
        arith,
        t.units,
        ap (λ (rs : Rows). booked_at m 4 rs lists) e,
      ) in
      let billed : booked_at m 2 rows lists ≡ sums.billed = omega (
        arith,
        t.billed,
        ap (λ (rs : Rows). booked_at m 2 rs lists) e,
      ) in
      table_sums m (length image) state h ∙ (λ q. record { count = count q; units = units q; billed = billed q });
}

pub customer_none : (s0 s s1 : View) (walk walk' : Walk) (i : ℕ) (sums : CustomerSums) →
    CustomerWalk s0 s walk i sums → Stepped s s1 walk walk' None → CustomersSummed s0 s1 sums
customer_none s0 s s1 walk walk' i sums w f =
    customer_end s0 s1 walk i sums
    (record {
      reads = read_both s0 s s1 w.reads (record { kept = f.kept; writes = f.writes });
      trail = λ image state j h. w.trail image state (f.kept.seen image j) h;
    })
    (λ image state j h. (let t = w.trail image state (f.kept.seen image j) h in
    no_row t.later (step_rows s0 s s1 walk walk' None w.reads f image t.later j t.ahead).0))

pub customer_all : (s0 s : View) (walk : Walk) (i : ℕ) (sums : CustomerSums) → 262144 ≤ i →
    CustomerWalk s0 s walk i sums → CustomersSummed s0 s sums
customer_all s0 s walk i sums l w = customer_end s0 s walk i sums w
    (λ image state j h. no_rows (w.trail image state j h).later
    (omega (
      arith,
      l,
      (w.trail image state j h).steps,
      (w.trail image state j h).count,
      few_rows (mem s0 image) (length image) state h 3 (omega arith),
    )))
