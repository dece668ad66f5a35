-- A walk over a table of items adds up their numbers.
use Rattle.std.proofs.Common.{◌≡◌, ℕ, ◌+◌, ◌≤◌, ◌^◌, List, [], length, Some, None, refl, ap, ◌∙◌, subst, arith}
use Rattle.tx_memory.specs.View.{View, Sees, RestsOn}
use Rattle.vac_model.specs.declared.items.Kind.{Kind}
use Rattle.vac_model.specs.State.{State, kind_number, table_of}
use Rattle.vac_model.proofs.Bounds.{small_sums}
use Rattle.tx_alloc.specs.Rows.{Rows}
use Rattle.tx_tree.specs.declared.walk.Walk.{Walk}
use Rattle.tx_tree.specs.Walk.{IsAhead, HasWalk, Begun, Stepped, first_block, later_rows}
use Rattle.vac_records.specs.Items.{mem, IsNode}
use Rattle.vac_records.specs.Represents.{IsState}
use Rattle.vac_records.specs.InMemory.{HoldsState, OnlyRead}
use Rattle.vac_records.specs.Steps.{stood}
use Rattle.vac_records.proofs.Counting.{some_lt}
use Rattle.vac_tasks.specs.declared.item_report.ItemSums.{ItemSums}
use Rattle.vac_tasks.specs.Sums.{items_together, ItemsFit, item_alone, ItemCounted, AreSmall, ItemsSummed}
use Rattle.vac_tasks.specs.Sums.{sums_of_items, words_at}
use Rattle.vac_tasks.proofs.HeldReport.{read_both, kind_low, rows_of, few_rows, no_rows, begun_rows, has_walk}
use Rattle.vac_tasks.proofs.HeldReport.{step_rows}
use Rattle.vac_tasks.proofs.HeldReport.{first_row, no_row}
use Rattle.vac_tasks.proofs.Totals.{table_words, table_len}

-- with what the rows still to come add, these are the sums over all rows
pub record ItemTrail (m : ℕ → ℕ) (n : ℕ) (rows : Rows) (walk : Walk) (i : ℕ) (sums : ItemSums) : Type 0 where
  pub later : Rows
  pub ahead : IsAhead m n walk later
  pub steps : sums.count ≡ i
  pub count : sums.count + length later ≡ length rows
  pub used : sums.used + words_at m 4 later ≡ words_at m 4 rows
  pub free : sums.free + words_at m 5 later ≡ words_at m 5 rows
  pub total : sums.total + words_at m 6 later ≡ words_at m 6 rows

-- so far in the walk, of the memory at the start: i items
pub record ItemWalk (s0 s : View) (kind : Kind) (walk : Walk) (i : ℕ) (sums : ItemSums) : Type 0 where
  pub reads : OnlyRead s0 s
  pub trail : (image : List ℕ) (state : State) → Sees s image → (h : IsState (mem s0 image) (length image) state) →
      ItemTrail (mem s0 image) (length image) (rows_of (mem s0 image) (length image) state h (kind_number kind)) walk i
      sums

pub item_start : (s s1 : View) (kind : Kind) (root : ℕ) (walk : Walk) → root ≡ 1 + kind_number kind →
    Begun s s1 root walk → ItemWalk s s1 kind walk 0 (record { count = 0; used = 0; free = 0; total = 0 })
item_start s s1 kind root walk e b = record {
  reads = record { kept = b.kept; writes = b.writes };
  trail = λ image state j h. record {
    later = rows_of (mem s image) (length image) state h (kind_number kind);
    ahead = begun_rows s s1 (kind_number kind) root walk e (kind_low kind) b image state j h;
    steps = refl;
    count = omega arith;
    used = omega arith;
    free = omega arith;
    total = omega arith;
  };
}

pub item_ahead : (s0 s : View) (kind : Kind) (walk : Walk) (i : ℕ) (sums : ItemSums) → HoldsState s0 →
    ItemWalk s0 s kind walk i sums → HasWalk s walk
item_ahead s0 s kind walk i sums holds w = has_walk s0 s walk holds w.reads (λ image state j h.
    let t = w.trail image state j h in (t.later, t.ahead))

trail_step : (m : ℕ → ℕ) (n : ℕ) (rows : Rows) (walk walk' : Walk) (i b : ℕ) (sums : ItemSums) →
    (t : ItemTrail m n rows walk i sums) →
    (first_block t.later ≡ Some b) × IsAhead m n walk' (later_rows t.later) →
    ItemTrail m n rows walk' (i + 1) (items_together sums (item_alone m b))
trail_step m n rows walk walk' i b sums t p =
    let e = (first_row t.later b p.0).1 in
    record {
      later = later_rows t.later;
      ahead = p.1;
      steps = omega (arith, t.steps);
      count = omega (arith, t.count, ap (λ (rs : Rows). length rs) e);
      used = omega (arith, t.used, ap (words_at m 4) e);
      free = omega (arith, t.free, ap (words_at m 5) e);
      total = omega (arith, t.total, ap (words_at m 6) e);
    }

-- one item further, of the memory at the start
step_trail : (s0 s s1 s2 : View) (kind : Kind) (walk walk' : Walk) (i b : ℕ) (sums one : ItemSums) →
    ItemWalk s0 s kind walk i sums → Stepped s s1 walk walk' (Some b) → ItemCounted s1 s2 b one →
    (image : List ℕ) (state : State) → Sees s2 image → (h : IsState (mem s0 image) (length image) state) →
    ItemTrail (mem s0 image) (length image) (rows_of (mem s0 image) (length image) state h (kind_number kind)) walk'
    (i + 1) (items_together sums one)
step_trail s0 s s1 s2 kind walk walk' i b sums one w f c image state j h =
    let m = mem s0 image in
    let n = length image in
    let rows = rows_of m n state h (kind_number kind) in
    let j1 = c.reads.kept.seen image j in
    let t = w.trail image state (f.kept.seen image j1) h in
    let same : s1.writes ≡ s0.writes = f.writes ∙ w.reads.writes in
    let is : item_alone m b ≡ one = rw same at (c.is image j) in
    subst (λ (x : ItemSums). ItemTrail m n rows walk' (i + 1) (items_together sums x)) is
    (trail_step m n rows walk walk' i b sums t
    (step_rows s0 s s1 walk walk' (Some b) w.reads f image t.later j1 t.ahead))

-- the sums over all rows are those of the state
all_rows : (m : ℕ → ℕ) (rows : Rows) → ItemSums
all_rows m rows = record {
  count = length rows;
  used = words_at m 4 rows;
  free = words_at m 5 rows;
  total = words_at m 6 rows;
}

table_sums : (m : ℕ → ℕ) (n : ℕ) (state : State) (h : IsState m n state) (kind : Kind) →
    sums_of_items (table_of state kind) ≡ all_rows m (rows_of m n state h (kind_number kind))
unfolding all_rows
table_sums m n state h kind =
    let rows = rows_of m n state h (kind_number kind) in
    let t = table_of state kind in
    let is = h.represents.items kind in
    let count = table_len m t rows is in
    let used = table_words (λ x. x.used) m 4 t rows (λ a. refl) is in
    let free = table_words (λ x. x.free) m 5 t rows (λ a. refl) is in
    let total = table_words (λ x. x.total) m 6 t rows (λ a. refl) is in
    λ j. record { count = count j; used = used j; free = free j; total = total j }

-- and are small
small_rows : (m : ℕ → ℕ) (n : ℕ) (state : State) (h : IsState m n state) (kind : Kind) →
    AreSmall (all_rows m (rows_of m n state h (kind_number kind)))
unfolding all_rows
small_rows m n state h kind =
    let rows = rows_of m n state h (kind_number kind) in
    let t = table_of state kind in
    let is = h.represents.items kind in
    let b = small_sums state h.small in
    record {
      count = omega (arith, few_rows m n state h (kind_number kind) (kind_low kind));
      used = omega (arith, b.used kind, table_words (λ x. x.used) m 4 t rows (λ a. refl) is);
      free = omega (arith, b.free kind, table_words (λ x. x.free) m 5 t rows (λ a. refl) is);
      total = omega (arith, b.total kind, table_words (λ x. x.total) m 6 t rows (λ a. refl) is);
    }

-- so the sums so far are
small_trail : (m : ℕ → ℕ) (n : ℕ) (state : State) (h : IsState m n state) (kind : Kind) (walk : Walk) (i : ℕ)
    (sums : ItemSums) → ItemTrail m n (rows_of m n state h (kind_number kind)) walk i sums → AreSmall sums
unfolding all_rows
small_trail m n state h kind walk i sums t =
    let b = small_rows m n state h kind in
    record {
      count = omega (arith, t.count, b.count);
      used = omega (arith, t.used, b.used);
      free = omega (arith, t.free, b.free);
      total = omega (arith, t.total, b.total);
    }

small_seen : {W : Type 0} (sums : ItemSums) → ∥ W ∥₁ → (W → AreSmall sums) → AreSmall sums
small_seen sums ws f = record {
  count = some_lt sums.count (2 ^ 60) ws (λ w. (f w).count);
  used = some_lt sums.used (2 ^ 60) ws (λ w. (f w).used);
  free = some_lt sums.free (2 ^ 60) ws (λ w. (f w).free);
  total = some_lt sums.total (2 ^ 60) ws (λ w. (f w).total);
}

pub item_step : (s0 s s1 s2 : View) (kind : Kind) (walk walk' : Walk) (i b : ℕ) (sums one after : ItemSums) →
    after ≡ items_together sums one → ItemWalk s0 s kind walk i sums → Stepped s s1 walk walk' (Some b) →
    ItemCounted s1 s2 b one → ItemWalk s0 s2 kind walk' (i + 1) after
item_step s0 s s1 s2 kind walk walk' i b sums one after is w f c = rw is (record {
  reads = read_both s0 s s2 w.reads (read_both s s1 s2 (record { kept = f.kept; writes = f.writes }) c.reads);
  trail = step_trail s0 s s1 s2 kind walk walk' i b sums one w f c;
})

-- the sums with one item more stay words
pub items_fit : (s0 s s1 s2 : View) (kind : Kind) (walk walk' : Walk) (i b : ℕ) (sums one : ItemSums) →
    HoldsState s0 → ItemWalk s0 s kind walk i sums → Stepped s s1 walk walk' (Some b) → ItemCounted s1 s2 b one →
    ∥ ((image : List ℕ) × RestsOn s2 image) ∥₁ → ItemsFit sums one
items_fit s0 s s1 s2 kind walk walk' i b sums one holds w f c ws =
    let small : AreSmall (items_together sums one) = small_seen (items_together sums one) ws (λ v.
    let image = v.0 in
    let j1 = stood c.reads.kept image v.1 in
    let state = holds.under image (stood w.reads.kept image (stood f.kept image j1)) in
    small_trail (mem s0 image) (length image) state.0 state.1 kind walk' (i + 1) (items_together sums one)
    (step_trail s0 s s1 s2 kind walk walk' i b sums one w f c image state.0 v.1.sees state.1)) in
    record {
      count = omega (arith, small.count);
      used = omega (arith, small.used);
      free = omega (arith, small.free);
      total = omega (arith, small.total);
    }

-- when no row is still to come, all were added up
item_end : (s0 s : View) (kind : Kind) (walk : Walk) (i : ℕ) (sums : ItemSums) → HoldsState s0 →
    (w : ItemWalk s0 s kind walk i sums) → ∥ ((image : List ℕ) × RestsOn s image) ∥₁ →
    ((image : List ℕ) (state : State) (j : Sees s image) (h : IsState (mem s0 image) (length image) state) →
    (w.trail image state j h).later ≡ []) → ItemsSummed s0 s kind sums
unfolding all_rows
item_end s0 s kind walk i sums holds w ws none = record {
  reads = w.reads;
  small = small_seen sums ws (λ v.
      let image = v.0 in
      let state = holds.under image (stood w.reads.kept image v.1) in
      small_trail (mem s0 image) (length image) state.0 state.1 kind walk i sums
      (w.trail image state.0 v.1.sees state.1));
  is = λ image state j h.
      let m = mem s0 image in
      let t = w.trail image state j h in
      let e = none image state j h in
      let count : length (rows_of m (length image) state h (kind_number kind)) ≡ sums.count =
      omega (arith, t.count, ap (λ (rs : Rows). length rs) e) in
      let used : words_at m 4 (rows_of m (length image) state h (kind_number kind)) ≡ sums.used =
      omega (arith, t.used, ap (words_at m 4) e) in
      let free : words_at m 5 (rows_of m (length image) state h (kind_number kind)) ≡ sums.free =
      omega (arith, t.free, ap (words_at m 5) e) in
      let total : words_at m 6 (rows_of m (length image) state h (kind_number kind)) ≡ sums.total =
      omega (arith, t.total, ap (words_at m 6) e) in
      table_sums m (length image) state h kind ∙ (λ q. record {
        count = count q;
        used = used q;
        free = free q;
        total = total q;
      });
}

pub item_none : (s0 s s1 : View) (kind : Kind) (walk walk' : Walk) (i : ℕ) (sums : ItemSums) → HoldsState s0 →
    ItemWalk s0 s kind walk i sums → Stepped s s1 walk walk' None → ∥ ((image : List ℕ) × RestsOn s1 image) ∥₁ →
    ItemsSummed s0 s1 kind sums
item_none s0 s s1 kind walk walk' i sums holds w f ws =
    item_end s0 s1 kind walk i sums holds
    (record {
      reads = read_both s0 s s1 w.reads (record { kept = f.kept; writes = f.writes });
      trail = λ image state j h. w.trail image state (f.kept.seen image j) h;
    }) ws
    (λ image state j h. (let t = w.trail image state (f.kept.seen image j) h in
    no_row t.later (step_rows s0 s s1 walk walk' None w.reads f image t.later j t.ahead).0))

pub item_all : (s0 s : View) (kind : Kind) (walk : Walk) (i : ℕ) (sums : ItemSums) → 262144 ≤ i → HoldsState s0 →
    ItemWalk s0 s kind walk i sums → ∥ ((image : List ℕ) × RestsOn s image) ∥₁ → ItemsSummed s0 s kind sums
item_all s0 s kind walk i sums l holds w ws = item_end s0 s kind walk i sums holds w ws
    (λ image state j h. no_rows (w.trail image state j h).later
    (omega (
      arith,
      l,
      (w.trail image state j h).steps,
      (w.trail image state j h).count,
      few_rows (mem s0 image) (length image) state h (kind_number kind) (kind_low kind),
    )))

-- the block of the next row is an item's
pub item_node : (s0 s s1 : View) (kind : Kind) (walk walk' : Walk) (i b : ℕ) (sums : ItemSums) → HoldsState s0 →
    ItemWalk s0 s kind walk i sums → Stepped s s1 walk walk' (Some b) → IsNode s1 b
item_node s0 s s1 kind walk walk' i b sums holds w f = record {
  inside = f.inside.1;
  small = omega (arith, holds.small, w.reads.kept.size, f.kept.size);
}
