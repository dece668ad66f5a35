-- An item that is missing is made, in a block that was free.
use Rattle.std.proofs.Common.{◌≡◌, ◌≢◌, inl, inr, ℕ, ◌+◌, ◌<◌, List, [], ◌∷◌, length, Some, None, true, false, nat_eq}
use Rattle.std.proofs.Common.{refl, sym, ap, ◌∙◌, subst, arith}
use Rattle.std.proofs.lemmas.Bool.Decides.{nat_tests}
use Rattle.tx_memory.specs.View.{View, Sees}
use Rattle.vac_model.specs.declared.items.Kind.{Kind}
use Rattle.vac_model.specs.declared.items.Item.{Item}
use Rattle.vac_model.specs.declared.commands.Command.TheVariants as command
use Rattle.vac_model.specs.declared.replies.Reply.TheVariants as reply
use Rattle.vac_model.specs.declared.commands.Refusal.TheVariants.{NeedsCountAndPrice, Full}
use Rattle.vac_model.specs.Ranges.{is_command}
use Rattle.vac_model.specs.State.{State, kind_number, item_of, with_item, is_full}
use Rattle.vac_model.specs.Step.{step, new_item}
use Rattle.tx_alloc.specs.Drawing.{DrawnBlock}
use Rattle.tx_alloc.specs.Pool.{NoneFree, IsBlock}
use Rattle.tx_alloc.specs.Rows.{Rows, block_at}
use Rattle.tx_tree.specs.Table.{Fresh, Table, HasTable, IsFresh, Inserted}
use Rattle.vac_records.specs.Items.{mem, item_in, IsNewItem, ItemMade}
use Rattle.vac_records.specs.Steps.{kept_both, stood}
use Rattle.vac_records.specs.Heap.{used_in, count_in}
use Rattle.vac_records.specs.Represents.{Represents, IsState}
use Rattle.vac_records.specs.Laws.{Stays}
use Rattle.vac_records.specs.InMemory.{HoldsState}
use Rattle.vac_records.proofs.Bridges.{pool_there, table_there}
use Rattle.vac_records.proofs.Hands.{block_drawn, block_written}
use Rattle.vac_records.proofs.Items.{item_inserted}
use Rattle.vac_records.proofs.Shifts.{kind_small}
use Rattle.vac_records.proofs.Single.{none_left, some_left}
use Rattle.vac_records.proofs.TableRows.{table_one}
use Rattle.vac_tasks.specs.Entries.{LacksItem}
use Rattle.vac_tasks.specs.Ran.{Ran}
use Rattle.vac_tasks.proofs.Held.{read_none, item_none, outcome_of, ran_reads}

-- refusals of a missing item
pub needs_price : (s : View) (kind : Kind) (id num : ℕ) → LacksItem s kind id →
    Ran s s (command.Add kind id num None) (reply.No NeedsCountAndPrice)
needs_price s kind id num l = ran_reads s s (command.Add kind id num None) (reply.No NeedsCountAndPrice) (read_none s)
    (λ image state i h.
    let none = item_none s kind id l image state i h in
    rw none refl)

zero_step : (state : State) (kind : Kind) (id num p : ℕ) → item_of state kind id ≡ None → num ≡ 0 →
    step state (command.Add kind id num (Some p)) ≡ (state, reply.No NeedsCountAndPrice)
zero_step state kind id num p none z =
    let t : nat_eq num 0 ≡ true = grind (arith, nat_tests) in
    rw (none, t) refl

full_step : (state : State) (kind : Kind) (id num p : ℕ) → item_of state kind id ≡ None → num ≢ 0 →
    is_full state ≡ true → step state (command.Add kind id num (Some p)) ≡ (state, reply.No Full)
full_step state kind id num p none nz is =
    let t : nat_eq num 0 ≡ false = grind (arith, nat_tests) in
    rw (none, t, is) refl

new_step : (state : State) (kind : Kind) (id num p : ℕ) → item_of state kind id ≡ None → num ≢ 0 →
    is_full state ≡ false → step state (command.Add kind id num (Some p)) ≡ (
      with_item state kind id (new_item num p),
      reply.Done,
    )
new_step state kind id num p none nz is =
    let t : nat_eq num 0 ≡ false = grind (arith, nat_tests) in
    rw (none, t, is) refl

pub needs_count : (s : View) (kind : Kind) (id num p : ℕ) → LacksItem s kind id → num ≡ 0 →
    Ran s s (command.Add kind id num (Some p)) (reply.No NeedsCountAndPrice)
needs_count s kind id num p l z = ran_reads s s (command.Add kind id num (Some p)) (reply.No NeedsCountAndPrice)
    (read_none s) (λ image state i h.
    zero_step state kind id num p (item_none s kind id l image state i h) z)

-- no list has a block: there is no place for an entry
pub full : (m : ℕ → ℕ) (n : ℕ) (state : State) (h : Represents m n [] state) → ((i : ℕ) → i < 8 → h.parts.free i ≡ []) →
    is_full state ≡ true
full m n state h none = let e = none_left m n state h none in grind (arith, nat_tests)

-- a block is in hand: there is a place
pub not_full : (m : ℕ → ℕ) (n b : ℕ) (state : State) → Represents m n (b ∷ []) state → is_full state ≡ false
not_full m n b state h = let e = some_left m n b state h in grind (arith, nat_tests)

pub no_place : (s s1 : View) (kind : Kind) (id num p : ℕ) → LacksItem s kind id → num ≢ 0 → NoneFree s s1 →
    Ran s s1 (command.Add kind id num (Some p)) (reply.No Full)
no_place s s1 kind id num p l nz n = ran_reads s s1 (command.Add kind id num (Some p)) (reply.No Full)
    (record { kept = n.kept; writes = n.writes }) (λ image state i h.
    let g = h.represents in
    full_step state kind id num p (item_none s kind id l image state (n.kept.seen image i) h) nz
    (full (mem s image) (length image) state g (n.none image g.parts.free (used_in g.parts) (count_in g.parts) i
    (pool_there (mem s image) (length image) [] state g))))

-- a block was taken and became an item: it is in hand, and the state and its tables are as they were
pub record InHand {m : ℕ → ℕ} {n : ℕ} {state : State} (h : Represents m n [] state) (m' : ℕ → ℕ) (b : ℕ) : Type 0 where
  pub block : IsBlock n b
  pub stays : Stays h m' (b ∷ []) state

pub in_hand : (s s1 s2 : View) (id num p start b : ℕ) (image : List ℕ) (state : State) → DrawnBlock s s1 start b →
    ItemMade s1 s2 b id num p → Sees s2 image →
    (h : Represents (mem s image) (length image) [] state) → InHand h (mem s2 image) b
in_hand s s1 s2 id num p start b image state t w i h =
    let m = mem s image in
    let m1 = mem s1 image in
    let m2 = mem s2 image in
    let i1 = w.kept.seen image i in
    let made = w.made image i in
    let taking = t.drawing image h.parts.free (used_in h.parts) (count_in h.parts) i1
    (pool_there m (length image) [] state h) in
    let taken = block_drawn m m1 (length image) start b [] state h taking in
    let written = block_written m1 m2 (length image) b [] state taking.block taken.after (λ x far. elim far [
      | inl below ↦ made.others x (omega arith) (inl (omega arith))
      | inr above ↦ made.others x (omega arith) (inr above)
    ]) in
    record {
      block = taking.block;
      stays = record { after = written.after; tables = λ j lj. written.tables j lj ∙ taken.tables j lj };
    }

-- the table while the new block is in hand
new_table : (m m2 : ℕ → ℕ) (n b : ℕ) (state : State) (kind : Kind) (h : IsState m n state)
    (hand : InHand h.represents m2 b) → Table m2 n (1 + kind_number kind) (h.represents.parts.tables (kind_number kind))
new_table m m2 n b state kind h hand =
    let k = kind_number kind in
    let small = kind_small kind in
    let l : k < 4 = omega arith in
    let same = hand.stays.tables k l in
    subst (λ (rows : Rows). Table m2 n (1 + k) rows) same (table_there m2 n
    (b ∷ []) state k hand.stays.after h.small.small l)

pub table_in_hand : (s s1 s2 : View) (kind : Kind) (id num p start b root : ℕ) → root ≡ 1 + kind_number kind →
    HoldsState s → DrawnBlock s s1 start b → ItemMade s1 s2 b id num p → HasTable s2 root
table_in_hand s s1 s2 kind id num p start b root e held t w = record {
  small = omega (arith, held.small, t.kept.size, w.kept.size);
  room = omega (arith, held.inside, t.kept.size, w.kept.size);
  low = omega (arith, kind_small kind);
  under = λ image i.
      let h = held.under image (stood t.kept image (stood w.kept image i)) in
      let hand = in_hand s s1 s2 id num p start b image h.0 t w i.sees h.1.represents in
      let table = new_table (mem s image) (mem s2 image) (length image) b h.0 kind h.1 hand in
      record { entries = h.1.represents.parts.tables (kind_number kind); is = rw e table };
}

pub fresh_in_hand : (s s1 s2 : View) (kind : Kind) (id num p start b root : ℕ) → root ≡ 1 + kind_number kind →
    HoldsState s → LacksItem s kind id → DrawnBlock s s1 start b → ItemMade s1 s2 b id num p → IsFresh s2 root id b
fresh_in_hand s s1 s2 kind id num p start b root e held l t w = record {
  under = λ image rows i other.
      let m2 = mem s2 image in
      let n = length image in
      let i0 = stood t.kept image (stood w.kept image i) in
      let h = held.under image i0 in
      let own = h.1.represents.parts.tables (kind_number kind) in
      let hand = in_hand s s1 s2 id num p start b image h.0 t w i.sees h.1.represents in
      let table = new_table (mem s image) m2 n b h.0 kind h.1 hand in
      let there : Table m2 n (1 + kind_number kind) rows = rw e at other in
      let same : rows ≡ own = table_one m2 n (m2 (1 + kind_number kind)) rows own there.table table.table in
      record {
        block = hand.block;
        absent = ap (λ (z : Rows). block_at z id) same ∙ l.none image h.0 i0.sees h.1;
        key_is = (w.made image i.sees).key_is;
      };
}

-- the numbers of the new item
new_numbers : (m m' : ℕ → ℕ) (b id num p : ℕ) → IsNewItem m m' b id num p → item_in m' b ≡ new_item num p
new_numbers m m' b id num p w = λ i. record {
  used = w.used_is i;
  free = w.free_is i;
  total = w.total_is i;
  price = w.price_is i;
}

pub new_done : (s s1 s2 s3 : View) (kind : Kind) (id num p start b root : ℕ) → root ≡ 1 + kind_number kind →
    LacksItem s kind id → is_command (command.Add kind id num (Some p)) ≡ true → num ≢ 0 →
    DrawnBlock s s1 start b → ItemMade s1 s2 b id num p → Inserted s2 s3 root id b →
    Ran s s3 (command.Add kind id num (Some p)) reply.Done
new_done s s1 s2 s3 kind id num p start b root e l range nz t w v = record {
  kept = kept_both s s2 s3 (kept_both s s1 s2 t.kept w.kept) v.kept;
  untouched = tt;
  idle = λ z n. absurd (nz z);
  outcome = λ image state i h.
      let i2 = v.kept.seen image i in let i1 = w.kept.seen image i2 in let i0 = t.kept.seen image i1 in
      let m = mem s image in
      let m2 = mem s2 image in
      let m3 = mem s3 image in
      let n = length image in
      let k = kind_number kind in
      let small = kind_small kind in
      let hand = in_hand s s1 s2 id num p start b image state t w i2 h.represents in
      let after = hand.stays.after in
      let rows = h.represents.parts.tables k in
      let same = hand.stays.tables k (omega arith) in
      let g = subst (λ (x : ℕ). Inserted s2 s3 x id b) e v in
      let table : Table m2 n (1 + k) (after.parts.tables k) =
      table_there m2 n (b ∷ []) state k after h.small.small (omega arith) in
      let missing : block_at (after.parts.tables k) id ≡ 0 =
      ap (λ (z : Rows). block_at z id) same ∙ l.none image state i0 h in
      let fresh : Fresh m2 n (after.parts.tables k) id b = record {
        block = hand.block;
        absent = missing;
        key_is = (w.made image i2).key_is;
      } in
      let grown = item_inserted m2 m3 n b [] state kind id hand.block after missing
      (record {
        table = g.table image (after.parts.tables k) i table fresh;
        relinks = g.relinks image (after.parts.tables k) i table fresh;
      }) in
      let numbers = new_numbers (mem s1 image) m2 b id num p (w.made image i2) in
      let none = item_none s kind id l image state i0 h in
      let room = not_full m2 n b state after in
      outcome_of m m3 n state (with_item state kind id (item_in m2 b))
      (command.Add kind id num (Some p)) reply.Done h range
      (new_step state kind id num p none nz room ∙ ap (λ (z : Item). (with_item state kind id z, reply.Done))
      (sym numbers)) grown.after;
}
