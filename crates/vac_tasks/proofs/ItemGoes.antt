-- An item is taken out of its table, and its block is given back.
use Rattle.std.proofs.Common.{◌≡◌, ◌≢◌, ℕ, ◌+◌, ◌<◌, List, [], ◌∷◌, length, sym, ◌∙◌, subst, arith}
use Rattle.tx_memory.specs.View.{View, Sees}
use Rattle.vac_model.specs.declared.items.Kind.{Kind}
use Rattle.vac_model.specs.State.{State, kind_number, without_item}
use Rattle.tx_alloc.specs.Pool.{IsBlock, HasUsed, Given}
use Rattle.tx_alloc.specs.Rows.{block_at}
use Rattle.tx_tree.specs.Table.{Table, FoundRow, Removed}
use Rattle.vac_records.specs.Items.{mem}
use Rattle.vac_records.specs.Steps.{kept_both, stood}
use Rattle.vac_records.specs.Represents.{Represents, IsState}
use Rattle.vac_records.specs.InMemory.{HoldsState}
use Rattle.vac_records.proofs.Bridges.{hand_there, table_there}
use Rattle.vac_records.proofs.Hands.{block_given}
use Rattle.vac_records.proofs.Items.{item_removed}
use Rattle.vac_records.proofs.Keyed.{row_at, row_times}
use Rattle.vac_records.proofs.Shifts.{kind_small, in_table}
use Rattle.vac_tasks.specs.Entries.{HasItem, HasItemAt}
use Rattle.vac_tasks.specs.Ran.{ItemGone}

-- the rows of a kind
table_of_kind : (m : ℕ → ℕ) (n : ℕ) (state : State) (kind : Kind) (h : IsState m n state) →
    Table m n (1 + kind_number kind) (h.represents.parts.tables (kind_number kind))
table_of_kind m n state kind h = table_there m n [] state (kind_number kind) h.represents h.small.small
    (omega (arith, kind_small kind))

pub item_there : (s : View) (kind : Kind) (id b : ℕ) → HasItemAt s kind id b → HasItem s kind id
item_there s kind id b at = record { there = λ image state i h e. at.some (sym (at.at image state i h) ∙ e) }

-- the removal finds the item
pub gone_none : (s s1 : View) (kind : Kind) (id root : ℕ) → root ≡ 1 + kind_number kind → HasItem s kind id →
    FoundRow s s1 root id 0 → ItemGone s s1 kind id
gone_none s s1 kind id root e has f = record {
  kept = f.kept;
  gone = λ image state i h.
      let g = subst (λ (x : ℕ). FoundRow s s1 x id 0) e f in
      let rows = h.represents.parts.tables (kind_number kind) in
      let zero : 0 ≡ block_at rows id = g.is image rows i (table_of_kind (mem s image) (length image) state kind h) in
      absurd (has.there image state (f.kept.seen image i) h (sym zero));
}

-- the item is out of its table, and its block is in hand
pub record IsOut (m' : ℕ → ℕ) (n : ℕ) (state : State) (kind : Kind) (id b : ℕ) : Type 0 where
  pub block : IsBlock n b
  pub after : Represents m' n (b ∷ []) (without_item state kind id)

is_out : (s s1 : View) (kind : Kind) (id root b : ℕ) (image : List ℕ) (state : State) → root ≡ 1 + kind_number kind →
    HasItem s kind id → Removed s s1 root id b → Sees s1 image → IsState (mem s image) (length image) state →
    IsOut (mem s1 image) (length image) state kind id b
is_out s s1 kind id root b image state e has r i h =
    let m = mem s image in
    let m1 = mem s1 image in
    let n = length image in
    let k = kind_number kind in
    let small = kind_small kind in
    let rows = h.represents.parts.tables k in
    let table = table_of_kind m n state kind h in
    let g = subst (λ (x : ℕ). Removed s s1 x id b) e r in
    let at : block_at rows id ≡ b = sym (g.is image rows i table) in
    let some : b ≢ 0 = λ z. has.there image state (r.kept.seen image i) h (at ∙ z) in
    let removed = item_removed m m1 n [] state kind id b h.represents (record { at = at; some = some })
    (record { table = g.table image rows i table; relinks = g.relinks image rows i table }) in
    record {
      block = in_table m n h.represents.parts h.represents.heap k b (omega arith)
          (row_times id b rows (row_at id b rows at some));
      after = removed.after;
    }

pub used_in_hand : (s s1 : View) (kind : Kind) (id root b : ℕ) → root ≡ 1 + kind_number kind → HoldsState s →
    HasItem s kind id → Removed s s1 root id b → HasUsed s1 b
used_in_hand s s1 kind id root b e held has r = record {
  small = omega (arith, held.small, r.kept.size);
  under = λ image i.
      let h = held.under image (stood r.kept image i) in
      let out = is_out s s1 kind id root b image h.0 e has r i.sees h.1 in
      record {
        free = _;
        used = _;
        count = _;
        is = hand_there (mem s1 image) (length image) b [] (without_item h.0 kind
            id) out.block out.after;
      };
}

pub gone_done : (s s1 s2 : View) (kind : Kind) (id root start b : ℕ) → root ≡ 1 + kind_number kind → start < 8 →
    HasItem s kind id → Removed s s1 root id b → Given s1 s2 start b → ItemGone s s2 kind id
gone_done s s1 s2 kind id root start b e low has r g = record {
  kept = kept_both s s1 s2 r.kept g.kept;
  gone = λ image state i h.
      let i1 = g.kept.seen image i in
      let out = is_out s s1 kind id root b image state e has r i1 h in
      (block_given (mem s1 image) (mem s2 image) (length image) start b []
      (without_item state kind id) low out.block out.after
      (λ used count u. g.giving image out.after.parts.free used count i u)).after;
}
