-- The effects of commands on items.
use Rattle.std.proofs.Common.{◌≡◌, ◌≢◌, ◌⊎◌, inl, inr, ℕ, ◌+◌, ◌<◌, ◌≤◌, List, [], ◌∷◌, not, refl, sym, ap, ◌∙◌, subst}
use Rattle.std.proofs.Common.{arith}
use Rattle.std.proofs.lemmas.Bool.{cases_lt}
use Rattle.std.specs.Ordering.{nat_cmp, eq_by_cmp}
use Rattle.std.specs.FinMap.Entries.{where_key}
use Rattle.std.specs.Cmp.{nat_cmp_total}
use Rattle.std.specs.FinMap.{entries, insert, remove, find, put, get-entries, entries-insert, nat_cmp-IsAntisymmetric}
use Rattle.tx_memory.specs.Seen.{same_or}
use Rattle.vac_model.specs.declared.items.Item.{Item}
use Rattle.vac_model.specs.State.{ItemTable, kind_number, table_of}
use Rattle.tx_alloc.specs.Pool.{IsBlock, with_at}
use Rattle.tx_alloc.specs.Rows.{Rows, times, put_row, cut_row}
use Rattle.tx_alloc.proofs.Times.{times_cut}
use Rattle.tx_alloc.proofs.Sums.{with_here, with_else}
use Rattle.tx_alloc.proofs.Outside.{outside_links}
use Rattle.vac_records.specs.Items.{item_in}
use Rattle.vac_records.specs.Heap.{Parts, IsHeap}
use Rattle.vac_records.specs.Represents.{items_in, bookings_in, customers_in}
use Rattle.vac_records.specs.Laws.{ItemFound, ItemMissing, ItemInserted, ItemReplaced, ItemRemoved}
use Rattle.vac_records.proofs.Keyed.{HasRow, Matches, entries_remove, find_absent, find_present, put_absent}
use Rattle.vac_records.proofs.Keyed.{put_present, cut_present, row_at, row_times, two_rows}
use Rattle.tx_tree.proofs.TableFrame.{table_rises}
use Rattle.vac_records.proofs.TableRows.{table_some}
use Rattle.vac_records.proofs.Insert.{inserted}
use Rattle.vac_records.proofs.Remove.{removed}
use Rattle.vac_records.proofs.Payload.{payload_law}
use Rattle.vac_records.proofs.Frames.{items_frame, bookings_frame, customers_frame, item_same}
use Rattle.vac_records.proofs.Shifts.{kind_small, in_table, in_list, table_not_out, list_not_out, tables_apart}
use Rattle.vac_records.proofs.Shifts.{list_not_table, table_once, cleared, out_first, shifts_table}
use Rattle.vac_records.proofs.Insert as inserting
use Rattle.vac_records.proofs.Remove as removing

-- a table's row and its entry
abbrev entry : (ℕ → ℕ) → ℕ × ℕ → ℕ × Item
entry m r = (r.0, item_in m r.1)

matches : (m : ℕ → ℕ) (id : ℕ) (rs : Rows) → Matches nat_cmp id id (entry m) rs
matches m id rs k a i = refl

pub item_found : ItemFound
item_found m n out s h kind id b at =
    get-entries (table_of s kind) id ∙ ap (λ (z : List (ℕ × Item)). find nat_cmp id z) (h.items kind)
    ∙ find_present nat_cmp id id (entry m) b (h.parts.tables (kind_number kind))
    (matches m id (h.parts.tables (kind_number kind))) at.at at.some

pub item_missing : ItemMissing
item_missing m n out s h kind id none =
    let rows = h.parts.tables (kind_number kind) in
    let l = kind_small kind in
    get-entries (table_of s kind) id ∙ ap (λ (z : List (ℕ × Item)). find nat_cmp id z) (h.items kind)
    ∙ find_absent nat_cmp id id (entry m) rows (matches m id rows)
    (table_some m n (m (1 + kind_number kind)) rows (h.heap.tables (kind_number kind) (omega (arith, l)))) none

-- an entry is put into a table
put_item : (m : ℕ → ℕ) (t : ItemTable) (rows : Rows) (id : ℕ) (item : Item) → entries t ≡ items_in m rows →
    entries (insert t id item) ≡ put nat_cmp id item (items_in m rows)
put_item m t rows id item e = entries-insert nat_cmp_total t id item ∙
    ap (λ (z : List (ℕ × Item)). put nat_cmp id item z) e

pub item_inserted : ItemInserted
unfolding shifts_table
item_inserted m m' n b out s kind id bb h none grown =
    let i = kind_number kind in
    let l = kind_small kind in
    let p = h.parts in
    let rows = p.tables i in
    let ob = out_first p b out h.held in
    let no_customer : times b (p.tables 3) ≡ 0 = elim (same_or (times b (p.tables 3)) 0) [
      | inl z ↦ z
      | inr nz ↦ absurd (table_not_out m n p h.heap 3 b b (omega arith) (omega arith) ob refl)
    ] in
    let q : Parts = record p { lists = with_at p.lists b [] } in
    let g : IsHeap m n q = cleared m n p h.heap b no_customer in
    let bare : q.lists b ≡ [] = with_here p.lists b b [] refl in
    let l4 : i < 4 = omega (arith, l) in
    let zero : (m (b + 4) ≡ 0) ⊎ (i < 3) = inr l in
    let heap = inserted m m' n i id b out q g l4 bb h.held bare zero grown.table grown.relinks in
    let blocks = inserting.blocks m m' n i id b out q g l4 bb h.held bare zero grown.table grown.relinks in
    let links : (j a k : ℕ) → j < 4 → 0 < times a (p.tables j) → 4 ≤ k → k < 8 → m' (a + k) ≡ m (a + k) =
    λ j a k lj o low less.
    let ba = in_table m n p h.heap j a lj o in
    outside_links m m' n (1 + i) a k (put_row rows id b) grown.relinks blocks ba low less (omega (arith, ba.1.1)) in
    let ne3 : 3 ≢ i = omega (arith, l) in
    let after = shifts_table m m' n (b ∷ out) out s h kind (insert (table_of s kind) id (item_in m b))
    (record q { tables = with_at q.tables i (put_row (q.tables i) id b); out = out }) heap refl
    (let is : with_at p.tables i (put_row rows id b) i ≡ put_row rows id b =
    with_here p.tables i i (put_row rows id b) refl in
    put_item m (table_of s kind) rows id (item_in m b) (h.items kind)
    ∙ put_absent nat_cmp id id (entry m) (item_in m b) 0 b rows (table_rises m n (m (1 + i)) rows (h.heap.tables i l4))
    (matches m id rows) (table_some m n (m (1 + i)) rows (h.heap.tables i l4)) none refl
    ∙ sym (items_frame m m' (put_row rows id b) (λ a k o low less. let ba = blocks a o in
    outside_links m m' n (1 + i) a k (put_row rows id b) grown.relinks blocks ba low less (omega (arith, ba.1.1))))
    ∙ ap (items_in m') (sym is))
    (λ j lj ne. let is = with_else p.tables i j (put_row rows id b) ne in
    ap (items_in m') is ∙ items_frame m m' (p.tables j) (λ a k o low less. links j a k (omega arith) o low less))
    (let is = with_else p.tables i 3 (put_row rows id b) ne3 in
    ap (customers_in m' (with_at p.lists b [])) is
    ∙ customers_frame m m' p.lists (with_at p.lists b []) (p.tables 3) (λ c o.
    let nc : c ≢ b = table_not_out m n p h.heap 3 c b (omega arith) o ob in
    ap (bookings_in m') (with_else p.lists b c [] nc)
    ∙ bookings_frame m m' (p.lists c) (λ a k o' nk less.
    let ba = in_list m n p h.heap c a o o' in
    let na : a ≢ b = list_not_out m n p h.heap c a b o o' ob in
    let far : times a rows ≡ 0 = elim (same_or (times a rows) 0) [
      | inl z ↦ z
      | inr nz ↦
          absurd (list_not_table m n p h.heap c a i a o o' l4 (omega arith) refl)
    ] in
    inserting.same m m' n i id b out q g l4 bb h.held bare zero grown.table grown.relinks a k ba far na less))) in
    record {
      after = after;
      table = with_here p.tables i i (put_row rows id b) refl;
      tables = λ j lj ne. with_else p.tables i j (put_row rows id b) ne;
    }

pub item_replaced : ItemReplaced
unfolding shifts_table
item_replaced m m' n out s kind id b h at w =
    let i = kind_number kind in
    let l = kind_small kind in
    let p = h.parts in
    let rows = p.tables i in
    let l4 : i < 4 = omega (arith, l) in
    let here = row_at id b rows at.at at.some in
    let tb = row_times id b rows here in
    let bb = in_table m n p h.heap i b l4 tb in
    let far : (x k : ℕ) → IsBlock n x → x ≢ b → k < 8 → m' (x + k) ≡ m (x + k) = λ x k bx ne less.
    w (x + k) (elim (cases_lt x b) [
      | inl below ↦ inl (omega (arith, bx.1.1, bb.1.1))
      | inr above ↦
          inr (omega (arith, bx.1.1, bb.1.1))
    ]) in
    let after = shifts_table m m' n out out s h kind (insert (table_of s kind) id (item_in m' b)) p
    (payload_law m m' n i b p h.heap l tb w) h.held
    (put_item m (table_of s kind) rows id (item_in m' b) (h.items kind)
    ∙ put_present nat_cmp id id (entry m) (entry m') (item_in m' b) 0 b rows
    (table_rises m n (m (1 + i)) rows (h.heap.tables i l4)) (matches m id rows) at.at at.some refl
    (λ k a r ne.
    let na : a ≢ b = λ q. absurd (omega (
      arith,
      two_rows k id a rows r
          (subst (λ (z : ℕ). HasRow id z rows) (sym q) here) ne,
      table_once m n p h.heap i a l4,
    )) in
    let e = item_same m m' a (λ j low less. far a j (in_table m n p h.heap i a l4 (row_times k a rows r)) na less) in
    ap (λ (x : Item). (k, x)) e))
    (λ j lj ne. items_frame m m' (p.tables j) (λ a k o low less.
    far a k (in_table m n p h.heap j a (omega arith) o) (tables_apart m n p h.heap j i a b (omega arith) l4 ne o tb)
    less))
    (customers_frame m m' p.lists p.lists (p.tables 3) (λ c o. bookings_frame m m' (p.lists c) (λ a k o' nk less.
    far a k (in_list m n p h.heap c a o o') (list_not_table m n p h.heap c a i b o o' l4 tb) less))) in
    record { after = after; tables = λ j lj. refl }

pub item_removed : ItemRemoved
unfolding shifts_table
item_removed m m' n out s kind id b h at cut =
    let i = kind_number kind in
    let l = kind_small kind in
    let p = h.parts in
    let rows = p.tables i in
    let l4 : i < 4 = omega (arith, l) in
    let none : (i < 3) ⊎ (p.lists b ≡ []) = inl l in
    let heap = removed m m' n i id b p h.heap l4 at.at at.some none cut.table cut.relinks in
    let blocks = removing.blocks m m' n i id b p h.heap l4 at.at at.some none cut.table cut.relinks in
    let links : (j a k : ℕ) → j < 4 → 0 < times a (p.tables j) → 4 ≤ k → k < 8 → m' (a + k) ≡ m (a + k) =
    λ j a k lj o low less.
    let ba = in_table m n p h.heap j a lj o in
    outside_links m m' n (1 + i) a k rows cut.relinks blocks ba low less (omega (arith, ba.1.1)) in
    let ne3 : 3 ≢ i = omega (arith, l) in
    let after = shifts_table m m' n out (b ∷ out) s h kind (remove (table_of s kind) id)
    (record p { tables = with_at p.tables i (cut_row rows id); out = b ∷ p.out }) heap
    (ap (λ (z : List ℕ). b ∷ z) h.held)
    (let is : with_at p.tables i (cut_row rows id) i ≡ cut_row rows id =
    with_here p.tables i i (cut_row rows id) refl in
    entries_remove nat_cmp_total nat_cmp-IsAntisymmetric (table_of s kind) id
    ∙ ap (λ (z : List (ℕ × Item)). where_key nat_cmp (λ x. not (eq_by_cmp nat_cmp id x)) z) (h.items kind)
    ∙ cut_present nat_cmp id id (entry m) 0 rows (table_rises m n (m (1 + i)) rows (h.heap.tables i l4))
    (matches m id rows)
    ∙ sym (items_frame m m' (cut_row rows id) (λ a k o low less. links i a k l4
    (omega (arith, o, times_cut a id b rows at.at at.some)) low less))
    ∙ ap (items_in m') (sym is))
    (λ j lj ne. let is = with_else p.tables i j (cut_row rows id) ne in
    ap (items_in m') is ∙ items_frame m m' (p.tables j) (λ a k o low less. links j a k (omega arith) o low less))
    (let is = with_else p.tables i 3 (cut_row rows id) ne3 in
    ap (customers_in m' p.lists) is
    ∙ customers_frame m m' p.lists p.lists (p.tables 3) (λ c o. bookings_frame m m' (p.lists c) (λ a k o' nk less.
    let ba = in_list m n p h.heap c a o o' in
    let far : times a rows ≡ 0 = elim (same_or (times a rows) 0) [
      | inl z ↦ z
      | inr nz ↦
          absurd (list_not_table m n p h.heap c a i a o o' l4 (omega arith) refl)
    ] in
    removing.same m m' n i id b p h.heap l4 at.at at.some none cut.table cut.relinks a k ba far less))) in
    record {
      after = after;
      table = with_here p.tables i i (cut_row rows id) refl;
      tables = λ j lj ne. with_else p.tables i j (cut_row rows id) ne;
    }
