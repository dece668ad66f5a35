-- The relation between the definition of the audit and the running audit.
use Rattle.std.specs.Prelude.{◌≡◌, ◌⊎◌, ℕ, ◌+◌, ◌<◌, ◌≤◌, Bool, List, [], ◌++◌, length, suc, Result, Ok, Err, MatchResult, slice_index, sum_by, ⊤}
use Rattle.std.specs.List.{All, AllWithin, HoldsAt}
use Rattle.tx_alloc.specs.Pool.{heap_words}
use Rattle.tx_alloc.specs.Rows.{Rows}
use Rattle.vac_model.specs.declared.replies.Report.{Report}
use Rattle.vac_records.specs.Heap.{over}
use Rattle.tx_alloc.specs.declared.place.TheConstants.{MOST_BLOCKS}
use Rattle.vac_audit.specs.Walk.{Seen, look_at_item, look_at_customer, walk_table, walk_items, units_in, audit}
use Rattle.vac_audit.specs.Marks.{Marks, IsIndex, SameItems}
use Rattle.vac_audit.specs.Noted.{booked_in, codes_in, noted_of}
use Rattle.vac_audit.specs.TreeRan.{Faulted}
use Rattle.vac_audit.specs.declared.Flaw.{Flaw}
use Rattle.vac_audit.specs.declared.Flaw.TheVariants.{Bookings}
use Rattle.vac_audit.specs.declared.notes.NotedItem.{NotedItem}
use Rattle.vac_audit.specs.declared.notes.Notes.{Notes}
use Rattle.vac_audit.specs.declared.tree.Fault.{Fault}
use Rattle.vac_audit.specs.declared.tree.Fault.TheVariants.{Memory as Refused, Found}
use Rattle.vac_audit.specs.declared.audit.AuditFault.{AuditFault}
use Rattle.vac_audit.specs.declared.audit.AuditFault.TheVariants.{Memory, Flaw as Flawed}
use Rattle.vac_audit.specs.declared.audit.Kinds.{Kinds}

-- the notes are empty
pub record Blank (notes : Notes) : Type 0 where
  pub items : notes.items.items ≡ []
  pub used : notes.tally.used ≡ 0
  pub free : notes.tally.free ≡ 0
  pub total : notes.tally.total ≡ 0
  pub bookings : notes.tally.bookings ≡ 0
  pub billed : notes.tally.billed ≡ 0

-- the sum of a word over the items of three tables
abbrev pub three : (ℕ → ℕ) → ℕ → Rows → Rows → Rows → ℕ
three m word a b c =
    sum_by (λ r. m (r.1 + word)) a + sum_by (λ r. m (r.1 + word)) b
    + sum_by (λ r. m (r.1 + word)) c

-- the definition's walk of a table of items, with one level more than blocks
abbrev pub item_table : List ℕ → ℕ → ℕ → Seen → Result (Rows × Seen) Flaw
item_table words blocks root s =
    walk_table (slice_index words) (length words) (look_at_item (slice_index words)) (suc blocks)
    root s

-- the definition's walk of the three tables of items, with one level more than blocks
abbrev pub all_items : List ℕ → ℕ → Seen → Result ((ℕ → Rows) × Seen) Flaw
all_items words blocks s = walk_items (slice_index words) (length words) (suc blocks) 3 s

-- the definition's walk of the table of customers and their bookings, with one level more than
-- blocks
abbrev pub customer_table : List ℕ → ℕ → (ℕ → Rows) → Seen → Result (Rows × Seen) Flaw
customer_table words blocks tables s =
    walk_table (slice_index words) (length words)
    (look_at_customer (slice_index words) (length words) tables (suc blocks)) (suc blocks) 4 s

-- the three tables of items were walked and their items noted
pub record ItemsWalked (words : List ℕ) (marks marks' : List Bool) (notes' : Notes)
    (kinds : Kinds) (s : Seen) : Type 0 where
  pub a : Rows
  pub b : Rows
  pub c : Rows
  pub s1 : Seen
  pub s2 : Seen
  pub s3 : Seen
  pub is_a : item_table words (length marks) 1 s ≡ Ok (a, s1)
  pub is_b : item_table words (length marks) 2 s1 ≡ Ok (b, s2)
  pub is_c : item_table words (length marks) 3 s2 ≡ Ok (c, s3)
  pub are : Marks marks' s3.blocks
  pub items : notes'.items.items ≡ (noted_of 0 a ++ noted_of 1 b) ++ noted_of 2 c
  pub used : notes'.tally.used ≡ three (slice_index words) 4 a b c
  pub free : notes'.tally.free ≡ three (slice_index words) 5 a b c
  pub total : notes'.tally.total ≡ three (slice_index words) 6 a b c
  pub bookings : notes'.tally.bookings ≡ 0
  pub billed : notes'.tally.billed ≡ 0
  pub cars : kinds.cars ≡ length a
  pub flights : kinds.flights ≡ length b
  pub rooms : kinds.rooms ≡ length c

-- the tables of items were walked; a flaw that ended the walk is the one that the definition finds
abbrev pub ItemsRan : List ℕ → List Bool → List Bool → Notes → Result Kinds Fault → Type 0
ItemsRan words marks marks' notes' result =
    (s : Seen) → Marks marks s.blocks → MatchResult result
    (λ kinds. ItemsWalked words marks marks' notes' kinds s)
    (λ fault. Faulted fault (λ flaw. all_items words (length marks) s ≡ Err flaw))

-- the notes have no booking counted yet
pub record Uncounted (notes : Notes) : Type 0 where
  pub booked : All (λ item. item.booked ≡ 0) notes.items.items
  pub bookings : notes.tally.bookings ≡ 0
  pub billed : notes.tally.billed ≡ 0

-- the customers were walked and their bookings counted
pub record CustomersWalked (words : List ℕ) (marks marks' : List Bool) (notes notes' : Notes)
    (tables : ℕ → Rows) (customers : ℕ) (s : Seen) : Type 0 where
  pub rows : Rows
  pub s' : Seen
  pub is : customer_table words (length marks) tables s ≡ Ok (rows, s')
  pub are : Marks marks' s'.blocks
  pub many : customers ≡ length rows
  pub items : SameItems notes notes'
  pub booked : (i : ℕ) → i < length notes.items.items →
      slice_index (booked_in notes'.items.items) i ≡ over (units_in (slice_index words)
      (slice_index (codes_in notes.items.items) i)) rows s'.lists
  pub bookings :
      notes'.tally.bookings ≡ over (sum_by (λ r. slice_index words (r.1 + 4))) rows s'.lists
  pub billed :
      notes'.tally.billed ≡ over (sum_by (λ r. slice_index words (r.1 + 2))) rows s'.lists

-- the customers were walked; a flaw that ended the walk is the one that the definition finds
abbrev pub CustomersRan : List ℕ → List Bool → List Bool → Notes → Notes → Result ℕ Fault →
    Type 0
CustomersRan words marks marks' notes notes' result =
    (tables : ℕ → Rows) → IsIndex (codes_in notes.items.items) tables →
    (s : Seen) → Marks marks s.blocks → MatchResult result
    (λ customers. CustomersWalked words marks marks' notes notes' tables customers s)
    (λ fault. Faulted fault (λ flaw. customer_table words (length marks) tables s ≡ Err flaw))

-- the items' blocks lie within the words
abbrev pub Inside : List ℕ → List NotedItem → Type 0
Inside words items = All (λ item. item.block + 8 ≤ length words) items

-- the used units of the item are as many as its booked units
abbrev pub IsUsedAsBooked : List ℕ → NotedItem → Type 0
IsUsedAsBooked words item = slice_index words (item.block + 4) ≡ item.booked

-- the flaw is at the first item whose used units are not as many as its booked units
pub record FirstUnused (words : List ℕ) (items : List NotedItem) (flaw : Flaw) : Type 0 where
  pub i : ℕ
  pub inside : i < length items
  pub is : HoldsAt (λ item. flaw ≡ Bookings (item.block + 4)) items i
  pub other : HoldsAt (λ item. IsUsedAsBooked words item → ⊥) items i
  pub earlier : AllWithin (IsUsedAsBooked words) items 0 i

-- each item has as many used units as booked units, or the flaw is that of the first item that has
-- not
abbrev pub UsedRan : List ℕ → List NotedItem → Result ⊤ Flaw → Type 0
UsedRan words items result = MatchResult result
    (λ _. All (IsUsedAsBooked words) items)
    (λ flaw. FirstUnused words items flaw)

-- the words of a heap of this many blocks were audited: the result is that of the definition,
-- unless memory was refused
abbrev pub HeapRan : List ℕ → ℕ → Result Report Fault → Type 0
HeapRan words blocks result = MatchResult result
    (λ report. audit (slice_index words) blocks ≡ Ok report)
    (λ fault. Faulted fault (λ flaw. audit (slice_index words) blocks ≡ Err flaw))

-- the number of words is that of a heap with at least one block and no more blocks than the limit
abbrev pub IsHeapSize : ℕ → Type 0
IsHeapSize n = (blocks : ℕ) × ((n ≡ heap_words blocks) × (1 ≤ blocks) × (blocks ≤ MOST_BLOCKS))

-- the audit's result as the call returns it
abbrev pub audit_answer : Result Report Flaw → Result Report AuditFault
audit_answer (Ok report) = Ok report
audit_answer (Err flaw) = Err (Flawed flaw)

-- the reason that ended a walk, as the call returns it
abbrev pub fault_answer : Fault → AuditFault
fault_answer Refused = Memory
fault_answer (Found flaw) = Flawed flaw

-- the result is that of the audit, unless memory was refused
abbrev pub Audited : (ℕ → ℕ) → ℕ → Result Report AuditFault → Type 0
Audited m blocks result = (result ≡ Err Memory) ⊎ (result ≡ audit_answer (audit m blocks))
