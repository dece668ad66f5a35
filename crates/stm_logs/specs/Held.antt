-- A write log: its nodes, and their changes.
use Rattle.std.specs.Prelude.{◌≡◌, ℕ, ◌+◌, ◌<◌, ◌≤◌, Option, Some, None, List, length}
use Rattle.std.specs.FinMap.{insert}
use Rattle.stm_logs.specs.Nodes.{Node, Block, at}
use Rattle.stm_logs.specs.Log.{LogValue, empty_log}
use Rattle.stm_logs.specs.Index.{IsIndexed, SameNode, IsTaken}
use Rattle.stm_logs.specs.Order.{IsChained, block_log}

-- nodes 1 to n are indexed and chained
pub record IsIndexedAndChained (ns : List Node) (n : ℕ) : Type 0 where
  pub indexed : IsIndexed ns n
  pub chained : IsChained ns n

-- the nodes of a block are indexed and chained, and the block has at least four places
pub record IsLog (b : Block) : Type 0 where
  pub ready : IsIndexedAndChained b.list b.count
  pub places : 4 ≤ length b.list

-- the log of a table; the empty log if there is no table yet
abbrev pub held_value : Option LogValue → LogValue
held_value None = empty_log
held_value (Some table) = table

-- the log with one more word, its lock and its value
abbrev pub with_word : LogValue → ℕ → ℕ → ℕ → LogValue
with_word w address lock value = record {
  words = insert w.words address value;
  locks = insert w.locks address lock;
}

-- `new` is a log with one more word than `old`
pub record HasOneMoreWord (address lock value : ℕ) (old new : Block) : Type 0 where
  pub log : IsLog new
  pub same : block_log new ≡ with_word (block_log old) address lock value

-- `new` has room for one more node, and represents the same log as `old`
pub record IsRoomy (old new : Block) : Type 0 where
  pub log : IsLog new
  pub room : new.count + 1 < length new.list
  pub same : block_log new ≡ block_log old

-- the first e nodes of `old` are in `new`, and are indexed there
pub record Copied (old new : List Node) (e : ℕ) : Type 0 where
  pub indexed : IsIndexed new e
  pub same : (i : ℕ) → i ≤ e → SameNode (at old i) (at new i)

-- of the nodes 1 to n, the first e have left the index
pub record Cleared (old new : List Node) (n e : ℕ) : Type 0 where
  pub len : length new ≡ length old
  pub places : (i : ℕ) → (at new i).place ≡ (at old i).place
  pub numbers : (i : ℕ) → (at new i).number ≡ (at old i).number
  pub locks : (i : ℕ) → (at new i).lock ≡ (at old i).lock
  pub left : (q : ℕ) → q < length new → IsTaken new q
      → (e < (at new q).slot) × ((at new q).slot ≤ n) × ((at new ((at new q).slot)).place ≡ q)
