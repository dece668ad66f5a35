-- The order of a write log's nodes, by lock and then by number, and the log that the nodes
-- represent.
use Rattle.std.specs.Prelude.{◌≡◌, ℕ, ◌+◌, ◌*◌, ◌<◌, ◌≤◌, cond, List, length, nat_eq}
use Prim.Native.Nat.{zero, suc}
use Rattle.std.specs.FinMap.{FinMap, empty, insert}
use Rattle.std.specs.Ordering.{nat_cmp}
use Rattle.stm_logs.specs.declared.nodes.TheConstants.{TOP}
use Rattle.stm_logs.specs.Nodes.{Node, Block, at}
use Rattle.stm_logs.specs.Log.{LogValue}

-- the rank of a number with its lock: the key by which nodes are ordered
abbrev pub rank_of_number : ℕ → ℕ → ℕ
rank_of_number lock number = lock * 4294967296 + number

abbrev pub rank_in : Node → ℕ
rank_in node = rank_of_number node.lock node.number

-- p is the node with the least rank from `low` on, or 0 if there is none
pub record Least (ns : List Node) (n low p : ℕ) : Type 0 where
  pub none : p ≡ 0 → (f : ℕ) → 0 < f → f ≤ n → rank_in (at ns f) < low
  pub some : 0 < p → (p ≤ n) × (low ≤ rank_in (at ns p))
  pub least : 0 < p
      → (f : ℕ) → 0 < f → f ≤ n → low ≤ rank_in (at ns f) → rank_in (at ns p) ≤ rank_in (at ns f)

-- the least rank that may come after a node; 0 after the root
abbrev pub least_after : List Node → ℕ → ℕ
least_after ns e = cond (nat_eq e 0) 0 (rank_in (at ns e) + 1)

-- the nodes 1 to n have different numbers, and each leads to the next node in the order; the root
-- leads to the first node. No rank is greater than that of the root
pub record IsChained (ns : List Node) (n : ℕ) : Type 0 where
  pub top : ((at ns 0).number ≡ TOP) × ((at ns 0).lock ≡ TOP)
  pub fits : (e : ℕ) → e ≤ n → (at ns e).number ≤ TOP
  pub alone : (e f : ℕ) → 0 < e → e ≤ n → 0 < f → f ≤ n
      → (at ns e).number ≡ (at ns f).number → e ≡ f
  pub next : (e : ℕ) → e ≤ n → Least ns n (least_after ns e) (at ns e).next

-- some node has the lock
abbrev pub HasLock : List Node → ℕ → ℕ → Type 0
HasLock ns n lock = (e : ℕ) × ((0 < e) × (e ≤ n) × ((at ns e).lock ≡ lock))

-- e is the root, or a node with a rank below x
pub record IsBelow (ns : List Node) (n x e : ℕ) : Type 0 where
  pub inside : e ≤ n
  pub less : least_after ns e ≤ x

-- e is the last node with a rank below x, or the root if there is none
pub record IsBefore (ns : List Node) (n x e : ℕ) : Type 0 where
  pub below : IsBelow ns n x e
  pub last : 0 < (at ns e).next → x ≤ rank_in (at ns ((at ns e).next))

-- the two nodes have the same fields of the index
pub record SameKeys (old new : Node) : Type 0 where
  pub number : new.number ≡ old.number
  pub place : new.place ≡ old.place
  pub slot : new.slot ≡ old.slot

-- the nodes are equal except for their fingers
pub record OnlyFingers (old new : List Node) : Type 0 where
  pub len : length new ≡ length old
  pub same : (e : ℕ) → SameKeys (at old e) (at new e)
  pub values : (e : ℕ) → (at new e).value ≡ (at old e).value
  pub locks : (e : ℕ) → (at new e).lock ≡ (at old e).lock
  pub nexts : (e : ℕ) → (at new e).next ≡ (at old e).next

-- the map of the first n nodes, from their keys to their values
abbrev pub table : {X : Type 0} → (ℕ → ℕ) → (ℕ → X) → ℕ → FinMap nat_cmp X
table key value zero = empty
table key value (suc e) = insert (table key value e) (key (suc e)) (value (suc e))

-- the log that the nodes represent: the words with their values, and with their locks
abbrev pub log_value : List Node → ℕ → LogValue
log_value ns n = record {
  words = table (λ e. (at ns e).number) (λ e. (at ns e).value) n;
  locks = table (λ e. (at ns e).number) (λ e. (at ns e).lock) n;
}

abbrev pub block_log : Block → LogValue
block_log b = log_value b.list b.count
