-- The index of a write log: an open-addressed hash table from numbers to nodes.
use Rattle.std.specs.Prelude.{◌≡◌, ◌≢◌, ℕ, ◌+◌, ◌*◌, ◌/◌, ◌%◌, ◌<◌, ◌≤◌, cond, List, [], ◌∷◌, length, nat_eq}
use Rattle.stm_logs.specs.declared.nodes.TheConstants.{MAX_PLACES}
use Rattle.stm_logs.specs.Nodes.{Node, at}

-- the place at which the search for a number begins, in an index of `len` places
abbrev pub home : ℕ → ℕ → ℕ
home number len = (number * 2654435769 % 4294967296) * len / 4294967296

-- node e is one of the first n nodes, and has the number
abbrev pub IsFoundNode : List Node → ℕ → ℕ → ℕ → Type 0
IsFoundNode ns n number e = (e ≤ n) × ((at ns e).number ≡ number)

-- P holds at each place from `start` up to `end`, exclusive; the places wrap around
pub record Along (P : ℕ → Type 0) (len start end : ℕ) : Type 0 where
  pub straight : start ≤ end → (q : ℕ) → start ≤ q → q < end → P q
  pub high : end < start → (q : ℕ) → start ≤ q → q < len → P q
  pub low : end < start → (q : ℕ) → q < end → P q

-- the place of the index leads to a node
abbrev pub IsTaken : List Node → ℕ → Type 0
IsTaken ns q = 0 < (at ns q).slot

-- the place leads to a node with another number
abbrev pub IsOther : List Node → ℕ → ℕ → Type 0
IsOther ns number q = IsTaken ns q × ((at ns ((at ns q).slot)).number ≢ number)

-- the number of places that lead to nodes
abbrev pub places_taken : List Node → ℕ
places_taken [] = 0
places_taken (node ∷ ns) = cond (nat_eq node.slot 0) 0 1 + places_taken ns

-- place q leads to one of the first n nodes, and that node knows its place
abbrev pub LeadsTo : List Node → ℕ → ℕ → Type 0
LeadsTo ns n q = ((at ns q).slot ≤ n) × ((at ns ((at ns q).slot)).place ≡ q)

-- node e has a place of the index, and the place leads to node e
abbrev pub HasPlace : List Node → ℕ → Type 0
HasPlace ns e = ((at ns e).place < length ns) × ((at ns ((at ns e).place)).slot ≡ e)

-- a search for the number finds no free place before q
abbrev pub SearchReaches : List Node → ℕ → ℕ → Type 0
SearchReaches ns number q = Along (IsTaken ns) (length ns) (home number (length ns)) q

-- the nodes 1 to n are indexed, and the index has no other nodes
pub record IsIndexed (ns : List Node) (n : ℕ) : Type 0 where
  pub room : n < length ns
  pub limit : length ns ≤ MAX_PLACES
  pub count : places_taken ns ≡ n
  pub places : (e : ℕ) → 0 < e → e ≤ n → HasPlace ns e
  pub slots : (q : ℕ) → q < length ns → IsTaken ns q → LeadsTo ns n q
  pub reached : (e : ℕ) → 0 < e → e ≤ n → SearchReaches ns (at ns e).number (at ns e).place

-- no node has the number
abbrev pub HasNoNumber : List Node → ℕ → ℕ → Type 0
HasNoNumber ns n number = (e : ℕ) → 0 < e → e ≤ n → (at ns e).number ≢ number

-- the place is the answer for a number: the place of the node with the number, or the free place
-- at which such a node would enter
pub record Answers (ns : List Node) (n : ℕ) (number q : ℕ) : Type 0 where
  pub inside : q < length ns
  pub found : IsTaken ns q → IsFoundNode ns n number (at ns q).slot
  pub free : (at ns q).slot ≡ 0 → HasNoNumber ns n number × SearchReaches ns number q

-- the two nodes are equal except for their places of the index
pub record SameNode (old new : Node) : Type 0 where
  pub value : new.value ≡ old.value
  pub number : new.number ≡ old.number
  pub lock : new.lock ≡ old.lock
  pub next : new.next ≡ old.next

-- `new` has one more node than `old`, after the others, and that node has the given fields
pub record Entered (old new : List Node) (n : ℕ) (node : Node) : Type 0 where
  pub indexed : IsIndexed new (n + 1)
  pub len : length new ≡ length old
  pub others : (e : ℕ) → e ≢ n + 1 → SameNode (at old e) (at new e)
  pub here : SameNode node (at new (n + 1))
