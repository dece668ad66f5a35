-- The initial words of a system, written as attempts.
use Rattle.std.specs.Prelude.{◌≡◌, ℕ, suc, true, eqb, List, [], ◌∷◌, ◌++◌, flat_map, if◌then◌else◌}
use Rattle.std.specs.List.{All}
use Rattle.tx_alloc.specs.Spread.{IsSpreadHeap}
use Rattle.tx_memory.specs.declared.access.Access.{Access}
use Rattle.tx_memory.specs.declared.access.Access.TheVariants.{Write}
use Rattle.vac_manager.specs.declared.note.TracedAttempt.{TracedAttempt}

-- the attempt committed before all others: it began and ended at 0, and wrote version 0
pub record IsLaidFirst (a : TracedAttempt) : Type 0 where
  pub commits : a.commits ≡ true
  pub begin : a.begin ≡ 0
  pub end : a.end ≡ 0
  pub place : a.place ≡ record { renewal = 0; version = 0; wrote = true }

-- the write of a word at an address, if the word is not 0
abbrev pub write_of : ℕ → ℕ → List Access
write_of address word = if eqb word 0 then [] else Write (record { 0 = address }) word ∷ []

-- the writes of those words that are not 0; the first word of the list has the address `first`
abbrev pub writes_from : ℕ → List ℕ → List Access
writes_from first [] = []
writes_from first (word ∷ words) = write_of first word ++ writes_from (suc first) words

-- the accesses of the attempts, one attempt after the other
abbrev pub done_by : List TracedAttempt → List Access
done_by attempts = flat_map (λ a. a.accesses.items) attempts

-- the attempts write exactly those initial words of a system with this number of blocks that are
-- not 0, and do nothing else
-- Not said: the number of attempts.
pub record Lays (blocks : ℕ) (laid : List TracedAttempt) : Type 0 where
  pub words : List ℕ
  pub heap : IsSpreadHeap words blocks
  pub before_all : All (λ a. IsLaidFirst a) laid
  pub writes : done_by laid ≡ writes_from 0 words
