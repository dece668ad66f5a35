-- The statements of the audit's laws: the audit meets no flaw exactly if the words represent a
-- balanced state, and then its report is the report of that state.
use Rattle.std.specs.Prelude.{◌≡◌, ℕ, ◌<◌, ◌≤◌, Ok, Err}
use Rattle.tx_alloc.specs.Pool.{heap_words}
use Rattle.vac_model.specs.declared.limits.TheConstants.{MOST_BLOCKS}
use Rattle.vac_model.specs.declared.replies.Report.{Report}
use Rattle.vac_model.specs.State.{State, report}
use Rattle.vac_records.specs.Represents.{IsState}
use Rattle.vac_audit.specs.Walk.{walk_by, walk, audit}
use Rattle.vac_audit.specs.declared.Flaw.{Flaw}
use Rattle.vac_audit.specs.declared.Flaw.TheVariants.{Pointer, Shared, Lost, Order, Colour, Counts, Bookings}

-- the memory represents a balanced state with this report
pub record StateWith (m : ℕ → ℕ) (blocks : ℕ) (found : Report) : Type 0 where
  pub state : State
  pub represented : IsState m (heap_words blocks) state
  pub report_is : report state ≡ found

-- words without a flaw represent a balanced state, and the audit's report is the report of that
-- state
abbrev pub StateFound : Type 0
StateFound = (m : ℕ → ℕ) (blocks : ℕ) (found : Report) → blocks ≤ MOST_BLOCKS →
    audit m blocks ≡ Ok found → StateWith m blocks found

-- words that represent a balanced state have no flaw, and the audit's report is the report of that
-- state
abbrev pub StateClean : Type 0
StateClean = (m : ℕ → ℕ) (blocks : ℕ) (state : State) → IsState m (heap_words blocks) state →
    audit m blocks ≡ Ok (report state)

-- words with a flaw represent no balanced state
abbrev pub FlawedIsNone : Type 0
FlawedIsNone = (m : ℕ → ℕ) (blocks : ℕ) (flaw : Flaw) → audit m blocks ≡ Err flaw →
    (state : State) → IsState m (heap_words blocks) state → ⊥

-- a walk never runs out of levels: with more levels than blocks, its result does not depend on
-- their number
abbrev pub EnoughLevels : Type 0
EnoughLevels = (m : ℕ → ℕ) (blocks levels : ℕ) → blocks < levels →
    walk_by m blocks levels ≡ walk m blocks

-- the word at which a flaw was met
abbrev pub word_of : Flaw → ℕ
word_of (Pointer a) = a
word_of (Shared a) = a
word_of (Lost a) = a
word_of (Order a) = a
word_of (Colour a) = a
word_of (Counts a) = a
word_of (Bookings a) = a

-- every flaw is met at a word of the heap
abbrev pub FlawInside : Type 0
FlawInside = (m : ℕ → ℕ) (blocks : ℕ) (flaw : Flaw) → audit m blocks ≡ Err flaw →
    word_of flaw < heap_words blocks
