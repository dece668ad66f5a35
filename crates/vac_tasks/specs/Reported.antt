-- The report of the state that a memory holds.
use Rattle.std.specs.Prelude.{◌≡◌, ℕ, List, length}
use Rattle.tx_memory.specs.View.{View, Sees}
use Rattle.vac_model.specs.declared.replies.Report.{Report}
use Rattle.vac_model.specs.State.{State, report}
use Rattle.vac_records.specs.Items.{mem}
use Rattle.vac_records.specs.Represents.{IsState}
use Rattle.vac_records.specs.InMemory.{OnlyRead}

-- only reads were made, and under each possible image the result is the report of the state
-- Not said: the cost. A walk over a table reads the links of each node once, so the reads of a
-- report grow in proportion to the entries.
pub record Reported (s s' : View) (r : Report) : Type 0 where
  pub reads : OnlyRead s s'
  pub is : (image : List ℕ) (state : State) → Sees s' image →
      IsState (mem s image) (length image) state → report state ≡ r
