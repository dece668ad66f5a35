-- Lines in another order.
use Rattle.std.specs.Prelude.{◌≡◌, List, IsPermutation}
use Rattle.judge_object.specs.declared.line.Line.{Line}
use Rattle.judge_search.specs.Calls.{soonest_of}

-- these are the lines in another order, each of which names the moment from which on it and those
-- after it begin that are completed as it is, or pending as it is
abbrev pub AreSortOf : {O : Type 0} → List (Line O) → List (Line O) → Type 0
AreSortOf {O} lines sorted =
    (items : List (Line O)) × IsPermutation lines items × (sorted ≡ soonest_of items)
