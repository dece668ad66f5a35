-- The states in which objects begin.
use Rattle.std.specs.Prelude.{ℕ, List, unwrap_or}
use Rattle.std.specs.Ordering.{nat_cmp}
use Rattle.std.specs.Cmp.Lexicographic.{slice_cmp}
use Rattle.std.specs.BTreeMap.{get_by}
use Rattle.judge_text.specs.declared.starts.Starts.{Starts}

-- the state in which the object of a name begins: its own, or that of all other objects
abbrev pub start_of : {S : Type 0} → Starts S → List ℕ → S
start_of starts name =
    unwrap_or (get_by (λ key. slice_cmp nat_cmp name key.items) starts.own) starts.others
