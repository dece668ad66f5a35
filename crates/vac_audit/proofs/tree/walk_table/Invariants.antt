use Rattle.std.proofs.Common.{◌+◌, ◌*◌}
use Rattle.vac_audit.specs.Marks.{unmarked}
use Rattle.vac_audit.proofs.Standing.{TreeGoes, weight, turn_weight}
use Rattle.vac_audit.proofs.tree.walk_table.Given as goal

abbrev pub invariant-walk : goal.invariant-walk
invariant-walk l = TreeGoes l.words l.initial.reached.items l.initial.notes l.table l.root l.reached.items l.notes
    l.path.items l.turn l.above l.nodes

abbrev pub decreases-walk : goal.decreases-walk
decreases-walk l = 4 * unmarked l.reached.items + weight l.path.items + turn_weight l.turn
