use Rattle.load_tasks.proofs.Sending.{part_rest, none_of_tasks}
use Rattle.load_tasks.proofs.worklist.write_tasks.Goals as goal

pub returns-then-not-is_in_range-clause-err : goal.returns-then-not-is_in_range-clause-err
returns-then-not-is_in_range-clause-err g c = none_of_tasks c.args.settings.now _

pub returns-clause-err : goal.returns-clause-err
returns-clause-err g c = part_rest c.args.settings.now _ _ _ _ c.in_ok-send_all.ensures.ok
    (rw c.as_slice.ensures.value at c.in-Err.ensures.err)
