use Rattle.std.proofs.Common.{◌≡◌, vec_len}
use Rattle.load_run.proofs.slots.no_recorders.Given as goal

abbrev pub invariant-loop-number : goal.invariant-loop-number
invariant-loop-number l = vec_len l.clients ≡ l.number
