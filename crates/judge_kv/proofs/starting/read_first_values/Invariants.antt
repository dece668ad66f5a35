use Rattle.std.proofs.Common.{length}
use Rattle.judge_kv.proofs.Firsts.{HasFirsts}
use Rattle.judge_kv.proofs.starting.read_first_values.Given as goal

abbrev pub invariant-lines : goal.invariant-lines
invariant-lines g l = HasFirsts l.text (g.F.StartValues.held l.firsts) l.number l.rest

abbrev pub decreases-lines : goal.decreases-lines
decreases-lines g l = length l.rest
