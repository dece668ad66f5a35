use Rattle.std.proofs.Common.{length, ◌-◌}
use Rattle.judge_text.proofs.Quotes.{IsReadTo}
use Rattle.judge_text.proofs.quoting.read_escaped.Given as goal

abbrev pub invariant-bytes : goal.invariant-bytes
invariant-bytes l = IsReadTo l.text l.at l.bytes.items

abbrev pub decreases-bytes : goal.decreases-bytes
decreases-bytes l = length l.text - l.at
