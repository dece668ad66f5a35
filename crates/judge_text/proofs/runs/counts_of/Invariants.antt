use Rattle.std.proofs.Common.{◌≡◌, length}
use Rattle.judge_text.proofs.runs.counts_of.Given as goal

abbrev pub invariant-numbers : goal.invariant-numbers
invariant-numbers l = length l.counts.items ≡ l.count
