use Rattle.std.proofs.Common.{length, ◌-◌}
use Rattle.judge_kv.proofs.Clauses.{HasClauses}
use Rattle.judge_kv.proofs.store_words.read_clauses.Given as goal

abbrev pub invariant-clauses : goal.invariant-clauses
invariant-clauses l = HasClauses l.words l.clauses.items l.place

abbrev pub decreases-clauses : goal.decreases-clauses
decreases-clauses l = length l.words - l.place
