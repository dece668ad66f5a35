use Rattle.std.proofs.Common.{◌≤◌, take}
use Rattle.judge_text.specs.Classes.{AreWellFormed}
use Rattle.judge_kv.specs.Classes.{AreKeysJoined}
use Rattle.judge_kv.proofs.Joining.{clause_keys}
use Rattle.judge_kv.proofs.objects.join_clauses.Given as goal

abbrev pub invariant-clauses : goal.invariant-clauses
invariant-clauses l =
    AreWellFormed l.classes × AreKeysJoined (clause_keys (take l.place l.clauses)) l.fn.classes l.classes ×
    (1 ≤ l.place)
