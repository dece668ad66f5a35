use Rattle.std.proofs.Common.{take}
use Rattle.judge_search.specs.Calls.{calls_of}
use Rattle.judge_text.specs.Classes.{AreWellFormed}
use Rattle.judge_kv.specs.Classes.{JoinsCalls}
use Rattle.judge_kv.proofs.objects.key_classes.Given as goal

abbrev pub invariant-lines : goal.invariant-lines
invariant-lines l = AreWellFormed l.classes × JoinsCalls (calls_of (take l.place l.lines)) l.classes
