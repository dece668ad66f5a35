use Rattle.std.proofs.Common.{take}
use Rattle.judge_search.specs.Calls.{calls_of}
use Rattle.judge_text.proofs.Ends.{AreHeld}
use Rattle.judge_text.proofs.turns.find_turns.Given as goal

abbrev pub invariant-lines : goal.invariant-lines
invariant-lines g l = AreHeld l.ends (calls_of (take l.place l.lines)) l.is_strict
