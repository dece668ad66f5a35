use Rattle.std.proofs.Common.{length}
use Rattle.judge_opacity.specs.Logs.{attempts_in, AreAmong}
use Rattle.judge_opacity.proofs.Searching.{Reached}
use Rattle.judge_opacity.proofs.placing.place_all.Given as goal

-- the attempts before were placed
abbrev pub invariant-left : goal.invariant-left
invariant-left l = record {
  among : AreAmong (length l.judge.memory.words.items) l.left.items;
  reached : Reached (length l.fn.judge.memory.words.items) l.judge (attempts_in l.fn.left.items)
      (attempts_in l.left.items);
}

abbrev pub decreases-left : goal.decreases-left
decreases-left l = length l.left.items
