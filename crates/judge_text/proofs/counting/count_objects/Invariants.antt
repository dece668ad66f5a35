use Rattle.std.proofs.Common.{map, take}
use Rattle.judge_text.specs.Classing.{object_of, for_object}
use Rattle.judge_text.proofs.Counted.{HasNames}
use Rattle.judge_text.proofs.counting.count_objects.Given as goal

-- the set has the names of the objects of the lines before
abbrev pub invariant-lines : goal.invariant-lines
invariant-lines g l = HasNames l.objects (map (λ line. for_object (object_of l.names) g.M.Named.name line.op)
    (take l.place l.lines))
