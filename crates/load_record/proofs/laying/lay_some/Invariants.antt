use Rattle.std.proofs.Common.{◌≡◌, take}
use Rattle.load_record.specs.Laying.{writes_from}
use Rattle.load_record.proofs.laying.lay_some.Given as goal

-- the words so far
abbrev pub invariant-loop-place : goal.invariant-loop-place
invariant-loop-place l = l.accesses.items ≡ writes_from l.first (take l.place l.words)
