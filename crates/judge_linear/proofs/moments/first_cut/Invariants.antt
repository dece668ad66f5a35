use Rattle.std.proofs.Common.{◌<◌, ◌-◌, length}
use Rattle.judge_linear.specs.Moments.{HadNoOrderAt}
use Rattle.judge_linear.proofs.moments.first_cut.Given as goal

-- the calls had no order at the last of the ends that are left
abbrev pub invariant-ends : goal.invariant-ends
invariant-ends g l = record {
  within : l.high < length l.calls.lines.items;
  none : HadNoOrderAt l.calls.lines.items l.high l.part;
}

-- the ends between the bounds
abbrev pub decreases-ends : goal.decreases-ends
decreases-ends g l = l.high - l.low
