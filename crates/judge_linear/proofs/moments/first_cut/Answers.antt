use Rattle.std.proofs.Common.{◌<◌, ◌+◌, ◌-◌, ◌/◌, subst, arith}
use Rattle.judge_linear.specs.Moments.{EndsAt}
use Rattle.judge_linear.proofs.moments.first_cut.Goals as goal

pub ends-preserved-then-has_end : goal.ends-preserved-then-has_end
ends-preserved-then-has_end g c =
    let i = c.ends.invariant in
    let middle = c.ends.low + (c.ends.high - c.ends.low) / 2 in
    let test = c.ends-test.true in
    let less : middle < c.ends.high = omega (arith, test) in
    let within = i.within in
    record {
      within = omega (arith, less, within);
      none = record {
        ends = subst (λ ls. EndsAt ls middle c.ends.part.moment) c.as_slice-in-ends.ensures
            (c.has_end.ensures c.if-has_end.true);
        none = i.none.none;
      };
    }
