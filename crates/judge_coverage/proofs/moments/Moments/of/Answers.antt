use Rattle.std.proofs.Common.{ap, ◌∙◌}
use Rattle.judge_coverage.specs.Moments.{number_up_to}
use Rattle.judge_coverage.proofs.moments.Moments.of.Goals as goal

pub returns : goal.returns
returns c = record {
  begins_ascend = c.in_ok-sorted.ensures.ascending;
  ends_ascend = c.in_ok-sorted-2.ensures.ascending;
  begins = λ key. c.in_ok-sorted.ensures.same key ∙ ap (number_up_to key) c.in_ok-begin_keys.ensures;
  ends = λ key. c.in_ok-sorted-2.ensures.same key ∙ ap (number_up_to key) c.in_ok-end_keys.ensures;
}
