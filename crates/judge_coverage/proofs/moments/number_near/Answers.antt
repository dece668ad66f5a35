use Rattle.std.proofs.Common.{◌+◌, ◌-◌, ◌<◌, ◌≤◌, length, ap, ◌∙◌, arith}
use Rattle.judge_coverage.proofs.Windows.{in_window, window_short}
use Rattle.judge_coverage.proofs.moments.number_near.Goals as goal

pub returns : goal.returns
returns c =
    let start = c.min-start.result in
    let width = c.min-end.result - c.min-start.result in
    let within = c.number_up_to-within.result in
    let some : 0 < within = omega arith in
    let short : start + width ≤ length c.args.keys.now = omega arith in
    let few : within < width = omega (
      arith,
      c.number_up_to-within.ensures,
      window_short c.args.keys.now start width c.args.key c.requires short,
    ) in
    ap (λ n. start + n) c.number_up_to-within.ensures
    ∙ in_window c.args.keys.now start width c.args.key c.requires short
    (omega (arith, some, c.number_up_to-within.ensures)) (omega (arith, few, c.number_up_to-within.ensures))
