use Rattle.std.proofs.Common.{subst}
use Rattle.std.proofs.lemmas.Result.{IfOk-weaker}
use Rattle.judge_search.specs.Marks.{is_made}
use Rattle.judge_search.specs.Calls.{calls_of}
use Rattle.judge_search.specs.Stuck.{AreStuck}
use Rattle.judge_search.proofs.stuck.stuck_calls.Goals as goal

pub returns : goal.returns
returns g c =
    let point = c.args.point.now in
    let state = point.machine in
    IfOk-weaker c.stuck_lines.result (λ found. AreStuck (g.M.Object.rules) state
    (is_made point.low c.as_slice.result.now)
    (calls_of c.args.calls.now.lines.items) found.items)
    (λ found. AreStuck (g.M.Object.rules) state (is_made point.low point.beyond.items)
    (calls_of c.args.calls.now.lines.items) found.items)
    (λ found h.
    subst (λ b. AreStuck (g.M.Object.rules) state (is_made point.low b)
    (calls_of c.args.calls.now.lines.items) found.items)
    c.as_slice.ensures.value h)
    c.stuck_lines.ensures
