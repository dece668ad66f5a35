use Rattle.std.proofs.Common.{subst}
use Rattle.judge_search.specs.Marks.{is_made}
use Rattle.judge_search.specs.Calls.{calls_of, TellsTry}
use Rattle.judge_search.proofs.Points.{told_next}
use Rattle.judge_search.proofs.point.Point.next_try.Goals as goal

pub returns-clause-next : goal.returns-clause-next
returns-clause-next g c =
    let self = c.args.self.now in
    let calls = c.args.calls.now in
    told_next (g.M.Object.rules) calls self c.args.from c.next_call.result
    (subst (λ b. TellsTry (g.M.Object.rules) (is_made self.low b)
    (calls_of calls.lines.items) c.args.from c.next_call.result)
    c.as_slice.ensures.value c.next_call.ensures.next)
    c.next_call.ensures.small

pub returns-clause-after : goal.returns-clause-after
returns-clause-after g c = c.next_call.ensures.after
