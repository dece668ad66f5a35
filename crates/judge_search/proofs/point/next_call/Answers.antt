use Rattle.std.proofs.Common.{◌≡◌, length, ap, subst, arith}
use Rattle.judge_search.specs.Marks.{is_made}
use Rattle.judge_search.specs.Calls.{calls_of, TellsTryBefore}
use Rattle.judge_search.proofs.Sorted.{length_calls}
use Rattle.judge_search.proofs.Points.{tries_made_all, tries_start, try_completed, try_pending}
use Rattle.judge_search.proofs.point.next_call.Goals as goal

pub returns-then-first-count-clause-next : goal.returns-then-first-count-clause-next
returns-then-first-count-clause-next g c =
    let lines = c.args.calls.now.lines.items in
    let long = length_calls (g.M.Object.rules) lines in
    let same : length c.as_slice-count.result.now ≡ length lines = ap length c.as_slice-count.ensures in
    tries_made_all (g.M.Object.rules) (is_made c.args.low c.args.beyond.now) (calls_of lines) c.args.from
    (λ p l. c.first_left-first.ensures.below p (omega arith))

pub returns-in-Some-clause-next : goal.returns-in-Some-clause-next
returns-in-Some-clause-next g c =
    let calls = calls_of c.args.calls.now.lines.items in
    let made = is_made c.args.low c.args.beyond.now in
    try_completed (g.M.Object.rules) made calls c.args.from c.later_of-start.result c.completed-completed.result
    c.next_between.result c.in-Some.place c.in-Some.is
    (tries_start (g.M.Object.rules) made calls c.args.from c.first_left-first.result c.later_of-start.result
    c.first_left-first.ensures.below c.later_of-start.ensures.either)
    c.next_between.ensures.next

pub returns-in-None-clause-next : goal.returns-in-None-clause-next
returns-in-None-clause-next g c =
    let lines = c.args.calls.now.lines.items in
    let calls = calls_of lines in
    let made = is_made c.args.low c.args.beyond.now in
    let long = length_calls (g.M.Object.rules) lines in
    let same : length c.as_slice-count.result.now ≡ length lines = ap length c.as_slice-count.ensures in
    try_pending (g.M.Object.rules) made calls c.args.from c.later_of-start.result c.completed-completed.result
    c.later_of-pending.result c.next_between.result c.next_between-in-None.result c.in-None.is
    (tries_start (g.M.Object.rules) made calls c.args.from c.first_left-first.result c.later_of-start.result
    c.first_left-first.ensures.below c.later_of-start.ensures.either)
    c.next_between.ensures.next c.later_of-pending.ensures.either
    (subst (λ n. TellsTryBefore (g.M.Object.rules) made calls c.later_of-pending.result n c.next_between-in-None.result)
    (let e : _ ≡ length calls = omega arith in e) c.next_between-in-None.ensures.next)
