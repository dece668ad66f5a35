use Rattle.std.proofs.Common.{◌≡◌, ◌+◌, ◌∙◌, false, sym, rules}
use Rattle.judge_calls.specs.Parts.{shown_call}
use Rattle.judge_calls.proofs.Handed.{IsTaken, held_foreign}
use Rattle.judge_calls.proofs.holding.check_calls.Goals as goal

pub returns-then-not-branch-clause-line : goal.returns-then-not-branch-clause-line
returns-then-not-branch-clause-line c =
    let at = c.loop-line in
    let more : c.in_ok-number.number ≡ at.held.count + 1 = search rules in
    let other : IsTaken c.args.work.now at.held (shown_call c.in-Ok.call) false =
    λ asked calls w h. sym c.if-not-branch.true ∙ c.in_ok-take.ensures.next asked calls w h in
    held_foreign c.args.work.now at.held c.in_ok-number.number _ at.rest.now c.in-Some.line.now c.in-Some.behind.now
    (shown_call c.in-Ok.call) at.invariant
    c.in-Some.ensures.lines c.in-Ok.ensures.call other more
