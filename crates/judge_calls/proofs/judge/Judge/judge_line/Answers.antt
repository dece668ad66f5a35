use Rattle.std.proofs.Common.{subst}
use Rattle.judge_calls.specs.Parts.{shown_call}
use Rattle.judge_calls.proofs.Lines.{JudgesNext, ends_wrong, takes_call}
use Rattle.judge_calls.proofs.judge.Judge.judge_line.Goals as goal

pub returns-in-Some-clause-judged : goal.returns-in-Some-clause-judged
returns-in-Some-clause-judged c =
    let before = c.args.self.now in
    let call = shown_call c.in-Ok.call in
    let judged = subst (JudgesNext before c.judge_call.new.self call) c.in-Some.is c.in_ok-wrong-in-Ok.ensures in
    ends_wrong before c.judge_call.new.self _ call c.in_ok-line.line c.in-Some.wrong c.in-Ok.ensures.call
    c.in_ok-line.ensures.line judged

pub returns-in-Ok-clause-judged : goal.returns-in-Ok-clause-judged
returns-in-Ok-clause-judged c =
    let before = c.args.self.now in
    let call = shown_call c.in-Ok.call in
    let judged = subst (JudgesNext before c.judge_call.new.self call) c.in-None.is c.in_ok-wrong-in-Ok.ensures in
    takes_call before c.judge_call.new.self _ call c.in-Ok.ensures.call judged
