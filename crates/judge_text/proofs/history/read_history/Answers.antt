use Rattle.std.proofs.Common.{◌≡◌, ◌+◌, ◌<◌, length, Err, sym, ap, ◌∙◌, subst, arith}
use Rattle.std.proofs.lemmas.Bool.Decides.{nat_tests}
use Rattle.judge_search.specs.Calls.{calls_of}
use Rattle.judge_text.specs.Lines.{line_call}
use Rattle.judge_text.specs.Reading.{IsReadLine, text_calls, AreNumbered}
use Rattle.std.specs.Prelude.{Ok}
use Rattle.judge_text.proofs.Histories.{HasReadTo, cut_read, cut_fault, last_read, last_fault}
use Rattle.judge_text.proofs.history.read_history.Goals as goal

pub returns-in-Err : goal.returns-in-Err
returns-in-Err g c =
    let rules = g.M.Object.rules in
    let language = g.M.TextObject.language in
    let bad = subst (IsReadLine (line_call rules language c.in-Some.line.now) (c.len.result + 1)) c.in-Err.is
    c.in_ok-call.ensures in
    let n = c.len.ensures in
    let same : length c.lines.lines.items ≡ c.len.result = omega arith in
    cut_fault rules language c.args.text.now c.in-Some.line.now c.lines.lines.items c.in-Err.fault c.lines.rest.now
    c.in-Some.behind.now c.lines.invariant c.in-Some.ensures.0 c.in-Some.ensures.1 bad
    ∙ ap (λ k. Err (k + 1, c.in-Err.fault)) same

pub lines-preserved : goal.lines-preserved
lines-preserved g c =
    let rules = g.M.Object.rules in
    let language = g.M.TextObject.language in
    let read = subst (IsReadLine (line_call rules language c.in-Some.line.now) (c.len.result + 1)) c.in-Ok.is
    c.in_ok-call.ensures in
    let n = c.len.ensures in
    let same : c.len.result + 1 ≡ length c.lines.lines.items + 1 = omega arith in
    subst (λ ls. HasReadTo rules language c.args.text.now ls c.in-Some.behind.now)
    (sym c.in_ok-push-in-Ok.ensures.items)
    (cut_read rules language c.args.text.now c.in-Some.line.now c.lines.lines.items c.in-Ok.call c.lines.rest.now
    c.in-Some.behind.now c.lines.invariant c.in-Some.ensures.0 c.in-Some.ensures.1 read.0 (read.1 ∙ same))

pub returns-in_ok-push-in-Ok-2 : goal.returns-in_ok-push-in-Ok-2
returns-in_ok-push-in-Ok-2 g c =
    let rules = g.M.Object.rules in
    let language = g.M.TextObject.language in
    let read = subst (IsReadLine (line_call rules language c.lines.rest.now) (c.len-2.result + 1)) c.in-Ok-2.is
    c.in_ok-call-2.ensures
    in
    let n = c.len-2.ensures in
    let same : c.len-2.result + 1 ≡ length c.lines.lines.items + 1 = omega arith in
    let e = c.is_empty.ensures in
    let f = c.if-is_empty.false in
    let some : 0 < length c.lines.rest.now = grind (arith, nat_tests) in
    subst (λ ls. (text_calls rules language c.args.text.now ≡ Ok (calls_of ls)) × AreNumbered 1 ls)
    (sym c.in_ok-push-in-Ok-2.ensures.items)
    (last_read rules language c.args.text.now c.lines.lines.items c.in-Ok-2.call c.lines.rest.now c.lines.invariant
    c.in_default.ensures some read.0 (read.1 ∙ same))

pub returns-in-Err-2 : goal.returns-in-Err-2
returns-in-Err-2 g c =
    let rules = g.M.Object.rules in
    let language = g.M.TextObject.language in
    let bad = subst (IsReadLine (line_call rules language c.lines.rest.now) (c.len-2.result + 1)) c.in-Err-2.is
    c.in_ok-call-2.ensures
    in
    let n = c.len-2.ensures in
    let same : length c.lines.lines.items ≡ c.len-2.result = omega arith in
    let e = c.is_empty.ensures in
    let f = c.if-is_empty.false in
    let some : 0 < length c.lines.rest.now = grind (arith, nat_tests) in
    last_fault rules language c.args.text.now c.lines.lines.items c.in-Err-2.fault c.lines.rest.now c.lines.invariant
    c.in_default.ensures some bad
    ∙ ap (λ k. Err (k + 1, c.in-Err-2.fault)) same
