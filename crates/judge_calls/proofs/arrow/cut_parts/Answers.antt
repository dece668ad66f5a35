use Rattle.std.proofs.Common.{◌≡◌, None, rules}
use Rattle.judge_calls.specs.Call.{call_parts}
use Rattle.judge_calls.proofs.Arrows.{few_one, few_two, few_three, four_words}
use Rattle.judge_calls.proofs.arrow.cut_parts.Goals as goal

pub returns-in_err-client : goal.returns-in_err-client
returns-in_err-client c =
    let none : call_parts c.args.line.now ≡ None = few_one _ _ _ c.in_ok-claim.ensures c.in_err-client.ensures in
    search (rules, none)

pub returns-in_err-begin : goal.returns-in_err-begin
returns-in_err-begin c =
    let client = c.in_ok-client.ensures in
    let none : call_parts c.args.line.now ≡ None = few_two _ _ _ _ _ c.in_ok-claim.ensures client.0 client.1
    c.in_err-begin.ensures in
    search (rules, none)

pub returns-in_err-end : goal.returns-in_err-end
returns-in_err-end c =
    let client = c.in_ok-client.ensures in
    let begin = c.in_ok-begin.ensures in
    let none : call_parts c.args.line.now ≡ None = few_three _ _ _ _ _ _ _ c.in_ok-claim.ensures client.0 client.1
    begin.0 begin.1 c.in_err-end.ensures in
    search (rules, none)

pub returns : goal.returns
returns c =
    let client = c.in_ok-client.ensures in
    let begin = c.in_ok-begin.ensures in
    let end = c.in_ok-end.ensures in
    four_words _ _ _ _ _ _ _ _ _ c.in_ok-claim.ensures client.0 client.1 begin.0 begin.1 end.0 end.1
