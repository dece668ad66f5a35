use Rattle.std.proofs.Common.{◌≤◌, ◌<◌, ◌^◌, refl, rules, inr}
use Rattle.judge_calls.specs.CallText.{unanswered}
use Rattle.judge_calls.proofs.laws.a_call_never_answered_is_read.Goals as goal

pub returns : goal.returns
returns c =
    let a = c.args in
    let client : a.client ≤ 4294967295 = search rules in
    let begin : a.begin < 2 ^ 64 = search rules in
    c.call_texts_are_read.ensures (unanswered a.client a.begin a.task.now) (inr (inr (record {
      client = client;
      begin = begin;
      end = refl;
      task = c.requires.in_range;
      line = c.requires.fits;
      reply = refl;
    })))
