use Rattle.std.proofs.Common.{◌≤◌, ◌<◌, ◌^◌, refl, rules, inl}
use Rattle.judge_calls.specs.CallText.{answered_call}
use Rattle.judge_calls.proofs.laws.an_answered_call_is_read.Goals as goal

pub returns : goal.returns
returns c =
    let a = c.args in
    let client : a.client ≤ 4294967295 = search rules in
    let begin : a.begin < 2 ^ 64 = search rules in
    let end : a.end < 2 ^ 64 = search rules in
    c.call_texts_are_read.ensures (answered_call a.client a.begin a.end a.task.now a.reply.now) (inl (
      a.reply.now,
      record {
        client = client;
        begin = begin;
        end = end;
        task = c.requires.in_range;
        line = c.requires.fits;
        numbers = c.numbers_of_a_reply.ensures;
        reply = refl;
      },
    ))
