use Rattle.std.proofs.Common.{◌≤◌, ◌<◌, ◌^◌, refl, rules, inl, inr}
use Rattle.judge_calls.specs.CallText.{undetermined}
use Rattle.judge_calls.proofs.laws.an_undetermined_call_is_read.Goals as goal

pub returns : goal.returns
returns c =
    let a = c.args in
    let client : a.client ≤ 4294967295 = search rules in
    let begin : a.begin < 2 ^ 64 = search rules in
    c.call_texts_are_read.ensures (undetermined a.client a.begin a.task.now a.reply.now) (inr (inl (
      a.reply.now,
      record {
        client = client;
        begin = begin;
        end = refl;
        task = c.requires.in_range;
        line = c.requires.fits;
        numbers = c.numbers_of_a_reply.ensures;
        reply = refl;
      },
    )))
