use Rattle.std.proofs.Common.{arith}
use Rattle.judge_kv.proofs.Places.{without_all}
use Rattle.judge_kv.proofs.entries.take_out.Goals as goal

pub returns : goal.returns
returns c =
    let end = c.entries-test.false in
    let same = c.len.ensures in
    without_all c.args.key.now c.args.entries.now.items c.entries.entries.items c.entries.place (omega arith)
    c.entries.invariant
