use Rattle.std.proofs.Common.{rules, ◌<◌, arith}
use Rattle.stm_attempt.proofs.reading.read_under.Goals as goal

pub returns-then-first-newest-clause-conflict : goal.returns-then-first-newest-clause-conflict
returns-then-first-newest-clause-conflict g c =
    let less : c.args.client.now.value.attempt.rv < c.in-Some.version =
    omega (arith, c.requires.ready.compared, c.in-Some.ensures.free, c.if-first-newest.true) in
    record {
      shown = rw c.newer.ensures (rw c.requires.version (search rules));
      reads = search rules;
      steps = search rules;
    }
