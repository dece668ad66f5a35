use Rattle.std.proofs.lemmas.List.{take_all}
use Rattle.judge_coverage.proofs.Clients.{clients_more, clients_counted}
use Rattle.judge_coverage.proofs.coverage.count_clients.Goals as goal

pub returns : goal.returns
returns c =
    clients_counted c.args.calls.now c.len.result c.calls.place c.calls.clients c.len.ensures.len c.len.ensures.ordered
    c.calls.invariant (take_all c.calls.place c.args.calls.now c.calls-test.false)

pub calls-preserved : goal.calls-preserved
calls-preserved c =
    clients_more c.args.calls.now c.calls.place record {
      client = 0;
      begin = 0;
      end = 0;
    } c.calls.clients c.insert.new.self c.calls-test.true c.calls.invariant
    c.in_ok-insert.ensures.updates
