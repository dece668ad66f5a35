use Rattle.std.proofs.Common.{◌≡◌, ◌+◌, rules}
use Rattle.judge_calls.specs.Parts.{shown_call}
use Rattle.judge_calls.proofs.Handed.{count_more}
use Rattle.judge_calls.proofs.holding.CallCounts.count.Goals as goal

pub returns-clause-counts : goal.returns-clause-counts
returns-clause-counts c =
    let more : c.in_ok-count.count ≡ c.args.self.now.count + 1 = search rules in
    count_more c.args.self.now (record { clients = c.insert.new.self; count = c.in_ok-count.count })
    (shown_call c.args.call.now) c.args.so_far c.in_ok-next.next
    c.in_ok-insert.ensures c.in_ok-next.ensures.made c.in_ok-next.ensures.stopped more
