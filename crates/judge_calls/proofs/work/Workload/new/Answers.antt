use Rattle.std.proofs.Common.{ap, ◌∙◌}
use Rattle.std.specs.Ordering.{nat_cmp}
use Rattle.std.specs.FinMap.{get, get-empty}
use Rattle.judge_calls.specs.Holding.{tasks_listed}
use Rattle.judge_calls.proofs.work.Workload.new.Goals as goal

pub returns : goal.returns
returns c = record {
  clients = c.new.ensures.items;
  tasks = λ k. ap tasks_listed (ap (λ m. get m k) c.new-2.ensures ∙ get-empty nat_cmp k);
}
