use Rattle.std.proofs.Common.{sym, subst}
use Rattle.judge_object.specs.Orders.{IsLinearizable, IsMerge}
use Rattle.judge_search.specs.Calls.{calls_of}
use Rattle.judge_search.specs.Configurations.{start}
use Rattle.judge_search.specs.Searching.{IsUndecided}
use Rattle.judge_search.specs.Judging.{calls_at, IsFoundIn, IsFoundOfCalls}
use Rattle.judge_search.specs.Point.{point_at}
use Rattle.judge_search.proofs.Judged.{whole_kept, order_given, none_given, found_in}
use Rattle.judge_snapshot.specs.Trimmed.{trimmed}
use Rattle.judge_snapshot.proofs.Verdicts.{whole_commits, isolated, isolated_only}
use Rattle.judge_snapshot.proofs.judging.judge_snapshots.Goals as goal

pub find_linearization-requires : goal.find_linearization-requires
find_linearization-requires g c =
    let commits = c.in_ok-commits.commits.items in
    let whole = whole_commits c.args.lines.items commits c.in_ok-commits.ensures c.requires.whole in
    record {
      whole = whole_kept (trimmed g.M.Object.rules g.M.WriteSetObject.write_sets) (calls_of commits)
          (calls_of c.in_ok-calls.calls.lines.items) (c.in_ok-calls.ensures.merges whole.turn) whole;
    }

pub returns-in-Order : goal.returns-in-Order
returns-in-Order g c =
    let X = g.M.Object.rules in
    let V = g.M.WriteSetObject.write_sets in
    let Y = trimmed X V in
    let commits = c.in_ok-commits.commits.items in
    let whole = whole_commits c.args.lines.items commits c.in_ok-commits.ensures c.requires.whole in
    let s = c.in_ok-start.start in
    let calls = c.in_ok-calls.calls in
    let kept = calls_of calls.lines.items in
    let found = c.in_ok-finding.field-0 in
    let in_all : IsFoundIn Y (point_at Y calls) s kept c.args.steps found = c.in_ok-finding.ensures in
    let is = subst (IsFoundOfCalls Y (point_at Y calls) s kept c.args.steps) c.in-Order.is
    (found_in Y (point_at Y calls) s kept c.args.steps found in_all) in
    let order : IsLinearizable Y s (calls_of commits) = record {
      order = calls_at Y kept c.in-Order.field-0.items;
      orders = order_given Y (calls_of commits) kept (calls_at Y kept c.in-Order.field-0.items)
          (c.in_ok-calls.ensures.merges whole.turn) is.orders;
      linearization = is.linearization;
    } in
    isolated X V (g.met.M.WriteSetObject.laws) c.args.first c.args.lines.items commits c.in_ok-commits.ensures
    (subst (λ t. IsLinearizable Y t (calls_of commits)) c.in_ok-start.ensures order)

pub returns-in-NoOrder : goal.returns-in-NoOrder
returns-in-NoOrder g c = λ h.
    let X = g.M.Object.rules in
    let V = g.M.WriteSetObject.write_sets in
    let Y = trimmed X V in
    let commits = c.in_ok-commits.commits.items in
    let whole = whole_commits c.args.lines.items commits c.in_ok-commits.ensures c.requires.whole in
    let s = c.in_ok-start.start in
    let calls = c.in_ok-calls.calls in
    let kept = calls_of calls.lines.items in
    let found = c.in_ok-finding.field-0 in
    let in_all : IsFoundIn Y (point_at Y calls) s kept c.args.steps found = c.in_ok-finding.ensures in
    let is = subst (IsFoundOfCalls Y (point_at Y calls) s kept c.args.steps) c.in-NoOrder.is
    (found_in Y (point_at Y calls) s kept c.args.steps found in_all) in
    none_given Y s (calls_of commits) kept (c.in_ok-calls.ensures.merges whole.turn) is.none
    (subst (λ t. IsLinearizable Y t (calls_of commits)) (sym c.in_ok-start.ensures)
    (isolated_only X V (g.met.M.WriteSetObject.laws) c.args.first c.args.lines.items commits c.in_ok-commits.ensures h))

pub returns : goal.returns
returns g c =
    let X = g.M.Object.rules in
    let V = g.M.WriteSetObject.write_sets in
    let Y = trimmed X V in
    let a = c.in_ok-commits.ensures in
    let commits = c.in_ok-commits.commits.items in
    let whole = whole_commits c.args.lines.items commits a c.requires.whole in
    let s = c.in_ok-start.start in
    let calls = c.in_ok-calls.calls in
    let kept = calls_of calls.lines.items in
    let found = c.in_ok-finding.field-0 in
    let in_all : IsFoundIn Y (point_at Y calls) s kept c.args.steps found = c.in_ok-finding.ensures in
    let is = subst (IsFoundOfCalls Y (point_at Y calls) s kept c.args.steps) c.in-Unknown.is
    (found_in Y (point_at Y calls) s kept c.args.steps found in_all) in
    record {
      claims = a.claims;
      are = a.calls;
      kept = kept;
      merges = subst (λ l. IsMerge l kept) a.are (c.in_ok-calls.ensures.merges whole.turn);
      most = c.in-Unknown.field-0;
      undecided = subst (λ t. IsUndecided Y (start t kept) c.args.steps c.in-Unknown.field-0) c.in_ok-start.ensures is;
    }
