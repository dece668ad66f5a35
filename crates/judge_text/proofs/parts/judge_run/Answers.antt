use Rattle.std.proofs.Common.{sym, subst}
use Rattle.judge_search.specs.Calls.{calls_of}
use Rattle.judge_search.specs.Judging.{calls_at, IsFoundIn, IsFoundOfCalls}
use Rattle.judge_search.specs.Point.{point_at}
use Rattle.judge_search.specs.Walking.{IsUnknown}
use Rattle.judge_search.proofs.Judged.{whole_kept, order_given, none_given, found_in}
use Rattle.judge_search.proofs.Clients.{turn_order}
use Rattle.judge_text.proofs.Blocking.{blocked_there}
use Rattle.judge_text.proofs.parts.judge_run.Goals as goal

pub find_linearization-requires : goal.find_linearization-requires
find_linearization-requires g c = record {
  whole = whole_kept (g.M.Object.rules) (calls_of c.args.run.items) (calls_of c.in_ok-calls.calls.lines.items)
      (c.in_ok-calls.ensures.merges c.requires.whole.turn) c.requires.whole;
}

pub returns-in-Order : goal.returns-in-Order
returns-in-Order g c =
    let rules = g.M.Object.rules in
    let s = c.args.machine in
    let calls = c.in_ok-calls.calls in
    let kept = calls_of calls.lines.items in
    let found = c.in_ok-finding.field-0 in
    let merges = c.in_ok-calls.ensures.merges c.requires.whole.turn in
    let in_all : IsFoundIn rules (point_at rules calls) s kept c.args.steps found = c.in_ok-finding.ensures in
    let is = subst (IsFoundOfCalls rules (point_at rules calls) s kept c.args.steps) c.in-Order.is
    (found_in rules (point_at rules calls) s kept c.args.steps found in_all) in
    record {
      within = in_all.within;
      run = record { kept = calls.lines.items; sorted = c.in_ok-calls.ensures.same; run = in_all.run };
      judges = record {
        order = calls_at rules kept c.in-Order.field-0.items;
        orders = order_given rules (calls_of c.args.run.items) kept
            (calls_at rules kept c.in-Order.field-0.items) merges
            is.orders;
        linearization = is.linearization;
      };
      spent = λ none. absurd none;
    }

pub returns-in-NoOrder : goal.returns-in-NoOrder
returns-in-NoOrder g c =
    let rules = g.M.Object.rules in
    let s = c.args.machine in
    let calls = c.in_ok-calls.calls in
    let kept = calls_of calls.lines.items in
    let found = c.in_ok-finding.field-0 in
    let merges = c.in_ok-calls.ensures.merges c.requires.whole.turn in
    let in_all : IsFoundIn rules (point_at rules calls) s kept c.args.steps found = c.in_ok-finding.ensures in
    let is = subst (IsFoundOfCalls rules (point_at rules calls) s kept c.args.steps) c.in-NoOrder.is
    (found_in rules (point_at rules calls) s kept c.args.steps found in_all) in
    record {
      within = in_all.within;
      run = record { kept = calls.lines.items; sorted = c.in_ok-calls.ensures.same; run = in_all.run };
      judges = record {
        none = none_given rules s (calls_of c.args.run.items) kept merges is.none;
        kept = c.in_ok-calls.ensures.same;
        merges = merges;
        found = is;
        stuck = blocked_there rules s calls c.in-NoOrder.most c.in-NoOrder.point
            (turn_order (calls_of c.args.run.items) kept merges c.requires.whole.turn) is;
      };
      spent = λ none. absurd none;
    }

pub returns-in-Unknown : goal.returns-in-Unknown
returns-in-Unknown g c =
    let rules = g.M.Object.rules in
    let s = c.args.machine in
    let calls = c.in_ok-calls.calls in
    let kept = calls_of calls.lines.items in
    let found = c.in_ok-finding.field-0 in
    let merges = c.in_ok-calls.ensures.merges c.requires.whole.turn in
    let in_all : IsFoundIn rules (point_at rules calls) s kept c.args.steps found = c.in_ok-finding.ensures in
    let is = subst (IsFoundOfCalls rules (point_at rules calls) s kept c.args.steps) c.in-Unknown.is
    (found_in rules (point_at rules calls) s kept c.args.steps found in_all) in
    record {
      within = in_all.within;
      run = record { kept = calls.lines.items; sorted = c.in_ok-calls.ensures.same; run = in_all.run };
      judges = record {
        kept = c.in_ok-calls.ensures.same;
        merges = merges;
        spent = is;
      };
      spent = λ none. in_all.spent (subst IsUnknown (sym c.in-Unknown.is) tt);
    }
