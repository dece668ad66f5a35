use Rattle.std.proofs.Common.{◌-◌, ◌/◌, sym, ◌∙◌, subst, arith}
use Rattle.vac_model.specs.State.{empty_state}
use Rattle.judge_reservations.specs.Reserving.{reserving}
use Rattle.judge_search.specs.Calls.{calls_of}
use Rattle.judge_search.specs.Judging.{IsFoundIn}
use Rattle.judge_search.specs.Point.{point_at}
use Rattle.judge_linear.specs.Judged.{IsJudged, IsOrder}
use Rattle.judge_linear.specs.Relaxed.{AreRelaxedCalls}
use Rattle.judge_linear.proofs.Below.{given_whole, first_found, below_whole, below_judged, at_below}
use Rattle.judge_linear.proofs.order.judge_below.Goals as goal

pub find_whole-requires : goal.find_whole-requires
find_whole-requires g c = record {
  whole = given_whole c.args.history c.in_ok-calls.calls c.requires.held c.in_ok-calls.ensures.merges;
}

pub returns-in-Order : goal.returns-in-Order
returns-in-Order g c =
    let how = c.args.how in
    let calls = c.in_ok-calls.calls in
    let given = c.in_ok-calls.ensures in
    let found = c.in_ok-found.found in
    let is = subst (λ s. IsFoundIn reserving (point_at reserving calls) s (calls_of calls.lines.items) (how.steps / 2)
    found) (c.in_ok-copy.ensures ∙ c.in_ok-machine.ensures) c.in_ok-found.ensures in
    at_below how.level (empty_state how.blocks) c.args.history.lines.items how.steps _ c.requires.below
    (first_found how.level how.blocks how.steps (how.steps / 2) c.args.history c.requires.held calls given.same
    given.merges found is (omega arith) (subst IsOrder (sym c.in-Order.is) tt))

pub judge_order-requires : goal.judge_order-requires
judge_order-requires g c =
    let how = c.args.how in
    let calls = c.in_ok-calls.calls in
    let given = c.in_ok-calls.ensures in
    let found = c.in_ok-found.found in
    let is = subst (λ s. IsFoundIn reserving (point_at reserving calls) s (calls_of calls.lines.items) (how.steps / 2)
    found) (c.in_ok-copy.ensures ∙ c.in_ok-machine.ensures) c.in_ok-found.ensures in
    let relaxed = subst (λ ls. AreRelaxedCalls how.level ls c.in_ok-relaxed.relaxed) c.as_slice.ensures
    c.in_ok-relaxed.ensures in
    record {
      whole = below_whole how.level how.blocks how.steps (how.steps / 2) c.args.history c.requires.held calls given.same
          given.merges found is (omega arith) c.requires.below c.in_ok-relaxed.relaxed relaxed;
    }

pub returns : goal.returns
returns g c =
    let how = c.args.how in
    let calls = c.in_ok-calls.calls in
    let given = c.in_ok-calls.ensures in
    let found = c.in_ok-found.found in
    let is = subst (λ s. IsFoundIn reserving (point_at reserving calls) s (calls_of calls.lines.items) (how.steps / 2)
    found) (c.in_ok-copy.ensures ∙ c.in_ok-machine.ensures) c.in_ok-found.ensures in
    let others = c.in_ok-relaxed.relaxed in
    let relaxed = subst (λ ls. AreRelaxedCalls how.level ls others) c.as_slice.ensures c.in_ok-relaxed.ensures in
    at_below how.level (empty_state how.blocks) c.args.history.lines.items how.steps _ c.requires.below
    (below_judged how.level how.blocks how.steps (how.steps / 2) c.args.history c.requires.held calls given.same
    given.merges found is (omega arith) c.requires.below others relaxed c.in_ok-judged.judged
    (subst (λ s. IsJudged s others (how.steps - found.steps) c.in_ok-judged.judged) c.in_ok-machine.ensures
    c.in_ok-judged.ensures))
