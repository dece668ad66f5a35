use Rattle.std.proofs.Common.{◌≡◌, ◌≤◌, sym, subst, ◌∙◌, arith}
use Rattle.std.proofs.lemmas.Result.{IfOk-weaker}
use Rattle.judge_search.specs.Calls.{calls_of}
use Rattle.judge_search.specs.Walk.{IsWhole}
use Rattle.judge_search.specs.Walking.{FindsIn, IsUnknown}
use Rattle.judge_search.specs.Point.{point_at, point_views}
use Rattle.judge_search.specs.Judging.{IsFoundIn}
use Rattle.judge_search.proofs.Judged.{all_left, judges_in, more_steps}
use Rattle.judge_search.proofs.order.find_linearization.Goals as goal
use Rattle.judge_search.proofs.order.find_linearization.Goals.{then-few-steps-via-then-few-steps}
use Rattle.judge_search.proofs.order.find_linearization.Goals.{then-few-steps-via-else-few-steps+then-not-is_unknown}

pub find_order-requires : goal.find_order-requires
find_order-requires g c =
    subst IsWhole (sym (all_left (g.M.Object.rules) c.new-start.result.low c.new-start.result.beyond.items
    (calls_of c.args.calls.now.lines.items) c.new-start.ensures.low c.new-start.ensures.beyond)) c.requires.whole

pub find_order-requires-2 : goal.find_order-requires-2
find_order-requires-2 g c =
    subst IsWhole (sym (all_left (g.M.Object.rules) c.new.result.low c.new.result.beyond.items
    (calls_of c.args.calls.now.lines.items) c.new.ensures.low c.new.ensures.beyond)) c.requires.whole

pub returns-then-few-steps : goal.returns-then-few-steps
returns-then-few-steps g c =
    let X = g.M.Object.rules in
    let calls = c.args.calls.now in
    let few = c.few_steps-few.result in
    let found = c.in_ok-found.found in
    let own : IsFoundIn X (point_at X calls) c.args.machine (calls_of calls.lines.items) few found =
    judges_in X calls c.new-start.result c.args.machine few c.requires.whole c.new-start.ensures.low
    c.new-start.ensures.beyond (c.new-start.ensures.machine ∙ c.in_ok-copy.ensures) found c.in_ok-found.ensures in
    elim c.then-few-steps.branch [
      | then-few-steps-via-then-few-steps w ↦
          subst (λ n. IsFoundIn X (point_at X calls) c.args.machine (calls_of calls.lines.items) n found)
          (let e : few ≡ c.args.steps = (let t = w.if-few-steps.true in omega arith) in e) own
      | then-few-steps-via-else-few-steps+then-not-is_unknown w ↦
          more_steps X (point_at X calls) c.args.machine (calls_of calls.lines.items) few c.args.steps found
          c.few_steps-few.ensures (w.is_unknown.ensures w.if-not-is_unknown.true) own
    ]

pub returns : goal.returns
returns g c =
    let rules = g.M.Object.rules in
    let calls = c.args.calls.now in
    IfOk-weaker c.find_order-2.result (λ found. FindsIn rules (point_views rules calls)
    (point_at rules calls c.new.result) c.args.steps found)
    (λ found. IsFoundIn rules (point_at rules calls) c.args.machine
    (calls_of calls.lines.items) c.args.steps found)
    (λ found h.
    judges_in rules calls c.new.result c.args.machine c.args.steps c.requires.whole c.new.ensures.low
    c.new.ensures.beyond
    c.new.ensures.machine found h)
    c.find_order-2.ensures
