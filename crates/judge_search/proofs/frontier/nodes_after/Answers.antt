use Rattle.std.proofs.Common.{◌+◌, get_or, sym, ap, ◌∙◌, subst}
use Rattle.std.specs.Global.{Vec}
use Rattle.judge_search.specs.Calls.{calls_of, no_call, tries_from}
use Rattle.judge_search.specs.Point.{made_of}
use Rattle.judge_search.specs.Frontier.{NodeLedTo}
use Rattle.judge_search.proofs.Fronts.{Tries, tries_none, tries_made, tries_lost, tries_all}
use Rattle.judge_search.proofs.Tries.{all_choices}
use Rattle.judge_search.proofs.frontier.nodes_after.Goals as goal
use Rattle.judge_search.proofs.frontier.nodes_after.Goals.{in-Some-2+in_ok-settled+in_ok-push, in_default-2}

pub tries-preserved : goal.tries-preserved
tries-preserved g c =
    let X = g.M.Object.rules in
    let calls = c.args.calls.now in
    let node = c.args.node.now in
    let made = made_of node.point in
    let cs = calls_of calls.lines.items in
    let p = c.in-Some.place in
    let call = get_or cs p (no_call X) in
    let next = c.in-Some.ensures.next in
    let tries = tries_from made cs 0 in
    let left = tries_from made cs c.tries.from in
    let others = tries_from made cs (p + 1) in
    elim c.match-branch-2.branch [
      | in-Some-2+in_ok-settled+in_ok-push w ↦
          let led = subst (NodeLedTo X calls node p) w.in-Some-2.is c.in_ok-next.ensures in
          tries_made X calls node w.in-Some-2.next w.in_ok-settled.field-0 tries left others c.tries.nodes.items
          c.match-branch-2.nodes.items call next.is (record { may = next.may; fit = led.0 }) led.1 led.2
          w.in_ok-settled.ensures (ap (λ (v : Vec _). v.items) w.nodes-is ∙ w.in_ok-push.ensures.items)
          c.tries.invariant
      | in_default-2 w ↦
          let led = subst (NodeLedTo X calls node p) w.in_default-2.is c.in_ok-next.ensures in
          subst (Tries X calls node tries others) (sym (ap (λ (v : Vec _). v.items) w.nodes-is))
          (tries_lost X calls node tries left others c.tries.nodes.items call next.is led c.tries.invariant)
    ]

pub returns : goal.returns
returns g c =
    let X = g.M.Object.rules in
    let calls = c.args.calls.now in
    let node = c.args.node.now in
    let made = made_of node.point in
    let cs = calls_of calls.lines.items in
    tries_all X calls node (tries_from made cs 0) (tries_from made cs c.tries.from) c.tries.nodes.items
    c.in_default.ensures.next (all_choices X made cs) c.tries.invariant
