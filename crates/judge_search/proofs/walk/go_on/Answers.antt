use Rattle.std.proofs.Common.{◌+◌, ◌++◌, ◌∷◌, [], cond, ap, ◌∙◌, subst}
use Rattle.judge_search.specs.Configurations.{answered}
use Rattle.judge_search.specs.Views.{TellsLeft}
use Rattle.judge_search.specs.Point.{point_views}
use Rattle.judge_search.specs.Walking.{places_of}
use Rattle.judge_search.proofs.Walking.{steps_found, steps_known, steps_on}
use Rattle.judge_search.proofs.walk.go_on.Goals as goal

pub returns-then-is_done-clause-steps : goal.returns-then-is_done-clause-steps
returns-then-is_done-clause-steps g c = λ start steps w e m.
    let views = point_views (g.M.Object.rules) c.args.calls.now in
    steps_found (g.M.Object.rules) views start steps c.args.walk c.args.place c.args.next
    c.in_ok-places_of.field-0.items w
    c.requires.place e
    (subst (TellsLeft (answered (views.at c.args.next).rest)) c.if-is_done.true c.is_done.ensures.left) m
    (c.in_ok-places_of.ensures ∙ ap (λ p. places_of p ++ c.args.place ∷ []) c.as_slice.ensures.value)

pub returns-then-has-clause-steps : goal.returns-then-has-clause-steps
returns-then-has-clause-steps g c = λ start steps w e m.
    let views = point_views (g.M.Object.rules) c.args.calls.now in
    steps_known (g.M.Object.rules) views start steps c.args.walk c.args.place (views.at c.args.next) w e
    (c.has.ensures c.if-has.true c.args.calls.now)

pub returns-clause-steps : goal.returns-clause-steps
returns-clause-steps g c = λ start steps w e m.
    let views = point_views (g.M.Object.rules) c.args.calls.now in
    steps_on (g.M.Object.rules) views start steps c.args.walk c.args.place c.in-Some.count c.args.next
    c.push.new.self w c.requires.place e
    (subst (TellsLeft (answered (views.at c.args.next).rest)) c.if-is_done.false c.is_done.ensures.left) m
    c.is_done.ensures.all c.is_done.ensures.apart (c.in-Some.ensures ∙
    ap (λ b. c.args.walk.placed + cond b 1 0) c.is_completed.ensures) c.in_ok-push.ensures.items
