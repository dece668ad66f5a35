use Rattle.std.proofs.Common.{◌+◌, [], ℕ, suc, subst}
use Rattle.std.proofs.lemmas.Result.{IfOk-weaker}
use Rattle.judge_search.specs.declared.calls.Calls.{Calls}
use Rattle.judge_search.specs.Configurations.{Configuration}
use Rattle.judge_search.specs.Point.{point_views}
use Rattle.judge_search.specs.Views.{LedTo}
use Rattle.judge_search.specs.Walking.{Walks, WalksWith, StepsTo}
use Rattle.judge_search.proofs.Walking.{steps_lost, tried, tries_place}
use Rattle.judge_search.proofs.walk.Walk+Point+M.step.Goals as goal

pub returns-in_default-clause-steps : goal.returns-in_default-clause-steps
returns-in_default-clause-steps g c =
    let views = point_views (g.M.Object.rules) c.args.calls.now in
    let self = c.args.self in
    IfOk-weaker c.go_back.result (λ step. (calls : Calls _) (start : Configuration _ _) (steps : ℕ) →
    WalksWith (g.M.Object.rules) (point_views (g.M.Object.rules) calls) start steps self [] →
    StepsTo (g.M.Object.rules) (point_views (g.M.Object.rules) calls) start (suc steps) step)
    (λ step. (start : Configuration _ _) (steps : ℕ) → Walks (g.M.Object.rules) views start steps self →
    StepsTo (g.M.Object.rules) views start (suc steps) step)
    (λ step h start steps w. h c.args.calls.now start steps (subst (WalksWith (g.M.Object.rules) views start steps self)
    c.in_default.ensures.next w))
    c.go_back.ensures.steps

pub returns-in-Some-2-clause-steps : goal.returns-in-Some-2-clause-steps
returns-in-Some-2-clause-steps g c =
    let views = point_views (g.M.Object.rules) c.args.calls.now in
    let self = c.args.self in
    let place = c.in-Some.place in
    let next = c.in-Some-2.next in
    let tries = c.in-Some.ensures.next in
    let led = subst (LedTo (g.M.Object.rules) views self.point place) c.in-Some-2.is c.in_ok-next.ensures in
    IfOk-weaker c.go_on.result _
    (λ step. (start : Configuration _ _) (steps : ℕ) → Walks (g.M.Object.rules) views start steps self →
    StepsTo (g.M.Object.rules) views start (suc steps) step)
    (λ step h start steps w. h start steps (tries_place (g.M.Object.rules) views start steps self place tries led.0
    w) led.1 led.2)
    c.go_on.ensures.steps

pub returns-in-None-clause-steps : goal.returns-in-None-clause-steps
returns-in-None-clause-steps g c = λ start steps w.
    let views = point_views (g.M.Object.rules) c.args.calls.now in
    let self = c.args.self in
    let place = c.in-Some.place in
    steps_lost (g.M.Object.rules) views start steps self (views.call place) (views.tries self.point (place + 1))
    (tried (g.M.Object.rules) views start steps self (views.call place)
    (views.tries self.point (place + 1)) c.in-Some.ensures.next.is w)
    c.in-Some.ensures.next.may
    (subst (LedTo (g.M.Object.rules) views self.point place) c.in-None.is c.in_ok-next.ensures)
