use Rattle.std.proofs.Common.{◌≡◌, ◌≤◌, ◌<◌, suc, refl, sym, subst, arith, add-one}
use Rattle.std.specs.Prelude.{vec_len}
use Rattle.judge_search.specs.Configurations.{answered}
use Rattle.judge_search.specs.Point.{point_views}
use Rattle.judge_search.specs.Views.{TellsLeft}
use Rattle.judge_search.specs.Searching.{HasRun, IsUndecided}
use Rattle.judge_search.specs.Walking.{CompletesBy, StaysWithin, StepsTo, Walks}
use Rattle.judge_search.proofs.Placing.{distinct_none}
use Rattle.std.proofs.lemmas.List.Elements.{All-nil}
use Rattle.judge_search.proofs.Walking.{starts, no_calls, undecided, has_run}
use Rattle.judge_search.proofs.walk.find_order.Goals as goal

pub returns-then-is_done : goal.returns-then-is_done
returns-then-is_done g c =
    let views = point_views (g.M.Object.rules) c.args.calls.now in
    let start = views.at c.args.start in
    record {
      within = omega arith;
      run = tt;
      finds = subst (CompletesBy (g.M.Object.rules) views start) (sym c.new.ensures.items) (record {
        completes = no_calls (g.M.Object.rules) start (subst
            (TellsLeft (answered start.rest)) c.if-is_done.true c.is_done.ensures.left);
        distinct = distinct_none;
        within = All-nil (λ p. p < views.count);
      });
      spent = λ none. absurd none;
    }

pub walk-init : goal.walk-init
walk-init g c =
    let views = point_views (g.M.Object.rules) c.args.calls.now in
    let start = views.at c.args.start in
    let within : 0 ≤ vec_len c.new-3.result.points = omega arith in (
      within,
      starts (g.M.Object.rules) views c.args.start c.new-2.result c.new-3.result c.new-2.ensures.items
          c.new-3.ensures c.requires
          (subst (TellsLeft (answered start.rest)) c.if-is_done.false c.is_done.ensures.left) c.is_done.ensures.all
          c.is_done.ensures.apart,
    )

pub returns-in-Found : goal.returns-in-Found
returns-in-Found g c =
    let views = point_views (g.M.Object.rules) c.args.calls.now in
    let start = views.at c.args.start in
    record {
      within = let t = c.walk-test.true in omega arith;
      run = subst (λ n. HasRun (g.M.Object.rules) n start) (sym (add-one c.walk.made))
          (_, _, c.walk.invariant.1.made);
      finds = subst (StepsTo (g.M.Object.rules) views start (suc c.walk.made)) c.in-Found.is
          (c.in_ok-next.ensures.steps start c.walk.made c.walk.invariant.1);
      spent = λ none. absurd none;
    }

pub returns-in-NoOrder : goal.returns-in-NoOrder
returns-in-NoOrder g c =
    let views = point_views (g.M.Object.rules) c.args.calls.now in
    let start = views.at c.args.start in
    record {
      within = let t = c.walk-test.true in omega arith;
      run = subst (λ n. HasRun (g.M.Object.rules) n start) (sym (add-one c.walk.made))
          (_, _, c.walk.invariant.1.made);
      finds = subst (StepsTo (g.M.Object.rules) views start (suc c.walk.made)) c.in-NoOrder.is
          (c.in_ok-next.ensures.steps start c.walk.made c.walk.invariant.1);
      spent = λ none. absurd none;
    }

pub walk-preserved : goal.walk-preserved
walk-preserved g c =
    let views = point_views (g.M.Object.rules) c.args.calls.now in
    let start = views.at c.args.start in (
      subst StaysWithin c.in-On.is c.in_ok-next.ensures.within,
      subst (λ n. Walks (g.M.Object.rules) views start n c.in-On.next) (sym (add-one c.walk.made))
          (subst (StepsTo (g.M.Object.rules) views start (suc c.walk.made)) c.in-On.is
          (c.in_ok-next.ensures.steps start c.walk.made c.walk.invariant.1)),
    )

pub returns : goal.returns
returns g c =
    let views = point_views (g.M.Object.rules) c.args.calls.now in
    let start = views.at c.args.start in
    let walk = c.walk.walk in
    let all : c.walk.made ≡ c.args.steps = omega arith in
    record {
      within = omega arith;
      run = subst (λ n. HasRun (g.M.Object.rules) n start) all
          (has_run (g.M.Object.rules) c.walk.made start _ _ c.walk.invariant.1.made);
      finds = subst (λ n. IsUndecided (g.M.Object.rules) start n c.most_of.result) all
          (undecided (g.M.Object.rules) views start c.walk.made walk
          (views.tries walk.point walk.next) c.most_of.result c.walk.invariant.1
          c.most_of.ensures);
      spent = λ none. refl;
    }
