use Rattle.std.proofs.Common.{◌≡◌, List, [], ◌∷◌, length, refl, sym, ap, ◌∙◌, arith}
use Rattle.judge_search.specs.Point.{point_views}
use Rattle.judge_search.specs.Walking.{best_of}
use Rattle.judge_search.proofs.Walking.{steps_back, steps_none}
use Rattle.judge_search.proofs.walk.go_back.Goals as goal

none_path : {X : Type 0} (xs : List X) → length xs ≡ 0 → xs ≡ []
none_path [] h = refl
none_path (x ∷ xs) h = absurd (omega arith)

pub returns-in_default-clause-steps : goal.returns-in_default-clause-steps
returns-in_default-clause-steps g c = λ calls start steps w.
    let walk = c.args.walk in
    let number : c.len-number.result ≡ length walk.known.points.items = c.len-number.ensures ∙ walk.known.points.ok.0 in
    steps_none (g.M.Object.rules) (point_views (g.M.Object.rules) calls) start steps walk c.add.new.self.points.items
    c.best_of-best.result
    c.take.result
    (none_path walk.path.items (sym walk.path.ok.0 ∙ c.in_default.ensures.cases.0)) c.in_ok-add.ensures
    (c.best_of-best.ensures.best ∙ ap (λ n. best_of n walk.placed walk.best walk.most) number) w c.take.ensures

pub returns-clause-steps : goal.returns-clause-steps
returns-clause-steps g c = λ calls start steps w.
    let walk = c.args.walk in
    let number : c.len-number.result ≡ length walk.known.points.items = c.len-number.ensures ∙ walk.known.points.ok.0 in
    steps_back (g.M.Object.rules) (point_views (g.M.Object.rules) calls) start steps walk c.in-Some.frame c.pop.new.self
    c.add.new.self
    c.best_of-best.result
    c.in-Some.ensures.items c.in_ok-add.ensures (c.best_of-best.ensures.best ∙
    ap (λ n. best_of n walk.placed walk.best walk.most) number) w
