use Rattle.std.proofs.Common.{◌≡◌, ◌+◌, suc, take, subst, arith}
use Rattle.judge_snapshot.specs.Horizons.{IsHorizon}
use Rattle.judge_snapshot.proofs.Places.{horizon_none, horizon_more, take_all}
use Rattle.judge_snapshot.proofs.horizons.horizon_of.Goals as goal

pub spans-init : goal.spans-init
spans-init c = horizon_none c.args.spans.now c.args.begin 18446744073709551615

pub spans-preserved : goal.spans-preserved
spans-preserved c =
    let spans = c.args.spans.now in
    let near = c.nearer-horizon.result in
    let next : suc c.spans.place ≡ c.spans.place + 1 = omega arith in
    subst (λ n. IsHorizon (take n spans) c.args.begin near) next
    (horizon_more spans c.spans.place _ c.args.begin c.spans.horizon near c.spans-test.true
    c.nearer-horizon.ensures.less
    c.nearer-horizon.ensures.reaches c.spans.invariant)

pub returns : goal.returns
returns c =
    let t = c.spans-test.false in
    subst (λ spans. IsHorizon spans c.args.begin c.spans.horizon)
    (take_all c.args.spans.now c.spans.place (omega (arith, t))) c.spans.invariant
