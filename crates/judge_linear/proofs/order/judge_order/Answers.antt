use Rattle.std.proofs.Common.{subst, arith}
use Rattle.std.specs.Prelude.{IfSome}
use Rattle.judge_reservations.specs.Reserving.{reserving}
use Rattle.judge_search.specs.Calls.{calls_of}
use Rattle.judge_search.specs.Judging.{IsLinearizedBy}
use Rattle.judge_linear.proofs.order.judge_order.Goals as goal

pub returns-in-Some : goal.returns-in-Some
returns-in-Some g c =
    let calls = calls_of c.args.calls.now.lines.items in
    record {
      within = omega arith;
      run = tt;
      finds = subst (λ found. IfSome found (λ places. IsLinearizedBy reserving c.args.machine calls places.items))
          c.in-Some.is c.in_ok-places.ensures;
      spent = λ never. absurd never;
    }
