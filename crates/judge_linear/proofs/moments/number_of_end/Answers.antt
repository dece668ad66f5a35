use Rattle.std.proofs.Common.{sym, subst}
use Rattle.std.specs.Prelude.{IfSome}
use Rattle.judge_linear.specs.Moments.{EndsAt}
use Rattle.judge_linear.proofs.CutCalls.{end_in}
use Rattle.judge_linear.proofs.moments.number_of_end.Goals.{in-Some, in-None}
use Rattle.judge_linear.proofs.moments.number_of_end.Goals as goal

pub returns : goal.returns
returns c =
    let lines = c.args.lines.now in
    let moment = c.args.first.now.part.moment in
    let ends : EndsAt lines c.match-blocked_place.place moment =
    elim c.match-blocked_place.branch [
      | in-Some w ↦ subst (λ p. EndsAt lines p moment) (sym w.place-is)
          (subst (λ o. IfSome o (λ p. EndsAt lines p moment)) w.in-Some.is c.blocked_place.ensures)
      | in-None w ↦ subst (λ p. EndsAt lines p moment) (sym w.place-is) c.requires
    ] in
    end_in lines c.match-blocked_place.place moment c.index-lines-place.result ends
