use Rattle.std.proofs.Common.{subst}
use Rattle.std.specs.Prelude.{IfSome}
use Rattle.judge_object.specs.Relaxed.{IsRelaxed}
use Rattle.judge_linear.proofs.Freed.{relaxed_copy}
use Rattle.judge_linear.proofs.relaxed.relaxed_copy.Goals as goal

pub returns-in-Some : goal.returns-in-Some
returns-in-Some c =
    relaxed_copy c.args.level c.args.line.now c.in_ok-copied_line.field-0 c.in-Some.relaxed c.in_ok-copied_line.ensures
    (subst (λ o. IfSome o (IsRelaxed c.args.level c.in_ok-copied_line.field-0)) c.in-Some.is c.relaxed_line.ensures)
