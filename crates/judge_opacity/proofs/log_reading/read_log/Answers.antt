use Rattle.std.proofs.Common.{sym, subst}
use Rattle.judge_opacity.proofs.Logging.{HasReadTo, read_more}
use Rattle.judge_opacity.proofs.log_reading.read_log.Goals as goal

pub lines-preserved : goal.lines-preserved
lines-preserved c =
    subst (λ t. HasReadTo c.args.words c.args.text.now t c.in-Some.behind.now) (sym c.in_ok-push-in-Ok.ensures.items)
    (read_more c.args.words c.args.text.now c.in-Some.line.now c.lines.rest.now c.in-Some.behind.now
    c.lines.attempts.items c.in-Ok.logged c.lines.invariant c.in-Some.ensures.lines
    (rw c.in-Ok.is at c.in_ok-logged.ensures.read) (rw c.in-Ok.is at c.in_ok-logged.ensures.among))
