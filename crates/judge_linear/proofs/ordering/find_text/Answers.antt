use Rattle.std.proofs.Common.{◌++◌, ap, ◌∙◌, subst}
use Rattle.judge_calls.specs.Verdict.{verdict_text}
use Rattle.judge_linear.specs.Reading.{WasReadAs}
use Rattle.judge_linear.proofs.Founds.{text_wrong}
use Rattle.judge_linear.proofs.ordering.find_text.Goals as goal

pub returns-in_ok-print-in-Wrong-clause-found : goal.returns-in_ok-print-in-Wrong-clause-found
returns-in_ok-print-in-Wrong-clause-found g c =
    text_wrong c.args.how.level c.args.how.blocks c.args.how.steps (g.R.Read.remaining c.args.input.now)
    (g.R.Read.remaining c.read_history.new.input) c.in-Wrong.verdict c.print.new.out.items
    (subst (WasReadAs (g.R.Read.remaining c.args.input.now) (g.R.Read.remaining c.read_history.new.input)) c.in-Wrong.is
    c.in_ok-history.ensures.read)
    (c.in_ok-print-in-Wrong.ensures.ok ∙ ap (λ t. t ++ verdict_text c.in-Wrong.verdict)
    c.new-text.ensures.items)
