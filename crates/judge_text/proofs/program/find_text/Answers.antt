use Rattle.judge_text.specs.Starts.{start_of}
use Rattle.judge_text.proofs.Printing.{judged}
use Rattle.judge_text.proofs.program.find_text.Goals as goal

pub returns : goal.returns
returns g c =
    judged g.M.Object.rules g.M.Named.name g.M.Named.naming g.M.TextObject.language (start_of c.args.starts.now)
    c.args.how c.args.text.now
    c.in_ok-verdict.verdict c.in_ok-verdict.ensures.verdict c.in_ok-verdict.ensures.legal c.print_verdict.result
    c.print_verdict.ensures.kind c.print_verdict.ensures.text
