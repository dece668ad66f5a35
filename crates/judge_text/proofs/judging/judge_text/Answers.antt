use Rattle.std.proofs.Common.{subst}
use Rattle.std.proofs.lemmas.Result.{IfOk-weaker}
use Rattle.judge_text.specs.Starts.{start_of}
use Rattle.judge_text.specs.Reading.{IsReadingOf}
use Rattle.judge_text.proofs.OnLines.{text_verdict, text_decides}
use Rattle.judge_text.proofs.judging.judge_text.Goals as goal

pub judge_lines-requires : goal.judge_lines-requires
judge_lines-requires g c =
    (subst (IsReadingOf g.M.Object.rules g.M.TextObject.language c.args.text.now) c.in-History.is
    c.in_ok-number.ensures).1

pub returns-in-History-clause-verdict : goal.returns-in-History-clause-verdict
returns-in-History-clause-verdict g c =
    let read = subst (IsReadingOf g.M.Object.rules g.M.TextObject.language c.args.text.now) c.in-History.is
    c.in_ok-number.ensures in
    IfOk-weaker c.judge_lines.result _ _ (text_verdict g.M.Object.rules g.M.Named.name g.M.Named.naming
    g.M.TextObject.language (start_of c.args.starts.now) c.args.how c.args.text.now c.in-History.lines.items read.0)
    c.judge_lines.ensures

pub returns-in-History-clause-legal : goal.returns-in-History-clause-legal
returns-in-History-clause-legal g c =
    let read = subst (IsReadingOf g.M.Object.rules g.M.TextObject.language c.args.text.now) c.in-History.is
    c.in_ok-number.ensures in
    IfOk-weaker c.judge_lines.result _ _ (text_decides g.M.Object.rules g.M.Named.name g.M.Named.naming
    g.M.TextObject.language (start_of c.args.starts.now) c.args.how c.args.text.now c.in-History.lines.items read.0)
    c.judge_lines.ensures
