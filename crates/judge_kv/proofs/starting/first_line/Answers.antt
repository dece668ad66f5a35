use Rattle.std.proofs.Common.{ap, ◌∙◌}
use Rattle.vac_lines.specs.Lines.{lines_of}
use Rattle.judge_text.proofs.Cutting.{lines_cut, lines_rest}
use Rattle.judge_kv.proofs.starting.first_line.Goals as goal

pub returns-in-Some-clause-lines : goal.returns-in-Some-clause-lines
returns-in-Some-clause-lines c =
    ap lines_of c.in-Some.ensures.1 ∙ lines_cut c.in-Some.line.now c.in-Some.behind.now c.in-Some.ensures.0

pub returns-in-None-clause-lines : goal.returns-in-None-clause-lines
returns-in-None-clause-lines c = lines_rest c.args.text.now c.in-None.ensures c.requires
