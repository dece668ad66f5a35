use Rattle.std.proofs.Common.{◌∙◌, sym}
use Rattle.judge_reservations.specs.Lines.{call_of}
use Rattle.judge_part_text.proofs.Then.{line_ended, had_as_is, had_not_begun}
use Rattle.judge_part_text.proofs.until.had_part.Goals as goal

pub returns-then-had_begun : goal.returns-then-had_begun
returns-then-had_begun c =
    let line = c.args.line.now in
    c.has_part.ensures
    ∙ had_as_is c.args.scope.now c.args.moment (call_of line) (line_ended line line.ended)
    (sym c.had_begun.ensures ∙ c.if-had_begun.true)

pub returns : goal.returns
returns c = had_not_begun c.args.scope.now c.args.moment (call_of c.args.line.now)
    (sym c.had_begun.ensures ∙ c.if-had_begun.false)
