use Rattle.std.proofs.Common.{◌≡◌, ap, arith}
use Rattle.std.specs.Prelude.{get_or}
use Rattle.std.proofs.lemmas.Bool.Decides.{nat_tests}
use Rattle.vac_model.specs.declared.tasks.Task.{Task}
use Rattle.judge_object.specs.declared.line.Line.{Line}
use Rattle.judge_linear.proofs.CutCalls.{at_get}
use Rattle.judge_linear.proofs.moments.end_of.Goals as goal

pub returns-then-end-lt-NEVER : goal.returns-then-end-lt-NEVER
returns-then-end-lt-NEVER c =
    let line = c.index-lines-place.result in
    let same : line.end ≡ (get_or c.args.lines.now c.args.place line).end =
    ap (λ (l : Line Task). l.end) c.index-lines-place.is in
    let less = c.if-end-lt-NEVER.true in
    record {
      line = line;
      at = at_get c.args.lines.now c.args.place line c.requires c.index-lines-place.is;
      completed = grind (arith, nat_tests, same, less);
      end = same;
    }
