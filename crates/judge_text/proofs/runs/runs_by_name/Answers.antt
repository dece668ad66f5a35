use Rattle.std.proofs.Common.{subst}
use Rattle.judge_text.specs.Classing.{object_of, for_object}
use Rattle.judge_text.specs.Runs.{AreNamedRuns}
use Rattle.judge_text.proofs.Grouping.{runs_named}
use Rattle.judge_text.proofs.runs.runs_by_name.Goals as goal

pub returns : goal.returns
returns g c =
    runs_named (for_object (object_of c.args.names.now) (g.M.Named.name)) c.in_ok-own.own.items c.args.lines.items
    c.in_ok-own.runs.items c.in_ok-named.named c.in_ok-own.ensures
    (subst (λ names. AreNamedRuns names c.in_ok-own.runs.items c.in_ok-named.named) c.as_slice.ensures.value
    c.in_ok-named.ensures)
