use Rattle.std.proofs.Common.{ap, ◌∙◌}
use Rattle.judge_text.specs.Numbers.{name_in}
use Rattle.judge_text.proofs.Grouping.{named_more, one_on, one_more}
use Rattle.judge_text.proofs.runs.named_runs.Goals as goal

pub loop-run-preserved : goal.loop-run-preserved
loop-run-preserved g c =
    let i = c.loop-run.invariant in
    let t = c.in-Some.ensures.steps in
    record {
      all = one_on _ _ _ _ _ i.all t.0;
      at = one_more c.loop-run.yielded c.in-Some.run' c.loop-run.number i.at;
      named = named_more c.args.names.now c.loop-run.yielded c.in-Some.run' c.loop-run.named c.insert.new.self
          c.in_ok-name.name i.named
          (c.in_ok-name.ensures.items ∙ c.name_at.ensures ∙ ap (name_in c.args.names.now) i.at)
          c.in_ok-insert.ensures.updates;
    }
