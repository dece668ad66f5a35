use Rattle.std.proofs.Common.{◌∷◌, [], ◌++◌, map, ap, sym, ◌∙◌, subst}
use Rattle.judge_object.proofs.CutLines.{all_met, one_on}
use Rattle.judge_object.specs.Call.{span_of}
use Rattle.judge_search.specs.Calls.{calls_of}
use Rattle.judge_snapshot.specs.Horizons.{IsHorizon}
use Rattle.judge_snapshot.proofs.Whole.{Made, made_more, made_all}
use Rattle.judge_snapshot.proofs.horizons.commits_of.Goals as goal

pub lines-preserved : goal.lines-preserved
lines-preserved g c =
    let spans = c.in_ok-spans.spans.items in
    let line = c.in-Some.line in
    let horizon = c.horizon_of-horizon.result in
    record {
      all = one_on _ _ _ _ _ c.lines.invariant.all c.in-Some.ensures.steps.0;
      made = subst (Made spans (c.lines.yielded ++ line ∷ [])) (sym c.in_ok-push.ensures.items)
          (made_more spans c.lines.yielded c.lines.commits.items line c.in_ok-commit_line.field-0 horizon
          c.lines.invariant.made c.in_ok-commit_line.ensures
          (subst (λ s. IsHorizon s line.begin horizon) c.as_slice-in-lines.ensures.value c.horizon_of-horizon.ensures));
    }

pub returns : goal.returns
returns g c =
    let spans = c.in_ok-spans.spans.items in
    made_all spans c.args.lines.items c.lines.commits.items
    (subst (λ lines. Made spans lines c.lines.commits.items)
    (all_met _ _ c.lines.line-iterator c.lines.invariant.all c.in-None.ensures.steps.0) c.lines.invariant.made)
    (c.in_ok-spans.ensures ∙ ap (λ lines. map span_of (calls_of lines)) c.as_slice.ensures.value)
