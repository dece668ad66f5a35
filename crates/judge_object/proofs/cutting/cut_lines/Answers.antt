use Rattle.std.proofs.Common.{◌∙◌, ap, sym, map}
use Rattle.std.specs.List.{filter_map}
use Rattle.judge_object.specs.Cut.{line_cut, numbered}
use Rattle.judge_object.proofs.CutLines.{cut_more, cut_calls, all_met, one_on}
use Rattle.judge_object.proofs.cutting.cut_lines.Goals as goal

pub lines-init : goal.lines-init
lines-init g c = record {
  all = sym c.into_iter-line-iterator.ensures.into_iter_gives.0;
  are = ap (map numbered) c.new-cut.ensures.items;
}

pub lines-preserved : goal.lines-preserved
lines-preserved g c = record {
  all = one_on _ _ _ _ _ c.lines.invariant.all c.in-Some.ensures.steps.0;
  are = cut_more c.args.moment c.lines.yielded c.in-Some.line _ _ _ c.lines.invariant.are c.cut_line.ensures
      c.in_ok-take_line.ensures;
}

pub returns-clause-lines : goal.returns-clause-lines
returns-clause-lines g c =
    c.lines.invariant.are ∙ ap (filter_map (line_cut c.args.moment))
    (all_met _ _ c.lines.line-iterator c.lines.invariant.all c.in-None.ensures.steps.0)

pub returns-clause-calls : goal.returns-clause-calls
returns-clause-calls g c =
    cut_calls c.args.moment c.lines.cut.items c.args.lines.items (c.lines.invariant.are
    ∙ ap (filter_map (line_cut c.args.moment))
    (all_met _ _ c.lines.line-iterator c.lines.invariant.all c.in-None.ensures.steps.0))
