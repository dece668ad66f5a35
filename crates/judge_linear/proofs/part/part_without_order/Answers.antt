use Rattle.std.proofs.Common.{ap, ◌∙◌, subst}
use Rattle.std.specs.Prelude.{IfSome}
use Rattle.std.specs.List.{filter_map}
use Rattle.judge_reservations.specs.Histories.{part_of_history}
use Rattle.judge_reservations.specs.Lines.{line_part}
use Rattle.judge_search.specs.Calls.{calls_of}
use Rattle.judge_linear.specs.Moments.{IsWrongPart}
use Rattle.judge_linear.proofs.PartCalls.{sorted_whole, part_none}
use Rattle.judge_linear.proofs.part.part_without_order.Goals as goal

pub first_end_without_order-requires : goal.first_end_without_order-requires
first_end_without_order-requires g c = record {
  whole = sorted_whole c.args.scope c.args.calls.now.lines.items c.in_ok-lines.lines.items
      c.in_ok-part.part.lines.items c.requires.whole (c.in_ok-lines.ensures.calls
      ∙ ap (λ ls. part_of_history c.args.scope (calls_of ls)) c.as_slice.ensures) c.in_ok-part.ensures.merges;
}

pub returns-in-Some : goal.returns-in-Some
returns-in-Some g c =
    part_none c.args.calls.now.lines.items c.in_ok-lines.lines.items _ c.requires.fits c.requires.whole
    (c.in_ok-lines.ensures.lines ∙ ap (filter_map (line_part c.args.scope)) c.as_slice.ensures)
    (c.in_ok-lines.ensures.calls ∙ ap (λ ls. part_of_history c.args.scope (calls_of ls)) c.as_slice.ensures)
    c.in_ok-part.ensures.merges c.in_ok-part.ensures.same
    (subst (λ o. IfSome o (IsWrongPart c.in_ok-part.part.lines.items)) c.in-Some.is c.in_ok-wrong.ensures)
