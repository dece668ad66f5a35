use Rattle.judge_text.specs.Classing.{object_of, for_object}
use Rattle.judge_text.proofs.Printing.{within_lines, blocked_printed, on_ok}
use Rattle.judge_text.proofs.verdict.print_blocked.Goals as goal

pub print_part-requires : goal.print_part-requires
print_part-requires g c =
    within_lines c.args.blocked.now.calls.lines.items c.as_slice-lines.result.now c.in_ok-stuck.stuck.items
    c.as_slice.result.now c.in_ok-stuck.ensures.within c.as_slice-lines.ensures c.as_slice.ensures.value

pub print_all_stuck-requires : goal.print_all_stuck-requires
print_all_stuck-requires g c =
    within_lines c.args.blocked.now.calls.lines.items c.as_slice-lines.result.now c.in_ok-stuck.stuck.items
    c.as_slice-2.result.now c.in_ok-stuck.ensures.within c.as_slice-lines.ensures c.as_slice-2.ensures.value

pub returns : goal.returns
returns g c =
    on_ok _ _ (λ h.
    blocked_printed g.M.Object.rules (for_object (object_of c.args.names.now) g.M.Named.name) c.args.blocked.now
    c.as_slice-lines.result.now
    c.in_ok-stuck.stuck.items c.as_slice.result.now c.as_slice-2.result.now c.args.out.now.items _ _
    c.in_ok-stuck.ensures c.as_slice-lines.ensures c.as_slice.ensures.value c.as_slice-2.ensures.value
    c.in_ok-print_part.ensures h)
    c.print_all_stuck.result c.print_all_stuck.ensures
