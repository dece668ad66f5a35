use Rattle.std.proofs.Common.{◌∙◌, sym}
use Rattle.judge_part_text.proofs.Without.{none_without, first_without}
use Rattle.judge_part_text.proofs.parting.line_without.Goals as goal

pub unreachable-requires : goal.unreachable-requires
unreachable-requires c = none_without c.args.names.now.customers.items c.args.names.now.items.items c.args.lines.now
    c.in_ok-scope.scope c.requires c.in_ok-scope.ensures (sym c.first_without.ensures ∙ c.in-None.is)

pub returns : goal.returns
returns c = first_without c.args.names.now.customers.items c.args.names.now.items.items c.args.lines.now
    c.in_ok-scope.scope c.in-Some.place c.requires c.in_ok-scope.ensures (sym c.first_without.ensures ∙ c.in-Some.is)
