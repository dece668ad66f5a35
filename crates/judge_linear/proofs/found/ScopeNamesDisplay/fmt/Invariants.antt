use Rattle.std.proofs.Common.{take, flat_map}
use Rattle.std.specs.Fmt.{HasWritten, IsPlainFormatter}
use Rattle.judge_linear.specs.Found.{customer_text, item_text}
use Rattle.judge_linear.proofs.found.ScopeNamesDisplay.fmt.Given as goal

-- the customers so far
abbrev pub invariant-loop-customer : goal.invariant-loop-customer
invariant-loop-customer g l =
    IsPlainFormatter l.initial.f → HasWritten g.W.Write.write_str_gives l.initial.f
    (flat_map customer_text (take l.customer-index l.customer-items)) l.f

-- the items so far
abbrev pub invariant-loop-kind : goal.invariant-loop-kind
invariant-loop-kind g l =
    IsPlainFormatter l.initial.f → HasWritten g.W.Write.write_str_gives l.initial.f
    (flat_map item_text (take l.kind-index l.kind-items)) l.f
