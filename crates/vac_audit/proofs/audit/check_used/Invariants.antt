use Rattle.std.specs.List.{AllWithin}
use Rattle.vac_audit.specs.Ran.{IsUsedAsBooked}
use Rattle.vac_audit.proofs.audit.check_used.Given as goal

abbrev pub invariant-loop-item : goal.invariant-loop-item
invariant-loop-item l = AllWithin (IsUsedAsBooked l.words) l.notes.items.items 0 l.item-index
