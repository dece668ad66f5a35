use Rattle.std.proofs.Common.{arith, ◌∙◌, ap, sym, List, Bool, false, length, get_or}
use Rattle.vac_audit.proofs.Running.{reached_flaw}
use Rattle.vac_audit.proofs.lists.check_reached.Goals as goal

pub returns-then-not-is_reached : goal.returns-then-not-is_reached
returns-then-not-is_reached c = record {
  ran = reached_flaw _ c.loop-block.block c.loop-block.invariant (omega (
    arith,
    ap (λ (z : List Bool). length z) c.deref-is_reached-items.ensures.value,
  ))
      (ap (λ (z : List Bool). get_or z c.loop-block.block false) (sym c.deref-is_reached-items.ensures.value) ∙
      c.if-not-is_reached.true);
}
