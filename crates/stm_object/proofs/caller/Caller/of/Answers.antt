use Rattle.std.proofs.Common.{sym}
use Rattle.stm_object.proofs.caller.Caller.of.Goals as goal

pub invariant_of-result : goal.invariant_of-result
invariant_of-result g c = record {
  own = c.requires.own;
  opened = rw (sym c.shared.view_is) c.shared.invariant;
  free_handed = rw (sym c.user.view_is) c.user.invariant.0;
}
