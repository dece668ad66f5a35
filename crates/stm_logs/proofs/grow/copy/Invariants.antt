use Rattle.std.proofs.Common.{◌≡◌, length}
use Rattle.stm_logs.specs.Held.{Copied}
use Rattle.stm_logs.proofs.grow.copy.Given as goal

abbrev pub invariant-loop-e : goal.invariant-loop-e
invariant-loop-e g l = record {
  count : l.new.count ≡ l.e;
  copied : Copied l.old.list l.new.list l.e;
  len : length l.new.list ≡ length l.fn.new.list;
}
