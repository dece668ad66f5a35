use Rattle.std.proofs.Common.{arith, ap, ℕ}
use Rattle.vac_audit.specs.declared.Flaw.TheVariants.{Colour}
use Rattle.vac_audit.proofs.Going.{small_sum}
use Rattle.vac_audit.proofs.tree.look_at_root.Goals as goal

pub returns-then-tree : goal.returns-then-tree
returns-then-tree c = record {
  looked = (
    c.if-tree.true,
    λ l. ap (λ (z : ℕ). Colour z)
        (small_sum _ (omega (arith, l, c.requires.few))),
  );
}
