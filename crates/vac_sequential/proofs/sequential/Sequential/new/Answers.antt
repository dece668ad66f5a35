use Rattle.std.proofs.Common.{sym, subst, arith}
use Rattle.vac_model.specs.Fits.{IsSmall}
use Rattle.vac_model.proofs.Empty.{empty-small}
use Rattle.vac_sequential.proofs.sequential.Sequential.new.Goals as goal

pub invariant_of-result : goal.invariant_of-result
invariant_of-result c = subst IsSmall (sym c.new.ensures) (empty-small c.args.blocks
    (omega (arith, c.if-blocks-gt-MOST_BLOCKS.false)))
