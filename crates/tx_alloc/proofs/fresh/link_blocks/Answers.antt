use Rattle.std.proofs.Common.{arith}
use Rattle.tx_alloc.proofs.Spreading.{linking_start, linking_step, linked}
use Rattle.tx_alloc.proofs.fresh.link_blocks.Goals as goal

pub loop-block-init : goal.loop-block-init
loop-block-init c = linking_start _ _ _ _ _ c.requires.list (omega (arith, c.requires.room)) c.link_to.ensures

pub loop-block-preserved : goal.loop-block-preserved
loop-block-preserved c = linking_step _ _ _ _ _ _ _ c.requires.list c.loop-block.invariant (omega arith)
    c.loop-block-test.true (omega (arith, c.requires.room)) c.link_to-in-loop-block.ensures

pub returns : goal.returns
returns c = linked _ _ _ _ _ _ c.loop-block.invariant (omega arith)
