use Rattle.std.proofs.Common.{arith, sym, subst, ◌∙◌, List, ℕ}
use Rattle.tx_memory.specs.Plain.{flat_view}
use Rattle.tx_tree.specs.Counted.{HasEntries}
use Rattle.tx_tree.proofs.Counting.{none_yet, in_range}
use Rattle.test_heap.proofs.steps.table.Goals as goal

pub returns : goal.returns
returns c =
    let at = in_range c.args.words.items 3 0 c.index.result.now (omega (arith, c.len.ensures, c.if-len-blocks.false)) ∙
    (sym c.index.ensures ∙ c.if-index-ne0.false) in
    let h = none_yet c.args.words.items 3 c.args.blocks (omega (arith, c.len.ensures, c.if-len-blocks.false))
    (omega (arith, c.if-blocks-gt-MOST_BLOCKS.false)) (omega arith) at in
    subst (λ (xs : List ℕ). HasEntries (flat_view xs) 3 c.args.blocks 0) (sym c.new.ensures) h
