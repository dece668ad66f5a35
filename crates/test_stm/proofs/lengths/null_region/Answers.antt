use Rattle.test_stm.proofs.Nulled.{zeros_fit}
use Rattle.test_stm.proofs.lengths.null_region.Goals as goal

pub new-requires : goal.new-requires
new-requires c = zeros_fit _ _ c.as_slice.ensures.value c.in_ok-words.ensures
