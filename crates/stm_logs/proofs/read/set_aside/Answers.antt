use Rattle.std.proofs.Common.{[], ◌∙◌}
use Rattle.std.proofs.lemmas.List.{get_or_default}
use Rattle.stm_logs.proofs.ChunkLemmas.{set_aside}
use Rattle.stm_logs.proofs.read.set_aside.Goals as goal

pub returns : goal.returns
returns g c =
    let roomier = c.in_ok-make_room.ensures in
    let found = c.swap.ensures.x_after ∙ c.index_mut.ensures.value ∙ get_or_default _ _ _ [] roomier.inside in
    rw c.swap.ensures.y_after (set_aside _ _ _ _ _ roomier c.requires.whole found)
