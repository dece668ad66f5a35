use Rattle.std.proofs.Common.{◌≡◌, length, arith}
use Rattle.stm_logs.proofs.ChunkLemmas.{longer_roomier}
use Rattle.stm_logs.proofs.read.make_room.Goals as goal

pub returns-in_ok-grow : goal.returns-in_ok-grow
returns-in_ok-grow g c =
    let full : c.args.full ≡ length c.args.rest.now.items = omega arith in
    longer_roomier _ _ _ full c.in_ok-grow.ensures
