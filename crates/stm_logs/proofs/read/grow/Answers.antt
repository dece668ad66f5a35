use Rattle.std.proofs.Common.{◌≡◌, ◌<◌, length, arith}
use Rattle.stm_logs.proofs.ChunkLemmas.{longer}
use Rattle.stm_logs.proofs.read.grow.Goals as goal

pub returns : goal.returns
returns g c =
    let few : length c.args.chunks.now.items < 1125899906842624 = omega (arith, c.len.ensures) in
    let places : length c.in_ok-chunk.chunk ≡ 1024 = c.in_ok-chunk.ensures in
    longer _ _ c.in_ok-chunk.chunk c.requires few places c.in_ok-push.ensures.items
