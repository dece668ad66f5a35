use Rattle.stm_replay.proofs.Opacity.{every_list_is_opaque}
use Rattle.stm_replay.proofs.theorem.opaque.Goals as goal

pub returns : goal.returns
returns g c = every_list_is_opaque g.L.Law.lawful
