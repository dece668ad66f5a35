use Rattle.stm_core.proofs.Playing.{every_list_is_serializable}
use Rattle.stm_core.proofs.theorem.core_theorem_of.Goals as goal

pub returns : goal.returns
returns g c = every_list_is_serializable g.L.Law.lawful
