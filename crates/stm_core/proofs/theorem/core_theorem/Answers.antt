use Rattle.stm_core.specs.Theorem.{free_law}
use Rattle.stm_core.proofs.Playing.{every_list_is_serializable}
use Rattle.stm_core.proofs.theorem.core_theorem.Goals as goal

pub returns : goal.returns
returns c = every_list_is_serializable free_law
