use Rattle.stm_core.specs.Event.{finish}
use Rattle.stm_region.proofs.region.Region.finish.Given as goal

abbrev pub ghosts-finish_as : goal.ghosts-finish_as
ghosts-finish_as g a = record { action = finish (g.T.Tag.numbers a.tag.now); region = a.self.now }
