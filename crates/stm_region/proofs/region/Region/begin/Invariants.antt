use Rattle.stm_core.specs.Event.{begin}
use Rattle.stm_region.proofs.region.Region.begin.Given as goal

abbrev pub ghosts-load_as : goal.ghosts-load_as
ghosts-load_as g a = record { action = begin; region = a.self.now }
