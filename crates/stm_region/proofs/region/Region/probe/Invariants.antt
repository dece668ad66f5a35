use Rattle.stm_core.specs.Event.{probe}
use Rattle.stm_region.proofs.region.Region.probe.Given as goal

abbrev pub ghosts-load_as : goal.ghosts-load_as
ghosts-load_as g a = record { action = probe a.number; region = a.self.now }
