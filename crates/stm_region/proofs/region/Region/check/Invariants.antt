use Rattle.stm_core.specs.Event.{check}
use Rattle.stm_region.proofs.region.Region.check.Given as goal

abbrev pub ghosts-load_as : goal.ghosts-load_as
ghosts-load_as g a = record { action = check a.number; region = a.self.now }
