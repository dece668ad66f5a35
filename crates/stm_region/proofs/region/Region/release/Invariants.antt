use Rattle.stm_core.specs.Event.{release}
use Rattle.stm_region.proofs.region.Region.release.Given as goal

abbrev pub ghosts-store_as : goal.ghosts-store_as
ghosts-store_as g a = record { action = release a.number; region = a.self.now }
