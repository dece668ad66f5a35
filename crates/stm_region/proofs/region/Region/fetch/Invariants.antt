use Rattle.stm_core.specs.Event.{fetch}
use Rattle.stm_region.proofs.region.Region.fetch.Given as goal

abbrev pub ghosts-load_as : goal.ghosts-load_as
ghosts-load_as g a = record { action = fetch a.number; region = a.self.now }
