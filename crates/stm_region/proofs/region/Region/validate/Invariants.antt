use Rattle.stm_core.specs.Event.{validate}
use Rattle.stm_region.proofs.region.Region.validate.Given as goal

abbrev pub ghosts-load_as : goal.ghosts-load_as
ghosts-load_as g a = record { action = validate a.number; region = a.self.now }
