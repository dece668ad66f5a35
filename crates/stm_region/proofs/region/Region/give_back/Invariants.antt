use Rattle.stm_core.specs.Event.{give_back}
use Rattle.stm_region.proofs.region.Region.give_back.Given as goal

abbrev pub ghosts-give_back_as : goal.ghosts-give_back_as
ghosts-give_back_as g a = record { action = give_back a.number; region = a.self.now }
