use Rattle.stm_core.specs.Event.{lock}
use Rattle.stm_region.proofs.region.Region.exchange.Given as goal

abbrev pub ghosts-exchange_as : goal.ghosts-exchange_as
ghosts-exchange_as g a = record { action = lock a.number; region = a.self.now }
