use Rattle.stm_core.specs.Event.{put}
use Rattle.stm_region.proofs.region.Region.put.Given as goal

abbrev pub ghosts-store_as : goal.ghosts-store_as
ghosts-store_as g a = record { action = put a.number a.new; region = a.self.now }
