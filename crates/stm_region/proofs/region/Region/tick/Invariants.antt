use Rattle.stm_core.specs.Event.{tick}
use Rattle.stm_region.proofs.region.Region.tick.Given as goal

abbrev pub ghosts-tick_as : goal.ghosts-tick_as
ghosts-tick_as g a = record {
  action = tick a.from (g.T.Tag.numbers a.tag.now) (g.W.Writes.pairs a.writes.now);
  region = a.self.now;
}
