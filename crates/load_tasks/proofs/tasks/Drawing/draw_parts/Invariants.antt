use Rattle.std.proofs.Common.{◌≡◌, true, length}
use Rattle.std.specs.List.{list_all}
use Rattle.load_tasks.specs.Draws.{Drawn, times_over}
use Rattle.load_tasks.proofs.tasks.Drawing.draw_parts.Given as goal

abbrev pub invariant-parts : goal.invariant-parts
invariant-parts g l = record {
  count : length l.parts.items ≡ l.counter;
  drawn : Drawn g.D.Draws.leads (times_over l.counter (g.P.Part.read l.fn.self.settings.now)) l.fn.draws l.parts.items
      l.draws;
  range : list_all g.P.Part.is_part l.parts.items ≡ true;
}
