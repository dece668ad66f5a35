use Rattle.std.proofs.Common.{rules}
use Rattle.load_tasks.proofs.Drawing.{drawn_times}
use Rattle.load_tasks.proofs.Ranges.{all_more}
use Rattle.load_tasks.proofs.tasks.Drawing.draw_parts.Goals as goal

pub parts-preserved : goal.parts-preserved
parts-preserved g c = record {
  count = search rules;
  drawn = rw c.push.ensures.items (drawn_times g.D.Draws.leads c.parts.counter
      (g.P.Part.read c.args.self.now.settings.now) _ _ _ _ _ c.parts.invariant.drawn c.draw.ensures.drawn);
  range = rw c.push.ensures.items (all_more g.P.Part.is_part c.parts.parts.items c.draw.result c.parts.invariant.range
      c.draw.ensures.range);
}
