use Rattle.std.proofs.lemmas.List.{take_all}
use Rattle.judge_text.specs.Classing.{object_of, for_object}
use Rattle.judge_text.proofs.Counted.{name_next, objects_of_lines}
use Rattle.judge_text.proofs.counting.count_objects.Goals as goal

pub lines-preserved : goal.lines-preserved
lines-preserved g c =
    name_next (for_object (object_of c.args.names.now) g.M.Named.name) c.args.lines.now c.lines.place
    c.index-lines-place.result c.lines.objects c.insert.new.self
    c.name.result c.lines-test.true c.name.ensures c.lines.invariant c.in_ok-insert.ensures.updates

pub returns : goal.returns
returns g c =
    objects_of_lines (for_object (object_of c.args.names.now) g.M.Named.name) c.args.lines.now c.len.result
    c.lines.place c.lines.objects c.len.ensures.len
    c.len.ensures.unique c.lines.invariant (take_all c.lines.place c.args.lines.now c.lines-test.false)
