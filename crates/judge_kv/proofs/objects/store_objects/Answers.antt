use Rattle.judge_search.specs.Calls.{calls_of}
use Rattle.judge_text.specs.Classing.{object_of}
use Rattle.judge_kv.proofs.Joining.{are_together, are_classes}
use Rattle.judge_kv.proofs.objects.store_objects.Goals as goal

pub returns-then-touching : goal.returns-then-touching
returns-then-touching c =
    are_together (calls_of c.args.lines.now) (c.in_ok-touching.ensures.some c.if-touching.true)

pub returns : goal.returns
returns c =
    are_classes (calls_of c.args.lines.now) c.in_ok-classes.classes (object_of c.joined.result)
    c.in_ok-classes.ensures.joined c.joined.ensures (c.in_ok-touching.ensures.none c.if-touching.false)
