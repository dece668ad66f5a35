use Rattle.std.proofs.Common.{◌≡◌, ◌<◌, length, ap, ◌∙◌, arith}
use Rattle.judge_text.specs.Classes.{parent_at}
use Rattle.judge_text.proofs.Classing.{halved_formed, nearer, same_more, flat_more}
use Rattle.judge_text.proofs.classes.Classes.flatten.Goals as goal

pub places-preserved : goal.places-preserved
places-preserved c =
    let old = c.places.self in
    let new = c.set_parent.new.self in
    let place = c.places.place in
    let above = c.parent_of-above.result in
    let i = c.places.invariant in
    let long = i.3 in
    let w : place < length old.parents.items = (let t = c.places-test.true in omega arith) in
    let is : above ≡ parent_at old (parent_at old place) =
    c.parent_of-above.ensures ∙ ap (parent_at old) c.parent_of-parent.ensures in
    let set = c.set_parent.ensures in (
      halved_formed old new place above set i.0 w is,
      same_more c.args.self.now old new i.1 (nearer old new place above set i.0 w is),
      flat_more old new place above set i.0 w is i.2,
      set.long ∙ long,
    )
