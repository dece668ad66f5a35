use Rattle.std.proofs.Common.{◌≡◌, sym, ap, ◌∙◌, refl, get_or}
use Rattle.judge_object.specs.Call.{Call}
use Rattle.judge_object.specs.declared.line.Line.{Line}
use Rattle.judge_search.proofs.Sorted.{call_here}
use Rattle.judge_search.proofs.point.Point.after.Goals as goal

pub returns : goal.returns
returns g c =
    let self = c.args.self.now in
    let lines = c.args.calls.now.lines.items in
    let line = c.index-as_slice-place.result in
    let is : line ≡ get_or lines c.args.place line = c.index-as_slice-place.is ∙
    ap (λ ls. get_or ls c.args.place line) c.as_slice.ensures in
    c.in_ok-next.ensures self refl (sym c.as_slice-2.ensures.value)
    (ap (λ (a : Call _). g.M.Object.rules.run self.machine a.op)
    (call_here (g.M.Object.rules) lines c.args.place line c.requires.within is)
    ∙ ap (λ (l : Line _). g.M.Object.rules.run self.machine l.op) c.index-as_slice-place.is ∙ c.in_ok-made.ensures)
