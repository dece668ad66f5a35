use Rattle.std.proofs.Common.{◌≡◌, ◌++◌, sym, ap, ◌∙◌, get_or, subst}
use Rattle.judge_search.specs.Marks.{MarksOneMore}
use Rattle.judge_search.proofs.Points.{point_not, point_on}
use Rattle.judge_search.proofs.point.point_after.Goals as goal

pub returns-then-not-branch : goal.returns-then-not-branch
returns-then-not-branch g c = λ point low beyond ran.
    let lines = c.args.calls.now.lines.items in
    let line = c.index-as_slice-place.result in
    let is : line ≡ get_or lines c.args.place line = c.index-as_slice-place.is ∙
    ap (λ ls. get_or ls c.args.place line) c.as_slice.ensures in
    point_not (g.M.Object.rules) c.args.calls.now point c.args.place line c.args.made c.requires.within is ran
    (sym c.in_ok-is_right.ensures ∙ c.if-not-branch.true)

pub returns : goal.returns
returns g c = λ point low beyond ran.
    let lines = c.args.calls.now.lines.items in
    let line = c.index-as_slice-place.result in
    let is : line ≡ get_or lines c.args.place line = c.index-as_slice-place.is ∙
    ap (λ ls. get_or ls c.args.place line) c.as_slice.ensures in
    point_on (g.M.Object.rules) c.args.calls.now point
    (record { low = c.in_ok-low.low; beyond = c.in_ok-low.beyond; machine = c.args.made.0 }) c.args.low
    c.args.beyond.now c.args.place line
    c.args.made.1 low beyond c.requires.within is ran (sym c.in_ok-is_right.ensures ∙ c.if-not-branch.false)
    c.requires.can
    (subst (λ b. MarksOneMore c.args.low b c.args.place (c.in_ok-low.low, c.in_ok-low.beyond.items))
    (c.in_ok-extend_from_slice.ensures.items
    ∙ ap (λ marks. marks ++ c.args.beyond.now) c.in_ok-marks.ensures.items)
    c.in_ok-low.ensures)
