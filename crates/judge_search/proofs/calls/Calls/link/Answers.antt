use Rattle.std.proofs.Common.{◌≡◌, length, get_or, sym, ap, ◌∙◌, subst, arith}
use Rattle.judge_search.specs.Links.{IsLastOf}
use Rattle.judge_search.proofs.calls.Calls.link.Goals as goal

pub bounds-links-place : goal.bounds-links-place
bounds-links-place g c =
    let long : length c.as_slice-links.result.now ≡ length c.args.self.now.lines.items =
    ap length c.as_slice-links.ensures.value ∙ c.args.self.now.linked.length_is in
    let within = c.requires in
    omega arith

pub returns : goal.returns
returns g c = λ d.
    let lines = c.args.self.now.lines.items in
    let place = c.args.place in
    subst (λ ls. IsLastOf lines (get_or lines place d).client place (get_or ls place 0))
    (sym c.as_slice-links.ensures.value)
    (c.args.self.now.linked.each place c.requires d)
