use Rattle.std.proofs.Common.{◌<◌, ◌+◌, length, get_or, sym, ap, ◌∙◌, subst, arith}
use Rattle.std.specs.FinMap.{get}
use Rattle.judge_object.specs.declared.line.Line.{Line}
use Rattle.judge_search.specs.Links.{IsLink, IsLastOf, link_or}
use Rattle.judge_search.proofs.Soonest.{same_default}
use Rattle.judge_search.proofs.Lookback.{KnowsLasts, AreLinkedTo, lasts_none, lasts_more, linked_more, linked_none}
use Rattle.judge_search.proofs.Lookback.{linked_all}
use Rattle.judge_search.proofs.links.links_of.Goals as goal

pub lines-init : goal.lines-init
lines-init g c = (
  lasts_none c.args.lines.now c.new-lasts.result c.new-lasts.ensures,
  subst (λ ls. AreLinkedTo c.args.lines.now ls 0) (sym c.new-links.ensures.items) (linked_none c.args.lines.now),
)

pub lines-preserved : goal.lines-preserved
lines-preserved g c =
    let lines = c.args.lines.now in
    let p = c.lines.place in
    let line = c.index-lines-place.result in
    let within : p < length lines = c.lines-test.true in
    let link = c.link_of.result in
    let x = get_or lines p line in
    let is : IsLink lines p link = λ d.
    subst (λ l. IsLastOf lines (get_or lines p d).client p l) (sym (c.link_of.ensures
    ∙ ap (λ (y : Line _). link_or (get c.lines.lasts y.client)) (same_default lines p line d within)))
    (c.lines.invariant.0 (get_or lines p d).client) in (
      subst (KnowsLasts lines (p + 1)) (sym c.in_ok-insert.ensures)
          (lasts_more lines p c.lines.lasts x within (same_default lines p line x within) c.lines.invariant.0),
      subst (λ ls. AreLinkedTo lines ls (p + 1)) (sym c.in_ok-push.ensures.items)
          (linked_more lines c.lines.links.items p link c.lines.invariant.1 is),
    )

pub returns : goal.returns
returns g c =
    linked_all c.args.lines.now c.lines.links.items c.lines.place (let t = c.lines-test.false in omega arith)
    c.lines.invariant.1
