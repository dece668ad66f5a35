use Rattle.std.proofs.Common.{◌≡◌, ◌<◌, ◌+◌, ◌-◌, ◌==◌, length, take, get_or, refl, sym, ap, ◌∙◌, inl, inr, arith}
use Rattle.judge_object.specs.declared.line.Line.{Line}
use Rattle.judge_search.specs.Marks.{is_made}
use Rattle.std.specs.List.{list_any}
use Rattle.judge_object.specs.Call.{Call}
use Rattle.judge_search.specs.Calls.{calls_of, rest_of, tries_from}
use Rattle.judge_search.proofs.Points.{IsFirstLeft, tries_pass, tries_found, tries_jump}
use Rattle.judge_search.proofs.point.next_between.Goals as goal
use Rattle.judge_search.proofs.point.next_between.Goals.{then-is_made-via-then-is_made}
use Rattle.judge_search.proofs.point.next_between.Goals.{then-is_made-via-else-is_made+then-end-from-2}

pub lines-init : goal.lines-init
lines-init g c = refl

pub returns-then-end-from-clause-next : goal.returns-then-end-from-clause-next
returns-then-end-from-clause-next g c = λ order.
    let lines = c.args.calls.now.lines.items in
    let made = is_made c.args.low c.args.beyond.now in
    let first = c.args.first in
    let same = c.as_slice-lines.ensures in
    let line = c.index-lines-first.result in
    let left : IsFirstLeft (g.M.Object.rules) made lines first line = record {
      sorted = c.args.calls.now.sorted;
      within = c.requires.first.within;
      is = c.index-lines-first.is ∙ ap (λ ls. get_or ls first line) same;
      below = c.requires.first.below;
      left = c.requires.first.left;
    } in
    let p = c.lines.place in
    let n = c.args.to - p in
    let sum : p + n ≡ c.args.to = omega arith in
    let next = c.index-lines-place.result in
    let here : next ≡ get_or lines p next = c.index-lines-place.is ∙ ap (λ ls. get_or ls p next) same in
    let end : line.end ≡ (get_or c.as_slice-lines.result.now first line).end =
    ap (λ (x : Line _). x.end) c.index-lines-first.is in
    let soonest : next.soonest ≡ (get_or c.as_slice-lines.result.now p next).soonest =
    ap (λ (x : Line _). x.soonest) c.index-lines-place.is in
    let from = c.from.ensures in
    let test = c.if-end-from.true in
    c.lines.invariant
    ∙ tries_jump (g.M.Object.rules) made lines first line p n next left
    (let w = c.requires.within in omega arith) here
    (λ j d m k. sym (c.requires.alike p j d (omega arith) m (omega arith))) (omega arith)
    ∙ ap (tries_from made (calls_of lines)) sum

pub lines-preserved-then-is_made : goal.lines-preserved-then-is_made
lines-preserved-then-is_made g c =
    let lines = c.args.calls.now.lines.items in
    let made = is_made c.args.low c.args.beyond.now in
    let first = c.args.first in
    let same = c.as_slice-lines.ensures in
    let line = c.index-lines-first.result in
    let left : IsFirstLeft (g.M.Object.rules) made lines first line = record {
      sorted = c.args.calls.now.sorted;
      within = c.requires.first.within;
      is = c.index-lines-first.is ∙ ap (λ ls. get_or ls first line) same;
      below = c.requires.first.below;
      left = c.requires.first.left;
    } in
    let p = c.lines.place in
    let next = c.index-lines-place.result in
    let here : next ≡ get_or lines p next = c.index-lines-place.is ∙ ap (λ ls. get_or ls p next) same in
    let within : p < length lines = (let w = c.requires.within in omega arith) in
    let end : line.end ≡ (get_or c.as_slice-lines.result.now first line).end =
    ap (λ (x : Line _). x.end) c.index-lines-first.is in
    let begin : next.begin ≡ (get_or c.as_slice-lines.result.now p next).begin =
    ap (λ (x : Line _). x.begin) c.index-lines-place.is in
    c.lines.invariant ∙ tries_pass (g.M.Object.rules) made lines first line p next left within here
    (elim c.then-is_made.branch [
      | then-is_made-via-then-is_made w ↦ inl (sym c.is_made.ensures ∙ w.if-is_made.true)
      | then-is_made-via-else-is_made+then-end-from-2 w ↦
          let from = w.from-else-is_made.ensures in let test = w.if-end-from-2.true in inr (inl (omega arith))
    ])

pub returns-then-not-has_earlier-clause-next : goal.returns-then-not-has_earlier-clause-next
returns-then-not-has_earlier-clause-next g c =
    let lines = c.args.calls.now.lines.items in
    let made = is_made c.args.low c.args.beyond.now in
    let first = c.args.first in
    let same = c.as_slice-lines.ensures in
    let line = c.index-lines-first.result in
    let left : IsFirstLeft (g.M.Object.rules) made lines first line = record {
      sorted = c.args.calls.now.sorted;
      within = c.requires.first.within;
      is = c.index-lines-first.is ∙ ap (λ ls. get_or ls first line) same;
      below = c.requires.first.below;
      left = c.requires.first.left;
    } in
    let p = c.lines.place in
    let next = c.index-lines-place.result in
    let here : next ≡ get_or lines p next = c.index-lines-place.is ∙ ap (λ ls. get_or ls p next) same in
    let within : p < length lines = (let w = c.requires.within in omega arith) in
    let end : line.end ≡ (get_or c.as_slice-lines.result.now first line).end =
    ap (λ (x : Line _). x.end) c.index-lines-first.is in
    let begin : next.begin ≡ (get_or c.as_slice-lines.result.now p next).begin =
    ap (λ (x : Line _). x.begin) c.index-lines-place.is in
    let from = c.from-else-is_made.ensures in
    let test = c.if-end-from-2.false in
    tries_found (g.M.Object.rules) made lines first line c.args.from p next left within here
    c.lines.invariant
    (sym c.is_made.ensures ∙ c.if-is_made.false) (omega arith)
    (ap (λ (x : Line _). list_any (λ (o : Call _). o.client == x.client)
    (rest_of made 0 (take p (calls_of lines)))) here
    ∙ sym (c.has_earlier.ensures next) ∙ c.if-not-has_earlier.true)

pub lines-preserved : goal.lines-preserved
lines-preserved g c =
    let lines = c.args.calls.now.lines.items in
    let made = is_made c.args.low c.args.beyond.now in
    let first = c.args.first in
    let same = c.as_slice-lines.ensures in
    let line = c.index-lines-first.result in
    let left : IsFirstLeft (g.M.Object.rules) made lines first line = record {
      sorted = c.args.calls.now.sorted;
      within = c.requires.first.within;
      is = c.index-lines-first.is ∙ ap (λ ls. get_or ls first line) same;
      below = c.requires.first.below;
      left = c.requires.first.left;
    } in
    let p = c.lines.place in
    let next = c.index-lines-place.result in
    let here : next ≡ get_or lines p next = c.index-lines-place.is ∙ ap (λ ls. get_or ls p next) same in
    let within : p < length lines = (let w = c.requires.within in omega arith) in
    c.lines.invariant ∙ tries_pass (g.M.Object.rules) made lines first line p next left within here
    (inr (inr (ap (λ (x : Line _). list_any (λ (o : Call _). o.client == x.client)
    (rest_of made 0 (take p (calls_of lines)))) here
    ∙ sym (c.has_earlier.ensures next) ∙ c.if-not-has_earlier.false)))

pub returns-clause-next : goal.returns-clause-next
returns-clause-next g c = λ order.
    let lines = c.args.calls.now.lines.items in
    let made = is_made c.args.low c.args.beyond.now in
    let test = c.lines-test.false in
    c.lines.invariant ∙ ap (tries_from made (calls_of lines)) (let e : c.lines.place ≡ c.args.to = omega arith in e)
