use Rattle.std.proofs.Common.{◌<◌, length, sym, ◌∙◌, subst}
use Rattle.judge_search.proofs.Marking.{passes_none, passes_more}
use Rattle.judge_search.proofs.marks.mark_low.Goals as goal

pub marks-init : goal.marks-init
marks-init c = passes_none c.args.low c.args.beyond.items

pub marks-preserved : goal.marks-preserved
marks-preserved c =
    let beyond = c.args.beyond in
    let passed = c.marks.passed in
    let within : passed < length beyond.items = subst (λ n. passed < n) (c.len.ensures ∙ beyond.ok.0)
    c.marks-test.true in
    passes_more c.args.low beyond.items c.marks.next passed c.index.result.now c.marks.invariant within
    (sym c.index.ensures ∙ c.if-index-next.true)
