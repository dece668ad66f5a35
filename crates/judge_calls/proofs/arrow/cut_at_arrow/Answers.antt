use Rattle.std.proofs.Common.{◌≡◌, ◌-◌, ◌+◌, ◌∙◌, ℕ, List, false, length, take, drop, subst, sym, arith, refl}
use Rattle.std.proofs.lemmas.Bool.Decides.{Decides-eqb}
use Rattle.std.proofs.lemmas.Slice.Eq.{slice_eq-Decides}
use Rattle.vac_lines.proofs.Extends.{taken_end}
use Rattle.judge_calls.specs.Call.{is_arrow}
use Rattle.judge_calls.proofs.Arrows.{Reached, reached_more, reached_rest, arrow_later, no_arrow}
use Rattle.judge_calls.proofs.arrow.cut_at_arrow.Goals as goal

-- the rest of the line, as the code lends it
lent : (line : List ℕ) (start : ℕ) → Reached line start (drop start line) →
    Reached line start (take (length line - start) (drop start line))
lent line start at = subst (Reached line start) (sym (taken_end line start)) at

pub returns-then-eq : goal.returns-then-eq
returns-then-eq c =
    let cut = c.in-Some.ensures in
    let same = (slice_eq-Decides Decides-eqb _ _ _ c.eq.ensures).0 c.if-eq.true in
    arrow_later _ _ _ _ c.loop-word.start (lent _ _ c.loop-word.invariant) (omega arith) cut.0 cut.1 same

pub loop-word-preserved : goal.loop-word-preserved
loop-word-preserved c =
    let cut = c.in-Some.ensures in
    let other : is_arrow c.in-Some.word.now ≡ false = sym c.eq.ensures ∙ c.if-eq.false in
    let next = c.loop-word.start + (length c.in-Some.word.now + 1) in
    let more = reached_more _ _ _ _ c.in-Some.behind.now next (lent _ _ c.loop-word.invariant) cut.0 cut.1 other refl in
    subst (Reached c.args.line.now next) (sym (reached_rest _ _ _ more)) more

pub returns : goal.returns
returns c = no_arrow _ _ c.loop-word.start (lent _ _ c.loop-word.invariant) c.in_default.ensures
