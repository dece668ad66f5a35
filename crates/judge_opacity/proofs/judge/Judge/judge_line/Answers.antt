use Rattle.std.proofs.Common.{sym, ap, ◌∙◌, Some, None}
use Rattle.judge_opacity.specs.Attempt.{text_attempt}
use Rattle.judge_opacity.specs.Parts.{attempt_of}
use Rattle.judge_opacity.proofs.Judged.{JudgesLine, ends_wrong, takes_attempt}
use Rattle.judge_opacity.proofs.judge.Judge.judge_line.Goals as goal

pub returns-in-Some-clause-judged : goal.returns-in-Some-clause-judged
returns-in-Some-clause-judged c =
    let read = rw c.in-Ok.is at c.in_ok-head.ensures.read in
    let judged = rw c.in-Some.is at c.in_ok-violation-in-Ok.ensures.judged in
    let line : JudgesLine c.args.self.now c.judge_attempt.new.self (λ words. text_attempt words c.args.text.now)
    (Some c.in-Some.violation) =
    λ words earlier f. (
      attempt_of c.in-Ok.head c.read_attempt.new.accesses.items,
      ap (λ w. text_attempt w c.args.text.now) (sym (c.size.ensures ∙ f.size)) ∙ read,
      judged words earlier (record { size = f.size; left = f.left; spans = f.spans; committed = f.committed }),
    ) in
    ends_wrong c.args.self.now c.judge_attempt.new.self _ c.in_ok-line.line c.in-Some.violation line
    c.in_ok-line.ensures.line

pub returns-in-None-clause-judged : goal.returns-in-None-clause-judged
returns-in-None-clause-judged c =
    let read = rw c.in-Ok.is at c.in_ok-head.ensures.read in
    let judged = rw c.in-None.is at c.in_ok-violation-in-Ok.ensures.judged in
    let line : JudgesLine c.args.self.now c.judge_attempt.new.self (λ words. text_attempt words c.args.text.now) None =
    λ words earlier f. (
      attempt_of c.in-Ok.head c.read_attempt.new.accesses.items,
      ap (λ w. text_attempt w c.args.text.now) (sym (c.size.ensures ∙ f.size)) ∙ read,
      judged words earlier (record { size = f.size; left = f.left; spans = f.spans; committed = f.committed }),
    ) in
    takes_attempt c.args.self.now c.judge_attempt.new.self _ line
