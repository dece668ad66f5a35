use Rattle.std.proofs.Common.{◌≡◌, cond, sym, ap, ◌∙◌, length}
use Rattle.judge_opacity.specs.Words.{words_after, wrong_read}
use Rattle.judge_opacity.specs.Covered.{image_of, uncovered}
use Rattle.judge_opacity.proofs.Judged.{judges_place, judges_read, judges_taken}
use Rattle.judge_opacity.proofs.judge.Judge.judge_attempt.Goals as goal

pub returns-in-Some-clause-judged : goal.returns-in-Some-clause-judged
returns-in-Some-clause-judged c = λ words earlier f.
    judges_place words _ earlier _ c.in-Some.wrong (c.in-Some.ensures _ f.spans)

pub returns-in-Some-2-clause-judged : goal.returns-in-Some-2-clause-judged
returns-in-Some-2-clause-judged c = λ words earlier f.
    let place = c.find.ensures _ f.spans ∙ c.in_default.is in
    let reads = ap (λ w. wrong_read (image_of w) c.args.self.now.accesses.items) (sym c.keep.ensures.words)
    ∙ ap (wrong_read (image_of c.keep.new.self.words.items)) (sym c.as_slice.ensures.value) ∙
    c.in_ok-violation.ensures.found ∙ c.in-Some-2.is in
    judges_read words c.args.self.now _ earlier _ c.in-Some-2.violation f place reads

pub returns-then-not-head-clause-judged : goal.returns-then-not-head-clause-judged
returns-then-not-head-clause-judged c = λ words earlier f.
    let place = c.find.ensures _ f.spans ∙ c.in_default.is in
    let old = c.args.self.now.memory.words.items in
    let accesses = c.args.self.now.accesses.items in
    let reads = ap (λ w. wrong_read (image_of w) accesses) (sym c.keep.ensures.words)
    ∙ ap (wrong_read (image_of c.keep.new.self.words.items)) (sym c.as_slice.ensures.value) ∙
    c.in_ok-violation.ensures.found ∙ c.in_default-2.is in
    let restored : c.undo.new.self.words.items ≡ old =
    c.undo.ensures ∙ c.in_ok-violation.ensures.covered ∙ ap (λ t. uncovered t c.keep.new.self.words.items)
    c.keep.ensures.covered ∙ c.keep.ensures.words in
    judges_taken words c.args.self.now _ earlier _ f place reads (ap length restored)
    (ap image_of restored ∙ sym (ap (λ b. cond b (words_after (image_of old) accesses) (image_of old))
    c.if-not-head.true))
    (c.in_ok-push.ensures.kept _ f.spans place) c.in_ok-committed.ensures.count

pub returns-else-not-head-clause-judged : goal.returns-else-not-head-clause-judged
returns-else-not-head-clause-judged c = λ words earlier f.
    let place = c.find.ensures _ f.spans ∙ c.in_default.is in
    let old = c.args.self.now.memory.words.items in
    let accesses = c.args.self.now.accesses.items in
    let reads = ap (λ w. wrong_read (image_of w) accesses) (sym c.keep.ensures.words)
    ∙ ap (wrong_read (image_of c.keep.new.self.words.items)) (sym c.as_slice.ensures.value) ∙
    c.in_ok-violation.ensures.found ∙ c.in_default-2.is in
    let left : image_of c.run.new.self.words.items ≡ words_after (image_of old) accesses =
    c.in_ok-violation.ensures.words c.in_default-2.is ∙ ap (λ w. words_after (image_of w) c.as_slice.result.now)
    c.keep.ensures.words ∙ ap (words_after (image_of old)) c.as_slice.ensures.value in
    judges_taken words c.args.self.now _ earlier _ f place reads
    (c.in_ok-violation.ensures.size ∙ ap length c.keep.ensures.words)
    (left ∙ sym (ap (λ b. cond b (words_after (image_of old) accesses) (image_of old)) c.if-not-head.false))
    (c.in_ok-push.ensures.kept _ f.spans place) c.in_ok-committed.ensures.count
