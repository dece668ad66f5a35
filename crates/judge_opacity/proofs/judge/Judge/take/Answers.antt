use Rattle.std.proofs.Common.{◌≡◌, None, cond, sym, ap, ◌∙◌, length, refl}
use Rattle.judge_opacity.specs.Parts.{attempt_of}
use Rattle.judge_opacity.specs.Words.{words_after, wrong_read}
use Rattle.judge_opacity.specs.Covered.{image_of, uncovered}
use Rattle.judge_opacity.proofs.Judged.{judges_taken}
use Rattle.judge_opacity.proofs.Searching.{fit_place, fit_reads}
use Rattle.judge_opacity.proofs.judge.Judge.take.Goals as goal

pub returns-then-not-head-clause-taken : goal.returns-then-not-head-clause-taken
returns-then-not-head-clause-taken c = λ words earlier f fits.
    let old = c.args.self.now.memory.words.items in
    let accesses = c.args.accesses.now in
    let place = fit_place earlier (attempt_of c.args.head.now c.args.accesses.now) fits in
    let reads = fit_reads words c.args.self.now earlier (attempt_of c.args.head.now c.args.accesses.now) f fits in
    let restored : c.undo.new.self.words.items ≡ old =
    c.undo.ensures ∙ c.in_ok-run.ensures.covered ∙ ap (λ t. uncovered t c.keep.new.self.words.items)
    c.keep.ensures.covered ∙ c.keep.ensures.words in
    (judges_taken words c.args.self.now _ earlier (attempt_of c.args.head.now c.args.accesses.now) f place reads
    (ap length restored)
    (ap image_of restored ∙ sym (ap (λ b. cond b (words_after (image_of old) accesses) (image_of old))
    c.if-not-head.true))
    (c.in_ok-push.ensures.kept _ f.spans place) c.in_ok-committed.ensures.count).taken refl

pub returns-else-not-head-clause-taken : goal.returns-else-not-head-clause-taken
returns-else-not-head-clause-taken c = λ words earlier f fits.
    let old = c.args.self.now.memory.words.items in
    let accesses = c.args.accesses.now in
    let place = fit_place earlier (attempt_of c.args.head.now c.args.accesses.now) fits in
    let reads : wrong_read (image_of old) accesses ≡ None = fit_reads words c.args.self.now earlier
    (attempt_of c.args.head.now c.args.accesses.now) f fits in
    let none : c.in_ok-run.field-0 ≡ None =
    sym c.in_ok-run.ensures.found ∙ ap (λ w. wrong_read (image_of w) accesses) c.keep.ensures.words ∙ reads in
    let left : image_of c.run.new.self.words.items ≡ words_after (image_of old) accesses =
    c.in_ok-run.ensures.words none ∙ ap (λ w. words_after (image_of w) accesses) c.keep.ensures.words in
    (judges_taken words c.args.self.now _ earlier (attempt_of c.args.head.now c.args.accesses.now) f place reads
    (c.in_ok-run.ensures.size ∙ ap length c.keep.ensures.words)
    (left ∙ sym (ap (λ b. cond b (words_after (image_of old) accesses) (image_of old)) c.if-not-head.false))
    (c.in_ok-push.ensures.kept _ f.spans place) c.in_ok-committed.ensures.count).taken refl
