use Rattle.std.proofs.Common.{◌≡◌, true, sym, ap, ◌∙◌, is_none, get_or}
use Rattle.judge_opacity.specs.Parts.{attempt_of}
use Rattle.judge_opacity.specs.Verdict.{violation_of}
use Rattle.judge_opacity.specs.Logs.{logged_attempt}
use Rattle.judge_opacity.proofs.Searching.{free_comes, none_next, writer_comes, writer_stuck, same_follows, at_any}
use Rattle.judge_opacity.proofs.Searching.{none_is}
use Rattle.judge_opacity.proofs.placing.find_next.Goals as goal

pub returns-in-Some-clause-found : goal.returns-in-Some-clause-found
returns-in-Some-clause-found c = λ words earlier f.
    free_comes earlier c.args.left.now c.in-Some.place
    (rw c.in-Some.is at (c.in_ok-place.ensures.found words earlier f))

pub returns-in_default-first_writer-clause-found : goal.returns-in_default-first_writer-clause-found
returns-in_default-first_writer-clause-found c = λ words earlier f.
    none_next earlier c.args.left.now (rw c.in_default.is at (c.in_ok-place.ensures.found words earlier f))
    c.in_default-first_writer.ensures

pub returns-then-branch-clause-found : goal.returns-then-branch-clause-found
returns-then-branch-clause-found c = λ words earlier f.
    let left = c.args.left.now in
    let l = c.index-left-place.result in
    let place = c.in-Some-first_writer.place in
    let now = same_follows words c.args.judge.now c.find_free.new.judge earlier c.in_ok-place.ensures.same f in
    let fits : is_none (violation_of earlier (logged_attempt l)) ≡ true =
    ap (λ t. is_none (violation_of earlier (attempt_of l.head t))) (sym c.as_slice.ensures.value)
    ∙ sym (c.in_ok-fits.ensures.fits words earlier now) ∙ c.if-branch.true in
    let first = c.in-Some-first_writer.ensures in
    writer_comes earlier left place (rw c.in_default.is at (c.in_ok-place.ensures.found words earlier f)) first
    (λ d. none_is (violation_of earlier (logged_attempt (get_or left place d)))
    (ap (λ y. is_none (violation_of earlier (logged_attempt y)))
    (at_any left place l d first.within c.index-left-place.is) ∙ fits))

pub returns-clause-found : goal.returns-clause-found
returns-clause-found c = λ words earlier f.
    let left = c.args.left.now in
    let l = c.index-left-place.result in
    let place = c.in-Some-first_writer.place in
    let now = same_follows words c.args.judge.now c.find_free.new.judge earlier c.in_ok-place.ensures.same f in
    let first = c.in-Some-first_writer.ensures in
    writer_stuck earlier left place l (rw c.in_default.is at (c.in_ok-place.ensures.found words earlier f)) first
    (ap (λ y. is_none (violation_of earlier (logged_attempt y))) (sym c.index-left-place.is)
    ∙ ap (λ t. is_none (violation_of earlier (attempt_of l.head t))) (sym c.as_slice.ensures.value)
    ∙ sym (c.in_ok-fits.ensures.fits words earlier now) ∙ c.if-branch.false)
