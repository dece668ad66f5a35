use Rattle.std.proofs.Common.{◌≡◌, None, sym, ap, subst, ◌∷◌}
use Rattle.judge_opacity.specs.Parts.{attempt_of}
use Rattle.judge_opacity.specs.Attempt.{Attempt}
use Rattle.judge_opacity.specs.declared.logged.Logged.{Logged}
use Rattle.judge_opacity.specs.Verdict.{violation_of}
use Rattle.judge_opacity.specs.Judging.{FollowsAttempts}
use Rattle.judge_opacity.specs.Logs.{logged_attempt}
use Rattle.judge_opacity.proofs.Searching.{on_ok, at_any}
use Rattle.judge_opacity.proofs.placing.take_at.Goals as goal

pub returns-clause-taken : goal.returns-clause-taken
returns-clause-taken c =
    let left = c.args.left.now.items in
    let x = c.remove-logged.result in
    on_ok c.take.result c.take.ensures.taken (λ t words earlier d f.
    subst (λ (y : Logged). violation_of earlier (logged_attempt y) ≡ None →
    FollowsAttempts words c.take.new.self (logged_attempt y ∷ earlier))
    (sym (at_any left c.args.place x d c.requires.place c.remove-logged.ensures.value))
    (subst (λ (a : Attempt). violation_of earlier a ≡ None → FollowsAttempts words c.take.new.self (a ∷ earlier))
    (ap (attempt_of x.head) c.as_slice.ensures.value) (t words earlier f)))
