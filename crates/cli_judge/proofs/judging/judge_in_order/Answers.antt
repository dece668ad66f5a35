use Rattle.judge_opacity.specs.Reading.{HasJudgedAttempts, HasStoppedOnAttempts}
use Rattle.cli_judge.specs.Asking.{AttemptsStopped}
use Rattle.cli_judge.proofs.Ending.{judged}
use Rattle.cli_judge.proofs.Judgement.{attempts_stopped}
use Rattle.cli_judge.proofs.judging.judge_in_order.Goals as goal

pub returns : goal.returns
returns g c =
    let unread = g.R.Read.remaining c.args.input.now in
    let left = g.R.Read.remaining c.judge_attempts.new.input in
    let held = g.W.Write.contents c.args.output.now in
    judged (λ opaque h. HasJudgedAttempts c.args.words opaque unread left held h)
    (λ fault. HasStoppedOnAttempts c.args.words fault unread left held (g.W.Write.contents c.judge_attempts.new.output))
    (AttemptsStopped c.args.words unread left held (g.W.Write.contents c.end_judged.new.output))
    c.judge_attempts.result _ _ _ (λ fault s line. attempts_stopped c.args.words fault unread left held _ _ s line)
    c.judge_attempts.ensures.ok c.judge_attempts.ensures.err c.end_judged.ensures
