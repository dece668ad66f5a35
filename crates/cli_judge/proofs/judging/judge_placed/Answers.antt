use Rattle.judge_opacity.specs.Placed.{HasPlaced, HasStoppedPlacing}
use Rattle.cli_judge.specs.Asking.{PlacingStopped}
use Rattle.cli_judge.proofs.Ending.{judged}
use Rattle.cli_judge.proofs.Judgement.{placing_stopped}
use Rattle.cli_judge.proofs.judging.judge_placed.Goals as goal

pub returns : goal.returns
returns g c =
    let unread = g.R.Read.remaining c.args.input.now in
    let left = g.R.Read.remaining c.place_attempts.new.input in
    let held = g.W.Write.contents c.args.output.now in
    judged (λ opaque h. HasPlaced c.args.words opaque unread left held h)
    (λ fault. HasStoppedPlacing c.args.words fault unread left held (g.W.Write.contents c.place_attempts.new.output))
    (PlacingStopped c.args.words unread left held (g.W.Write.contents c.end_judged.new.output))
    c.place_attempts.result _ _ _ (λ fault s line. placing_stopped c.args.words fault unread left held _ _ s line)
    c.place_attempts.ensures.ok c.place_attempts.ensures.err c.end_judged.ensures
