use Rattle.std.proofs.Common.{leb-true}
use Rattle.std.proofs.lemmas.Bool.{and_parts}
use Rattle.judge_calls.specs.Reading.{HasJudged, HasStoppedJudging}
use Rattle.cli_judge.specs.Judging.{JudgeStopped}
use Rattle.cli_judge.proofs.Ending.{judged}
use Rattle.cli_judge.proofs.Judgement.{judge_stopped}
use Rattle.cli_judge.proofs.judging.judge_alone.Goals as goal

pub judge_history-requires-clause-some : goal.judge_history-requires-clause-some
judge_history-requires-clause-some g c = leb-true _ _ (and_parts _ _ c.requires).0

pub judge_history-requires-clause-most : goal.judge_history-requires-clause-most
judge_history-requires-clause-most g c = leb-true _ _ (and_parts _ _ c.requires).1

pub returns : goal.returns
returns g c =
    let unread = g.R.Read.remaining c.args.input.now in
    let left = g.R.Read.remaining c.judge_history.new.input in
    let held = g.W.Write.contents c.args.output.now in
    judged (λ legal h. HasJudged c.args.blocks legal unread left held h)
    (λ fault. HasStoppedJudging c.args.blocks fault unread left held (g.W.Write.contents c.judge_history.new.output))
    (JudgeStopped c.args.blocks unread left held (g.W.Write.contents c.end_judged.new.output))
    c.judge_history.result _ _ _ (λ fault s line. judge_stopped c.args.blocks fault unread left held _ _ s line)
    c.judge_history.ensures.ok c.judge_history.ensures.err c.end_judged.ensures
