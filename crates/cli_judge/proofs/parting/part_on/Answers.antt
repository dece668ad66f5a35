use Rattle.std.proofs.Common.{sym, subst}
use Rattle.judge_part_text.specs.Naming.{shown}
use Rattle.judge_part_text.specs.Parting.{HasParted, HasStoppedParting}
use Rattle.judge_part_text.specs.Until.{HasPartedUntil, HasStoppedPartingUntil}
use Rattle.cli_judge.specs.Parting.{PartStopped, CutStopped, WritesPart}
use Rattle.cli_judge.proofs.Ending.{judged}
use Rattle.cli_judge.proofs.Judgement.{part_stopped, cut_stopped}
use Rattle.cli_judge.proofs.parting.part_on.Goals as goal

pub returns-in-Some : goal.returns-in-Some
returns-in-Some g c =
    let names = shown c.args.names.now in
    let line = c.in-Some.line in
    let unread = g.R.Read.remaining c.args.input.now in
    let left = g.R.Read.remaining c.write_part_until.new.input in
    let held = g.W.Write.contents c.args.output.now in
    let holds = g.W.Write.contents c.end_judged.new.output in
    subst (λ until. WritesPart names until c.end_judged.result unread left held holds) (sym c.in-Some.is)
    (judged (λ is_part h. HasPartedUntil names line is_part unread left held h)
    (λ fault. HasStoppedPartingUntil names line fault unread left held
    (g.W.Write.contents c.write_part_until.new.output))
    (CutStopped names line unread left held holds)
    c.write_part_until.result _ _ _ (λ fault s ends. cut_stopped names line fault unread left held _ _ s ends)
    c.write_part_until.ensures.ok c.write_part_until.ensures.err c.end_judged.ensures)

pub returns-in-None : goal.returns-in-None
returns-in-None g c =
    let names = shown c.args.names.now in
    let unread = g.R.Read.remaining c.args.input.now in
    let left = g.R.Read.remaining c.write_part.new.input in
    let held = g.W.Write.contents c.args.output.now in
    let holds = g.W.Write.contents c.end_judged-in-None.new.output in
    subst (λ until. WritesPart names until c.end_judged-in-None.result unread left held holds) (sym c.in-None.is)
    (judged (λ is_part h. HasParted names is_part unread left held h)
    (λ fault. HasStoppedParting names fault unread left held (g.W.Write.contents c.write_part.new.output))
    (PartStopped names unread left held holds)
    c.write_part.result _ _ _ (λ fault s line. part_stopped names fault unread left held _ _ s line)
    c.write_part.ensures.ok c.write_part.ensures.err c.end_judged-in-None.ensures)
