use Rattle.cli_script.specs.Check.{Checked, CheckStopped}
use Rattle.cli_main.specs.Ending.{NamedAfter}
use Rattle.cli_main.proofs.Ending.{checked, of_any}
use Rattle.cli_main.proofs.program.check.Goals as goal

pub returns : goal.returns
returns g c =
    let unread = g.R.Read.remaining c.args.input.now in
    let left = g.R.Read.remaining c.check_words.new.input in
    let held = g.W.Write.contents c.args.output.now in
    let middle = g.W.Write.contents c.check_words.new.output in
    checked (λ sound h. Checked sound unread left held h) (λ _. CheckStopped unread left held middle)
    (NamedAfter (CheckStopped unread left held) (g.W.Write.contents c.end_checked.new.output))
    c.check_words.result _ _ _ (λ fault s line. (middle, s, (fault, line))) c.check_words.ensures.ok
    (of_any _ c.check_words.result c.check_words.ensures.err) c.end_checked.ensures
