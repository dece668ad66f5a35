use Rattle.std.proofs.Common.{sym}
use Rattle.judge_opacity.proofs.Parsing.{words_read}
use Rattle.judge_opacity.proofs.attempt.read_head.Goals as goal

pub returns : goal.returns
returns c = λ words.
    words_read words _ _ _ _ _ _ _ _ _ (record { span = c.in_ok-span.span; commits = c.in_ok-commits.commits })
    c.in_ok-client.ensures c.in_ok-begin.ensures
    c.in_ok-end.ensures c.in_ok-outcome.ensures (sym c.in_ok-span.ensures) (sym c.in_ok-commits.ensures)
