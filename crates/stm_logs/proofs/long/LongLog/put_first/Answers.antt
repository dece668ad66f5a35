use Rattle.std.proofs.Common.{ap, ◌∙◌, sym}
use Rattle.stm_logs.specs.Log.{LogValue}
use Rattle.stm_logs.specs.Held.{with_word}
use Rattle.stm_logs.proofs.long.LongLog.put_first.Goals as goal

pub returns : goal.returns
returns g c = c.in_ok-with_word.ensures ∙ ap (λ (w : LogValue). with_word w c.args.addr.0 c.args.lock c.args.value)
    (sym c.requires)
