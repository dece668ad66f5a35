use Rattle.std.proofs.Common.{sym, ap, ◌∙◌}
use Rattle.stm_logs.specs.Log.{LogValue, pairs_of}
use Rattle.stm_logs.proofs.ChainLemmas.{empty_pairs}
use Rattle.stm_logs.proofs.LogLemmas.{held_none}
use Rattle.stm_logs.proofs.long.LongLog.words_of.Goals as goal

pub returns-in-None : goal.returns-in-None
returns-in-None g c = sym (ap (λ (w : LogValue). pairs_of w c.args.lock)
    (held_none c.self.inside.table _ c.in-None.is c.self.view_is) ∙ empty_pairs c.args.lock)
