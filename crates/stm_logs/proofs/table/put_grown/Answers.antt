use Rattle.std.proofs.Common.{ap, ◌∙◌}
use Rattle.std.specs.FinMap.{get}
use Rattle.stm_logs.specs.Log.{LogValue}
use Rattle.stm_logs.proofs.LogLemmas.{no_word, has_no_word}
use Rattle.stm_logs.proofs.table.put_grown.Goals as goal

pub put_roomy-requires-clause-new : goal.put_roomy-requires-clause-new
put_roomy-requires-clause-new g c =
    let roomy = c.in_ok-nodes.ensures in
    has_no_word _ _ _ roomy.log.ready.chained (ap (λ (w : LogValue). get w.words c.args.number) roomy.same ∙
    no_word _ _ _ c.requires.new)
