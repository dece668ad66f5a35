use Rattle.std.proofs.Common.{◌≡◌, take}
use Rattle.vac_model.specs.Run.{choice_of}
use Rattle.vac_sequential.proofs.tables.Tables.choice.Given as goal

abbrev pub invariant-loop-ask : goal.invariant-loop-ask
invariant-loop-ask l = l.best ≡ choice_of l.self l.kind (take l.ask-index l.asks)
