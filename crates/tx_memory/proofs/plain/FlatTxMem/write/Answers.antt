use Rattle.std.proofs.Common.{ℕ, List, set, ap, ◌∙◌}
use Rattle.tx_memory.specs.Plain.{numbered}
use Rattle.tx_memory.specs.PlainSeen.{flat_write}
use Rattle.tx_memory.proofs.plain.FlatTxMem.write.Goals as goal

pub returns-clause-answer : goal.returns-clause-answer
returns-clause-answer c =
    ap (λ (ys : List ℕ). numbered 0 (set ys c.args.addr.0 c.args.value)) c.self.view_is ∙ flat_write _ _ _ c.requires
