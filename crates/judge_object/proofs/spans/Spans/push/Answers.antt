use Rattle.std.proofs.Common.{refl}
use Rattle.judge_object.proofs.Keeping.{keeps_more}
use Rattle.judge_object.proofs.spans.Spans.push.Goals as goal

pub returns-clause-kept : goal.returns-clause-kept
returns-clause-kept c = λ earlier k well.
    keeps_more _ _ _ earlier k well c.in_ok-insert.ensures c.max-self.ensures refl
