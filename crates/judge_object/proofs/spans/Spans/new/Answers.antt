use Rattle.std.proofs.Common.{refl}
use Rattle.judge_object.proofs.Keeping.{keeps_none}
use Rattle.judge_object.proofs.spans.Spans.new.Goals as goal

pub returns : goal.returns
returns c = keeps_none _ c.new.ensures refl refl
