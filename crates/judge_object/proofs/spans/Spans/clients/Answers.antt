use Rattle.std.proofs.Common.{◌∙◌}
use Rattle.judge_object.proofs.spans.Spans.clients.Goals as goal

pub returns : goal.returns
returns c = λ earlier k. c.len.ensures ∙ k.clients
