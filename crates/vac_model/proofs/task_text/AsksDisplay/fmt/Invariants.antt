use Rattle.std.proofs.Common.{take}
use Rattle.std.specs.List.{flat_map}
use Rattle.std.specs.Fmt.{HasWritten, IsPlainFormatter}
use Rattle.vac_model.specs.TaskText.{spaced, item_words}
use Rattle.vac_model.proofs.task_text.AsksDisplay.fmt.Given as goal

-- the words so far
abbrev pub invariant-loop-kind : goal.invariant-loop-kind
invariant-loop-kind g l =
    IsPlainFormatter l.initial.f → HasWritten g.W.Write.write_str_gives l.initial.f
    (flat_map (λ ask. spaced (item_words ask.0 ask.1)) (take l.kind-index l.kind-items)) l.f
