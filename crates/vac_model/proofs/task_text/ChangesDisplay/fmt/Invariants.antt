use Rattle.std.proofs.Common.{take}
use Rattle.std.specs.List.{flat_map}
use Rattle.std.specs.Fmt.{HasWritten, IsPlainFormatter}
use Rattle.vac_model.specs.TaskText.{spaced, further_words}
use Rattle.vac_model.proofs.task_text.ChangesDisplay.fmt.Given as goal

-- the words so far
abbrev pub invariant-loop-change : goal.invariant-loop-change
invariant-loop-change g l =
    IsPlainFormatter l.initial.f → HasWritten g.W.Write.write_str_gives l.initial.f
    (flat_map (λ change. spaced (further_words change)) (take l.change-index l.rest)) l.f
