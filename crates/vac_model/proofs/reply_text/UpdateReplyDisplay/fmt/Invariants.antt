use Rattle.std.proofs.Common.{take}
use Rattle.std.specs.List.{flat_map}
use Rattle.std.specs.Fmt.{HasWritten, IsPlainFormatter}
use Rattle.vac_model.specs.ReplyText.{change_text}
use Rattle.vac_model.proofs.reply_text.UpdateReplyDisplay.fmt.Given as goal

-- the results so far
abbrev pub invariant-loop-refused : goal.invariant-loop-refused
invariant-loop-refused g l =
    IsPlainFormatter l.initial.f → HasWritten g.W.Write.write_str_gives l.initial.f
    (flat_map change_text (take l.refused-index l.refused-items)) l.f
