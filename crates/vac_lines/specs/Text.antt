-- The texts of faults, and the comparison of a given text with a reply.
use Rattle.std.specs.Prelude.{◌≡◌, Bool, true, Option, Some, None, List, ◌++◌, length, take, codes, ℕ}
use Rattle.std.specs.Str.{bytes_eq}
use Rattle.vac_model.specs.declared.replies.Reply.{Reply}
use Rattle.vac_model.specs.ReplyText.{reply_text}
use Rattle.vac_lines.specs.declared.fault.LineFault.{LineFault}
use Rattle.vac_lines.specs.declared.fault.LineFault.TheVariants as fault

-- true if the given text is the text of the expected reply, or no text was given
abbrev pub is_right : Option (List ℕ) → Reply → Bool
is_right None expected = true
is_right (Some text) expected = bytes_eq text (reply_text expected)

-- the name of a line's fault. The refusal of memory has a name too, but is no fault of a line
abbrev pub fault_name : LineFault → List ℕ
fault_name fault.LongLine = codes "long-line"
fault_name fault.BadByte = codes "bad-byte"
fault_name fault.BadCommand = codes "bad-command"
fault_name fault.BadCount = codes "bad-count"
fault_name fault.BadKind = codes "bad-kind"
fault_name fault.BadNumber = codes "bad-number"
fault_name fault.Memory = codes "memory"

-- the text of a line's fault
abbrev pub fault_text : LineFault → List ℕ
fault_text fault = codes "fault " ++ fault_name fault

-- the new text is the old one with something appended
abbrev pub Extends : List ℕ → List ℕ → Type 0
Extends old new = take (length old) new ≡ old
