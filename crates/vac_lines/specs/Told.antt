-- The messages of a text to a sink.
use Rattle.std.specs.Prelude.{ℕ, List, [], ◌∷◌, map, length, nat_lt, if◌then◌else◌}
use Rattle.vac_lines.specs.Lines.{lines_of}

-- a message to a sink: a line; that a line is too long; or a pause, when all lines that were read
-- to their end have been passed
pub data Message : Type 0 where
  Line : (text : List ℕ) → Message
  LongLine : Message
  Pause : Message

-- the message for a line: the line, or that it is longer than the longest allowed
abbrev pub message_of : ℕ → List ℕ → Message
message_of longest line = if nat_lt longest (length line) then LongLine else Line line

-- the messages for the lines of a text, in order
abbrev pub line_messages : ℕ → List ℕ → List Message
line_messages longest text = map (message_of longest) (lines_of text)

-- the messages without the pauses
abbrev pub lines_in : List Message → List Message
lines_in [] = []
lines_in (Line text ∷ more) = Line text ∷ lines_in more
lines_in (LongLine ∷ more) = LongLine ∷ lines_in more
lines_in (Pause ∷ more) = lines_in more
