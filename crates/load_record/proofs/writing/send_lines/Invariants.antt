use Rattle.std.proofs.Common.{[], take, map}
use Rattle.vac_lines.specs.Sent.{Sent}
use Rattle.load_record.specs.Lines.{line_entry, lines_text}
use Rattle.load_record.proofs.writing.send_lines.Given as goal

-- the lines so far
abbrev pub invariant-loop-line : goal.invariant-loop-line
invariant-loop-line g l = Sent (g.O.Write.contents l.fn.output) (g.O.Write.contents l.output) [] l.hand.items
    (lines_text (map line_entry (take l.line-index l.lines)))
