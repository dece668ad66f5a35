use Rattle.std.proofs.Common.{◌≤◌, length, take}
use Rattle.std.specs.Io.KnownBytes.{Appends}
use Rattle.vac_lines.proofs.writing.write_all.Given as goal

-- the bytes that were sent were appended
abbrev pub invariant-writes : goal.invariant-writes
invariant-writes g l = (l.sent ≤ length l.text) × Appends (g.W.Write.contents l.fn.output) (g.W.Write.contents l.output)
    (take l.sent l.text)
