use Rattle.std.proofs.Common.{◌≡◌, ◌≤◌, ◌+◌, ◌*◌, length}
use Rattle.vac_lines.specs.declared.reading.TheConstants.{MOST_LINES}
use Rattle.vac_lines.specs.Feeding.{HasBegun}
use Rattle.vac_lines.proofs.Telling.{HeardTo}
use Rattle.vac_lines.proofs.reading.read_lines.Given as goal

-- the chunks so far were read, and their lines were passed
abbrev pub invariant-reads : goal.invariant-reads
invariant-reads g l = record {
  longest : l.lines.longest ≡ l.fn.longest;
  progress : HeardTo g.S.Sink.hears l.fn.longest (g.R.Read.remaining l.fn.input) (g.R.Read.remaining l.input)
      l.lines.line.items l.fn.sink l.fn.output l.sink l.output;
  begun : HasBegun l.fn.longest l.lines.line.items;
  room : MOST_LINES ≤ g.S.Sink.room l.sink + 65536 * l.counter;
  chunk : length l.chunk ≡ 65536;
}
