use Rattle.std.proofs.Common.{◌≡◌, ◌≤◌, ◌+◌, length}
use Rattle.vac_lines.specs.Feeding.{HasBegun}
use Rattle.vac_lines.proofs.Telling.{FedTo}
use Rattle.vac_lines.proofs.lines.Lines.feed.Given as goal

-- the lines so far were passed: whatever follows the chunk follows the rest
abbrev pub invariant-loop-line : goal.invariant-loop-line
invariant-loop-line g l = record {
  longest : l.self.longest ≡ l.initial.self.longest;
  begun : HasBegun l.self.longest l.self.line.items;
  all : FedTo g.S.Sink.hears l.self.longest l.initial.self.line.items l.self.line.items l.chunk l.rest l.initial.sink
      l.initial.output l.sink l.output;
  room : g.S.Sink.room l.initial.sink + length l.rest ≤ g.S.Sink.room l.sink + length l.chunk;
}

abbrev pub decreases-loop-line : goal.decreases-loop-line
decreases-loop-line g l = length l.rest
