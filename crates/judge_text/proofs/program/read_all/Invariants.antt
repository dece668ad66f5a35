use Rattle.std.proofs.Common.{◌≡◌, length}
use Rattle.std.specs.Io.KnownBytes.{Consumes}
use Rattle.judge_text.proofs.program.read_all.Given as goal

-- the bytes so far were read
abbrev pub invariant-reads : goal.invariant-reads
invariant-reads g l = record {
  consumed : Consumes (g.R.Read.remaining l.fn.input) (g.R.Read.remaining l.input) l.text.items;
  chunk : length l.chunk ≡ 65536;
}
