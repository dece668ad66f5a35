use Rattle.std.proofs.Common.{◌≡◌, true, take, map}
use Rattle.load_record.specs.Lines.{line_entry}
use Rattle.load_record.specs.Entries.{AllFit, are_short}
use Rattle.load_record.proofs.fitting.are_short_lines.Given as goal

-- the lines so far
abbrev pub invariant-loop-line : goal.invariant-loop-line
invariant-loop-line l = record {
  short : are_short l.words (map line_entry (take l.line-index l.lines)) ≡ true;
  fits : AllFit l.words (map line_entry (take l.line-index l.lines));
}
