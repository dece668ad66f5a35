use Rattle.std.proofs.Common.{◌≡◌, ◌+◌, ◌≤◌, take}
use Rattle.std.specs.List.{count_by}
use Rattle.vac_lines.specs.Lines.{texts}
use Rattle.vac_lines.specs.Words.{is_separator}
use Rattle.vac_lines.proofs.lists.count_parts.Given as goal

-- the separators so far, and one
abbrev pub invariant-loop-word : goal.invariant-loop-word
invariant-loop-word l = record {
  count : l.parts ≡ count_by is_separator (texts (take l.word-index l.words)) + 1;
  some : 1 ≤ l.parts;
  bound : l.parts ≤ l.word-index + 1;
}
