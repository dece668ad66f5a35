use Rattle.std.proofs.Common.{◌≡◌, ◌++◌, true, take, map}
use Rattle.load_record.specs.Lines.{line_entry}
use Rattle.load_record.specs.Pages.{attempt_entries_from, pages_of, are_told}
use Rattle.load_record.proofs.gathering.add_all.Given as goal

-- the attempts of the clients so far
abbrev pub invariant-clients : goal.invariant-clients
invariant-clients g l = record {
  added : map line_entry l.lines.items ≡ map line_entry l.fn.lines.items ++ attempt_entries_from 0
      (pages_of l.opening (take l.place l.clients));
  told : are_told (pages_of l.opening (take l.place l.clients)) ≡ true;
}
