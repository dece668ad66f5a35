use Rattle.std.proofs.Common.{◌≡◌, ◌++◌, true, take, map}
use Rattle.load_record.specs.Lines.{line_entry}
use Rattle.load_record.specs.Noted.{all_noted}
use Rattle.load_record.specs.Pages.{attempt_entries_of, attempts_of}
use Rattle.load_record.proofs.gathering.add_answered.Given as goal

-- the attempts of the calls so far, each of which has one
abbrev pub invariant-loop-call : goal.invariant-loop-call
invariant-loop-call l = record {
  added : map line_entry l.lines.items ≡ map line_entry l.initial.lines.items ++ attempt_entries_of l.client
      (attempts_of (take l.call-index l.calls));
  noted : all_noted (take l.call-index l.calls) ≡ true;
}
