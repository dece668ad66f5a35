use Rattle.std.proofs.Common.{◌≡◌, ◌++◌, take, map}
use Rattle.load_record.specs.Lines.{line_entry}
use Rattle.load_record.specs.Pages.{attempt_entries_of}
use Rattle.load_record.proofs.gathering.add_attempts.Given as goal

-- the attempts so far
abbrev pub invariant-loop-attempt : goal.invariant-loop-attempt
invariant-loop-attempt l = map line_entry l.lines.items ≡ map line_entry l.initial.lines.items ++ attempt_entries_of
    l.client
    (take l.attempt-index l.attempts)
