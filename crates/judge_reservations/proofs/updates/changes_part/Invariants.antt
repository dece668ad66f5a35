use Rattle.std.proofs.Common.{◌≡◌, ◌++◌, ◌+◌, drop}
use Rattle.vac_lines.specs.Lines.{texts}
use Rattle.judge_reservations.specs.Updates.{commands_of, results_of, changes_part}
use Rattle.judge_reservations.proofs.updates.changes_part.Given as goal

-- the parts so far and those of the rest are the parts of all changes
abbrev pub invariant-changes : goal.invariant-changes
invariant-changes l = record {
  commands : commands_of (changes_part l.scope l.changes (drop 1 (texts l.words))) ≡ l.kept.commands.items
      ++ commands_of (changes_part l.scope (drop l.at l.changes) (drop (l.at + 1) (texts l.words)));
  results : results_of (changes_part l.scope l.changes (drop 1 (texts l.words))) ≡ texts l.kept.results.items
      ++ results_of (changes_part l.scope (drop l.at l.changes) (drop (l.at + 1) (texts l.words)));
}
