use Rattle.std.proofs.Common.{◌≡◌, ◌≤◌, ◌+◌, ◌*◌, ◌&&◌, cond, length, map, drop, true}
use Rattle.std.specs.List.{list_all}
use Rattle.vac_model.specs.Ranges.{is_change, is_command}
use Rattle.vac_lines.specs.Lines.{texts}
use Rattle.vac_lines.specs.LineTable.{changes_of, change_line, read_each}
use Rattle.vac_lines.proofs.WordReading.{put_behind, parts}
use Rattle.vac_lines.proofs.lists.read_changes.Given as goal

-- the changes so far
abbrev pub invariant-loop-part : goal.invariant-loop-part
invariant-loop-part l = record {
  same : changes_of (texts l.words)
      ≡ put_behind l.changes.items (read_each change_line (map texts (drop (length l.yielded) (parts l.words))));
  count : length l.changes.items ≡ length l.yielded;
  short : 2 * length l.changes.items + cond l.part-iterator.done 0
      (length l.part-iterator.rest.now + 1) ≤ length l.words + 1;
  in_range : list_all (λ c. is_change c && is_command c) l.changes.items ≡ true;
}
