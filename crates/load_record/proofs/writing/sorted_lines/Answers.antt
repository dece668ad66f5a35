use Rattle.std.proofs.Common.{◌≡◌, map, rules, ℕ}
use Rattle.std.proofs.lemmas.List.Sorted.{answers_always}
use Rattle.stm_object.specs.Places.{rank_of}
use Rattle.load_record.specs.declared.lines.Line.{Line}
use Rattle.load_record.specs.Lines.{line_entry}
use Rattle.load_record.specs.Pages.{pages_of, attempt_entries_of}
use Rattle.load_record.proofs.AttemptTexts.{attempts}
use Rattle.load_record.proofs.Sorted.{in_order}
use Rattle.load_record.proofs.writing.sorted_lines.Goals as goal

-- by what a line is sorted
abbrev place_of : Line → ℕ × ℕ × ℕ × ℕ
place_of line = (
  line.attempt.now.place.renewal,
  rank_of line.attempt.now.place,
  line.attempt.now.begin,
  line.attempt.now.end,
)

pub returns : goal.returns
returns g c = λ blocks lays.
    let pages = pages_of c.args.opening.now c.args.clients.now in
    let own : map line_entry c.add_attempts.new.lines.items ≡ attempt_entries_of 0 c.args.laid.now = search rules in
    let order = in_order c.sort_by_key.new.self.items (c.in_ok-sort_by_key.ensures.sorted place_of
    (answers_always _ _ _ (λ f a r g h. search rules))) in
    let stable = c.in_ok-sort_by_key.ensures.stable place_of (answers_always _ _ _ (λ f a r g h. search rules)) in
    attempts blocks pages c.args.laid.now c.add_attempts.new.lines.items c.add_all.new.lines.items
    c.sort_by_key.new.self.items lays own c.in_ok-add_all.ensures.added c.in_ok-add_all.ensures.told
    c.in_ok-sort_by_key.ensures.permutation stable order
