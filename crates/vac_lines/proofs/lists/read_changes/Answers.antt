use Rattle.std.proofs.Common.{ℕ, ◌<◌, List, ◌+◌, length, map, drop, ap, sym, ◌∙◌, Bor, arith, rules, ◌&&◌, refl}
use Rattle.std.proofs.lemmas.List.{length_push, length-map}
use Rattle.std.proofs.lemmas.Iterator.Consumers.{YieldsList-turn, YieldsList-end, YieldsList-at}
use Rattle.std.proofs.lemmas.Iterator.Splits.{YieldsList-from_slice_split}
use Rattle.std.proofs.lemmas.Result.{err_from_is_err_and}
use Rattle.vac_model.specs.Ranges.{is_change, is_command}
use Rattle.vac_lines.specs.Lines.{texts}
use Rattle.vac_lines.specs.Words.{is_separator}
use Rattle.vac_lines.specs.LineTable.{read_each, change_line}
use Rattle.vac_lines.proofs.WordReading.{put_behind, parts, parts_of_texts, none_read, one_read, fault_read, all_read}
use Rattle.vac_lines.proofs.WordReading.{next_part, no_part_left, all_pushed, short_step, short_start}
use Rattle.vac_lines.proofs.lists.read_changes.Goals as goal

pub loop-part-init : goal.loop-part-init
loop-part-init c = record {
  same = ap (read_each change_line) (parts_of_texts c.args.words.now) ∙ none_read c.new-changes.result.items
      (read_each change_line (map texts (parts c.args.words.now))) c.new-changes.ensures;
  count = ap length c.new-changes.ensures;
  short = short_start c.new-changes.result.items c.into_iter-part-iterator.result.done c.args.words.now
      c.into_iter-part-iterator.result.rest.now c.new-changes.ensures
      (ap (λ s. s.done) c.into_iter-part-iterator.ensures.into_iter_gives ∙ c.split-part-items.ensures.done)
      (ap (λ s. s.rest.now) c.into_iter-part-iterator.ensures.into_iter_gives ∙ c.split-part-items.ensures.rest);
  in_range = search rules;
}

pub loop-part-preserved : goal.loop-part-preserved
loop-part-preserved c =
    let at = c.loop-part in
    let all = parts c.args.words.now in
    let turn = YieldsList-turn (YieldsList-at c.into_iter-part-iterator.ensures.into_iter_gives
    (YieldsList-from_slice_split _ (λ (w : Bor (List ℕ)). is_separator w.now) c.args.words.now
    c.split-part-items.ensures.rest c.split-part-items.ensures.done c.split-part-items.ensures.closure
    (λ x b q k. search rules)))
    at.yielded _ at.yielded_by _ _ c.in-Some.part c.in-Some.is c.next.ensures.steps in
    let next = next_part change_line all (length at.yielded) c.in-Some.part.now turn in
    let same = at.invariant.same ∙ ap (put_behind at.changes.items) next in
    let read = one_read change_line (texts c.in-Some.part.now)
    (map texts (drop (length at.yielded + 1) all)) c.in_ok-read_change.field-0 at.changes.items _
    (sym c.in_ok-read_change.ensures.change) same in
    record {
      same = rw (length_push at.yielded c.in-Some.part, c.push.ensures.items) read;
      count = omega (arith, c.push.ensures.len, at.invariant.count, length_push at.yielded c.in-Some.part);
      short = rw c.push.ensures.items (short_step at.changes.items c.in_ok-read_change.field-0
          (length c.args.words.now) c.next.new.self.done at.part-iterator.rest.now c.in-Some.part.now
          c.next.new.self.rest.now
          c.in-Some.ensures.steps.1 c.in_ok-read_change.ensures.some
          (rw c.in-Some.ensures.steps.0 at at.invariant.short));
      in_range = rw c.push.ensures.items (all_pushed (λ c. is_change c && is_command c) at.changes.items
          c.in_ok-read_change.field-0 at.invariant.in_range
          (rw (c.in_ok-read_change.ensures.of_tables, c.in_ok-read_change.ensures.in_range) refl));
    }

pub returns-in_err-read_change-clause-err : goal.returns-in_err-read_change-clause-err
returns-in_err-read_change-clause-err c =
    let at = c.loop-part in
    let all = parts c.args.words.now in
    let turn = YieldsList-turn (YieldsList-at c.into_iter-part-iterator.ensures.into_iter_gives
    (YieldsList-from_slice_split _ (λ (w : Bor (List ℕ)). is_separator w.now) c.args.words.now
    c.split-part-items.ensures.rest c.split-part-items.ensures.done c.split-part-items.ensures.closure
    (λ x b q k. search rules)))
    at.yielded _ at.yielded_by _ _ c.in-Some.part c.in-Some.is c.next.ensures.steps in
    let next = next_part change_line all (length at.yielded) c.in-Some.part.now turn in
    let same = at.invariant.same ∙ ap (put_behind at.changes.items) next in
    let p = err_from_is_err_and c.from_residual.result c.from_residual.ensures.1 in
    let read = fault_read change_line (texts c.in-Some.part.now)
    (map texts (drop (length at.yielded + 1) all)) c.in_err-read_change.field-0.0 at.changes.items _
    (sym c.in_err-read_change.ensures.change) same in
    rw (p.1, p.2) read

pub push-requires : goal.push-requires
push-requires c =
    let at = c.loop-part in
    let all = parts c.args.words.now in
    let turn = YieldsList-turn (YieldsList-at c.into_iter-part-iterator.ensures.into_iter_gives
    (YieldsList-from_slice_split _ (λ (w : Bor (List ℕ)). is_separator w.now) c.args.words.now
    c.split-part-items.ensures.rest c.split-part-items.ensures.done c.split-part-items.ensures.closure
    (λ x b q k. search rules)))
    at.yielded _ at.yielded_by _ _ c.in-Some.part c.in-Some.is c.next.ensures.steps in
    let cut = ap length (parts_of_texts c.args.words.now) ∙ length-map all texts in
    let few : length at.changes.items < 32 = omega (arith, c.requires, at.invariant.count, turn.0, cut) in
    (omega arith, few)

pub returns-clause-ok : goal.returns-clause-ok
returns-clause-ok c =
    let at = c.loop-part in
    let all = parts c.args.words.now in
    let end = YieldsList-end (YieldsList-at c.into_iter-part-iterator.ensures.into_iter_gives
    (YieldsList-from_slice_split _ (λ (w : Bor (List ℕ)). is_separator w.now) c.args.words.now
    c.split-part-items.ensures.rest c.split-part-items.ensures.done c.split-part-items.ensures.closure
    (λ x b q k. search rules)))
    at.yielded _ at.yielded_by _ _ c.in-None.is c.next.ensures.steps in
    all_read at.changes.items _ (at.invariant.same ∙ ap (put_behind at.changes.items)
    (no_part_left change_line all (length at.yielded) (omega (arith, end.1))))

pub returns-clause-len : goal.returns-clause-len
returns-clause-len c =
    let at = c.loop-part in
    let all = parts c.args.words.now in
    let end = YieldsList-end (YieldsList-at c.into_iter-part-iterator.ensures.into_iter_gives
    (YieldsList-from_slice_split _ (λ (w : Bor (List ℕ)). is_separator w.now) c.args.words.now
    c.split-part-items.ensures.rest c.split-part-items.ensures.done c.split-part-items.ensures.closure
    (λ x b q k. search rules)))
    at.yielded _ at.yielded_by _ _ c.in-None.is c.next.ensures.steps in
    at.invariant.count ∙ end.1 ∙ sym (ap length (parts_of_texts c.args.words.now) ∙ length-map all texts)
