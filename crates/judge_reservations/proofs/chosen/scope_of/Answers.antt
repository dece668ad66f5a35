use Rattle.std.proofs.Common.{sym, ◌∙◌}
use Rattle.std.proofs.lemmas.List.Folds.{list_all-map}
use Rattle.judge_reservations.specs.declared.scope.Scope.{Scope}
use Rattle.judge_reservations.specs.Lines.{call_of, calls_of}
use Rattle.judge_reservations.proofs.Joined.{none_without}
use Rattle.judge_reservations.proofs.chosen.scope_of.Goals as goal

pub returns-then-all_have_parts-clause-scope : goal.returns-then-all_have_parts-clause-scope
returns-then-all_have_parts-clause-scope c = record {
  customers_are = c.in_ok-from_slice.ensures.items;
  items_are = c.in_ok-from_slice-2.ensures.items;
  parts = list_all-map _ call_of c.args.lines.now ∙ sym c.all_have_parts.ensures ∙ c.if-all_have_parts.true;
}

pub returns-else-all_have_parts-clause-none : goal.returns-else-all_have_parts-clause-none
returns-else-all_have_parts-clause-none c = λ none.
    let one : Scope = record {
      customers = c.in_ok-from_slice.field-0;
      items = c.in_ok-from_slice-2.field-0;
      closed = c.in_ok-closed.closed;
      whole = c.in_ok-whole.whole;
    } in
    none_without c.args.customers.now c.args.items.now (calls_of c.args.lines.now) one
    c.in_ok-from_slice.ensures.items c.in_ok-from_slice-2.ensures.items c.in_ok-closed.ensures.each
    c.in_ok-whole.ensures.each
    (list_all-map _ call_of c.args.lines.now ∙ sym c.all_have_parts.ensures ∙ c.if-all_have_parts.false)
