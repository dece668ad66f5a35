use Rattle.std.proofs.Common.{ap, sym, ◌∙◌}
use Rattle.std.proofs.lemmas.List.Folds.{list_all-map}
use Rattle.judge_reservations.specs.declared.scope.Scope.{Scope}
use Rattle.judge_reservations.specs.Scopes.{is_among}
use Rattle.judge_reservations.specs.Lines.{call_of, calls_of, has_part}
use Rattle.judge_reservations.proofs.Larger.{whole_alone}
use Rattle.judge_reservations.proofs.Joined.{customer_alone}
use Rattle.judge_reservations.proofs.chosen.is_own.Goals as goal

pub returns-clause-all : goal.returns-clause-all
returns-clause-all c = λ other is whole.
    let one : Scope = record {
      customers = c.in_ok-from_slice.field-0;
      items = c.in_ok-from_slice-2.field-0;
      closed = c.new.result;
      whole = c.in_ok-from_slice-3.field-0;
    } in
    c.all_have_parts.ensures ∙ sym (list_all-map (has_part one) call_of c.args.lines.now)
    ∙ whole_alone c.args.customers.now c.args.items.now (calls_of c.args.lines.now) one c.in_ok-from_slice.ensures.items
    c.in_ok-from_slice-2.ensures.items c.args.customer c.new.ensures.items c.in_ok-from_slice-3.ensures.items other is
    whole

pub returns-clause-each : goal.returns-clause-each
returns-clause-each c = λ own. record {
  scope = record {
    customers = c.in_ok-from_slice.field-0;
    items = c.in_ok-from_slice-2.field-0;
    closed = c.new.result;
    whole = c.in_ok-from_slice-3.field-0;
  };
  is_scope = record {
    customers_are = c.in_ok-from_slice.ensures.items;
    items_are = c.in_ok-from_slice-2.ensures.items;
    parts = list_all-map _ call_of c.args.lines.now ∙ sym c.all_have_parts.ensures ∙ own;
  };
  whole = ap (λ cs. is_among cs c.args.customer) c.in_ok-from_slice-3.ensures.items ∙ customer_alone c.args.customer;
}
