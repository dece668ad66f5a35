use Rattle.std.proofs.Common.{sym, ◌∙◌, refl}
use Rattle.std.proofs.lemmas.Result.{err_from_is_err_and}
use Rattle.vac_lines.proofs.Trips.{trip_asked}
use Rattle.vac_lines.proofs.lists.read_trip.Goals as goal

pub returns-in_err-customer-clause-task : goal.returns-in_err-customer-clause-task
returns-in_err-customer-clause-task c = λ _.
    let asked = trip_asked _ _ _ c.in-Some.ensures.cases.0 (sym c.is_empty.ensures ∙ c.if-is_empty.false)
    c.if-pairs-ne0.false c.if-pairs-gt-MOST_PARTS.false in
    let p = err_from_is_err_and c.from_residual.result c.from_residual.ensures.1 in
    rw (asked, ← c.in_err-customer.ensures.id, p.1, p.2) refl

pub returns-in_err-customer-clause-inline : goal.returns-in_err-customer-clause-inline
returns-in_err-customer-clause-inline c = λ _.
    let asked = trip_asked _ _ _ c.in-Some.ensures.cases.0 (sym c.is_empty.ensures ∙ c.if-is_empty.false)
    c.if-pairs-ne0.false c.if-pairs-gt-MOST_PARTS.false in
    let p = err_from_is_err_and c.from_residual.result c.from_residual.ensures.1 in
    rw (asked, ← c.in_err-customer.ensures.id, p.1, p.2) refl

pub returns-in_err-asks-clause-task : goal.returns-in_err-asks-clause-task
returns-in_err-asks-clause-task c = λ _.
    let asked = trip_asked _ _ _ c.in-Some.ensures.cases.0 (sym c.is_empty.ensures ∙ c.if-is_empty.false)
    c.if-pairs-ne0.false c.if-pairs-gt-MOST_PARTS.false in
    let p = err_from_is_err_and c.from_residual-in_err-asks.result c.from_residual-in_err-asks.ensures.1 in
    rw (asked, ← c.in_ok-customer.ensures.id, c.in_err-asks.ensures.err, p.1, p.2) refl

pub returns-in_err-asks-clause-inline : goal.returns-in_err-asks-clause-inline
returns-in_err-asks-clause-inline c = λ _.
    let asked = trip_asked _ _ _ c.in-Some.ensures.cases.0 (sym c.is_empty.ensures ∙ c.if-is_empty.false)
    c.if-pairs-ne0.false c.if-pairs-gt-MOST_PARTS.false in
    let p = err_from_is_err_and c.from_residual-in_err-asks.result c.from_residual-in_err-asks.ensures.1 in
    rw (asked, ← c.in_ok-customer.ensures.id, c.in_err-asks.ensures.err, p.1, p.2) refl
