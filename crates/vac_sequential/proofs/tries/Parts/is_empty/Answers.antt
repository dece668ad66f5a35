use Rattle.std.proofs.Common.{ℕ, ap, sym, subst, ◌∙◌, arith}
use Rattle.std.specs.Ordering.{nat_cmp}
use Rattle.std.specs.FinMap.{FinMap}
use Rattle.vac_sequential.specs.Tries.{TellsEmpty}
use Rattle.vac_sequential.proofs.Woven.{full_value, full_child, last_empty}
use Rattle.vac_sequential.proofs.tries.Parts.is_empty.Goals as goal

pub returns-then-is_some : goal.returns-then-is_some
returns-then-is_some g c = full_value c.args.self.now (sym c.if-is_some.ensures)

pub returns-then-not-is_empty : goal.returns-then-not-is_empty
returns-then-not-is_empty g c =
    let first = λ (x : FinMap nat_cmp g.row.V.Denot × ℕ). x.0 in
    full_child c.args.self.now 0 (omega arith) (λ e. c.if-not-is_empty.ensures (ap first c.deref.ensures ∙ e))

pub returns-then-not-is_empty-2 : goal.returns-then-not-is_empty-2
returns-then-not-is_empty-2 g c =
    let first = λ (x : FinMap nat_cmp g.row.V.Denot × ℕ). x.0 in
    full_child c.args.self.now 1 (omega arith) (λ e. c.if-not-is_empty-2.ensures (ap first c.deref-2.ensures ∙ e))

pub returns-then-not-is_empty-3 : goal.returns-then-not-is_empty-3
returns-then-not-is_empty-3 g c =
    let first = λ (x : FinMap nat_cmp g.row.V.Denot × ℕ). x.0 in
    full_child c.args.self.now 2 (omega arith) (λ e. c.if-not-is_empty-3.ensures (ap first c.deref-3.ensures ∙ e))

pub returns : goal.returns
returns g c =
    let first = λ (x : FinMap nat_cmp g.row.V.Denot × ℕ). x.0 in
    last_empty c.args.self.now (sym c.if-is_some.ensures) (ap first (sym c.deref.ensures) ∙ c.if-not-is_empty.ensures)
    (ap first (sym c.deref-2.ensures) ∙ c.if-not-is_empty-2.ensures)
    (ap first (sym c.deref-3.ensures) ∙ c.if-not-is_empty-3.ensures)
    c.is_empty-4.result (subst (λ m. TellsEmpty m c.is_empty-4.result)
    (ap first c.deref-4.ensures) c.is_empty-4.ensures)
