use Rattle.std.proofs.Common.{◌≡◌, sym, ap, ◌∙◌, subst}
use Rattle.stm_logs.specs.declared.nodes.Entry.{Entry}
use Rattle.stm_logs.specs.Nodes.{Block, at}
use Rattle.stm_logs.specs.Chain.{EndsWithin, locks_from}
use Rattle.stm_logs.specs.Log.{LogValue, log_locks}
use Rattle.stm_logs.proofs.ChainLemmas.{least_first, ends, all_locks}
use Rattle.stm_logs.proofs.table.Table.locks.Goals as goal

pub invariant_of-result : goal.invariant_of-result
invariant_of-result g c =
    let b : Block = c.self.inside.nodes in
    let ready = c.self.invariant.ready in
    let first : c.get.result.now.next ≡ (at b.list 0).next = ap (λ (x : Entry). x.next) c.get.ensures in
    subst (λ p. EndsWithin b.list c.count.result p) (sym first) (subst (λ n. EndsWithin b.list n (at b.list 0).next)
    (sym c.count.ensures)
    (ends b.list b.count ready.chained ready.indexed.room _ _
    (least_first b.list b.count ready.chained ready.indexed.room)))

pub returns : goal.returns
returns g c =
    let b : Block = c.self.inside.nodes in
    let ready = c.self.invariant.ready in
    let first : c.get.result.now.next ≡ (at b.list 0).next = ap (λ (x : Entry). x.next) c.get.ensures in
    let least = least_first b.list b.count ready.chained ready.indexed.room in
    ap (locks_from b.list c.count.result) first ∙ ap (λ n. locks_from b.list n (at b.list 0).next) c.count.ensures
    ∙ all_locks b.list b.count ready.chained ready.indexed.room b.count _ least
    (ends b.list b.count ready.chained ready.indexed.room _ _ least)
    ∙ ap (λ (w : LogValue). log_locks w) c.self.view_is
