use Rattle.std.proofs.Common.{◌≡◌, inl, inr, sym, ap, subst, arith}
use Rattle.stm_logs.specs.declared.nodes.Entry.{Entry}
use Rattle.stm_logs.specs.Nodes.{Block, at}
use Rattle.stm_logs.specs.Order.{rank_of_number, Least}
use Rattle.stm_logs.proofs.NodeLemmas.{same_or}
use Rattle.stm_logs.proofs.ChainLemmas.{least_behind, ends, pairs_are, lock_there, there_lock}
use Rattle.stm_logs.proofs.table.first_from.Given as given
use Rattle.stm_logs.proofs.table.first_from.Goals as goal

least : (g : given.Over) (c : goal.After-row_known-1 g) → Least c.args.nodes.now.list c.args.nodes.now.count
    (rank_of_number c.args.lock 0) c.get.result.now.next
least g c =
    let b : Block = c.args.nodes.now in
    let next : c.get.result.now.next ≡ (at b.list c.seek-before.result).next =
    ap (λ (x : Entry). x.next) c.get.ensures in
    subst (Least b.list b.count (rank_of_number c.args.lock 0)) (sym next)
    (least_behind b.list b.count c.requires.ready.chained c.requires.ready.indexed.room
    (rank_of_number c.args.lock 0) c.seek-before.result c.seek-before.ensures)

pub returns-clause-inside : goal.returns-clause-inside
returns-clause-inside g c = elim (same_or c.get.result.now.next 0) [
  | inl none ↦ omega arith
  | inr some ↦ ((least g c).some (omega arith)).0
]

pub returns-clause-ends : goal.returns-clause-ends
returns-clause-ends g c = ends _ _ c.requires.ready.chained c.requires.ready.indexed.room _ _ (least g c)

pub returns-clause-words : goal.returns-clause-words
returns-clause-words g c =
    let b : Block = c.args.nodes.now in
    pairs_are b.list b.count c.requires.ready.chained c.requires.ready.indexed.room c.args.lock b.count _ (least g c)
    (ends b.list b.count c.requires.ready.chained c.requires.ready.indexed.room _ _ (least g c))

pub returns-clause-there : goal.returns-clause-there
returns-clause-there g c =
    let b : Block = c.args.nodes.now in (
      λ h. lock_there b.list b.count c.requires.ready.chained c.requires.ready.indexed.room c.args.lock _
          (least g c) h.0 h.1,
      λ w. there_lock b.list b.count c.requires.ready.chained c.requires.ready.indexed.room c.args.lock _ w.0
          (least g c) w.1,
    )
