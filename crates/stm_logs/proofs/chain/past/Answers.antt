use Rattle.std.proofs.Common.{◌≡◌, ℕ, ◌-◌, true, List, sym, ap, ◌∙◌, subst}
use Rattle.stm_logs.specs.declared.nodes.Entry.{Entry}
use Rattle.stm_logs.specs.Nodes.{Node, at}
use Rattle.stm_logs.specs.Chain.{EndsWithin, goes_on, locks_from}
use Rattle.stm_logs.proofs.ChainLemmas.{going_on, next_inside, locks_past, step_inside, step_on}
use Rattle.stm_logs.proofs.chain.past.Goals as goal

pub is_of-requires : goal.is_of-requires
is_of-requires g c = next_inside c.args.nodes.now.list c.loop-start.left c.loop-start.at _ c.loop-start.invariant.some
    c.loop-start.invariant.ends (ap (λ (x : Entry). x.next) c.get-in-loop-start.ensures)

pub returns-then-not-is_of-clause-locks : goal.returns-then-not-is_of-clause-locks
returns-then-not-is_of-clause-locks g c =
    locks_past c.args.nodes.now.list c.args.most c.args.start c.loop-start.left c.loop-start.at c.get.result.now.lock _
    c.is_of.result c.loop-start.invariant.some c.loop-start.invariant.ends
    c.loop-start.invariant.lock (ap (λ (x : Entry). x.next) c.get-in-loop-start.ensures)
    (ap (λ (x : Entry). x.lock) c.get.ensures) c.is_of.ensures c.if-not-is_of.true c.loop-start.invariant.locks

pub returns-then-not-is_of-clause-ends : goal.returns-then-not-is_of-clause-ends
returns-then-not-is_of-clause-ends g c =
    let ns : List Node = c.args.nodes.now.list in
    subst (EndsWithin ns (c.loop-start.left - 1)) (sym (ap (λ (x : Entry). x.next) c.get-in-loop-start.ensures))
    (step_inside ns c.loop-start.left c.loop-start.at c.loop-start.invariant.some c.loop-start.invariant.ends).2

pub loop-start-preserved : goal.loop-start-preserved
loop-start-preserved g c =
    let ns : List Node = c.args.nodes.now.list in
    let left : ℕ = c.loop-start.left in
    let here : ℕ = c.loop-start.at in
    let next : ℕ = c.get-in-loop-start.result.now.next in
    let before = c.loop-start.invariant in
    let is : next ≡ (at ns here).next = ap (λ (x : Entry). x.next) c.get-in-loop-start.ensures in
    let lock : c.get.result.now.lock ≡ (at ns c.args.start).lock = ap (λ (x : Entry). x.lock) c.get.ensures in
    let goes : goes_on ns c.get.result.now.lock next ≡ true = sym c.is_of.ensures ∙ c.if-not-is_of.false in
    let on = going_on ns c.get.result.now.lock next goes in
    let step = step_on ns left here before.some before.ends
    (ap (λ k. goes_on ns k (at ns here).next) (before.lock ∙ sym lock) ∙
    ap (goes_on ns c.get.result.now.lock) (sym is) ∙ goes) in
    record {
      some = on.0;
      ends = subst (EndsWithin ns (left - 1)) (sym is) (step_inside ns left here before.some before.ends).2;
      lock = on.1 ∙ lock;
      locks = before.locks ∙ step ∙ ap (locks_from ns (left - 1)) (sym is);
    }
