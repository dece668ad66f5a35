use Rattle.std.proofs.Common.{◌≡◌, ◌<◌, ◌+◌, ℕ, List, set, refl, sym, ap, ◌∙◌, arith, subst}
use Rattle.stm_logs.specs.declared.nodes.Entry.{Entry}
use Rattle.stm_logs.specs.Nodes.{Node, Block, at, with_next}
use Rattle.stm_logs.specs.Held.{Cleared}
use Rattle.stm_logs.specs.Order.{log_value}
use Rattle.stm_logs.proofs.LogLemmas.{log_of}
use Rattle.stm_logs.proofs.ClearLemmas.{cleared_none, cleared_more, cleared_place, cleared_log}
use Rattle.stm_logs.proofs.table.clear_nodes.Goals as goal

pub loop-e-init : goal.loop-e-init
loop-e-init g c = record {
  count = refl;
  cleared = cleared_none c.args.nodes.now.list c.args.nodes.now.count c.requires.ready.indexed;
}

pub get-requires : goal.get-requires
get-requires g c = omega (arith, c.loop-e.invariant.cleared.len, c.requires.ready.indexed.room)

pub lead-requires : goal.lead-requires
lead-requires g c =
    let less : c.loop-e.e < c.args.nodes.now.count = omega arith in
    let inside = cleared_place c.args.nodes.now.list c.loop-e.nodes.list c.args.nodes.now.count c.loop-e.e
    c.requires.ready c.loop-e.invariant.cleared less in
    omega (arith, inside, ap (λ (x : Entry). x.place) c.get.ensures)

pub loop-e-preserved : goal.loop-e-preserved
loop-e-preserved g c =
    let old : List Node = c.args.nodes.now.list in
    let new : List Node = c.loop-e.nodes.list in
    let n : ℕ = c.args.nodes.now.count in
    let less : c.loop-e.e < n = omega arith in
    let place : c.get.result.now.place ≡ (at new (c.loop-e.e + 1)).place = ap (λ (x : Entry). x.place) c.get.ensures in
    let inside = cleared_place old new n c.loop-e.e c.requires.ready c.loop-e.invariant.cleared less in
    let list : c.lead.new.self.list ≡ set new c.get.result.now.place
    (record (at new c.get.result.now.place) { slot = 0; finger = 0 }) = ap (λ (b : Block). b.list) c.lead.ensures in
    record {
      count = ap (λ (b : Block). b.count) c.lead.ensures ∙ c.loop-e.invariant.count;
      cleared = subst (λ xs. Cleared old xs n (c.loop-e.e + 1)) (sym list)
          (cleared_more old new n c.loop-e.e c.get.result.now.place c.loop-e.invariant.cleared place
          (omega (arith, inside, place)));
    }

pub set_next-requires-clause-inside : goal.set_next-requires-clause-inside
set_next-requires-clause-inside g c = omega (arith, c.loop-e.invariant.cleared.len, c.requires.ready.indexed.room)

pub returns-clause-log : goal.returns-clause-log
returns-clause-log g c =
    let old : List Node = c.args.nodes.now.list in
    let new : List Node = c.loop-e.nodes.list in
    let n : ℕ = c.args.nodes.now.count in
    let end : Block = c.set_count.new.self in
    let all : c.loop-e.e ≡ n = omega arith in
    let cleared : Cleared old new n n = subst (λ k. Cleared old new n k) all c.loop-e.invariant.cleared in
    let log = cleared_log c.args.nodes.now new c.requires cleared in
    let list : end.list ≡ set new 0 (with_next (at new 0) 0) =
    ap (λ (b : Block). b.list) c.set_count.ensures ∙ ap (λ (b : Block). b.list) c.set_next.ensures in
    log_of end _ 0 list (ap (λ (b : Block). b.count) c.set_count.ensures) log.ready log.places

pub returns-clause-value : goal.returns-clause-value
returns-clause-value g c =
    let end : Block = c.set_count.new.self in
    ap (log_value end.list) (ap (λ (b : Block). b.count) c.set_count.ensures)
