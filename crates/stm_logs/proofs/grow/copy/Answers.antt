use Rattle.std.proofs.Common.{◌≡◌, ◌<◌, ◌+◌, List, length, set, length-set, sym, ap, ◌∙◌, arith, subst}
use Rattle.stm_logs.specs.declared.nodes.Entry.{Entry}
use Rattle.stm_logs.specs.Nodes.{Node, Block, at, bare, entry_of, with_entry}
use Rattle.stm_logs.specs.Index.{HasNoNumber, Entered}
use Rattle.stm_logs.specs.Held.{Copied}
use Rattle.stm_logs.proofs.IndexLemmas.{free_answer}
use Rattle.stm_logs.proofs.LogLemmas.{copied_start, copied_more, copy_is_new}
use Rattle.stm_logs.proofs.grow.copy.Goals as goal

pub loop-e-init : goal.loop-e-init
loop-e-init g c =
    let old : List Node = c.args.old.now.list in
    let new : List Node = c.args.new.now.list in
    let y : Node = with_entry (at new 0) (entry_of (at old 0)) in
    let list : c.put.new.self.list ≡ set new 0 y = ap (λ (b : Block). b.list) c.put.ensures ∙
    ap (λ (x : Entry). set new 0 (with_entry (at new 0) x)) c.get-root.ensures in
    record {
      count = ap (λ (b : Block). b.count) c.put.ensures ∙ c.requires.blank.0;
      copied = subst (λ xs. Copied old xs 0) (sym list) (copied_start old new
          (omega (arith, c.requires.twice, c.requires.log.places)) c.requires.limit c.requires.blank.1);
      len = ap length list ∙ length-set new 0 y;
    }

pub enter-requires-clause-free : goal.enter-requires-clause-free
enter-requires-clause-free g c =
    let old : List Node = c.args.old.now.list in
    let new : List Node = c.loop-e.new.list in
    let less : c.loop-e.e < c.args.old.now.count = omega arith in
    let number_is_new : HasNoNumber new c.loop-e.new.count c.get-node.result.now.number =
    subst (λ (x : Entry). HasNoNumber new c.loop-e.new.count x.number) (sym c.get-node.ensures)
    (subst (λ k. HasNoNumber new k (at old (c.loop-e.e + 1)).number) (sym c.loop-e.invariant.count)
    (copy_is_new old new c.args.old.now.count c.loop-e.e c.requires.log.ready less c.loop-e.invariant.copied)) in
    free_answer _ _ _ _ c.probe-place.ensures number_is_new

pub loop-e-preserved : goal.loop-e-preserved
loop-e-preserved g c =
    let old : List Node = c.args.old.now.list in
    let new : List Node = c.loop-e.new.list in
    let more : List Node = c.enter.new.nodes.list in
    let node : Node = bare (entry_of (at old (c.loop-e.e + 1))) in
    let entered : Entered new more c.loop-e.e node =
    subst (λ k. Entered new more k node) c.loop-e.invariant.count
    (subst (λ (x : Entry). Entered new more c.loop-e.new.count (bare x)) c.get-node.ensures c.enter.ensures.entered)
    in
    let list : c.set_count.new.self.list ≡ more = ap (λ (b : Block). b.list) c.set_count.ensures in
    record {
      count = ap (λ (b : Block). b.count) c.set_count.ensures;
      copied = subst (λ xs. Copied old xs (c.loop-e.e + 1)) (sym list)
          (copied_more old new more c.loop-e.e c.loop-e.invariant.copied entered);
      len = ap length list ∙ c.enter.ensures.entered.len ∙ c.loop-e.invariant.len;
    }
