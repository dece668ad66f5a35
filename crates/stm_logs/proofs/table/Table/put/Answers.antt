use Rattle.std.proofs.Common.{◌≡◌, List, length-set, set, sym, ap, ◌∙◌, arith}
use Rattle.std.specs.FinMap.{get}
use Rattle.stm_logs.specs.declared.nodes.Entry.{Entry}
use Rattle.stm_logs.specs.Nodes.{Node, Block, at, with_entry}
use Rattle.stm_logs.specs.Index.{IsFoundNode}
use Rattle.stm_logs.specs.Log.{LogValue}
use Rattle.stm_logs.specs.Held.{with_word}
use Rattle.stm_logs.specs.Order.{log_value}
use Rattle.stm_logs.proofs.TableLemmas.{some_none}
use Rattle.stm_logs.proofs.IndexLemmas.{found_at}
use Rattle.stm_logs.proofs.LogLemmas.{get_lock, absent_at, with_value, replaced_value, replaced_ready, put_value}
use Rattle.stm_logs.proofs.LogLemmas.{log_of}
use Rattle.stm_logs.proofs.table.Table.put.Given as given
use Rattle.stm_logs.proofs.table.Table.put.Goals as goal

pub probe-place-requires : goal.probe-place-requires
probe-place-requires g c = c.self.invariant.ready.indexed

pub slot-word-requires : goal.slot-word-requires
slot-word-requires g c = c.probe-place.ensures.inside

pub put_new-requires-clause-log : goal.put_new-requires-clause-log
put_new-requires-clause-log g c = c.self.invariant

pub put_new-requires-clause-place : goal.put_new-requires-clause-place
put_new-requires-clause-place g c = c.probe-place.ensures

pub put_new-requires-clause-new : goal.put_new-requires-clause-new
put_new-requires-clause-new g c =
    (c.probe-place.ensures.free (sym c.slot-word.ensures ∙ c.if-word-eq0.true)).0

pub returns-then-word-eq0-clause-there : goal.returns-then-word-eq0-clause-there
returns-then-word-eq0-clause-there g c = λ there. absurd (there
    (absent_at c.self.inside.nodes _ _ _ _ c.self.view_is c.probe-place.ensures c.slot-word.ensures c.if-word-eq0.true))

pub get-node-requires : goal.get-node-requires
get-node-requires g c =
    let found = found_at _ _ _ _ _ c.probe-place.ensures c.slot-word.ensures (omega arith) in
    omega (arith, found.0, c.self.invariant.ready.indexed.room)

pub put-requires : goal.put-requires
put-requires g c =
    let found = found_at _ _ _ _ _ c.probe-place.ensures c.slot-word.ensures (omega arith) in
    omega (arith, found.0, c.self.invariant.ready.indexed.room)

module _ (g : given.Over) (c : goal.After-put g) where
  abbrev old : Block
  old = c.self.inside.nodes

  abbrev new : List Node
  new = set old.list c.slot-word.result (with_value (at old.list c.slot-word.result) c.args.value)

  found : IsFoundNode old.list old.count c.args.number c.slot-word.result
  found = found_at _ _ _ _ _ c.probe-place.ensures c.slot-word.ensures (omega arith)

  list_is : c.put.new.self.list ≡ new
  list_is = ap (λ (b : Block). b.list) c.put.ensures ∙ ap (λ (x : Entry). set old.list c.slot-word.result
      (with_entry (at old.list c.slot-word.result) (record x { value = c.args.value }))) c.get-node.ensures

  count_is : c.put.new.self.count ≡ old.count
  count_is = ap (λ (b : Block). b.count) c.put.ensures

  value_is : log_value c.put.new.self.list c.put.new.self.count ≡ with_word c.args.self.now c.args.number c.args.lock
      c.args.value
  value_is =
      let w : LogValue = log_value old.list old.count in
      let seen : w ≡ c.args.self.now = c.self.view_is in
      ap (log_value c.put.new.self.list) count_is ∙ ap (λ (xs : List Node). log_value xs old.count) list_is
      ∙ replaced_value _ _ _ _ _ c.self.invariant.ready (omega arith) found.0 found.1
      ∙ put_value w c.args.number c.args.lock c.args.value (λ none. some_none _
      (sym (get_lock _ _ _ _ c.self.invariant.ready.chained (omega arith) found.0 found.1) ∙ none))
      (λ l at_l. c.requires l (ap (λ (v : LogValue). get v.locks c.args.number) (sym seen) ∙ at_l))
      ∙ ap (λ (v : LogValue). with_word v c.args.number c.args.lock c.args.value) seen

pub invariant_of-self-2 : goal.invariant_of-self-2
invariant_of-self-2 g c =
    log_of c.put.new.self (new g c) (old g c).count (list_is g c) (count_is g c)
    (replaced_ready _ _ _ _ c.self.invariant.ready (found g c).0)
    (omega (
      arith,
      c.self.invariant.places,
      length-set (old g c).list c.slot-word.result
          (with_value (at (old g c).list c.slot-word.result) c.args.value),
    ))

pub returns-clause-answer : goal.returns-clause-answer
returns-clause-answer g c = value_is g c
