use Rattle.std.proofs.Common.{◌≡◌, ◌+◌, ◌≤◌, ℕ, List, length, set, ap, ◌∙◌, arith, subst}
use Rattle.stm_logs.specs.declared.nodes.Entry.{Entry}
use Rattle.stm_logs.specs.declared.nodes.TheConstants.{TOP}
use Rattle.stm_logs.specs.Nodes.{Node, Block, at, with_next}
use Rattle.stm_logs.specs.Index.{Entered}
use Rattle.stm_logs.specs.Held.{IsIndexedAndChained}
use Rattle.stm_logs.specs.Order.{log_value}
use Rattle.stm_logs.proofs.LogLemmas.{entering, entered_ready, entered_value, entered_len, log_of}
use Rattle.stm_logs.proofs.table.put_word.Given as given
use Rattle.stm_logs.proofs.table.put_word.Goals as goal

module _ (g : given.Over) (c : goal.After-set_count g) where
  abbrev ns : List Node
  ns = c.args.nodes.now.list

  abbrev n : ℕ
  n = c.args.nodes.now.count

  abbrev b : ℕ
  b = c.seek-before.result

  abbrev mid : List Node
  mid = c.enter.new.nodes.list

  fits : c.args.number ≤ TOP
  fits = omega (arith, c.ranges.number.fits)

  next_is : c.get.result.now.next ≡ (at ns b).next
  next_is = ap (λ (x : Entry). x.next) c.get.ensures

  entered : Entered ns mid n (entering c.args.value c.args.number c.args.lock (at ns b).next)
  entered = subst (λ q. Entered ns mid n (entering c.args.value c.args.number c.args.lock q)) next_is
      c.enter.ensures.entered

  position : c.count-position.result + 1 ≡ n + 1
  position = ap (λ k. k + 1) c.count-position.ensures

  list : c.set_count.new.self.list ≡ set mid b (with_next (at mid b) (n + 1))
  list =
      ap (λ (x : Block). x.list) c.set_count.ensures ∙ ap (λ (x : Block). x.list) c.set_next.ensures
      ∙ ap (λ q. set mid b (with_next (at mid b) q)) position

  count : c.set_count.new.self.count ≡ n + 1
  count = ap (λ (x : Block). x.count) c.set_count.ensures ∙ position

  ready : IsIndexedAndChained (set mid b (with_next (at mid b) (n + 1))) (n + 1)
  ready = entered_ready ns mid n b c.args.number c.args.lock c.args.value c.requires.log.ready c.seek-before.ensures
      c.requires.new fits entered

  len : length (set mid b (with_next (at mid b) (n + 1))) ≡ length ns
  len = entered_len ns mid n b c.args.number c.args.lock c.args.value c.requires.log.ready c.seek-before.ensures
      c.requires.new fits entered

pub returns-clause-more : goal.returns-clause-more
returns-clause-more g c = record {
  log = log_of _ _ _ (list g c) (count g c) (ready g c) (omega (arith, len g c, c.requires.log.places));
  same =
      ap (λ (xs : List Node). log_value xs c.set_count.new.self.count) (list g c) ∙
      ap (λ k. log_value (set (mid g c) (b g c) (with_next (at (mid g c) (b g c)) (n g c + 1))) k) (count g c)
      ∙ entered_value (ns g c) (mid g c) (n g c) (b g c) c.args.number c.args.lock c.args.value c.requires.log.ready
      c.seek-before.ensures c.requires.new (fits g c) (entered g c);
}

pub returns-clause-len : goal.returns-clause-len
returns-clause-len g c = ap (λ (xs : List Node). length xs) (list g c) ∙ len g c

pub returns-clause-count : goal.returns-clause-count
returns-clause-count g c = count g c
