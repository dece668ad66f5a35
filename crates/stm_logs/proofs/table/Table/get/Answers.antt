use Rattle.std.proofs.Common.{sym, ap, ◌∙◌, arith, Some}
use Rattle.std.specs.FinMap.{get}
use Rattle.stm_logs.specs.declared.nodes.Entry.{Entry}
use Rattle.stm_logs.specs.Log.{LogValue}
use Rattle.stm_logs.proofs.LogLemmas.{get_word, no_word}
use Rattle.stm_logs.proofs.table.Table.get.Goals as goal

pub returns-then-word-eq0 : goal.returns-then-word-eq0
returns-then-word-eq0 g c = sym (no_word _ _ _ (c.find-word.ensures.none c.if-word-eq0.true)) ∙
    ap (λ (w : LogValue). get w.words c.args.number) c.self.view_is

pub returns-else-word-eq0 : goal.returns-else-word-eq0
returns-else-word-eq0 g c =
    let h = c.find-word.ensures.there (omega arith) in
    ap (λ (x : Entry). Some x.value) c.get.ensures ∙ sym (get_word _ _ _ _ c.self.invariant.ready.chained
    (omega arith) h.0 h.1) ∙ ap (λ (w : LogValue). get w.words c.args.number) c.self.view_is
