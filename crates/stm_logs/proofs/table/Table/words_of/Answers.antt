use Rattle.std.proofs.Common.{sym, ap, ◌∙◌, subst}
use Rattle.stm_logs.specs.Chain.{EndsWithin, words_from}
use Rattle.stm_logs.specs.Log.{LogValue, pairs_of}
use Rattle.stm_logs.proofs.table.Table.words_of.Goals as goal

pub invariant_of-result : goal.invariant_of-result
invariant_of-result g c = subst (λ n. EndsWithin c.self.inside.nodes.list n c.first_from.result)
    (sym c.count.ensures) c.first_from.ensures.ends

pub returns : goal.returns
returns g c =
    ap (λ n. words_from c.self.inside.nodes.list c.args.lock n c.first_from.result) c.count.ensures ∙
    c.first_from.ensures.words ∙ ap (λ (w : LogValue). pairs_of w c.args.lock) c.self.view_is
