use Rattle.stm_logs.specs.declared.short.ShortLog.{ShortLog}
use Rattle.stm_logs.specs.Log.{LogValue, pairs_of}
use Rattle.stm_logs.specs.Short.{word_at}
use Rattle.stm_logs.proofs.ChainLemmas.{empty_pairs}
use Rattle.stm_logs.proofs.WalkLemmas.{words_are}
use Rattle.stm_logs.proofs.WriteLemmas.{both_parts}
use Rattle.stm_logs.proofs.write.WriteLog.words_of.Goals as goal

pub returns : goal.returns
returns g c =
    let s : ShortLog = c.self.inside.short in
    both_parts (λ (w : LogValue). pairs_of w c.args.lock) s c.self.inside.long c.args.self.now c.self.inside.is_long
    (word_at s c.word_of.result) c.words_of.result (empty_pairs c.args.lock) c.self.invariant.1 c.self.invariant.2
    c.self.view_is (words_are s c.self.invariant.0 c.args.lock c.word_of.result c.word_of.ensures.there
    c.word_of.ensures.none) c.words_of.ensures
