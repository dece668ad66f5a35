use Rattle.std.proofs.Common.{rules, ◌∙◌, ◌==◌, not, ℕ}
use Rattle.std.proofs.lemmas.Fn.{filter_same}
use Rattle.stm_replay.proofs.Meanings.{filtered}
use Rattle.stm_replay.proofs.pairs.take_out.Goals as goal

pub returns : goal.returns
returns g c = filter_same _ (λ (p : ℕ × ℕ). not (p.0 == c.args.number)) _
    (λ x b f' k. search rules) _ _ c.retain.ensures.filtered ∙ filtered c.args.pairs.now.items c.args.number
