use Rattle.std.proofs.Common.{◌∙◌, ◌≡◌, ℕ}
use Rattle.std.proofs.lemmas.List.{length-map}
use Rattle.judge_object.proofs.Order.{clients_mapped}
use Rattle.judge_opacity.specs.declared.finding.Counts.{Counts}
use Rattle.judge_opacity.specs.Attempt.{span_of_attempt}
use Rattle.judge_opacity.proofs.judge.Judge.counts.Goals as goal

-- counts of these numbers
abbrev counted : ℕ → ℕ → ℕ → Counts
counted a b c = record { attempts = a; committed = b; clients = c }

counts_same : (a b c x y z : ℕ) → a ≡ x → b ≡ y → c ≡ z → counted a b c ≡ counted x y z
counts_same a b c x y z e f g = cc

pub returns : goal.returns
returns c = λ words earlier f.
    counts_same _ _ _ _ _ _ (c.count.ensures ∙ f.spans.count_is ∙ length-map earlier span_of_attempt) f.committed
    (c.clients.ensures _ f.spans ∙ clients_mapped span_of_attempt earlier)
