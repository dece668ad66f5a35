-- Texts that may be lost.
use Rattle.std.proofs.Common.{◌≡◌, ◌∙◌, ℕ, List, Option, None, Some, sym, subst, append-nil}
use Rattle.vac_lines.specs.Writing.{AppendsPrefix}

-- nothing was written
pub none_of : (held : Option (List ℕ)) (text : List ℕ) → AppendsPrefix held held text
none_of None text = (0, tt)
none_of (Some bytes) text = (0, sym (append-nil bytes))

-- the text was written that a report has
pub shown : (held holds : Option (List ℕ)) (slice items text : List ℕ) → slice ≡ items → items ≡ text →
    AppendsPrefix held holds slice → AppendsPrefix held holds text
shown held holds slice items text e f written = subst (AppendsPrefix held holds) (e ∙ f) written
