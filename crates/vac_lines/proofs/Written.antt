-- Texts that were written, as prefixes of themselves.
use Rattle.std.proofs.Common.{ℕ, List, length, sym, subst, Option, arith}
use Rattle.std.proofs.lemmas.List.{take_all}
use Rattle.std.specs.Io.KnownBytes.{Appends, Keeps}
use Rattle.std.proofs.KnownBytes.{Appends-kept}
use Rattle.vac_lines.specs.Writing.{AppendsPrefix}

-- a text that was written in whole is a prefix of itself
pub whole : (held holds : Option (List ℕ)) (text : List ℕ) → Appends held holds text → AppendsPrefix held holds text
whole held holds text w = (length text, subst (Appends held holds) (sym (take_all (length text) text (omega arith))) w)

-- as `whole`, if the output stayed as it was
pub whole_kept : (held holds now : Option (List ℕ)) (text : List ℕ) → Appends held holds text → Keeps holds now →
    AppendsPrefix held now text
whole_kept held holds now text w k = whole held now text (Appends-kept held holds now text w k)
