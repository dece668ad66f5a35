-- A list of two, three or four words, word by word.
use Rattle.std.proofs.Common.{◌≡◌, ℕ, ◌≤◌, ◌<◌, List, [], ◌∷◌, length, get_or, refl, arith, Bor}
use Rattle.vac_lines.specs.Lines.{texts}

pub two_words : (ws : List (Bor (List ℕ))) (d : Bor (List ℕ)) → 2 ≤ length ws → length ws < 3 →
    texts ws ≡ (get_or ws 0 d).now ∷ (get_or ws 1 d).now ∷ []
two_words [] d a b = absurd (omega arith)
two_words (p ∷ []) d a b = absurd (omega arith)
two_words (p ∷ q ∷ []) d a b = refl
two_words (p ∷ q ∷ r ∷ s) d a b = absurd (omega arith)

pub three_words : (ws : List (Bor (List ℕ))) (d : Bor (List ℕ)) → 3 ≤ length ws → length ws < 4 →
    texts ws ≡ (get_or ws 0 d).now ∷ (get_or ws 1 d).now ∷ (get_or ws 2 d).now ∷ []
three_words [] d a b = absurd (omega arith)
three_words (p ∷ []) d a b = absurd (omega arith)
three_words (p ∷ q ∷ []) d a b = absurd (omega arith)
three_words (p ∷ q ∷ r ∷ []) d a b = refl
three_words (p ∷ q ∷ r ∷ s ∷ t) d a b = absurd (omega arith)

pub four_words : (ws : List (Bor (List ℕ))) (d : Bor (List ℕ)) → 4 ≤ length ws → length ws < 5
    → texts ws ≡ (get_or ws 0 d).now ∷ (get_or ws 1 d).now ∷ (get_or ws 2 d).now ∷ (get_or ws 3 d).now ∷ []
four_words [] d a b = absurd (omega arith)
four_words (p ∷ []) d a b = absurd (omega arith)
four_words (p ∷ q ∷ []) d a b = absurd (omega arith)
four_words (p ∷ q ∷ r ∷ []) d a b = absurd (omega arith)
four_words (p ∷ q ∷ r ∷ s ∷ []) d a b = refl
four_words (p ∷ q ∷ r ∷ s ∷ t ∷ u) d a b = absurd (omega arith)
