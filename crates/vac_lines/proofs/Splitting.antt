-- Cutting a line into words, word by word.
use Rattle.std.proofs.Common.{◌≡◌, ◌≢◌, ℕ, Bool, false, List, [], ◌∷◌, ◌++◌, ap, sym, ◌∙◌, append_assoc, Bor, ne_eqb}
use Rattle.std.proofs.Common.{refl, eqb}
use Rattle.std.specs.List.{All}
use Rattle.std.proofs.lemmas.List.{map-append}
use Rattle.std.proofs.lemmas.List.Elements.{All-weaker}
use Rattle.std.proofs.lemmas.List.Splits.{slice_split_at, slice_split_none}
use Rattle.vac_lines.specs.Lines.{words_of, texts, HasNo}

-- the test for a space
abbrev is_space : ℕ → Bool
is_space b = eqb b 32

no_space : (text : List ℕ) → HasNo 32 text → All (λ b. is_space b ≡ false) text
no_space text h = All-weaker (λ b. b ≢ 32) (λ b. is_space b ≡ false) (λ b n. ne_eqb b 32 n) text h

-- one more word
pub word_cut : (line behind rest : List ℕ) (words : List (Bor (List ℕ))) (w : Bor (List ℕ)) →
    words_of line ≡ texts words ++ words_of rest
    → HasNo 32 w.now → rest ≡ w.now ++ 32 ∷ behind → words_of line ≡ texts (words ++ w ∷ []) ++ words_of behind
word_cut line behind rest words w e h f =
    e ∙ ap (λ r. texts words ++ words_of r) f ∙ ap (λ t. texts words ++ t)
    (slice_split_at is_space w.now 32 behind (no_space w.now h) refl)
    ∙ sym (append_assoc (texts words) (w.now ∷ []) (words_of behind)) ∙ ap (λ t. t ++ words_of behind)
    (sym (map-append (λ (v : Bor (List ℕ)). v.now) words (w ∷ [])))

-- the last word
pub word_last : (line : List ℕ) (words : List (Bor (List ℕ))) (w : Bor (List ℕ)) →
    words_of line ≡ texts words ++ words_of w.now
    → HasNo 32 w.now → texts (words ++ w ∷ []) ≡ words_of line
word_last line words w e h =
    map-append (λ (v : Bor (List ℕ)). v.now) words (w ∷ []) ∙ ap (λ t. texts words ++ t)
    (sym (slice_split_none is_space w.now (no_space w.now h))) ∙ sym e
