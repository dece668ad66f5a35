-- The words of a text have no spaces, and words without spaces are the words of their text.
use Rattle.std.proofs.Common.{◌≡◌, ℕ, Bool, true, false, cond, List, [], ◌∷◌, ◌++◌, refl, ap, ◌∙◌, append-nil, eqb}
use Rattle.std.specs.List.{onto_first}
use Rattle.std.proofs.lemmas.List.Splits.{slice_split_at, slice_split_none}
use Rattle.vac_lines.specs.Lines.{words_of}
use Rattle.vac_model.specs.TaskText.{spaced, words_text}
use Rattle.vac_lines.proofs.Spacing.{Each, each_all}

-- the test for a space
abbrev is_space : ℕ → Bool
is_space b = eqb b 32

-- a word without spaces
abbrev pub Spaceless : List ℕ → Type 0
Spaceless word = Each (λ b. is_space b ≡ false) word

begin_with : (b : ℕ) → is_space b ≡ false → (words : List (List ℕ)) → Each Spaceless words →
    Each Spaceless (onto_first b words)
begin_with b e [] h = ((e, tt), tt)
begin_with b e (word ∷ words) h = ((e, h.0), h.1)

pub words_free : (text : List ℕ) → Each Spaceless (words_of text)
words_free [] = (tt, tt)
words_free (b ∷ bs) = go (is_space b) refl (words_free bs)
  where
    go : (t : Bool) → is_space b ≡ t → Each Spaceless (words_of bs) →
        Each Spaceless (cond t ([] ∷ words_of bs) (onto_first b (words_of bs)))
    go true e h = (tt, h)
    go false e h = begin_with b e (words_of bs) h

pub words_back : (word : List ℕ) (words : List (List ℕ)) → Spaceless word → Each Spaceless words →
    words_of (words_text (word ∷ words)) ≡ word ∷ words
words_back word [] p q =
    ap words_of (append-nil word) ∙ slice_split_none is_space word (each_all (λ b. is_space b ≡ false) word p)
words_back word (next ∷ words) p q =
    slice_split_at is_space word 32 (next ++ spaced words) (each_all (λ b. is_space b ≡ false) word p) refl
    ∙ ap (λ ws. word ∷ ws) (words_back next words q.0 q.1)
