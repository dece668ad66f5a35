-- The first words of a line, as they are cut off.
use Rattle.std.proofs.Common.{◌≡◌, ◌≢◌, ℕ, Bool, false, List, [], ◌∷◌, ◌++◌, Some, None, refl, ap, ◌∙◌, ne_eqb, eqb}
use Rattle.std.specs.List.{All}
use Rattle.std.proofs.lemmas.List.Elements.{All-weaker}
use Rattle.std.proofs.lemmas.List.Splits.{slice_split_at, slice_split_none}
use Rattle.vac_lines.specs.Lines.{words_of, HasNo}
use Rattle.judge_coverage.specs.Entries.{head_of}

-- the test for a space
abbrev is_space : ℕ → Bool
is_space b = eqb b 32

no_space : (text : List ℕ) → HasNo 32 text → All (λ b. is_space b ≡ false) text
no_space text h = All-weaker (λ b. b ≢ 32) (λ b. is_space b ≡ false) (λ b n. ne_eqb b 32 n) text h

-- the words of a text that begins with a word, and of a text without a space
pub first_word : (text word behind : List ℕ) → HasNo 32 word → text ≡ word ++ 32 ∷ behind →
    words_of text ≡ word ∷ words_of behind
first_word text word behind h e = ap words_of e ∙ slice_split_at is_space word 32 behind (no_space word h) refl

pub last_word : (text : List ℕ) → HasNo 32 text → words_of text ≡ text ∷ []
last_word text h = slice_split_none is_space text (no_space text h)

-- a line of one word, of two and of three
pub one_word : (line : List ℕ) → HasNo 32 line → head_of (words_of line) ≡ None
one_word line h = ap head_of (last_word line h)

pub two_words : (line client rest : List ℕ) → HasNo 32 client → line ≡ client ++ 32 ∷ rest → HasNo 32 rest →
    head_of (words_of line) ≡ None
two_words line client rest h e k =
    ap head_of (first_word line client rest h e ∙ ap (λ ws. client ∷ ws) (last_word rest k))

module _ (line client rest begin rest' : List ℕ) (h : HasNo 32 client) (e : line ≡ client ++ 32 ∷ rest)
    (k : HasNo 32 begin) (f : rest ≡ begin ++ 32 ∷ rest') where
  words_behind : words_of line ≡ client ∷ begin ∷ words_of rest'
  words_behind = first_word line client rest h e ∙ ap (λ ws. client ∷ ws) (first_word rest begin rest' k f)

  pub three_words : HasNo 32 rest' → head_of (words_of line) ≡ None
  three_words n = ap head_of (words_behind ∙ ap (λ ws. client ∷ begin ∷ ws) (last_word rest' n))

  -- a line of four words or more
  pub more_words : (end rest'' next : List ℕ) (more : List (List ℕ)) → HasNo 32 end → rest' ≡ end ++ 32 ∷ rest'' →
      words_of rest'' ≡ next ∷ more →
      head_of (words_of line) ≡ Some (record { client = client; begin = begin; end = end; next = next })
  more_words end rest'' next more l g e' =
      ap head_of (words_behind
      ∙ ap (λ ws. client ∷ begin ∷ ws) (first_word rest' end rest'' l g ∙ ap (λ ws. end ∷ ws) e'))
