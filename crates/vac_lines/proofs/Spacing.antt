-- Words with a space between two are cut into those words.
use Rattle.std.proofs.Common.{◌≡◌, ℕ, ◌<◌, ◌&&◌, Bool, true, false, List, [], ◌∷◌, ◌++◌, All, length, refl, ap, ◌∙◌}
use Rattle.std.proofs.Common.{arith, append-nil}
use Rattle.std.specs.List.{list_all, list_any}
use Rattle.std.proofs.lemmas.Bool.Decides.{nat_tests}
use Rattle.std.proofs.lemmas.List.Elements.{All-nil, All-cons}
use Rattle.std.proofs.lemmas.List.Folds.{list_any-append}
use Rattle.std.proofs.lemmas.List.Splits.{slice_split_at, slice_split_none}
use Rattle.std.proofs.Common.{eqb}
use Rattle.vac_lines.specs.Lines.{words_of}
use Rattle.vac_lines.specs.LineTable.{is_bad_byte}
use Rattle.vac_model.specs.TaskText.{spaced, words_text}
use Rattle.vac_lines.proofs.Decimals.{is_word_byte}

-- every element has the property
abbrev pub Each : {X : Type 0} → (X → Type 0) → List X → Type 0
Each P [] = Unit {0}
Each P (x ∷ xs) = P x × Each P xs

pub each_all : {X : Type 0} (P : X → Type 0) (xs : List X) → Each P xs → All P xs
each_all P [] h = All-nil P
each_all P (x ∷ xs) h = All-cons P x xs h.0 (each_all P xs h.1)

pub each_both : {X : Type 0} (P : X → Type 0) (xs ys : List X) → Each P xs → Each P ys → Each P (xs ++ ys)
each_both P [] ys p q = q
each_both P (x ∷ xs) ys p q = (p.0, each_both P xs ys p.1 q)

-- a word of bytes that may occur in a word
abbrev pub IsPlain : List ℕ → Type 0
IsPlain word = list_all is_word_byte word ≡ true

-- the test for a space
abbrev is_space : ℕ → Bool
is_space b = eqb b 32

and_left : (a b : Bool) → (a && b) ≡ true → a ≡ true
and_left true b e = refl
and_left false b e = e

and_right : (a b : Bool) → (a && b) ≡ true → b ≡ true
and_right true b e = e
and_right false b e = absurd (let k : false ≡ true = e in cc)

no_space : (b : ℕ) → is_word_byte b ≡ true → is_space b ≡ false
no_space b h = grind (arith, nat_tests, h)

no_bad_byte : (b : ℕ) → is_word_byte b ≡ true → is_bad_byte b ≡ false
no_bad_byte b h = grind (arith, nat_tests, h)

no_spaces : (word : List ℕ) → IsPlain word → Each (λ b. is_space b ≡ false) word
no_spaces [] h = tt
no_spaces (b ∷ bs) h = (
  no_space b (and_left (is_word_byte b) (list_all is_word_byte bs) h),
  no_spaces bs (and_right (is_word_byte b) (list_all is_word_byte bs) h),
)

without_space : (word : List ℕ) → IsPlain word → All (λ b. is_space b ≡ false) word
without_space word h = each_all (λ b. is_space b ≡ false) word (no_spaces word h)

words_spaced : (word : List ℕ) (words : List (List ℕ)) → IsPlain word → Each IsPlain words →
    words_of (word ++ spaced words) ≡ word ∷ words
words_spaced word [] p q = ap words_of (append-nil word) ∙ slice_split_none is_space word (without_space word p)
words_spaced word (next ∷ words) p q =
    slice_split_at is_space word 32 (next ++ spaced words) (without_space word p) refl
    ∙ ap (λ ws. word ∷ ws) (words_spaced next words q.0 q.1)

no_bad_bytes : (word : List ℕ) → IsPlain word → list_any is_bad_byte word ≡ false
no_bad_bytes [] h = refl
no_bad_bytes (b ∷ bs) h =
    rw (
      no_bad_byte b (and_left (is_word_byte b) (list_all is_word_byte bs) h),
      no_bad_bytes bs (and_right (is_word_byte b) (list_all is_word_byte bs) h),
    ) refl

spaced_clean : (word : List ℕ) (words : List (List ℕ)) → IsPlain word → Each IsPlain words →
    list_any is_bad_byte (word ++ spaced words) ≡ false
spaced_clean word [] p q = ap (list_any is_bad_byte) (append-nil word) ∙ no_bad_bytes word p
spaced_clean word (next ∷ words) p q =
    list_any-append is_bad_byte word (32 ∷ (next ++ spaced words)) ∙ rw (
      no_bad_bytes word p,
      spaced_clean next words q.0 q.1,
    ) refl

-- a text of plain words is cut into those words
pub words_cut : (words : List (List ℕ)) → 0 < length words → Each IsPlain words → words_of (words_text words) ≡ words
words_cut [] some h = absurd (omega arith)
words_cut (word ∷ words) some h = words_spaced word words h.0 h.1

-- no byte of the text of plain words is a bad one
pub words_clean : (words : List (List ℕ)) → Each IsPlain words → list_any is_bad_byte (words_text words) ≡ false
words_clean [] h = refl
words_clean (word ∷ words) h = spaced_clean word words h.0 h.1
