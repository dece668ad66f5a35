-- How a call's line is cut at its first arrow.
use Rattle.std.proofs.Common.{◌≡◌, ◌≢◌, ℕ, ◌+◌, ◌-◌, ◌<◌, ◌≤◌, suc, zero, ◌||◌, not, Bool, true, false, cond, List, []}
use Rattle.std.proofs.Common.{◌∷◌, ◌++◌, length, take, drop, Option, Some, None, refl, sym, ap, ◌∙◌, subst, arith}
use Rattle.std.proofs.Common.{append_assoc, length-append, eqb, ne_eqb, codes}
use Rattle.std.specs.List.{All, list_any, slice_split, onto_first, before_first, after_first, position_or_len}
use Rattle.std.proofs.lemmas.List.Folds.{list_any-append}
use Rattle.std.proofs.lemmas.List.Elements.{All-weaker}
use Rattle.std.proofs.lemmas.List.Splits.{slice_split_none, join_with_byte-slice_split}
use Rattle.std.proofs.Math.Seq.{take-append_seam}
use Rattle.vac_lines.specs.Lines.{words_of, HasNo}
use Rattle.judge_calls.specs.Call.{CallTexts, is_arrow, joined_words, parts_of, call_parts}
use Rattle.judge_calls.specs.Parts.{IsCutAtArrow, NoParts}

-- the test for a space
abbrev is_space : ℕ → Bool
is_space b = eqb b 32

no_space : (text : List ℕ) → HasNo 32 text → All (λ b. is_space b ≡ false) text
no_space text h = All-weaker (λ b. b ≢ 32) (λ b. is_space b ≡ false) (λ b n. ne_eqb b 32 n) text h

-- a text has a first word
abbrev HasFirst : List (List ℕ) → Type 0
HasFirst split = (first : List ℕ) × (rest : List (List ℕ)) × (split ≡ first ∷ rest)

pub first_word : (text : List ℕ) → HasFirst (words_of text)
first_word [] = ([], [], refl)
first_word (b ∷ bs) =
    let p = first_word bs in
    elim (is_space b) as (λ v. HasFirst (cond v ([] ∷ slice_split is_space bs)
    (onto_first b (slice_split is_space bs)))) [
      | true ↦ ([], slice_split is_space bs, refl)
      | false ↦ (b ∷ p.0, p.1, ap (onto_first b) p.2)
    ]

-- the words of two texts with a space between them
pub words_between : (xs ys : List ℕ) → words_of (xs ++ 32 ∷ ys) ≡ words_of xs ++ words_of ys
words_between [] ys = refl
words_between (x ∷ xs) ys =
    let p = first_word xs in
    let rest = words_between xs ys in
    elim (is_space x) as (λ v. cond v ([] ∷ words_of (xs ++ 32 ∷ ys)) (onto_first x (words_of (xs ++ 32 ∷ ys))) ≡ cond v
    ([] ∷ words_of xs) (onto_first x (words_of xs)) ++ words_of ys) [
      | true ↦ ap (λ t. [] ∷ t) rest
      | false ↦ ap (onto_first x) (rest ∙ ap (λ t. t ++ words_of ys) p.2) ∙ ap (λ t. onto_first x t ++ words_of ys)
          (sym p.2)
    ]

-- a text without a space is one word
pub one_word : (text : List ℕ) → HasNo 32 text → words_of text ≡ text ∷ []
one_word text h = slice_split_none is_space text (no_space text h)

-- a word and the words behind it
pub word_first : (text word behind : List ℕ) → HasNo 32 word → text ≡ word ++ 32 ∷ behind →
    words_of text ≡ word ∷ words_of behind
word_first text word behind h e = ap words_of e ∙ words_between word behind ∙ ap (λ t. t ++ words_of behind)
    (one_word word h)

-- where no earlier element passes, the first that passes is here
pub place_of : {X : Type 0} (p : X → Bool) (front : List X) (y : X) (ys : List X) → list_any p front ≡ false →
    p y ≡ true → position_or_len p (front ++ y ∷ ys) ≡ length front
place_of p [] y ys h g = ap (λ b. cond (not b) (1 + position_or_len p ys) 0) g
place_of p (x ∷ xs) y ys h g =
    let both = both_false (p x) (list_any p xs) h in
    ap (λ b. cond (not b) (1 + position_or_len p (xs ++ y ∷ ys)) 0) both.0 ∙
    ap (λ n. 1 + n) (place_of p xs y ys both.1 g) ∙ one_more (length xs)
  where
    both_false : (a b : Bool) → (a || b) ≡ false → (a ≡ false) × (b ≡ false)
    both_false true b h = cc
    both_false false b h = (refl, h)

    one_more : (n : ℕ) → 1 + n ≡ suc n
    one_more n = omega arith

take_seam : {X : Type 0} (xs ys : List X) → take (length xs) (xs ++ ys) ≡ xs
take_seam xs ys = take-append_seam xs ys

drop_past : {X : Type 0} (xs : List X) (y : X) (ys : List X) → drop (length xs + 1) (xs ++ y ∷ ys) ≡ ys
drop_past [] y ys = refl
drop_past (x ∷ xs) y ys =
    let e : suc (length xs) + 1 ≡ suc (length xs + 1) = omega arith in
    ap (λ n. drop n (x ∷ (xs ++ y ∷ ys))) e ∙ drop_past xs y ys

-- the parts of a line that is cut at its first arrow
pub cut_gives : (line before behind : List ℕ) → IsCutAtArrow line before behind →
    call_parts line ≡ parts_of (words_of before) (words_of behind)
cut_gives line before behind cut =
    let place = place_of is_arrow (words_of before) (codes "->") (words_of behind) cut.first refl in
    let all = cut.words in
    let front : before_first is_arrow (words_of line) ≡ words_of before =
    ap (before_first is_arrow) all ∙ ap (λ n. take n (words_of before ++ codes "->" ∷ words_of behind)) place ∙
    take_seam (words_of before) (codes "->" ∷ words_of behind) in
    let back : after_first is_arrow (words_of line) ≡ words_of behind =
    ap (after_first is_arrow) all ∙ ap (λ n. drop (n + 1) (words_of before ++ codes "->" ∷ words_of behind)) place ∙
    drop_past (words_of before) (codes "->") (words_of behind) in
    ap (λ t. parts_of t (after_first is_arrow (words_of line))) front ∙ ap (parts_of (words_of before)) back

-- nothing stands behind the arrow
none_behind : (front : List (List ℕ)) → parts_of front [] ≡ None
none_behind [] = refl
none_behind (a ∷ []) = refl
none_behind (a ∷ b ∷ []) = refl
none_behind (a ∷ b ∷ c ∷ []) = refl
none_behind (a ∷ b ∷ c ∷ d ∷ more) = refl

drop_least : {X : Type 0} (n : ℕ) (xs : List X) → length xs ≤ n → drop n xs ≡ []
drop_least zero [] h = refl
drop_least (suc n) [] h = refl
drop_least zero (x ∷ xs) h = absurd (omega arith)
drop_least (suc n) (x ∷ xs) h = drop_least n xs (omega arith)

-- the first that passes is the last element, or there is none
last_place : {X : Type 0} (p : X → Bool) (front : List X) (y : X) → list_any p front ≡ false →
    length front ≤ position_or_len p (front ++ y ∷ [])
last_place p [] y h = omega arith
last_place p (x ∷ xs) y h =
    let both = both_false (p x) (list_any p xs) h in
    let rest = last_place p xs y both.1 in
    subst (λ b. suc (length xs) ≤ cond (not b) (1 + position_or_len p (xs ++ y ∷ [])) 0) (sym both.0) (omega arith)
  where
    both_false : (a b : Bool) → (a || b) ≡ false → (a ≡ false) × (b ≡ false)
    both_false true b h = cc
    both_false false b h = (refl, h)

last_none : (line : List ℕ) (front : List (List ℕ)) (last : List ℕ) → words_of line ≡ front ++ last ∷ [] →
    list_any is_arrow front ≡ false → NoParts line
last_none line front last e h =
    let place = last_place is_arrow front last h in
    let back : after_first is_arrow (words_of line) ≡ [] =
    ap (after_first is_arrow) e ∙ drop_least (position_or_len is_arrow (front ++ last ∷ []) + 1) (front ++ last ∷ [])
    (omega (arith, length-append front (last ∷ []))) in
    ap (parts_of (before_first is_arrow (words_of line))) back ∙ none_behind (before_first is_arrow (words_of line))

-- so far no word is an arrow: of the line this rest is still to be looked at
pub data Reached (line : List ℕ) (start : ℕ) (rest : List ℕ) : Type 0 where
  at_start : start ≡ 0 → line ≡ rest → Reached line start rest
  behind_word : (before : List ℕ) → line ≡ before ++ 32 ∷ rest → start ≡ length before + 1 →
      list_any is_arrow (words_of before) ≡ false → Reached line start rest

pub reached_first : (line : List ℕ) → Reached line 0 line
reached_first line = at_start refl refl

-- one more word is no arrow
pub reached_more : (line : List ℕ) (start : ℕ) (rest word more : List ℕ) (next : ℕ) → Reached line start rest →
    HasNo 32 word → rest ≡ word ++ 32 ∷ more → is_arrow word ≡ false
    → next ≡ start + (length word + 1) → Reached line next more
reached_more line start rest word more next (at_start z same) h e other n =
    behind_word word (same ∙ e) (omega arith) (ap (list_any is_arrow) (one_word word h) ∙ ap (λ b. b || false) other)
reached_more line start rest word more next (behind_word before cut len none) h e other n =
    behind_word (before ++ 32 ∷ word) (cut ∙ ap (λ t. before ++ 32 ∷ t) e ∙
    sym (append_assoc before (32 ∷ word) (32 ∷ more))) (omega (arith, length-append before (32 ∷ word)))
    (ap (list_any is_arrow) (words_between before word) ∙ list_any-append is_arrow (words_of before) (words_of word) ∙
    ap (λ b. b || list_any is_arrow (words_of word)) none
    ∙ ap (list_any is_arrow) (one_word word h) ∙ ap (λ b. b || false) other)

pub reached_inside : (line : List ℕ) (start : ℕ) (rest : List ℕ) → Reached line start rest → start ≤ length line
reached_inside line start rest (at_start z same) = omega arith
reached_inside line start rest (behind_word before cut len none) =
    omega (arith, ap length cut, length-append before (32 ∷ rest))

pub reached_rest : (line : List ℕ) (start : ℕ) (rest : List ℕ) → Reached line start rest → drop start line ≡ rest
reached_rest line start rest (at_start z same) = ap (λ n. drop n line) z ∙ same
reached_rest line start rest (behind_word before cut len none) =
    ap (λ n. drop n line) len ∙ ap (drop (length before + 1)) cut ∙ drop_past before 32 rest

-- the first word is an arrow
pub arrow_first : (line rest word more : List ℕ) (start : ℕ) → Reached line start rest → start ≡ 0 → HasNo 32 word →
    rest ≡ word ++ 32 ∷ more → word ≡ codes "->" → NoParts line
arrow_first line rest word more start (at_start z same) first h e a =
    let words : words_of line ≡ codes "->" ∷ words_of more =
    word_first line word more h (same ∙ e) ∙ ap (λ w. w ∷ words_of more) a in
    ap (λ t. parts_of (before_first is_arrow t) (after_first is_arrow t)) words
arrow_first line rest word more start (behind_word before cut len none) first h e a = absurd (omega arith)

-- a later word is an arrow
pub arrow_later : (line rest word more : List ℕ) (start : ℕ) → Reached line start rest → 0 < start → HasNo 32 word →
    rest ≡ word ++ 32 ∷ more → word ≡ codes "->"
    → IsCutAtArrow line (take (start - 1) line) more
arrow_later line rest word more start (at_start z same) some h e a = absurd (omega arith)
arrow_later line rest word more start (behind_word before cut len none) some h e a =
    let short : start - 1 ≡ length before = omega arith in
    let front : take (start - 1) line ≡ before = ap (λ n. take n line) short ∙ ap (take (length before)) cut ∙
    take_seam before (32 ∷ rest) in
    subst (λ t. IsCutAtArrow line t more) (sym front) (record {
      words = ap words_of cut ∙ words_between before rest ∙ ap (λ t. words_of before ++ t)
          (word_first rest word more h e ∙ ap (λ w. w ∷ words_of more) a);
      first = none;
    })

-- no further word ends
pub no_arrow : (line rest : List ℕ) (start : ℕ) → Reached line start rest → HasNo 32 rest → NoParts line
no_arrow line rest start (at_start z same) h = last_none line [] rest (ap words_of same ∙ one_word rest h) refl
no_arrow line rest start (behind_word before cut len none) h =
    last_none line (words_of before) rest (ap words_of cut ∙ words_between before rest ∙ ap (λ t. words_of before ++ t)
    (one_word rest h)) none

-- fewer than four words stand before the arrow
pub few_one : (line before behind : List ℕ) → IsCutAtArrow line before behind → HasNo 32 before → NoParts line
few_one line before behind cut h = cut_gives line before behind cut ∙ ap (λ t. parts_of t (words_of behind))
    (one_word before h)

pub few_two : (line before behind client rest : List ℕ) → IsCutAtArrow line before behind → HasNo 32 client →
    before ≡ client ++ 32 ∷ rest → HasNo 32 rest → NoParts line
few_two line before behind client rest cut h e g =
    cut_gives line before behind cut ∙ ap (λ t. parts_of t (words_of behind))
    (word_first before client rest h e ∙ ap (λ t. client ∷ t) (one_word rest g))

pub few_three : (line before behind client rest begin last : List ℕ) → IsCutAtArrow line before behind →
    HasNo 32 client → before ≡ client ++ 32 ∷ rest
    → HasNo 32 begin → rest ≡ begin ++ 32 ∷ last → HasNo 32 last → NoParts line
few_three line before behind client rest begin last cut h e g f k =
    cut_gives line before behind cut
    ∙ ap (λ t. parts_of t (words_of behind)) (word_first before client rest h e ∙ ap (λ t. client ∷ t)
    (word_first rest begin last g f ∙ ap (λ t. begin ∷ t) (one_word last k)))

-- a text is its words, joined again
pub text_is : (text : List ℕ) → joined_words (words_of text) ≡ text
text_is text = join_with_byte-slice_split 32 text

-- the parts of the words, joined again
pub all_parts : (client begin end line reply : List ℕ) → parts_of (client ∷ begin ∷ end ∷ words_of line)
    (words_of reply)
    ≡ Some (record { client = client; begin = begin; end = end; line = line; reply = reply })
all_parts client begin end line reply =
    let l = first_word line in
    let r = first_word reply in
    let made : List (List ℕ) → List (List ℕ) → Option CallTexts = λ ls rs. parts_of (client ∷ begin ∷ end ∷ ls) rs in
    ap (λ t. made t (words_of reply)) l.2 ∙ ap (made (l.0 ∷ l.1)) r.2
    ∙ ap (λ t. Some (record { client = client; begin = begin; end = end; line = t; reply = joined_words (r.0 ∷ r.1) }))
    (ap joined_words (sym l.2) ∙ text_is line)
    ∙ ap (λ t. Some (record { client = client; begin = begin; end = end; line = line; reply = t }))
    (ap joined_words (sym r.2) ∙ text_is reply)

pub four_words : (line before behind client rest begin more end last : List ℕ) → IsCutAtArrow line before behind →
    HasNo 32 client → before ≡ client ++ 32 ∷ rest
    → HasNo 32 begin → rest ≡ begin ++ 32 ∷ more → HasNo 32 end → more ≡ end ++ 32 ∷ last
    → call_parts line ≡ Some (record { client = client; begin = begin; end = end; line = last; reply = behind })
four_words line before behind client rest begin more end last cut h e g f k i =
    cut_gives line before behind cut
    ∙ ap (λ t. parts_of t (words_of behind)) (word_first before client rest h e ∙ ap (λ t. client ∷ t)
    (word_first rest begin more g f ∙ ap (λ t. begin ∷ t) (word_first more end last k i)))
    ∙ all_parts client begin end last behind
