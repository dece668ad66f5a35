-- How a text is cut into lines while it is read.
use Rattle.std.proofs.Common.{◌≡◌, ◌≢◌, ℕ, ◌<◌, Bool, true, false, cond, List, [], ◌∷◌, ◌++◌}
use Rattle.std.proofs.Common.{length, refl, ap, sym, ◌∙◌, arith, append-nil, eqb, ne_eqb}
use Rattle.std.specs.List.{slice_split, onto_first}
use Rattle.std.proofs.lemmas.List.Elements.{All-head, All-tail}
use Rattle.std.proofs.lemmas.List.Splits.{slice_split-cons_no}
use Rattle.vac_lines.specs.Lines.{lines_of, without_empty_end, HasNo}

-- no byte of a text ends a line
abbrev pub HasNoEnd : List ℕ → Type 0
HasNoEnd text = HasNo 10 text

-- the test for a line end
abbrev is_end : ℕ → Bool
is_end b = eqb b 10

-- the parts of a text: there is a first one
abbrev Parts : List (List ℕ) → Type 0
Parts split = (first : List ℕ) × (rest : List (List ℕ)) × (split ≡ first ∷ rest)

parts : (text : List ℕ) → Parts (slice_split is_end text)
parts [] = ([], [], refl)
parts (b ∷ bs) =
    let p = parts bs in
    elim (is_end b) as (λ v. Parts (cond v ([] ∷ slice_split is_end bs) (onto_first b (slice_split is_end bs)))) [
      | true ↦ ([], slice_split is_end bs, refl)
      | false ↦ (b ∷ p.0, p.1, ap (onto_first b) p.2)
    ]

-- the parts of a text that begins with a text without a line end
parts_behind : (line text first : List ℕ) (rest : List (List ℕ)) → HasNoEnd line
    → slice_split is_end text ≡ first ∷ rest
    → slice_split is_end (line ++ text) ≡ (line ++ first) ∷ rest
parts_behind [] text first rest h e = e
parts_behind (b ∷ bs) text first rest h e =
    slice_split-cons_no is_end b (bs ++ text) (ne_eqb b 10 (All-head (λ x. x ≢ 10) b bs h))
    ∙ ap (onto_first b) (parts_behind bs text first rest (All-tail (λ x. x ≢ 10) b bs h) e)

-- a line that has its end
pub lines_cut : (line text : List ℕ) → HasNoEnd line → lines_of (line ++ 10 ∷ text) ≡ line ∷ lines_of text
lines_cut line text h =
    let p = parts text in
    let e = parts_behind line (10 ∷ text) [] (slice_split is_end text) h refl in
    ap without_empty_end (e ∙ ap (λ t. (line ++ []) ∷ t) p.2)
    ∙ ap (λ t. t ∷ without_empty_end (p.0 ∷ p.1)) (append-nil line)
    ∙ ap (λ t. line ∷ without_empty_end t) (sym p.2)

-- a last line without its end
pub lines_last : (line : List ℕ) → HasNoEnd line → lines_of line ≡ cond (eqb (length line) 0) [] (line ∷ [])
lines_last line h =
    let e = parts_behind line [] [] [] h refl in
    ap lines_of (sym (append-nil line)) ∙ ap without_empty_end (e ∙ ap (λ t. t ∷ []) (append-nil line))

-- a last line that has a byte
pub lines_rest : (line : List ℕ) → HasNoEnd line → 0 < length line → lines_of line ≡ line ∷ []
lines_rest [] h l = absurd (omega arith)
lines_rest (b ∷ bs) h l =
    lines_last (b ∷ bs) h
    ∙ ap (λ t. cond t [] ((b ∷ bs) ∷ []))
    (ne_eqb (length (b ∷ bs)) 0 (λ e. absurd (let x : length (b ∷ bs) ≡ 0 = e in omega arith)))

-- no line is left
pub lines_none : (line : List ℕ) → length line ≡ 0 → lines_of line ≡ []
lines_none [] e = refl
lines_none (b ∷ bs) e = absurd (omega arith)
