-- Cutting a text into lines, chunk by chunk.
use Rattle.std.proofs.Common.{◌≡◌, ◌≢◌, ℕ, ◌+◌, ◌-◌, ◌<◌, ◌≤◌, Bool, true, false, cond, min, List, [], ◌∷◌, ◌++◌}
use Rattle.std.proofs.Common.{length, take, drop, map, refl, ap, sym, ◌∙◌, inl, inr, arith, append-nil, append_assoc}
use Rattle.std.proofs.Common.{length-append, length-take-le, eqb, ne_eqb, lt-ltb, subst, length-take, take-add}
use Rattle.std.proofs.Math.Seq.{take-append_seam, drop-append_seam}
use Rattle.std.specs.List.{slice_split, onto_first}
use Rattle.std.proofs.lemmas.List.{take_all}
use Rattle.std.proofs.lemmas.List.Elements.{All-head, All-tail, All-take, All-append, All-nil}
use Rattle.std.proofs.lemmas.List.Splits.{slice_split-cons_no}
use Rattle.std.proofs.lemmas.Bool.{cases_lt}
use Rattle.vac_lines.proofs.Extends.{take_least}
use Rattle.vac_lines.specs.Lines.{lines_of, without_empty_end, HasNo}
use Rattle.vac_lines.specs.Told.{LongLine, message_of, line_messages}
use Rattle.vac_lines.specs.Feeding.{HasBegun}

-- no byte of a text ends a line
abbrev pub HasNoEnd : List ℕ → Type 0
HasNoEnd text = HasNo 10 text

-- the test for a line end
abbrev is_end : ℕ → Bool
is_end b = eqb b 10

-- the parts of a text; there is at least one
abbrev Parts : List (List ℕ) → Type 0
Parts split = (first : List ℕ) × (rest : List (List ℕ)) × (split ≡ first ∷ rest)

parts : (text : List ℕ) → Parts (slice_split is_end text)
parts [] = ([], [], refl)
parts (b ∷ bs) =
    let p = parts bs in
    elim (is_end b) as (λ v. Parts (cond v ([] ∷ slice_split is_end bs) (onto_first b (slice_split is_end bs)))) [
      | true ↦ ([], slice_split is_end bs, refl)
      | false ↦ (b ∷ p.0, p.1, ap (onto_first b) p.2)
    ]

-- the parts of a text that begins with a text without a line end
parts_behind : (line text first : List ℕ) (rest : List (List ℕ)) → HasNoEnd line
    → slice_split is_end text ≡ first ∷ rest
    → slice_split is_end (line ++ text) ≡ (line ++ first) ∷ rest
parts_behind [] text first rest h e = e
parts_behind (b ∷ bs) text first rest h e =
    slice_split-cons_no is_end b (bs ++ text) (ne_eqb b 10 (All-head (λ x. x ≢ 10) b bs h))
    ∙ ap (onto_first b) (parts_behind bs text first rest (All-tail (λ x. x ≢ 10) b bs h) e)

-- a line with its end
pub lines_cut : (line text : List ℕ) → HasNoEnd line → lines_of (line ++ 10 ∷ text) ≡ line ∷ lines_of text
lines_cut line text h =
    let p = parts text in
    let e = parts_behind line (10 ∷ text) [] (slice_split is_end text) h refl in
    ap without_empty_end (e ∙ ap (λ t. (line ++ []) ∷ t) p.2)
    ∙ ap (λ t. t ∷ without_empty_end (p.0 ∷ p.1)) (append-nil line)
    ∙ ap (λ t. line ∷ without_empty_end t) (sym p.2)

-- a last line without its end
pub lines_last : (line : List ℕ) → HasNoEnd line → lines_of line ≡ cond (eqb (length line) 0) [] (line ∷ [])
lines_last line h =
    let e = parts_behind line [] [] [] h refl in
    ap lines_of (sym (append-nil line)) ∙ ap without_empty_end (e ∙ ap (λ t. t ∷ []) (append-nil line))

-- true if the text is empty
abbrev is_empty : List ℕ → Bool
is_empty text = eqb (length text) 0

module _ (longest : ℕ) where
  -- a line that is too long
  long_line : (line : List ℕ) → longest < length line → message_of longest line ≡ LongLine
  long_line line h = rw (lt-ltb longest (length line) h) refl

  -- only the fact that a line is too long matters for its message
  pub told_prefix : (line : List ℕ) → message_of longest (take (longest + 1) line) ≡ message_of longest line
  told_prefix line =
      elim (cases_lt (longest + 1) (length line)) [
        | inl h ↦ let kept : length (take (longest + 1) line) ≡ longest + 1 = length-take-le (longest + 1) line
            (omega arith) in
            long_line (take (longest + 1) line) (omega arith) ∙ sym (long_line line (omega arith))
        | inr h ↦ ap (message_of longest) (take_all (longest + 1) line h)
      ]

  -- a line that is too long, in front of others
  long_map : (line : List ℕ) (rest : List (List ℕ)) → longest < length line
      → map (message_of longest) (without_empty_end (line ∷ rest)) ≡ LongLine ∷ map (message_of longest)
      (without_empty_end rest)
  long_map line [] h =
      let some : is_empty line ≡ false = ne_eqb (length line) 0 (λ e. omega arith) in
      ap (λ v. map (message_of longest) (cond v [] (line ∷ []))) some ∙ ap (λ t. t ∷ []) (long_line line h)
  long_map line (next ∷ more) h = ap (λ t. t ∷ map (message_of longest) (without_empty_end (next ∷ more)))
      (long_line line h)

  -- so the start of a line that is too long need not be kept in whole
  told_kept : (line text : List ℕ) → HasNoEnd line
      → line_messages longest (take (longest + 1) line ++ text) ≡ line_messages longest (line ++ text)
  told_kept line text h =
      elim (cases_lt (longest + 1) (length line)) [
        | inl long ↦
            let p = parts text in
            let kept : length (take (longest + 1) line) ≡ longest + 1 = length-take-le (longest + 1) line
            (omega arith) in
            let prefix = parts_behind (take (longest + 1) line) text p.0 p.1
            (All-take (λ x. x ≢ 10) (longest + 1) line h) p.2 in
            let whole = parts_behind line text p.0 p.1 h p.2 in
            ap (λ t. map (message_of longest) (without_empty_end t)) prefix
            ∙ (long_map (take (longest + 1) line ++ p.0) p.1
            (omega (arith, length-append (take (longest + 1) line) p.0))
            ∙ sym (long_map (line ++ p.0) p.1 (omega (arith, length-append line p.0))))
            ∙ ap (λ t. map (message_of longest) (without_empty_end t)) (sym whole)
        | inr short ↦ ap (λ l. line_messages longest (l ++ text)) (take_all (longest + 1) line short)
      ]

  -- a line end is known
  pub told_cut : (start line behind rest x : List ℕ) → HasNoEnd start → HasNoEnd line → rest ≡ line ++ 10 ∷ behind
      → line_messages longest (start ++ (rest ++ x)) ≡ message_of longest (start ++ line) ∷ line_messages longest
      (behind ++ x)
  told_cut start line behind rest x h g e =
      ap (λ t. line_messages longest (start ++ (t ++ x))) e
      ∙ ap (λ t. line_messages longest (start ++ t)) (append_assoc line (10 ∷ behind) x)
      ∙ ap (line_messages longest) (sym (append_assoc start line (10 ∷ (behind ++ x))))
      ∙ ap (map (message_of longest)) (lines_cut (start ++ line) (behind ++ x)
      (All-append (λ y. y ≢ 10) start line h g))

  -- more of the last line is known
  pub told_moved : (start rest after x : List ℕ) → HasNoEnd start → HasNoEnd rest
      → after ≡ take (longest + 1) (start ++ rest)
      → line_messages longest (start ++ (rest ++ x)) ≡ line_messages longest (after ++ x)
  told_moved start rest after x h g k =
      ap (line_messages longest) (sym (append_assoc start rest x))
      ∙ sym (told_kept (start ++ rest) x (All-append (λ y. y ≢ 10) start rest h g))
      ∙ ap (λ l. line_messages longest (l ++ x)) (sym k)

  -- the last line, without its end
  pub told_last : (start : List ℕ) → HasNoEnd start → 0 < length start
      → line_messages longest start ≡ message_of longest start ∷ []
  told_last start h n =
      let some : is_empty start ≡ false = ne_eqb (length start) 0 (λ z. omega arith) in
      ap (map (message_of longest)) (lines_last start h) ∙ ap (λ v. map (message_of longest)
      (cond v [] (start ∷ []))) some

  -- there is no last line
  pub told_none : (start : List ℕ) → start ≡ [] → line_messages longest start ≡ []
  told_none start e = ap (line_messages longest) e

  -- the kept part of a line has no line end and is short
  pub has_begun : (start more : List ℕ) → HasNoEnd start → HasNoEnd more
      → HasBegun longest (take (longest + 1) (start ++ more))
  has_begun start more h g = (
    All-take (λ x. x ≢ 10) (longest + 1) (start ++ more) (All-append (λ x. x ≢ 10) start more h g),
    omega
        (arith, length-take (longest + 1) (start ++ more)),
  )

  -- no line has begun
  pub nothing_begun : (line : List ℕ) → line ≡ [] → HasBegun longest line
  nothing_begun line e = subst (HasBegun longest) (sym e) (All-nil (λ x. x ≢ 10), omega arith)

take_over : (n : ℕ) (xs ys : List ℕ) → length xs ≤ n → take n (xs ++ ys) ≡ xs ++ take (n - length xs) ys
take_over n xs ys h =
    let whole : n ≡ length xs + (n - length xs) = omega arith in
    ap (λ i. take i (xs ++ ys)) whole ∙ take-add (length xs) (n - length xs) (xs ++ ys)
    ∙ ap (λ t. t ++ take (n - length xs) (drop (length xs) (xs ++ ys))) (take-append_seam xs ys)
    ∙ ap (λ t. xs ++ take (n - length xs) t) (drop-append_seam xs ys)

-- the kept part of a line that goes on
pub kept_prefix : (most : ℕ) (start more : List ℕ) (k : ℕ) → length start ≤ most
    → k ≡ min (most - length start) (length more) → start ++ take k more ≡ take most (start ++ more)
kept_prefix most start more k h e = ap (λ t. start ++ t) (take_least (most - length start) k more e)
    ∙ sym (take_over most start more h)
