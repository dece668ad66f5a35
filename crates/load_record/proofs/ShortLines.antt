-- Lines that are tested one after the other.
use Rattle.std.proofs.Common.{◌≡◌, ◌∙◌, ◌+◌, ◌<◌, ◌≤◌, ◌^◌, ◌&&◌, ℕ, Bool, true, false, List, [], ◌∷◌, ◌++◌, length}
use Rattle.std.proofs.Common.{take}
use Rattle.std.proofs.Common.{get_or, map, sym, ap, subst, arith}
use Rattle.std.specs.Prelude.{All}
use Rattle.std.specs.List.{list_all}
use Rattle.std.proofs.lemmas.List.{take_more, map-append}
use Rattle.std.proofs.lemmas.List.Elements.{All-nil, All-cons, All-append}
use Rattle.std.proofs.lemmas.List.Folds.{list_all_more, list_all_at, list_all-map}
use Rattle.load_record.specs.declared.lines.Line.{Line}
use Rattle.load_record.specs.Lines.{AttemptEntry, line_entry}
use Rattle.load_record.specs.Entries.{FitsAccess, Fits, AllFit, is_short, are_short}
use Rattle.load_record.proofs.Lengths.{few_fit}

-- one more element that passes the test
pub passed_more : {X : Type 0} (p : X → Bool) (xs : List X) (place : ℕ) (d : X) → place < length xs →
    list_all p (take place xs) ≡ true → p (get_or xs place d) ≡ true → list_all p (take (place + 1) xs) ≡ true
passed_more p xs place d low before here =
    list_all_more p xs place d low ∙ ap (λ (b : Bool). b && p (get_or xs place d)) before ∙ here

-- one more element of which this holds
pub all_more : {X : Type 0} (P : X → Type 0) (xs : List X) (place : ℕ) (d : X) → place < length xs →
    All P (take place xs) → P (get_or xs place d) → All P (take (place + 1) xs)
all_more P xs place d low before here =
    subst (λ (l : List _). All P l) (sym (take_more xs place d low))
    (All-append P (take place xs) (get_or xs place d ∷ []) before (All-cons P (get_or xs place d) [] here (All-nil P)))

-- an attempt with few accesses fits
pub short_fits : (words : ℕ) (e : AttemptEntry) → words ≤ 4194304 → e.client < 2 ^ 32 →
    e.attempt.begin < 2 ^ 64 → e.attempt.end < 2 ^ 64 → length e.attempt.accesses.items ≤ 2164800 →
    All (λ access. FitsAccess words access) e.attempt.accesses.items → Fits words e
short_fits words e few client begin end short accesses =
    let most : e.client ≤ 4294967295 = omega (arith, client) in
    few_fit words e few (record { client = most; begin = begin; end = end; accesses = accesses }) short

module _ (words : ℕ) (lines : List Line) (place : ℕ) (line : Line) (low : place < length lines)
    (at : line ≡ get_or lines place line) where
  -- one more line with a short attempt
  pub short_more : are_short words (map line_entry (take place lines)) ≡ true →
      is_short words (line_entry line).attempt ≡ true → are_short words (map line_entry (take (place + 1) lines)) ≡ true
  short_more before here =
      list_all-map (λ (e : AttemptEntry). is_short words e.attempt) line_entry (take (place + 1) lines)
      ∙ passed_more (λ (l : Line). is_short words (line_entry l).attempt) lines place line low
      (sym (list_all-map (λ (e : AttemptEntry). is_short words e.attempt) line_entry (take place lines)) ∙ before)
      (ap (λ (l : Line). is_short words (line_entry l).attempt) (sym at) ∙ here)

  -- a line with another one
  pub not_short : is_short words (line_entry line).attempt ≡ false → are_short words (map line_entry lines) ≡ false
  not_short here =
      list_all-map (λ (e : AttemptEntry). is_short words e.attempt) line_entry lines
      ∙ list_all_at (λ (l : Line). is_short words (line_entry l).attempt) lines place line low
      (ap (λ (l : Line). is_short words (line_entry l).attempt) (sym at) ∙ here)

  -- one more line that fits
  pub fit_more : AllFit words (map line_entry (take place lines)) → Fits words (line_entry line) →
      AllFit words (map line_entry (take (place + 1) lines))
  fit_more before here =
      let last = line_entry (get_or lines place line) in
      let parts : map line_entry (take (place + 1) lines) ≡ map line_entry (take place lines) ++ last ∷ [] =
      ap (map line_entry) (take_more lines place line low)
      ∙ map-append line_entry (take place lines) (get_or lines place line ∷ []) in
      subst (λ (l : List AttemptEntry). AllFit words l) (sym parts)
      (All-append (λ e. Fits words e) (map line_entry (take place lines)) (last ∷ []) before
      (All-cons (λ e. Fits words e) last [] (subst (λ (l : Line). Fits words (line_entry l)) at here)
      (All-nil (λ e. Fits words e))))
