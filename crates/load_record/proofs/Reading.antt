-- The text of attempts is read back as these attempts.
use Rattle.std.proofs.Common.{◌≡◌, ◌≢◌, ◌≤◌, ◌<◌, ◌+◌, ◌*◌, ◌-◌, ◌/◌, ◌%◌, ◌^◌, Bool, true, false, ℕ, List, [], ◌∷◌}
use Rattle.std.proofs.Common.{◌++◌}
use Rattle.std.proofs.Common.{All, Some, Ok, map, length, decimal, codes, refl, sym, ap, ◌∙◌, arith, append_assoc}
use Rattle.std.proofs.Common.{length-append, lt-ltb}
use Rattle.std.specs.List.{list_any}
use Rattle.std.proofs.lemmas.Bool.{le-leb, le-ltb}
use Rattle.std.proofs.lemmas.Fmt.{decimal_by_steps, decimal_nonempty, length-decimal-le}
use Rattle.std.proofs.lemmas.List.Elements.{All-head, All-tail, All-nil, All-cons}
use Rattle.std.proofs.lemmas.List.Sums.{fold-append}
use Rattle.tx_memory.specs.declared.access.Access.{Access as MadeAccess}
use Rattle.tx_memory.specs.declared.access.Access.TheVariants as made
use Rattle.vac_lines.specs.Lines.{words_of, lines_of, HasNo}
use Rattle.vac_lines.specs.LineTable.{is_bad_byte}
use Rattle.vac_model.specs.TaskText.{spaced, words_text}
use Rattle.vac_lines.specs.Words.{decimal_value, memory_word_of}
use Rattle.vac_lines.proofs.Decimals.{all_digits, number_in_word}
use Rattle.vac_lines.proofs.Spacing.{Each, IsPlain, words_cut, words_clean}
use Rattle.vac_lines.proofs.LineCuts.{lines_cut}
use Rattle.judge_object.proofs.Tests.{both_false}
use Rattle.judge_opacity.specs.Attempt.{at_attempt_client, at_memory_word, at_word, at_outcome, accesses_of}
use Rattle.judge_opacity.specs.Attempt.{words_attempt, line_attempt}
use Rattle.load_record.specs.Lines.{AttemptEntry, accesses_text, outcome_text, head_text, lines_text}
use Rattle.load_record.specs.Entries.{access_of, attempt_of, FitsAccess, HasNumbers, Fits}
use Rattle.load_record.specs.Judged.{AttemptTextsAreRead}

-- ---- numbers

value_one : (n : ℕ) → n < 10 → decimal_value ((48 + n) ∷ []) ≡ n
value_one n h = omega arith

value_more : (n : ℕ) (digits : List ℕ) → 10 ≤ n → decimal_value digits ≡ n / 10 →
    decimal_value (digits ++ ((48 + n % 10) ∷ [])) ≡ n
value_more n digits h e =
    let last = fold-append (λ (m d : ℕ). 10 * m + (d - 48)) 0 digits ((48 + n % 10) ∷ []) in
    omega (arith, last, e)

-- a number in decimal has its value
value_is : (n : ℕ) → n < 2 ^ 64 → decimal_value (decimal n) ≡ n
value_is n small = decimal_by_steps (λ m digits. decimal_value digits ≡ m) value_one value_more n small

client_read : (n : ℕ) → n ≤ 4294967295 → at_attempt_client (decimal n) ≡ Ok n
client_read n low =
    let some = decimal_nonempty n (omega (arith, low)) in
    let few = length-decimal-le 10 n (omega arith) (omega (arith, low)) (omega (arith, low)) in
    rw (
      le-leb 1 (length (decimal n)) some,
      le-leb (length (decimal n)) 10 few,
      all_digits n (omega (arith, low)),
      value_is n (omega (arith, low)),
      le-leb 0 n (omega arith),
      le-leb n 4294967295 low,
    ) refl

word_read : (n : ℕ) → n < 2 ^ 64 → memory_word_of (decimal n) ≡ Some n
word_read n small =
    let some = decimal_nonempty n small in
    let few = length-decimal-le 20 n (omega arith) (omega (arith, small)) small in
    rw (
      le-leb 1 (length (decimal n)) some,
      le-leb (length (decimal n)) 20 few,
      all_digits n small,
      value_is n small,
      le-leb 0 n (omega arith),
      le-leb n (2 ^ 64 - 1) (omega (arith, small)),
    ) refl

number_read : (n : ℕ) → n < 2 ^ 64 → at_memory_word (decimal n) ≡ Ok n
number_read n small = rw (word_read n small) refl

address_read : (words n : ℕ) → n < 2 ^ 64 → n < words → at_word words (decimal n) ≡ Ok n
address_read words n small low = rw (word_read n small, lt-ltb n words low) refl

-- ---- the words of a line

abbrev accesses_words : List MadeAccess → List (List ℕ)
accesses_words [] = []
accesses_words (made.Read addr value ∷ more) =
    codes "r" ∷ decimal addr.0 ∷ decimal value ∷ accesses_words more
accesses_words (made.Write addr value ∷ more) =
    codes "w" ∷ decimal addr.0 ∷ decimal value ∷ accesses_words more

abbrev outcome_word : Bool → List ℕ
outcome_word true = codes "commit"
outcome_word false = codes "abort"

abbrev line_words : AttemptEntry → List (List ℕ)
line_words e = decimal e.client ∷ decimal e.attempt.begin ∷ decimal e.attempt.end ∷ outcome_word e.attempt.commits
    ∷ accesses_words e.attempt.accesses.items

-- the line without its line end
abbrev body : AttemptEntry → List ℕ
body e = head_text e ++ accesses_text e.attempt.accesses.items

-- one access more in front of a text
access_in_front : (kind address value text : List ℕ) →
    kind ++ (address ++ 32 ∷ (value ++ text)) ≡ (kind ++ (address ++ 32 ∷ value)) ++ text
access_in_front kind address value text =
    ap (λ t. kind ++ t) (sym (append_assoc address (32 ∷ value) text))
    ∙ sym (append_assoc kind (address ++ 32 ∷ value) text)

accesses_spaced : (xs : List MadeAccess) → spaced (accesses_words xs) ≡ accesses_text xs
accesses_spaced [] = refl
accesses_spaced (made.Read addr value ∷ more) =
    ap (λ t. codes " r " ++ (decimal addr.0 ++ 32 ∷ (decimal value ++ t))) (accesses_spaced more)
    ∙ access_in_front (codes " r ") (decimal addr.0) (decimal value) (accesses_text more)
accesses_spaced (made.Write addr value ∷ more) =
    ap (λ t. codes " w " ++ (decimal addr.0 ++ 32 ∷ (decimal value ++ t))) (accesses_spaced more)
    ∙ access_in_front (codes " w ") (decimal addr.0) (decimal value) (accesses_text more)

outcome_spaced : (b : Bool) → outcome_text b ≡ 32 ∷ outcome_word b
outcome_spaced true = refl
outcome_spaced false = refl

from_left : (a b c d e : List ℕ) →
    (((a ++ 32 ∷ b) ++ 32 ∷ c) ++ d) ++ e ≡ a ++ 32 ∷ (b ++ 32 ∷ (c ++ (d ++ e)))
from_left a b c d e = simp append_assoc

body_is : (e : AttemptEntry) → body e ≡ words_text (line_words e)
body_is e =
    let accesses = e.attempt.accesses.items in
    from_left (decimal e.client) (decimal e.attempt.begin) (decimal e.attempt.end) (outcome_text e.attempt.commits)
    (accesses_text accesses)
    ∙ ap (λ t. decimal e.client ++ 32 ∷ (decimal e.attempt.begin ++ 32 ∷ (decimal e.attempt.end ++ t)))
    (ap (λ t. t ++ accesses_text accesses) (outcome_spaced e.attempt.commits)
    ∙ ap (λ t. 32 ∷ (outcome_word e.attempt.commits ++ t)) (sym (accesses_spaced accesses)))

-- each word is plain
accesses_plain : (words : ℕ) (xs : List MadeAccess) → All (λ x. FitsAccess words x) xs →
    Each IsPlain (accesses_words xs)
accesses_plain words [] h = tt
accesses_plain words (made.Read addr value ∷ more) h =
    let own = All-head (λ x. FitsAccess words x) (made.Read addr value) more h in
    let address = own.address_fits in (
      refl,
      (
        number_in_word addr.0 (omega (arith, address)),
        (
          number_in_word value own.value_fits,
          accesses_plain words more (All-tail (λ x. FitsAccess words x) (made.Read addr value) more h),
        ),
      ),
    )
accesses_plain words (made.Write addr value ∷ more) h =
    let own = All-head (λ x. FitsAccess words x) (made.Write addr value) more h in
    let address = own.address_fits in (
      refl,
      (
        number_in_word addr.0 (omega (arith, address)),
        (
          number_in_word value own.value_fits,
          accesses_plain words more (All-tail (λ x. FitsAccess words x) (made.Write addr value) more h),
        ),
      ),
    )

outcome_plain : (b : Bool) → IsPlain (outcome_word b)
outcome_plain true = refl
outcome_plain false = refl

line_plain : (words : ℕ) (e : AttemptEntry) → HasNumbers words e → Each IsPlain (line_words e)
line_plain words e h =
    let client = h.client in (
      number_in_word e.client (omega (arith, client)),
      (
        number_in_word e.attempt.begin h.begin,
        (
          number_in_word e.attempt.end h.end,
          (outcome_plain e.attempt.commits, accesses_plain words e.attempt.accesses.items h.accesses),
        ),
      ),
    )

-- ---- the words are read

accesses_read : (words : ℕ) (xs : List MadeAccess) → All (λ x. FitsAccess words x) xs →
    accesses_of words (accesses_words xs) ≡ Ok (map access_of xs)
accesses_read words [] h = refl
accesses_read words (made.Read addr value ∷ more) h =
    let own = All-head (λ x. FitsAccess words x) (made.Read addr value) more h in
    let rest = All-tail (λ x. FitsAccess words x) (made.Read addr value) more h in
    let address = own.address_fits in
    rw (
      address_read words addr.0 (omega (arith, address)) own.among,
      number_read value own.value_fits,
      accesses_read words more rest,
    ) refl
accesses_read words (made.Write addr value ∷ more) h =
    let own = All-head (λ x. FitsAccess words x) (made.Write addr value) more h in
    let rest = All-tail (λ x. FitsAccess words x) (made.Write addr value) more h in
    let address = own.address_fits in
    rw (
      address_read words addr.0 (omega (arith, address)) own.among,
      number_read value own.value_fits,
      accesses_read words more rest,
    ) refl

outcome_read : (b : Bool) → at_outcome (outcome_word b) ≡ Ok b
outcome_read true = refl
outcome_read false = refl

words_read : (words : ℕ) (e : AttemptEntry) → HasNumbers words e →
    words_attempt words (line_words e) ≡ Ok (attempt_of e)
words_read words e h =
    rw (
      client_read e.client h.client,
      number_read e.attempt.begin h.begin,
      number_read e.attempt.end h.end,
      outcome_read e.attempt.commits,
      accesses_read words e.attempt.accesses.items h.accesses,
    ) refl

body_clean : (words : ℕ) (e : AttemptEntry) → HasNumbers words e → list_any is_bad_byte (body e) ≡ false
body_clean words e h = ap (list_any is_bad_byte) (body_is e) ∙ words_clean (line_words e) (line_plain words e h)

line_read : (words : ℕ) (e : AttemptEntry) → Fits words e → line_attempt words (body e) ≡ Ok (attempt_of e)
line_read words e h =
    let line = h.line in
    let few : length (body e) ≤ 67108864 = omega (arith, line, length-append (body e) (10 ∷ [])) in
    rw (le-ltb 67108864 (length (body e)) few, body_clean words e h.numbers)
    (ap (words_attempt words) (ap words_of (body_is e) ∙ words_cut (line_words e) (omega arith)
    (line_plain words e h.numbers))
    ∙ words_read words e h.numbers)

-- ---- all lines

no_end : (b : ℕ) → is_bad_byte b ≡ false → b ≢ 10
no_end b h e = let f : true ≡ false = ap is_bad_byte (sym e) ∙ h in cc

-- a text without bad bytes has no line end
no_ends : (text : List ℕ) → list_any is_bad_byte text ≡ false → HasNo 10 text
no_ends [] h = All-nil (λ b. b ≢ 10)
no_ends (b ∷ bs) h =
    let both = both_false (is_bad_byte b) (list_any is_bad_byte bs) h in
    All-cons (λ b. b ≢ 10) b bs (no_end b both.0) (no_ends bs both.1)

pub texts_read : AttemptTextsAreRead
texts_read words [] h = refl
texts_read words (e ∷ es) h =
    let own = All-head (λ e. Fits words e) e es h in
    ap (λ t. map (line_attempt words) (lines_of t)) (append_assoc (body e) (10 ∷ []) (lines_text es))
    ∙ ap (map (line_attempt words)) (lines_cut (body e) (lines_text es)
    (no_ends (body e) (body_clean words e own.numbers)))
    ∙ ap (λ r. r ∷ map (line_attempt words) (lines_of (lines_text es))) (line_read words e own)
    ∙ ap (λ rs. Ok (attempt_of e) ∷ rs) (texts_read words es (All-tail (λ e. Fits words e) e es h))
