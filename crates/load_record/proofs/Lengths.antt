-- The line of an attempt with few accesses fits.
use Rattle.std.proofs.Common.{◌≤◌, ◌<◌, ◌+◌, ◌*◌, ◌^◌, ℕ, Bool, true, false, List, [], ◌∷◌, ◌++◌, All, length, decimal}
use Rattle.std.proofs.Common.{codes, arith, length-append}
use Rattle.std.proofs.lemmas.Fmt.{length-decimal-le}
use Rattle.std.proofs.lemmas.List.Elements.{All-head, All-tail}
use Rattle.tx_memory.specs.declared.access.Access.{Access as MadeAccess}
use Rattle.tx_memory.specs.declared.access.Access.TheVariants as made
use Rattle.vac_model.specs.ReplyText.{field_text}
use Rattle.load_record.specs.Lines.{AttemptEntry, access_text, accesses_text, outcome_text, head_text}
use Rattle.load_record.specs.Entries.{FitsAccess, HasNumbers, FewAccessesFit}

-- a text in two parts
both : (a b : ℕ) (xs ys : List ℕ) → length xs ≤ a → length ys ≤ b → length (xs ++ ys) ≤ a + b
both a b xs ys p q = omega (arith, length-append xs ys, p, q)

at_most : (a b n : ℕ) → a ≤ b → n ≤ a → n ≤ b
at_most a b n h p = omega (arith, h, p)

-- a number of 64 bits, and one after a space
number : (n : ℕ) → n < 2 ^ 64 → length (decimal n) ≤ 20
number n small = length-decimal-le 20 n (omega arith) (omega (arith, small)) small

field : (n : ℕ) → n < 2 ^ 64 → length (field_text (codes " ") n) ≤ 21
field n small = both 1 20 (codes " ") (decimal n) (omega arith) (number n small)

-- the number of a word
address : (words n : ℕ) → words ≤ 4194304 → n < words → length (decimal n) ≤ 7
address words n few low = length-decimal-le 7 n (omega arith) (omega (arith, few, low)) (omega (arith, few, low))

access : (words : ℕ) (x : MadeAccess) → words ≤ 4194304 → FitsAccess words x → length (access_text x) ≤ 31
access words (made.Read addr value) few h =
    both 10 21 (field_text (codes " r ") addr.0) (field_text (codes " ") value)
    (both 3 7 (codes " r ") (decimal addr.0) (omega arith) (address words addr.0 few h.among))
    (field value h.value_fits)
access words (made.Write addr value) few h =
    both 10 21 (field_text (codes " w ") addr.0) (field_text (codes " ") value)
    (both 3 7 (codes " w ") (decimal addr.0) (omega arith) (address words addr.0 few h.among))
    (field value h.value_fits)

accesses : (words : ℕ) (xs : List MadeAccess) → words ≤ 4194304 → All (λ x. FitsAccess words x) xs →
    length (accesses_text xs) ≤ 31 * length xs
accesses words [] few h = omega arith
accesses words (x ∷ more) few h =
    at_most (31 + 31 * length more) (31 * length (x ∷ more)) (length (access_text x ++ accesses_text more))
    (omega arith)
    (both 31 (31 * length more) (access_text x) (accesses_text more)
    (access words x few (All-head (λ x. FitsAccess words x) x more h))
    (accesses words more few (All-tail (λ x. FitsAccess words x) x more h)))

outcome : (b : Bool) → length (outcome_text b) ≤ 7
outcome true = omega arith
outcome false = omega arith

client : (n : ℕ) → n ≤ 4294967295 → length (decimal n) ≤ 10
client n low = length-decimal-le 10 n (omega arith) (omega (arith, low)) (omega (arith, low))

head : (words : ℕ) (e : AttemptEntry) → HasNumbers words e → length (head_text e) ≤ 59
head words e h =
    let begin = field_text (codes " ") e.attempt.begin in
    let end = field_text (codes " ") e.attempt.end in
    both 52 7 ((decimal e.client ++ begin) ++ end) (outcome_text e.attempt.commits)
    (both 31 21 (decimal e.client ++ begin) end
    (both 10 21 (decimal e.client) begin (client e.client h.client) (field e.attempt.begin h.begin))
    (field e.attempt.end h.end)) (outcome e.attempt.commits)

pub few_fit : FewAccessesFit
few_fit words e few h short =
    let items = e.attempt.accesses.items in
    let body = both 59 (31 * length items) (head_text e) (accesses_text items) (head words e h)
    (accesses words items few h.accesses) in
    let most : 59 + 31 * length items + 1 ≤ 67108864 + 1 = omega (arith, short) in
    let text = head_text e ++ accesses_text items in
    record {
      numbers = h;
      line = at_most (59 + 31 * length items + 1) (67108864 + 1) (length (text ++ 10 ∷ [])) most
          (both (59 + 31 * length items) 1 text (10 ∷ []) body (omega arith));
    }
