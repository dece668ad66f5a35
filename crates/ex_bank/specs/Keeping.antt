-- The proofs of the bank's law: no entry changes the number of accounts or the sum of all
-- balances, and two entries have different codes.
use Rattle.std.proofs.Common.{◌≡◌, ℕ, ◌+◌, ◌-◌, ◌<◌, ◌≤◌, true, false, List, length, slice_index}
use Rattle.std.proofs.Common.{slice_set, sum, refl, sym, ap, ◌∙◌, arith, length-set}
use Rattle.std.specs.Prelude.{◌==◌, if◌then◌else◌}
use Rattle.std.proofs.lemmas.List.Sums.{sum_by-set}
use Rattle.ex_bank.specs.declared.entry.Entry.{Entry}
use Rattle.ex_bank.specs.declared.entry.Entry.TheVariants.{Transfer, Sum}
use Rattle.ex_bank.specs.Accounts.{moving, after, Finds, IsBank, code}

pub sum_taken : (xs : List ℕ) (from amount : ℕ) → from < length xs →
    amount ≤ slice_index xs from →
    sum (slice_set xs from (slice_index xs from - amount)) + amount ≡ sum xs
sum_taken xs from amount less enough =
    let s = sum_by-set (λ x. x) xs from (slice_index xs from - amount) 0 less in
    omega (arith, s, enough)

sum_moving : (xs : List ℕ) (from to amount : ℕ) → from < length xs → to < length xs →
    amount ≤ slice_index xs from → sum (moving xs from to amount) ≡ sum xs
sum_moving xs from to amount f t enough =
    let ys = slice_set xs from (slice_index xs from - amount) in
    let s = sum_taken xs from amount f enough in
    let long = length-set xs from (slice_index xs from - amount) in
    let p = sum_by-set (λ x. x) ys to (slice_index ys to + amount) 0 (omega (arith, long, t)) in
    omega (arith, s, p)

pub same_sum : (e : Entry) (xs : List ℕ) → Finds e xs → sum (after e xs) ≡ sum xs
same_sum (Transfer from to amount true) xs h = sum_moving xs from to amount h.0 h.1 h.2
same_sum (Transfer from to amount false) xs h = refl
same_sum (Sum total) xs h = refl

pub same_length : (e : Entry) (xs : List ℕ) → length (after e xs) ≡ length xs
same_length (Transfer from to amount true) xs = length-set _ _ _ ∙ length-set _ _ _
same_length (Transfer from to amount false) xs = refl
same_length (Sum total) xs = refl

pub bank_after : (e : Entry) (xs : List ℕ) → IsBank xs → Finds e xs → IsBank (after e xs)
bank_after e xs b h = record {
  size = same_length e xs ∙ b.size;
  small = let s = same_sum e xs h in omega (arith, s, b.small);
}

-- the entry of a code
abbrev decoded : List ℕ → Entry
decoded ns = if slice_index ns 0 == 0
    then Transfer (slice_index ns 1) (slice_index ns 2) (slice_index ns 3) (slice_index ns 4 == 1)
    else Sum (slice_index ns 1)

decoded_back : (e : Entry) → decoded (code e) ≡ e
decoded_back (Transfer from to amount true) = refl
decoded_back (Transfer from to amount false) = refl
decoded_back (Sum total) = refl

-- two entries with the same code are equal
pub codes_determine : (e e' : Entry) → code e ≡ code e' → e ≡ e'
codes_determine e e' same = sym (decoded_back e) ∙ (ap decoded same ∙ decoded_back e')
