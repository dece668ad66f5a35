-- Accounts, and the effects of the bank's transactions on them. Each example of an object has its
-- own `after`, `Finds` and `code`.
use Rattle.std.specs.Prelude.{◌≡◌, ℕ, ◌+◌, ◌-◌, ◌<◌, ◌≤◌, ◌^◌, true, false, cond, List, [], ◌∷◌, length, slice_index, slice_set, sum}
use Rattle.stm_core.specs.Client.{Client}
use Rattle.stm_region.specs.Shown.{RegionShown}
use Rattle.stm_object.specs.Object.{Specification}
use Rattle.stm_object.specs.Steps.{words_object}
use Rattle.stm_object.specs.History.{Closes as ClosesObject}
use Rattle.ex_bank.specs.declared.entry.Entry.{Entry}
use Rattle.ex_bank.specs.declared.law.TheConstants.{ACCOUNTS}
use Rattle.ex_bank.specs.declared.entry.Entry.TheVariants.{Transfer, Sum}

-- the balances after an amount was taken from one account and then added to another
abbrev pub moving : List ℕ → ℕ → ℕ → ℕ → List ℕ
moving xs from to amount =
    let taken = slice_set xs from (slice_index xs from - amount) in
    slice_set taken to (slice_index taken to + amount)

-- the balances after an entry
abbrev pub after : Entry → List ℕ → List ℕ
after (Transfer from to amount true) xs = moving xs from to amount
after (Transfer from to amount false) xs = xs
after (Sum total) xs = xs

-- the statement of an entry about the balances before it: for a transfer that moved, there was
-- enough; for one that did not, there was not; for a sum, this is the sum
abbrev pub Finds : Entry → List ℕ → Type 0
Finds (Transfer from to amount true) xs =
    (from < length xs) × (to < length xs) × (amount ≤ slice_index xs from)
Finds (Transfer from to amount false) xs = slice_index xs from < amount
Finds (Sum total) xs = total ≡ sum xs

-- the image has exactly the balances, and they add up to a number below 2^64
pub record IsBank (image : List ℕ) : Type 0 where
  pub size : length image ≡ ACCOUNTS
  pub small : sum image < 2 ^ 64

-- the accounts of a transfer are accounts of the bank
abbrev pub IsEntry : Entry → Type 0
IsEntry (Transfer from to amount moved) = (from < ACCOUNTS) × (to < ACCOUNTS)
IsEntry (Sum total) = Unit {0}

-- no entry changes the sum of all balances
abbrev pub KeepsSum : Type 0
KeepsSum = (e : Entry) (xs : List ℕ) → Finds e xs → sum (after e xs) ≡ sum xs

-- an entry as numbers
abbrev pub code : Entry → List ℕ
code (Transfer from to amount moved) = 0 ∷ from ∷ to ∷ amount ∷ cond moved 1 0 ∷ []
code (Sum total) = 1 ∷ total ∷ []

-- the bank as a sequential object
abbrev pub bank : Specification Entry
bank = words_object ACCOUNTS Entry IsBank IsEntry Finds after code

-- the bank was closed: the closing teller's records are a history from the opening to the words,
-- and the words have the same sum as those of the opening
pub record ClosesBalanced (region : RegionShown) (v : Client) (words : List ℕ) (version : ℕ)
    : Type 0 where
  pub closes : ClosesObject bank region v words version
  pub total : sum words ≡ sum region.first
