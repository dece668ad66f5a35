-- A short log: words in rows, found by marks, with sorted keys.
use Rattle.std.specs.Prelude.{◌≡◌, ◌≢◌, ℕ, ◌+◌, ◌*◌, ◌/◌, ◌%◌, ◌<◌, ◌≤◌, Bool, cond, List, [], ◌∷◌, length}
use Rattle.std.specs.Prelude.{nat_eq, slice_index_or}
use Prim.Native.Nat.{zero, suc}
use Rattle.stm_logs.specs.declared.keys.TheConstants.{POSITIONS}
use Rattle.stm_logs.specs.declared.short.ShortLog.{ShortLog}
use Rattle.stm_logs.specs.declared.short.TheConstants.{MARKS, MOST_WORDS, LOCKS}
use Rattle.stm_logs.specs.Keys.{key_at, AreKeys, HasKey}
use Rattle.stm_logs.specs.Log.{LogValue}
use Rattle.stm_logs.specs.Order.{table}

-- the entry at a position of a row
abbrev pub entry : List ℕ → ℕ → ℕ
entry row e = slice_index_or row e 0

-- the log that a short log represents: the words with their values, and with their locks
abbrev pub short_log : ShortLog → LogValue
short_log s = record {
  words = table (entry s.numbers) (entry s.values) s.count;
  locks = table (entry s.numbers) (entry s.locks) s.count;
}

-- the value of a write log: that of its long log if it is long, and else that of its short log
abbrev pub written : ShortLog → LogValue → Bool → LogValue
written short long is_long = cond is_long long (short_log short)

-- the key of the word at a position, by its lock
abbrev pub key_of : ℕ → ℕ → ℕ
key_of lock e = lock * POSITIONS + e

-- different ones of the first n words have different entries in the row
abbrev pub AreApart : (ℕ → ℕ) → ℕ → Type 0
AreApart row n = (e f : ℕ) → 0 < e → e ≤ n → 0 < f → f ≤ n → row e ≡ row f → e ≡ f

-- a short log can have a word with this number and this lock
abbrev pub Suits : ℕ → ℕ → Type 0
Suits number lock = (lock < LOCKS) × (lock % MARKS ≡ number % MARKS)

-- the first n words have different numbers and different locks, which suit a short log
pub record AreWords (number lock : ℕ → ℕ) (n : ℕ) : Type 0 where
  pub room : n ≤ MOST_WORDS
  pub numbers : AreApart number n
  pub locks : AreApart lock n
  pub suit : (e : ℕ) → 0 < e → e ≤ n → Suits (number e) (lock e)

-- p is the last of the first n words whose number has the remainder m, or 0 if there is none
pub record IsLast (number : ℕ → ℕ) (n m p : ℕ) : Type 0 where
  pub inside : p ≤ n
  pub here : 0 < p → number p % MARKS ≡ m
  pub last : (e : ℕ) → p < e → e ≤ n → number e % MARKS ≢ m

-- each mark leads to the last word of its remainder, and each word to the one before
pub record AreMarked (number mark next : ℕ → ℕ) (n : ℕ) : Type 0 where
  pub marks : (m : ℕ) → m < MARKS → IsLast number n m (mark m)
  pub nexts : (e : ℕ) → e < n → IsLast number e (number (e + 1) % MARKS) (next (e + 1))

-- the keys are those of the first n words
pub record AreSorted (lock key : ℕ → ℕ) (n : ℕ) : Type 0 where
  pub keys : AreKeys key n
  pub sound : (j : ℕ) → j < n → (e : ℕ) × ((0 < e) × (e ≤ n) × (key j ≡ key_of (lock e) e))
  pub complete : (e : ℕ) → 0 < e → e ≤ n → HasKey key n (key_of (lock e) e)

-- each row has all its entries
pub record HasRows (s : ShortLog) : Type 0 where
  pub marks : length s.marks ≡ MARKS
  pub nexts : length s.nexts ≡ POSITIONS
  pub numbers : length s.numbers ≡ POSITIONS
  pub locks : length s.locks ≡ POSITIONS
  pub values : length s.values ≡ POSITIONS

-- the rows, the marks and the keys of a short log agree
pub record IsShort (s : ShortLog) : Type 0 where
  pub rows : HasRows s
  pub words : AreWords (entry s.numbers) (entry s.locks) s.count
  pub marked : AreMarked (entry s.numbers) (entry s.marks) (entry s.nexts) s.count
  pub sorted : AreSorted (entry s.locks) (key_at s.keys) s.count

-- the row has the remainders of the words' numbers
abbrev pub IsRowOf : ShortLog → List ℕ → Type 0
IsRowOf s row = (e : ℕ) → 0 < e → e ≤ s.count → entry row e % MARKS ≡ entry s.numbers e % MARKS

-- the word at a position has this entry in the row
abbrev pub Has : ShortLog → List ℕ → ℕ → ℕ → Type 0
Has s row x e = (e ≤ s.count) × (entry row e ≡ x)

-- no word has this entry in the row
abbrev pub HasNone : ShortLog → List ℕ → ℕ → Type 0
HasNone s row x = (e : ℕ) → 0 < e → e ≤ s.count → entry row e ≢ x

-- one more word with this number and this lock can enter
pub record IsFreeFor (s : ShortLog) (number lock : ℕ) : Type 0 where
  pub room : s.count < MOST_WORDS
  pub suits : Suits number lock
  pub none : HasNone s s.locks lock

-- the locks of the keys at `left` places from `at` on
abbrev pub locks_at : (ℕ → ℕ) → ℕ → ℕ → List ℕ
locks_at key zero at = []
locks_at key (suc left) at = key at / POSITIONS ∷ locks_at key left (at + 1)

-- the word at a position, with its value
abbrev pub pair_at : ShortLog → ℕ → ℕ × ℕ
pair_at s e = (entry s.numbers e, entry s.values e)

-- the words of the keys at `left` places from `at` on, with their values
abbrev pub pairs_at : ShortLog → ℕ → ℕ → List (ℕ × ℕ)
pairs_at s zero at = []
pairs_at s (suc left) at = pair_at s (key_at s.keys at % POSITIONS) ∷ pairs_at s left (at + 1)

-- the word at a position, with its value; none at position 0
abbrev pub word_at : ShortLog → ℕ → List (ℕ × ℕ)
word_at s e = cond (nat_eq e 0) [] (pair_at s e ∷ [])
