-- The operations of a key-value store.
use Rattle.std.specs.Prelude.{ℕ, Option, List}

-- what a transaction makes of a key: it keeps what it has, or has this value, or none
pub data Change : Type 0 where
  Keep : Change
  Become : (held : Option (List ℕ)) → Change

-- what is asked of a key: to return its value; to set it; to remove it; to set the second if it has
-- the first; to set a value behind the one it has; to set it if it has none; to set it and return
-- the one before; to add a number to the one that it writes; to make the first change if it has
-- just `old`, else the second, and to tell which; to do so and return what it had before
pub data Does : Type 0 where
  Get : Does
  Put : (value : List ℕ) → Does
  Delete : Does
  CompareAndSet : (old new : List ℕ) → Does
  Append : (more : List ℕ) → Does
  PutIfAbsent : (value : List ℕ) → Does
  GetAndSet : (value : List ℕ) → Does
  Increment : (by : ℕ) → Does
  Transact : (old : Option (List ℕ)) (first second : Change) → Does
  TransactAndGet : (old : Option (List ℕ)) (first second : Change) → Does

-- an operation: the key, and what is asked of it
pub record Asked : Type 0 where
  pub key : List ℕ
  pub does : Does
