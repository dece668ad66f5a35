-- The operations of a whole store.
use Rattle.std.specs.Prelude.{ℕ, ◌==◌, Bool, List}
use Rattle.judge_kv.specs.Operations.{Asked}
use Rattle.judge_kv.specs.Rules.{Held}
use Rattle.judge_kv.specs.declared.clause.Role.{Role}
use Rattle.judge_kv.specs.declared.clause.Role.TheVariants.{If, Get, Then, Else}

-- the number of a role in their order
abbrev pub role_number : Role → ℕ
role_number If = 0
role_number Get = 1
role_number Then = 2
role_number Else = 3

-- two roles are the same
abbrev pub is_role : Role → Role → Bool
is_role role other = role_number role == role_number other

-- a clause of a transaction: its role, a key, and what the key has or is to have
pub record Stated : Type 0 where
  pub role : Role
  pub key : List ℕ
  pub held : Held

-- an operation of a whole store: one on a single key, or a transaction of clauses
pub data Requested : Type 0 where
  One : (op : Asked) → Requested
  Transact : (clauses : List Stated) → Requested
