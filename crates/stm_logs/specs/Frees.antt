-- A block and the right to free it.
use Rattle.std.specs.Prelude.{◌≡◌, ℕ}
use Rattle.core.specs.Mem.Slots.Ownership.{Filled}
use Rattle.stm_logs.specs.declared.row.Row.{Row}
use Rattle.stm_logs.specs.declared.row.Right.{Right}

-- `right` is the allocator's right to free the block of the row
pub record Frees {T A : Type 0} (alloc : A) (row : Row T) (right : Right T A) : Type 0 where
  pub ptr : right.ptr ≡ row.ptr
  pub len : right.len ≡ row.len
  pub heap : right.alloc ≡ alloc

-- the row has `len` places, and each place has its value
abbrev pub IsFull : {T : Type 0} → Row T → ℕ → Type 0
IsFull row len = (row.len ≡ len) × Filled row.filled 0 len

-- a row of n places, with the allocator's right to free its block
abbrev pub IsReserved : {T A : Type 0} → ℕ → A → Row T × Right T A → Type 0
IsReserved n alloc p =
    (p.0.len ≡ n) × (p.1.ptr ≡ p.0.ptr) × (p.1.len ≡ p.0.len) × (p.1.alloc ≡ alloc)
