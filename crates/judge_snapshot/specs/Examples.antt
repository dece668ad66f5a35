-- The anomalies of isolation, as histories worked out by hand over two registers that start with
-- 0.
use Rattle.std.specs.Prelude.{ℕ, true, false, Option, Some, None, List, [], ◌∷◌, codes}
use Rattle.judge_object.specs.Call.{Call}
use Rattle.judge_object.specs.Levels.{IsSequentiallyConsistent, IsSerializable}
use Rattle.judge_snapshot.specs.Registers.{Registers, registers, register_writes}
use Rattle.judge_snapshot.specs.Snapshots.{IsStrongSnapshotIsolated, IsSessionSnapshotIsolated, IsSnapshotIsolated}

-- a transaction that reads and writes
abbrev pub tx : Option ℕ → Option ℕ → Option ℕ → Option ℕ → Registers
tx read_x read_y write_x write_y = record {
  read_x = read_x;
  read_y = read_y;
  write_x = write_x;
  write_y = write_y;
  rolls_back = false;
}

-- a completed call of a client that began at a time, ended at the next one, and read what it
-- claims
abbrev pub call_by : ℕ → ℕ → ℕ → Registers → Call Registers
call_by client begin end op =
    record { client = client; begin = begin; end = end; op = op; reply = Some (codes "y") }

-- write skew: two transactions both read x = 0 and y = 0; one sets x to 1, and the other y
abbrev pub skew_x : Call Registers
skew_x = call_by 1 0 1 (tx (Some 0) (Some 0) (Some 1) None)

abbrev pub skew_y : Call Registers
skew_y = call_by 2 0 1 (tx (Some 0) (Some 0) None (Some 1))

abbrev pub write_skew : List (Call Registers)
write_skew = skew_x ∷ skew_y ∷ []

-- lost update: two transactions both read x = 0 and set x
abbrev pub update_1 : Call Registers
update_1 = call_by 1 0 1 (tx (Some 0) None (Some 1) None)

abbrev pub update_2 : Call Registers
update_2 = call_by 2 0 1 (tx (Some 0) None (Some 2) None)

abbrev pub lost_update : List (Call Registers)
lost_update = update_1 ∷ update_2 ∷ []

-- long fork: one transaction sets x to 1, one sets y to 1, and two others see only one of the
-- writes each, and not the same
abbrev pub fork_x : Call Registers
fork_x = call_by 1 0 1 (tx None None (Some 1) None)

abbrev pub fork_y : Call Registers
fork_y = call_by 2 0 1 (tx None None None (Some 1))

abbrev pub sees_x : Call Registers
sees_x = call_by 3 0 1 (tx (Some 1) (Some 0) None None)

abbrev pub sees_y : Call Registers
sees_y = call_by 4 0 1 (tx (Some 0) (Some 1) None None)

abbrev pub long_fork : List (Call Registers)
long_fork = fork_x ∷ fork_y ∷ sees_x ∷ sees_y ∷ []

-- read skew: one transaction sets x and y to 1, and another one reads x = 1 and y = 0
abbrev pub sets_both : Call Registers
sets_both = call_by 1 0 1 (tx None None (Some 1) (Some 1))

abbrev pub sees_half : Call Registers
sees_half = call_by 2 0 1 (tx (Some 1) (Some 0) None None)

abbrev pub read_skew : List (Call Registers)
read_skew = sets_both ∷ sees_half ∷ []

-- dirty read: one transaction sets x to 1 and rolls back, and another one reads x = 1
abbrev pub rolled_back : Call Registers
rolled_back = call_by 1 0 1 (record (tx None None (Some 1) None) { rolls_back = true })

abbrev pub sees_dirty : Call Registers
sees_dirty = call_by 2 0 1 (tx (Some 1) None None None)

abbrev pub dirty_read : List (Call Registers)
dirty_read = rolled_back ∷ sees_dirty ∷ []

-- stale read: a transaction reads x = 0 after a transaction of another client that set x to 1 has
-- ended
abbrev pub set_before : Call Registers
set_before = call_by 1 0 1 (tx None None (Some 1) None)

abbrev pub sees_stale : Call Registers
sees_stale = call_by 2 2 3 (tx (Some 0) None None None)

abbrev pub stale_read : List (Call Registers)
stale_read = sees_stale ∷ set_before ∷ []

-- own write unseen: a client sets x to 1, and reads x = 0 afterwards
abbrev pub own_set : Call Registers
own_set = call_by 1 0 1 (tx None None (Some 1) None)

abbrev pub own_unseen : Call Registers
own_unseen = call_by 1 2 3 (tx (Some 0) None None None)

abbrev pub unseen_write : List (Call Registers)
unseen_write = own_set ∷ own_unseen ∷ []

-- write skew is strong snapshot isolated, and not serializable
abbrev pub WriteSkewIsIsolated : Type 0
WriteSkewIsIsolated =
    IsStrongSnapshotIsolated registers register_writes (0, 0) write_skew
    × (IsSerializable registers (0, 0) write_skew → ⊥)

-- a lost update is not snapshot isolated
abbrev pub LostUpdateIsNotIsolated : Type 0
LostUpdateIsNotIsolated = IsSnapshotIsolated registers register_writes (0, 0) lost_update → ⊥

-- a long fork is not snapshot isolated
abbrev pub LongForkIsNotIsolated : Type 0
LongForkIsNotIsolated = IsSnapshotIsolated registers register_writes (0, 0) long_fork → ⊥

-- a read skew is not snapshot isolated
abbrev pub ReadSkewIsNotIsolated : Type 0
ReadSkewIsNotIsolated = IsSnapshotIsolated registers register_writes (0, 0) read_skew → ⊥

-- a dirty read is not snapshot isolated
abbrev pub DirtyReadIsNotIsolated : Type 0
DirtyReadIsNotIsolated = IsSnapshotIsolated registers register_writes (0, 0) dirty_read → ⊥

-- a stale read is sequentially consistent, and not strong snapshot isolated
abbrev pub StaleReadIsNotStrong : Type 0
StaleReadIsNotStrong =
    IsSequentiallyConsistent registers (0, 0) stale_read
    × (IsStrongSnapshotIsolated registers register_writes (0, 0) stale_read → ⊥)

-- a history in which a client does not see its own write is serializable, and not strong session
-- snapshot isolated
abbrev pub UnseenWriteIsNotSession : Type 0
UnseenWriteIsNotSession =
    IsSerializable registers (0, 0) unseen_write
    × (IsSessionSnapshotIsolated registers register_writes (0, 0) unseen_write → ⊥)
