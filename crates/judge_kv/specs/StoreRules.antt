-- The rules of a whole store: its keys and their values after an operation, and the reply. A
-- transaction compares keys with values. If all comparisons hold, it makes the writes of the branch
-- `then`, otherwise those of the branch `else`, one after the other, all at one moment (etcd's
-- transaction of comparisons and operations on keys).
use Rattle.std.specs.Prelude.{Bool, true, false, List, [], ◌∷◌, if◌then◌else◌}
use Rattle.judge_object.specs.Rules.{Rules}
use Rattle.judge_kv.specs.Operations.{Asked, Get as GetOne}
use Rattle.judge_kv.specs.Replies.{Answered, Truth, Missing, answer_text}
use Rattle.judge_kv.specs.Rules.{is_held, held_after}
use Rattle.judge_kv.specs.declared.clause.Role.{Role}
use Rattle.judge_kv.specs.declared.clause.Role.TheVariants.{If, Get, Then, Else}
use Rattle.judge_kv.specs.Stores.{Pairs, held_at, with_held}
use Rattle.judge_kv.specs.Requests.{Stated, Requested, One, Transact, is_role}

-- the store after an operation on one key, and the reply
abbrev pub one_after : Pairs → Asked → Pairs × Answered
one_after pairs op =
    let made = held_after (held_at op.key pairs) op.does in
    (with_held op.key made.0 pairs, made.1)

-- a clause holds in the store, if it has this role
abbrev pub does_hold : Pairs → Role → Stated → Bool
does_hold pairs role clause =
    if is_role clause.role role then is_held (held_at clause.key pairs) clause.held else true

-- all clauses of a role hold in the store
abbrev pub all_hold : Pairs → Role → List Stated → Bool
all_hold pairs role [] = true
all_hold pairs role (clause ∷ clauses) =
    if does_hold pairs role clause then all_hold pairs role clauses else false

-- the store after the write of a clause, if it has this role
abbrev pub written_by : Pairs → Role → Stated → Pairs
written_by pairs role clause =
    if is_role clause.role role then with_held clause.key clause.held pairs else pairs

-- the store after the writes of a role, one after the other
abbrev pub written : Pairs → Role → List Stated → Pairs
written pairs role [] = pairs
written pairs role (clause ∷ clauses) = written (written_by pairs role clause) role clauses

-- the branch that a transaction takes
abbrev pub branch : Bool → Role
branch held = if held then Then else Else

-- the reply of a transaction: whether all comparisons held, if its reads returned what they claim
abbrev pub told : Bool → Bool → Answered
told held read = if read then Truth held else Missing

-- the store after a transaction, and the reply
abbrev pub transacted : Pairs → List Stated → Pairs × Answered
transacted pairs clauses =
    let held = all_hold pairs If clauses in
    (written pairs (branch held) clauses, told held (all_hold pairs Get clauses))

-- the store after an operation, and the reply
abbrev pub store_after : Pairs → Requested → Pairs × Answered
store_after pairs (One op) = one_after pairs op
store_after pairs (Transact clauses) = transacted pairs clauses

-- the rules of a whole store
abbrev pub whole : Rules Pairs Requested Answered
whole = record {
  run = store_after;
  text = answer_text;
  none = One (record { key = []; does = GetOne });
}
