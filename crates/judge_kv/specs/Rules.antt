-- The rules of a key-value store: what a key has after an operation, and the reply.
use Rattle.std.specs.Prelude.{ℕ, ◌+◌, ◌^◌, Bool, [], true, false, Option, Some, None, List, ◌++◌, is_some, nat_lt, decimal, if◌then◌else◌}
use Rattle.std.specs.Str.{bytes_eq}
use Rattle.vac_lines.specs.Words.{memory_word_of}
use Rattle.judge_object.specs.Rules.{Rules}
use Rattle.judge_kv.specs.Operations.{Does, Get, Put, Delete, CompareAndSet, Append, PutIfAbsent, GetAndSet, Increment, Transact, TransactAndGet, Change, Keep, Become, Asked}
use Rattle.judge_kv.specs.Replies.{Answered, Done, Truth, Has, answer_text, value_answer}

-- what a key has: a value, or none
abbrev pub Held : Type 0
Held = Option (List ℕ)

-- the key has just this value
abbrev pub has : Held → List ℕ → Bool
has None value = false
has (Some held) value = bytes_eq held value

-- what it has with more behind it; a missing value counts as an empty one here
abbrev pub extended : Held → List ℕ → List ℕ
extended None more = more
extended (Some held) more = held ++ more

-- the number that a value writes, of 1 to 20 digits and below 2^64; a missing value counts as 0
abbrev pub number_of : Held → Option ℕ
number_of None = Some 0
number_of (Some held) = memory_word_of held

-- the sum, if it is below 2^64
abbrev pub summed : Option ℕ → ℕ → Option ℕ
summed None by = None
summed (Some number) by = if nat_lt (number + by) (2 ^ 64) then Some (number + by) else None

-- the sum as the value, and as the reply; if there is none, the value stays
abbrev pub increased : Held → Option ℕ → Held × Answered
increased held None = (held, Truth false)
increased held (Some sum) = (Some (decimal sum), Has (decimal sum))

-- a key has just this value, or none
abbrev pub is_held : Held → Held → Bool
is_held held None = if is_some held then false else true
is_held held (Some old) = has held old

-- what a key has after a change
abbrev pub changed_by : Held → Change → Held
changed_by held Keep = held
changed_by held (Become other) = other

-- what a key has after a transaction, and whether the first change was made
abbrev pub transacted : Held → Held → Change → Change → Held × Bool
transacted held old first second =
    if is_held held old then (changed_by held first, true) else (changed_by held second, false)

-- what a key has after an operation, and the reply
abbrev pub held_after : Held → Does → Held × Answered
held_after held Get = (held, value_answer held)
held_after held (Put value) = (Some value, Done)
held_after held Delete = (None, Done)
held_after held (CompareAndSet old new) =
    if has held old then (Some new, Truth true) else (held, Truth false)
held_after held (Append more) = (Some (extended held more), Done)
held_after held (PutIfAbsent value) =
    if is_some held then (held, Truth false) else (Some value, Truth true)
held_after held (GetAndSet value) = (Some value, value_answer held)
held_after held (Increment by) = increased held (summed (number_of held) by)
held_after held (Transact old first second) =
    let made = transacted held old first second in
    (made.0, Truth made.1)
held_after held (TransactAndGet old first second) =
    ((transacted held old first second).0, value_answer held)

-- the rules of one key
abbrev pub cell : Rules Held Asked Answered
cell = record {
  run = λ held op. held_after held op.does;
  text = answer_text;
  none = record { key = []; does = Get };
}
