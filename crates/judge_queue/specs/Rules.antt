-- The rules of a bounded queue.
use Rattle.std.specs.Prelude.{ℕ, true, false, List, [], ◌∷◌, ◌++◌, length, nat_lt, codes, decimal, if◌then◌else◌}
use Rattle.judge_object.specs.Rules.{Rules}
use Rattle.judge_queue.specs.declared.op.Op.{Op}
use Rattle.judge_queue.specs.declared.op.Op.TheVariants.{Enqueue, Dequeue}
use Rattle.judge_queue.specs.declared.op.Reply.{Reply}
use Rattle.judge_queue.specs.declared.op.Reply.TheVariants.{Put, Taken, Empty}
use Rattle.judge_queue.specs.declared.queue.TheConstants.{CAPACITY}

-- the numbers after one was put behind them, if there is room, and the reply
abbrev pub put : List ℕ → ℕ → List ℕ × Reply
put numbers number =
    if nat_lt (length numbers) CAPACITY then (numbers ++ number ∷ [], Put true)
    else (numbers, Put false)

-- the numbers after the first was taken out, and the reply
abbrev pub taken : List ℕ → List ℕ × Reply
taken [] = ([], Empty)
taken (first ∷ rest) = (rest, Taken first)

-- the numbers after an operation, and the reply
abbrev pub step : List ℕ → Op → List ℕ × Reply
step numbers (Enqueue number) = put numbers number
step numbers Dequeue = taken numbers

-- the text of a reply
abbrev pub reply_text : Reply → List ℕ
reply_text (Put true) = codes "true"
reply_text (Put false) = codes "false"
reply_text (Taken number) = decimal number
reply_text Empty = codes "-"

-- the rules of a bounded queue
abbrev pub queue : Rules (List ℕ) Op Reply
queue = record { run = step; text = reply_text; none = Dequeue }
