-- Operations and replies as words of a line: enqueue NUMBER, dequeue.
use Rattle.std.specs.Prelude.{ℕ, true, false, Option, Some, None, List, [], ◌∷◌, codes, if◌then◌else◌}
use Rattle.std.specs.Str.{bytes_eq}
use Rattle.vac_lines.specs.Words.{memory_word_of}
use Rattle.judge_text.specs.Language.{Language}
use Rattle.judge_queue.specs.declared.op.Op.{Op}
use Rattle.judge_queue.specs.declared.op.Op.TheVariants.{Enqueue, Dequeue}
use Rattle.judge_queue.specs.declared.op.Reply.{Reply}
use Rattle.judge_queue.specs.declared.op.Reply.TheVariants.{Put, Taken, Empty}

-- an operation with the number that was read
abbrev pub enqueue_of : Option ℕ → Option Op
enqueue_of None = None
enqueue_of (Some number) = Some (Enqueue number)

-- the operation that a name and a number write
abbrev pub enqueue : List ℕ → List ℕ → Option Op
enqueue name number =
    if bytes_eq name (codes "enqueue") then enqueue_of (memory_word_of number) else None

-- the operation that a name alone writes
abbrev pub word_op : List ℕ → Option Op
word_op name = if bytes_eq name (codes "dequeue") then Some Dequeue else None

-- the operation that words write
abbrev pub words_op : List (List ℕ) → Option Op
words_op [] = None
words_op (name ∷ []) = word_op name
words_op (name ∷ number ∷ []) = enqueue name number
words_op (name ∷ number ∷ more ∷ rest) = None

-- a number that was read, as a reply
abbrev pub taken_of : Option ℕ → Option Reply
taken_of None = None
taken_of (Some number) = Some (Taken number)

-- the reply that a word writes
abbrev pub word_reply : List ℕ → Option Reply
word_reply word =
    if bytes_eq word (codes "true") then Some (Put true)
    else if bytes_eq word (codes "false") then Some (Put false)
    else if bytes_eq word (codes "-") then Some Empty
    else taken_of (memory_word_of word)

-- how operations and replies of a bounded queue are written
abbrev pub queue_language : Language Op Reply
queue_language = record { operation = words_op; reply = word_reply }
