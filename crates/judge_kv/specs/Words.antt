-- Operations and replies as words of a line: get KEY, put KEY VALUE, delete KEY, cas KEY OLD NEW,
-- append KEY VALUE, put-if-absent KEY VALUE, get-and-set KEY VALUE, increment KEY BY,
-- txn KEY OLD THEN ELSE, txn-get KEY OLD THEN ELSE. Keys and values are quoted; BY is a number in
-- quotes; OLD, THEN and ELSE may be - for a missing value, the last two = for what the key has.
use Rattle.std.specs.Prelude.{ℕ, true, false, Option, Some, None, List, [], ◌∷◌, codes, if◌then◌else◌}
use Rattle.std.specs.Str.{bytes_eq}
use Rattle.vac_lines.specs.Words.{memory_word_of}
use Rattle.judge_text.specs.Language.{Language}
use Rattle.judge_text.specs.Quoting.{unquoted}
use Rattle.judge_kv.specs.declared.command.Command.{Command}
use Rattle.judge_kv.specs.declared.command.Change.{Change as Changing}
use Rattle.judge_kv.specs.Commands.{does, makes}
use Rattle.judge_kv.specs.Shared.{value_in}
use Rattle.std.specs.declared.rc.Rc.{Rc}
use Rattle.std.specs.declared.alloc.Global.{Global}
use Rattle.judge_kv.specs.Operations.{Does, Get, Put, Delete, CompareAndSet, Append, PutIfAbsent, GetAndSet, Increment, Transact, TransactAndGet, Change, Keep, Become, Asked}
use Rattle.judge_kv.specs.Replies.{Answered, Done, Truth, Has, Missing}
use Rattle.judge_kv.specs.Rules.{Held}

-- what a word without values behind it asks of a key
abbrev pub plain_command : List ℕ → Option Does
plain_command name =
    if bytes_eq name (codes "get") then Some Get
    else if bytes_eq name (codes "delete") then Some Delete
    else None

-- what is asked if this number was read
abbrev pub increment_by : Option ℕ → Option Does
increment_by None = None
increment_by (Some by) = Some (Increment by)

-- what a word with one value behind it asks of a key
abbrev pub value_command : List ℕ → List ℕ → Option Does
value_command name value =
    if bytes_eq name (codes "put") then Some (Put value)
    else if bytes_eq name (codes "append") then Some (Append value)
    else if bytes_eq name (codes "put-if-absent") then Some (PutIfAbsent value)
    else if bytes_eq name (codes "get-and-set") then Some (GetAndSet value)
    else if bytes_eq name (codes "increment") then increment_by (memory_word_of value)
    else None

-- a value that was read, as a reply
abbrev pub value_word : Option (List ℕ) → Option Answered
value_word None = None
value_word (Some value) = Some (Has value)

-- the reply that a word writes
abbrev pub word_answer : List ℕ → Option Answered
word_answer word =
    if bytes_eq word (codes "ok") then Some Done
    else if bytes_eq word (codes "true") then Some (Truth true)
    else if bytes_eq word (codes "false") then Some (Truth false)
    else if bytes_eq word (codes "-") then Some Missing
    else value_word (unquoted word)

-- what two values ask of a key, if both were read
abbrev pub two_values : Option (List ℕ) → Option (List ℕ) → Option Does
two_values (Some old) (Some new) = Some (CompareAndSet old new)
two_values (Some old) None = None
two_values None new = None

-- what a word with two values behind it asks of a key
abbrev pub pair_command : List ℕ → Option (List ℕ) → Option (List ℕ) → Option Does
pair_command name old new =
    if bytes_eq name (codes "cas") then two_values old new else None

-- what a word with a value asks of a key, if the value was read
abbrev pub one_value : List ℕ → Option (List ℕ) → Option Does
one_value name None = None
one_value name (Some value) = value_command name value

-- a value that was read, as what a key has
abbrev pub some_held : Option (List ℕ) → Option Held
some_held None = None
some_held (Some value) = Some (Some value)

-- what a key has, as a word writes it
abbrev pub held_word : List ℕ → Option Held
held_word word = if bytes_eq word (codes "-") then Some None else some_held (unquoted word)

-- a change to what a key has
abbrev pub become : Option Held → Option Change
become None = None
become (Some held) = Some (Become held)

-- the change that a word writes
abbrev pub change_word : List ℕ → Option Change
change_word word = if bytes_eq word (codes "=") then Some Keep else become (held_word word)

-- what a transaction asks of a key
abbrev pub transaction : List ℕ → Held → Change → Change → Option Does
transaction name old first second =
    if bytes_eq name (codes "txn") then Some (Transact old first second)
    else if bytes_eq name (codes "txn-get") then Some (TransactAndGet old first second)
    else None

-- what a transaction asks of a key, if all of it was read
abbrev pub whole_transaction : List ℕ → Option Held → Option Change → Option Change → Option Does
whole_transaction name (Some old) (Some first) (Some second) = transaction name old first second
whole_transaction name (Some old) (Some first) None = None
whole_transaction name (Some old) None second = None
whole_transaction name None first second = None

-- what a name, two words and those behind them ask of a key
abbrev pub longer_does : List ℕ → List ℕ → List ℕ → List (List ℕ) → Option Does
longer_does name old new [] = pair_command name (unquoted old) (unquoted new)
longer_does name old first (second ∷ []) =
    whole_transaction name (held_word old) (change_word first) (change_word second)
longer_does name old first (second ∷ more ∷ rest) = None

-- what a name and the words behind it ask of a key
abbrev pub words_does : List ℕ → List (List ℕ) → Option Does
words_does name [] = plain_command name
words_does name (value ∷ []) = one_value name (unquoted value)
words_does name (old ∷ new ∷ rest) = longer_does name old new rest

-- an operation, if its key and what is asked of it were read
abbrev pub asked_of : Option (List ℕ) → Option Does → Option Asked
asked_of (Some key) (Some does) = Some (record { key = key; does = does })
asked_of (Some key) None = None
asked_of None does = None

-- the operation that these words write
abbrev pub words_operation : List (List ℕ) → Option Asked
words_operation [] = None
words_operation (name ∷ []) = None
words_operation (name ∷ key ∷ values) = asked_of (unquoted key) (words_does name values)

-- how operations and replies of a key-value store are written
abbrev pub store_language : Language Asked Answered
store_language = record { operation = words_operation; reply = word_answer }

-- what a command asks of its key, if there is one
abbrev pub asked_by : Option Command → Option Does
asked_by None = None
asked_by (Some command) = Some (does command)

-- what a key has, if it was read
abbrev pub held_in : Option (Option (Rc (List ℕ) Global)) → Option Held
held_in None = None
held_in (Some value) = Some (value_in value)

-- the change, if it was read
abbrev pub change_in : Option Changing → Option Change
change_in None = None
change_in (Some change) = Some (makes change)
