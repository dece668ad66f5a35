-- Operations and replies as words of a line: those of a key-value store on one key, and
-- txn CLAUSE .., each clause being if KEY HELD, get KEY HELD, then KEY HELD or else KEY HELD. Keys
-- are quoted; HELD is a quoted value, or - for a missing one.
use Rattle.std.specs.Prelude.{ℕ, Bool, false, Option, Some, None, List, [], ◌∷◌, is_some, codes, if◌then◌else◌}
use Rattle.std.specs.Global.{Vec}
use Rattle.std.specs.Str.{bytes_eq}
use Rattle.judge_text.specs.Language.{Language}
use Rattle.judge_text.specs.Quoting.{unquoted}
use Rattle.judge_kv.specs.Operations.{Asked}
use Rattle.judge_kv.specs.Replies.{Answered}
use Rattle.judge_kv.specs.Rules.{Held}
use Rattle.judge_kv.specs.Words.{held_word, words_operation, word_answer}
use Rattle.judge_kv.specs.declared.clause.Role.{Role}
use Rattle.judge_kv.specs.declared.clause.Role.TheVariants.{If, Get, Then, Else}
use Rattle.judge_kv.specs.Requests.{Stated, Requested, One, Transact}

-- the role that a word writes
abbrev pub role_word : List ℕ → Option Role
role_word word =
    if bytes_eq word (codes "if") then Some If
    else if bytes_eq word (codes "get") then Some Get
    else if bytes_eq word (codes "then") then Some Then
    else if bytes_eq word (codes "else") then Some Else
    else None

-- a clause, if all of it was read
abbrev pub clause_of : Option Role → Option (List ℕ) → Option Held → Option Stated
clause_of (Some role) (Some key) (Some held) =
    Some (record { role = role; key = key; held = held })
clause_of (Some role) (Some key) None = None
clause_of (Some role) None held = None
clause_of None key held = None

-- the clause that three words write
abbrev pub clause_words : List ℕ → List ℕ → List ℕ → Option Stated
clause_words role key held = clause_of (role_word role) (unquoted key) (held_word held)

-- a clause before others, if all were read
abbrev pub before : Option Stated → Option (List Stated) → Option (List Stated)
before None clauses = None
before (Some clause) None = None
before (Some clause) (Some clauses) = Some (clause ∷ clauses)

-- the clauses that words write
abbrev pub clauses_words : List (List ℕ) → Option (List Stated)
clauses_words [] = Some []
clauses_words (role ∷ []) = None
clauses_words (role ∷ key ∷ []) = None
clauses_words (role ∷ key ∷ held ∷ rest) =
    before (clause_words role key held) (clauses_words rest)

-- a name and the words behind it begin a transaction of clauses
abbrev pub is_transaction : List ℕ → List (List ℕ) → Bool
is_transaction name [] = false
is_transaction name (role ∷ rest) =
    if bytes_eq name (codes "txn") then is_some (role_word role) else false

-- the transaction of clauses, if they were read
abbrev pub transaction_of : Option (List Stated) → Option Requested
transaction_of None = None
transaction_of (Some clauses) = Some (Transact clauses)

-- an operation on one key, if it was read
abbrev pub one_of : Option Asked → Option Requested
one_of None = None
one_of (Some op) = Some (One op)

-- the operation that a name and the words behind it write
abbrev pub named_request : List ℕ → List (List ℕ) → Option Requested
named_request name rest =
    if is_transaction name rest then transaction_of (clauses_words rest)
    else one_of (words_operation (name ∷ rest))

-- the operation that these words write
abbrev pub words_request : List (List ℕ) → Option Requested
words_request [] = None
words_request (name ∷ rest) = named_request name rest

-- how operations and replies of a whole store are written
abbrev pub whole_language : Language Requested Answered
whole_language = record { operation = words_request; reply = word_answer }

-- the clauses, if they were read
abbrev pub clauses_in : Option (Vec Stated) → Option (List Stated)
clauses_in None = None
clauses_in (Some clauses) = Some clauses.items
