-- Snapshot isolation (Berenson, Bernstein, Gray, Melton, O'Neil and O'Neil, SIGMOD 1995), each
-- call being a transaction. A transaction reads from a snapshot: the state after those
-- transactions that had committed when it began. It may commit only if no transaction that
-- committed since then wrote a key that it writes ("first committer wins"). As in Adya (1999), and
-- in Cerone and Gotsman (JACM 2018), a history is snapshot isolated if some order of the commits
-- and some snapshot for each transaction explain the replies, however the transactions are
-- implemented.
--
-- The levels differ in what a snapshot must contain. Strong snapshot isolation requires all calls
-- that had ended before the call began, and all earlier calls of its client. Strong session
-- snapshot isolation requires the earlier calls of its client (Daudjee and Salem, VLDB 2006).
-- Snapshot isolation requires neither.
use Rattle.std.specs.Prelude.{◌≡◌, ◌≤◌, ◌==◌, ◌||◌, ⊤, ℕ, Bool, false, List, [], ◌∷◌, length, map, take, drop, nat_lt}
use Rattle.judge_object.specs.declared.span.Span.{Span}
use Rattle.judge_object.specs.Rules.{Rules, IsAnswerOf}
use Rattle.judge_object.specs.Call.{Call, span_of}
use Rattle.judge_object.specs.Linear.{CallsTakeTime, CallsAreSequential, CallsKeepPrecedence}
use Rattle.judge_object.specs.Orders.{IsOrderOf}
use Rattle.judge_object.specs.Levels.{IsSelectionOf}
use Rattle.judge_snapshot.specs.WriteSets.{WriteSets}

-- a committed transaction: its call, and the number of commits between its begin and its commit,
-- which are those that its snapshot misses
pub record Transaction (O : Type 0) : Type 0 where
  pub call : Call O
  pub missed : ℕ

-- a version of the state: the state after a commit, the write set that the commit installed, and
-- the interval of its call, with the client
pub record Version (S W : Type 0) : Type 0 where
  pub state : S
  pub written : W
  pub span : Span

module _ {A : Type 0} where
  -- a fact of each element
  abbrev pub Each : (A → Type 0) → List A → Type 0
  Each P [] = ⊤
  Each P (x ∷ xs) = P x × Each P xs

module _ {S W : Type 0} where
  -- the state after these versions, of which the newest is the first: they follow a first state
  abbrev pub state_of : S → List (Version S W) → S
  state_of s [] = s
  state_of s (version ∷ past) = version.state

module _ {O : Type 0} where
  -- the calls of transactions
  abbrev pub calls_of : List (Transaction O) → List (Call O)
  calls_of transactions = map (λ transaction. transaction.call) transactions

-- the earlier calls that a snapshot must contain, at the strong level: those of the same client,
-- and those that had ended before the call began
abbrev pub strong_needs : Span → Span → Bool
strong_needs earlier call = earlier.client == call.client || nat_lt earlier.end call.begin

-- at the session level: those of the same client
abbrev pub session_needs : Span → Span → Bool
session_needs earlier call = earlier.client == call.client

-- at the plain level: none
abbrev pub plain_needs : Span → Span → Bool
plain_needs earlier call = false

module _ {S O R W : Type 0} (X : Rules S O R) (V : WriteSets S O W) where
  -- the snapshot of a transaction that commits after these versions
  abbrev pub snapshot : S → List (Version S W) → Transaction O → S
  snapshot s past t = state_of s (drop t.missed past)

  -- the write set that the transaction computes on its snapshot
  abbrev pub written : S → List (Version S W) → Transaction O → W
  written s past t = V.writes (snapshot s past t) t.call.op

  -- the version that the commit makes: the newest state with the write set installed
  abbrev pub version : S → List (Version S W) → Transaction O → Version S W
  version s past t = record {
    state = V.install (written s past t) (state_of s past);
    written = written s past t;
    span = span_of t.call;
  }

  -- a transaction may commit after these versions, of which the newest is the first
  pub record MayCommit (needs : Span → Span → Bool) (s : S) (past : List (Version S W))
      (t : Transaction O) : Type 0 where
    -- its snapshot is one of the states so far
    pub within : t.missed ≤ length past
    -- its reply is that of its operation on its snapshot
    pub reply : IsAnswerOf X (X.run (snapshot s past t) t.call.op).1 t.call.reply
    -- no commit that its snapshot misses wrote a key that it writes
    pub apart : Each (λ v. V.conflicts v.written (written s past t) ≡ false) (take t.missed past)
    -- its snapshot misses no call that it must contain
    pub fresh : Each (λ v. needs v.span (span_of t.call) ≡ false) (take t.missed past)

  -- the transactions may commit, one after the other
  abbrev pub MayCommitAll : (Span → Span → Bool) → S → List (Version S W) → List (Transaction O)
      → Type 0
  MayCommitAll needs s past [] = ⊤
  MayCommitAll needs s past (t ∷ order) =
      MayCommit needs s past t × MayCommitAll needs s (version s past t ∷ past) order

  -- strong snapshot isolation: in some order of the calls, which keeps their precedence, the calls
  -- may commit one after the other. Each snapshot contains the calls that had ended before its
  -- call began, and the earlier calls of its client
  pub record IsStrongSnapshotIsolated (s : S) (calls : List (Call O)) : Type 0 where
    pub order : List (Transaction O)
    pub orders : IsOrderOf calls (calls_of order)
    pub commits : MayCommitAll strong_needs s [] order
    pub times : CallsTakeTime (calls_of order)
    pub clients : CallsAreSequential (calls_of order)
    pub precedence : CallsKeepPrecedence (calls_of order)

  -- strong session snapshot isolation: in some order of the calls, with each client's calls in
  -- their order, the calls may commit one after the other. Each snapshot contains the earlier
  -- calls of its client
  pub record IsSessionSnapshotIsolated (s : S) (calls : List (Call O)) : Type 0 where
    pub order : List (Transaction O)
    pub orders : IsOrderOf calls (calls_of order)
    pub commits : MayCommitAll session_needs s [] order

  -- snapshot isolation: in some order of all completed calls and some pending calls, the calls may
  -- commit one after the other
  pub record IsSnapshotIsolated (s : S) (calls : List (Call O)) : Type 0 where
    pub order : List (Transaction O)
    pub selects : IsSelectionOf calls (calls_of order)
    pub commits : MayCommitAll plain_needs s [] order
