-- The known part of the attempts of a client's calls.
use Rattle.std.specs.Prelude.{Bool, ◌&&◌, List, [], ◌∷◌, ◌++◌, map, Option, Some, None, if◌then◌else◌}
use Rattle.std.specs.List.{list_all}
use Rattle.vac_manager.specs.declared.note.TracedAttempt.{TracedAttempt}
use Rattle.vac_manager.specs.Tracing.{Trace, trace_of}
use Rattle.load_record.specs.declared.trail.AttemptTracer.{AttemptTracer}
use Rattle.load_record.specs.declared.ledger.AttemptRecorder.{AttemptRecorder}

-- the list, if there was room for all of its elements; None otherwise
abbrev pub known : {X : Type 0} → Bool → List X → Option (List X)
known whole xs = if whole then Some xs else None

-- the trace of the attempt that committed, if there is one
abbrev pub committed_trace : Option TracedAttempt → List Trace
committed_trace None = []
committed_trace (Some a) = trace_of a ∷ []

-- the traces of the attempts that have ended: the aborted ones, and after them the one that
-- committed; None if there was no room for all of them
abbrev pub ended_by : {W : Type 0} → AttemptTracer W → Option (List Trace)
ended_by t = known t.is_whole (map trace_of t.given_up.items ++ committed_trace t.committed)

-- there was room for each attempt and for its reads and writes
abbrev pub is_whole_trail : {W : Type 0} → AttemptTracer W → Bool
is_whole_trail t = t.is_whole && t.accesses.is_whole

-- there was room for each call of a client and for each attempt, and each call has its attempt
abbrev pub is_whole_ledger : {W : Type 0} → AttemptRecorder W → Bool
is_whole_ledger ledger = ledger.is_whole && ledger.journal.is_whole && is_whole_trail ledger.trail

-- the attempt recorders of the setup phase and of all clients had room for each call and each
-- attempt
abbrev pub are_whole_ledgers : {W : Type 0} → AttemptRecorder W → List (AttemptRecorder W) → Bool
are_whole_ledgers opening clients = is_whole_ledger opening && list_all is_whole_ledger clients
