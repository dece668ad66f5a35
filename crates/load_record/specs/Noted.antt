-- The attempts in notes.
use Rattle.std.specs.Prelude.{Bool, true, not, List, Option, Some, None, is_some}
use Rattle.std.specs.List.{list_all}
use Rattle.vac_manager.specs.declared.note.CompletedCall.{CompletedCall}
use Rattle.vac_manager.specs.declared.note.TracedAttempt.{TracedAttempt}

-- each noted call has its attempt
abbrev pub all_noted : List CompletedCall → Bool
all_noted calls = list_all (λ n. is_some n.attempt) calls

-- no attempt of the list committed
abbrev pub none_committed : List TracedAttempt → Bool
none_committed attempts = list_all (λ a. not a.commits) attempts

-- the attempt, if there is one, committed
abbrev pub has_committed : Option TracedAttempt → Bool
has_committed None = true
has_committed (Some a) = a.commits
