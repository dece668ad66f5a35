-- A watched reader, after some of the bytes of a log.
use Rattle.std.specs.Prelude.{ℕ, List, IfSome}
use Rattle.judge_coverage.specs.declared.watched.Watched.{Watched}
use Rattle.judge_coverage.specs.Passing.{HasTaken}

-- the reader that gives the bytes
abbrev pub inner_of : {R : Type 0} → Watched R → R
inner_of watched = watched.inner

-- these bytes have passed since the watching began, and the entries of their lines were collected,
-- unless no log is watched or memory was refused
abbrev pub HasPassed : {R : Type 0} → ℕ → Watched R → List ℕ → Type 0
HasPassed longest watched bytes =
    IfSome watched.collector (λ collector. HasTaken longest collector bytes)
