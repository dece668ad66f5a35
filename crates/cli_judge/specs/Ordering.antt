-- The search for an order of a level of consistency: status, input and output.
use Rattle.std.specs.Prelude.{◌≡◌, ◌≢◌, ◌⊎◌, ℕ, Bool, true, false, Option, Some, None, List, codes}
use Rattle.std.specs.Io.KnownBytes.{Appends}
use Rattle.vac_lines.specs.Script.{as_line}
use Rattle.vac_lines.specs.Writing.{AppendsPrefix}
use Rattle.judge_object.specs.declared.level.Level.{Level}
use Rattle.judge_object.specs.declared.level.Level.TheVariants as level
use Rattle.judge_linear.specs.declared.ordering.Outcome.{Outcome}
use Rattle.judge_linear.specs.declared.ordering.Outcome.TheVariants as outcome
use Rattle.judge_linear.specs.Ordering.{FindsText, HasText, HasOrdered, HasOrderedInPart}
use Rattle.judge_calls.specs.HeldReading.{IsReadWhole}
use Rattle.judge_calls.specs.AnyOrder.{HasCheckedOrder, HasCheckedOrderInPart}
use Rattle.cli_judge.specs.Ending.{EndsWithStatus, EndsWithVerdict}
use Rattle.cli_judge.specs.declared.status.TheConstants.{FAULT}
use Rattle.cli_judge.specs.Judging.{Judges, NamedAlone, NotOpened}

-- the status of an outcome: 0 if there is an order of the level, 1 if there is none or a line is
-- wrong, 3 if the search did not decide
abbrev pub status_of : Outcome → ℕ
status_of outcome.Ordered = 0
status_of outcome.Illegal = 1
status_of outcome.Undecided = 3

-- a fault ended the search: either the output failed, and a prefix of the result was written; or
-- another fault was met, and is named
abbrev pub OrderStopped : Level → ℕ → ℕ → Option (List ℕ) → Option (List ℕ) → Option (List ℕ)
    → Option (List ℕ) → Type 0
OrderStopped kept blocks steps unread left held holds =
    HasOrderedInPart kept blocks steps unread left held holds ⊎ NamedAlone held holds

-- the program searches for an order of a history's calls that shows a level, and writes the result
abbrev pub Orders : Level → ℕ → ℕ → ℕ → Option (List ℕ) → Option (List ℕ) → Option (List ℕ)
    → Option (List ℕ) → Type 0
Orders kept blocks steps status unread left held holds =
    ((found : Outcome) × (status ≡ status_of found)
    × HasOrdered kept blocks steps found unread left held holds)
    ⊎ ((status ≡ FAULT) × OrderStopped kept blocks steps unread left held holds)

-- no order of a level was found, and a prefix of the text that says so was written
abbrev pub HasRefusedInPart : Level → ℕ → ℕ → Option (List ℕ) → Option (List ℕ)
    → Option (List ℕ) → Option (List ℕ) → Type 0
HasRefusedInPart kept blocks steps unread left held holds =
    (part : HasOrderedInPart kept blocks steps unread left held holds)
    × (part.result ≢ outcome.Ordered)

-- no order of a level is found, and the text that says so is written; or a fault ended the search,
-- and no line of an order is written
abbrev pub FindsNone : Level → ℕ → ℕ → ℕ → Option (List ℕ) → Option (List ℕ) → Option (List ℕ)
    → Option (List ℕ) → Type 0
FindsNone kept blocks steps status unread left held holds =
    ((found : Outcome) × (found ≢ outcome.Ordered) × (status ≡ status_of found)
    × HasOrdered kept blocks steps found unread left held holds)
    ⊎ ((status ≡ FAULT)
    × (HasRefusedInPart kept blocks steps unread left held holds ⊎ NamedAlone held holds))

-- the program writes the line which says that an order of a level was found
abbrev pub SaysLegal : List ℕ → ℕ → Option (List ℕ) → Option (List ℕ) → Type 0
SaysLegal line status held holds =
    EndsWithStatus status (Appends held holds line) (AppendsPrefix held holds line)

-- the program judges the text of an order of a level that it found. The lines of a linearization
-- are judged as a history. Of another order the level is written, and no report of a state: which
-- state the calls leave depends on the order
abbrev pub JudgesText : Level → ℕ → ℕ → List ℕ → Option (List ℕ) → Option (List ℕ) → Type 0
JudgesText level.Linearizable blocks status text held holds =
    (rest : Option (List ℕ)) × Judges blocks status (Some text) rest held holds
JudgesText level.Sequential blocks status text held holds =
    SaysLegal (as_line (codes "legal sequential")) status held holds
JudgesText level.Serializable blocks status text held holds =
    SaysLegal (as_line (codes "legal serializable")) status held holds

-- an order of a level was found, and is judged
pub record JudgesFound (kept : Level) (blocks steps status : ℕ)
    (unread left held holds : Option (List ℕ)) : Type 0 where
  pub text : List ℕ
  pub order : HasText kept blocks steps unread left outcome.Ordered text
  pub judged : JudgesText kept blocks status text held holds

-- the program judges a history in an order of a level that it finds
abbrev pub JudgesAnyOrder : Level → ℕ → ℕ → ℕ → Option (List ℕ) → Option (List ℕ)
    → Option (List ℕ) → Option (List ℕ) → Type 0
JudgesAnyOrder kept blocks steps status unread left held holds =
    JudgesFound kept blocks steps status unread left held holds
    ⊎ FindsNone kept blocks steps status unread left held holds

-- an order with this text, of the calls of a history with these bytes, was checked against the
-- workload in a file; `covered` says whether the order is a linearization that covers the workload
-- Not said: how much of the workload is left to read, because no contract knows these bytes.
abbrev pub HasHeldOrderFile : Option (List ℕ) → ℕ → Bool → List ℕ → List ℕ → Option (List ℕ)
    → Option (List ℕ) → Type 0
HasHeldOrderFile tasks blocks covered bytes text held holds =
    (rest : Option (List ℕ)) × HasCheckedOrder blocks covered tasks rest bytes text held holds

-- a fault ended the check of an order against a workload: either the output failed, and a prefix of
-- the verdict was written; or another fault was met, and only a prefix of the line that names a
-- fault was written
-- Not said: which fault stands for which cause.
abbrev pub OrderWorkStopped : Option (List ℕ) → ℕ → List ℕ → List ℕ → Option (List ℕ)
    → Option (List ℕ) → Type 0
OrderWorkStopped tasks blocks bytes text held holds =
    ((rest : Option (List ℕ)) × HasCheckedOrderInPart blocks tasks rest bytes text held holds)
    ⊎ NamedAlone held holds

-- the program checks an order of a history's calls against a workload; the status is 0 if the order
-- is a linearization that covers the workload
abbrev pub HoldsOrder : Option (List ℕ) → ℕ → ℕ → List ℕ → List ℕ → Option (List ℕ)
    → Option (List ℕ) → Type 0
HoldsOrder tasks blocks status bytes text held holds =
    EndsWithVerdict status (HasHeldOrderFile tasks blocks true bytes text held holds)
    (HasHeldOrderFile tasks blocks false bytes text held holds)
    (OrderWorkStopped tasks blocks bytes text held holds)

-- a linearization of the calls of a history with these bytes was found, and both are checked
-- against a workload
pub record HoldsText (tasks : Option (List ℕ)) (blocks steps status : ℕ) (bytes : List ℕ)
    (held holds : Option (List ℕ)) : Type 0 where
  pub text : List ℕ
  pub order : FindsText level.Linearizable blocks steps bytes outcome.Ordered text
  pub judged : HoldsOrder tasks blocks status bytes text held holds

-- a history with these bytes is checked against a workload in a linearization that is found, or
-- none is found
abbrev pub HoldsInAnyOrder : Option (List ℕ) → ℕ → ℕ → ℕ → List ℕ → Option (List ℕ)
    → Option (List ℕ) → Type 0
HoldsInAnyOrder tasks blocks steps status bytes held holds =
    HoldsText tasks blocks steps status bytes held holds
    ⊎ ((rest : Option (List ℕ))
    × FindsNone level.Linearizable blocks steps status (Some bytes) rest held holds)

-- the history was read to its end, and is checked against a workload in a linearization that is
-- found
pub record HoldsFound (tasks : Option (List ℕ)) (blocks steps status : ℕ)
    (unread left held holds : Option (List ℕ)) : Type 0 where
  pub bytes : List ℕ
  pub read : IsReadWhole unread left bytes
  pub found : HoldsText tasks blocks steps status bytes held holds

-- the program searches for a linearization of a history's calls, and checks the history in this
-- order against a workload with these bytes
abbrev pub JudgesAnyHeld : Option (List ℕ) → ℕ → ℕ → ℕ → Option (List ℕ) → Option (List ℕ)
    → Option (List ℕ) → Option (List ℕ) → Type 0
JudgesAnyHeld tasks blocks steps status unread left held holds =
    HoldsFound tasks blocks steps status unread left held holds
    ⊎ FindsNone level.Linearizable blocks steps status unread left held holds

-- the program judges a history in a linearization that it finds, and checks it against the
-- workload in a file; if the file was not opened, no input is read
abbrev pub JudgesAnyWork : Option (List ℕ) → ℕ → ℕ → ℕ → Option (List ℕ) → Option (List ℕ)
    → Option (List ℕ) → Option (List ℕ) → Type 0
JudgesAnyWork tasks blocks steps status unread left held holds =
    JudgesAnyHeld tasks blocks steps status unread left held holds
    ⊎ ((left ≡ unread) × NotOpened status held holds)

-- the program judges a history in an order of a level that it finds; if a workload with these bytes
-- is given, in a linearization that is checked against the workload
abbrev pub JudgesAnyWith : Option (Option (List ℕ)) → Level → ℕ → ℕ → ℕ → Option (List ℕ)
    → Option (List ℕ) → Option (List ℕ) → Option (List ℕ) → Type 0
JudgesAnyWith None kept blocks steps status unread left held holds =
    JudgesAnyOrder kept blocks steps status unread left held holds
JudgesAnyWith (Some tasks) kept blocks steps status unread left held holds =
    JudgesAnyHeld tasks blocks steps status unread left held holds
