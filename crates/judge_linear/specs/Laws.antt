-- The result is correct: the history is at the level, or it is not. The text that is written for a
-- linearization (Herlihy and Wing, TOPLAS 1990) is legal for a judge that trusts the order of the
-- lines.
use Rattle.std.specs.Prelude.{◌≡◌, ◌<◌, ◌*◌, ◌⊎◌, ℕ, true, Option, Some, IfSome, List, length, reverse}
use Rattle.std.specs.Io.KnownBytes.{Appends}
use Rattle.vac_model.specs.declared.limits.TheConstants.{MOST_BLOCKS}
use Rattle.vac_model.specs.State.{Place, empty_state}
use Rattle.vac_model.specs.declared.replies.Reply.{Reply}
use Rattle.judge_calls.specs.declared.verdict.Verdict.{Verdict}
use Rattle.judge_calls.specs.declared.verdict.Verdict.TheVariants.{Legal}
use Rattle.judge_calls.specs.Call.{Call}
use Rattle.judge_calls.specs.Verdict.{verdict_on, summary_of}
use Rattle.judge_calls.specs.Laws.{Lists, IsLinearization, state_after}
use Rattle.judge_calls.specs.AnyOrder.{IsReordered, IsWholeOrder, order_verdict, is_covered}
use Rattle.judge_linear.specs.declared.ordering.Outcome.{Outcome}
use Rattle.judge_linear.specs.declared.ordering.Outcome.TheVariants as outcome
use Rattle.judge_object.specs.declared.level.Level.{Level}
use Rattle.judge_object.specs.declared.level.Level.TheVariants as level
use Rattle.judge_object.specs.Levels.{IsAt}
use Rattle.judge_object.specs.Cut.{cut}
use Rattle.judge_object.specs.Orders.{IsOrderOf, IsLinearizable}
use Rattle.judge_reservations.specs.Reserving.{reserving}
use Rattle.judge_search.specs.Deciding.{most_steps}
use Rattle.judge_linear.specs.Found.{Order, NoOrder, IllegalPart, IsFound, HasIllegalPart}
use Rattle.judge_linear.specs.Ordering.{FindsText, HasOrdered}
use Rattle.judge_linear.specs.Wrongs.{IsFirstWrongLine}

-- if an order is found, the history is at the level
abbrev pub OrderIsAtLevel : Type 0
OrderIsAtLevel = (kept : Level) (n steps : ℕ) (bytes : List ℕ) (numbers : List ℕ) →
    IsFound kept n steps bytes (Order numbers) →
    (calls : List Call) → Lists bytes calls → IsAt reserving kept (empty_state n) calls

-- if the result is that there is no order, the history is not at the level
abbrev pub NoOrderMeansNone : Type 0
NoOrderMeansNone = (kept : Level) (n steps : ℕ) (bytes : List ℕ) (most : ℕ)
    (stuck : List (ℕ × Reply)) → IsFound kept n steps bytes (NoOrder most stuck) →
    (calls : List Call) → Lists bytes calls → IsAt reserving kept (empty_state n) calls → ⊥

-- if the result is that a part has no order, the history is not at the level
abbrev pub IllegalPartMeansNone : Type 0
IllegalPartMeansNone = (kept : Level) (n steps : ℕ) (bytes : List ℕ) (line : ℕ)
    (customers : List ℕ) (items : List Place) (stuck : List (ℕ × Reply)) (states : Option ℕ) →
    IsFound kept n steps bytes (IllegalPart line customers items stuck states) →
    (calls : List Call) → Lists bytes calls → IsAt reserving kept (empty_state n) calls → ⊥

-- if a part has no order and the number of states is given, each cut of the parts at an earlier
-- moment is linearizable. So the end of the given line's part is the first at which the parts have
-- no order
abbrev pub StatesShowFirstEnd : Type 0
StatesShowFirstEnd = (kept : Level) (n : ℕ) (bytes : List ℕ) (line : ℕ) (customers : List ℕ)
    (items : List Place) (stuck : List (ℕ × Reply)) (count : ℕ)
    (found : HasIllegalPart kept n bytes line customers items stuck (Some count)) (earlier : ℕ) →
    earlier < found.moment →
    IsLinearizable reserving (empty_state MOST_BLOCKS) (cut earlier found.parts)

-- the history of these calls, with this text, is as an outcome of searches that may make `steps`
-- steps says of a level: at the level; or not at the level, unless a line is wrong. If the outcome
-- says neither, the steps are less than twice those of a search that tries each order of the calls
abbrev pub IsDecided : Level → ℕ → ℕ → List ℕ → List Call → Outcome → Type 0
IsDecided kept n steps bytes calls outcome.Ordered = IsAt reserving kept (empty_state n) calls
IsDecided kept n steps bytes calls outcome.Illegal =
    (IsAt reserving kept (empty_state n) calls → ⊥)
    ⊎ ((verdict : Verdict) × IsFirstWrongLine bytes verdict)
IsDecided kept n steps bytes calls outcome.Undecided = steps < 2 * most_steps (length calls)

-- the outcome of a search at a level says whether the history is at the level, if the search may
-- make enough steps
abbrev pub OutcomeDecides : Type 0
OutcomeDecides = (kept : Level) (n steps : ℕ) (bytes : List ℕ) (result : Outcome) (text : List ℕ) →
    FindsText kept n steps bytes result text →
    (calls : List Call) → Lists bytes calls → IsDecided kept n steps bytes calls result

-- a text is a history of these calls, and their order is a linearization, for a system of n
-- blocks. The verdict on the text is legal, with the number of calls and clients and the report of
-- the state that the calls leave
pub record IsJudgedLegal (n : ℕ) (text : List ℕ) (calls : List Call) : Type 0 where
  pub listed : Lists text calls
  pub linearization : IsLinearization n calls
  pub verdict : verdict_on n text ≡
      Legal (summary_of (state_after (empty_state n) calls) (reverse calls))

-- the lines of a text are calls, and the given list is an order of these calls
pub record IsOrderOfText (bytes : List ℕ) (order : List Call) : Type 0 where
  pub calls : List Call
  pub listed : Lists bytes calls
  pub orders : IsOrderOf calls order

-- a text was written whose verdict is legal; the calls of the text are an order of the calls of
-- the input
pub record WroteLegal (n : ℕ) (unread held holds : Option (List ℕ)) : Type 0 where
  pub text : List ℕ
  pub written : Appends held holds text
  pub calls : List Call
  pub judged : IsJudgedLegal n text calls
  pub of_input : IfSome unread (λ input. IsOrderOfText input calls)

-- if a linearization of a history is found, a text is written whose verdict is legal
abbrev pub OrderIsJudgedLegal : Type 0
OrderIsJudgedLegal = (n steps : ℕ) (unread left held holds : Option (List ℕ)) →
    HasOrdered level.Linearizable n steps outcome.Ordered unread left held holds →
    WroteLegal n unread held holds

-- the text that is written for a linearization that is found has the calls of the input, in an
-- order that is a linearization
pub record IsFoundOrder (n : ℕ) (bytes text : List ℕ) : Type 0 where
  pub calls : List Call
  pub order : List Call
  pub reordered : IsReordered bytes text calls order
  pub linearization : IsLinearization n order

-- if a linearization is found, the text that is written has the calls of the input in this order
abbrev pub FoundIsReordered : Type 0
FoundIsReordered = (n steps : ℕ) (bytes text : List ℕ) →
    FindsText level.Linearizable n steps bytes outcome.Ordered text → IsFoundOrder n bytes text

-- some order of the calls of a text is a linearization, and its calls are the whole workload
pub record IsWholeInSomeOrder (n : ℕ) (tasks bytes : List ℕ) : Type 0 where
  pub calls : List Call
  pub order : List Call
  pub listed : Lists bytes calls
  pub orders : IsOrderOf calls order
  pub whole : IsWholeOrder n tasks calls order

-- if a linearization is found that covers a workload, some order of the calls of the input is a
-- linearization whose calls are the whole workload
abbrev pub CoveredMeansWhole : Type 0
CoveredMeansWhole = (n steps : ℕ) (tasks bytes text : List ℕ) →
    FindsText level.Linearizable n steps bytes outcome.Ordered text →
    is_covered (order_verdict n tasks bytes text) ≡ true → IsWholeInSomeOrder n tasks bytes
