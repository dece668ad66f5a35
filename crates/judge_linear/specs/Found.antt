-- The result for a history of which only each client's own order is known, and the text of the
-- result.
use Rattle.std.specs.Prelude.{◌≡◌, ◌<◌, ◌≤◌, ◌+◌, ◌-◌, ⊤, ℕ, Bool, true, Some, None, All, List, [], ◌∷◌, ◌++◌, map, flat_map, length, get_or, slice_get, codes, decimal, Option, IfSome}
use Rattle.vac_model.specs.declared.limits.TheConstants.{MOST_BLOCKS}
use Rattle.vac_model.specs.State.{State, Place, empty_state}
use Rattle.vac_model.specs.declared.replies.Reply.{Reply}
use Rattle.vac_lines.specs.Lines.{lines_of}
use Rattle.vac_lines.specs.Script.{as_line}
use Rattle.vac_model.specs.ReplyText.{reply_text}
use Rattle.vac_model.specs.TaskText.{kind_word}
use Rattle.judge_calls.specs.declared.verdict.Verdict.{Verdict}
use Rattle.judge_calls.specs.Verdict.{verdict_text}
use Rattle.judge_calls.specs.Call.{Call}
use Rattle.judge_calls.specs.Laws.{Lists, IsLinearization}
use Rattle.judge_object.specs.Orders.{IsMerge, IsOrderOf, IsLinearizable}
use Rattle.judge_object.specs.declared.level.Level.{Level}
use Rattle.judge_object.specs.declared.level.Level.TheVariants as level
use Rattle.judge_object.specs.Levels.{IsAt, keeps_all_of}
use Rattle.judge_object.specs.Cut.{cut}
use Rattle.judge_object.specs.Relaxed.{relax, PendingAreLast}
use Rattle.judge_reservations.specs.Reserving.{reserving}
use Rattle.judge_reservations.specs.declared.scope.Scope.{Scope}
use Rattle.judge_reservations.specs.Histories.{part_of_call, part_of_history}
use Rattle.judge_reservations.specs.Largest.{IsScopeOf}
use Rattle.judge_search.specs.declared.stuck.Stuck.{Stuck}
use Rattle.judge_search.specs.Configurations.{start, answered, PlacesAtMost, Deepest}
use Rattle.judge_search.specs.Calls.{rest_of}
use Rattle.judge_search.specs.Searching.{HasRun, IsUndecided}
use Rattle.judge_search.specs.Walking.{AreDistinct}
use Rattle.judge_search.specs.Stuck.{AreStuck}
use Rattle.judge_linear.specs.Reading.{first_wrong, call_at}
use Rattle.judge_linear.specs.Moments.{part_then}
use Rattle.judge_linear.specs.Possible.{HadStatesBefore}
use Rattle.judge_object.specs.Call.{is_completed}
use Rattle.judge_object.specs.declared.span.TheConstants.{NEVER}

-- the result for a history at a level: a wrong line; the numbers of the lines in an order; no
-- order, with the largest number of completed calls that can be placed and the lines of the calls
-- that are then blocked, each with the expected reply; a line at the end of whose call a part had
-- no order, on a scope of some customers and items, with the lines of the calls whose parts were
-- then blocked, and the number of states that were possible just before, if it is known; or
-- undecided
pub data FoundOfText : Type 0 where
  Wrong : (verdict : Verdict) → FoundOfText
  Order : (numbers : List ℕ) → FoundOfText
  NoOrder : (most : ℕ) → (stuck : List (ℕ × Reply)) → FoundOfText
  IllegalPart : (line : ℕ) → (customers : List ℕ) → (items : List Place) →
      (stuck : List (ℕ × Reply)) → (states : Option ℕ) → FoundOfText
  Undecided : (most : ℕ) → FoundOfText

-- the calls of the lines with these numbers, in this order
abbrev pub calls_numbered : List Call → List ℕ → List Call
calls_numbered calls numbers = map (call_at calls) numbers

-- the calls of the lines with these numbers, without the order that the level does not keep
abbrev pub relaxed_numbered : Level → List Call → List ℕ → List Call
relaxed_numbered kept calls numbers = calls_numbered (relax kept calls) numbers

-- the numbers are numbers of lines, and no number occurs twice
pub record AreNumbers (calls : List Call) (numbers : List ℕ) : Type 0 where
  pub distinct : AreDistinct numbers
  pub first : All (λ number. 1 ≤ number) numbers
  pub last : All (λ number. number ≤ length calls) numbers

-- the lines of a text are calls, the calls of each client are in turn, and, without the order that
-- the level does not keep, the calls of the lines with these numbers are an order of all calls that
-- is a linearization, for a system of n blocks
pub record IsOrdered (kept : Level) (n : ℕ) (bytes : List ℕ) (numbers : List ℕ) : Type 0 where
  pub calls : List Call
  pub listed : Lists bytes calls
  pub right : first_wrong bytes ≡ None
  pub numbers_are : AreNumbers calls numbers
  pub orders : IsOrderOf (relax kept calls) (relaxed_numbered kept calls numbers)
  pub linearization : IsLinearization n (relaxed_numbered kept calls numbers)

-- the calls of the lines with these numbers are an order of all calls at the level, or at a level
-- that keeps more order
pub record IsOrderedAtLeast (kept : Level) (n : ℕ) (bytes : List ℕ) (numbers : List ℕ) : Type 0
  where
    pub shown : Level
    pub keeps : keeps_all_of shown kept ≡ true
    pub ordered : IsOrdered shown n bytes numbers

-- the lines of a text are calls, the calls of each client are in turn and a pending call is the
-- last one, and a search at a level keeps the calls in the order of these numbers
pub record AreKeptInOrder (kept : Level) (bytes : List ℕ) (calls : List Call) (numbers : List ℕ) :
    Type 0 where
  pub listed : Lists bytes calls
  pub right : first_wrong bytes ≡ None
  pub last : PendingAreLast calls
  pub numbers_are : AreNumbers calls numbers
  pub merges : IsMerge (relax kept calls) (relaxed_numbered kept calls numbers)

-- the blocked calls with the numbers of their lines in the place of their positions
abbrev pub told_by : List ℕ → List (Stuck Reply) → List (ℕ × Reply)
told_by numbers stuck = map (λ one. (get_or numbers one.place 0, one.expected)) stuck

-- the history is not at the level. Of the calls without the order that the level does not keep, at
-- most `most` completed ones can be placed, one after the other, such that each may come next and
-- gives its reply. In a state with that many placed calls, the completed calls that may come next
-- are given, each with the reply of the manager
-- Not said: in which order the blocked calls are given.
pub record HasNone (kept : Level) (n : ℕ) (bytes : List ℕ) (most : ℕ) (stuck : List (ℕ × Reply)) :
    Type 0 where
  pub calls : List Call
  pub numbers : List ℕ
  pub are_kept : AreKeptInOrder kept bytes calls numbers
  pub none : IsAt reserving kept (empty_state n) calls → ⊥
  pub made : ℕ → Bool
  pub state : State
  pub deepest : Deepest reserving (start (empty_state n) (relaxed_numbered kept calls numbers)) most
      (record { rest = rest_of made 0 (relaxed_numbered kept calls numbers); state = state })
  pub bound : PlacesAtMost reserving (answered (relaxed_numbered kept calls numbers)) most
      (start (empty_state n) (relaxed_numbered kept calls numbers))
  pub found : List (Stuck Reply)
  pub are : AreStuck reserving state made (relaxed_numbered kept calls numbers) found
  pub told : stuck ≡ told_by numbers found

-- a call is what a function gives for the call of the line with a number
pub record IsGivenAt (f : Call → Option Call) (calls : List Call) (number : ℕ) (given : Call) :
    Type 0 where
  pub first : 1 ≤ number
  pub last : number ≤ length calls
  pub is : f (call_at calls number) ≡ Some given

-- each of some calls is what a function gives for the call of the line with its number
abbrev pub AreGivenAt : (Call → Option Call) → List Call → List ℕ → List Call → Type 0
AreGivenAt f calls [] [] = ⊤
AreGivenAt f calls (number ∷ numbers) (given ∷ others) =
    IsGivenAt f calls number given × AreGivenAt f calls numbers others
AreGivenAt f calls _ _ = ⊥

-- each of some calls is the part on a scope of the call of the line with its number
abbrev pub ArePartsAt : Scope → List Call → List ℕ → List Call → Type 0
ArePartsAt scope calls numbers parts = AreGivenAt (part_of_call scope) calls numbers parts

-- each of some calls is the part on a scope of the call of the line with its number, as the part
-- stood at a moment
abbrev pub ArePartsThen : Scope → ℕ → List Call → List ℕ → List Call → Type 0
ArePartsThen scope moment calls numbers parts =
    AreGivenAt (part_then scope moment) calls numbers parts

-- of some calls with these numbers, the one with this number is completed, and ended at a moment
pub record IsEndOf (calls : List Call) (numbers : List ℕ) (number moment : ℕ) : Type 0 where
  pub place : ℕ
  pub number_at : slice_get numbers place ≡ Some number
  pub call : Call
  pub call_is : slice_get calls place ≡ Some call
  pub completed : is_completed call ≡ true
  pub end : call.end ≡ moment

-- in a state after as many completed calls as can be placed of these, for a system of the greatest
-- number of blocks, the completed calls that may come next are given, at least one, each by its
-- number with the reply of the manager
-- Not said: in which order the blocked calls are given.
pub record AreBlocked (parts : List Call) (numbers : List ℕ) (stuck : List (ℕ × Reply)) : Type 0
  where
    pub most : ℕ
    pub made : ℕ → Bool
    pub state : State
    pub deepest : Deepest reserving (start (empty_state MOST_BLOCKS) parts) most
        (record { rest = rest_of made 0 parts; state = state })
    pub bound : PlacesAtMost reserving (answered parts) most (start (empty_state MOST_BLOCKS) parts)
    pub found : List (Stuck Reply)
    pub are : AreStuck reserving state made parts found
    pub told : stuck ≡ told_by numbers found
    pub some : 1 ≤ length stuck

-- without the order that the level does not keep, all calls of a history have parts on a scope of
-- these customers and items, and no order of the parts is a linearization, for a system of the
-- greatest number of blocks. Nor was one at the end of the given line's part, which is completed:
-- no order of the parts, as they stood then, is a linearization. Of the parts as they stood then
-- the blocked ones are given, each by the number of its line with the reply of the manager. If a
-- number of states is given, exactly that many states were possible just before that end
-- Not said: in which order the blocked calls are given. Which items of the scope only its customers
-- book, and which of its customers only book its items. That the number of states is given; that
-- the parts had an order before the end of the given line's part, unless the number of states is
-- given; which line is given if several parts ended at the moment.
pub record HasIllegalPart (kept : Level) (n : ℕ) (bytes : List ℕ) (line : ℕ) (customers : List ℕ)
    (items : List Place) (stuck : List (ℕ × Reply)) (states : Option ℕ) : Type 0 where
  pub blocks : n ≤ MOST_BLOCKS
  pub calls : List Call
  pub numbers : List ℕ
  pub are_kept : AreKeptInOrder kept bytes calls numbers
  pub scope : Scope
  pub is_scope : IsScopeOf customers items (relaxed_numbered kept calls numbers) scope
  pub none : IsLinearizable reserving (empty_state MOST_BLOCKS)
      (part_of_history scope (relaxed_numbered kept calls numbers)) → ⊥
  pub parts : List Call
  pub part_numbers : List ℕ
  pub merges : IsMerge (part_of_history scope (relaxed_numbered kept calls numbers)) parts
  pub are_parts : ArePartsAt scope (relax kept calls) part_numbers parts
  pub moment : ℕ
  pub ended : IsEndOf parts part_numbers line moment
  pub early : moment < NEVER
  pub none_then : IsLinearizable reserving (empty_state MOST_BLOCKS) (cut moment parts) → ⊥
  pub parts_then : List Call
  pub numbers_then : List ℕ
  pub merges_then : IsMerge (cut moment parts) parts_then
  pub are_then : ArePartsThen scope moment (relax kept calls) numbers_then parts_then
  pub blocked : AreBlocked parts_then numbers_then stuck
  pub states_before : IfSome states (HadStatesBefore parts moment)

-- an exact search of the calls of a text as they are given, for a system of n blocks, can make this
-- number of steps
pub record RunsGiven (n : ℕ) (bytes : List ℕ) (calls : List Call) (steps : ℕ) : Type 0 where
  pub numbers : List ℕ
  pub are_kept : AreKeptInOrder level.Linearizable bytes calls numbers
  pub run : HasRun reserving steps (start (empty_state n) (calls_numbered calls numbers))

-- a level below linearizability is searched after the history as it is given, with the steps that
-- the first search has left
abbrev pub RunsBefore : Level → ℕ → List ℕ → List Call → ℕ → Type 0
RunsBefore level.Linearizable n bytes calls steps = steps ≡ 0
RunsBefore kept n bytes calls steps = RunsGiven n bytes calls steps

-- after `steps` steps, of a search of the history as it is given and of a search at the level,
-- neither an order is found nor the absence of one is shown. The search at the level made at least
-- half of them. In the orders that were tried at the level, at most `most` completed calls were
-- placed
pub record IsLeftOpen (kept : Level) (n : ℕ) (bytes : List ℕ) (steps most : ℕ) : Type 0 where
  pub calls : List Call
  pub numbers : List ℕ
  pub are_kept : AreKeptInOrder kept bytes calls numbers
  pub given : ℕ
  pub left : ℕ
  pub together : given + left ≡ steps
  pub half : given + given ≤ steps
  pub before : RunsBefore kept n bytes calls given
  pub undecided : IsUndecided reserving
      (start (empty_state n) (relaxed_numbered kept calls numbers)) left most

-- the value is a result for the text at the level, for a system of n blocks, of searches that may
-- make this many steps
abbrev pub IsFound : Level → ℕ → ℕ → List ℕ → FoundOfText → Type 0
IsFound kept n steps bytes (Wrong verdict) = first_wrong bytes ≡ Some verdict
IsFound kept n steps bytes (Order numbers) = IsOrderedAtLeast kept n bytes numbers
IsFound kept n steps bytes (NoOrder most stuck) = HasNone kept n bytes most stuck
IsFound kept n steps bytes (IllegalPart line customers items stuck states) =
    HasIllegalPart kept n bytes line customers items stuck states
IsFound kept n steps bytes (Undecided most) = IsLeftOpen kept n bytes steps most

-- the text of the line with this number, the first line having number 1
abbrev pub line_at : List ℕ → ℕ → List ℕ
line_at bytes number = get_or (lines_of bytes) (number - 1) []

-- the lines with these numbers, in this order
abbrev pub order_text : List ℕ → List ℕ → List ℕ
order_text bytes numbers = flat_map (λ number. as_line (line_at bytes number)) numbers

-- the line of a blocked call: the number of its line and the expected reply
abbrev pub stuck_text : ℕ × Reply → List ℕ
stuck_text one =
    as_line (codes "stuck " ++ decimal one.0 ++ codes " " ++ reply_text one.1)

-- the text of the result that there is no order, with the lines of the blocked calls
abbrev pub none_text : ℕ → List (ℕ × Reply) → List ℕ
none_text most stuck =
    as_line (codes "illegal order " ++ decimal most) ++ flat_map stuck_text stuck

-- a customer of a scope
abbrev pub customer_text : ℕ → List ℕ
customer_text id = codes " customer " ++ decimal id

-- an item of a scope
abbrev pub item_text : Place → List ℕ
item_text item = codes " " ++ kind_word item.0 ++ codes " " ++ decimal item.1

-- the customers and items of a scope
abbrev pub scope_text : List ℕ → List Place → List ℕ
scope_text customers items = flat_map customer_text customers ++ flat_map item_text items

-- the line of the number of possible states, if it is known
abbrev pub states_text : Option ℕ → List ℕ
states_text None = []
states_text (Some number) = as_line (codes "states " ++ decimal number)

-- the text of the result that a part had no order at the end of the call of a line, with the lines
-- of the blocked calls and of the number of states that were possible just before
abbrev pub part_text : ℕ → List ℕ → List Place → List (ℕ × Reply) → Option ℕ → List ℕ
part_text line customers items stuck states =
    as_line (codes "illegal part " ++ decimal line ++ scope_text customers items)
    ++ flat_map stuck_text stuck ++ states_text states

-- the text of the result that the question is undecided
abbrev pub open_text : ℕ → List ℕ
open_text most = as_line (codes "undecided " ++ decimal most)

-- the output for a result
abbrev pub found_text : List ℕ → FoundOfText → List ℕ
found_text bytes (Wrong verdict) = verdict_text verdict
found_text bytes (Order numbers) = order_text bytes numbers
found_text bytes (NoOrder most stuck) = none_text most stuck
found_text bytes (IllegalPart line customers items stuck states) =
    part_text line customers items stuck states
found_text bytes (Undecided most) = open_text most

-- the lines with the texts at these positions of a list
abbrev pub placed_text : List (List ℕ) → List ℕ → List ℕ
placed_text texts places = flat_map (λ place. as_line (get_or texts place [])) places
