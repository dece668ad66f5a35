-- Attempts of which only the committed writers have a place in the order. Any other attempt was
-- aborted or only reads, and may stand anywhere in the list: its place is searched for.
use Rattle.std.specs.Prelude.{◌≡◌, ⊤, ℕ, ◌&&◌, Bool, true, false, not, ◌||◌, None, List, [], ◌∷◌, ◌++◌, IsPermutation, if◌then◌else◌}
use Rattle.std.specs.List.{list_any}
use Rattle.judge_object.specs.Order.{overlaps, ended_before}
use Rattle.judge_opacity.specs.declared.attempt.Access.{Access}
use Rattle.judge_opacity.specs.declared.attempt.Access.TheVariants.{Read, Write}
use Rattle.judge_opacity.specs.Attempt.{Attempt, span_of_attempt}
use Rattle.judge_opacity.specs.Verdict.{violation_of}
use Rattle.judge_opacity.specs.Laws.{IsOpaqueOrder, ListsAttempts}

-- the access is a write
abbrev pub is_write : Access → Bool
is_write (Read word value) = false
is_write (Write word value) = true

-- the attempt committed and wrote a word
abbrev pub is_writer : Attempt → Bool
is_writer attempt = attempt.commits && list_any is_write attempt.accesses

-- no attempt of the list is a committed writer
abbrev pub NoWriter : List Attempt → Type 0
NoWriter [] = ⊤
NoWriter (attempt ∷ more) = (is_writer attempt ≡ false) × NoWriter more

-- the order takes each attempt of the list once, and takes the committed writers in the order of
-- the list: before a writer is taken, no writer may be left in front of it
abbrev pub IsPlacement : List Attempt → List Attempt → Type 0
IsPlacement attempts [] = attempts ≡ []
IsPlacement attempts (next ∷ order) =
    (before : List Attempt) × (after : List Attempt) × (attempts ≡ before ++ next ∷ after)
    × (is_writer next ≡ true → NoWriter before)
    × IsPlacement (before ++ after) order

-- the committed writers among the attempts, in their order
abbrev pub writers_in : List Attempt → List Attempt
writers_in [] = []
writers_in (attempt ∷ more) =
    if is_writer attempt then attempt ∷ writers_in more else writers_in more

-- an order that takes each attempt once has the same attempts as the list, and the same committed
-- writers in the same order
abbrev pub PlacementsKeepAttempts : Type 0
PlacementsKeepAttempts = (attempts order : List Attempt) → IsPlacement attempts order →
    IsPermutation attempts order × (writers_in order ≡ writers_in attempts)

-- some places for the attempts that are no committed writers make an order that shows that all
-- attempts are opaque
pub record IsPlaceable (attempts : List Attempt) : Type 0 where
  pub order : List Attempt
  pub placement : IsPlacement attempts order
  pub opaque : IsOpaqueOrder order

-- each line of a text is an attempt at this many words, and the attempts can be placed
pub record IsPlaceableText (words : ℕ) (bytes : List ℕ) : Type 0 where
  pub attempts : List Attempt
  pub listed : ListsAttempts words bytes attempts
  pub placeable : IsPlaceable attempts

-- clients and times let a later attempt stand behind a first one
abbrev pub may_follow : Attempt → Attempt → Bool
may_follow first later =
    not (overlaps span_of_attempt later first || ended_before span_of_attempt later first)

-- these attempts have no fault, one after the other behind earlier ones, which are listed from the
-- newest on
abbrev pub Goes : List Attempt → List Attempt → Type 0
Goes earlier [] = ⊤
Goes earlier (attempt ∷ more) = (violation_of earlier attempt ≡ None) ×
    Goes (attempt ∷ earlier) more

-- the attempts that are left can follow the earlier ones in some order
pub record Completes (earlier left : List Attempt) : Type 0 where
  pub order : List Attempt
  pub placement : IsPlacement left order
  pub goes : Goes earlier order
