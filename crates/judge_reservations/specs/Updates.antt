-- The part of a completed update on a scope: the changes that concern the scope, with their
-- results.
use Rattle.std.specs.Prelude.{ℕ, Bool, not, ◌&&◌, Option, Some, None, List, [], ◌∷◌, drop, map, codes, if◌then◌else◌}
use Rattle.std.specs.List.{filter_map, zip}
use Rattle.std.specs.Str.{bytes_eq}
use Rattle.std.specs.Borrow.{Bor}
use Rattle.std.specs.Option.{option_map}
use Rattle.vac_model.specs.declared.items.Kind.{Kind}
use Rattle.vac_model.specs.declared.items.Kind.TheVariants.{Flight}
use Rattle.vac_model.specs.declared.commands.Command.{Command}
use Rattle.vac_model.specs.declared.commands.Command.TheVariants as command
use Rattle.vac_model.specs.declared.commands.Refusal.{Refusal}
use Rattle.vac_model.specs.declared.commands.Refusal.TheVariants.{Full, NotFree, InUse}
use Rattle.vac_model.specs.declared.tasks.Task.TheVariants as task
use Rattle.vac_model.specs.State.{Place}
use Rattle.vac_lines.specs.Lines.{words_of}
use Rattle.vac_model.specs.ReplyText.{why_name}
use Rattle.vac_model.specs.TaskText.{words_text}
use Rattle.judge_reservations.specs.declared.scope.Scope.{Scope}
use Rattle.judge_reservations.specs.Scopes.{has_item, is_closed}
use Rattle.judge_reservations.specs.Tasks.{Answered}

-- a change of the tables with the word for its result: `true`, or the name of a refusal
abbrev pub Changed : Type 0
Changed = Command × List ℕ

-- a change with its word, as code has them
abbrev pub changed : Option (Command × Bor (List ℕ)) → Option Changed
changed c = option_map (λ x. (x.0, x.1.now)) c

-- tests if a word is the name of a refusal
abbrev pub is_why : Refusal → List ℕ → Bool
is_why why word = bytes_eq word (why_name why)

-- a change of the units of an item that was refused for such a reason shows only that the item
-- exists, unless all customers who book the item belong to the scope
abbrev pub units_change : Scope → Place → Command → List ℕ → Refusal → Option Changed
units_change scope place c word why =
    if has_item scope place then (
    if is_why why word && not (is_closed scope place)
    then Some (command.Add place.0 place.1 0 None, codes "true")
    else Some (c, word)
    ) else None

-- the part of a change: nothing, if the change was refused because no block was left
abbrev pub change_part : Scope → Command → List ℕ → Option Changed
change_part scope (command.Add kind id num price) word =
    if has_item scope (kind, id) then (
    if is_why Full word then None else Some (command.Add kind id num price, word)
    ) else None
change_part scope (command.Delete kind id num) word =
    units_change scope (kind, id) (command.Delete kind id num) word NotFree
change_part scope (command.DropFlight id) word =
    units_change scope (Flight, id) (command.DropFlight id) word InUse
change_part scope (command.NewCustomer id) word = None
change_part scope (command.DropCustomer id) word = None
change_part scope (command.Free kind id) word = None
change_part scope (command.Price kind id) word = None
change_part scope (command.Bill id) word = None
change_part scope (command.Reserve customer kind id num) word = None
change_part scope (command.Cancel customer kind id) word = None
change_part scope command.Audit word = None

-- the parts of changes, each of which has a word
abbrev pub changes_part : Scope → List Command → List (List ℕ) → List Changed
changes_part scope changes words =
    filter_map (λ x. change_part scope x.0 x.1) (zip changes words)

-- the commands of changes
abbrev pub commands_of : List Changed → List Command
commands_of changes = map (λ x. x.0) changes

-- the words of changes
abbrev pub results_of : List Changed → List (List ℕ)
results_of changes = map (λ x. x.1) changes

-- an update of some changes, with the text of its reply
abbrev pub shown_update : List Changed → Option Answered
shown_update [] = None
shown_update (first ∷ rest) =
    Some (
      task.Update (commands_of (first ∷ rest)),
      words_text (codes "update" ∷ results_of (first ∷ rest)),
    )

-- the part of an update
abbrev pub update_part : Scope → List Command → List ℕ → Option Answered
update_part scope changes text =
    shown_update (changes_part scope changes (drop 1 (words_of text)))
