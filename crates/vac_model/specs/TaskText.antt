-- The plain line of a task: numbers without leading zeros, no word for one unit of a reservation,
-- and a dash for no price.
use Rattle.std.specs.Prelude.{ℕ, ◌==◌, Option, Some, None, List, [], ◌∷◌, ◌++◌, codes}
use Rattle.std.specs.Prelude.{decimal, if◌then◌else◌}
use Rattle.std.specs.List.{flat_map}
use Rattle.vac_model.specs.declared.items.Kind.{Kind}
use Rattle.vac_model.specs.declared.items.Kind.TheVariants.{Car, Flight, Room}
use Rattle.vac_model.specs.declared.commands.Command.{Command}
use Rattle.vac_model.specs.declared.commands.Command.TheVariants as command
use Rattle.vac_model.specs.declared.tasks.Task.{Task}
use Rattle.vac_model.specs.declared.tasks.Task.TheVariants as task

-- the word for a kind
abbrev pub kind_word : Kind → List ℕ
kind_word Car = codes "car"
kind_word Flight = codes "flight"
kind_word Room = codes "room"

-- the words `KIND ID` of an item
abbrev pub item_words : Kind → ℕ → List (List ℕ)
item_words kind id = kind_word kind ∷ decimal id ∷ []

-- the word for a price, or a dash for none
abbrev pub price_word : Option ℕ → List ℕ
price_word None = codes "-"
price_word (Some price) = decimal price

-- the word for a number of units; no word for one unit
abbrev pub units_words : ℕ → List (List ℕ)
units_words units = if units == 1 then [] else decimal units ∷ []

-- the words of the line of a command
abbrev pub command_words : Command → List (List ℕ)
command_words (command.Add kind id num price) =
    codes "add" ∷ kind_word kind ∷ decimal id ∷ decimal num ∷ price_word price ∷ []
command_words (command.Delete kind id num) =
    codes "del" ∷ kind_word kind ∷ decimal id ∷ decimal num ∷ []
command_words (command.DropFlight id) = codes "del" ∷ codes "flight" ∷ decimal id ∷ []
command_words (command.NewCustomer id) = codes "newcust" ∷ decimal id ∷ []
command_words (command.DropCustomer id) = codes "dropcust" ∷ decimal id ∷ []
command_words (command.Free kind id) = codes "free" ∷ item_words kind id
command_words (command.Price kind id) = codes "price" ∷ item_words kind id
command_words (command.Bill id) = codes "bill" ∷ decimal id ∷ []
command_words (command.Reserve customer kind id units) =
    codes "reserve" ∷ decimal customer ∷ kind_word kind ∷ decimal id ∷ units_words units
command_words (command.Cancel customer kind id) =
    codes "cancel" ∷ decimal customer ∷ item_words kind id
command_words command.Audit = codes "audit" ∷ []

-- the words of the items that a trip asks for
abbrev pub asks_words : List (Kind × ℕ) → List (List ℕ)
asks_words asks = flat_map (λ ask. item_words ask.0 ask.1) asks

-- the words of a change that follows another one, with the separator in front
abbrev pub further_words : Command → List (List ℕ)
further_words change = codes ";" ∷ command_words change

-- the words of changes, with a separator between every two
abbrev pub changes_words : List Command → List (List ℕ)
changes_words [] = []
changes_words (first ∷ rest) = command_words first ++ flat_map further_words rest

-- the words of the line of a task
abbrev pub task_words : Task → List (List ℕ)
task_words (task.One command) = command_words command
task_words (task.Trip customer asks) = codes "trip" ∷ decimal customer ∷ asks_words asks
task_words (task.Leave customer) = codes "leave" ∷ decimal customer ∷ []
task_words (task.Update changes) = codes "update" ∷ changes_words changes

-- the words, each after a space
abbrev pub spaced : List (List ℕ) → List ℕ
spaced words = flat_map (λ word. codes " " ++ word) words

-- the words, with a space between every two
abbrev pub words_text : List (List ℕ) → List ℕ
words_text [] = []
words_text (first ∷ rest) = first ++ spaced rest

-- the plain line of a task
abbrev pub task_text : Task → List ℕ
task_text task = words_text (task_words task)
