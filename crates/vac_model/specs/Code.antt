-- A task and its reply as a list of numbers. Fields come in their order. An enum is the index of
-- its variant, from 0, and then its fields; a list is its length and then its items. An `Option`
-- is 0, or 1 and then its value.
use Rattle.std.specs.Prelude.{ℕ, Option, Some, None, List, [], ◌∷◌, ◌++◌, length}
use Rattle.std.specs.List.{flat_map}
use Rattle.vac_model.specs.declared.commands.Command.{Command}
use Rattle.vac_model.specs.declared.commands.Command.TheVariants as command
use Rattle.vac_model.specs.declared.commands.Refusal.{Refusal}
use Rattle.vac_model.specs.declared.commands.Refusal.TheVariants.{NeedsCountAndPrice, TotalLimit, Full, NoItem, NotFree, InUse, Exists, NoCustomer, SoldOut, NotBooked, UnitLimit}
use Rattle.vac_model.specs.declared.replies.Reply.{Reply}
use Rattle.vac_model.specs.declared.replies.Reply.TheVariants as reply
use Rattle.vac_model.specs.declared.replies.Report.{Report}
use Rattle.vac_model.specs.declared.replies.CustomerOutcome.{CustomerOutcome}
use Rattle.vac_model.specs.declared.replies.CustomerOutcome.TheVariants as joined
use Rattle.vac_model.specs.declared.replies.Pick.{Pick}
use Rattle.vac_model.specs.declared.tasks.Task.{Task}
use Rattle.vac_model.specs.declared.tasks.Task.TheVariants as task
use Rattle.vac_model.specs.State.{Place, kind_number}

-- the code of an `Option`, from the code of its value
abbrev pub option_code : {X : Type 0} → (X → List ℕ) → Option X → List ℕ
option_code f None = 0 ∷ []
option_code f (Some x) = 1 ∷ f x

-- the code of a list, from the code of its items
abbrev pub list_code : {X : Type 0} → (X → List ℕ) → List X → List ℕ
list_code f xs = length xs ∷ flat_map f xs

-- the code of a number
abbrev pub number_code : ℕ → List ℕ
number_code n = n ∷ []

-- the code of an ask: its kind and its id
abbrev pub ask_code : Place → List ℕ
ask_code ask = kind_number ask.0 ∷ ask.1 ∷ []

-- the code of a command: its index among the commands, then its fields
abbrev pub command_code : Command → List ℕ
command_code (command.Add kind id num price) =
    0 ∷ kind_number kind ∷ id ∷ num ∷ option_code number_code price
command_code (command.Delete kind id num) = 1 ∷ kind_number kind ∷ id ∷ num ∷ []
command_code (command.DropFlight id) = 2 ∷ id ∷ []
command_code (command.NewCustomer id) = 3 ∷ id ∷ []
command_code (command.DropCustomer id) = 4 ∷ id ∷ []
command_code (command.Free kind id) = 5 ∷ kind_number kind ∷ id ∷ []
command_code (command.Price kind id) = 6 ∷ kind_number kind ∷ id ∷ []
command_code (command.Bill id) = 7 ∷ id ∷ []
command_code (command.Reserve customer kind id num) =
    8 ∷ customer ∷ kind_number kind ∷ id ∷ num ∷ []
command_code (command.Cancel customer kind id) = 9 ∷ customer ∷ kind_number kind ∷ id ∷ []
command_code command.Audit = 10 ∷ []

-- the code of a task: its index among the tasks, then its fields
abbrev pub task_code : Task → List ℕ
task_code (task.One c) = 0 ∷ command_code c
task_code (task.Trip customer asks) = 1 ∷ customer ∷ list_code ask_code asks
task_code (task.Leave customer) = 2 ∷ customer ∷ []
task_code (task.Update changes) = 3 ∷ list_code command_code changes

-- the index of a refusal among the refusals
abbrev pub why_place : Refusal → ℕ
why_place NeedsCountAndPrice = 0
why_place TotalLimit = 1
why_place Full = 2
why_place NoItem = 3
why_place NotFree = 4
why_place InUse = 5
why_place Exists = 6
why_place NoCustomer = 7
why_place SoldOut = 8
why_place NotBooked = 9
why_place UnitLimit = 10

-- the code of a refusal: its index
abbrev pub why_code : Refusal → List ℕ
why_code why = why_place why ∷ []

-- the code of a report: its nine numbers
abbrev pub report_code : Report → List ℕ
report_code r =
    r.cars ∷ r.flights ∷ r.rooms ∷ r.customers ∷ r.bookings
    ∷ r.used ∷ r.free ∷ r.total ∷ r.billed ∷ []

-- the code of what happened to a trip's customer: not created, created, or refused with the reason
abbrev pub joined_code : CustomerOutcome → List ℕ
joined_code joined.NotAsked = 0 ∷ []
joined_code joined.Added = 1 ∷ []
joined_code (joined.Refused why) = 2 ∷ why_code why

-- the code of a trip's pick of one kind, with the reason if it was not reserved
abbrev pub pick_code : Pick → List ℕ
pick_code p = p.id ∷ p.price ∷ option_code why_code p.refused

-- the code of a reply: its index among the replies, then its fields
abbrev pub reply_code : Reply → List ℕ
reply_code reply.Done = 0 ∷ []
reply_code (reply.Number n) = 1 ∷ option_code number_code n
reply_code (reply.Report r) = 2 ∷ report_code r
reply_code (reply.No why) = 3 ∷ why_code why
reply_code (reply.Trip r) = 4 ∷ joined_code r.joined ++ list_code (option_code pick_code) r.picks
reply_code (reply.Update r) = 5 ∷ r.len ∷ list_code (option_code why_code) r.refused

-- the code of a task, followed by the code of its reply
abbrev pub code : Task → Reply → List ℕ
code t r = task_code t ++ reply_code r
