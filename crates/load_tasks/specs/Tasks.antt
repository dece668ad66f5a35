-- The tasks of a load and the commands of its setup phase, as they are read from drawn words.
use Rattle.std.specs.Prelude.{◌≡◌, ℕ, zero, suc, ◌+◌, ◌*◌, ◌%◌, ◌==◌, nat_lt, if◌then◌else◌}
use Rattle.std.specs.Prelude.{List, [], ◌∷◌, ◌++◌, Some, Result, IfOk}
use Rattle.std.specs.declared.alloc.AllocError.{AllocError}
use Rattle.vac_model.specs.declared.items.Kind.{Kind}
use Rattle.vac_model.specs.declared.items.Kind.TheVariants.{Car, Flight, Room}
use Rattle.vac_model.specs.declared.commands.Command.{Command}
use Rattle.vac_model.specs.declared.commands.Command.TheVariants as command
use Rattle.vac_model.specs.declared.tasks.Task.{Task}
use Rattle.vac_model.specs.declared.tasks.Task.TheVariants as task
use Rattle.vac_model.specs.declared.limits.TheConstants.{KINDS}
use Rattle.vac_model.specs.Coded.{kind_of_number}
use Rattle.load_tasks.specs.declared.settings.Settings.{Settings}
use Rattle.load_tasks.specs.declared.settings.TheConstants.{PERCENT, UNITS}
use Rattle.load_tasks.specs.declared.settings.TheConstants.{LEVELS, PRICE_STEP, LOWEST_PRICE}
use Rattle.load_tasks.specs.Draws.{Reader, always, below, followed_by, joined, for_each, times_over, Drawn}

-- reads a number from 1 to n
abbrev pub up_to : ℕ → Reader ℕ
up_to n = followed_by (below n) (λ k. always (k + 1))

-- reads a kind from one word
abbrev pub kind : Reader Kind
kind = followed_by (below KINDS) (λ n. always (kind_of_number n))

-- reads a price from one word: one of LEVELS prices, PRICE_STEP apart, from LOWEST_PRICE on
abbrev pub price : Reader ℕ
price = followed_by (below LEVELS) (λ level. always (level * PRICE_STEP + LOWEST_PRICE))

-- reads an ask of a trip: the kind, then the id
abbrev pub ask : Settings → Reader (Kind × ℕ)
ask s = followed_by kind (λ k. followed_by (up_to s.items) (λ id. always (k, id)))

-- reads a trip: the number of asks, the customer, then the asks
abbrev pub drawn_trip : Settings → Reader Task
drawn_trip s =
    followed_by (up_to s.asks) (λ count.
    followed_by (up_to s.items) (λ customer.
    followed_by (times_over count (ask s)) (λ asks.
    always (task.Trip customer asks))))

-- reads a leave: the customer
abbrev pub drawn_leave : Settings → Reader Task
drawn_leave s = followed_by (up_to s.items) (λ customer. always (task.Leave customer))

-- the command that takes an item away: a flight as a whole, of other items some units
abbrev pub removal : Kind → ℕ → Command
removal Car id = command.Delete Car id UNITS
removal Flight id = command.DropFlight id
removal Room id = command.Delete Room id UNITS

-- reads a change of an item: with 1 units are added, otherwise the item is taken away
abbrev pub change_of : Kind → ℕ → ℕ → Reader Command
change_of k id o =
    if o == 1 then followed_by price (λ p. always (command.Add k id UNITS (Some p)))
    else always (removal k id)

-- reads a change of an update: the kind, the id, then the direction of the change
abbrev pub change : Settings → Reader Command
change s = followed_by kind
    (λ k. followed_by (up_to s.items) (λ id. followed_by (below 2) (λ o. change_of k id o)))

-- reads an update with this number of changes
abbrev pub update_of : Settings → ℕ → Reader Task
update_of s count =
    followed_by (times_over count (change s)) (λ changes. always (task.Update changes))

-- reads an update: the number of changes, then the changes
abbrev pub drawn_update : Settings → Reader Task
drawn_update s = followed_by (up_to s.asks) (λ count. update_of s count)

-- reads the task that a number below 100 selects
abbrev pub task_at : Settings → ℕ → Reader Task
task_at s r =
    if nat_lt r s.user then drawn_trip s
    else if r % 2 == 1 then drawn_leave s
    else drawn_update s

-- reads a task that is no question
abbrev pub work : Settings → Reader Task
work s = followed_by (below PERCENT) (λ r. task_at s r)

-- reads the question that a number below 100 selects: one number in a hundred gives an audit; the
-- others ask for a customer's bill, and for the free units or the price of an item
abbrev pub question_at : Settings → ℕ → Reader Task
question_at s r =
    if r == 0 then always (task.One command.Audit)
    else if r % 3 == 0 then followed_by (up_to s.items) (λ id. always (task.One (command.Bill id)))
    else if r % 3 == 1 then followed_by (ask s) (λ a. always (task.One (command.Free a.0 a.1)))
    else followed_by (ask s) (λ a. always (task.One (command.Price a.0 a.1)))

-- reads a question
abbrev pub question : Settings → Reader Task
question s = followed_by (below PERCENT) (λ r. question_at s r)

-- reads a task if the settings have questions: a number below 100 decides between a question and
-- another task
abbrev pub mixed_at : Settings → ℕ → Reader Task
mixed_at s r = if nat_lt r s.reads then question s else work s

-- reads a task; if the settings have no questions, no word is drawn to choose between questions
-- and other tasks
abbrev pub task_of : Settings → Reader Task
task_of s = if s.reads == 0 then work s else followed_by (below PERCENT) (λ r. mixed_at s r)

-- exactly the words of one task were drawn, and the built task is that task. If building was
-- refused, the same words were drawn
pub record DrawnTask {D E : Type 0} (leads : D → ℕ → D → Type 0) (reader : Reader Task)
    (state : D) (result : Result Task E) (last : D) : Type 0 where
  pub task : Task
  pub drawn : Drawn leads reader state task last
  pub built : IfOk result (λ t. t ≡ task)

-- tasks are drawn one after the other, n in all, each with this result; no other word is drawn
abbrev pub Turns : {D E : Type 0} → (D → ℕ → D → Type 0) → Settings
    → ℕ → D → List (Result Task E) → D → Type 0
Turns leads s n state [] last = (n ≡ 0) × (last ≡ state)
Turns {D} leads s n state (item ∷ items) last =
    (left : ℕ) × (next : D)
    × ((n ≡ left + 1) × DrawnTask leads (task_of s) state item next)
    × Turns leads s left next items last

-- each item that was built is the task at its position
abbrev pub AreBuilt : {E : Type 0} → List (Result Task E) → List Task → Type 0
AreBuilt [] [] = Unit {0}
AreBuilt [] (t ∷ ts) = ⊥
AreBuilt (item ∷ items) [] = ⊥
AreBuilt (item ∷ items) (t ∷ ts) = IfOk item (λ built. built ≡ t) × AreBuilt items ts

-- exactly the words of n tasks were drawn, and the items are those tasks as far as they were built
pub record AreTasksOf {D E : Type 0} (leads : D → ℕ → D → Type 0) (s : Settings)
    (n : ℕ) (state : D) (items : List (Result Task E)) (last : D) : Type 0 where
  pub tasks : List Task
  pub drawn : Drawn leads (times_over n (task_of s)) state tasks last
  pub built : AreBuilt items tasks

-- tasks that are drawn one after the other are the tasks of the words that are drawn
abbrev pub TurnsMakeTasks : {D : Type 0} → (D → ℕ → D → Type 0) → Type 0
TurnsMakeTasks {D} leads =
    (s : Settings) (n : ℕ) (a b : D) (items : List (Result Task AllocError))
    → Turns leads s n a items b → AreTasksOf leads s n a items b

-- reads the command that adds an item in the setup phase: the number of units, then the price
abbrev pub stock : ℕ → Kind → Reader (List Command)
stock id k =
    followed_by (below LEVELS) (λ level.
    followed_by price (λ p.
    always (command.Add k id ((level + 1) * UNITS) (Some p) ∷ [])))

-- reads the commands that add an item of each kind with this id
abbrev pub stocks : ℕ → Reader (List Command)
stocks id = joined (joined (stock id Car) (stock id Flight)) (stock id Room)

-- the commands that make the customers 1 to n, in this order
abbrev pub customers : ℕ → List Command
customers zero = []
customers (suc n) = customers n ++ (command.NewCustomer (suc n) ∷ [])

-- reads the commands of the setup phase: the items of each id, then the customers
abbrev pub opening : Settings → Reader (List Command)
opening s = followed_by (for_each s.items stocks) (λ items. always (items ++ customers s.items))
