-- From each state of a generator, the words that a reader of tasks needs are drawn.
use Rattle.std.proofs.Common.{refl, ℕ, zero, suc, ◌+◌, ◌*◌, ◌==◌, ◌%◌, Bool, true, false, if◌then◌else◌, nat_lt, List}
use Rattle.std.proofs.Common.{[], ◌∷◌, ◌++◌, Some}
use Rattle.rand_pcg.specs.Lcg.{Lcg}
use Rattle.rand_pcg.specs.Pcg.{pcg32}
use Rattle.vac_model.specs.declared.items.Kind.{Kind}
use Rattle.vac_model.specs.declared.items.Kind.TheVariants.{Car, Flight, Room}
use Rattle.vac_model.specs.declared.commands.Command.TheVariants as command
use Rattle.vac_model.specs.declared.tasks.Task.TheVariants as task
use Rattle.vac_model.specs.declared.limits.TheConstants.{KINDS}
use Rattle.vac_model.specs.Coded.{kind_of_number}
use Rattle.load_tasks.specs.declared.settings.Settings.{Settings}
use Rattle.load_tasks.specs.declared.settings.TheConstants.{PERCENT, LEVELS, UNITS, PRICE_STEP, LOWEST_PRICE}
use Rattle.load_tasks.specs.Draws.{Reader, always, below, followed_by, joined, one, for_each, times_over, Drawn}
use Rattle.load_tasks.specs.Streams.{gives}
use Rattle.load_tasks.specs.Tasks.{up_to, kind, price, ask, drawn_trip, drawn_leave, removal, change_of, change}
use Rattle.load_tasks.specs.Tasks.{drawn_update}
use Rattle.load_tasks.specs.Tasks.{task_at, work, question_at, question, mixed_at, task_of, stock, stocks, customers}
use Rattle.load_tasks.specs.Tasks.{opening}
use Rattle.load_tasks.proofs.Drawing.{drawn_always, drawn_below, drawn_after}

abbrev pub IsTotal : {X : Type 0} → Reader X → Type 0
IsTotal {X} reader = (state : Lcg) → (x : X) × (last : Lcg) × Drawn gives reader state x last

always_total : {X : Type 0} (x : X) → IsTotal (always x)
always_total x = λ state. (x, state, drawn_always gives state x)

below_total : (n : ℕ) → IsTotal (below n)
below_total n = λ state. (
  (pcg32 state).0 % n,
  (pcg32 state).1,
  drawn_below gives n state (pcg32 state).0 (pcg32 state).1 refl,
)

after_total : {X Y : Type 0} (first : Reader X) (next : X → Reader Y) → IsTotal first → ((x : X) → IsTotal (next x)) →
    IsTotal (followed_by first next)
after_total first next p q = λ state.
    let a = p state in
    let b = q a.0 a.1 in
    (b.0, b.1, drawn_after gives first next state a.0 a.1 b.0 b.1 a.2 b.2)

then_total : {X Y : Type 0} (first : Reader X) (f : X → Y) → IsTotal first →
    IsTotal (followed_by first (λ x. always (f x)))
then_total first f p = after_total first (λ x. always (f x)) p (λ x. always_total (f x))

if_total : {X : Type 0} (b : Bool) (first second : Reader X) → IsTotal first → IsTotal second →
    IsTotal (if b then first else second)
if_total true first second p q = p
if_total false first second p q = q

pub joined_total : {X : Type 0} (first second : Reader (List X)) → IsTotal first → IsTotal second →
    IsTotal (joined first second)
joined_total first second p q = after_total first (λ xs. followed_by second (λ ys. always (xs ++ ys))) p
    (λ xs. then_total second (λ ys. xs ++ ys) q)

pub one_total : {X : Type 0} (reader : Reader X) → IsTotal reader → IsTotal (one reader)
one_total reader p = then_total reader (λ x. x ∷ []) p

for_each_total : {X : Type 0} (n : ℕ) (f : ℕ → Reader (List X)) → ((k : ℕ) → IsTotal (f k)) → IsTotal (for_each n f)
for_each_total zero f p = always_total []
for_each_total (suc n) f p = joined_total (for_each n f) (f (suc n)) (for_each_total n f p) (p (suc n))

pub times_total : {X : Type 0} (n : ℕ) (reader : Reader X) → IsTotal reader → IsTotal (times_over n reader)
times_total n reader p = for_each_total n (λ _. one reader) (λ k. one_total reader p)

up_to_total : (n : ℕ) → IsTotal (up_to n)
up_to_total n = then_total (below n) (λ k. k + 1) (below_total n)

kind_total : IsTotal kind
kind_total = then_total (below KINDS) kind_of_number (below_total KINDS)

price_total : IsTotal price
price_total = then_total (below LEVELS) (λ level. level * PRICE_STEP + LOWEST_PRICE) (below_total LEVELS)

ask_total : (s : Settings) → IsTotal (ask s)
ask_total s = after_total kind (λ k. followed_by (up_to s.items) (λ id. always (k, id))) kind_total
    (λ k. then_total (up_to s.items) (λ id. (k, id)) (up_to_total s.items))

trip_total : (s : Settings) → IsTotal (drawn_trip s)
trip_total s =
    after_total (up_to s.asks) (λ count. followed_by (up_to s.items)
    (λ customer. followed_by (times_over count (ask s)) (λ asks. always (task.Trip customer asks))))
    (up_to_total s.asks)
    (λ count. after_total (up_to s.items) (λ customer. followed_by (times_over count (ask s))
    (λ asks. always (task.Trip customer asks))) (up_to_total s.items)
    (λ customer. then_total (times_over count (ask s)) (λ asks. task.Trip customer asks)
    (times_total count (ask s) (ask_total s))))

leave_total : (s : Settings) → IsTotal (drawn_leave s)
leave_total s = then_total (up_to s.items) (λ customer. task.Leave customer) (up_to_total s.items)

change_of_total : (k : Kind) (id o : ℕ) → IsTotal (change_of k id o)
change_of_total k id o =
    if_total (o == 1) (followed_by price (λ p. always (command.Add k id UNITS (Some p)))) (always (removal k id))
    (then_total price (λ p. command.Add k id UNITS (Some p)) price_total) (always_total (removal k id))

change_total : (s : Settings) → IsTotal (change s)
change_total s =
    after_total kind (λ k. followed_by (up_to s.items) (λ id. followed_by (below 2) (λ o. change_of k id o))) kind_total
    (λ k. after_total (up_to s.items) (λ id. followed_by (below 2) (λ o. change_of k id o)) (up_to_total s.items)
    (λ id. after_total (below 2) (λ o. change_of k id o) (below_total 2) (λ o. change_of_total k id o)))

update_total : (s : Settings) → IsTotal (drawn_update s)
update_total s =
    after_total (up_to s.asks) (λ count. followed_by (times_over count (change s))
    (λ changes. always (task.Update changes)))
    (up_to_total s.asks)
    (λ count. then_total (times_over count (change s)) (λ changes. task.Update changes)
    (times_total count (change s) (change_total s)))

task_at_total : (s : Settings) (r : ℕ) → IsTotal (task_at s r)
task_at_total s r =
    if_total (nat_lt r s.user) (drawn_trip s) (if r % 2 == 1 then drawn_leave s else drawn_update s) (trip_total s)
    (if_total (r % 2 == 1) (drawn_leave s) (drawn_update s) (leave_total s) (update_total s))

work_total : (s : Settings) → IsTotal (work s)
work_total s = after_total (below PERCENT) (λ r. task_at s r) (below_total PERCENT) (λ r. task_at_total s r)

bill_total : (s : Settings) → IsTotal (followed_by (up_to s.items) (λ id. always (task.One (command.Bill id))))
bill_total s = then_total (up_to s.items) (λ id. task.One (command.Bill id)) (up_to_total s.items)

free_total : (s : Settings) → IsTotal (followed_by (ask s) (λ a. always (task.One (command.Free a.0 a.1))))
free_total s = then_total (ask s) (λ a. task.One (command.Free a.0 a.1)) (ask_total s)

price_of_total : (s : Settings) → IsTotal (followed_by (ask s) (λ a. always (task.One (command.Price a.0 a.1))))
price_of_total s = then_total (ask s) (λ a. task.One (command.Price a.0 a.1)) (ask_total s)

question_at_total : (s : Settings) (r : ℕ) → IsTotal (question_at s r)
question_at_total s r =
    if_total (r == 0) _ _ (always_total (task.One command.Audit))
    (if_total (r % 3 == 0) _ _ (bill_total s) (if_total (r % 3 == 1) _ _ (free_total s) (price_of_total s)))

question_total : (s : Settings) → IsTotal (question s)
question_total s = after_total (below PERCENT) (λ r. question_at s r) (below_total PERCENT) (λ r. question_at_total s r)

mixed_at_total : (s : Settings) (r : ℕ) → IsTotal (mixed_at s r)
mixed_at_total s r = if_total (nat_lt r s.reads) (question s) (work s) (question_total s) (work_total s)

pub task_total : (s : Settings) → IsTotal (task_of s)
task_total s =
    if_total (s.reads == 0) (work s) (followed_by (below PERCENT) (λ r. mixed_at s r)) (work_total s)
    (after_total (below PERCENT) (λ r. mixed_at s r) (below_total PERCENT) (λ r. mixed_at_total s r))

pub stock_total : (id : ℕ) (k : Kind) → IsTotal (stock id k)
stock_total id k =
    after_total (below LEVELS) (λ level. followed_by price (λ p. always
    (command.Add k id ((level + 1) * UNITS) (Some p) ∷ []))) (below_total LEVELS)
    (λ level. then_total price (λ p. command.Add k id ((level + 1) * UNITS) (Some p) ∷ []) price_total)

pub stocks_total : (id : ℕ) → IsTotal (stocks id)
stocks_total id =
    joined_total (joined (stock id Car) (stock id Flight)) (stock id Room)
    (joined_total (stock id Car) (stock id Flight) (stock_total id Car) (stock_total id Flight)) (stock_total id Room)

pub opening_total : (s : Settings) → IsTotal (opening s)
opening_total s = then_total (for_each s.items stocks) (λ items. items ++ customers s.items)
    (for_each_total s.items stocks stocks_total)
