-- The outcome of a task: of one command, or of a trip, a leave or an update, which are made of
-- commands. The kinds of task are those of STAMP's client; the picks of a trip are this product's
-- own.
use Rattle.std.specs.Prelude.{ℕ, ◌-◌, ◌||◌, Option, Some, None, is_some, List, [], ◌∷◌, ◌++◌, length, fold, replicate, nat_lt, ◌==◌, if◌then◌else◌}
use Rattle.vac_model.specs.declared.limits.TheConstants.{MOST_PARTS}
use Rattle.vac_model.specs.declared.items.Kind.{Kind}
use Rattle.vac_model.specs.declared.items.Kind.TheVariants.{Car, Flight, Room}
use Rattle.vac_model.specs.declared.commands.Command.{Command}
use Rattle.vac_model.specs.declared.commands.Command.TheVariants as command
use Rattle.vac_model.specs.declared.commands.Refusal.{Refusal}
use Rattle.vac_model.specs.declared.replies.Reply.{Reply}
use Rattle.vac_model.specs.declared.replies.Reply.TheVariants as reply
use Rattle.vac_model.specs.declared.replies.CustomerOutcome.{CustomerOutcome}
use Rattle.vac_model.specs.declared.replies.CustomerOutcome.TheVariants as joined
use Rattle.vac_model.specs.declared.replies.Pick.{Pick}
use Rattle.vac_model.specs.declared.tasks.Task.{Task}
use Rattle.vac_model.specs.declared.tasks.Task.TheVariants as task
use Rattle.vac_model.specs.State.{State, Place, bookings_of, bill_of, kind_number}
use Rattle.vac_model.specs.Step.{Outcome, step, when_found, number_answered, price_of}

-- the reason of a refusal, if the reply is one
abbrev pub refusal_of : Reply → Option Refusal
refusal_of reply.Done = None
refusal_of (reply.Number n) = None
refusal_of (reply.Report r) = None
refusal_of (reply.No why) = Some why
refusal_of (reply.Trip r) = None
refusal_of (reply.Update r) = None

-- a candidate for a booking: its id and its price
abbrev pub Choice : Type 0
Choice = ℕ × ℕ

-- the choice after the reply to one more ask: any price beats none, and a later price must be
-- strictly greater
abbrev pub dearer : Option Choice → ℕ → Option ℕ → Option Choice
dearer best id None = best
dearer None id (Some price) = Some (id, price)
dearer (Some best) id (Some price) = if nat_lt best.1 price then Some (id, price) else Some best

-- the first of the dearest items among the asks for one kind that are found; an item with no free
-- unit counts as found
abbrev pub choice_of : State → Kind → List Place → Option Choice
choice_of s kind asks =
    fold (λ best ask.
    if kind_number ask.0 == kind_number kind then dearer best ask.1 (price_of s ask.0 ask.1)
    else best) None asks

-- the outcome for the customer of a trip: created, or refused with the reason
abbrev pub joined_of : Reply → CustomerOutcome
joined_of reply.Done = joined.Added
joined_of (reply.Number n) = joined.Added
joined_of (reply.Report r) = joined.Added
joined_of (reply.No why) = joined.Refused why
joined_of (reply.Trip r) = joined.Added
joined_of (reply.Update r) = joined.Added

-- one unit of the choice of a kind is reserved, and a refusal is noted
abbrev pub reserve_choice : State → ℕ → Kind → Option Choice → State × Option Pick
reserve_choice s customer kind None = (s, None)
reserve_choice s customer kind (Some choice) =
    let outcome = step s (command.Reserve customer kind choice.0 1) in
    (outcome.0, Some (record { id = choice.0; price = choice.1; refused = refusal_of outcome.1 }))

-- NewCustomer is tried for the customer, and then the choice of each kind is reserved
abbrev pub book_choices : State → ℕ → Option Choice → Option Choice → Option Choice → Outcome
book_choices s customer car flight room =
    let asked = step s (command.NewCustomer customer) in
    let a = reserve_choice asked.0 customer Car car in
    let b = reserve_choice a.0 customer Flight flight in
    let c = reserve_choice b.0 customer Room room in
    (c.0, reply.Trip (record { joined = joined_of asked.1; picks = a.1 ∷ b.1 ∷ c.1 ∷ [] }))

-- a trip with its choices made; if nothing was chosen, nothing happens
abbrev pub trip_with : State → ℕ → Option Choice → Option Choice → Option Choice → Outcome
trip_with s customer car flight room =
    if is_some car || is_some flight || is_some room then book_choices s customer car flight room
    else (s, reply.Trip (record { joined = joined.NotAsked; picks = None ∷ None ∷ None ∷ [] }))

-- a trip books the dearest item of each kind among its asks
abbrev pub trip : State → ℕ → List Place → Outcome
trip s customer asks =
    trip_with s customer (choice_of s Car asks) (choice_of s Flight asks) (choice_of s Room asks)

-- a leave returns the bill of an existing customer and drops that customer
abbrev pub leave : State → ℕ → Outcome
leave s customer =
    when_found (bookings_of s customer) (number_answered s None) (λ bookings.
    number_answered (step s (command.DropCustomer customer)).0 (Some (bill_of bookings)))

-- the state after these commands, and for each command the reason of its refusal, if it was
-- refused
abbrev pub steps : State → List Command → State × List (Option Refusal)
steps s [] = (s, [])
steps s (c ∷ cs) =
    let first = step s c in
    let rest = steps first.0 cs in
    (rest.0, refusal_of first.1 ∷ rest.1)

-- an update makes its changes in order; a refusal is noted and the next change follows
abbrev pub update : State → List Command → Outcome
update s changes =
    let after = steps s changes in (
      after.0,
      reply.Update (record {
        len = length changes;
        refused = after.1 ++ replicate (MOST_PARTS - length changes) None;
      }),
    )

-- the outcome of a task
abbrev pub run : State → Task → Outcome
run s (task.One c) = step s c
run s (task.Trip customer asks) = trip s customer asks
run s (task.Leave customer) = leave s customer
run s (task.Update changes) = update s changes
