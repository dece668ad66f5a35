-- The effects of the parts of a trip on a memory that holds a state, under every possible image.
use Rattle.std.specs.Prelude.{◌≡◌, ℕ, ◌+◌, ◌^◌, ◌<◌, List, Option, Some, None, IfSome, MatchOption, length, nat_lt, ◌||◌, Bool, is_some, if◌then◌else◌, true}
use Rattle.std.specs.Option.{option_map}
use Rattle.tx_memory.specs.View.{View, Sees, RestsOn}
use Rattle.vac_model.specs.declared.items.Kind.{Kind}
use Rattle.vac_model.specs.declared.items.Kind.TheVariants.{Car, Flight, Room}
use Rattle.vac_model.specs.declared.commands.Command.TheVariants as command
use Rattle.vac_model.specs.declared.replies.CustomerOutcome.{CustomerOutcome}
use Rattle.vac_model.specs.Amounts.{is_id}
use Rattle.vac_model.specs.State.{State, Place}
use Rattle.vac_model.specs.Step.{step, price_of}
use Rattle.vac_model.specs.Run.{choice_of, joined_of}
use Rattle.tx_alloc.specs.Pointer.{IsWithin}
use Rattle.vac_records.specs.Items.{mem}
use Rattle.vac_records.specs.Bookings.{place_key}
use Rattle.vac_records.specs.Customers.{head_of}
use Rattle.vac_records.specs.Represents.{IsState}
use Rattle.vac_records.specs.InMemory.{OnlyRead}
use Rattle.vac_tasks.specs.Entries.{item_block, customer_block, HasItemAt, ItemIsAt, CustomerIsAt, CustomerIsMissing, ItemsStay}
use Rattle.vac_tasks.specs.Starts.{MayStart, HasStart}
use Rattle.vac_tasks.specs.declared.trip.Choice.{Choice}
use Rattle.vac_tasks.specs.declared.trip.Choices.{Choices}
use Rattle.vac_tasks.specs.declared.trip.Owner.{Owner}
use Rattle.vac_tasks.specs.Runs.{Runs}

-- the id and the price of a choice
abbrev pub priced : Option Choice → Option (ℕ × ℕ)
priced None = None
priced (Some c) = Some (c.id, c.price)

-- the choice of a kind
abbrev pub choice_in : Choices → Kind → Option Choice
choice_in cs Car = cs.car
choice_in cs Flight = cs.flight
choice_in cs Room = cs.room

-- true if any item is chosen
abbrev pub any_chosen : Choices → Bool
any_chosen cs = is_some cs.car || is_some cs.flight || is_some cs.room

-- the dearer of two choices; the first one if both cost the same
abbrev pub dearer_of : Option Choice → Option Choice → Option Choice
dearer_of best None = best
dearer_of None (Some found) = Some found
dearer_of (Some best) (Some found) =
    if nat_lt best.price found.price then Some found else Some best

-- the choices after one more item of a kind was looked up
abbrev pub with_found : Choices → Kind → Option Choice → Choices
with_found cs Car found = record cs { car = dearer_of cs.car found }
with_found cs Flight found = record cs { flight = dearer_of cs.flight found }
with_found cs Room found = record cs { room = dearer_of cs.room found }

-- the choice is an item of this kind, in the recorded block and at the recorded price
pub record IsKnownItem (s : View) (kind : Kind) (c : Choice) : Type 0 where
  pub id : is_id c.id ≡ true
  pub at : HasItemAt s kind c.id c.item
  pub price : (image : List ℕ) (state : State) → Sees s image →
      IsState (mem s image) (length image) state → price_of state kind c.id ≡ Some c.price

-- each chosen item is of its kind, in the recorded block and at the recorded price
pub record AreKnownItems (s : View) (cs : Choices) : Type 0 where
  pub known : (kind : Kind) → IfSome (choice_in cs kind) (λ c. IsKnownItem s kind c)

-- under each possible image of the memory's size the choice is an item of this kind, in the
-- recorded block and at the recorded price (a booking requires this)
pub record ChoiceIsAt (s : View) (kind : Kind) (c : Choice) : Type 0 where
  pub id : is_id c.id ≡ true
  pub at : ItemIsAt s kind c.id c.item
  pub price : (image : List ℕ) (state : State) → RestsOn s image →
      IsState (mem s image) (length image) state → price_of state kind c.id ≡ Some c.price

-- under each possible image of the memory's size each chosen item is of its kind, in the recorded
-- block and at the recorded price
pub record ChoicesAreAt (s : View) (cs : Choices) : Type 0 where
  pub known : (kind : Kind) → IfSome (choice_in cs kind) (λ c. ChoiceIsAt s kind c)

-- the choice is an item of this kind, in the recorded block and at the recorded price, in one image
-- that represents a state
pub record IsPricedAt {m : ℕ → ℕ} {n : ℕ} {s : State} (h : IsState m n s) (kind : Kind)
    (c : Choice) : Type 0 where
  pub block : item_block h kind c.id ≡ c.item
  pub price : price_of s kind c.id ≡ Some c.price

-- the chosen item of a kind, if any, is in the recorded block and at the recorded price
abbrev pub IsChoiceAt : {m : ℕ → ℕ} {n : ℕ} {s : State} → IsState m n s → Kind → Option Choice →
    Type 0
IsChoiceAt h kind choice = IfSome choice (λ c. IsPricedAt h kind c)

-- all chosen items are in the recorded blocks and at the recorded prices
pub record AtChoices (cs : Choices) (m : ℕ → ℕ) (n : ℕ) (s : State) (h : IsState m n s) : Type 0
  where
    pub at : (kind : Kind) → IsChoiceAt h kind (choice_in cs kind)

-- only reads were made, and under each possible image the result is the item with its price, if
-- the item exists
pub record LookedUp (s s' : View) (kind : Kind) (id : ℕ) (found : Option Choice) : Type 0 where
  pub reads : OnlyRead s s'
  pub price : (image : List ℕ) (state : State) → Sees s' image →
      IsState (mem s image) (length image) state →
      price_of state kind id ≡ option_map (λ c. c.price) found
  pub asked : IfSome found (λ c. c.id ≡ id)
  pub known : IfSome found (λ c. IsKnownItem s' kind c)

-- only reads were made, and under each possible image the choices are those of the definition
pub record Chosen (s s' : View) (asks : List Place) (cs : Choices) : Type 0 where
  pub reads : OnlyRead s s'
  pub are : (image : List ℕ) (state : State) → Sees s' image →
      IsState (mem s image) (length image) state → (kind : Kind) →
      choice_of state kind asks ≡ priced (choice_in cs kind)
  pub known : AreKnownItems s' cs

-- the block of the customer, or none if the customer is missing
abbrev pub IsOwner : View → ℕ → Option ℕ → Type 0
IsOwner s id block =
    MatchOption block (CustomerIsMissing s id) (λ c. CustomerIsAt s id c)

-- the block of the customer in one image that represents a state, or none if the customer is
-- missing
abbrev pub IsOwnerAt : {m : ℕ → ℕ} {n : ℕ} {s : State} → IsState m n s → ℕ → Option ℕ → Type 0
IsOwnerAt h id block =
    MatchOption block (customer_block h id ≡ 0) (λ c. customer_block h id ≡ c)

-- the least key of a booking of the kind
abbrev pub first_key : Kind → ℕ
first_key kind = place_key (kind, 0)

-- the least key of a booking of the kind after this one
abbrev pub next_key : Kind → ℕ
next_key kind = first_key kind + 2 ^ 32

-- if the customer exists, a search for the key in the customer's list may start at the link
abbrev pub StartsAt : {m : ℕ → ℕ} {n : ℕ} {s : State} → IsState m n s → Option ℕ → ℕ → ℕ → Type 0
StartsAt h block link key =
    IfSome block (λ b. MayStart (head_of b) link key (h.represents.parts.lists b))

-- the customer and the chosen item of a kind are in these blocks, the item at its recorded price,
-- and a search for the customer's bookings of the kind may start at the link
pub record AtPick (id : ℕ) (block : Option ℕ) (kind : Kind) (choice : Option Choice) (link : ℕ)
    (m : ℕ → ℕ) (n : ℕ) (s : State) (h : IsState m n s) : Type 0 where
  pub owner : IsOwnerAt h id block
  pub chosen : IsChoiceAt h kind choice
  pub start : StartsAt h block link (first_key kind)

-- if the customer exists, then under each possible image of the memory's size a search for the key
-- in the customer's list may start at the link
abbrev pub CanStart : View → Option ℕ → ℕ → ℕ → Type 0
CanStart s block link key = IfSome block (λ b. HasStart s b link key)

-- if the customer exists, then under each possible image on which the memory represented a state
-- with the property P, a search for the key in the customer's list may now start at the link
pub record LeavesTurn (s s' : View) (block : Option ℕ) (link key : ℕ)
    (P : (m : ℕ → ℕ) (n : ℕ) (state : State) → IsState m n state → Type 0) : Type 0 where
  pub room : IfSome block (λ _. link < s'.size)
  pub at : (image : List ℕ) (state state' : State) → Sees s' image →
      (h : IsState (mem s image) (length image) state) → P (mem s image) (length image) state h →
      (h' : IsState (mem s' image) (length image) state') → StartsAt h' block link key

-- the state after NewCustomer was run for the customer, and the result for the trip
abbrev pub asked_to_join : ℕ → State → State × CustomerOutcome
asked_to_join id s =
    ((step s (command.NewCustomer id)).0, joined_of (step s (command.NewCustomer id)).1)

-- under each possible image NewCustomer was run for the customer, the result has the customer's
-- block, and the items are in the same blocks as before
pub record HasJoined (s s' : View) (id : ℕ) (owner : Owner) : Type 0 where
  pub runs : Runs s s' (asked_to_join id) owner.joined
  pub room : IsWithin s' owner.block
  pub seat : (image : List ℕ) (state state' : State) → Sees s' image →
      IsState (mem s image) (length image) state →
      (h' : IsState (mem s' image) (length image) state') → IsOwnerAt h' id owner.block
  pub items : ItemsStay s s'
