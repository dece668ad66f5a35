-- The customer of a trip, and the bookings.
use Rattle.std.proofs.Common.{◌≡◌, ◌≢◌, ℕ, ◌+◌, ◌<◌, ◌≤◌, ◌^◌, List, [], ◌∷◌, length, Option, Some, None, Bool}
use Rattle.std.proofs.Common.{true, false, refl, sym, ap, ◌∙◌, subst, inl, inr, arith}
use Rattle.std.specs.Prelude.{◌≡◌, IfSome, is_some, ◌||◌, if◌then◌else◌, true}
use Rattle.std.proofs.lemmas.Bool.{cases_lt}
use Rattle.std.specs.FinMap.{empty}
use Rattle.tx_memory.specs.View.{View, Sees, RestsOn, Kept}
use Rattle.std.specs.Option.{option_map}
use Rattle.vac_model.specs.declared.items.Kind.{Kind}
use Rattle.vac_model.specs.declared.items.Item.{Item}
use Rattle.vac_model.specs.declared.items.Kind.TheVariants.{Car, Flight, Room}
use Rattle.vac_model.specs.declared.commands.Command.TheVariants as command
use Rattle.vac_model.specs.declared.commands.Refusal.{Refusal}
use Rattle.vac_model.specs.declared.commands.Refusal.TheVariants.{Full, Exists, NoCustomer}
use Rattle.vac_model.specs.declared.replies.Reply.{Reply}
use Rattle.vac_model.specs.declared.replies.Reply.TheVariants as reply
use Rattle.vac_model.specs.declared.replies.CustomerOutcome.TheVariants.{Added, Refused, NotAsked}
use Rattle.vac_model.specs.declared.replies.Pick.{Pick}
use Rattle.vac_model.specs.declared.tasks.Task.TheVariants as task
use Rattle.vac_model.specs.State.{State, Place, Bookings, bookings_of, with_bookings, is_full}
use Rattle.vac_model.specs.Step.{Outcome, step, when_found, refused, done, price_of}
use Rattle.vac_model.specs.Amounts.{is_id}
use Rattle.vac_model.specs.Ranges.{is_command}
use Rattle.vac_model.specs.Run.{joined_of, refusal_of, choice_of, reserve_choice, book_choices, trip_with, trip}
use Rattle.vac_model.proofs.Balance.{some_same}
use Rattle.vac_model.proofs.Refused.{step_untouched}
use Rattle.vac_records.specs.Items.{mem}
use Rattle.vac_records.specs.Bookings.{place_key}
use Rattle.vac_records.specs.Customers.{head_of}
use Rattle.tx_alloc.specs.Pointer.{IsWithin}
use Rattle.tx_alloc.specs.Rows.{Rows}
use Rattle.vac_records.specs.Steps.{kept_none, kept_both, stood}
use Rattle.vac_records.specs.Represents.{IsState}
use Rattle.vac_records.specs.InMemory.{HoldsState, OnlyRead}
use Rattle.vac_records.proofs.Customers.{customer_found, customer_missing}
use Rattle.vac_records.proofs.Items.{item_found}
use Rattle.vac_records.proofs.Single.{one_state}
use Rattle.vac_tasks.specs.Entries.{item_block, customer_block, LacksCustomer, HasCustomerAt, ItemsStay}
use Rattle.vac_tasks.specs.CustomerSteps.{RanOn, ItemsStayOn, HasSeat}
use Rattle.vac_tasks.specs.BookingSteps.{Lands, HasPriceAt, AtPrice, ServesCommand, served_reply}
use Rattle.vac_tasks.specs.Starts.{MayStart, AtStart, HasStart, LeavesStart}
use Rattle.vac_tasks.specs.Ran.{IsOutcome, Ran, joining}
use Rattle.vac_tasks.specs.declared.trip.Choice.{Choice}
use Rattle.vac_tasks.specs.declared.trip.Choices.{Choices}
use Rattle.vac_tasks.specs.declared.trip.Owner.{Owner}
use Rattle.vac_tasks.specs.RanTask.{RanTask}
use Rattle.vac_tasks.specs.Runs.{Runs, RunsWhere, BlocksStay}
use Rattle.vac_tasks.specs.Trips.{priced, choice_in, any_chosen, IsKnownItem, AreKnownItems, ChoiceIsAt, ChoicesAreAt}
use Rattle.vac_tasks.specs.Trips.{first_key, next_key, StartsAt, CanStart, LeavesTurn}
use Rattle.vac_tasks.specs.Trips.{IsPricedAt, IsChoiceAt, AtChoices, Chosen, IsOwner, IsOwnerAt, AtPick}
use Rattle.vac_tasks.specs.Trips.{asked_to_join, HasJoined}
use Rattle.vac_tasks.proofs.Held.{read_none, state_on, customer_is, customer_none, items_stay_reads}
use Rattle.vac_tasks.proofs.Held.{customers_stay_reads, item_found_at, item_at_stays, customer_at_stays}
use Rattle.vac_tasks.proofs.Serving.{outcome_lands, item_lands, customer_lands}
use Rattle.vac_tasks.proofs.Pricing.{reserve_keeps, new_customer_keeps}
use Rattle.vac_tasks.proofs.Starting.{start_later}
use Rattle.vac_tasks.proofs.Staying.{start_head, has_head, lists_one}
use Rattle.vac_tasks.proofs.Billing.{ran_missing}
use Rattle.vac_tasks.proofs.Parts.{outcome_is, held_runs}

-- what a step without an effect and with this answer is
pub runs_same : {A : Type 0} (s s' : View) (f : State → State × A) (a : A) → OnlyRead s s' →
    ((image : List ℕ) (state : State) → Sees s' image → IsState (mem s image) (length image) state →
    f state ≡ (state, a)) → Runs s s' f a
runs_same {A} s s' f a reads e = record {
  kept = reads.kept;
  state = λ image state i h.
      subst (λ (o : State × A). IsState (mem s' image) (length image) o.0) (sym (e image state i h))
      (state_on s s' image state reads.writes h);
  answer = λ image state i h. ap (λ (o : State × A). o.1) (e image state i h);
}

exists_step : (state : State) (id : ℕ) (b : Bookings) → bookings_of state id ≡ Some b →
    step state (command.NewCustomer id) ≡ (state, reply.No Exists)
exists_step state id b e =
    ap (λ (o : Option Bookings). when_found o (if is_full state then refused state Full else done
    (with_bookings state id empty)) (λ _. refused state Exists)) e

joined_step : (state : State) (id : ℕ) (r : Reply) → step state (command.NewCustomer id) ≡ (state, r) →
    asked_to_join id state ≡ (state, joined_of r)
joined_step state id r e = ap (λ (o : Outcome). (o.0, joined_of o.1)) e

-- the customer is there
pub joined_there : (s s' : View) (id : ℕ) (c : ℕ) → OnlyRead s s' → HasCustomerAt s' id c →
    HasJoined s s' id (record { joined = Refused Exists; block = Some c })
joined_there s s' id c reads at = record {
  runs = runs_same s s' (asked_to_join id) (Refused Exists) reads (λ image state i h.
      let b = customer_is s' id c at image state i (state_on s s' image state reads.writes h) in
      joined_step state id (reply.No Exists) (exists_step state id b.bookings b.there));
  room = at.inside;
  seat = λ image state state' i h h'. at.at image state' i h';
  items = items_stay_reads s s' reads;
}

-- what a command did after reads
runs_joined : (s s1 s2 : View) (id : ℕ) (added : Option ℕ) → OnlyRead s s1 →
    Ran s1 s2 (command.NewCustomer id) (joining added) →
    Runs s s2 (asked_to_join id) (joined_of (joining added))
runs_joined s s1 s2 id added reads ran = record {
  kept = kept_both s s1 s2 reads.kept ran.kept;
  state = λ image state i h. (ran.outcome image state i (state_on s s1 image state reads.writes h)).state;
  answer = λ image state i h. ap joined_of (ran.outcome image state i
      (state_on s s1 image state reads.writes h)).reply_is;
}

items_after : (s s1 s2 : View) → OnlyRead s s1 → Kept s1 s2 → ItemsStay s1 s2 → ItemsStay s s2
items_after s s1 s2 reads kept stays = record {
  stay = λ image state state' i h h' kind id.
      let h1 = state_on s s1 image state reads.writes h in
      stays.stay image state state' i h1 h' kind id ∙ (items_stay_reads s s1 reads).stay image state state
      (kept.seen image i) h h1 kind id;
}

-- the customer was missing, so items stay under all images
items_missing : (s s' : View) (id : ℕ) → LacksCustomer s id → Kept s s' → ItemsStayOn s s' id 0 → ItemsStay s s'
items_missing s s' id lacks kept stays = record {
  stay = λ image state state' i h h' kind item. stays.stay image state state' i h
      (lacks.none image state (kept.seen image i) h) h' kind item;
}

-- the customer is new
pub joined_new : (s s1 s2 : View) (id : ℕ) (c : ℕ) → OnlyRead s s1 → LacksCustomer s1 id →
    RanOn s1 s2 id 0 (command.NewCustomer id) (joining (Some c)) → HasSeat s1 s2 id c →
    ItemsStayOn s1 s2 id 0 → HasJoined s s2 id (record { joined = Added; block = Some c })
joined_new s s1 s2 id c reads lacks ran at stays = record {
  runs = runs_joined s s1 s2 id (Some c) reads (ran_missing s1 s2 id (command.NewCustomer id)
      (joining (Some c)) lacks ran);
  room = at.inside;
  seat = λ image state state' i h h'.
      let h1 = state_on s s1 image state reads.writes h in
      at.at image state state' i h1 (lacks.none image state (ran.kept.seen image i) h1) h';
  items = items_after s s1 s2 reads ran.kept (items_missing s1 s2 id lacks ran.kept stays);
}

-- a customer without bookings in the state has no block
no_block : (m : ℕ → ℕ) (n id : ℕ) (state : State) (h : IsState m n state) → bookings_of state id ≡ None →
    customer_block h id ≡ 0
no_block m n id state h none =
    elim (cases_lt 0 (customer_block h id)) [
      | inl above ↦
          let some : customer_block h id ≢ 0 = omega (arith, above) in
          let there = (customer_found m n [] state h.represents id (customer_block h id) refl some).there in
          absurd (let never : ◌≡◌ {A = Option Bookings} None (Some _) = sym none ∙ there in cc)
      | inr below ↦ omega (arith, below)
    ]

-- no block was left, and the customer is missing as before
lacks_full : (s s' : View) (id : ℕ) → LacksCustomer s id → Ran s s' (command.NewCustomer id) (reply.No Full) →
    (image : List ℕ) (state state' : State) → Sees s' image → IsState (mem s image) (length image) state →
    (h' : IsState (mem s' image) (length image) state') → customer_block h' id ≡ 0
lacks_full s s' id l ran image state state' i h h' =
    let o = ran.outcome image state i h in
    let same = step_untouched state (command.NewCustomer id) Full o.reply_is in
    let after = subst (λ (x : State). IsState (mem s' image) (length image) x) same o.state in
    let one = one_state (mem s' image) (length image) [] [] state state' after.represents h'.represents in
    let none = customer_none s id l image state (ran.kept.seen image i) h in
    no_block (mem s' image) (length image) id state' h' (subst (λ (x : State). bookings_of x id ≡ None) one none)

pub joined_full : (s s1 s2 : View) (id : ℕ) → OnlyRead s s1 → LacksCustomer s1 id →
    RanOn s1 s2 id 0 (command.NewCustomer id) (joining None) →
    ItemsStayOn s1 s2 id 0 → HasJoined s s2 id (record { joined = Refused Full; block = None })
joined_full s s1 s2 id reads l v stays =
    let ran = ran_missing s1 s2 id (command.NewCustomer id) (joining None) l v in
    record {
      runs = runs_joined s s1 s2 id None reads ran;
      room = tt;
      seat = λ image state state' i h h'. lacks_full s1 s2 id l ran image state state' i
          (state_on s s1 image state reads.writes h) h';
      items = items_after s s1 s2 reads ran.kept (items_missing s1 s2 id l ran.kept stays);
    }

-- a booking for a customer who is missing
no_customer : (state : State) (id : ℕ) (kind : Kind) (item : ℕ) → bookings_of state id ≡ None →
    step state (command.Reserve id kind item 1) ≡ (state, reply.No NoCustomer)
no_customer state id kind item none = rw none refl

-- what an effect of a pick is, where the item is priced so
abbrev picks : ℕ → Kind → Option Choice → State → State × Option Pick
picks id kind o state = reserve_choice state id kind (priced o)

-- nothing was chosen
pub reserved_none : (s : View) (id : ℕ) (block : Option ℕ) (kind : Kind) (o : Option Choice) (link : ℕ) → o ≡ None →
    RunsWhere s s (picks id kind o) None (AtPick id block kind o link)
reserved_none s id block kind o link e = rw e (record {
  kept = kept_none s;
  state = λ image state i h p. h;
  answer = λ image state i h p. refl;
})

pub reserved_missing : (s : View) (id : ℕ) (kind : Kind) (block : Option ℕ) (o : Option Choice) (c : Choice)
    (link : ℕ) → o ≡ Some c → block ≡ None →
    RunsWhere s s (picks id kind o) (Some (record { id = c.id; price = c.price; refused = Some NoCustomer }))
    (AtPick id block kind o link)
reserved_missing s id kind block o c link e none =
    let pick : Option Pick = Some (record { id = c.id; price = c.price; refused = Some NoCustomer }) in
    let step : (image : List ℕ) (state : State) (h : IsState (mem s image) (length image) state) →
    customer_block h id ≡ 0 → picks id kind (Some c) state ≡ (state, pick) = λ image state h at.
    let gone = customer_missing (mem s image) (length image) [] state h.represents id at in
    ap (λ (o : Outcome). (o.0, Some (record { id = c.id; price = c.price; refused = refusal_of o.1 })))
    (no_customer state id kind c.id gone) in
    rw (e, none) (record {
      kept = kept_none s;
      state = λ image state i h p. subst (λ (o : State × Option Pick). IsState (mem s image) (length image) o.0)
          (sym (step image state h p.owner)) h;
      answer = λ image state i h p. ap (λ (o : State × Option Pick). o.1) (step image state h p.owner);
    })

pub blocks_same : (s : View) (P : (m : ℕ → ℕ) (n : ℕ) (state : State) → IsState m n state → Type 0) → BlocksStay s s P
blocks_same s P = record {
  items = λ image state state' i h p h' kind id. (items_stay_reads s s (read_none s)).stay image state state' i h h'
      kind id;
  customers = λ image state state' i h p h' id. (customers_stay_reads s s (read_none s)).stay image state state' i h h'
      id;
}

-- bookings of a kind come after the first key of the kind, and before the next kind's
key_after : (kind : Kind) (id : ℕ) → first_key kind ≤ place_key (kind, id)
key_after kind id = omega arith

key_before : (kind : Kind) (id : ℕ) → id < 2 ^ 32 → place_key (kind, id) + 1 ≤ next_key kind
key_before kind id small = omega (arith, small)

first_before : (kind : Kind) → first_key kind ≤ next_key kind
first_before kind = omega arith

-- the word of a priced choice
word_priced : (m : ℕ → ℕ) (n : ℕ) (state : State) (h : IsState m n state) (kind : Kind) (c : Choice) →
    IsPricedAt h kind c → c.item ≢ 0 → m (c.item + 7) ≡ c.price
word_priced m n state h kind c at some =
    let found = item_found m n [] state h.represents kind c.id c.item (record { at = at.block; some = some }) in
    some_same (m (c.item + 7)) c.price
    (sym (ap (λ (o : Option Item). option_map (λ item. item.price) o) found) ∙ at.price)

-- a choice that can be booked has its price
pub has_price : (s : View) (kind : Kind) (c : Choice) → HoldsState s → ChoiceIsAt s kind c →
    HasPriceAt s c.item c.price
has_price s kind c held k = record {
  at = λ image i. (let t = held.under image i in
      word_priced (mem s image) (length image) t.0 t.1 kind c
      (record { block = k.at.at image t.0 i t.1; price = k.price image t.0 i t.1 }) k.at.some);
}

-- where the pick's customer and item stand in the blocks, the command was run
pick_here : (m : ℕ → ℕ) (n : ℕ) (state : State) (h : IsState m n state) (id : ℕ) (kind : Kind) (block : Option ℕ)
    (o : Option Choice) (b : ℕ) (c : Choice) (link : ℕ) → block ≡ Some b → o ≡ Some c → b ≢ 0 → c.item ≢ 0 →
    c.id < 2 ^ 32 → AtPick id block kind o link m n state h →
    AtPrice c.item c.price (AtStart id b kind c.id c.item link) m n state h
pick_here m n state h id kind block o b c link is_b is_c b_some c_some small p =
    let at : IsPricedAt h kind c = subst (λ (x : Option Choice). IsChoiceAt h kind x) is_c p.chosen in
    record {
      there = record {
        here = record {
          owner_is = subst (λ (x : Option ℕ). IsOwnerAt h id x) is_b p.owner;
          owner_some = b_some;
          item_is = at.block;
          item_some = c_some;
          small = small;
        };
        start = start_later (head_of b) link (first_key kind) (place_key (kind, c.id)) (h.represents.parts.lists b)
            (key_after kind c.id) (subst (λ (x : Option ℕ). StartsAt h x link (first_key kind)) is_b p.start);
      };
      price_is = word_priced m n state h kind c at c_some;
    }

-- the customer's list is searched for an item of the kind from where it may be searched for the kind
pub has_later : (s : View) (b link : ℕ) (kind : Kind) (id : ℕ) → HasStart s b link (first_key kind) →
    HasStart s b link (place_key (kind, id))
has_later s b link kind id t = record {
  room = t.room;
  at = λ image state i h. start_later (head_of b) link (first_key kind) (place_key (kind, id))
      (h.represents.parts.lists b) (key_after kind id) (t.at image state i h);
}

-- nothing was done for a kind, so the next kind may be searched from the same link
pub turn_same : (s : View) (id : ℕ) (block : Option ℕ) (kind : Kind) (o : Option Choice) (link : ℕ) →
    IsOwner s id block → CanStart s block link (first_key kind) →
    LeavesTurn s s block link (next_key kind) (AtPick id block kind o link)
turn_same s id None kind o link at can = record { room = tt; at = λ image state state' i h p h'. tt }
turn_same s id (Some b) kind o link at can = record {
  room = can.room;
  at = λ image state state' i h p h'.
      let e = lists_one (mem s image) (length image) state state' h h' id b p.owner at.some in
      subst (λ (rs : Rows). MayStart (head_of b) link (next_key kind) rs) (sym e)
      (start_later (head_of b) link (first_key kind) (next_key kind) (h.represents.parts.lists b)
      (first_before kind) p.start);
}

pub reserve_range : (id : ℕ) (kind : Kind) (item : ℕ) → is_id id ≡ true → is_id item ≡ true →
    is_command (command.Reserve id kind item 1) ≡ true
reserve_range id kind item a b = rw (a, b) refl

-- the refusal of a reply that was made of a refusal
refusal_back : (why : Option Refusal) → refusal_of (served_reply why) ≡ why
refusal_back None = refl
refusal_back (Some why) = refl

pub reserved : (s s' : View) (id : ℕ) (kind : Kind) (block : Option ℕ) (o : Option Choice) (b : ℕ) (c : Choice)
    (link : ℕ) (why : Option Refusal) → block ≡ Some b → o ≡ Some c → b ≢ 0 → c.item ≢ 0 → c.id < 2 ^ 32 →
    is_command (command.Reserve id kind c.id 1) ≡ true →
    ServesCommand s s' (command.Reserve id kind c.id 1) (served_reply why)
    (AtPrice c.item c.price (AtStart id b kind c.id c.item link)) →
    RunsWhere s s' (picks id kind o) (Some (record { id = c.id; price = c.price; refused = why }))
    (AtPick id block kind o link)
reserved s s' id kind block o b c link why is_b is_c b_some c_some small range v =
    let r = served_reply why in
    let out : (image : List ℕ) (state : State) → Sees s' image → (h : IsState (mem s image) (length image) state) →
    AtPick id block kind o link (mem s image) (length image) state h →
    IsOutcome (mem s' image) (length image) (step state (command.Reserve id kind c.id 1)) r = λ image state i h p.
    let e = pick_here (mem s image) (length image) state h id kind block o b c link is_b is_c b_some c_some small p in
    outcome_lands (mem s image) (mem s' image) (length image) state (command.Reserve id kind c.id 1) r h range
    (v.lands image state i h e) in
    record {
      kept = v.kept;
      state = λ image state i h p. rw is_c (out image state i h p).state;
      answer = λ image state i h p. rw is_c (ap (λ (x : Reply). Some
          (record { id = c.id; price = c.price; refused = refusal_of x })) (out image state i h p).reply_is ∙
          ap (λ (x : Option Refusal). Some (record { id = c.id; price = c.price; refused = x })) (refusal_back why));
    }

pub reserved_stays : (s s' : View) (id : ℕ) (kind : Kind) (block : Option ℕ) (o : Option Choice) (b : ℕ) (c : Choice)
    (link : ℕ) (r : Reply) → block ≡ Some b → o ≡ Some c → b ≢ 0 → c.item ≢ 0 → c.id < 2 ^ 32 →
    ServesCommand s s' (command.Reserve id kind c.id 1) r
    (AtPrice c.item c.price (AtStart id b kind c.id c.item link)) →
    BlocksStay s s' (AtPick id block kind o link)
reserved_stays s s' id kind block o b c link r is_b is_c b_some c_some small v =
    let lands : (image : List ℕ) (state : State) → Sees s' image → (h : IsState (mem s image) (length image) state) →
    AtPick id block kind o link (mem s image) (length image) state h →
    Lands h (mem s' image) (command.Reserve id kind c.id 1) r = λ image state i h p.
    v.lands image state i h (pick_here (mem s image) (length image) state h id kind block o b c link is_b is_c b_some
    c_some small p) in
    record {
      items = λ image state state' i h p h' kind' id'. item_lands (mem s image) (mem s' image)
          (length image) state state' (command.Reserve id kind c.id 1) r h h' (lands image state i h p) kind' id';
      customers = λ image state state' i h p h' id'. customer_lands (mem s image) (mem s' image)
          (length image) state state' (command.Reserve id kind c.id 1) r h h' (lands image state i h p) id';
    }

-- the next kind may be searched from where the booking left the link
pub reserved_turn : (s s' : View) (id : ℕ) (kind : Kind) (block : Option ℕ) (o : Option Choice) (b : ℕ) (c : Choice)
    (link link' : ℕ) → block ≡ Some b → o ≡ Some c → b ≢ 0 → c.item ≢ 0 → c.id < 2 ^ 32 →
    LeavesStart s s' b link' (place_key (kind, c.id) + 1)
    (AtPrice c.item c.price (AtStart id b kind c.id c.item link)) →
    LeavesTurn s s' block link' (next_key kind) (AtPick id block kind o link)
reserved_turn s s' id kind block o b c link link' is_b is_c b_some c_some small v = record {
  room = subst (λ (x : Option ℕ). IfSome x (λ _. link' < s'.size)) (sym is_b) v.room;
  at = λ image state state' i h p h'.
      let e = pick_here (mem s image) (length image) state h id kind block o b c link is_b is_c b_some c_some small p in
      subst (λ (x : Option ℕ). StartsAt h' x link' (next_key kind)) (sym is_b)
      (start_later (head_of b) link' (place_key (kind, c.id) + 1) (next_key kind) (h'.represents.parts.lists b)
      (key_before kind c.id small) (v.at image state state' i h e h'));
}

-- a part of a task that keeps the prices of items
abbrev pub KeepsPrices : {A : Type 0} → (State → State × A) → Type 0
KeepsPrices f = (state : State) (kind : Kind) (id : ℕ) → price_of (f state).0 kind id ≡ price_of state kind id

joins_keep : (id : ℕ) → KeepsPrices (asked_to_join id)
joins_keep id state kind item = new_customer_keeps state id kind item

pub picks_keep : (id : ℕ) (kind : Kind) (o : Option Choice) → KeepsPrices (picks id kind o)
picks_keep id kind None state k i = refl
picks_keep id kind (Some c) state k i = reserve_keeps state id kind c.id 1 k i

-- the prices in the one state that the memory represents afterwards
prices_after : {A : Type 0} (f : State → State × A) (m : ℕ → ℕ) (n : ℕ) (state state' : State) → KeepsPrices f →
    IsState m n (f state).0 → IsState m n state' → (kind : Kind) (id : ℕ) →
    price_of state' kind id ≡ price_of state kind id
prices_after f m n state state' keeps h h' kind id =
    ap (λ (x : State). price_of x kind id) (sym (one_state m n [] [] (f state).0 state' h.represents h'.represents))
    ∙ keeps state kind id

-- what is known of a state's blocks and prices is known of another one's that has them
choice_moves : {m m' : ℕ → ℕ} {n n' : ℕ} {s s' : State} → (h : IsState m n s) (h' : IsState m' n' s') (kind : Kind)
    (o : Option Choice) → ((kind : Kind) (id : ℕ) → item_block h' kind id ≡ item_block h kind id) →
    ((kind : Kind) (id : ℕ) → price_of s' kind id ≡ price_of s kind id) → IsChoiceAt h kind o → IsChoiceAt h' kind o
choice_moves h h' kind None same prices at = tt
choice_moves h h' kind (Some c) same prices at = record {
  block = same kind c.id ∙ at.block;
  price = prices kind c.id ∙ at.price;
}

owner_moves : {m m' : ℕ → ℕ} {n n' : ℕ} {s s' : State} → (h : IsState m n s) (h' : IsState m' n' s') (id : ℕ)
    (block : Option ℕ) → ((id : ℕ) → customer_block h' id ≡ customer_block h id) → IsOwnerAt h id block →
    IsOwnerAt h' id block
owner_moves h h' id None same at = same id ∙ at
owner_moves h h' id (Some c) same at = same id ∙ at

-- a memory on which what was chosen can be booked, and the customer's list can be searched from the link on
pub record Ready (s : View) (id : ℕ) (block : Option ℕ) (cs : Choices) (link key : ℕ) : Type 0 where
  pub state : HoldsState s
  pub owner : IsOwner s id block
  pub known : ChoicesAreAt s cs
  pub start : CanStart s block link key

-- what is so at the size is so of each state there
owner_at : (s : View) (id : ℕ) (block : Option ℕ) → IsOwner s id block → (image : List ℕ) (state : State) →
    RestsOn s image → (h : IsState (mem s image) (length image) state) → IsOwnerAt h id block
owner_at s id None l image state i h = l.none image state i h
owner_at s id (Some c) at image state i h = at.at image state i h

choice_at : (s : View) (kind : Kind) (o : Option Choice) → IfSome o (λ c. ChoiceIsAt s kind c) →
    (image : List ℕ) (state : State) → RestsOn s image → (h : IsState (mem s image) (length image) state) →
    IsChoiceAt h kind o
choice_at s kind None k image state i h = tt
choice_at s kind (Some c) k image state i h = record {
  block = k.at.at image state i h;
  price = k.price image state i h;
}

-- and where blocks and prices stay at the size, it stays so
choice_stays : (s s' : View) (kind : Kind) (o : Option Choice) → HoldsState s → Kept s s' →
    ((image : List ℕ) (state state' : State) → RestsOn s' image → (h : IsState (mem s image) (length image) state) →
    (h' : IsState (mem s' image) (length image) state') → (kind : Kind) (id : ℕ) →
    item_block h' kind id ≡ item_block h kind id) →
    ((image : List ℕ) (state state' : State) → RestsOn s' image → IsState (mem s image) (length image) state →
    IsState (mem s' image) (length image) state' → (kind : Kind) (id : ℕ) →
    price_of state' kind id ≡ price_of state kind id) →
    IfSome o (λ c. ChoiceIsAt s kind c) → IfSome o (λ c. ChoiceIsAt s' kind c)
choice_stays s s' kind None held kept stay prices k = tt
choice_stays s s' kind (Some c) held kept stay prices k = record {
  id = k.id;
  at = item_at_stays s s' kind c.id c.item held kept (λ image state state' i h h'. stay image state state' i h h' kind
      c.id) k.at;
  price = λ image state' i h'. (let i0 = stood kept image i in
      let t = held.under image i0 in
      prices image t.0 state' i t.1 h' kind c.id ∙ k.price image t.0 i0 t.1);
}

owner_stays : (s s' : View) (id : ℕ) (block : Option ℕ) → HoldsState s → Kept s s' →
    ((image : List ℕ) (state state' : State) → RestsOn s' image → (h : IsState (mem s image) (length image) state) →
    (h' : IsState (mem s' image) (length image) state') → (id : ℕ) → customer_block h' id ≡ customer_block h id) →
    IsOwner s id block → IsOwner s' id block
owner_stays s s' id (Some c) held kept stay at = customer_at_stays s s' id c held kept
    (λ image state state' i h h'. stay image state state' i h h' id) at
owner_stays s s' id None held kept stay l = record {
  none = λ image state' i h'.
      let i0 = stood kept image i in
      let t = held.under image i0 in
      stay image t.0 state' i t.1 h' id ∙ l.none image t.0 i0 t.1;
}

-- the customer who was seen to
owner_seated : (s s' : View) (id : ℕ) (block : Option ℕ) → HoldsState s → Kept s s' → IsWithin s' block →
    ((image : List ℕ) (state state' : State) → Sees s' image → IsState (mem s image) (length image) state →
    (h' : IsState (mem s' image) (length image) state') → IsOwnerAt h' id block) → IsOwner s' id block
owner_seated s s' id None held kept room seat = record {
  none = λ image state' i h'. (let t = held.under image (stood kept image i) in seat image t.0 state' i.sees t.1 h');
}
owner_seated s s' id (Some c) held kept room seat = record {
  some = (let low = room.0 in omega arith);
  inside = room;
  at = λ image state' i h'. (let t = held.under image (stood kept image i) in seat image t.0 state' i.sees t.1 h');
}

-- the link is the head of the list of the customer, if the customer exists
abbrev pub IsHead : Option ℕ → ℕ → Type 0
IsHead block link = IfSome block (λ b. link ≡ head_of b)

starts_at_head : (s : View) (id : ℕ) (block : Option ℕ) (link key : ℕ) → IsOwner s id block → IsHead block link →
    CanStart s block link key
starts_at_head s id None link key at is = tt
starts_at_head s id (Some b) link key at is =
    subst (λ (x : ℕ). HasStart s b x key) (sym is) (has_head s id b key at)

pub ready_joined : (s s' : View) (id : ℕ) (owner : Owner) (cs : Choices) (link key : ℕ) → HoldsState s →
    ChoicesAreAt s cs → HasJoined s s' id owner → IsHead owner.block link → Ready s' id owner.block cs link key
ready_joined s s' id owner cs link key held known j is =
    let seated = owner_seated s s' id owner.block held j.runs.kept j.room j.seat in
    record {
      state = held_runs s s' (asked_to_join id) owner.joined j.runs held;
      owner = seated;
      known = record {
        known = λ kind. choice_stays s s' kind (choice_in cs kind) held j.runs.kept
            (λ image state state' i h h' kind id. j.items.stay image state state' i.sees h h' kind id)
            (λ image state state' i h h' kind id'. prices_after (asked_to_join id) (mem s' image) (length image)
            state state' (joins_keep id) (j.runs.state image state i.sees h) h' kind id')
            (known.known kind);
      };
      start = starts_at_head s' id owner.block link key seated is;
    }

-- a customer's block lies within the addresses
within_fits : (s s' : View) (block : Option ℕ) → s.size ≤ 2 ^ 32 → Kept s s' → IsWithin s' block →
    IfSome block (λ b. b + 8 ≤ 2 ^ 32)
within_fits s s' None small kept room = tt
within_fits s s' (Some b) small kept room = omega (arith, small, kept.size, room.1)

pub block_fits : (s s' : View) (id : ℕ) (owner : Owner) → HoldsState s → HasJoined s s' id owner →
    IfSome owner.block (λ b. b + 8 ≤ 2 ^ 32)
block_fits s s' id owner held j = within_fits s s' owner.block held.small j.runs.kept j.room

start_there : (s : View) (block : Option ℕ) (link key : ℕ) → CanStart s block link key → (image : List ℕ)
    (state : State) → RestsOn s image → (h : IsState (mem s image) (length image) state) → StartsAt h block link key
start_there s None link key can image state i h = tt
start_there s (Some b) link key can image state i h = can.at image state i h

-- a pick's blocks at the size
pick_at : (s : View) (id : ℕ) (block : Option ℕ) (cs : Choices) (kind : Kind) (link : ℕ) →
    Ready s id block cs link (first_key kind) →
    (image : List ℕ) (state : State) → RestsOn s image → (h : IsState (mem s image) (length image) state) →
    AtPick id block kind (choice_in cs kind) link (mem s image) (length image) state h
pick_at s id block cs kind link r image state i h = record {
  owner = owner_at s id block r.owner image state i h;
  chosen = choice_at s kind (choice_in cs kind) (r.known.known kind) image state i h;
  start = start_there s block link (first_key kind) r.start image state i h;
}

-- what a turn left holds at the size
turn_there : (s s' : View) (block : Option ℕ) (link key : ℕ) (P : (m : ℕ → ℕ) (n : ℕ) (state : State) →
    IsState m n state → Type 0) → HoldsState s → Kept s s' → ((image : List ℕ) (state : State) → RestsOn s image →
    (h : IsState (mem s image) (length image) state) → P (mem s image) (length image) state h) →
    LeavesTurn s s' block link key P → CanStart s' block link key
turn_there s s' None link key P held kept all v = tt
turn_there s s' (Some b) link key P held kept all v = record {
  room = v.room;
  at = λ image state' i h'.
      let i0 = stood kept image i in
      let t = held.under image i0 in
      v.at image t.0 state' i.sees t.1 (all image t.0 i0 t.1) h';
}

pub ready_next : {A : Type 0} (s s' : View) (id : ℕ) (block : Option ℕ) (cs : Choices) (kind : Kind) (link link' : ℕ)
    (f : State → State × A) (a : A) → Ready s id block cs link (first_key kind) →
    RunsWhere s s' f a (AtPick id block kind (choice_in cs kind) link) →
    BlocksStay s s' (AtPick id block kind (choice_in cs kind) link) →
    LeavesTurn s s' block link' (next_key kind) (AtPick id block kind (choice_in cs kind) link) → KeepsPrices f →
    Ready s' id block cs link' (next_key kind)
ready_next s s' id block cs kind link link' f a r runs stays turn keeps = record {
  state = record {
    inside = omega (arith, r.state.inside, runs.kept.size);
    small = omega (arith, r.state.small, runs.kept.size);
    under = λ image i.
        let i0 = stood runs.kept image i in
        let t = r.state.under image i0 in
        ((f t.0).0, runs.state image t.0 i.sees t.1 (pick_at s id block cs kind link r image t.0 i0 t.1));
  };
  owner = owner_stays s s' id block r.state runs.kept (λ image state state' i h h' id'. stays.customers image state
      state' i.sees h (pick_at s id block cs kind link r image state (stood runs.kept image i) h) h' id') r.owner;
  known = record {
    known = λ k. choice_stays s s' k (choice_in cs k) r.state runs.kept
        (λ image state state' i h h' kind' id'. stays.items image state state' i.sees h
        (pick_at s id block cs kind link r image state (stood runs.kept image i) h) h' kind' id')
        (λ image state state' i h h' kind' id'. prices_after f (mem s' image) (length image) state state' keeps
        (runs.state image state i.sees h (pick_at s id block cs kind link r image state (stood runs.kept image i) h))
        h' kind' id') (r.known.known k);
  };
  start = turn_there s s' block link' (next_key kind) (AtPick id block kind (choice_in cs kind) link) r.state runs.kept
      (pick_at s id block cs kind link r) turn;
}

-- what was found can be booked
choice_found : (s : View) (kind : Kind) (o : Option Choice) → IfSome o (λ c. IsKnownItem s kind c) →
    IfSome o (λ c. ChoiceIsAt s kind c)
choice_found s kind None k = tt
choice_found s kind (Some c) k = record {
  id = k.id;
  at = item_found_at s kind c.id c.item k.at;
  price = λ image state i h. k.price image state i.sees h;
}

pub choices_found : (s : View) (cs : Choices) → AreKnownItems s cs → ChoicesAreAt s cs
choices_found s cs k = record { known = λ kind. choice_found s kind (choice_in cs kind) (k.known kind) }

-- a search may start at the head
starts_first : {m : ℕ → ℕ} {n : ℕ} {s : State} (h : IsState m n s) (block : Option ℕ) (link key : ℕ) →
    IsHead block link → StartsAt h block link key
starts_first h None link key is = tt
starts_first h (Some b) link key is =
    subst (λ (x : ℕ). MayStart (head_of b) x key (h.represents.parts.lists b)) (sym is)
    (start_head (head_of b) key (h.represents.parts.lists b))

-- the customer and the three bookings, one after the other
module _ (s s1 s2 s3 s4 : View) (id : ℕ) (owner : Owner) (cs : Choices) (l1 l2 l3 : ℕ) (car flight room : Option Pick)
    (j : HasJoined s s1 id owner) (first : IsHead owner.block l1)
    (a : RunsWhere s1 s2 (picks id Car cs.car) car (AtPick id owner.block Car cs.car l1))
    (sa : BlocksStay s1 s2 (AtPick id owner.block Car cs.car l1))
    (ta : LeavesTurn s1 s2 owner.block l2 (next_key Car) (AtPick id owner.block Car cs.car l1))
    (b : RunsWhere s2 s3 (picks id Flight cs.flight) flight (AtPick id owner.block Flight cs.flight l2))
    (sb : BlocksStay s2 s3 (AtPick id owner.block Flight cs.flight l2))
    (tb : LeavesTurn s2 s3 owner.block l3 (next_key Flight) (AtPick id owner.block Flight cs.flight l2))
    (c : RunsWhere s3 s4 (picks id Room cs.room) room (AtPick id owner.block Room cs.room l3)) where
  all : (image : List ℕ) (state : State) → Sees s4 image → (h : IsState (mem s image) (length image) state) →
      AtChoices cs (mem s image) (length image) state h →
      IsState (mem s4 image) (length image) (book_choices state id (priced cs.car) (priced cs.flight)
      (priced cs.room)).0
      × ((book_choices state id (priced cs.car) (priced cs.flight) (priced cs.room)).1 ≡ reply.Trip
      (record { joined = owner.joined; picks = car ∷ flight ∷ room ∷ [] }))
  all image state i h p =
      let i3 = c.kept.seen image i in
      let i2 = b.kept.seen image i3 in
      let i1 = a.kept.seen image i2 in
      let h1 = j.runs.state image state i1 h in
      let seat1 = j.seat image state _ i1 h h1 in
      let car_at : IsChoiceAt h1 Car cs.car = choice_moves h h1 Car cs.car (j.items.stay image state _ i1 h h1)
      (joins_keep id state) (p.at Car) in
      let flight_at : IsChoiceAt h1 Flight cs.flight = choice_moves h h1 Flight cs.flight
      (j.items.stay image state _ i1 h h1) (joins_keep id state) (p.at Flight) in
      let room_at : IsChoiceAt h1 Room cs.room = choice_moves h h1 Room cs.room (j.items.stay image state _ i1 h h1)
      (joins_keep id state) (p.at Room) in
      let p1 : AtPick id owner.block Car cs.car l1 (mem s1 image) (length image) _ h1 = record {
        owner = seat1;
        chosen = car_at;
        start = starts_first h1 owner.block l1 (first_key Car) first;
      } in
      let h2 = a.state image _ i2 h1 p1 in
      let items2 = sa.items image _ _ i2 h1 p1 h2 in
      let customers2 = sa.customers image _ _ i2 h1 p1 h2 in
      let p2 : AtPick id owner.block Flight cs.flight l2 (mem s2 image) (length image) _ h2 =
      record {
        owner = owner_moves h1 h2 id owner.block customers2 seat1;
        chosen = choice_moves h1 h2 Flight cs.flight items2 (picks_keep id Car cs.car _) flight_at;
        start = ta.at image _ _ i2 h1 p1 h2;
      } in
      let h3 = b.state image _ i3 h2 p2 in
      let items3 = sb.items image _ _ i3 h2 p2 h3 in
      let customers3 = sb.customers image _ _ i3 h2 p2 h3 in
      let p3 : AtPick id owner.block Room cs.room l3 (mem s3 image) (length image) _ h3 =
      record {
        owner = owner_moves h2 h3 id owner.block customers3 p2.owner;
        chosen = choice_moves h2 h3 Room cs.room items3 (picks_keep id Flight cs.flight _)
            (choice_moves h1 h2 Room cs.room items2 (picks_keep id Car cs.car _) room_at);
        start = tb.at image _ _ i3 h2 p2 h3;
      } in
      let e = j.runs.answer image state i1 h in
      let ea = a.answer image _ i2 h1 p1 in
      let eb = b.answer image _ i3 h2 p2 in
      let ec = c.answer image _ i h3 p3 in
      (c.state image _ i h3 p3, λ k. reply.Trip (record { joined = e k; picks = ea k ∷ eb k ∷ ec k ∷ [] }))

  pub booked : RunsWhere s s4 (λ state. book_choices state id (priced cs.car) (priced cs.flight) (priced cs.room))
      (reply.Trip (record { joined = owner.joined; picks = car ∷ flight ∷ room ∷ [] })) (AtChoices cs)
  booked = record {
    kept = kept_both s s3 s4 (kept_both s s2 s3 (kept_both s s1 s2 j.runs.kept a.kept) b.kept) c.kept;
    state = λ image state i h p. (all image state i h p).0;
    answer = λ image state i h p. (all image state i h p).1;
  }

some_priced : (o : Option Choice) → is_some (priced o) ≡ is_some o
some_priced None = refl
some_priced (Some c) = refl

any_priced : (a b c : Option Choice) → (is_some (priced a) || is_some (priced b) || is_some (priced c)) ≡
    (is_some a || is_some b || is_some c)
any_priced a b c = λ i. some_priced a i || some_priced b i || some_priced c i

-- the definition's trip, where the choices are these
trip_is : (state : State) (id : ℕ) (asks : List Place) (cs : Choices) →
    ((kind : Kind) → choice_of state kind asks ≡ priced (choice_in cs kind)) →
    trip state id asks ≡ trip_with state id (priced cs.car) (priced cs.flight) (priced cs.room)
trip_is state id asks cs e = λ i. trip_with state id (e Car i) (e Flight i) (e Room i)

some_chosen : (state : State) (id : ℕ) (cs : Choices) → any_chosen cs ≡ true →
    trip_with state id (priced cs.car) (priced cs.flight) (priced cs.room) ≡ book_choices state id (priced cs.car)
    (priced cs.flight) (priced cs.room)
some_chosen state id cs e =
    let any = any_priced cs.car cs.flight cs.room ∙ e in
    ap (λ (t : Bool). if t then book_choices state id (priced cs.car) (priced cs.flight) (priced cs.room)
    else (state, reply.Trip (record { joined = NotAsked; picks = None ∷ None ∷ None ∷ [] }))) any

none_chosen : (state : State) (id : ℕ) (cs : Choices) → any_chosen cs ≡ false →
    trip_with state id (priced cs.car) (priced cs.flight) (priced cs.room) ≡ (
      state,
      reply.Trip (record { joined = NotAsked; picks = None ∷ None ∷ None ∷ [] }),
    )
none_chosen state id cs e =
    let any = any_priced cs.car cs.flight cs.room ∙ e in
    ap (λ (t : Bool). if t then book_choices state id (priced cs.car) (priced cs.flight) (priced cs.room)
    else (state, reply.Trip (record { joined = NotAsked; picks = None ∷ None ∷ None ∷ [] }))) any

known_at : (s : View) (kind : Kind) (o : Option Choice) → IfSome o (λ c. IsKnownItem s kind c) →
    (image : List ℕ) (state : State) → Sees s image → (h : IsState (mem s image) (length image) state) →
    IsChoiceAt h kind o
known_at s kind None k image state i h = tt
known_at s kind (Some c) k image state i h = record {
  block = k.at.at image state i h;
  price = k.price image state i h;
}

pub tripped : (s s1 s2 : View) (id : ℕ) (asks : List Place) (cs : Choices) (r : Reply) → Chosen s s1 asks cs →
    any_chosen cs ≡ true →
    RunsWhere s1 s2 (λ state. book_choices state id (priced cs.car) (priced cs.flight) (priced cs.room)) r
    (AtChoices cs) → RanTask s s2 (task.Trip id asks) r
tripped s s1 s2 id asks cs r chosen any runs = record {
  kept = kept_both s s1 s2 chosen.reads.kept runs.kept;
  untouched = tt;
  idle = tt;
  outcome = λ image state i h.
      let i1 = runs.kept.seen image i in
      let h1 = state_on s s1 image state chosen.reads.writes h in
      let p : AtChoices cs (mem s1 image) (length image) state h1 =
      record { at = λ kind. known_at s1 kind (choice_in cs kind) (chosen.known.known kind) image state i1 h1 } in
      let o = book_choices state id (priced cs.car) (priced cs.flight) (priced cs.room) in
      let e = trip_is state id asks cs (chosen.are image state i1 h) ∙ some_chosen state id cs any in
      outcome_is (mem s2 image) (length image) (trip state id asks) o.0 r
      (e ∙ ap (λ (x : Reply). (o.0, x)) (runs.answer image state i h1 p)) (runs.state image state i h1 p);
}

pub tripped_none : (s s' : View) (id : ℕ) (asks : List Place) (cs : Choices) → Chosen s s' asks cs →
    any_chosen cs ≡ false →
    RanTask s s' (task.Trip id asks) (reply.Trip (record { joined = NotAsked; picks = None ∷ None ∷ None ∷ [] }))
tripped_none s s' id asks cs chosen none = record {
  kept = chosen.reads.kept;
  untouched = tt;
  idle = tt;
  outcome = λ image state i h.
      outcome_is (mem s' image) (length image) (trip state id asks) state
      (reply.Trip (record { joined = NotAsked; picks = None ∷ None ∷ None ∷ [] }))
      (trip_is state id asks cs (chosen.are image state i h) ∙ none_chosen state id cs none)
      (state_on s s' image state chosen.reads.writes h);
}
