-- Memories that hold a state: what reads leave, what the calls on blocks, tables and lists ask for,
-- and how a command's outcome is shown.
use Rattle.std.proofs.Common.{◌≡◌, ℕ, ◌+◌, ◌<◌, List, [], length, Some, None, true, refl, sym, ap, ◌∙◌, subst, arith}
use Rattle.tx_memory.specs.View.{View, Words, Sees, RestsOn, Kept, memory}
use Rattle.vac_model.specs.declared.items.Kind.{Kind}
use Rattle.vac_model.specs.declared.commands.Command.{Command}
use Rattle.vac_model.specs.declared.replies.Reply.{Reply}
use Rattle.vac_model.specs.State.{State, kind_number, item_of, bookings_of}
use Rattle.vac_model.specs.Step.{Outcome, step}
use Rattle.vac_model.specs.Ranges.{is_command}
use Rattle.vac_model.proofs.Kept.{small_after}
use Rattle.tx_alloc.specs.Pool.{HasPool}
use Rattle.tx_alloc.specs.Rows.{Rows, block_at}
use Rattle.tx_tree.specs.Table.{HasTable}
use Rattle.vac_records.specs.Items.{mem, item_in, IsNode}
use Rattle.vac_records.specs.Steps.{kept_both, stood}
use Rattle.vac_records.specs.Represents.{Represents, IsState}
use Rattle.vac_records.specs.InMemory.{HoldsState, OnlyRead}
use Rattle.vac_records.specs.Laws.{HasBookings}
use Rattle.vac_records.proofs.Shifts.{kind_small}
use Rattle.vac_records.proofs.Items.{item_found, item_missing}
use Rattle.vac_records.proofs.Customers.{customer_found, customer_missing}
use Rattle.vac_records.proofs.Single.{one_shape}
use Rattle.vac_records.proofs.Bridges.{pool_there, table_there}
pub use Rattle.vac_records.proofs.AfterReads.{read_none, read_both, state_on, state_back, held_on}
use Rattle.vac_tasks.specs.Entries.{item_block, customer_block, LacksItem, HasItemAt, LacksCustomer, HasCustomerAt}
use Rattle.vac_tasks.specs.Entries.{ItemIsAt, CustomerIsAt, CustomerIsMissing, ItemsStay, CustomersStay}
use Rattle.vac_model.specs.declared.replies.Reply.TheVariants as reply
use Rattle.vac_model.specs.declared.commands.Command.TheVariants as command
use Rattle.vac_tasks.specs.Ran.{IsOutcome, Ran, RanQuestion, Untouched, Idle}

-- the memory after a command holds a state
pub held_ran : (s s' : View) (c : Command) (r : Reply) → Ran s s' c r → HoldsState s → HoldsState s'
held_ran s s' c r ran h = record {
  inside = omega (arith, h.inside, ran.kept.size);
  small = omega (arith, h.small, ran.kept.size);
  under = λ image i. (let t = h.under image (stood ran.kept image i) in
      ((step t.0 c).0, (ran.outcome image t.0 i.sees t.1).state));
}

-- the blocks of a state
pub pool_held : (s : View) → HoldsState s → HasPool s
pool_held s h = record {
  small = h.small;
  under = λ image i. (let t = h.under image i in
      let p = t.1.represents in
      record { free = p.parts.free; used = _; count = _; pool = pool_there (mem s image) (length image) [] t.0 p });
}

-- the tables of a state
pub table_held : (s : View) (i : ℕ) → i < 4 → HoldsState s → HasTable s (1 + i)
table_held s i l h = record {
  small = h.small;
  room = h.inside;
  low = omega (arith, l);
  under = λ image sees. (let t = h.under image sees in
      let p = t.1.represents in
      record {
        entries = p.parts.tables i;
        is = table_there (mem s image) (length
            image) [] t.0 i p t.1.small.small l;
      });
}

-- the block of an entry is eight words of the memory
pub item_node : (s : View) (kind : Kind) (id b : ℕ) → HoldsState s → HasItemAt s kind id b → IsNode s b
item_node s kind id b h at = record { inside = at.inside.1; small = h.small }

pub customer_node : (s : View) (id c : ℕ) → HoldsState s → HasCustomerAt s id c → IsNode s c
customer_node s id c h at = record { inside = at.inside.1; small = h.small }

-- what holds under the memory before reads holds under the memory after them
pub item_same : (s s' : View) (image : List ℕ) (state : State) (kind : Kind) (id b : ℕ) → s'.writes ≡ s.writes →
    ((h : IsState (mem s image) (length image) state) → item_block h kind id ≡ b) →
    (h : IsState (mem s' image) (length image) state) → item_block h kind id ≡ b
item_same s s' image state kind id b w f = subst (λ (ws : Words). (h : IsState (memory image ws) (length image) state) →
    item_block h kind id ≡ b) (sym w) f

pub customer_same : (s s' : View) (image : List ℕ) (state : State) (id c : ℕ) → s'.writes ≡ s.writes →
    ((h : IsState (mem s image) (length image) state) → customer_block h id ≡ c) →
    (h : IsState (mem s' image) (length image) state) → customer_block h id ≡ c
customer_same s s' image state id c w f = subst (λ (ws : Words). (h : IsState (memory image ws) (length image) state) →
    customer_block h id ≡ c) (sym w) f

-- what was found is there after further reads, and what was missing is missing
pub item_at_on : (s s' : View) (kind : Kind) (id b : ℕ) → OnlyRead s s' → HasItemAt s kind id b → HasItemAt s' kind id b
item_at_on s s' kind id b r at = record {
  some = at.some;
  inside = (at.inside.0, omega (arith, at.inside.1, r.kept.size));
  at = λ image state i. item_same s s' image state kind id b r.writes (at.at image state (r.kept.seen image i));
}

pub customer_at_on : (s s' : View) (id c : ℕ) → OnlyRead s s' → HasCustomerAt s id c → HasCustomerAt s' id c
customer_at_on s s' id c r at = record {
  some = at.some;
  inside = (at.inside.0, omega (arith, at.inside.1, r.kept.size));
  at = λ image state i. customer_same s s' image state id c r.writes (at.at image state (r.kept.seen image i));
}

-- what was found holds of images of the memory's size
pub item_found_at : (s : View) (kind : Kind) (id b : ℕ) → HasItemAt s kind id b → ItemIsAt s kind id b
item_found_at s kind id b at = record {
  some = at.some;
  inside = at.inside;
  at = λ image state i. at.at image state i.sees;
}

pub customer_found_at : (s : View) (id c : ℕ) → HasCustomerAt s id c → CustomerIsAt s id c
customer_found_at s id c at = record {
  some = at.some;
  inside = at.inside;
  at = λ image state i. at.at image state i.sees;
}

pub customer_missed : (s : View) (id : ℕ) → LacksCustomer s id → CustomerIsMissing s id
customer_missed s id l = record { none = λ image state i. l.none image state i.sees }

-- and holds of them after further reads
pub item_is_on : (s s' : View) (kind : Kind) (id b : ℕ) → OnlyRead s s' → ItemIsAt s kind id b → ItemIsAt s' kind id b
item_is_on s s' kind id b r at = record {
  some = at.some;
  inside = (at.inside.0, omega (arith, at.inside.1, r.kept.size));
  at = λ image state i. item_same s s' image state kind id b r.writes (at.at image state (stood r.kept image i));
}

pub customer_is_on : (s s' : View) (id c : ℕ) → OnlyRead s s' → CustomerIsAt s id c → CustomerIsAt s' id c
customer_is_on s s' id c r at = record {
  some = at.some;
  inside = (at.inside.0, omega (arith, at.inside.1, r.kept.size));
  at = λ image state i. customer_same s s' image state id c r.writes (at.at image state (stood r.kept image i));
}

-- the state's entries, by the blocks that were found
pub item_is : (s : View) (kind : Kind) (id b : ℕ) → HasItemAt s kind id b → (image : List ℕ) (state : State) →
    Sees s image → IsState (mem s image) (length image) state → item_of state kind id ≡ Some (item_in (mem s image) b)
item_is s kind id b at image state i h =
    item_found (mem s image) (length image) [] state h.represents kind id b
    (record { at = at.at image state i h; some = at.some })

-- the same of an item that was found before
pub item_stood : (s : View) (kind : Kind) (id b : ℕ) → ItemIsAt s kind id b → (image : List ℕ) (state : State) →
    RestsOn s image → IsState (mem s image) (length image) state →
    item_of state kind id ≡ Some (item_in (mem s image) b)
item_stood s kind id b at image state i h =
    item_found (mem s image) (length image) [] state h.represents kind id b
    (record { at = at.at image state i h; some = at.some })

pub item_none : (s : View) (kind : Kind) (id : ℕ) → LacksItem s kind id → (image : List ℕ) (state : State) →
    Sees s image → IsState (mem s image) (length image) state → item_of state kind id ≡ None
item_none s kind id l image state i h = item_missing (mem s image) (length image) [] state h.represents kind id
    (l.none image state i h)

pub customer_is : (s : View) (id c : ℕ) → HasCustomerAt s id c → (image : List ℕ) (state : State) → Sees s image →
    (h : IsState (mem s image) (length image) state) → HasBookings (mem s image) (h.represents.parts.lists c) state id
customer_is s id c at image state i h = customer_found (mem s image) (length image) [] state h.represents id c
    (at.at image state i h) at.some

pub customer_none : (s : View) (id : ℕ) → LacksCustomer s id → (image : List ℕ) (state : State) → Sees s image →
    IsState (mem s image) (length image) state → bookings_of state id ≡ None
customer_none s id l image state i h = customer_missing (mem s image) (length image) [] state h.represents id
    (l.none image state i h)

-- an outcome: the memory represents its state, which is balanced as the command keeps it so
pub outcome_of : (m m' : ℕ → ℕ) (n : ℕ) (state after : State) (c : Command) (r : Reply) → IsState m n state →
    is_command c ≡ true → step state c ≡ (after, r) → Represents m' n [] after → IsOutcome m' n (step state c) r
outcome_of m m' n state after c r h range e k =
    subst (λ (z : Outcome). IsOutcome m' n z r) (sym e) (record {
      state = record { represents = k; small = small_after state after c r h.small range e };
      reply_is = refl;
    })

-- the outcome is the state as it was, and a reply
pub outcome_same : (m : ℕ → ℕ) (n : ℕ) (state : State) (c : Command) (r : Reply) → IsState m n state →
    step state c ≡ (state, r) → IsOutcome m n (step state c) r
outcome_same m n state c r h e = subst (λ (z : Outcome). IsOutcome m n z r) (sym e)
    (record { state = h; reply_is = refl })

-- reads alone write nothing, whatever the reply
pub untouched_reads : (s s' : View) (r : Reply) → s'.writes ≡ s.writes → Untouched s s' r
untouched_reads s s' reply.Done w = tt
untouched_reads s s' (reply.Number n) w = tt
untouched_reads s s' (reply.Report report) w = tt
untouched_reads s s' (reply.No why) w = w
untouched_reads s s' (reply.Trip trip) w = tt
untouched_reads s s' (reply.Update update) w = tt

-- what was untouched after reads was untouched from the memory before them on
pub untouched_after : (s s' s'' : View) (r : Reply) → s'.writes ≡ s.writes → Untouched s' s'' r → Untouched s s'' r
untouched_after s s' s'' reply.Done w u = tt
untouched_after s s' s'' (reply.Number n) w u = tt
untouched_after s s' s'' (reply.Report report) w u = tt
untouched_after s s' s'' (reply.No why) w u = u ∙ w
untouched_after s s' s'' (reply.Trip trip) w u = tt
untouched_after s s' s'' (reply.Update update) w u = tt

-- reads alone write nothing, whatever the command
pub idle_reads : (s s' : View) (c : Command) → s'.writes ≡ s.writes → Idle s s' c
idle_reads s s' (command.Add kind id num price) w = λ z n. w
idle_reads s s' (command.Delete kind id num) w = λ z. w
idle_reads s s' (command.DropFlight id) w = tt
idle_reads s s' (command.NewCustomer id) w = tt
idle_reads s s' (command.DropCustomer id) w = tt
idle_reads s s' (command.Free kind id) w = tt
idle_reads s s' (command.Price kind id) w = tt
idle_reads s s' (command.Bill id) w = tt
idle_reads s s' (command.Reserve customer kind id num) w = tt
idle_reads s s' (command.Cancel customer kind id) w = tt
idle_reads s s' command.Audit w = tt

pub idle_after : (s s' s'' : View) (c : Command) → s'.writes ≡ s.writes → Idle s' s'' c → Idle s s'' c
idle_after s s' s'' (command.Add kind id num price) w u = λ z n. u z n ∙ w
idle_after s s' s'' (command.Delete kind id num) w u = λ z. u z ∙ w
idle_after s s' s'' (command.DropFlight id) w u = tt
idle_after s s' s'' (command.NewCustomer id) w u = tt
idle_after s s' s'' (command.DropCustomer id) w u = tt
idle_after s s' s'' (command.Free kind id) w u = tt
idle_after s s' s'' (command.Price kind id) w u = tt
idle_after s s' s'' (command.Bill id) w u = tt
idle_after s s' s'' (command.Reserve customer kind id num) w u = tt
idle_after s s' s'' (command.Cancel customer kind id) w u = tt
idle_after s s' s'' command.Audit w u = tt

-- a command that only reads lead to
pub ran_reads : (s s' : View) (c : Command) (r : Reply) → OnlyRead s s' →
    ((image : List ℕ) (state : State) → Sees s' image → IsState (mem s image) (length image) state →
    step state c ≡ (state, r)) → Ran s s' c r
ran_reads s s' c r reads e = record {
  kept = reads.kept;
  untouched = untouched_reads s s' r reads.writes;
  idle = idle_reads s s' c reads.writes;
  outcome = λ image state i h. outcome_same (mem s' image) (length image) state c r
      (state_on s s' image state reads.writes h) (e image state i h);
}

pub asked_reads : (s s' : View) (c : Command) (r : Reply) → OnlyRead s s' →
    ((image : List ℕ) (state : State) → Sees s' image → IsState (mem s image) (length image) state →
    step state c ≡ (state, r)) → RanQuestion s s' c r
asked_reads s s' c r reads e = record { ran = ran_reads s s' c r reads e; writes = reads.writes }

-- a command that ran after reads ran from the memory before them
pub ran_after : (s s' s'' : View) (c : Command) (r : Reply) → OnlyRead s s' → Ran s' s'' c r → Ran s s'' c r
ran_after s s' s'' c r reads h = record {
  kept = kept_both s s' s'' reads.kept h.kept;
  untouched = untouched_after s s' s'' r reads.writes h.untouched;
  idle = idle_after s s' s'' c reads.writes h.idle;
  outcome = λ image state i is. h.outcome image state i (state_on s s' image state reads.writes is);
}

pub asked_after : (s s' s'' : View) (c : Command) (r : Reply) → OnlyRead s s' → RanQuestion s' s'' c r →
    RanQuestion s s'' c r
asked_after s s' s'' c r reads h = record { ran = ran_after s s' s'' c r reads h.ran; writes = h.writes ∙ reads.writes }

-- entries that stay in their blocks
pub items_stay_reads : (s s' : View) → OnlyRead s s' → ItemsStay s s'
items_stay_reads s s' r = record {
  stay = λ image state state' i h h' kind id.
      item_same s s' image state' kind id (item_block h kind id) r.writes
      (λ g. ap (λ (rows : Rows). block_at rows id) (one_shape (mem s image)
      (length image) [] [] state state' h.represents g.represents (kind_number kind)
      (omega (arith, kind_small kind)))) h';
}

pub customers_stay_reads : (s s' : View) → OnlyRead s s' → CustomersStay s s'
customers_stay_reads s s' r = record {
  stay = λ image state state' i h h' id.
      customer_same s s' image state' id (customer_block h id) r.writes
      (λ g. ap (λ (rows : Rows). block_at rows id) (one_shape (mem s image)
      (length image) [] [] state state' h.represents g.represents 3 (omega arith))) h';
}

-- what was found stands in its block after a change that lets it stay
pub item_at_stays : (s s' : View) (kind : Kind) (id b : ℕ) → HoldsState s → Kept s s' →
    ((image : List ℕ) (state state' : State) → RestsOn s' image → (h : IsState (mem s image) (length image) state) →
    (h' : IsState (mem s' image) (length image) state') → item_block h' kind id ≡ item_block h kind id) →
    ItemIsAt s kind id b → ItemIsAt s' kind id b
item_at_stays s s' kind id b held k stay at = record {
  some = at.some;
  inside = (at.inside.0, omega (arith, at.inside.1, k.size));
  at = λ image state' i h'.
      let i0 = stood k image i in
      let t = held.under image i0 in
      stay image t.0 state' i t.1 h' ∙ at.at image t.0 i0 t.1;
}

pub customer_at_stays : (s s' : View) (id c : ℕ) → HoldsState s → Kept s s' →
    ((image : List ℕ) (state state' : State) → RestsOn s' image → (h : IsState (mem s image) (length image) state) →
    (h' : IsState (mem s' image) (length image) state') → customer_block h' id ≡ customer_block h id) →
    CustomerIsAt s id c → CustomerIsAt s' id c
customer_at_stays s s' id c held k stay at = record {
  some = at.some;
  inside = (at.inside.0, omega (arith, at.inside.1, k.size));
  at = λ image state' i h'.
      let i0 = stood k image i in
      let t = held.under image i0 in
      stay image t.0 state' i t.1 h' ∙ at.at image t.0 i0 t.1;
}
