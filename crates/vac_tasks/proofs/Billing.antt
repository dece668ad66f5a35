-- The customer of a block: the bookings, their list and their bill.
use Rattle.std.proofs.Common.{◌≡◌, ℕ, ◌≢◌, ◌≤◌, [], length, Some, None, refl, sym, ap, ◌∙◌, arith}
use Rattle.std.specs.FinMap.{entries, len, len-entries}
use Rattle.tx_memory.specs.View.{View}
use Rattle.vac_model.specs.declared.commands.Command.TheVariants as command
use Rattle.vac_model.specs.declared.replies.Reply.TheVariants as reply
use Rattle.vac_model.specs.State.{State, Bookings, bookings_of, bill_of}
use Rattle.vac_model.specs.declared.commands.Command.{Command}
use Rattle.vac_model.specs.declared.replies.Reply.{Reply}
use Rattle.vac_model.specs.Step.{number_answered, step}
use Rattle.vac_model.proofs.Balance.{size-without_customer}
use Rattle.vac_model.proofs.Bounds.{bill_small}
use Rattle.vac_records.specs.Items.{mem}
use Rattle.vac_records.specs.Bookings.{place_in, booking_in}
use Rattle.vac_records.specs.Represents.{IsState, bookings_in}
use Rattle.vac_records.specs.InMemory.{HoldsState, OnlyRead}
use Rattle.vac_records.specs.Customers.{HasBill, CanBill, Billed}
use Rattle.vac_records.specs.Laws.{IsCustomerAt}
use Rattle.vac_records.proofs.Bridges.{list_there, bill_there}
use Rattle.vac_records.proofs.Customers.{customer_found}
use Rattle.vac_records.proofs.Frames.{length_same}
use Rattle.vac_tasks.specs.Entries.{customer_block, LacksCustomer, HasCustomerAt, CustomerIsAt}
use Rattle.vac_tasks.specs.Ran.{Ran, RanQuestion}
use Rattle.vac_tasks.specs.CustomerSteps.{RanOn}
use Rattle.vac_tasks.proofs.Held.{state_on, outcome_same, customer_none, asked_reads, asked_after, read_none}

-- the customer in block c, with the bookings
pub record Seated {m : ℕ → ℕ} {n : ℕ} {state : State} (h : IsState m n state) (id c : ℕ) : Type 0 where
  pub bookings : Bookings
  pub is : IsCustomerAt h.represents id c bookings
  pub entries_are : entries bookings ≡ bookings_in m (h.represents.parts.lists c)

pub seated : (m : ℕ → ℕ) (n : ℕ) (state : State) (h : IsState m n state) (id c : ℕ) → customer_block h id ≡ c → c ≢ 0 →
    Seated h id c
seated m n state h id c at some =
    let f = customer_found m n [] state h.represents id c at some in
    record {
      bookings = f.bookings;
      is = record { at = at; some = some; there = f.there };
      entries_are = f.entries_are;
    }

-- a customer has no more bookings than a state has entries
pub few_bookings : (m : ℕ → ℕ) (n : ℕ) (state : State) (id : ℕ) (b : Bookings) → IsState m n state →
    bookings_of state id ≡ Some b → len b ≤ 262144
few_bookings m n state id b h there =
    omega (arith, size-without_customer state id b there, h.small.balanced.room, h.small.small)

has_bill : (m : ℕ → ℕ) (n : ℕ) (state : State) (id c : ℕ) (h : IsState m n state) (t : Seated h id c) →
    HasBill m n c (h.represents.parts.lists c)
has_bill m n state id c h t =
    let rows = h.represents.parts.lists c in
    let long : length rows ≡ len t.bookings =
    sym (len-entries t.bookings ∙ (ap length t.entries_are
    ∙ length_same (λ (r : ℕ × ℕ). (place_in m r.1, booking_in m r.1)) rows)) in
    let sum = bill_there m n [] state id c t.bookings h.represents t.is in
    let small = bill_small state id t.bookings h.small t.is.there in
    record {
      list = list_there m n [] state id c t.bookings h.represents t.is;
      few = omega (arith, few_bookings m n state id t.bookings h t.is.there, long);
      fits = omega (arith, sum, small);
    }

pub can_bill : (s : View) (id c : ℕ) → HoldsState s → CustomerIsAt s id c → CanBill s c
can_bill s id c h at = record {
  small = h.small;
  room = omega (arith, at.inside.1);
  under = λ image i.
      let t = h.under image i in
      record {
        entries = t.1.represents.parts.lists c;
        is = has_bill (mem s image) (length image) t.0 id c t.1
            (seated (mem s image) (length image) t.0 t.1 id c (at.at image t.0 i t.1) at.some);
      };
}

pub bill_found : (s s' : View) (id c total : ℕ) → c ≢ 0 → Billed s s' c total →
    RanOn s s' id c (command.Bill id) (reply.Number (Some total))
bill_found s s' id c total some b = record {
  kept = b.kept;
  untouched = tt;
  idle = tt;
  outcome = λ image state i h at.
      let t = seated (mem s image) (length image) state h id c at some in
      let sum = b.is image (h.represents.parts.lists c) i (has_bill (mem s image) (length image) state id c h t) in
      let bill : bill_of t.bookings ≡ total =
      sym (bill_there (mem s image) (length image) [] state id c t.bookings h.represents t.is) ∙ sym sum in
      let there = t.is.there in
      let stepped : step state (command.Bill id) ≡ (state, reply.Number (Some total)) =
      rw there (ap (λ (z : ℕ). number_answered state (Some z)) bill) in
      outcome_same (mem s' image) (length image) state (command.Bill id) (reply.Number (Some total))
      (state_on s s' image state b.writes h) stepped;
}

-- a command on a customer who was found, or who was missing
pub ran_found : (s s' : View) (id c : ℕ) (command : Command) (r : Reply) → HasCustomerAt s id c →
    RanOn s s' id c command r → Ran s s' command r
ran_found s s' id c command r at v = record {
  kept = v.kept;
  untouched = v.untouched;
  idle = v.idle;
  outcome = λ image state i h. v.outcome image state i h (at.at image state (v.kept.seen image i) h);
}

pub ran_missing : (s s' : View) (id : ℕ) (command : Command) (r : Reply) → LacksCustomer s id →
    RanOn s s' id 0 command r → Ran s s' command r
ran_missing s s' id command r lacks v = record {
  kept = v.kept;
  untouched = v.untouched;
  idle = v.idle;
  outcome = λ image state i h. v.outcome image state i h (lacks.none image state (v.kept.seen image i) h);
}

pub asked_found : (s s' : View) (id block : ℕ) (c : Command) (r : Reply) → HasCustomerAt s id block →
    RanOn s s' id block c r → s'.writes ≡ s.writes → RanQuestion s s' c r
asked_found s s' id block c r at v w = record { ran = ran_found s s' id block c r at v; writes = w }

pub bill_missing : (s s' : View) (id : ℕ) → OnlyRead s s' → LacksCustomer s' id →
    RanQuestion s s' (command.Bill id) (reply.Number None)
bill_missing s s' id r lacks =
    asked_after s s' s' (command.Bill id) (reply.Number None) r
    (asked_reads s' s' (command.Bill id) (reply.Number None) (read_none s') (λ image state i h.
    let none = customer_none s' id lacks image state i h in rw none refl))
