-- Reserve and Cancel are refused where the customer or the item is missing.
use Rattle.std.proofs.Common.{◌≡◌, ℕ, Some, None, refl}
use Rattle.tx_memory.specs.View.{View}
use Rattle.vac_model.specs.declared.items.Kind.{Kind}
use Rattle.vac_model.specs.declared.commands.Command.{Command}
use Rattle.vac_model.specs.declared.commands.Command.TheVariants as command
use Rattle.vac_model.specs.declared.commands.Refusal.TheVariants.{NoCustomer, NoItem}
use Rattle.vac_model.specs.declared.replies.Reply.TheVariants as reply
use Rattle.vac_model.specs.State.{State, Bookings, item_of, bookings_of}
use Rattle.vac_model.specs.Step.{step, refused}
use Rattle.vac_records.specs.InMemory.{OnlyRead}
use Rattle.vac_tasks.specs.Entries.{LacksItem, LacksCustomer, HasCustomerAt}
use Rattle.vac_tasks.specs.Ran.{Ran}
use Rattle.vac_tasks.proofs.Held.{state_on, item_none, customer_is, customer_none, ran_reads, read_both}

-- a command that needs a customer and an item
pub record NeedsBoth (customer : ℕ) (kind : Kind) (id : ℕ) (c : Command) : Type 0 where
  pub no_customer : (s : State) → bookings_of s customer ≡ None → step s c ≡ refused s NoCustomer
  pub no_item : (s : State) (b : Bookings) → bookings_of s customer ≡ Some b → item_of s kind id ≡ None →
      step s c ≡ refused s NoItem

pub cancel_needs : (customer : ℕ) (kind : Kind) (id : ℕ) → NeedsBoth customer kind id (command.Cancel customer kind id)
cancel_needs customer kind id = record {
  no_customer = λ s e. rw e refl;
  no_item = λ s b e f. rw (e, f) refl;
}

pub reserve_needs : (customer : ℕ) (kind : Kind) (id num : ℕ) →
    NeedsBoth customer kind id (command.Reserve customer kind id num)
reserve_needs customer kind id num = record {
  no_customer = λ s e. rw e refl;
  no_item = λ s b e f. rw (e, f) refl;
}

pub lacks_customer : (s s1 : View) (customer : ℕ) (kind : Kind) (id : ℕ) (c : Command) → NeedsBoth customer kind id c →
    OnlyRead s s1 → LacksCustomer s1 customer → Ran s s1 c (reply.No NoCustomer)
lacks_customer s s1 customer kind id c needs k none = ran_reads s s1 c (reply.No NoCustomer) k (λ image state i h.
    needs.no_customer state (customer_none s1 customer none image state i (state_on s s1 image state k.writes h)))

pub lacks_item : (s s1 s2 : View) (customer owner : ℕ) (kind : Kind) (id : ℕ) (c : Command) →
    NeedsBoth customer kind id c → OnlyRead s s1 → HasCustomerAt s1 customer owner → OnlyRead s1 s2 →
    LacksItem s2 kind id → Ran s s2 c (reply.No NoItem)
lacks_item s s1 s2 customer owner kind id c needs k at l none =
    ran_reads s s2 c (reply.No NoItem) (read_both s s1 s2 k l) (λ image state i h.
    let h1 = state_on s s1 image state k.writes h in
    let o = customer_is s1 customer owner at image state (l.kept.seen image i) h1 in
    needs.no_item state o.bookings o.there (item_none s2 kind id none image state i
    (state_on s1 s2 image state l.writes h1)))
