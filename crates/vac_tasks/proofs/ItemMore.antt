-- Units are added to an item that is there, and its price is replaced where one is given.
use Rattle.std.proofs.Common.{◌≡◌, ◌≢◌, ◌⊎◌, inl, inr, ℕ, ◌+◌, ◌<◌, ◌≤◌, ◌^◌, List, [], length, Option, Some, None}
use Rattle.std.proofs.Common.{true, false, nat_lt, unwrap_or, refl, sym, ap, ◌∙◌, arith}
use Rattle.std.proofs.lemmas.Bool.Decides.{nat_tests}
use Rattle.tx_memory.specs.Seen.{some_le}
use Rattle.tx_memory.specs.View.{View, Sees, RestsOn, Loaded, Stored}
use Rattle.vac_model.specs.declared.items.Kind.{Kind}
use Rattle.vac_model.specs.declared.items.Item.{Item}
use Rattle.vac_model.specs.declared.commands.Command.TheVariants as command
use Rattle.vac_model.specs.declared.replies.Reply.TheVariants as reply
use Rattle.vac_model.specs.declared.commands.Refusal.TheVariants.{TotalLimit}
use Rattle.vac_model.specs.Ranges.{is_command}
use Rattle.vac_model.specs.State.{State, item_of, with_item}
use Rattle.vac_model.specs.Step.{step, added, total_limit}
use Rattle.vac_model.specs.Balanced.{IsItem}
use Rattle.vac_records.specs.Items.{mem, item_in, HasRoomForUnits, HasMore, UnitsAdded}
use Rattle.vac_records.specs.Steps.{kept_both, stood}
use Rattle.vac_records.specs.Represents.{IsState}
use Rattle.vac_records.specs.InMemory.{HoldsState}
use Rattle.vac_records.proofs.Items.{item_replaced}
use Rattle.vac_tasks.specs.Entries.{HasItemAt}
use Rattle.vac_tasks.specs.ItemSteps.{PriceGiven}
use Rattle.vac_tasks.specs.Ran.{Ran}
use Rattle.vac_tasks.proofs.Held.{item_is, outcome_of, ran_reads}
use Rattle.vac_tasks.proofs.ItemReads.{read_by}

-- the item in the block is one of a balanced state
pub item_sound : (s : View) (kind : Kind) (id b : ℕ) → HasItemAt s kind id b → (image : List ℕ) (state : State) →
    Sees s image → IsState (mem s image) (length image) state → IsItem state kind id (item_in (mem s image) b)
item_sound s kind id b at image state i h = h.small.balanced.items kind id (item_in (mem s image) b)
    (item_is s kind id b at image state i h)

pub total_small : (s s1 : View) (kind : Kind) (id b v : ℕ) → HoldsState s → HasItemAt s kind id b →
    Loaded s s1 (b + 6) v → ∥ ((image : List ℕ) × RestsOn s1 image) ∥₁ → v ≤ 1000000000
total_small s s1 kind id b v held at l ws = some_le v 1000000000 ws (λ w.
    let i = stood l.kept w.0 w.1 in
    let h = held.under w.0 i in
    omega (arith, (item_sound s kind id b at w.0 h.0 i.sees h.1).few_units, l.answer w.0 w.1.sees))

limit_step : (state : State) (kind : Kind) (id num : ℕ) (price : Option ℕ) (item : Item) →
    item_of state kind id ≡ Some item → total_limit < item.total + num →
    step state (command.Add kind id num price) ≡ (state, reply.No TotalLimit)
limit_step state kind id num price item is over =
    let t : nat_lt total_limit (item.total + num) ≡ true = grind (arith, nat_tests) in
    rw (is, t) refl

more_step : (state : State) (kind : Kind) (id num : ℕ) (price : Option ℕ) (item : Item) →
    item_of state kind id ≡ Some item → item.total + num ≤ total_limit →
    step state (command.Add kind id num price) ≡ (with_item state kind id (added item num price), reply.Done)
more_step state kind id num price item is le =
    let t : nat_lt total_limit (item.total + num) ≡ false = grind (arith, nat_tests) in
    rw (is, t) refl

pub past_limit : (s s1 : View) (kind : Kind) (id b num v : ℕ) (price : Option ℕ) → HasItemAt s kind id b →
    Loaded s s1 (b + 6) v → 1000000000 < v + num → Ran s s1 (command.Add kind id num price) (reply.No TotalLimit)
past_limit s s1 kind id b num v price at l over = ran_reads s s1 (command.Add kind id num price) (reply.No TotalLimit)
    (read_by s s1 (b + 6) v l) (λ image state i h.
    let is : mem s image (b + 6) ≡ v = l.answer image i in
    limit_step state kind id num price (item_in (mem s image) b)
    (item_is s kind id b at image state (l.kept.seen image i) h) (omega (arith, is)))

-- both counts have room for the units
pub more_room : (s s1 : View) (kind : Kind) (id b num v : ℕ) → HoldsState s → HasItemAt s kind id b → num < 2 ^ 32 →
    Loaded s s1 (b + 6) v → HasRoomForUnits s1 b num
more_room s s1 kind id b num v held at few l =
    let sound : (image : List ℕ) → RestsOn s1 image → (mem s image (b + 5) ≤ 1000000000) ×
    (mem s image (b + 6) ≤ 1000000000) = λ image i.
    let i0 = stood l.kept image i in
    let h = held.under image i0 in
    let f = item_sound s kind id b at image h.0 i0.sees h.1 in
    (omega (arith, f.few_units, f.counts), omega (arith, f.few_units)) in
    record {
      free = λ image i. rw l.writes (omega (arith, few, (sound image i).0));
      total = λ image i. rw l.writes (omega (arith, few, (sound image i).1));
    }

-- the numbers of the item afterwards
more_numbers : (m m1 m2 : ℕ → ℕ) (b num : ℕ) (price : Option ℕ) → HasMore m m1 b num →
    m2 (b + 7) ≡ unwrap_or price (m1 (b + 7)) → ((x : ℕ) → x ≢ b + 7 → m2 x ≡ m1 x) →
    item_in m2 b ≡ added (item_in m b) num price
more_numbers m m1 m2 b num price w p others =
    let used : m2 (b + 4) ≡ m (b + 4) = others (b + 4) (omega arith) ∙ w.others (b + 4) (omega arith) (omega arith) in
    let free : m2 (b + 5) ≡ m (b + 5) + num = others (b + 5) (omega arith) ∙ w.free_is in
    let total : m2 (b + 6) ≡ m (b + 6) + num = others (b + 6) (omega arith) ∙ w.total_is in
    let price_is : m2 (b + 7) ≡ unwrap_or price (m (b + 7)) =
    p ∙ ap (unwrap_or price) (w.others (b + 7) (omega arith) (omega arith)) in
    λ i. record { used = used i; free = free i; total = total i; price = price_is i }

-- no word of another block was changed, and no link
more_others : (m m1 m2 : ℕ → ℕ) (b num : ℕ) → HasMore m m1 b num → ((x : ℕ) → x ≢ b + 7 → m2 x ≡ m1 x) → (x : ℕ) →
    (x < b + 4) ⊎ (b + 8 ≤ x) → m2 x ≡ m x
more_others m m1 m2 b num w others x far = elim far [
  | inl below ↦ others x (omega arith) ∙ w.others x (omega arith) (omega arith)
  | inr above ↦ others x (omega arith) ∙ w.others x (omega arith) (omega arith)
]

pub more_done : (s s1 s2 s3 : View) (kind : Kind) (id b num v : ℕ) (price : Option ℕ) → HasItemAt s kind id b →
    is_command (command.Add kind id num price) ≡ true → Loaded s s1 (b + 6) v → v + num ≤ 1000000000 →
    UnitsAdded s1 s2 b num → (num ≡ 0 → s2.writes ≡ s1.writes) → PriceGiven s2 s3 b price →
    (price ≡ None → s3.writes ≡ s2.writes) → Ran s s3 (command.Add kind id num price) reply.Done
more_done s s1 s2 s3 kind id b num v price at range l le u none p same = record {
  kept = kept_both s s2 s3 (kept_both s s1 s2 l.kept u.kept) p.kept;
  untouched = tt;
  idle = λ z n. same n ∙ none z ∙ l.writes;
  outcome = λ image state i h.
      let i2 = p.kept.seen image i in let i1 = u.kept.seen image i2 in let i0 = l.kept.seen image i1 in
      let m = mem s image in
      let m3 = mem s3 image in
      let more : HasMore m (mem s2 image) b num = rw l.writes at (u.added image i2) in
      let is : m (b + 6) ≡ v = l.answer image i1 in
      let few : m (b + 6) + num ≤ total_limit = omega (arith, is) in
      let numbers = more_numbers m (mem s2 image) m3 b num price more (p.is image i) (p.others image i) in
      let changed = item_replaced m m3 (length image) [] state kind id b h.represents
      (record { at = at.at image state i0 h; some = at.some })
      (more_others m (mem s2 image) m3 b num more (p.others image i)) in
      outcome_of m m3 (length image) state (with_item state kind id (item_in m3 b))
      (command.Add kind id num price) reply.Done h range
      (more_step state kind id num price (item_in m b) (item_is s kind id b at image state i0 h) few ∙
      ap (λ (z : Item). (with_item state kind id z, reply.Done)) (sym numbers)) changed.after;
}

pub price_given : (s s' : View) (b p : ℕ) → Stored s s' (b + 7) p → PriceGiven s s' b (Some p)
price_given s s' b p w = record {
  kept = w.kept;
  is = λ image i. (w.written image).here;
  others = λ image i x ne. (w.written image).others x ne;
}
