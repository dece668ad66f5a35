-- Units are taken away from an item, and one with no unit left is removed.
use Rattle.std.proofs.Common.{◌≡◌, ◌≢◌, ℕ, ◌+◌, ◌-◌, ◌<◌, ◌≤◌, List, [], length, Some, true, false, nat_eq, nat_lt}
use Rattle.std.proofs.Common.{refl, sym, ap, ◌∙◌, arith}
use Rattle.std.proofs.lemmas.Bool.Decides.{nat_tests}
use Rattle.tx_memory.specs.View.{View, Sees, RestsOn, Loaded}
use Rattle.tx_memory.specs.Seen.{some_le}
use Rattle.vac_model.specs.declared.items.Kind.{Kind}
use Rattle.vac_model.specs.declared.items.Kind.TheVariants.{Flight}
use Rattle.vac_model.specs.declared.items.Item.{Item}
use Rattle.vac_model.specs.declared.commands.Command.TheVariants as command
use Rattle.vac_model.specs.declared.replies.Reply.TheVariants as reply
use Rattle.vac_model.specs.declared.commands.Refusal.TheVariants.{NoItem, NotFree, InUse}
use Rattle.vac_model.specs.Ranges.{is_command}
use Rattle.vac_model.specs.State.{State, item_of, with_item, without_item}
use Rattle.vac_model.specs.Step.{step, deleted}
use Rattle.vac_records.specs.Items.{mem, item_in, HasFree, ItemChanged}
use Rattle.vac_records.specs.InMemory.{HoldsState, OnlyRead}
use Rattle.vac_records.proofs.Items.{item_replaced}
use Rattle.vac_tasks.specs.Entries.{LacksItem, HasItemAt}
use Rattle.vac_tasks.specs.Ran.{Ran, ItemGone}
use Rattle.vac_tasks.proofs.Held.{read_none, read_both, item_at_on, item_is, item_none, outcome_of, ran_reads}
use Rattle.vac_tasks.proofs.Held.{ran_after}
use Rattle.vac_tasks.proofs.ItemReads.{read_by}
use Rattle.vac_tasks.proofs.ItemMore.{item_sound}

-- what a load answered is the word after further reads
pub loaded_on : (s s' s'' : View) (a v : ℕ) → Loaded s s' a v → OnlyRead s' s'' → (image : List ℕ) → Sees s'' image →
    mem s'' image a ≡ v
loaded_on s s' s'' a v l r image i = let w = r.writes ∙ l.writes in rw w (l.answer image (r.kept.seen image i))

-- the item is missing
pub delete_none : (s s1 : View) (kind : Kind) (id num : ℕ) → OnlyRead s s1 → LacksItem s1 kind id →
    Ran s s1 (command.Delete kind id num) (reply.No NoItem)
delete_none s s1 kind id num reads l =
    ran_after s s1 s1 (command.Delete kind id num) (reply.No NoItem) reads
    (ran_reads s1 s1 (command.Delete kind id num) (reply.No NoItem) (read_none s1) (λ image state i h.
    let none = item_none s1 kind id l image state i h in
    rw none refl))

pub drop_none : (s s1 : View) (id : ℕ) → OnlyRead s s1 → LacksItem s1 Flight id →
    Ran s s1 (command.DropFlight id) (reply.No NoItem)
drop_none s s1 id reads l =
    ran_after s s1 s1 (command.DropFlight id) (reply.No NoItem) reads
    (ran_reads s1 s1 (command.DropFlight id) (reply.No NoItem) (read_none s1) (λ image state i h.
    let none = item_none s1 Flight id l image state i h in
    rw none refl))

-- not enough units are free, or some are used
few_step : (state : State) (kind : Kind) (id num : ℕ) (item : Item) → item_of state kind id ≡ Some item →
    item.free < num → step state (command.Delete kind id num) ≡ (state, reply.No NotFree)
few_step state kind id num item is less =
    let t : nat_lt item.free num ≡ true = grind (arith, nat_tests) in
    rw (is, t) refl

pub delete_few : (s s1 s2 : View) (kind : Kind) (id b num v : ℕ) → OnlyRead s s1 → HasItemAt s1 kind id b →
    Loaded s1 s2 (b + 5) v → v < num → Ran s s2 (command.Delete kind id num) (reply.No NotFree)
delete_few s s1 s2 kind id b num v reads at l less =
    ran_after s s1 s2 (command.Delete kind id num) (reply.No NotFree) reads
    (ran_reads s1 s2 (command.Delete kind id num) (reply.No NotFree) (read_by s1 s2 (b + 5) v l) (λ image state i h.
    let is : mem s1 image (b + 5) ≡ v = l.answer image i in
    few_step state kind id num (item_in (mem s1 image) b) (item_is s1 kind id b at image state (l.kept.seen image i) h)
    (omega (arith, is))))

used_step : (state : State) (id : ℕ) (item : Item) → item_of state Flight id ≡ Some item → 0 < item.used →
    step state (command.DropFlight id) ≡ (state, reply.No InUse)
used_step state id item is some =
    let t : nat_lt 0 item.used ≡ true = grind (arith, nat_tests) in
    rw (is, t) refl

pub drop_used : (s s1 s2 : View) (id b v : ℕ) → OnlyRead s s1 → HasItemAt s1 Flight id b → Loaded s1 s2 (b + 4) v →
    0 < v → Ran s s2 (command.DropFlight id) (reply.No InUse)
drop_used s s1 s2 id b v reads at l some =
    ran_after s s1 s2 (command.DropFlight id) (reply.No InUse) reads
    (ran_reads s1 s2 (command.DropFlight id) (reply.No InUse) (read_by s1 s2 (b + 4) v l) (λ image state i h.
    let is : mem s1 image (b + 4) ≡ v = l.answer image i in
    used_step state id (item_in (mem s1 image) b) (item_is s1 Flight id b at image state (l.kept.seen image i) h)
    (omega (arith, is))))

-- some units stay
less_step : (state : State) (kind : Kind) (id num : ℕ) (item : Item) → item_of state kind id ≡ Some item →
    num ≤ item.free → num < item.total → step state (command.Delete kind id num) ≡
    (with_item state kind id (deleted item num), reply.Done)
less_step state kind id num item is free less =
    let t : nat_lt item.free num ≡ false = grind (arith, nat_tests) in
    let some : item.total - num ≢ 0 = omega arith in
    let u : nat_eq (item.total - num) 0 ≡ false = grind (arith, nat_tests) in
    rw (is, t, u) refl

-- no unit is left
last_step : (state : State) (kind : Kind) (id num : ℕ) (item : Item) → item_of state kind id ≡ Some item →
    num ≤ item.free → item.total ≤ num → step state (command.Delete kind id num) ≡ (
      without_item state kind id,
      reply.Done,
    )
last_step state kind id num item is free all =
    let t : nat_lt item.free num ≡ false = grind (arith, nat_tests) in
    let none : item.total - num ≡ 0 = omega arith in
    let u : nat_eq (item.total - num) 0 ≡ true = grind (arith, nat_tests) in
    rw (is, t, u) refl

drop_step : (state : State) (id : ℕ) (item : Item) → item_of state Flight id ≡ Some item → item.used ≡ 0 →
    step state (command.DropFlight id) ≡ (without_item state Flight id, reply.Done)
drop_step state id item is none =
    let t : nat_lt 0 item.used ≡ false = grind (arith, nat_tests) in
    rw (is, t) refl

-- so many units are free
pub has_free : (s1 s2 s3 : View) (b num v t : ℕ) → Loaded s1 s2 (b + 5) v → Loaded s2 s3 (b + 6) t → num ≤ v → num < t →
    HasFree s3 b num
has_free s1 s2 s3 b num v t l k free less = record {
  free = record {
    enough = λ image i. omega (
      arith,
      free,
      loaded_on s1 s2 s3 (b + 5) v l
          (read_by s2 s3 (b + 6) t k) image i.sees,
    );
  };
  total = record {
    enough = λ image i. omega (
      arith,
      less,
      loaded_on s2 s3 s3 (b + 6) t k
          (read_none s3) image i.sees,
    );
  };
}

-- after two loads
pub read_twice : (s s1 s2 s3 : View) (a c v t : ℕ) → OnlyRead s s1 → Loaded s1 s2 a v → Loaded s2 s3 c t → OnlyRead s s3
read_twice s s1 s2 s3 a c v t reads l k = read_both s s2 s3 (read_both s s1 s2 reads (read_by s1 s2 a v l))
    (read_by s2 s3 c t k)

pub at_after : (s1 s2 s3 : View) (kind : Kind) (id b a c v t : ℕ) → HasItemAt s1 kind id b → Loaded s1 s2 a v →
    Loaded s2 s3 c t → HasItemAt s3 kind id b
at_after s1 s2 s3 kind id b a c v t at l k = item_at_on s1 s3 kind id b
    (read_both s1 s2 s3 (read_by s1 s2 a v l) (read_by s2 s3 c t k)) at

pub delete_less : (s s1 s2 s3 s4 : View) (kind : Kind) (id b num v t : ℕ) →
    is_command (command.Delete kind id num) ≡ true → OnlyRead s s1 → HasItemAt s1 kind id b → Loaded s1 s2 (b + 5) v →
    Loaded s2 s3 (b + 6) t → num ≤ v → num < t →
    ItemChanged s3 s4 b (λ item. deleted item num) → (num ≡ 0 → s4.writes ≡ s3.writes) →
    Ran s s4 (command.Delete kind id num) reply.Done
delete_less s s1 s2 s3 s4 kind id b num v t range reads at l k free less w none =
    let at3 = at_after s1 s2 s3 kind id b (b + 5) (b + 6) v t at l k in
    ran_after s s3 s4 (command.Delete kind id num) reply.Done (read_twice s s1 s2 s3 (b + 5) (b + 6) v t reads l k)
    (record {
      kept = w.kept;
      untouched = tt;
      idle = none;
      outcome = λ image state i h.
          let m = mem s3 image in
          let m4 = mem s4 image in
          let i3 = w.kept.seen image i in
          let now = w.changed image i in
          let is5 : m (b + 5) ≡ v = loaded_on s1 s2 s3 (b + 5) v l (read_by s2 s3 (b + 6) t k) image i3 in
          let is6 : m (b + 6) ≡ t = loaded_on s2 s3 s3 (b + 6) t k (read_none s3) image i3 in
          let changed = item_replaced m m4 (length image) [] state kind id b h.represents
          (record { at = at3.at image state i3 h; some = at3.some }) now.others in
          outcome_of m m4 (length image) state (with_item state kind id (item_in m4 b))
          (command.Delete kind id num) reply.Done h range
          (less_step state kind id num (item_in m b) (item_is s3 kind id b at3 image state i3 h) (omega (arith, is5))
          (omega (arith, is6))
          ∙ ap (λ (z : Item). (with_item state kind id z, reply.Done)) (sym now.is)) changed.after;
    })

-- an item that is there has units
pub total_some : (s1 s2 s3 : View) (kind : Kind) (id b c v t : ℕ) → HoldsState s3 → HasItemAt s1 kind id b →
    Loaded s1 s2 c v → Loaded s2 s3 (b + 6) t → ∥ ((image : List ℕ) × RestsOn s3 image) ∥₁ → 1 ≤ t
total_some s1 s2 s3 kind id b c v t held at l k ws = some_le 1 t ws (λ w.
    let i = w.1.sees in
    let h = held.under w.0 w.1 in
    let at3 = at_after s1 s2 s3 kind id b c (b + 6) v t at l k in
    let is : mem s3 w.0 (b + 6) ≡ t = loaded_on s2 s3 s3 (b + 6) t k (read_none s3) w.0 i in
    omega (arith, (item_sound s3 kind id b at3 w.0 h.0 i h.1).some_units, is))

pub delete_last : (s s1 s2 s3 s4 : View) (kind : Kind) (id b num v t : ℕ) →
    is_command (command.Delete kind id num) ≡ true → OnlyRead s s1 → HasItemAt s1 kind id b → Loaded s1 s2 (b + 5) v →
    Loaded s2 s3 (b + 6) t → num ≤ v → t ≤ num →
    1 ≤ t → ItemGone s3 s4 kind id → Ran s s4 (command.Delete kind id num) reply.Done
delete_last s s1 s2 s3 s4 kind id b num v t range reads at l k free all some w =
    let at3 = at_after s1 s2 s3 kind id b (b + 5) (b + 6) v t at l k in
    ran_after s s3 s4 (command.Delete kind id num) reply.Done (read_twice s s1 s2 s3 (b + 5) (b + 6) v t reads l k)
    (record {
      kept = w.kept;
      untouched = tt;
      idle = λ z. absurd (omega (arith, z, all, some));
      outcome = λ image state i h.
          let m = mem s3 image in
          let i3 = w.kept.seen image i in
          let is5 : m (b + 5) ≡ v = loaded_on s1 s2 s3 (b + 5) v l (read_by s2 s3 (b + 6) t k) image i3 in
          let is6 : m (b + 6) ≡ t = loaded_on s2 s3 s3 (b + 6) t k (read_none s3) image i3 in
          outcome_of m (mem s4 image) (length image) state (without_item state kind id)
          (command.Delete kind id num) reply.Done h range
          (last_step state kind id num (item_in m b) (item_is s3 kind id b at3 image state i3 h) (omega (arith, is5))
          (omega (arith, is6))) (w.gone image state i h);
    })

pub drop_done : (s s1 s2 s3 : View) (id b v : ℕ) → OnlyRead s s1 → HasItemAt s1 Flight id b → Loaded s1 s2 (b + 4) v →
    v ≤ 0 → ItemGone s2 s3 Flight id → Ran s s3 (command.DropFlight id) reply.Done
drop_done s s1 s2 s3 id b v reads at l none w =
    let at2 = item_at_on s1 s2 Flight id b (read_by s1 s2 (b + 4) v l) at in
    ran_after s s2 s3 (command.DropFlight id) reply.Done (read_both s s1 s2 reads (read_by s1 s2 (b + 4) v l)) (record {
      kept = w.kept;
      untouched = tt;
      idle = tt;
      outcome = λ image state i h.
          let m = mem s2 image in
          let i2 = w.kept.seen image i in
          let is : m (b + 4) ≡ v = loaded_on s1 s2 s2 (b + 4) v l (read_none s2) image i2 in
          outcome_of m (mem s3 image) (length image) state (without_item state Flight id)
          (command.DropFlight id) reply.Done h (item_sound s2 Flight id b at2 image state i2 h).id_range
          (drop_step state id (item_in m b) (item_is s2 Flight id b at2 image state i2 h) (omega (arith, is)))
          (w.gone image state i h);
    })
