-- Questions about items.
use Rattle.std.proofs.Common.{◌≡◌, ℕ, ◌+◌, Some, None, refl, ap}
use Rattle.tx_memory.specs.View.{View, Loaded}
use Rattle.vac_model.specs.declared.items.Kind.{Kind}
use Rattle.vac_model.specs.declared.commands.Command.TheVariants as command
use Rattle.vac_model.specs.declared.replies.Reply.TheVariants as reply
use Rattle.vac_model.specs.Step.{number_answered}
use Rattle.vac_records.specs.Items.{mem}
use Rattle.vac_records.specs.InMemory.{OnlyRead}
use Rattle.vac_tasks.specs.Entries.{LacksItem, HasItemAt}
use Rattle.vac_tasks.specs.Ran.{RanQuestion}
use Rattle.vac_tasks.proofs.Held.{read_none, item_is, item_none, asked_reads, asked_after}

-- a load only reads
pub read_by : (s s' : View) (a v : ℕ) → Loaded s s' a v → OnlyRead s s'
read_by s s' a v l = record { kept = l.kept; writes = l.writes }

pub free_missing : (s s1 : View) (kind : Kind) (id : ℕ) → OnlyRead s s1 → LacksItem s1 kind id →
    RanQuestion s s1 (command.Free kind id) (reply.Number None)
free_missing s s1 kind id reads l =
    asked_after s s1 s1 (command.Free kind id) (reply.Number None) reads
    (asked_reads s1 s1 (command.Free kind id) (reply.Number None) (read_none s1) (λ image state i h.
    let none = item_none s1 kind id l image state i h in
    rw none refl))

pub price_missing : (s s1 : View) (kind : Kind) (id : ℕ) → OnlyRead s s1 → LacksItem s1 kind id →
    RanQuestion s s1 (command.Price kind id) (reply.Number None)
price_missing s s1 kind id reads l =
    asked_after s s1 s1 (command.Price kind id) (reply.Number None) reads
    (asked_reads s1 s1 (command.Price kind id) (reply.Number None) (read_none s1) (λ image state i h.
    let none = item_none s1 kind id l image state i h in
    rw none refl))

pub free_there : (s s1 s2 : View) (kind : Kind) (id b v : ℕ) → OnlyRead s s1 → HasItemAt s1 kind id b →
    Loaded s1 s2 (b + 5) v → RanQuestion s s2 (command.Free kind id) (reply.Number (Some v))
free_there s s1 s2 kind id b v reads at l =
    asked_after s s1 s2 (command.Free kind id) (reply.Number (Some v)) reads
    (asked_reads s1 s2 (command.Free kind id) (reply.Number (Some v)) (read_by s1 s2 (b + 5) v l)
    (λ image state i h.
    let some = item_is s1 kind id b at image state (l.kept.seen image i) h in
    let is : mem s1 image (b + 5) ≡ v = l.answer image i in
    rw some (ap (λ (z : ℕ). number_answered state (Some z)) is)))

pub price_there : (s s1 s2 : View) (kind : Kind) (id b v : ℕ) → OnlyRead s s1 → HasItemAt s1 kind id b →
    Loaded s1 s2 (b + 7) v → RanQuestion s s2 (command.Price kind id) (reply.Number (Some v))
price_there s s1 s2 kind id b v reads at l =
    asked_after s s1 s2 (command.Price kind id) (reply.Number (Some v)) reads
    (asked_reads s1 s2 (command.Price kind id) (reply.Number (Some v)) (read_by s1 s2 (b + 7) v l)
    (λ image state i h.
    let some = item_is s1 kind id b at image state (l.kept.seen image i) h in
    let is : mem s1 image (b + 7) ≡ v = l.answer image i in
    rw some (ap (λ (z : ℕ). number_answered state (Some z)) is)))
