-- The code of a task and a reply can be read back.
use Rattle.std.proofs.Common.{arith}
use Rattle.std.proofs.lemmas.Bool.Decides.{nat_tests}
use Rattle.std.proofs.Common.{◌≡◌, ℕ, List, [], ◌∷◌, ◌++◌, length, refl, ap, ◌∙◌, append_assoc}
use Rattle.std.specs.Prelude.{Option, Some, None, suc, zero, ◌==◌, if◌then◌else◌}
use Rattle.std.specs.List.{flat_map}
use Rattle.vac_model.specs.declared.items.Kind.{Kind}
use Rattle.vac_model.specs.declared.commands.Command.{Command}
use Rattle.vac_model.specs.declared.commands.Command.TheVariants as command
use Rattle.vac_model.specs.declared.commands.Refusal.{Refusal}
use Rattle.vac_model.specs.declared.commands.Refusal.TheVariants.{NeedsCountAndPrice, TotalLimit, Full, NoItem, NotFree}
use Rattle.vac_model.specs.declared.commands.Refusal.TheVariants.{InUse, Exists, NoCustomer, SoldOut, NotBooked}
use Rattle.vac_model.specs.declared.commands.Refusal.TheVariants.{UnitLimit}
use Rattle.vac_model.specs.declared.replies.Reply.{Reply}
use Rattle.vac_model.specs.declared.replies.Reply.TheVariants as reply
use Rattle.vac_model.specs.declared.replies.Report.{Report}
use Rattle.vac_model.specs.declared.replies.CustomerOutcome.{CustomerOutcome}
use Rattle.vac_model.specs.declared.replies.CustomerOutcome.TheVariants as joined
use Rattle.vac_model.specs.declared.replies.Pick.{Pick}
use Rattle.vac_model.specs.declared.tasks.Task.{Task}
use Rattle.vac_model.specs.declared.tasks.Task.TheVariants as task
use Rattle.vac_model.specs.State.{Place}
use Rattle.vac_model.specs.Coded.{kind_of_number, kind_back}
use Rattle.vac_model.specs.Code.{option_code, list_code, number_code, ask_code, command_code, task_code, why_code}
use Rattle.vac_model.specs.Code.{joined_code, pick_code, reply_code, code}

-- a value read from the front of a list, and the rest of the list
abbrev Read : Type 0 → Type 0
Read X = X × List ℕ

abbrev head : List ℕ → ℕ
head [] = 0
head (x ∷ xs) = x

abbrev tail : List ℕ → List ℕ
tail [] = []
tail (x ∷ xs) = xs

-- a reader reads back the values that a code wrote
abbrev ReadsBack : {X : Type 0} → (X → List ℕ) → (List ℕ → Read X) → Type 0
ReadsBack {X} write read = (x : X) (rest : List ℕ) → read (write x ++ rest) ≡ (x, rest)

abbrev read_option : {X : Type 0} → (List ℕ → Read X) → List ℕ → Read (Option X)
read_option read l = if head l == 0 then (None, tail l) else (let r = read (tail l) in (Some r.0, r.1))

option_back : {X : Type 0} (write : X → List ℕ) (read : List ℕ → Read X) → ReadsBack write read →
    ReadsBack (option_code write) (read_option read)
option_back write read back None rest = refl
option_back {X} write read back (Some x) rest = ap (λ (r : Read X). (Some r.0, r.1)) (back x rest)

abbrev read_items : {X : Type 0} → (List ℕ → Read X) → ℕ → List ℕ → Read (List X)
read_items read zero l = ([], l)
read_items read (suc n) l = let first = read l in let others = read_items read n first.1 in
    (first.0 ∷ others.0, others.1)

abbrev read_list : {X : Type 0} → (List ℕ → Read X) → List ℕ → Read (List X)
read_list read l = read_items read (head l) (tail l)

items_back : {X : Type 0} (write : X → List ℕ) (read : List ℕ → Read X) → ReadsBack write read →
    (xs : List X) (rest : List ℕ)
    → read_items read (length xs) (flat_map write xs ++ rest) ≡ (xs, rest)
items_back write read back [] rest = refl
items_back {X} write read back (x ∷ xs) rest =
    let front : read (flat_map write (x ∷ xs) ++ rest) ≡ (x, flat_map write xs ++ rest) =
    ap read (append_assoc (write x) (flat_map write xs) rest) ∙ back x (flat_map write xs ++ rest) in
    ap (λ (r : Read X). let others = read_items read (length xs) r.1 in (r.0 ∷ others.0, others.1)) front
    ∙ ap (λ (r : Read (List X)). (x ∷ r.0, r.1)) (items_back write read back xs rest)

list_back : {X : Type 0} (write : X → List ℕ) (read : List ℕ → Read X) → ReadsBack write read →
    ReadsBack (list_code write) (read_list read)
list_back write read back xs rest = items_back write read back xs rest

abbrev read_number : List ℕ → Read ℕ
read_number l = (head l, tail l)

number_back : ReadsBack number_code read_number
number_back n rest = refl

abbrev read_ask : List ℕ → Read Place
read_ask l = ((kind_of_number (head l), head (tail l)), tail (tail l))

ask_back : ReadsBack ask_code read_ask
ask_back ask rest = ap (λ (k : Kind). ((k, ask.1), rest)) (kind_back ask.0)

-- the fields of a command, after its index
abbrev read_command : List ℕ → Read Command
read_command l =
    let kind = kind_of_number (head (tail l)) in
    let a = head (tail l) in
    let b = head (tail (tail l)) in
    let c = head (tail (tail (tail l))) in
    let d = head (tail (tail (tail (tail l)))) in
    let second = kind_of_number b in
    let price = read_option read_number (tail (tail (tail (tail l)))) in
    if head l == 0 then (command.Add kind b c price.0, price.1)
    else if head l == 1 then (command.Delete kind b c, tail (tail (tail (tail l))))
    else if head l == 2 then (command.DropFlight a, tail (tail l))
    else if head l == 3 then (command.NewCustomer a, tail (tail l))
    else if head l == 4 then (command.DropCustomer a, tail (tail l))
    else if head l == 5 then (command.Free kind b, tail (tail (tail l)))
    else if head l == 6 then (command.Price kind b, tail (tail (tail l)))
    else if head l == 7 then (command.Bill a, tail (tail l))
    else if head l == 8 then (command.Reserve a second c d, tail (tail (tail (tail (tail l)))))
    else if head l == 9 then (command.Cancel a second c, tail (tail (tail (tail l))))
    else (command.Audit, tail l)

command_back : ReadsBack command_code read_command
command_back (command.Add kind id num price) rest = grind (arith, nat_tests, option_back, number_back)
command_back (command.Delete kind id num) rest = ap (λ (k : Kind). (command.Delete k id num, rest)) (kind_back kind)
command_back (command.DropFlight id) rest = refl
command_back (command.NewCustomer id) rest = refl
command_back (command.DropCustomer id) rest = refl
command_back (command.Free kind id) rest = ap (λ (k : Kind). (command.Free k id, rest)) (kind_back kind)
command_back (command.Price kind id) rest = ap (λ (k : Kind). (command.Price k id, rest)) (kind_back kind)
command_back (command.Bill id) rest = refl
command_back (command.Reserve customer kind id num) rest = ap (λ (k : Kind). (command.Reserve customer k id num, rest))
    (kind_back kind)
command_back (command.Cancel customer kind id) rest = ap (λ (k : Kind). (command.Cancel customer k id, rest))
    (kind_back kind)
command_back command.Audit rest = refl

abbrev read_task : List ℕ → Read Task
read_task l =
    if head l == 0 then (let c = read_command (tail l) in (task.One c.0, c.1))
    else if head l == 1 then (let asks = read_list read_ask (tail (tail l)) in
    (task.Trip (head (tail l)) asks.0, asks.1))
    else if head l == 2 then (task.Leave (head (tail l)), tail (tail l))
    else (let changes = read_list read_command (tail l) in (task.Update changes.0, changes.1))

pub task_back : ReadsBack task_code read_task
task_back (task.One c) rest = ap (λ (r : Read Command). (task.One r.0, r.1)) (command_back c rest)
task_back (task.Trip customer asks) rest = ap (λ (r : Read (List Place)). (task.Trip customer r.0, r.1))
    (list_back ask_code read_ask ask_back asks rest)
task_back (task.Leave customer) rest = refl
task_back (task.Update changes) rest = ap (λ (r : Read (List Command)). (task.Update r.0, r.1))
    (list_back command_code read_command command_back changes rest)

abbrev why_at : ℕ → Refusal
why_at n =
    if n == 0 then NeedsCountAndPrice
    else if n == 1 then TotalLimit
    else if n == 2 then Full
    else if n == 3 then NoItem
    else if n == 4 then NotFree
    else if n == 5 then InUse
    else if n == 6 then Exists
    else if n == 7 then NoCustomer
    else if n == 8 then SoldOut
    else if n == 9 then NotBooked
    else UnitLimit

abbrev read_why : List ℕ → Read Refusal
read_why l = (why_at (head l), tail l)

why_back : ReadsBack why_code read_why
why_back NeedsCountAndPrice rest = refl
why_back TotalLimit rest = refl
why_back Full rest = refl
why_back NoItem rest = refl
why_back NotFree rest = refl
why_back InUse rest = refl
why_back Exists rest = refl
why_back NoCustomer rest = refl
why_back SoldOut rest = refl
why_back NotBooked rest = refl
why_back UnitLimit rest = refl

abbrev read_joined : List ℕ → Read CustomerOutcome
read_joined l =
    if head l == 0 then (joined.NotAsked, tail l)
    else if head l == 1 then (joined.Added, tail l)
    else (let why = read_why (tail l) in (joined.Refused why.0, why.1))

joined_back : ReadsBack joined_code read_joined
joined_back joined.NotAsked rest = refl
joined_back joined.Added rest = refl
joined_back (joined.Refused why) rest = ap (λ (r : Read Refusal). (joined.Refused r.0, r.1)) (why_back why rest)

abbrev read_pick : List ℕ → Read Pick
read_pick l =
    let refused = read_option read_why (tail (tail l)) in
    (record { id = head l; price = head (tail l); refused = refused.0 }, refused.1)

pick_back : ReadsBack pick_code read_pick
pick_back p rest = grind (arith, nat_tests, option_back, why_back)

abbrev read_report : List ℕ → Read Report
read_report l =
    let l2 = tail (tail l) in
    let l4 = tail (tail l2) in
    let l6 = tail (tail l4) in
    let l8 = tail (tail l6) in (
      record {
        cars = head l;
        flights = head (tail l);
        rooms = head l2;
        customers = head (tail l2);
        bookings = head l4;
        used = head (tail l4);
        free = head l6;
        total =
            head (tail l6);
        billed = head l8;
      },
      tail l8,
    )

abbrev read_reply : List ℕ → Read Reply
read_reply l =
    if head l == 0 then (reply.Done, tail l)
    else if head l == 1 then (let n = read_option read_number (tail l) in (reply.Number n.0, n.1))
    else if head l == 2 then (let r = read_report (tail l) in (reply.Report r.0, r.1))
    else if head l == 3 then (let why = read_why (tail l) in (reply.No why.0, why.1))
    else if head l == 4 then
    (let j = read_joined (tail l) in
    let picks = read_list (read_option read_pick) j.1 in
    (reply.Trip (record { joined = j.0; picks = picks.0 }), picks.1))
    else (let refused = read_list (read_option read_why) (tail (tail l)) in
    (reply.Update (record { len = head (tail l); refused = refused.0 }), refused.1))

pub reply_back : ReadsBack reply_code read_reply
reply_back reply.Done rest = refl
reply_back (reply.Number n) rest = ap (λ (r : Read (Option ℕ)). (reply.Number r.0, r.1))
    (option_back number_code read_number number_back n rest)
reply_back (reply.Report r) rest = refl
reply_back (reply.No why) rest = ap (λ (r : Read Refusal). (reply.No r.0, r.1)) (why_back why rest)
reply_back (reply.Trip t) rest =
    let picks = list_code (option_code pick_code) t.picks in
    let front : read_joined ((joined_code t.joined ++ picks) ++ rest) ≡ (t.joined, picks ++ rest) =
    ap read_joined (append_assoc (joined_code t.joined) picks rest) ∙ joined_back t.joined (picks ++ rest) in
    ap (λ (j : Read CustomerOutcome). let ps = read_list (read_option read_pick) j.1 in
    (reply.Trip (record { joined = j.0; picks = ps.0 }), ps.1)) front
    ∙ ap (λ (ps : Read (List (Option Pick))). (reply.Trip (record { joined = t.joined; picks = ps.0 }), ps.1))
    (list_back (option_code pick_code) (read_option read_pick) (option_back pick_code read_pick pick_back) t.picks rest)
reply_back (reply.Update u) rest =
    ap (λ (r : Read (List (Option Refusal))). (reply.Update (record { len = u.len; refused = r.0 }), r.1))
    (list_back (option_code why_code) (read_option read_why) (option_back why_code read_why why_back) u.refused rest)

-- no two pairs of a task and a reply have one code
pub code_determines : (t t' : Task) (r r' : Reply) → code t r ≡ code t' r' → (t ≡ t') × (r ≡ r')
code_determines t t' r r' e = grind (
  arith,
  nat_tests,
  task_back t (reply_code r),
  task_back t' (reply_code r'),
  reply_back r [],
  reply_back r' [],
)
