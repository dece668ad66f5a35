-- The words of a task are read as that task.
use Rattle.std.proofs.Common.{◌≡◌, ◌≤◌, ◌<◌, ◌*◌, ◌/◌, ◌%◌, ◌^◌, ◌==◌, ◌&&◌, if◌then◌else◌, Bool, true, false, Option}
use Rattle.std.proofs.Common.{Some, None, Ok, ℕ, List, [], ◌∷◌, ◌++◌, length, map, decimal, codes, refl, ap, ◌∙◌, arith}
use Rattle.std.proofs.Common.{append-nil, length-append}
use Rattle.std.specs.List.{list_all, flat_map}
use Rattle.std.proofs.lemmas.Bool.{le-leb}
use Rattle.std.proofs.lemmas.Bool.Decides.{nat_tests}
use Rattle.std.proofs.lemmas.List.Splits.{slice_split_at, slice_split_none}
use Rattle.std.proofs.lemmas.List.{length-map}
use Rattle.vac_model.specs.declared.items.Kind.{Kind}
use Rattle.vac_model.specs.declared.items.Kind.TheVariants.{Car, Flight, Room}
use Rattle.vac_model.specs.declared.commands.Command.{Command}
use Rattle.vac_model.specs.declared.commands.Command.TheVariants as command
use Rattle.vac_model.specs.declared.tasks.Task.{Task}
use Rattle.vac_model.specs.declared.tasks.Task.TheVariants as task
use Rattle.vac_model.specs.Amounts.{is_id, is_amount, is_optional_amount, is_unit_count, is_list_length}
use Rattle.vac_model.specs.Amounts.{has_deletable_units}
use Rattle.vac_model.specs.Ranges.{is_change, is_command, is_task}
use Rattle.vac_lines.specs.Words.{is_separator}
use Rattle.vac_lines.specs.LineTable.{add_line, del_line, at_kind, at_id, at_amount, at_price, at_units, read_each}
use Rattle.vac_lines.specs.LineTable.{asks_of, change_line, cut_parts, update_line, words_task, reserve_line}
use Rattle.vac_lines.specs.LineTable.{one_command}
use Rattle.vac_model.specs.TaskText.{kind_word, item_words, price_word, units_words, command_words, further_words}
use Rattle.vac_model.specs.TaskText.{changes_words, task_words}
use Rattle.vac_lines.proofs.Decimals.{number_read, number_no_dash, number_no_separator, number_in_word}
use Rattle.vac_lines.proofs.Spacing.{Each, each_all, each_both, IsPlain}

-- both parts of a test
pub record Both (a b : Bool) : Type 0 where
  pub left : a ≡ true
  pub right : b ≡ true

pub both : (a b : Bool) → (a && b) ≡ true → Both a b
both true b e = record { left = refl; right = e }
both false b e = absurd (let k : false ≡ true = e in cc)

pub small_id : (n : ℕ) → is_id n ≡ true → (1 ≤ n) × (n < 2 ^ 32)
small_id n h = (grind (arith, nat_tests, h), grind (arith, nat_tests, h))

pub small_amount : (n : ℕ) → is_amount n ≡ true → n ≤ 1000000
small_amount n h = grind (arith, nat_tests, h)

pub small_units : (n : ℕ) → is_unit_count n ≡ true → (1 ≤ n) × (n ≤ 100)
small_units n h = (grind (arith, nat_tests, h), grind (arith, nat_tests, h))

-- each word is read as the value that was written
kind_read : (k : Kind) → at_kind (kind_word k) ≡ Ok k
kind_read Car = refl
kind_read Flight = refl
kind_read Room = refl

id_read : (n : ℕ) → is_id n ≡ true → at_id (decimal n) ≡ Ok n
id_read n h = let s = small_id n h in number_read 1 4294967295 n s.0 (omega (arith, s.1)) s.1

amount_read : (n : ℕ) → is_amount n ≡ true → at_amount (decimal n) ≡ Ok n
amount_read n h = let s = small_amount n h in number_read 0 1000000 n (omega arith) s (omega (arith, s))

units_read : (n : ℕ) → is_unit_count n ≡ true → at_units (decimal n) ≡ Ok n
units_read n h = let s = small_units n h in number_read 1 100 n s.0 s.1 (omega (arith, s.1))

price_read : (p : Option ℕ) → is_optional_amount p ≡ true → at_price (price_word p) ≡ Ok p
price_read None h = refl
price_read (Some n) h =
    let s = small_amount n h in
    rw (number_no_dash n (omega (arith, s)), amount_read n h) refl

-- the words of a command are plain, and none of them is a separator
abbrev pub IsSeparated : List ℕ → Type 0
IsSeparated word = is_separator word ≡ false

pub record IsOrdinary (word : List ℕ) : Type 0 where
  pub plain : IsPlain word
  pub apart : IsSeparated word

kind_ordinary : (k : Kind) → IsOrdinary (kind_word k)
kind_ordinary Car = record { plain = refl; apart = refl }
kind_ordinary Flight = record { plain = refl; apart = refl }
kind_ordinary Room = record { plain = refl; apart = refl }

number_ordinary : (n : ℕ) → n < 2 ^ 64 → IsOrdinary (decimal n)
number_ordinary n small = record { plain = number_in_word n small; apart = number_no_separator n small }

id_ordinary : (n : ℕ) → is_id n ≡ true → IsOrdinary (decimal n)
id_ordinary n h = number_ordinary n (let s = small_id n h in omega (arith, s.1))

amount_ordinary : (n : ℕ) → is_amount n ≡ true → IsOrdinary (decimal n)
amount_ordinary n h = number_ordinary n (let s = small_amount n h in omega (arith, s))

price_ordinary : (p : Option ℕ) → is_optional_amount p ≡ true → IsOrdinary (price_word p)
price_ordinary None h = record { plain = refl; apart = refl }
price_ordinary (Some n) h = amount_ordinary n h

units_case : (n : ℕ) (b : Bool) → is_unit_count n ≡ true → Each IsOrdinary (if b then [] else decimal n ∷ [])
units_case n true h = tt
units_case n false h = (number_ordinary n (let s = small_units n h in omega (arith, s.1)), tt)

units_ordinary : (n : ℕ) → is_unit_count n ≡ true → Each IsOrdinary (units_words n)
units_ordinary n h = units_case n (n == 1) h

constant : (word : List ℕ) → IsPlain word → IsSeparated word → IsOrdinary word
constant word p q = record { plain = p; apart = q }

-- the words of a valid command are ordinary
pub command_ordinary : (c : Command) → is_command c ≡ true → Each IsOrdinary (command_words c)
command_ordinary (command.Add kind id num price) h =
    let p = both (is_id id && is_amount num) (is_optional_amount price) h in
    let q = both (is_id id) (is_amount num) p.left in (
      constant (codes "add") refl refl,
      (
        kind_ordinary kind,
        (
          id_ordinary id q.left,
          (amount_ordinary num q.right, (price_ordinary price p.right, tt)),
        ),
      ),
    )
command_ordinary (command.Delete kind id num) h =
    let p = both (has_deletable_units kind && is_id id) (is_amount num) h in
    let q = both (has_deletable_units kind) (is_id id) p.left in (
      constant (codes "del") refl refl,
      (
        kind_ordinary kind,
        (
          id_ordinary id q.right,
          (amount_ordinary num p.right, tt),
        ),
      ),
    )
command_ordinary (command.DropFlight id) h = (
  constant (codes "del") refl refl,
  (constant (codes "flight") refl refl, (id_ordinary id h, tt)),
)
command_ordinary (command.NewCustomer id) h = (constant (codes "newcust") refl refl, (id_ordinary id h, tt))
command_ordinary (command.DropCustomer id) h = (constant (codes "dropcust") refl refl, (id_ordinary id h, tt))
command_ordinary (command.Free kind id) h = (
  constant (codes "free") refl refl,
  (kind_ordinary kind, (id_ordinary id h, tt)),
)
command_ordinary (command.Price kind id) h = (
  constant (codes "price") refl refl,
  (kind_ordinary kind, (id_ordinary id h, tt)),
)
command_ordinary (command.Bill id) h = (constant (codes "bill") refl refl, (id_ordinary id h, tt))
command_ordinary (command.Reserve customer kind id units) h =
    let p = both (is_id customer && is_id id) (is_unit_count units) h in
    let q = both (is_id customer) (is_id id) p.left in (
      constant (codes "reserve") refl refl,
      (
        id_ordinary customer q.left,
        (kind_ordinary kind, (id_ordinary id q.right, units_ordinary units p.right)),
      ),
    )
command_ordinary (command.Cancel customer kind id) h =
    let q = both (is_id customer) (is_id id) h in (
      constant (codes "cancel") refl refl,
      (
        id_ordinary customer q.left,
        (kind_ordinary kind, (id_ordinary id q.right, tt)),
      ),
    )
command_ordinary command.Audit h = (constant (codes "audit") refl refl, tt)

pub some_words : (c : Command) → 0 < length (command_words c)
some_words (command.Add kind id num price) = omega arith
some_words (command.Delete kind id num) = omega arith
some_words (command.DropFlight id) = omega arith
some_words (command.NewCustomer id) = omega arith
some_words (command.DropCustomer id) = omega arith
some_words (command.Free kind id) = omega arith
some_words (command.Price kind id) = omega arith
some_words (command.Bill id) = omega arith
some_words (command.Reserve customer kind id units) = omega arith
some_words (command.Cancel customer kind id) = omega arith
some_words command.Audit = omega arith

add_read : (kind : Kind) (id num : ℕ) (price : Option ℕ) → is_id id ≡ true → is_amount num ≡ true →
    is_optional_amount price ≡ true
    → add_line (kind_word kind ∷ decimal id ∷ decimal num ∷ price_word price ∷ []) ≡ Ok (command.Add kind id num price)
add_read kind id num price h g f = rw (kind_read kind, id_read id h, amount_read num g, price_read price f) refl

del_read : (kind : Kind) (id num : ℕ) → has_deletable_units kind ≡ true → is_id id ≡ true → is_amount num ≡ true
    → del_line (kind_word kind ∷ decimal id ∷ decimal num ∷ []) ≡ Ok (command.Delete kind id num)
del_read Car id num k h g = rw (id_read id h, amount_read num g) refl
del_read Room id num k h g = rw (id_read id h, amount_read num g) refl
del_read Flight id num k h g = absurd (let e : false ≡ true = k in cc)

drop_read : (id : ℕ) → is_id id ≡ true → del_line (codes "flight" ∷ decimal id ∷ []) ≡ Ok (command.DropFlight id)
drop_read id h = rw (id_read id h) refl

units_cases : (customer : ℕ) (kind : Kind) (id units : ℕ) (b : Bool) → (units == 1) ≡ b → is_id customer ≡ true →
    is_id id ≡ true → is_unit_count units ≡ true
    → reserve_line (decimal customer ∷ kind_word kind ∷ decimal id ∷ (if b then [] else decimal units ∷ [])) ≡ Ok
    (command.Reserve customer kind id units)
units_cases customer kind id units true e h g f =
    let single : 1 ≡ units = grind (arith, nat_tests, e) in
    rw (id_read customer h, kind_read kind, id_read id g) (ap
    (λ (n : ℕ). Ok (command.Reserve customer kind id n)) single)
units_cases customer kind id units false e h g f =
    rw (id_read customer h, kind_read kind, id_read id g, units_read units f) refl

-- the words of a valid command are read as that command
pub command_read : (c : Command) → is_command c ≡ true → words_task (command_words c) ≡ Ok (task.One c)
command_read (command.Add kind id num price) h =
    let p = both (is_id id && is_amount num) (is_optional_amount price) h in
    let q = both (is_id id) (is_amount num) p.left in
    ap one_command (add_read kind id num price q.left q.right p.right)
command_read (command.Delete kind id num) h =
    let p = both (has_deletable_units kind && is_id id) (is_amount num) h in
    let q = both (has_deletable_units kind) (is_id id) p.left in
    ap one_command (del_read kind id num q.left q.right p.right)
command_read (command.DropFlight id) h = ap one_command (drop_read id h)
command_read (command.NewCustomer id) h = rw (id_read id h) refl
command_read (command.DropCustomer id) h = rw (id_read id h) refl
command_read (command.Free kind id) h = rw (kind_read kind, id_read id h) refl
command_read (command.Price kind id) h = rw (kind_read kind, id_read id h) refl
command_read (command.Bill id) h = rw (id_read id h) refl
command_read (command.Reserve customer kind id units) h =
    let p = both (is_id customer && is_id id) (is_unit_count units) h in
    let q = both (is_id customer) (is_id id) p.left in
    ap one_command (units_cases customer kind id units (units == 1) refl q.left q.right p.right)
command_read (command.Cancel customer kind id) h =
    let q = both (is_id customer) (is_id id) h in
    rw (id_read customer q.left, kind_read kind, id_read id q.right) refl
command_read command.Audit h = refl

-- the words of a change are read as that change
change_read : (c : Command) → is_change c ≡ true → is_command c ≡ true → change_line (command_words c) ≡ Ok c
change_read (command.Add kind id num price) k h =
    let p = both (is_id id && is_amount num) (is_optional_amount price) h in
    let q = both (is_id id) (is_amount num) p.left in
    add_read kind id num price q.left q.right p.right
change_read (command.Delete kind id num) k h =
    let p = both (has_deletable_units kind && is_id id) (is_amount num) h in
    let q = both (has_deletable_units kind) (is_id id) p.left in
    del_read kind id num q.left q.right p.right
change_read (command.DropFlight id) k h = drop_read id h
change_read (command.NewCustomer id) k h = absurd (let e : false ≡ true = k in cc)
change_read (command.DropCustomer id) k h = absurd (let e : false ≡ true = k in cc)
change_read (command.Free kind id) k h = absurd (let e : false ≡ true = k in cc)
change_read (command.Price kind id) k h = absurd (let e : false ≡ true = k in cc)
change_read (command.Bill id) k h = absurd (let e : false ≡ true = k in cc)
change_read (command.Reserve customer kind id units) k h = absurd (let e : false ≡ true = k in cc)
change_read (command.Cancel customer kind id) k h = absurd (let e : false ≡ true = k in cc)
change_read command.Audit k h = absurd (let e : false ≡ true = k in cc)

-- true for a valid change
abbrev pub is_good_change : Command → Bool
is_good_change c = is_change c && is_command c

changes_read : (cs : List Command) → list_all is_good_change cs ≡ true →
    read_each change_line (map command_words cs) ≡ Ok cs
changes_read [] h = refl
changes_read (c ∷ cs) h =
    let p = both (is_good_change c) (list_all is_good_change cs) h in
    let q = both (is_change c) (is_command c) p.left in
    rw (change_read c q.left q.right, changes_read cs p.right) refl

apart_words : (ws : List (List ℕ)) → Each IsOrdinary ws → Each IsSeparated ws
apart_words [] h = tt
apart_words (w ∷ ws) h = (h.0.apart, apart_words ws h.1)

pub plain_words : (ws : List (List ℕ)) → Each IsOrdinary ws → Each IsPlain ws
plain_words [] h = tt
plain_words (w ∷ ws) h = (h.0.plain, plain_words ws h.1)

-- words, and changes after them, are cut at the separators
parts_cut : (ws : List (List ℕ)) (cs : List Command) → Each IsSeparated ws → list_all is_good_change cs ≡ true
    → cut_parts (ws ++ flat_map further_words cs) ≡ ws ∷ map command_words cs
parts_cut ws [] h g = ap cut_parts (append-nil ws) ∙ slice_split_none is_separator ws (each_all IsSeparated ws h)
parts_cut ws (c ∷ cs) h g =
    let p = both (is_good_change c) (list_all is_good_change cs) g in
    let q = both (is_change c) (is_command c) p.left in
    slice_split_at is_separator ws (codes ";") (command_words c ++ flat_map further_words cs)
    (each_all IsSeparated ws h) refl
    ∙ ap (λ (ps : List (List (List ℕ))). ws ∷ ps) (parts_cut (command_words c) cs
    (apart_words (command_words c) (command_ordinary c q.right)) p.right)

pub few_parts : (n : ℕ) → is_list_length n ≡ true → n ≤ 32
few_parts n h = grind (arith, nat_tests, h)

-- words that are cut into the parts of these changes are read as their update
parts_read : (ws : List (List ℕ)) (cs : List Command) → 0 < length ws → cut_parts ws ≡ map command_words cs →
    length cs ≤ 32
    → list_all is_good_change cs ≡ true → update_line ws ≡ Ok (task.Update cs)
parts_read [] cs some e few h = absurd (omega arith)
parts_read (w ∷ ws) cs some e few h =
    let number : length (map command_words cs) ≤ 32 = rw (length-map cs command_words) few in
    rw (e, le-leb (length (map command_words cs)) 32 number, changes_read cs h) refl

update_read : (cs : List Command) → is_task (task.Update cs) ≡ true →
    words_task (task_words (task.Update cs)) ≡ Ok (task.Update cs)
update_read [] h = absurd (let e : false ≡ true = h in cc)
update_read (c ∷ cs) h =
    let p = both (is_list_length (length (c ∷ cs))) (list_all is_good_change (c ∷ cs)) h in
    let q = both (is_good_change c) (list_all is_good_change cs) p.right in
    let r = both (is_change c) (is_command c) q.left in
    let some = some_words c in
    parts_read (command_words c ++ flat_map further_words cs) (c ∷ cs)
    (omega (arith, some, length-append (command_words c) (flat_map further_words cs)))
    (parts_cut (command_words c) cs (apart_words (command_words c) (command_ordinary c r.right)) q.right)
    (few_parts (length (c ∷ cs)) p.left) p.right

-- the words of the asks of a trip
abbrev pub ask_words : Kind × ℕ → List (List ℕ)
ask_words ask = item_words ask.0 ask.1

abbrev pub has_id : Kind × ℕ → Bool
has_id ask = is_id ask.1

asks_read : (asks : List (Kind × ℕ)) → list_all has_id asks ≡ true → asks_of (flat_map ask_words asks) ≡ Ok asks
asks_read [] h = refl
asks_read (ask ∷ asks) h =
    let p = both (has_id ask) (list_all has_id asks) h in
    rw (kind_read ask.0, id_read ask.1 p.left, asks_read asks p.right) refl

asks_number : (asks : List (Kind × ℕ)) → length (flat_map ask_words asks) ≡ 2 * length asks
asks_number [] = refl
asks_number (ask ∷ asks) = let e = asks_number asks in omega (arith, e)

pairs_number : (n m : ℕ) → m ≡ 2 * n → is_list_length n ≡ true → (m % 2 == 0 && is_list_length (m / 2)) ≡ true
pairs_number n m e h =
    let even : m % 2 ≡ 0 = omega (arith, e) in
    let half : m / 2 ≡ n = omega (arith, e) in
    rw (even, half, h) refl

trip_read : (customer : ℕ) (asks : List (Kind × ℕ)) → is_task (task.Trip customer asks) ≡ true →
    words_task (task_words (task.Trip customer asks)) ≡ Ok (task.Trip customer asks)
trip_read customer asks h =
    let p = both (is_id customer && is_list_length (length asks)) (list_all has_id asks) h in
    let q = both (is_id customer) (is_list_length (length asks)) p.left in
    rw (
      pairs_number (length asks) (length (flat_map ask_words asks)) (asks_number asks) q.right,
      id_read customer q.left,
      asks_read asks p.right,
    ) refl

-- the words of a valid task are read as that task
pub words_read : (t : Task) → is_task t ≡ true → words_task (task_words t) ≡ Ok t
words_read (task.One c) h = command_read c h
words_read (task.Trip customer asks) h = trip_read customer asks h
words_read (task.Leave customer) h = rw (id_read customer h) refl
words_read (task.Update changes) h = update_read changes h

asks_plain : (asks : List (Kind × ℕ)) → list_all has_id asks ≡ true → Each IsPlain (flat_map ask_words asks)
asks_plain [] h = tt
asks_plain (ask ∷ asks) h =
    let p = both (has_id ask) (list_all has_id asks) h in
    ((kind_ordinary ask.0).plain, ((id_ordinary ask.1 p.left).plain, asks_plain asks p.right))

command_plain : (c : Command) → is_command c ≡ true → Each IsPlain (command_words c)
command_plain c h = plain_words (command_words c) (command_ordinary c h)

further_plain : (cs : List Command) → list_all is_good_change cs ≡ true → Each IsPlain (flat_map further_words cs)
further_plain [] h = tt
further_plain (c ∷ cs) h =
    let p = both (is_good_change c) (list_all is_good_change cs) h in
    let q = both (is_change c) (is_command c) p.left in (
      refl,
      each_both IsPlain (command_words c) (flat_map further_words cs) (command_plain c q.right)
          (further_plain cs p.right),
    )

changes_plain : (cs : List Command) → list_all is_good_change cs ≡ true → Each IsPlain (changes_words cs)
changes_plain [] h = tt
changes_plain (c ∷ cs) h =
    let p = both (is_good_change c) (list_all is_good_change cs) h in
    let q = both (is_change c) (is_command c) p.left in
    each_both IsPlain (command_words c) (flat_map further_words cs) (command_plain c q.right) (further_plain cs p.right)

-- the words of a valid task are plain
pub words_plain : (t : Task) → is_task t ≡ true → Each IsPlain (task_words t)
words_plain (task.One c) h = command_plain c h
words_plain (task.Trip customer asks) h =
    let p = both (is_id customer && is_list_length (length asks)) (list_all has_id asks) h in
    let q = both (is_id customer) (is_list_length (length asks)) p.left in
    (refl, ((id_ordinary customer q.left).plain, asks_plain asks p.right))
words_plain (task.Leave customer) h = (refl, ((id_ordinary customer h).plain, tt))
words_plain (task.Update changes) h =
    (refl, changes_plain changes (both (is_list_length (length changes)) (list_all is_good_change changes) h).right)

-- a task has at least one word
pub task_some : (t : Task) → 0 < length (task_words t)
task_some (task.One c) = some_words c
task_some (task.Trip customer asks) = omega arith
task_some (task.Leave customer) = omega arith
task_some (task.Update changes) = omega arith
