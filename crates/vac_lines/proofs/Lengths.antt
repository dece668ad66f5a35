-- The lengths of the lines of tasks.
use Rattle.std.proofs.Common.{◌≡◌, ◌≤◌, ◌<◌, ◌+◌, ◌*◌, ◌==◌, ◌&&◌, ◌||◌, if◌then◌else◌, Bool, true, false, Option, Some}
use Rattle.std.proofs.Common.{None, ℕ, List, [], ◌∷◌, ◌++◌, length, decimal, refl, arith, length-append, nat_le}
use Rattle.std.specs.List.{list_all, flat_map}
use Rattle.std.proofs.lemmas.Bool.Decides.{nat_tests}
use Rattle.std.proofs.lemmas.Fmt.{length-decimal-le}
use Rattle.vac_model.specs.declared.items.Kind.{Kind}
use Rattle.vac_model.specs.declared.items.Kind.TheVariants.{Car, Flight, Room}
use Rattle.vac_model.specs.declared.commands.Command.{Command}
use Rattle.vac_model.specs.declared.commands.Command.TheVariants as command
use Rattle.vac_model.specs.declared.tasks.Task.{Task}
use Rattle.vac_model.specs.declared.tasks.Task.TheVariants as task
use Rattle.vac_model.specs.Amounts.{is_id, is_amount, is_optional_amount, is_unit_count, is_list_length}
use Rattle.vac_model.specs.Amounts.{has_deletable_units}
use Rattle.vac_model.specs.Ranges.{is_change, is_command, is_task}
use Rattle.vac_model.specs.TaskText.{kind_word, price_word, units_words, command_words, further_words, changes_words}
use Rattle.vac_lines.specs.TaskText.{is_short, is_short_price}
use Rattle.vac_model.specs.TaskText.{task_words, task_text, spaced, words_text}
use Rattle.vac_lines.specs.TaskText.{is_short_change, is_fitting}
use Rattle.vac_lines.proofs.TaskReading.{both, small_id, small_amount, small_units, few_parts, ask_words, has_id}
use Rattle.vac_lines.proofs.TaskReading.{is_good_change}

-- the number of bytes of words, each after a space
abbrev size : List (List ℕ) → ℕ
size [] = 0
size (word ∷ words) = 1 + length word + size words

size_both : (xs ys : List (List ℕ)) → size (xs ++ ys) ≡ size xs + size ys
size_both [] ys = omega arith
size_both (x ∷ xs) ys = let e = size_both xs ys in omega (arith, e)

length_spaced : (words : List (List ℕ)) → length (spaced words) ≡ size words
length_spaced [] = refl
length_spaced (word ∷ words) = let e = length_spaced words in let f = length-append word (spaced words) in
    omega (arith, e, f)

length_text : (words : List (List ℕ)) → length (words_text words) ≤ size words
length_text [] = omega arith
length_text (word ∷ words) = let e = length_spaced words in let f = length-append word (spaced words) in
    omega (arith, e, f)

kind_size : (k : Kind) → length (kind_word k) ≤ 6
kind_size Car = omega arith
kind_size Flight = omega arith
kind_size Room = omega arith

id_size : (n : ℕ) → is_id n ≡ true → length (decimal n) ≤ 10
id_size n h = let s = small_id n h in length-decimal-le 10 n (omega arith) (omega (arith, s.1)) (omega (arith, s.1))

amount_size : (n : ℕ) → is_amount n ≡ true → length (decimal n) ≤ 7
amount_size n h = let s = small_amount n h in length-decimal-le 7 n (omega arith) (omega (arith, s)) (omega (arith, s))

price_size : (p : Option ℕ) → is_optional_amount p ≡ true → length (price_word p) ≤ 7
price_size None h = omega arith
price_size (Some n) h = amount_size n h

units_case : (n : ℕ) (b : Bool) → is_unit_count n ≡ true → size (if b then [] else decimal n ∷ []) ≤ 4
units_case n true h = omega arith
units_case n false h =
    let s = small_units n h in
    let few = length-decimal-le 3 n (omega arith) (omega (arith, s.1)) (omega (arith, s.1)) in
    omega (arith, few)

units_size : (n : ℕ) → is_unit_count n ≡ true → size (units_words n) ≤ 4
units_size n h = units_case n (n == 1) h

-- an add with numbers of this many digits
add_size : (i a : ℕ) (kind : Kind) (id num : ℕ) (price : Option ℕ) → length (decimal id) ≤ i →
    length (decimal num) ≤ a → length (price_word price) ≤ a
    → size (command_words (command.Add kind id num price)) ≤ 14 + i + 2 * a
add_size i a kind id num price p q r = let k = kind_size kind in omega (arith, k, p, q, r)

delete_size : (i a : ℕ) (kind : Kind) (id num : ℕ) → length (decimal id) ≤ i → length (decimal num) ≤ a
    → size (command_words (command.Delete kind id num)) ≤ 14 + i + 2 * a
delete_size i a kind id num p q = let k = kind_size kind in omega (arith, k, p, q)

drop_size : (i a : ℕ) (id : ℕ) → length (decimal id) ≤ i → size (command_words (command.DropFlight id)) ≤ 14 + i + 2 * a
drop_size i a id p = omega (arith, p)

-- the words of a valid command
command_size : (c : Command) → is_command c ≡ true → size (command_words c) ≤ 41
command_size (command.Add kind id num price) h =
    let p = both (is_id id && is_amount num) (is_optional_amount price) h in
    let q = both (is_id id) (is_amount num) p.left in
    let s = add_size 10 7 kind id num price (id_size id q.left) (amount_size num q.right) (price_size price p.right) in
    omega (arith, s)
command_size (command.Delete kind id num) h =
    let p = both (has_deletable_units kind && is_id id) (is_amount num) h in
    let q = both (has_deletable_units kind) (is_id id) p.left in
    let s = delete_size 10 7 kind id num (id_size id q.right) (amount_size num p.right) in
    omega (arith, s)
command_size (command.DropFlight id) h = let s = id_size id h in omega (arith, s)
command_size (command.NewCustomer id) h = let s = id_size id h in omega (arith, s)
command_size (command.DropCustomer id) h = let s = id_size id h in omega (arith, s)
command_size (command.Free kind id) h = let s = id_size id h in let k = kind_size kind in omega (arith, s, k)
command_size (command.Price kind id) h = let s = id_size id h in let k = kind_size kind in omega (arith, s, k)
command_size (command.Bill id) h = let s = id_size id h in omega (arith, s)
command_size (command.Reserve customer kind id units) h =
    let p = both (is_id customer && is_id id) (is_unit_count units) h in
    let q = both (is_id customer) (is_id id) p.left in
    let c = id_size customer q.left in
    let s = id_size id q.right in
    let k = kind_size kind in
    let u = units_size units p.right in
    omega (arith, c, s, k, u)
command_size (command.Cancel customer kind id) h =
    let q = both (is_id customer) (is_id id) h in
    let c = id_size customer q.left in
    let s = id_size id q.right in
    let k = kind_size kind in
    omega (arith, c, s, k)
command_size command.Audit h = omega arith

asks_size : (asks : List (Kind × ℕ)) → list_all has_id asks ≡ true → size (flat_map ask_words asks) ≤ 18 * length asks
asks_size [] h = omega arith
asks_size (ask ∷ asks) h =
    let p = both (has_id ask) (list_all has_id asks) h in
    let k = kind_size ask.0 in
    let s = id_size ask.1 p.left in
    let more = asks_size asks p.right in
    omega (arith, k, s, more)

-- a valid change, and one with short numbers
long_change : (c : Command) → is_change c ≡ true → is_command c ≡ true → size (command_words c) ≤ 38
long_change (command.Add kind id num price) k h =
    let p = both (is_id id && is_amount num) (is_optional_amount price) h in
    let q = both (is_id id) (is_amount num) p.left in
    add_size 10 7 kind id num price (id_size id q.left) (amount_size num q.right) (price_size price p.right)
long_change (command.Delete kind id num) k h =
    let p = both (has_deletable_units kind && is_id id) (is_amount num) h in
    let q = both (has_deletable_units kind) (is_id id) p.left in
    delete_size 10 7 kind id num (id_size id q.right) (amount_size num p.right)
long_change (command.DropFlight id) k h = drop_size 10 7 id (id_size id h)
long_change (command.NewCustomer id) k h = absurd (let e : false ≡ true = k in cc)
long_change (command.DropCustomer id) k h = absurd (let e : false ≡ true = k in cc)
long_change (command.Free kind id) k h = absurd (let e : false ≡ true = k in cc)
long_change (command.Price kind id) k h = absurd (let e : false ≡ true = k in cc)
long_change (command.Bill id) k h = absurd (let e : false ≡ true = k in cc)
long_change (command.Reserve customer kind id units) k h = absurd (let e : false ≡ true = k in cc)
long_change (command.Cancel customer kind id) k h = absurd (let e : false ≡ true = k in cc)
long_change command.Audit k h = absurd (let e : false ≡ true = k in cc)

short_size : (n : ℕ) → is_short n ≡ true → length (decimal n) ≤ 5
short_size n h = let s : n < 100000 = grind (arith, nat_tests, h) in
    length-decimal-le 5 n (omega arith) (omega (arith, s)) (omega (arith, s))

short_price_size : (p : Option ℕ) → is_short_price p ≡ true → length (price_word p) ≤ 5
short_price_size None h = omega arith
short_price_size (Some n) h = short_size n h

short_change : (c : Command) → is_short_change c ≡ true → size (command_words c) ≤ 29
short_change (command.Add kind id num price) h =
    let p = both (is_short id && is_short num) (is_short_price price) h in
    let q = both (is_short id) (is_short num) p.left in
    add_size 5 5 kind id num price (short_size id q.left) (short_size num q.right) (short_price_size price p.right)
short_change (command.Delete kind id num) h =
    let q = both (is_short id) (is_short num) h in
    delete_size 5 5 kind id num (short_size id q.left) (short_size num q.right)
short_change (command.DropFlight id) h = drop_size 5 5 id (short_size id h)
short_change (command.NewCustomer id) h = absurd (let e : false ≡ true = h in cc)
short_change (command.DropCustomer id) h = absurd (let e : false ≡ true = h in cc)
short_change (command.Free kind id) h = absurd (let e : false ≡ true = h in cc)
short_change (command.Price kind id) h = absurd (let e : false ≡ true = h in cc)
short_change (command.Bill id) h = absurd (let e : false ≡ true = h in cc)
short_change (command.Reserve customer kind id units) h = absurd (let e : false ≡ true = h in cc)
short_change (command.Cancel customer kind id) h = absurd (let e : false ≡ true = h in cc)
short_change command.Audit h = absurd (let e : false ≡ true = h in cc)

-- changes, each after a separator
long_changes : (cs : List Command) → list_all is_good_change cs ≡ true →
    size (flat_map further_words cs) ≤ 40 * length cs
long_changes [] h = omega arith
long_changes (c ∷ cs) h =
    let p = both (is_good_change c) (list_all is_good_change cs) h in
    let q = both (is_change c) (is_command c) p.left in
    let s = long_change c q.left q.right in
    let more = long_changes cs p.right in
    let e = size_both (command_words c) (flat_map further_words cs) in
    omega (arith, s, more, e)

short_changes : (cs : List Command) → list_all is_short_change cs ≡ true →
    size (flat_map further_words cs) ≤ 31 * length cs
short_changes [] h = omega arith
short_changes (c ∷ cs) h =
    let p = both (is_short_change c) (list_all is_short_change cs) h in
    let s = short_change c p.left in
    let more = short_changes cs p.right in
    let e = size_both (command_words c) (flat_map further_words cs) in
    omega (arith, s, more, e)

-- the first change has no separator
changes_size : (cs : List Command) → size (changes_words cs) ≤ size (flat_map further_words cs)
changes_size [] = omega arith
changes_size (c ∷ cs) = omega arith

few_changes : (cs : List Command) → list_all is_good_change cs ≡ true → nat_le (length cs) 25 ≡ true →
    size (changes_words cs) ≤ 1000
few_changes cs h few =
    let n : length cs ≤ 25 = grind (arith, nat_tests, few) in
    omega (arith, n, long_changes cs h, changes_size cs)

small_changes : (cs : List Command) → length cs ≤ 32 → list_all is_short_change cs ≡ true →
    size (changes_words cs) ≤ 1000
small_changes cs n h = omega (arith, n, short_changes cs h, changes_size cs)

fitting_changes : (cs : List Command) (b : Bool) → nat_le (length cs) 25 ≡ b →
    (b || list_all is_short_change cs) ≡ true → list_all is_good_change cs ≡ true → length cs ≤ 32
    → size (changes_words cs) ≤ 1000
fitting_changes cs true e f h n = few_changes cs h e
fitting_changes cs false e f h n = small_changes cs n f

-- the line of a task fits
pub task_fits : (t : Task) → is_task t ≡ true → is_fitting t ≡ true → length (task_text t) ≤ 1024
task_fits (task.One c) h f = let s = command_size c h in let l = length_text (command_words c) in omega (arith, s, l)
task_fits (task.Trip customer asks) h f =
    let p = both (is_id customer && is_list_length (length asks)) (list_all has_id asks) h in
    let q = both (is_id customer) (is_list_length (length asks)) p.left in
    let l = length_text (task_words (task.Trip customer asks)) in
    omega (arith, l, id_size customer q.left, asks_size asks p.right, few_parts (length asks) q.right)
task_fits (task.Leave customer) h f =
    let l = length_text (task_words (task.Leave customer)) in
    omega (arith, l, id_size customer h)
task_fits (task.Update changes) h f =
    let p = both (is_list_length (length changes)) (list_all is_good_change changes) h in
    let s = fitting_changes changes (nat_le (length changes) 25) refl f p.right (few_parts (length changes) p.left) in
    let l = length_text (task_words (task.Update changes)) in
    omega (arith, s, l)
