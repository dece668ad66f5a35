-- The task of a line, or its first fault. The words are tested from left to right, once their
-- number is right.
use Rattle.std.specs.Prelude.{ℕ, ◌==◌, ◌%◌, ◌/◌, ◌&&◌, ◌||◌, Bool, Option, Some, None, Result, Ok, Err, List, [], ◌∷◌, length, nat_le, nat_lt, codes, if◌then◌else◌}
use Rattle.std.specs.Option.{ok_or}
use Rattle.std.specs.List.{list_any, slice_split}
use Rattle.std.specs.Str.{bytes_eq}
use Rattle.vac_model.specs.Amounts.{is_list_length}
use Rattle.vac_model.specs.declared.items.Kind.{Kind}
use Rattle.vac_model.specs.declared.commands.Command.{Command}
use Rattle.vac_model.specs.declared.commands.Command.TheVariants as command
use Rattle.vac_model.specs.declared.tasks.Task.{Task}
use Rattle.vac_model.specs.declared.tasks.Task.TheVariants as task
use Rattle.vac_lines.specs.declared.fault.LineFault.{LineFault}
use Rattle.vac_lines.specs.declared.fault.LineFault.TheVariants.{LongLine, BadByte, BadCommand, BadCount, BadKind, BadNumber}
use Rattle.vac_lines.specs.declared.line.TheConstants.{LINE_BYTES}
use Rattle.vac_model.specs.declared.limits.TheConstants.{MOST_AMOUNT, MOST_ID, MOST_UNITS_AT_ONCE, MOST_PARTS}
use Rattle.vac_lines.specs.declared.words.TheConstants.{MOST_DIGITS}
use Rattle.vac_lines.specs.declared.names.LineName.{LineName}
use Rattle.vac_lines.specs.declared.names.LineName.TheVariants as name
use Rattle.vac_lines.specs.Lines.{words_of}
use Rattle.vac_lines.specs.Names.{line_name}
use Rattle.vac_lines.specs.Words.{kind_of, number_between, is_dash, is_separator}

infixl 10 ◌>>=◌
-- continues with the value read; the first fault ends the reading
abbrev pub ◌>>=◌ : {A B : Type 0} → Result A LineFault → (A → Result B LineFault)
    → Result B LineFault
(Ok x) >>= f = f x
(Err e) >>= f = Err e

-- reads each element of a list; the first fault ends the reading
abbrev pub read_each : {A B : Type 0} → (A → Result B LineFault) → List A
    → Result (List B) LineFault
read_each read [] = Ok []
read_each read (x ∷ xs) = do
  y ← read x
  ys ← read_each read xs
  Ok (y ∷ ys)

-- the kind that a word names, or the fault BadKind
abbrev pub at_kind : List ℕ → Result Kind LineFault
at_kind word = ok_or (kind_of word) BadKind

-- the number that a word of 1 to 10 digits writes, if it is within the bounds, or the fault
-- BadNumber
abbrev pub at_number : ℕ → ℕ → List ℕ → Result ℕ LineFault
at_number least most word = ok_or (number_between MOST_DIGITS least most word) BadNumber

-- the id that a word writes: 1 to 4,294,967,295
abbrev pub at_id : List ℕ → Result ℕ LineFault
at_id word = at_number 1 MOST_ID word

-- the count or price that a word writes: 0 to 1,000,000
abbrev pub at_amount : List ℕ → Result ℕ LineFault
at_amount word = at_number 0 MOST_AMOUNT word

-- the price that a word writes: 0 to 1,000,000, or none for a dash
abbrev pub at_price : List ℕ → Result (Option ℕ) LineFault
at_price word = if is_dash word then Ok None else (at_amount word >>= λ price. Ok (Some price))

-- the number of units that a word writes: 1 to 100
abbrev pub at_units : List ℕ → Result ℕ LineFault
at_units word = at_number 1 MOST_UNITS_AT_ONCE word

-- the item of the words `KIND ID`
abbrev pub at_place : List ℕ → List ℕ → Result (Kind × ℕ) LineFault
at_place kind id = do
  kind ← at_kind kind
  id ← at_id id
  Ok (kind, id)

-- the customer and the item of the words `ID KIND ID`
abbrev pub at_booking : List ℕ → List ℕ → List ℕ → Result (ℕ × Kind × ℕ) LineFault
at_booking customer kind id = do
  customer ← at_id customer
  place ← at_place kind id
  Ok (customer, place.0, place.1)

-- the count and the price of the words `NUM PRICE`
abbrev pub at_stock : List ℕ → List ℕ → Result (ℕ × Option ℕ) LineFault
at_stock num price = do
  num ← at_amount num
  price ← at_price price
  Ok (num, price)

-- the command of the line `add KIND ID NUM PRICE`, from the words after its name
abbrev pub add_line : List (List ℕ) → Result Command LineFault
add_line (kind ∷ id ∷ num ∷ price ∷ []) = do
  place ← at_place kind id
  stock ← at_stock num price
  Ok (command.Add place.0 place.1 stock.0 stock.1)
add_line _ = Err BadCount

-- the id of the words `ID`, if nothing follows
abbrev pub id_alone : List (List ℕ) → Result ℕ LineFault
id_alone (id ∷ []) = at_id id
id_alone _ = Err BadCount

-- the item of the words `KIND ID`, if nothing follows
abbrev pub place_alone : List (List ℕ) → Result (Kind × ℕ) LineFault
place_alone (kind ∷ id ∷ []) = at_place kind id
place_alone _ = Err BadCount

-- the command of the line `del KIND ID NUM`, from its kind and the words after the kind
abbrev pub delete_line : List ℕ → List (List ℕ) → Result Command LineFault
delete_line kind (id ∷ num ∷ []) = do
  place ← at_place kind id
  num ← at_amount num
  Ok (command.Delete place.0 place.1 num)
delete_line kind _ = Err BadCount

-- the command of the lines `del flight ID` and, for cars and rooms, `del KIND ID NUM`
abbrev pub del_line : List (List ℕ) → Result Command LineFault
del_line [] = Err BadCount
del_line (kind ∷ rest) =
    if bytes_eq kind (codes "flight") then (id_alone rest >>= λ id. Ok (command.DropFlight id))
    else delete_line kind rest

-- the command of the line `newcust ID`
abbrev pub new_customer_line : List (List ℕ) → Result Command LineFault
new_customer_line words = id_alone words >>= λ id. Ok (command.NewCustomer id)

-- the command of the line `dropcust ID`
abbrev pub drop_customer_line : List (List ℕ) → Result Command LineFault
drop_customer_line words = id_alone words >>= λ id. Ok (command.DropCustomer id)

-- the command of the line `free KIND ID`
abbrev pub free_line : List (List ℕ) → Result Command LineFault
free_line words = place_alone words >>= λ place. Ok (command.Free place.0 place.1)

-- the command of the line `price KIND ID`
abbrev pub price_line : List (List ℕ) → Result Command LineFault
price_line words = place_alone words >>= λ place. Ok (command.Price place.0 place.1)

-- the command of the line `bill ID`
abbrev pub bill_line : List (List ℕ) → Result Command LineFault
bill_line words = id_alone words >>= λ id. Ok (command.Bill id)

-- the command of the lines `reserve ID KIND ID`, for one unit, and `reserve ID KIND ID UNITS`
abbrev pub reserve_line : List (List ℕ) → Result Command LineFault
reserve_line (customer ∷ kind ∷ id ∷ []) = do
  booking ← at_booking customer kind id
  Ok (command.Reserve booking.0 booking.1 booking.2 1)
reserve_line (customer ∷ kind ∷ id ∷ units ∷ []) = do
  booking ← at_booking customer kind id
  units ← at_units units
  Ok (command.Reserve booking.0 booking.1 booking.2 units)
reserve_line _ = Err BadCount

-- the command of the line `cancel ID KIND ID`
abbrev pub cancel_line : List (List ℕ) → Result Command LineFault
cancel_line (customer ∷ kind ∷ id ∷ []) = do
  booking ← at_booking customer kind id
  Ok (command.Cancel booking.0 booking.1 booking.2)
cancel_line _ = Err BadCount

-- the command of the line `audit`
abbrev pub audit_line : List (List ℕ) → Result Command LineFault
audit_line [] = Ok command.Audit
audit_line _ = Err BadCount

-- the words as pairs, in order; a last word without a partner is left out
abbrev pub two_by_two : List (List ℕ) → List (List ℕ × List ℕ)
two_by_two [] = []
two_by_two (word ∷ []) = []
two_by_two (kind ∷ id ∷ rest) = (kind, id) ∷ two_by_two rest

-- true if the words are 1 to 32 pairs
abbrev pub are_pairs : List (List ℕ) → Bool
are_pairs words = length words % 2 == 0 && is_list_length (length words / 2)

-- the asks that pairs of words write, or the first fault
abbrev pub asks_of : List (List ℕ) → Result (List (Kind × ℕ)) LineFault
asks_of pairs = read_each (λ pair. at_place pair.0 pair.1) (two_by_two pairs)

-- the task of the line `trip ID KIND ID ..`, with 1 to 32 pairs `KIND ID`
abbrev pub trip_line : List (List ℕ) → Result Task LineFault
trip_line [] = Err BadCount
trip_line (customer ∷ pairs) =
    if are_pairs pairs then (do
      customer ← at_id customer
      asks ← asks_of pairs
      Ok (task.Trip customer asks))
    else Err BadCount

-- the task of the line `leave ID`
abbrev pub leave_line : List (List ℕ) → Result Task LineFault
leave_line words = id_alone words >>= λ customer. Ok (task.Leave customer)

-- the command of an `add` or a `del` line with this name and these words after it
abbrev pub named_change : Option LineName → List (List ℕ) → Result Command LineFault
named_change (Some name.Add) rest = add_line rest
named_change (Some name.Del) rest = del_line rest
named_change _ rest = Err BadCommand

-- the command of a part of an update, which is an `add` or a `del` line
abbrev pub change_line : List (List ℕ) → Result Command LineFault
change_line [] = Err BadCommand
change_line (word ∷ rest) = named_change (line_name word) rest

-- the parts of the words, which are cut at each word `;`
abbrev pub cut_parts : List (List ℕ) → List (List (List ℕ))
cut_parts words = slice_split is_separator words

-- the commands of the parts, or the first fault
abbrev pub changes_of : List (List ℕ) → Result (List Command) LineFault
changes_of words = read_each change_line (cut_parts words)

-- the task of the line `update CHANGE ; CHANGE ..`, with 1 to 32 parts; without words there are no
-- parts
abbrev pub update_line : List (List ℕ) → Result Task LineFault
update_line [] = Err BadCount
update_line (word ∷ rest) =
    if nat_le (length (cut_parts (word ∷ rest))) MOST_PARTS
    then (changes_of (word ∷ rest) >>= λ changes. Ok (task.Update changes))
    else Err BadCount

-- the task of a line of one command
abbrev pub one_command : Result Command LineFault → Result Task LineFault
one_command read = read >>= λ c. Ok (task.One c)

-- the task of a line with this name and these words after the name
abbrev pub task_named : LineName → List (List ℕ) → Result Task LineFault
task_named name.Add rest = one_command (add_line rest)
task_named name.Del rest = one_command (del_line rest)
task_named name.NewCustomer rest = one_command (new_customer_line rest)
task_named name.DropCustomer rest = one_command (drop_customer_line rest)
task_named name.Free rest = one_command (free_line rest)
task_named name.Price rest = one_command (price_line rest)
task_named name.Bill rest = one_command (bill_line rest)
task_named name.Reserve rest = one_command (reserve_line rest)
task_named name.Cancel rest = one_command (cancel_line rest)
task_named name.Audit rest = one_command (audit_line rest)
task_named name.Trip rest = trip_line rest
task_named name.Leave rest = leave_line rest
task_named name.Update rest = update_line rest

-- the task of the words of a line
abbrev pub words_task : List (List ℕ) → Result Task LineFault
words_task [] = Err BadCommand
words_task (word ∷ rest) = ok_or (line_name word) BadCommand >>= λ name. task_named name rest

-- true for a byte that no line may have: one below 32 or above 126
abbrev pub is_bad_byte : ℕ → Bool
is_bad_byte b = nat_lt b 32 || nat_lt 126 b

-- the task of a line, or its first fault
abbrev pub line_task : List ℕ → Result Task LineFault
line_task line =
    if nat_lt LINE_BYTES (length line) then Err LongLine
    else if list_any is_bad_byte line then Err BadByte
    else words_task (words_of line)
