-- The part of a completed command is made from the part of the state before, and leads to the part of the state after.
use Rattle.std.proofs.Common.{◌<◌, ◌^◌, ◌≡◌, ℕ, ◌+◌, ◌-◌, ◌≤◌, ◌&&◌, ◌||◌, not, Bool, true, false, cond, List, refl, ap}
use Rattle.std.proofs.Common.{sym}
use Rattle.std.proofs.Common.{subst, ◌∙◌, arith}
use Rattle.std.specs.Prelude.{Option, Some, None, nat_lt, ◌==◌, unwrap_or, if◌then◌else◌}
use Rattle.std.specs.Option.{option_map}
use Rattle.std.specs.Cmp.{nat_cmp_total}
use Rattle.std.specs.FinMap.{insert, remove, empty, entries, nat_cmp-IsAntisymmetric}
use Rattle.std.proofs.lemmas.Bool.Decides.{nat_tests}
use Rattle.vac_model.specs.declared.items.Kind.{Kind}
use Rattle.vac_model.specs.declared.items.Kind.TheVariants.{Car, Flight, Room}
use Rattle.vac_model.specs.declared.items.Item.{Item}
use Rattle.vac_model.specs.declared.commands.Command.{Command}
use Rattle.vac_model.specs.declared.commands.Command.TheVariants as command
use Rattle.vac_model.specs.declared.commands.Refusal.TheVariants.{NeedsCountAndPrice, TotalLimit, Full, NoItem, NotFree}
use Rattle.vac_model.specs.declared.commands.Refusal.TheVariants.{InUse}
use Rattle.vac_model.specs.declared.commands.Refusal.TheVariants.{Exists, NoCustomer, SoldOut, NotBooked, UnitLimit}
use Rattle.vac_model.specs.declared.replies.Reply.TheVariants as reply
use Rattle.vac_model.specs.declared.tasks.Task.{Task}
use Rattle.vac_model.specs.declared.tasks.Task.TheVariants as task
use Rattle.vac_model.specs.declared.items.Booking.{Booking}
use Rattle.vac_model.specs.State.{State, Bookings, table_of, with_table, item_of, with_item}
use Rattle.vac_model.specs.State.{without_item, bookings_of, with_bookings, without_customer, is_full, bill_of}
use Rattle.vac_model.specs.Step.{Outcome, refused, done, number_answered, when_found, new_item, added, deleted, taken}
use Rattle.vac_model.specs.Step.{given_back, give_back_all, new_booking, extended, add_new, add_more, add, delete}
use Rattle.vac_model.specs.Step.{drop_flight, new_customer, drop_customer, reserve, cancel, step, total_limit}
use Rattle.vac_model.specs.Step.{price_of}
use Rattle.vac_model.specs.Run.{run}
use Rattle.vac_model.proofs.Ids.{both_true}
use Rattle.vac_model.proofs.Kept.{found_both, if_both, lt_false}
use Rattle.vac_model.proofs.Sums.{get_here, get_elsewhere, get_removed, removed_elsewhere, insert_same}
use Rattle.vac_model.proofs.Places.{place_cmp_total, place_cmp-IsAntisymmetric}
use Rattle.std.specs.Prelude.{decimal, codes}
use Rattle.std.specs.List.{list_all}
use Rattle.std.specs.Char.{is_ascii_digit}
use Rattle.std.proofs.lemmas.Slice.Eq.{bytes_eq-Decides}
use Rattle.vac_model.specs.Run.{leave}
use Rattle.vac_model.proofs.Bounds.{bill_small}
use Rattle.vac_lines.proofs.Decimals.{all_digits}
use Rattle.vac_model.specs.ReplyText.{reply_text}
use Rattle.judge_reservations.specs.declared.scope.Scope.{Scope}
use Rattle.judge_reservations.specs.Scopes.{has_customer, has_item, is_place_among, is_closed, is_whole, allows}
use Rattle.judge_reservations.specs.Parts.{HasPart}
use Rattle.judge_reservations.specs.Tasks.{leave_part, bill_part}
use Rattle.judge_reservations.specs.Tasks.{Answered, is_reply, kept, customer_exists, customer_missing, item_exists}
use Rattle.judge_reservations.specs.Tasks.{item_missing, customer_seen, item_seen, command_part}
use Rattle.judge_reservations.specs.Tasks.{command_allowed}
use Rattle.judge_reservations.proofs.Numbers.{part_not_full, item_in_part, item_missing_part, free_below, closed_same}
use Rattle.judge_reservations.proofs.Numbers.{customer_in_part, customer_missing_part, booking_in_part, whole_same}
use Rattle.judge_reservations.proofs.Effects.{Near, offer, near_item_both, near_gone_both, near_booked_both}
use Rattle.judge_reservations.proofs.Effects.{near_new_both}
use Rattle.judge_reservations.proofs.Effects.{near_left_both}
use Rattle.judge_reservations.proofs.Outside.{departs, booked, reserve_cases, cancel_cases, add_out, delete_out}
use Rattle.judge_reservations.proofs.Outside.{drop_flight_out}
use Rattle.judge_reservations.proofs.Outside.{new_out, leave_out, moved_out, ended_out, cancel_out}

-- an item to which nothing is added
added_none : (i : Item) → added i 0 None ≡ i
added_none i =
    let free : i.free + 0 ≡ i.free = omega arith in
    let total : i.total + 0 ≡ i.total = omega arith in
    λ k. record { used = i.used; free = free k; total = total k; price = i.price }

same_table : (s : State) (kind : Kind) → with_table s kind (table_of s kind) ≡ s
same_table s Car = refl
same_table s Flight = refl
same_table s Room = refl

put_back : (s : State) (kind : Kind) (id : ℕ) (i : Item) → item_of s kind id ≡ Some i →
    with_item s kind id (added i 0 None) ≡ s
put_back s kind id i e =
    ap (with_item s kind id) (added_none i)
    ∙ ap (with_table s kind) (insert_same nat_cmp_total nat_cmp-IsAntisymmetric (table_of s kind) id i e)
    ∙ same_table s kind

-- the free units of an item
abbrev free_of : Option Item → Option ℕ
free_of o = option_map (λ i. i.free) o

or_true : (b : Bool) → (b || true) ≡ false → ⊥
or_true true e = let never : true ≡ false = e in cc
or_true false e = let never : true ≡ false = e in cc

-- no number has the text of none
no_number : (n : ℕ) → n < 2 ^ 64 → is_reply (reply.Number None) (decimal n) ≡ true → ⊥
no_number n small e =
    let same : decimal n ≡ codes "-1" = (bytes_eq-Decides (decimal n) (codes "-1")).0 e in
    let digits : list_all is_ascii_digit (codes "-1") ≡ true =
    subst (λ x. list_all is_ascii_digit x ≡ true) same (all_digits n small) in
    let never : false ≡ true = digits in cc

whole_of : (whole : Bool) (n : ℕ) → n < 2 ^ 64 →
    (whole || is_reply (reply.Number None) (reply_text (reply.Number (Some n)))) ≡ true → whole ≡ true
whole_of true n small e = refl
whole_of false n small e = absurd (no_number n small e)

not_not : (b : Bool) → not b ≡ false → b ≡ true
not_not true e = refl
not_not false e = absurd (let never : true ≡ false = e in cc)

enough_part : (free more num : ℕ) → free ≤ more → nat_lt free num ≡ false → nat_lt more num ≡ false
enough_part free more num less e = let enough = lt_false free num e in grind (arith, nat_tests, enough, less)

unused_part : (used less : ℕ) → less ≤ used → nat_lt 0 used ≡ false → nat_lt 0 less ≡ false
unused_part used less few e = let none = lt_false 0 used e in grind (arith, nat_tests, none, few)

module _ (scope : Scope) (s p : State) (h : HasPart scope s p) where
  pub near : Near scope s p
  near = record { part = h.part; confined = h.confined }

  -- the part of an outcome is made from p, if there is one, and leads to the part of the state
  abbrev pub Made : Outcome → Option Answered → Type 0
  Made o None = Near scope o.0 p
  Made o (Some a) = (reply_text (run p a.0).1 ≡ a.1) × Near scope o.0 (run p a.0).0

  pub answered : (o : Outcome) (t : Task) (text : List ℕ) (made : Outcome) → run p t ≡ made →
      reply_text made.1 ≡ text → Near scope o.0 made.0 → Made o (Some (t, text))
  answered o t text made e r n =
      (ap (λ (x : Outcome). reply_text x.1) e ∙ r, subst (λ (x : Outcome). Near scope o.0 x.0) (sym e) n)

  pub choose : (o : Outcome) (b : Bool) (x y : Option Answered) → (b ≡ true → Made o x) → (b ≡ false → Made o y) →
      Made o (cond b x y)
  choose o true x y f g = f refl
  choose o false x y f g = g refl

  pub exists_made : (o : Outcome) (c : ℕ) (x : Bookings) → bookings_of p c ≡ Some x → Near scope o.0 p →
      Made o (customer_exists c)
  exists_made o c x e n =
      let is : run p (task.One (command.NewCustomer c)) ≡ refused p Exists = rw e refl in
      answered o (task.One (command.NewCustomer c)) (reply_text (reply.No Exists)) (refused p Exists) is refl n

  missing_made : (o : Outcome) (c : ℕ) → bookings_of p c ≡ None → Near scope o.0 p → Made o (customer_missing c)
  missing_made o c e n =
      let is : run p (task.One (command.Bill c)) ≡ number_answered p None = rw e refl in
      answered o (task.One (command.Bill c)) (reply_text (reply.Number None)) (number_answered p None) is refl n

  item_exists_made : (o : Outcome) (kind : Kind) (id : ℕ) (j : Item) → item_of p kind id ≡ Some j →
      Near scope o.0 p → Made o (item_exists kind id)
  item_exists_made o kind id j e n =
      let few = (h.part_balanced.items kind id j e).few_units in
      let room : nat_lt total_limit (j.total + 0) ≡ false = grind (arith, nat_tests, few) in
      let is : run p (task.One (command.Add kind id 0 None)) ≡ done (with_item p kind id (added j 0 None)) =
      rw (e, room) refl in
      answered o (task.One (command.Add kind id 0 None)) (reply_text reply.Done) (done p)
      (is ∙ ap done (put_back p kind id j e)) refl n

  item_missing_made : (o : Outcome) (kind : Kind) (id : ℕ) → item_of p kind id ≡ None →
      Near scope o.0 p → Made o (item_missing kind id)
  item_missing_made o kind id e n =
      let is : run p (task.One (command.Add kind id 0 None)) ≡ refused p NeedsCountAndPrice = rw e refl in
      answered o (task.One (command.Add kind id 0 None)) (reply_text (reply.No NeedsCountAndPrice))
      (refused p NeedsCountAndPrice) is refl n

  -- Add
  module _ (kind : Kind) (id num : ℕ) (price : Option ℕ) where
    abbrev the_add : Task
    the_add = task.One (command.Add kind id num price)

    abbrev AddMade : Outcome → Type 0
    AddMade o = Made o (kept the_add (reply_text o.1))

    add_both : has_item scope (kind, id) ≡ true → AddMade (add s kind id num price)
    add_both inside = found_both AddMade (item_of s kind id) _ _
        (λ none. new price refl (ap (λ o. when_found o (add_new p kind id num price) (add_more p kind id num price))
        (item_missing_part scope s p h kind id none)))
        (λ i there.
        let j = item_in_part scope s p h kind id i inside there in
        let total : j.0.total ≡ i.total = ap (λ (o : ℕ × ℕ). o.0) j.2 in
        let cost : j.0.price ≡ i.price = ap (λ (o : ℕ × ℕ). o.1) j.2 in
        if_both AddMade (nat_lt total_limit (i.total + num)) _ _
        (λ many.
        let more : nat_lt total_limit (j.0.total + num) ≡ true = ap (λ n. nat_lt total_limit (n + num)) total ∙ many in
        let is : run p the_add ≡ refused p TotalLimit = rw (j.1, more) refl in
        answered (refused s TotalLimit) the_add _ (refused p TotalLimit) is refl near)
        (λ few.
        let less : nat_lt total_limit (j.0.total + num) ≡ false = ap (λ n. nat_lt total_limit (n + num)) total ∙ few in
        let is : run p the_add ≡ done (with_item p kind id (added j.0 num price)) = rw (j.1, less) refl in
        answered (done (with_item s kind id (added i num price))) the_add _
        (done (with_item p kind id (added j.0 num price))) is refl
        (near_item_both scope s p near kind id (added i num price) (added j.0 num price) inside
        (same_added i j.0 total cost))))
      where
        same_added : (i j : Item) → j.total ≡ i.total → j.price ≡ i.price →
            offer (added j num price) ≡ offer (added i num price)
        same_added i j e f = λ k. (e k + num, unwrap_or price (f k))

        new : (given : Option ℕ) → given ≡ price → run p the_add ≡ add_new p kind id num price →
            AddMade (add_new s kind id num given)
        new None e is =
            answered (refused s NeedsCountAndPrice) the_add _ (refused p NeedsCountAndPrice)
            (is ∙ sym (ap (add_new p kind id num) e)) refl near
        new (Some n) e is =
            if_both AddMade (num == 0) _ _
            (λ zero.
            let a : add_new p kind id num (Some n) ≡ refused p NeedsCountAndPrice = rw zero refl in
            answered (refused s NeedsCountAndPrice) the_add _ (refused p NeedsCountAndPrice)
            (is ∙ sym (ap (add_new p kind id num) e) ∙ a) refl near)
            (λ some. if_both AddMade (is_full s) _ _ (λ _. near) (λ room.
            let not_full = part_not_full scope s p h room in
            let a : add_new p kind id num (Some n) ≡ done (with_item p kind id (new_item num n)) =
            rw (some, not_full) refl in
            answered (done (with_item s kind id (new_item num n))) the_add _
            (done (with_item p kind id (new_item num n))) (is ∙ sym (ap (add_new p kind id num) e) ∙ a) refl
            (near_item_both scope s p near kind id (new_item num n) (new_item num n) inside refl)))

  -- Delete
  module _ (kind : Kind) (id num : ℕ) where
    abbrev the_delete : Task
    the_delete = task.One (command.Delete kind id num)

    abbrev DeleteMade : Outcome → Type 0
    DeleteMade o = Made o (
        if is_reply (reply.No NotFree) (reply_text o.1) && not (is_closed scope (kind, id)) then item_exists kind id
        else Some (the_delete, reply_text o.1)
        )

    delete_both : has_item scope (kind, id) ≡ true → DeleteMade (delete s kind id num)
    delete_both inside = found_both DeleteMade (item_of s kind id) _ _
        (λ none.
        let missing = item_missing_part scope s p h kind id none in
        let is : run p the_delete ≡ refused p NoItem = rw missing refl in
        answered (refused s NoItem) the_delete _ (refused p NoItem) is refl near)
        (λ i there.
        let j = item_in_part scope s p h kind id i inside there in
        let total : j.0.total ≡ i.total = ap (λ (o : ℕ × ℕ). o.0) j.2 in
        let cost : j.0.price ≡ i.price = ap (λ (o : ℕ × ℕ). o.1) j.2 in
        if_both DeleteMade (nat_lt i.free num) _ _
        (λ short. choose (refused s NotFree) (not (is_closed scope (kind, id))) _ _
        (λ _. item_exists_made (refused s NotFree) kind id j.0 j.1 near)
        (λ shut.
        let same = closed_same scope s p h kind id i j.0 (not_not (is_closed scope (kind, id)) shut) there j.1 j.2 in
        let few : nat_lt j.0.free num ≡ true = ap (λ n. nat_lt n num) same.0 ∙ short in
        let is : run p the_delete ≡ refused p NotFree = rw (j.1, few) refl in
        answered (refused s NotFree) the_delete _ (refused p NotFree) is refl near))
        (λ enough.
        let free = free_below scope s p h kind id i j.0 there j.1 j.2 in
        let fits = enough_part i.free j.0.free num free.0 enough in
        if_both DeleteMade (i.total - num == 0) _ _
        (λ none.
        let nothing : (j.0.total - num == 0) ≡ true = ap (λ n. n - num == 0) total ∙ none in
        let is : run p the_delete ≡ done (without_item p kind id) = rw (j.1, fits, nothing) refl in
        answered (done (without_item s kind id)) the_delete _ (done (without_item p kind id)) is refl
        (near_gone_both scope s p near kind id inside))
        (λ some.
        let left : (j.0.total - num == 0) ≡ false = ap (λ n. n - num == 0) total ∙ some in
        let is : run p the_delete ≡ done (with_item p kind id (deleted j.0 num)) = rw (j.1, fits, left) refl in
        answered (done (with_item s kind id (deleted i num))) the_delete _
        (done (with_item p kind id (deleted j.0 num))) is refl
        (near_item_both scope s p near kind id (deleted i num) (deleted j.0 num) inside
        (λ k. (total k - num, cost k))))))

  -- DropFlight
  module _ (id : ℕ) where
    abbrev the_drop : Task
    the_drop = task.One (command.DropFlight id)

    abbrev DropMade : Outcome → Type 0
    DropMade o = Made o (
        if is_reply (reply.No InUse) (reply_text o.1) && not (is_closed scope (Flight, id)) then item_exists Flight id
        else Some (the_drop, reply_text o.1)
        )

    drop_flight_both : has_item scope (Flight, id) ≡ true → DropMade (drop_flight s id)
    drop_flight_both inside = found_both DropMade (item_of s Flight id) _ _
        (λ none.
        let missing = item_missing_part scope s p h Flight id none in
        let is : run p the_drop ≡ refused p NoItem = rw missing refl in
        answered (refused s NoItem) the_drop _ (refused p NoItem) is refl near)
        (λ i there.
        let j = item_in_part scope s p h Flight id i inside there in
        if_both DropMade (nat_lt 0 i.used) _ _
        (λ used. choose (refused s InUse) (not (is_closed scope (Flight, id))) _ _
        (λ _. item_exists_made (refused s InUse) Flight id j.0 j.1 near)
        (λ shut.
        let same = closed_same scope s p h Flight id i j.0 (not_not (is_closed scope (Flight, id)) shut) there j.1
        j.2 in
        let some : nat_lt 0 j.0.used ≡ true = ap (nat_lt 0) same.1 ∙ used in
        let is : run p the_drop ≡ refused p InUse = rw (j.1, some) refl in
        answered (refused s InUse) the_drop _ (refused p InUse) is refl near))
        (λ unused.
        let free = free_below scope s p h Flight id i j.0 there j.1 j.2 in
        let none = unused_part i.used j.0.used free.1 unused in
        let is : run p the_drop ≡ done (without_item p Flight id) = rw (j.1, none) refl in
        answered (done (without_item s Flight id)) the_drop _ (done (without_item p Flight id)) is refl
        (near_gone_both scope s p near Flight id inside)))

  -- NewCustomer and DropCustomer
  module _ (c : ℕ) where
    abbrev the_new : Task
    the_new = task.One (command.NewCustomer c)

    abbrev NewMade : Outcome → Type 0
    NewMade o = Made o (kept the_new (reply_text o.1))

    new_both : has_customer scope c ≡ true → NewMade (new_customer s c)
    new_both inside = found_both NewMade (bookings_of s c) _ _
        (λ none. if_both NewMade (is_full s) _ _ (λ _. near) (λ room.
        let missing = customer_missing_part scope s p h c none in
        let not_full = part_not_full scope s p h room in
        let is : run p the_new ≡ done (with_bookings p c empty) = rw (missing, not_full) refl in
        answered (done (with_bookings s c empty)) the_new _ (done (with_bookings p c empty)) is refl
        (near_new_both scope s p near c none inside missing)))
        (λ b there.
        let x = customer_in_part scope s p h c b inside there in
        let is : run p the_new ≡ refused p Exists = rw x.1 refl in
        answered (refused s Exists) the_new _ (refused p Exists) is refl near)

    abbrev the_leave : Task
    the_leave = task.One (command.DropCustomer c)

    abbrev LeaveMade : Outcome → Type 0
    LeaveMade o = Made o (Some (the_leave, reply_text o.1))

    leave_both : has_customer scope c ≡ true → LeaveMade (drop_customer s c)
    leave_both inside = found_both LeaveMade (bookings_of s c) _ _
        (λ none.
        let missing = customer_missing_part scope s p h c none in
        let is : run p the_leave ≡ refused p NoCustomer = rw missing refl in
        answered (refused s NoCustomer) the_leave _ (refused p NoCustomer) is refl near)
        (λ b there.
        let x = customer_in_part scope s p h c b inside there in
        let is : run p the_leave ≡ done (give_back_all (without_customer p c) (entries x.0)) = rw x.1 refl in
        answered (done (give_back_all (without_customer s c) (entries b))) the_leave _
        (done (give_back_all (without_customer p c) (entries x.0))) is refl
        (near_left_both scope s (give_back_all (without_customer s c) (entries b)) p near c (departs s c b)
        (give_back_all (without_customer p c) (entries x.0)) (departs p c x.0) inside))

  -- Leave
  module _ (c : ℕ) where
    leave_gone : has_customer scope c ≡ false → Near scope (leave s c).0 p
    leave_gone out = found_both (λ o. Near scope o.0 p) (bookings_of s c) _ _ (λ _. near)
        (λ b there. leave_out scope s p near c out)

    abbrev Left : Outcome → Type 0
    Left o = Made o (
        if is_whole scope c || is_reply (reply.Number None) (reply_text o.1)
        then Some (task.Leave c, reply_text o.1)
        else Some (task.One (command.DropCustomer c), reply_text reply.Done)
        )

    left_missing : bookings_of s c ≡ None → Left (number_answered s None)
    left_missing none = choose (number_answered s None) (is_whole scope c || true) _ _
        (λ _.
        let missing = customer_missing_part scope s p h c none in
        let is : run p (task.Leave c) ≡ number_answered p None = rw missing refl in
        answered (number_answered s None) (task.Leave c) _ (number_answered p None) is refl near)
        (λ e. absurd (or_true (is_whole scope c) e))

    left_there : has_customer scope c ≡ true → (b : Bookings) → bookings_of s c ≡ Some b →
        Left (number_answered (step s (command.DropCustomer c)).0 (Some (bill_of b)))
    left_there inside b there =
        let o : Outcome = number_answered (step s (command.DropCustomer c)).0 (Some (bill_of b)) in
        let x = customer_in_part scope s p h c b inside there in
        let gone = leave_both c inside in
        choose o (is_whole scope c || is_reply (reply.Number None) (reply_text o.1)) _ _
        (λ e.
        let whole = whole_of (is_whole scope c) (bill_of b)
        (bill_small s c b (record { balanced = h.balanced; small = h.capacity }) there) e in
        let same = whole_same scope s p h c b x.0 whole there x.1 in
        let is : run p (task.Leave c) ≡ number_answered (step p (command.DropCustomer c)).0 (Some (bill_of x.0)) =
        rw x.1 refl in
        answered o (task.Leave c) (reply_text o.1)
        (number_answered (step p (command.DropCustomer c)).0 (Some (bill_of x.0))) is
        (ap (λ y. reply_text (reply.Number (Some (bill_of y)))) same) gone.1)
        (λ _.
        let done_there : (drop_customer s c).1 ≡ reply.Done =
        ap (λ y. (when_found y (refused s NoCustomer) (λ bookings.
        done (give_back_all (without_customer s c) (entries bookings)))).1) there in
        (gone.0 ∙ ap reply_text done_there, gone.1))

    pub leave_made : Made (leave s c) (leave_part scope c (reply_text (leave s c).1))
    leave_made = choose (leave s c) (has_customer scope c) _ _
        (λ inside. found_both Left (bookings_of s c) _ _ left_missing (left_there inside)) leave_gone

  -- Reserve and Cancel, of which customer or item is outside the scope
  module _ (c : ℕ) (kind : Kind) (id : ℕ) where
    -- a reply that is allowed: nothing was booked, or the booking is allowed
    abbrev Fair : Outcome → Type 0
    Fair o = (not (is_reply reply.Done (reply_text o.1)) || allows scope c (kind, id)) ≡ true

    module _ (num : ℕ) (out : (has_customer scope c && has_item scope (kind, id)) ≡ false) where
      reserve_seen_customer : has_customer scope c ≡ true → Fair (reserve s c kind id num) →
          Made (reserve s c kind id num) (customer_seen c (reply_text (reserve s c kind id num).1))
      reserve_seen_customer inside =
          reserve_cases s c kind id num (λ o. Fair o → Made o (customer_seen c (reply_text o.1)))
          (λ none _. missing_made (refused s NoCustomer) c (customer_missing_part scope s p h c none) near)
          (λ b there _ _. seen b there (refused s NoItem) near)
          (λ b i there _ _ _. seen b there (refused s SoldOut) near)
          (λ b i there _ _ _. seen b there (refused s Full) near)
          (λ b i there found _ _ _ fair. seen b there
          (done (booked s c kind id num b i (new_booking num i.price)))
          (moved_out scope s p near c kind id num out fair b i
          (new_booking num i.price) there found))
          (λ b i x there _ _ _ _ _. seen b there (refused s UnitLimit) near)
          (λ b i x there found _ _ _ fair. seen b there
          (done (booked s c kind id num b i (extended x num i.price)))
          (moved_out scope s p near c kind id num out fair b i
          (extended x num i.price) there found))
        where
          seen : (b : Bookings) → bookings_of s c ≡ Some b → (o : Outcome) → Near scope o.0 p →
              Made o (customer_exists c)
          seen b there o n =
              let x = customer_in_part scope s p h c b inside there in exists_made o c x.0 x.1 n

      reserve_seen_item : has_item scope (kind, id) ≡ true → Fair (reserve s c kind id num) →
          Made (reserve s c kind id num) (item_seen kind id (reply_text (reserve s c kind id num).1))
      reserve_seen_item inside =
          reserve_cases s c kind id num (λ o. Fair o → Made o (item_seen kind id (reply_text o.1)))
          (λ _ _. near)
          (λ b _ none _. item_missing_made (refused s NoItem) kind id (item_missing_part scope s p h kind id none) near)
          (λ b i _ found _ _. seen i found (refused s SoldOut) near)
          (λ b i _ found _ _. seen i found (refused s Full) near)
          (λ b i there found _ _ _ fair. seen i found
          (done (booked s c kind id num b i (new_booking num i.price)))
          (moved_out scope s p near c kind id num out fair b i
          (new_booking num i.price) there found))
          (λ b i x _ found _ _ _ _. seen i found (refused s UnitLimit) near)
          (λ b i x there found _ _ _ fair. seen i found
          (done (booked s c kind id num b i (extended x num i.price)))
          (moved_out scope s p near c kind id num out fair b i
          (extended x num i.price) there found))
        where
          seen : (i : Item) → item_of s kind id ≡ Some i → (o : Outcome) → Near scope o.0 p →
              Made o (item_exists kind id)
          seen i found o n =
              let j = item_in_part scope s p h kind id i inside found in item_exists_made o kind id j.0 j.1 n

      pub reserve_unseen : Fair (reserve s c kind id num) → Near scope (reserve s c kind id num).0 p
      reserve_unseen = reserve_cases s c kind id num (λ o. Fair o → Near scope o.0 p)
          (λ _ _. near) (λ _ _ _ _. near) (λ _ _ _ _ _ _. near) (λ _ _ _ _ _ _. near)
          (λ b i there found _ _ _ fair. moved_out scope s p near c kind id num out fair b i
          (new_booking num i.price) there found)
          (λ _ _ _ _ _ _ _ _ _. near)
          (λ b i x there found _ _ _ fair. moved_out scope s p near c kind id num out fair b i
          (extended x num i.price) there found)

    module _ (out : (has_customer scope c && has_item scope (kind, id)) ≡ false) where
      cancel_seen_customer : has_customer scope c ≡ true →
          Made (cancel s c kind id) (customer_seen c (reply_text (cancel s c kind id).1))
      cancel_seen_customer inside =
          cancel_cases s c kind id (λ o. Made o (customer_seen c (reply_text o.1)))
          (λ none. missing_made (refused s NoCustomer) c (customer_missing_part scope s p h c none) near)
          (λ b there _. seen b there (refused s NoItem) near)
          (λ b i there _ _. seen b there (refused s NotBooked) near)
          (λ b i x there found _. seen b there
          (done (with_item (with_bookings s c (remove b (kind, id))) kind id (given_back i x.units)))
          (ended_out scope s p near c kind id out b i x there found))
        where
          seen : (b : Bookings) → bookings_of s c ≡ Some b → (o : Outcome) → Near scope o.0 p →
              Made o (customer_exists c)
          seen b there o n =
              let x = customer_in_part scope s p h c b inside there in exists_made o c x.0 x.1 n

      cancel_seen_item : has_item scope (kind, id) ≡ true →
          Made (cancel s c kind id) (item_seen kind id (reply_text (cancel s c kind id).1))
      cancel_seen_item inside =
          cancel_cases s c kind id (λ o. Made o (item_seen kind id (reply_text o.1)))
          (λ _. near)
          (λ b _ none. item_missing_made (refused s NoItem) kind id (item_missing_part scope s p h kind id none) near)
          (λ b i _ found _. seen i found (refused s NotBooked) near)
          (λ b i x there found _. seen i found
          (done (with_item (with_bookings s c (remove b (kind, id))) kind id (given_back i x.units)))
          (ended_out scope s p near c kind id out b i x there found))
        where
          seen : (i : Item) → item_of s kind id ≡ Some i → (o : Outcome) → Near scope o.0 p →
              Made o (item_exists kind id)
          seen i found o n =
              let j = item_in_part scope s p h kind id i inside found in item_exists_made o kind id j.0 j.1 n

    -- Reserve and Cancel of a customer and an item of the scope
    module _ (customer : has_customer scope c ≡ true) (item : has_item scope (kind, id) ≡ true) where
      moved_both : (num : ℕ) (b x : Bookings) (i j : Item) (y z : Booking) →
          bookings_of s c ≡ Some b → bookings_of p c ≡ Some x → offer j ≡ offer i → z ≡ y →
          Near scope (booked s c kind id num b i y) (booked p c kind id num x j z)
      moved_both num b x i j y z there known same equal =
          let after = near_booked_both scope s p near c (kind, id) b (insert b (kind, id) y) there
          (λ q apart. get_elsewhere place_cmp_total place_cmp-IsAntisymmetric b (kind, id) y q apart)
          x (insert x (kind, id) z) known
          (λ q apart. get_elsewhere place_cmp_total place_cmp-IsAntisymmetric x (kind, id) z q apart)
          customer item
          (get_here place_cmp_total place_cmp-IsAntisymmetric x (kind, id) z ∙ ap Some equal
          ∙ sym (get_here place_cmp_total place_cmp-IsAntisymmetric b (kind, id) y)) in
          near_item_both scope (with_bookings s c (insert b (kind, id) y)) (with_bookings p c (insert x (kind, id) z))
          after kind id (taken i num) (taken j num) item same

      abbrev ReserveMade : ℕ → Outcome → Type 0
      ReserveMade num o = Made o (
          if is_reply (reply.No SoldOut) (reply_text o.1) && not (is_closed scope (kind, id)) then customer_exists c
          else kept (task.One (command.Reserve c kind id num)) (reply_text o.1)
          )

      reserve_both : (num : ℕ) → ReserveMade num (reserve s c kind id num)
      reserve_both num = reserve_cases s c kind id num (ReserveMade num)
          (λ none.
          let missing = customer_missing_part scope s p h c none in
          let is : run p (task.One (command.Reserve c kind id num)) ≡ refused p NoCustomer = rw missing refl in
          answered (refused s NoCustomer) (task.One (command.Reserve c kind id num)) _
          (refused p NoCustomer) is refl near)
          (λ b there none.
          let x = customer_in_part scope s p h c b customer there in
          let missing = item_missing_part scope s p h kind id none in
          let is : run p (task.One (command.Reserve c kind id num)) ≡ refused p NoItem = rw (x.1, missing) refl in
          answered (refused s NoItem) (task.One (command.Reserve c kind id num)) _ (refused p NoItem) is refl near)
          (λ b i there found short.
          let x = customer_in_part scope s p h c b customer there in
          let j = item_in_part scope s p h kind id i item found in
          choose (refused s SoldOut) (not (is_closed scope (kind, id))) _ _
          (λ _. exists_made (refused s SoldOut) c x.0 x.1 near)
          (λ shut.
          let same = closed_same scope s p h kind id i j.0 (not_not (is_closed scope (kind, id)) shut) found j.1 j.2 in
          let few : nat_lt j.0.free num ≡ true = ap (λ n. nat_lt n num) same.0 ∙ short in
          let is : run p (task.One (command.Reserve c kind id num)) ≡ refused p SoldOut = rw (x.1, j.1, few) refl in
          answered (refused s SoldOut) (task.One (command.Reserve c kind id num)) _ (refused p SoldOut) is refl near))
          (λ _ _ _ _ _. near)
          (λ b i there found enough none room.
          let x = customer_in_part scope s p h c b customer there in
          let j = item_in_part scope s p h kind id i item found in
          let cost : j.0.price ≡ i.price = ap (λ (o : ℕ × ℕ). o.1) j.2 in
          let free = free_below scope s p h kind id i j.0 found j.1 j.2 in
          let fits = enough_part i.free j.0.free num free.0 enough in
          let missing = booking_in_part scope s p h c (kind, id) b x.0 customer item there x.1 ∙ none in
          let not_full = part_not_full scope s p h room in
          let is : run p (task.One (command.Reserve c kind id num))
          ≡ done (booked p c kind id num x.0 j.0 (new_booking num j.0.price)) =
          rw (x.1, j.1, fits, missing, not_full) refl in
          answered (done (booked s c kind id num b i (new_booking num i.price)))
          (task.One (command.Reserve c kind id num)) _
          (done (booked p c kind id num x.0 j.0 (new_booking num j.0.price))) is refl
          (moved_both num b x.0 i j.0 (new_booking num i.price) (new_booking num j.0.price) there x.1 j.2
          (ap (new_booking num) cost)))
          (λ b i y there found enough old many.
          let x = customer_in_part scope s p h c b customer there in
          let j = item_in_part scope s p h kind id i item found in
          let free = free_below scope s p h kind id i j.0 found j.1 j.2 in
          let fits = enough_part i.free j.0.free num free.0 enough in
          let known = booking_in_part scope s p h c (kind, id) b x.0 customer item there x.1 ∙ old in
          let is : run p (task.One (command.Reserve c kind id num)) ≡ refused p UnitLimit =
          rw (x.1, j.1, fits, known, many) refl in
          answered (refused s UnitLimit) (task.One (command.Reserve c kind id num)) _
          (refused p UnitLimit) is refl near)
          (λ b i y there found enough old few.
          let x = customer_in_part scope s p h c b customer there in
          let j = item_in_part scope s p h kind id i item found in
          let cost : j.0.price ≡ i.price = ap (λ (o : ℕ × ℕ). o.1) j.2 in
          let free = free_below scope s p h kind id i j.0 found j.1 j.2 in
          let fits = enough_part i.free j.0.free num free.0 enough in
          let known = booking_in_part scope s p h c (kind, id) b x.0 customer item there x.1 ∙ old in
          let is : run p (task.One (command.Reserve c kind id num))
          ≡ done (booked p c kind id num x.0 j.0 (extended y num j.0.price)) =
          rw (x.1, j.1, fits, known, few) refl in
          answered (done (booked s c kind id num b i (extended y num i.price)))
          (task.One (command.Reserve c kind id num)) _
          (done (booked p c kind id num x.0 j.0 (extended y num j.0.price))) is refl
          (moved_both num b x.0 i j.0 (extended y num i.price) (extended y num j.0.price) there x.1 j.2
          (ap (extended y num) cost)))

      abbrev CancelMade : Outcome → Type 0
      CancelMade o = Made o (Some (task.One (command.Cancel c kind id), reply_text o.1))

      cancel_both : CancelMade (cancel s c kind id)
      cancel_both = cancel_cases s c kind id CancelMade
          (λ none.
          let missing = customer_missing_part scope s p h c none in
          let is : run p (task.One (command.Cancel c kind id)) ≡ refused p NoCustomer = rw missing refl in
          answered (refused s NoCustomer) (task.One (command.Cancel c kind id)) _ (refused p NoCustomer) is refl near)
          (λ b there none.
          let x = customer_in_part scope s p h c b customer there in
          let missing = item_missing_part scope s p h kind id none in
          let is : run p (task.One (command.Cancel c kind id)) ≡ refused p NoItem = rw (x.1, missing) refl in
          answered (refused s NoItem) (task.One (command.Cancel c kind id)) _ (refused p NoItem) is refl near)
          (λ b i there found none.
          let x = customer_in_part scope s p h c b customer there in
          let j = item_in_part scope s p h kind id i item found in
          let missing = booking_in_part scope s p h c (kind, id) b x.0 customer item there x.1 ∙ none in
          let is : run p (task.One (command.Cancel c kind id)) ≡ refused p NotBooked = rw (x.1, j.1, missing) refl in
          answered (refused s NotBooked) (task.One (command.Cancel c kind id)) _ (refused p NotBooked) is refl near)
          (λ b i y there found old.
          let x = customer_in_part scope s p h c b customer there in
          let j = item_in_part scope s p h kind id i item found in
          let known = booking_in_part scope s p h c (kind, id) b x.0 customer item there x.1 ∙ old in
          let is : run p (task.One (command.Cancel c kind id))
          ≡ done (with_item (with_bookings p c (remove x.0 (kind, id))) kind id (given_back j.0 y.units)) =
          rw (x.1, j.1, known) refl in
          let after = near_booked_both scope s p near c (kind, id) b (remove b (kind, id)) there
          (λ q apart. removed_elsewhere place_cmp_total place_cmp-IsAntisymmetric b (kind, id) q apart)
          x.0 (remove x.0 (kind, id)) x.1
          (λ q apart. removed_elsewhere place_cmp_total place_cmp-IsAntisymmetric x.0 (kind, id) q apart)
          customer item
          (get_removed place_cmp_total place_cmp-IsAntisymmetric x.0 (kind, id)
          ∙ sym (get_removed place_cmp_total place_cmp-IsAntisymmetric b (kind, id))) in
          answered (done (with_item (with_bookings s c (remove b (kind, id))) kind id (given_back i y.units)))
          (task.One (command.Cancel c kind id)) _
          (done (with_item (with_bookings p c (remove x.0 (kind, id))) kind id (given_back j.0 y.units))) is refl
          (near_item_both scope (with_bookings s c (remove b (kind, id))) (with_bookings p c (remove x.0 (kind, id)))
          after kind id (given_back i y.units) (given_back j.0 y.units) item j.2))

  -- questions
  price_made : (kind : Kind) (id : ℕ) → has_item scope (kind, id) ≡ true →
      Made (step s (command.Price kind id))
      (Some (task.One (command.Price kind id), reply_text (step s (command.Price kind id)).1))
  price_made kind id inside = go (item_of s kind id) refl
    where
      go : (o : Option Item) → item_of s kind id ≡ o → Made (step s (command.Price kind id))
          (Some (task.One (command.Price kind id), reply_text (step s (command.Price kind id)).1))
      go None e =
          let missing = item_missing_part scope s p h kind id e in
          let same : price_of p kind id ≡ price_of s kind id =
          ap (option_map (λ (i : Item). i.price)) (missing ∙ sym e) in
          answered (step s (command.Price kind id)) (task.One (command.Price kind id)) _
          (step p (command.Price kind id)) refl (ap (λ n. reply_text (reply.Number n)) same) near
      go (Some i) e =
          let j = item_in_part scope s p h kind id i inside e in
          let same : price_of p kind id ≡ price_of s kind id =
          ap (option_map (λ (i : Item). i.price)) j.1 ∙ ap (λ (o : ℕ × ℕ). Some o.1) j.2
          ∙ sym (ap (option_map (λ (i : Item). i.price)) e) in
          answered (step s (command.Price kind id)) (task.One (command.Price kind id)) _
          (step p (command.Price kind id)) refl (ap (λ n. reply_text (reply.Number n)) same) near

  free_made : (kind : Kind) (id : ℕ) → is_closed scope (kind, id) ≡ true →
      Made (step s (command.Free kind id))
      (Some (task.One (command.Free kind id), reply_text (step s (command.Free kind id)).1))
  free_made kind id shut = go (item_of s kind id) refl
    where
      inside : has_item scope (kind, id) ≡ true
      inside = (both_true (has_item scope (kind, id)) (is_place_among scope.closed.items (kind, id)) shut).0

      go : (o : Option Item) → item_of s kind id ≡ o → Made (step s (command.Free kind id))
          (Some (task.One (command.Free kind id), reply_text (step s (command.Free kind id)).1))
      go None e =
          let missing = item_missing_part scope s p h kind id e in
          let same : free_of (item_of p kind id) ≡ free_of (item_of s kind id) = ap free_of (missing ∙ sym e) in
          answered (step s (command.Free kind id)) (task.One (command.Free kind id)) _
          (step p (command.Free kind id)) refl (ap (λ n. reply_text (reply.Number n)) same) near
      go (Some i) e =
          let j = item_in_part scope s p h kind id i inside e in
          let equal = closed_same scope s p h kind id i j.0 shut e j.1 j.2 in
          let same : free_of (item_of p kind id) ≡ free_of (item_of s kind id) =
          ap free_of j.1 ∙ ap Some equal.0 ∙ sym (ap free_of e) in
          answered (step s (command.Free kind id)) (task.One (command.Free kind id)) _
          (step p (command.Free kind id)) refl (ap (λ n. reply_text (reply.Number n)) same) near

  -- Bill
  module _ (c : ℕ) where
    abbrev the_bill : Task
    the_bill = task.One (command.Bill c)

    abbrev Billed : Outcome → Type 0
    Billed o = Made o (
        if is_whole scope c || is_reply (reply.Number None) (reply_text o.1)
        then Some (the_bill, reply_text o.1)
        else None
        )

    billed_missing : bookings_of s c ≡ None → Billed (number_answered s None)
    billed_missing none = choose (number_answered s None) (is_whole scope c || true) _ _
        (λ _.
        let missing = customer_missing_part scope s p h c none in
        let is : run p the_bill ≡ number_answered p None = rw missing refl in
        answered (number_answered s None) the_bill _ (number_answered p None) is refl near)
        (λ e. absurd (or_true (is_whole scope c) e))

    billed_there : has_customer scope c ≡ true → (b : Bookings) → bookings_of s c ≡ Some b →
        Billed (number_answered s (Some (bill_of b)))
    billed_there inside b there =
        let o : Outcome = number_answered s (Some (bill_of b)) in
        let x = customer_in_part scope s p h c b inside there in
        choose o (is_whole scope c || is_reply (reply.Number None) (reply_text o.1)) _ _
        (λ e.
        let whole = whole_of (is_whole scope c) (bill_of b)
        (bill_small s c b (record { balanced = h.balanced; small = h.capacity }) there) e in
        let same = whole_same scope s p h c b x.0 whole there x.1 in
        let is : run p the_bill ≡ number_answered p (Some (bill_of x.0)) = rw x.1 refl in
        answered o the_bill (reply_text o.1) (number_answered p (Some (bill_of x.0))) is
        (ap (λ y. reply_text (reply.Number (Some (bill_of y)))) same) near)
        (λ _. near)

    bill_made : Made (step s (command.Bill c)) (bill_part scope c (reply_text (step s (command.Bill c)).1))
    bill_made = choose (step s (command.Bill c)) (has_customer scope c) _ _ (λ inside. go inside (bookings_of s c) refl)
        (λ _. near)
      where
        go : has_customer scope c ≡ true → (o : Option Bookings) → bookings_of s c ≡ o →
            Billed (number_answered s (option_map bill_of (bookings_of s c)))
        go inside None e =
            subst (λ x. Billed (number_answered s (option_map bill_of x))) (sym e) (billed_missing e)
        go inside (Some b) e =
            subst (λ x. Billed (number_answered s (option_map bill_of x))) (sym e) (billed_there inside b e)

  -- the part of a completed command
  pub command_made : (c : Command) →
      (not (is_reply reply.Done (reply_text (step s c).1)) || command_allowed scope c) ≡ true →
      Made (step s c) (command_part scope c (reply_text (step s c).1))
  command_made (command.Add kind id num price) fair =
      choose (add s kind id num price) (has_item scope (kind, id)) _ _
      (add_both kind id num price) (add_out scope s p near kind id num price)
  command_made (command.Delete kind id num) fair =
      choose (delete s kind id num) (has_item scope (kind, id)) _ _
      (delete_both kind id num) (delete_out scope s p near kind id num)
  command_made (command.DropFlight id) fair =
      choose (drop_flight s id) (has_item scope (Flight, id)) _ _ (drop_flight_both id)
      (drop_flight_out scope s p near id)
  command_made (command.NewCustomer id) fair =
      choose (new_customer s id) (has_customer scope id) _ _ (new_both id) (new_out scope s p near id)
  command_made (command.DropCustomer id) fair =
      choose (drop_customer s id) (has_customer scope id) _ _ (leave_both id) (leave_out scope s p near id)
  command_made (command.Free kind id) fair =
      choose (step s (command.Free kind id)) (is_closed scope (kind, id)) _ _ (free_made kind id) (λ _. near)
  command_made (command.Price kind id) fair =
      choose (step s (command.Price kind id)) (has_item scope (kind, id)) _ _ (price_made kind id) (λ _. near)
  command_made (command.Bill id) fair = bill_made id
  command_made (command.Reserve c kind id num) fair =
      choose (reserve s c kind id num) (has_customer scope c) _ _
      (λ customer. choose (reserve s c kind id num) (has_item scope (kind, id)) _ _
      (λ item. reserve_both c kind id customer item num)
      (λ apart. reserve_seen_customer c kind id num
      (ap (λ t. t && has_item scope (kind, id)) customer ∙ apart) customer fair))
      (λ stranger.
      let out : (has_customer scope c && has_item scope (kind, id)) ≡ false =
      ap (λ t. t && has_item scope (kind, id)) stranger in
      choose (reserve s c kind id num) (has_item scope (kind, id)) _ _
      (λ item. reserve_seen_item c kind id num out item fair)
      (λ apart. reserve_unseen c kind id num out fair))
  command_made (command.Cancel c kind id) fair =
      choose (cancel s c kind id) (has_customer scope c) _ _
      (λ customer. choose (cancel s c kind id) (has_item scope (kind, id)) _ _
      (λ item. cancel_both c kind id customer item)
      (λ apart. cancel_seen_customer c kind id (ap (λ t. t && has_item scope (kind, id)) customer ∙ apart) customer))
      (λ stranger.
      let out : (has_customer scope c && has_item scope (kind, id)) ≡ false =
      ap (λ t. t && has_item scope (kind, id)) stranger in
      choose (cancel s c kind id) (has_item scope (kind, id)) _ _
      (λ item. cancel_seen_item c kind id out item)
      (λ apart. cancel_out scope s p near c kind id out))
  command_made command.Audit fair = near
