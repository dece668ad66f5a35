-- All calls of a part have parts on each scope of the same customers and items: they book nothing of others.
use Rattle.std.proofs.Common.{◌≡◌, ℕ, ◌&&◌, ◌||◌, not, Bool, true, false, cond, List, [], ◌∷◌, refl, ap, ◌∙◌}
use Rattle.std.proofs.Common.{codes, drop, length}
use Rattle.std.specs.Prelude.{Option, Some, None, IfSome, ⊤, is_some, nat_le, nat_lt}
use Rattle.std.specs.List.{cons_option, list_all, find}
use Rattle.std.specs.Option.{option_map, option_map_or, option_and_then}
use Rattle.std.specs.Str.{bytes_eq}
use Rattle.vac_model.specs.declared.items.Kind.{Kind}
use Rattle.vac_model.specs.declared.items.Kind.TheVariants.{Car, Flight, Room}
use Rattle.vac_model.specs.declared.commands.Command.{Command}
use Rattle.vac_model.specs.declared.commands.Command.TheVariants as command
use Rattle.vac_model.specs.declared.commands.Refusal.{Refusal}
use Rattle.vac_model.specs.declared.commands.Refusal.TheVariants.{Full, NoItem, NotFree, InUse, NoCustomer, SoldOut}
use Rattle.vac_model.specs.declared.replies.Reply.TheVariants as reply
use Rattle.vac_model.specs.declared.tasks.Task.{Task}
use Rattle.vac_model.specs.declared.tasks.Task.TheVariants as task
use Rattle.vac_model.specs.State.{Place}
use Rattle.vac_model.specs.Ranges.{is_task}
use Rattle.vac_model.proofs.Ids.{both_true}
use Rattle.vac_lines.specs.Lines.{words_of}
use Rattle.vac_lines.proofs.Spacing.{Each}
use Rattle.judge_object.specs.declared.span.TheConstants.{NEVER}
use Rattle.judge_object.specs.Call.{Call}
use Rattle.judge_reservations.specs.declared.scope.Scope.{Scope}
use Rattle.judge_reservations.specs.Scopes.{has_customer, has_item, is_closed, is_whole, allows, IsCoarser}
use Rattle.judge_reservations.specs.Tasks.{Answered, is_reply}
use Rattle.judge_reservations.specs.Tasks.{units_part, customer_seen, item_seen, booking_part, keeps_bill}
use Rattle.judge_reservations.specs.Tasks.{command_part, command_changes, command_allowed, leave_part}
use Rattle.judge_reservations.specs.Updates.{Changed, is_why, changes_part, shown_update}
use Rattle.judge_reservations.specs.Trips.{Shown, TripWords, shown_pick, keeps_pick, is_kept, no_pick, kept_word}
use Rattle.judge_reservations.specs.Trips.{five_words, has_kept_pick, kept_asks, joins}
use Rattle.judge_reservations.specs.Trips.{joined_part, picked_part, shown_trip, pick_fits, picks_fit}
use Rattle.judge_reservations.specs.Completed.{task_part, answer_fits}
use Rattle.judge_reservations.specs.Pending.{pending_part, pending_fits}
use Rattle.judge_reservations.specs.Histories.{with_answered, with_pending, replied_part, part_of_call, part_of_history}
use Rattle.judge_reservations.specs.Histories.{reply_fits, fits, is_timed}
use Rattle.judge_reservations.specs.Lines.{has_part}
use Rattle.judge_reservations.proofs.Larger.{same_customer, same_item}
use Rattle.judge_reservations.proofs.CutParts.{and_all}
use Rattle.judge_reservations.proofs.TaskRanges.{task_range, pending_range}
use Rattle.judge_reservations.proofs.Ranges.{InRange}
use Rattle.judge_reservations.proofs.Spaces.{Spaceless, words_free}
use Rattle.judge_reservations.proofs.FinerCommands.{or_true}
use Rattle.judge_reservations.proofs.FinerTrips.{none_shown, read_back}

module _ (one other : Scope) (u : IsCoarser one other) where
  -- a task with its reply that books nothing which the scope does not allow, if there is one
  abbrev Fits : Option Answered → Type 0
  Fits None = ⊤
  Fits (Some a) = answer_fits one a.0 a.1 ≡ true

  fits_if : (b : Bool) (x y : Option Answered) → (b ≡ true → Fits x) → (b ≡ false → Fits y) → Fits (cond b x y)
  fits_if true x y f g = f refl
  fits_if false x y f g = g refl

  any_text : (text : List ℕ) → (not (is_reply reply.Done text) || true) ≡ true
  any_text text = or_true (not (is_reply reply.Done text))

  -- a booking of an item of the scope by a customer of the scope is allowed
  own_booking : (c : ℕ) (q : Place) → has_customer other c ≡ true → has_item other q ≡ true → allows one c q ≡ true
  own_booking c q e f =
      let customer = same_customer one other u c ∙ e in
      let item = same_item one other u q ∙ f in
      λ k. (customer k || not (is_closed one q)) && (item k || not (is_whole one c))

  or_right : (a b : Bool) → b ≡ true → (a || b) ≡ true
  or_right true b e = refl
  or_right false b e = e

  units_fit : (q : Place) (c : Command) (text : List ℕ) (why : Refusal) → command_allowed one c ≡ true →
      Fits (units_part other q (task.One c) text why)
  units_fit q c text why e =
      fits_if (has_item other q) _ _
      (λ _. fits_if (is_reply (reply.No why) text && not (is_closed other q)) _ _
      (λ _. refl) (λ _. or_right (not (is_reply reply.Done text)) (command_allowed one c) e)) (λ _. tt)

  seen_fits : (c : ℕ) (text : List ℕ) → Fits (customer_seen c text)
  seen_fits c text = fits_if (is_reply (reply.No NoCustomer) text) _ _ (λ _. refl) (λ _. refl)

  item_fits : (kind : Kind) (id : ℕ) (text : List ℕ) → Fits (item_seen kind id text)
  item_fits kind id text =
      fits_if (is_reply (reply.No NoCustomer) text) _ _ (λ _. tt)
      (λ _. fits_if (is_reply (reply.No NoItem) text) _ _ (λ _. refl) (λ _. refl))

  booking_fits : (c : ℕ) (kind : Kind) (id : ℕ) (text : List ℕ) (both : Option Answered) →
      (has_customer other c ≡ true → has_item other (kind, id) ≡ true → Fits both) →
      Fits (booking_part other c kind id text both)
  booking_fits c kind id text both h =
      fits_if (has_customer other c) _ _
      (λ e. fits_if (has_item other (kind, id)) _ _ (λ f. h e f) (λ _. seen_fits c text))
      (λ _. fits_if (has_item other (kind, id)) _ _ (λ _. item_fits kind id text) (λ _. tt))

  command_fits : (c : Command) (text : List ℕ) → Fits (command_part other c text)
  command_fits (command.Add kind id num price) text =
      fits_if (has_item other (kind, id)) _ _
      (λ _. fits_if (is_reply (reply.No Full) text) _ _ (λ _. tt) (λ _. any_text text)) (λ _. tt)
  command_fits (command.Delete kind id num) text =
      units_fit (kind, id) (command.Delete kind id num) text NotFree refl
  command_fits (command.DropFlight id) text = units_fit (Flight, id) (command.DropFlight id) text InUse refl
  command_fits (command.NewCustomer id) text =
      fits_if (has_customer other id) _ _
      (λ _. fits_if (is_reply (reply.No Full) text) _ _ (λ _. tt) (λ _. any_text text)) (λ _. tt)
  command_fits (command.DropCustomer id) text =
      fits_if (has_customer other id) _ _ (λ _. any_text text) (λ _. tt)
  command_fits (command.Free kind id) text =
      fits_if (is_closed other (kind, id)) _ _ (λ _. any_text text) (λ _. tt)
  command_fits (command.Price kind id) text =
      fits_if (has_item other (kind, id)) _ _ (λ _. any_text text) (λ _. tt)
  command_fits (command.Bill id) text =
      fits_if (has_customer other id) _ _
      (λ _. fits_if (keeps_bill other id text) _ _ (λ _. any_text text) (λ _. tt)) (λ _. tt)
  command_fits (command.Reserve c kind id num) text =
      booking_fits c kind id text _ (λ e f.
      fits_if (is_reply (reply.No SoldOut) text && not (is_closed other (kind, id))) _ _ (λ _. refl)
      (λ _. fits_if (is_reply (reply.No Full) text) _ _ (λ _. tt)
      (λ _. or_right (not (is_reply reply.Done text)) (allows one c (kind, id)) (own_booking c (kind, id) e f))))
  command_fits (command.Cancel c kind id) text = booking_fits c kind id text _ (λ e f. any_text text)
  command_fits command.Audit text = tt

  leave_fits : (c : ℕ) (text : List ℕ) → Fits (leave_part other c text)
  leave_fits c text =
      fits_if (has_customer other c) _ _
      (λ _. fits_if (keeps_bill other c text) _ _ (λ _. refl) (λ _. refl)) (λ _. tt)

  update_fits : (xs : List Changed) → Fits (shown_update xs)
  update_fits [] = tt
  update_fits (x ∷ xs) = refl

  -- a pick of the part
  module _ (c : ℕ) (inside : has_customer other c ≡ true) where
    abbrev pick_fit : Kind → Option Shown → Bool
    pick_fit kind o =
        option_map_or (λ (pick : Shown). not (bytes_eq pick.1 (codes "true")) || allows one c (kind, pick.0)) o true

    shown_fits : (kind : Kind) (o : Option Shown) → option_map_or (keeps_pick other kind) o true ≡ true →
        pick_fit kind o ≡ true
    shown_fits kind None e = refl
    shown_fits kind (Some pick) e =
        let q : Place = (kind, pick.0) in
        let outer = both_true (has_item other q && not (is_why Full pick.1))
        (not (is_why SoldOut pick.1) || is_closed other q) e in
        let inner = both_true (has_item other q) (not (is_why Full pick.1)) outer.0 in
        or_right (not (bytes_eq pick.1 (codes "true"))) (allows one c q) (own_booking c q inside inner.0)

    word_fits : (kind : Kind) (word : List ℕ) → pick_fits one c kind (kept_word other kind word) ≡ true
    word_fits kind word = go (is_kept other kind word) refl
      where
        go : (b : Bool) → is_kept other kind word ≡ b → pick_fits one c kind (cond b word (no_pick kind)) ≡ true
        go true e = shown_fits kind (shown_pick word) e
        go false e = ap (pick_fit kind) (none_shown kind)

    joined_fits : (word : List ℕ) → Fits (joined_part c word)
    joined_fits word = fits_if (bytes_eq word (codes "cust=true")) _ _ (λ _. refl) (λ _. refl)

    picked_fits : (asks : List Place) (words : TripWords) → Spaceless words.0 → Spaceless words.1 →
        Spaceless words.2 → Spaceless words.3 → Fits (picked_part other c asks words)
    picked_fits asks words p q r s =
        fits_if (has_kept_pick other words && nat_le 1 (length (kept_asks other words asks))) _ _
        (λ _. ap (λ o. option_map_or (picks_fit one c) o true)
        (read_back one other u c asks words (p, q, r, s))
        ∙ and_all (pick_fits one c Car (kept_word other Car words.1)
        && pick_fits one c Flight (kept_word other Flight words.2))
        (pick_fits one c Room (kept_word other Room words.3))
        (and_all (pick_fits one c Car (kept_word other Car words.1))
        (pick_fits one c Flight (kept_word other Flight words.2)) (word_fits Car words.1) (word_fits Flight words.2))
        (word_fits Room words.3))
        (λ _. joined_fits words.0)

  module _ (c : ℕ) (asks : List Place) where
    shown_trip_fits : (words : TripWords) → Spaceless words.0 → Spaceless words.1 → Spaceless words.2 →
        Spaceless words.3 → Fits (shown_trip other c asks words)
    shown_trip_fits words p q r s =
        fits_if (has_customer other c && joins words.0) _ _
        (λ e. picked_fits c (both_true (has_customer other c) (joins words.0) e).0 asks words p q r s) (λ _. tt)

    cut_fits : (ws : List (List ℕ)) → Each Spaceless ws →
        Fits (option_and_then (shown_trip other c asks) (five_words ws))
    cut_fits [] h = tt
    cut_fits (a ∷ []) h = tt
    cut_fits (a ∷ b ∷ []) h = tt
    cut_fits (a ∷ b ∷ d ∷ []) h = tt
    cut_fits (a ∷ b ∷ d ∷ e ∷ []) h = tt
    cut_fits (a ∷ b ∷ d ∷ e ∷ f ∷ []) h =
        shown_trip_fits (b, d, e, f) h.1.0 h.1.1.0 h.1.1.1.0 h.1.1.1.1.0
    cut_fits (a ∷ b ∷ d ∷ e ∷ f ∷ g ∷ ws) h = tt

  task_fits : (t : Task) (text : List ℕ) → Fits (task_part other t text)
  task_fits (task.One c) text = command_fits c text
  task_fits (task.Trip c asks) text = cut_fits c asks (words_of text) (words_free text)
  task_fits (task.Leave c) text = leave_fits c text
  task_fits (task.Update cs) text = update_fits (changes_part other cs (drop 1 (words_of text)))

  -- a pending call whose reply is unknown
  abbrev Waits : Option Task → Type 0
  Waits o = IfSome o (λ t. pending_fits one t ≡ true)

  waits_if : (b : Bool) (t : Task) → (b ≡ true → pending_fits one t ≡ true) → Waits (cond b (Some t) None)
  waits_if true t f = f refl
  waits_if false t f = tt

  changes_allowed : (c : Command) → command_changes other c ≡ true → command_allowed one c ≡ true
  changes_allowed (command.Add kind id num price) e = refl
  changes_allowed (command.Delete kind id num) e = refl
  changes_allowed (command.DropFlight id) e = refl
  changes_allowed (command.NewCustomer id) e = refl
  changes_allowed (command.DropCustomer id) e = refl
  changes_allowed (command.Free kind id) e = refl
  changes_allowed (command.Price kind id) e = refl
  changes_allowed (command.Bill id) e = refl
  changes_allowed (command.Reserve c kind id num) e =
      let both = both_true (has_customer other c) (has_item other (kind, id)) e in
      own_booking c (kind, id) both.0 both.1
  changes_allowed (command.Cancel c kind id) e = refl
  changes_allowed command.Audit e = refl

  found_waits : (cs : List Command) → Waits (option_map task.One (find (command_changes other) cs))
  found_waits [] = tt
  found_waits (c ∷ cs) = go (command_changes other c) refl (found_waits cs)
    where
      go : (b : Bool) → command_changes other c ≡ b →
          Waits (option_map task.One (find (command_changes other) cs)) →
          Waits (option_map task.One (cond b (Some c) (find (command_changes other) cs)))
      go true e h = changes_allowed c e
      go false e h = h

  pending_waits : (t : Task) → Waits (pending_part other t)
  pending_waits (task.One c) = waits_if (command_changes other c) (task.One c) (changes_allowed c)
  pending_waits (task.Trip c asks) = waits_if (has_customer other c) (task.One (command.NewCustomer c)) (λ _. refl)
  pending_waits (task.Leave c) = waits_if (has_customer other c) (task.Leave c) (λ _. refl)
  pending_waits (task.Update cs) = found_waits cs

  -- the calls of a part
  abbrev HasPart : Option (Call Task) → Type 0
  HasPart None = ⊤
  HasPart (Some call) = has_part one call ≡ true

  all_true : (a b d : Bool) → a ≡ true → b ≡ true → d ≡ true → ((a && b) && d) ≡ true
  all_true a b d e f g = and_all (a && b) d (and_all a b e f) g

  module _ (call : Call Task) where
    answered_part : (o : Option Answered) → InRange o → Fits o → nat_lt call.begin NEVER ≡ true →
        HasPart (option_map (with_answered call) o)
    answered_part None r f e = tt
    answered_part (Some a) r f e =
        all_true (is_task a.0) (answer_fits one a.0 a.1) (nat_lt call.begin NEVER && true) r f
        (and_all (nat_lt call.begin NEVER) true e refl)

    pending_has : (o : Option Task) → IfSome o (λ t. is_task t ≡ true) → Waits o →
        (nat_lt call.begin NEVER && nat_le NEVER call.end) ≡ true → HasPart (option_map (with_pending call) o)
    pending_has None r f e = tt
    pending_has (Some t) r f e =
        all_true (is_task t) (pending_fits one t) (nat_lt call.begin NEVER && nat_le NEVER call.end) r f e

    in_range : (o : Option Task) → o ≡ pending_part other call.op → is_task call.op ≡ true →
        IfSome o (λ t. is_task t ≡ true)
    in_range None e h = tt
    in_range (Some t) e h = pending_range other t call.op e h

    replied_has : (given : Option (List ℕ)) → is_task call.op ≡ true →
        (nat_lt call.begin NEVER && (is_some given || nat_le NEVER call.end)) ≡ true →
        HasPart (replied_part other call given)
    replied_has None h e =
        pending_has (pending_part other call.op) (in_range (pending_part other call.op) refl h)
        (pending_waits call.op) e
    replied_has (Some text) h e =
        answered_part (task_part other call.op text) (task_range other call.op text h) (task_fits call.op text)
        (both_true (nat_lt call.begin NEVER) true e).0

    part_has : has_part other call ≡ true → HasPart (part_of_call other call)
    part_has e =
        let outer = both_true (fits other call) (is_timed call) e in
        replied_has call.reply (both_true (is_task call.op) (reply_fits other call.op call.reply) outer.0).0 outer.1

  one_has : (o : Option (Call Task)) (calls : List (Call Task)) → HasPart o → list_all (has_part one) calls ≡ true →
      list_all (has_part one) (cons_option o calls) ≡ true
  one_has None calls h rest = rest
  one_has (Some call) calls h rest = and_all (has_part one call) (list_all (has_part one) calls) h rest

  pub parts_have_parts : (calls : List (Call Task)) → list_all (has_part other) calls ≡ true →
      list_all (has_part one) (part_of_history other calls) ≡ true
  parts_have_parts [] e = refl
  parts_have_parts (c ∷ cs) e =
      let both = both_true (has_part other c) (list_all (has_part other) cs) e in
      one_has (part_of_call other c) (part_of_history other cs) (part_has c both.0) (parts_have_parts cs both.1)
