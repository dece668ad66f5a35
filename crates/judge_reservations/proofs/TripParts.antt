-- The part of a trip is made from the part of the state before, and leads to the part of the state after.
use Rattle.std.proofs.Common.{◌≡◌, ◌⊎◌, ℕ, ◌≤◌, ◌&&◌, ◌||◌, not, Bool, true, false, cond, List, [], ◌∷◌, ◌++◌, length}
use Rattle.std.proofs.Common.{refl}
use Rattle.std.proofs.Common.{ap, sym, subst, ◌∙◌, inl, inr, arith, decimal, codes, suc}
use Rattle.std.specs.Prelude.{Option, Some, None, IfSome, ⊤, is_some, filter, nat_le}
use Rattle.std.specs.List.{list_all}
use Rattle.std.specs.Option.{option_map, option_map_or, option_and_then}
use Rattle.std.specs.Str.{bytes_eq}
use Rattle.std.proofs.lemmas.Bool.Decides.{nat_tests}
use Rattle.vac_model.specs.declared.limits.TheConstants.{MOST_PARTS}
use Rattle.vac_model.specs.declared.items.Kind.{Kind}
use Rattle.vac_model.specs.declared.items.Kind.TheVariants.{Car, Flight, Room}
use Rattle.vac_model.specs.declared.commands.Command.TheVariants as command
use Rattle.vac_model.specs.declared.commands.Refusal.TheVariants.{NeedsCountAndPrice, TotalLimit, Full, NoItem, NotFree}
use Rattle.vac_model.specs.declared.commands.Refusal.TheVariants.{InUse, Exists, NoCustomer, SoldOut, NotBooked}
use Rattle.vac_model.specs.declared.commands.Refusal.TheVariants.{UnitLimit}
use Rattle.vac_model.specs.declared.replies.Reply.{Reply}
use Rattle.vac_model.specs.declared.replies.Reply.TheVariants as reply
use Rattle.vac_model.specs.declared.replies.CustomerOutcome.TheVariants as joined
use Rattle.vac_model.specs.declared.replies.Pick.{Pick}
use Rattle.vac_model.specs.declared.tasks.Task.{Task}
use Rattle.vac_model.specs.declared.tasks.Task.TheVariants as task
use Rattle.vac_model.specs.Amounts.{is_id, is_list_length}
use Rattle.vac_model.specs.Ranges.{is_command, is_task}
use Rattle.vac_model.specs.State.{State, Place, bookings_of, is_full}
use Rattle.vac_model.specs.Step.{Outcome, refused, step, reserve, new_customer, when_found, price_of}
use Rattle.vac_model.specs.Run.{Choice, choice_of, reserve_choice, joined_of, book_choices, trip_with, trip, run}
use Rattle.vac_model.specs.Run.{refusal_of}
use Rattle.vac_model.proofs.Ids.{both_true}
use Rattle.vac_model.proofs.Kept.{found_both, if_both}
use Rattle.vac_model.specs.ReplyText.{reply_text, done_text}
use Rattle.judge_reservations.specs.declared.scope.Scope.{Scope}
use Rattle.judge_reservations.specs.Scopes.{has_customer, has_item, is_closed, allows}
use Rattle.judge_reservations.specs.Parts.{HasPart, offer_of}
use Rattle.judge_reservations.specs.Tasks.{Answered, is_reply, kept, customer_exists, customer_seen, item_seen}
use Rattle.judge_reservations.specs.Tasks.{command_part}
use Rattle.judge_reservations.specs.Updates.{is_why}
use Rattle.judge_reservations.specs.Trips.{Shown, TripWords, shown_pick, keeps_pick, has_kept, is_kept, no_pick}
use Rattle.judge_reservations.specs.Trips.{kept_word}
use Rattle.judge_reservations.specs.Trips.{word_for}
use Rattle.judge_reservations.specs.Trips.{trip_words, has_kept_pick, kept_asks, kept_text, joins, joined_part}
use Rattle.judge_reservations.specs.Trips.{picked_part}
use Rattle.judge_reservations.specs.Trips.{shown_trip, trip_part, pick_fits, picks_fit, trip_fits}
use Rattle.judge_reservations.proofs.Numbers.{none_of}
use Rattle.judge_reservations.proofs.Effects.{Near}
use Rattle.judge_reservations.proofs.Outside.{reserve_cases}
use Rattle.judge_reservations.proofs.Commands.{Made, near, answered, command_made, reserve_unseen}
use Rattle.judge_reservations.proofs.Tasks.{Passes, choice_passes}
use Rattle.judge_reservations.proofs.Ranges.{InRange, next_out, next_both, not_true}
use Rattle.judge_reservations.proofs.Replies.{IsShort, word_of, same_word, tests, prefix, pick_word, joined_word}
use Rattle.judge_reservations.proofs.Replies.{no_pick_word}
use Rattle.judge_reservations.proofs.Replies.{words_joined, trip_reads, HasId, reply_words, none_seen, pick_seen}
use Rattle.judge_reservations.proofs.Choices.{priced, left_out, kept_choice}

false_true : {X : Type 0} → false ≡ true → X
false_true e = absurd (let never : false ≡ true = e in cc)

reserve_short : (s : State) (c : ℕ) (kind : Kind) (id num : ℕ) → IsShort (reserve s c kind id num).1
reserve_short s c kind id num = reserve_cases s c kind id num (λ o. IsShort o.1) (λ _. tt) (λ _ _ _. tt)
    (λ _ _ _ _ _. tt) (λ _ _ _ _ _. tt) (λ _ _ _ _ _ _ _. tt) (λ _ _ _ _ _ _ _ _. tt) (λ _ _ _ _ _ _ _ _. tt)

new_short : (s : State) (c : ℕ) → IsShort (new_customer s c).1
new_short s c = found_both (λ o. IsShort o.1) (bookings_of s c) _ _
    (λ none. if_both (λ o. IsShort o.1) (is_full s) _ _ (λ _. tt) (λ _. tt)) (λ b there. tt)

full_same : (s : State) (c : ℕ) (kind : Kind) (id num : ℕ) →
    is_why Full (word_of (reserve s c kind id num).1) ≡ true → (reserve s c kind id num).0 ≡ s
full_same s c kind id num = reserve_cases s c kind id num (λ o. is_why Full (word_of o.1) ≡ true → o.0 ≡ s)
    (λ _ _. refl) (λ _ _ _ _. refl) (λ _ _ _ _ _ _. refl) (λ _ _ _ _ _ _. refl) (λ _ _ _ _ _ _ _ e. false_true e)
    (λ _ _ _ _ _ _ _ _ _. refl) (λ _ _ _ _ _ _ _ _ e. false_true e)

sold_same : (s : State) (c : ℕ) (kind : Kind) (id num : ℕ) →
    is_why SoldOut (word_of (reserve s c kind id num).1) ≡ true → (reserve s c kind id num).0 ≡ s
sold_same s c kind id num = reserve_cases s c kind id num (λ o. is_why SoldOut (word_of o.1) ≡ true → o.0 ≡ s)
    (λ _ _. refl) (λ _ _ _ _. refl) (λ _ _ _ _ _ _. refl) (λ _ _ _ _ _ _. refl) (λ _ _ _ _ _ _ _ e. false_true e)
    (λ _ _ _ _ _ _ _ _ _. refl) (λ _ _ _ _ _ _ _ _ e. false_true e)

-- a missing customer books nothing
missing_choice : (s : State) (c : ℕ) (kind : Kind) (ch : Option Choice) → bookings_of s c ≡ None →
    (reserve_choice s c kind ch).0 ≡ s
missing_choice s c kind None missing = refl
missing_choice s c kind (Some ch) missing =
    let is : reserve s c kind ch.0 1 ≡ refused s NoCustomer = rw missing refl in ap (λ (o : Outcome). o.0) is

-- tests
sold_case : (a b : Bool) → (not a || b) ≡ true → (a && not b) ≡ false
sold_case true true e = refl
sold_case true false e = false_true e
sold_case false b e = refl

and_none : (b : Bool) → (b && false) ≡ false
and_none true = refl
and_none false = refl

or_any : (b : Bool) → (not b || true) ≡ true
or_any true = refl
or_any false = refl

unkept : (a f x : Bool) → (a && not f && x) ≡ false → a ≡ true → (f ≡ true) ⊎ (x ≡ false)
unkept true true x e g = inl refl
unkept true false x e g = inr e
unkept false f x e g = false_true g

sold_then : (a b : Bool) → (not a || b) ≡ false → a ≡ true
sold_then true b e = refl
sold_then false b e = false_true (sym e)

abbrev nothing_of : (X : Type 0) → Option X
nothing_of X = None

cond_none : {X : Type 0} (b : Bool) → cond b (nothing_of X) (nothing_of X) ≡ nothing_of X
cond_none true = refl
cond_none false = refl

some_if : {X : Type 0} (b : Bool) (x : X) → is_some (cond b (Some x) None) ≡ b
some_if true x = refl
some_if false x = refl

-- the choice that is kept, given the word for its pick
abbrev kept_if : Scope → Kind → List ℕ → Option Choice → Option Choice
kept_if scope kind word ch = cond (is_kept scope kind word) ch None

abbrev choice_word : State → ℕ → Kind → Option Choice → List ℕ
choice_word s c kind ch = pick_word kind (reserve_choice s c kind ch).1

abbrev HasIds : Option Choice → Type 0
HasIds ch = IfSome ch (λ x. is_id x.0 ≡ true)

has_id : (s : State) (c : ℕ) (kind : Kind) (ch : Option Choice) → HasIds ch → HasId (reserve_choice s c kind ch).1
has_id s c kind None h = tt
has_id s c kind (Some ch) h = h

module _ (scope : Scope) where
  -- what the word for a choice shows
  module _ (s : State) (c : ℕ) (kind : Kind) where
    seen : (ch : Choice) → is_id ch.0 ≡ true →
        shown_pick (choice_word s c kind (Some ch)) ≡ Some (ch.0, word_of (reserve s c kind ch.0 1).1)
    seen ch ids =
        pick_seen kind (record { id = ch.0; price = ch.1; refused = refusal_of (reserve s c kind ch.0 1).1 }) ids

    keeps : (ch : Choice) → is_id ch.0 ≡ true → is_kept scope kind (choice_word s c kind (Some ch))
        ≡ keeps_pick scope kind (ch.0, word_of (reserve s c kind ch.0 1).1)
    keeps ch ids = ap (λ o. option_map_or (keeps_pick scope kind) o true) (seen ch ids)

    -- the choice that is kept is there if the word has a pick that is kept
    some_kept : (ch : Option Choice) → HasIds ch →
        is_some (kept_if scope kind (choice_word s c kind ch) ch) ≡ has_kept scope kind (choice_word s c kind ch)
    some_kept None ids =
        ap is_some (cond_none (is_kept scope kind (choice_word s c kind None)))
        ∙ sym (ap (λ o. option_map_or (keeps_pick scope kind) o false) (none_seen kind))
    some_kept (Some ch) ids =
        some_if (is_kept scope kind (choice_word s c kind (Some ch))) ch ∙ keeps ch ids
        ∙ sym (ap (λ o. option_map_or (keeps_pick scope kind) o false) (seen ch ids))

    -- a choice that is kept is an item of the scope
    kept_inside : (ch : Option Choice) → HasIds ch → is_kept scope kind (choice_word s c kind ch) ≡ true →
        Passes (has_item scope) kind ch
    kept_inside None ids e = tt
    kept_inside (Some ch) ids e =
        let word = word_of (reserve s c kind ch.0 1).1 in
        let outer = both_true (has_item scope (kind, ch.0) && not (is_why Full word))
        (not (is_why SoldOut word) || is_closed scope (kind, ch.0)) (sym (keeps ch ids) ∙ e) in
        (both_true (has_item scope (kind, ch.0)) (not (is_why Full word)) outer.0).0

    fair_choice : (ch : Choice) → is_id ch.0 ≡ true → pick_fits scope c kind (choice_word s c kind (Some ch)) ≡ true →
        (not (is_reply reply.Done (reply_text (reserve s c kind ch.0 1).1)) || allows scope c (kind, ch.0)) ≡ true
    fair_choice ch ids fit =
        ap (λ t. not t || allows scope c (kind, ch.0)) ((tests (reserve s c kind ch.0 1).1
        (reserve_short s c kind ch.0 1)).done)
        ∙ sym (ap (λ o. option_map_or (λ (pick : Shown). not (bytes_eq pick.1 (codes "true"))
        || allows scope c (kind, pick.0)) o true) (seen ch ids)) ∙ fit

  -- the part of a booking that is kept
  reserve_shown : (c : ℕ) (kind : Kind) (id : ℕ) (text : List ℕ) → has_customer scope c ≡ true →
      has_item scope (kind, id) ≡ true →
      (is_reply (reply.No SoldOut) text && not (is_closed scope (kind, id))) ≡ false →
      is_reply (reply.No Full) text ≡ false →
      command_part scope (command.Reserve c kind id 1) text ≡ Some (task.One (command.Reserve c kind id 1), text)
  reserve_shown c kind id text inside item sold full =
      let t = task.One (command.Reserve c kind id 1) in
      let both = cond (is_reply (reply.No SoldOut) text && not (is_closed scope (kind, id))) (customer_exists c)
      (kept t text) in
      ap (λ x. cond x (cond (has_item scope (kind, id)) both (customer_seen c text))
      (cond (has_item scope (kind, id)) (item_seen kind id text) None)) inside
      ∙ ap (λ x. cond x both (customer_seen c text)) item
      ∙ ap (λ x. cond x (customer_exists c) (kept t text)) sold
      ∙ ap (λ x. cond x None (Some (t, text))) full

  -- a pick, and the pick of the part
  record Picked (s p : State) (c : ℕ) (kind : Kind) (ch : Option Choice) (seen_word : List ℕ) : Type 0 where
    pub part : HasPart scope (reserve_choice s c kind ch).0
        (reserve_choice p c kind (kept_if scope kind seen_word ch)).0
    pub word : choice_word p c kind (kept_if scope kind seen_word ch) ≡ kept_word scope kind seen_word

  module _ (s p : State) (h : HasPart scope s p) (c : ℕ) (own : is_id c ≡ true) (kind : Kind) where
    range : (id : ℕ) → is_id id ≡ true → is_command (command.Reserve c kind id 1) ≡ true
    range id ids = rw (own, ids) refl

    -- a stranger, or an item outside the scope
    unseen : (ch : Choice) → is_id ch.0 ≡ true → pick_fits scope c kind (choice_word s c kind (Some ch)) ≡ true →
        (has_customer scope c && has_item scope (kind, ch.0)) ≡ false → HasPart scope (reserve s c kind ch.0 1).0 p
    unseen ch ids fit out =
        next_out scope s p (task.One (command.Reserve c kind ch.0 1)) h (range ch.0 ids)
        (reserve_unseen scope s p h c kind ch.0 1 out (fair_choice s c kind ch ids fit))

    stranger_step : (ch : Option Choice) → HasIds ch → pick_fits scope c kind (choice_word s c kind ch) ≡ true →
        has_customer scope c ≡ false → HasPart scope (reserve_choice s c kind ch).0 p
    stranger_step None ids fit out = h
    stranger_step (Some ch) ids fit out = unseen ch ids fit (ap (λ t. t && has_item scope (kind, ch.0)) out)

    module _ (inside : has_customer scope c ≡ true) (ch : Choice) (ids : is_id ch.0 ≡ true)
        (fit : pick_fits scope c kind (choice_word s c kind (Some ch)) ≡ true) where
      abbrev taken : Outcome
      taken = reserve s c kind ch.0 1

      abbrev result : List ℕ
      result = word_of taken.1

      abbrev the_reserve : Task
      the_reserve = task.One (command.Reserve c kind ch.0 1)

      reserved : keeps_pick scope kind (ch.0, result) ≡ true →
          (reply_text (run p the_reserve).1 ≡ reply_text taken.1) × Near scope taken.0 (run p the_reserve).0
      reserved e =
          let t = tests taken.1 (reserve_short s c kind ch.0 1) in
          let outer = both_true (has_item scope (kind, ch.0) && not (is_why Full result))
          (not (is_why SoldOut result) || is_closed scope (kind, ch.0)) e in
          let inner = both_true (has_item scope (kind, ch.0)) (not (is_why Full result)) outer.0 in
          let not_full : is_reply (reply.No Full) (reply_text taken.1) ≡ false =
          t.full ∙ not_true (is_why Full result) inner.1 in
          let not_sold : (is_reply (reply.No SoldOut) (reply_text taken.1) && not (is_closed scope (kind, ch.0))) ≡
          false =
          ap (λ x. x && not (is_closed scope (kind, ch.0))) t.sold
          ∙ sold_case (is_why SoldOut result) (is_closed scope (kind, ch.0)) outer.1 in
          let same = reserve_shown c kind ch.0 (reply_text taken.1) inside inner.0 not_sold not_full in
          subst (Made scope s p h taken) same
          (command_made scope s p h (command.Reserve c kind ch.0 1) (fair_choice s c kind ch ids fit))

      -- a refusal that is not kept changes nothing
      refused_same : has_item scope (kind, ch.0) ≡ true → keeps_pick scope kind (ch.0, result) ≡ false → taken.0 ≡ s
      refused_same item e =
          elim (unkept (has_item scope (kind, ch.0)) (is_why Full result)
          (not (is_why SoldOut result) || is_closed scope (kind, ch.0)) e item) [
            | inl full ↦ full_same s c kind ch.0 1 full
            | inr sold ↦ sold_same s c kind ch.0 1
                (sold_then (is_why SoldOut result) (is_closed scope (kind, ch.0)) sold)
          ]

      left_alone : keeps_pick scope kind (ch.0, result) ≡ false → (i : Bool) → has_item scope (kind, ch.0) ≡ i →
          HasPart scope taken.0 p
      left_alone e true item = subst (λ x. HasPart scope x p) (sym (refused_same item e)) h
      left_alone e false item =
          unseen ch ids fit (ap (λ t. has_customer scope c && t) item ∙ and_none (has_customer scope c))

      picked_if : (b : Bool) → keeps_pick scope kind (ch.0, result) ≡ b →
          Picked s p c kind (Some ch) (choice_word s c kind (Some ch))
      picked_if true e =
          let kept = keeps s c kind ch ids ∙ e in
          let made = reserved e in
          let same = same_word (reserve p c kind ch.0 1).1 taken.1 (reserve_short p c kind ch.0 1)
          (reserve_short s c kind ch.0 1) made.0 in
          record {
            part = subst (λ t. HasPart scope taken.0 (reserve_choice p c kind (cond t (Some ch) None)).0) (sym kept)
                (next_both scope s p the_reserve the_reserve h (range ch.0 ids) (range ch.0 ids) made.1);
            word = ap (λ t. choice_word p c kind (cond t (Some ch) None)) kept
                ∙ ap (λ t. prefix kind ++ ((decimal ch.0 ++ codes ":") ++ t)) same
                ∙ sym (ap (λ t. cond t (choice_word s c kind (Some ch)) (no_pick kind)) kept);
          }
      picked_if false e =
          let kept = keeps s c kind ch ids ∙ e in
          record {
            part = subst (λ t. HasPart scope taken.0 (reserve_choice p c kind (cond t (Some ch) None)).0) (sym kept)
                (left_alone e (has_item scope (kind, ch.0)) refl);
            word = ap (λ t. choice_word p c kind (cond t (Some ch) None)) kept ∙ no_pick_word kind
                ∙ sym (ap (λ t. cond t (choice_word s c kind (Some ch)) (no_pick kind)) kept);
          }

    picked : has_customer scope c ≡ true → (ch : Option Choice) → HasIds ch →
        pick_fits scope c kind (choice_word s c kind ch) ≡ true → Picked s p c kind ch (choice_word s c kind ch)
    picked inside None ids fit =
        let none = cond_none {X = Choice} (is_kept scope kind (choice_word s c kind None)) in
        let kept : is_kept scope kind (choice_word s c kind None) ≡ true =
        ap (λ o. option_map_or (keeps_pick scope kind) o true) (none_seen kind) in
        record {
          part = subst (λ x. HasPart scope s (reserve_choice p c kind x).0) (sym none) h;
          word = ap (choice_word p c kind) none
              ∙ sym (ap (λ t. cond t (choice_word s c kind None) (no_pick kind)) kept);
        }
    picked inside (Some ch) ids fit =
        picked_if inside ch ids fit (keeps_pick scope kind (ch.0, word_of (reserve s c kind ch.0 1).1)) refl

-- a trip that goes on once its customer was asked for
abbrev booked_after : Outcome → ℕ → Option Choice → Option Choice → Option Choice → Outcome
booked_after asked c car flight room =
    let a = reserve_choice asked.0 c Car car in
    let b = reserve_choice a.0 c Flight flight in
    let d = reserve_choice b.0 c Room room in
    (d.0, reply.Trip (record { joined = joined_of asked.1; picks = a.1 ∷ b.1 ∷ d.1 ∷ [] }))

-- the words of its reply
abbrev words_after : Outcome → ℕ → Option Choice → Option Choice → Option Choice → TripWords
words_after asked c car flight room =
    let a = reserve_choice asked.0 c Car car in
    let b = reserve_choice a.0 c Flight flight in (
      joined_word (joined_of asked.1),
      choice_word asked.0 c Car car,
      choice_word a.0 c Flight flight,
      choice_word b.0 c Room room,
    )

words_read : (asked : Outcome) (c : ℕ) (car flight room : Option Choice) → HasIds car → HasIds flight → HasIds room →
    trip_words (reply_text (booked_after asked c car flight room).1) ≡ Some (words_after asked c car flight room)
words_read asked c car flight room x y z =
    let a = reserve_choice asked.0 c Car car in
    let b = reserve_choice a.0 c Flight flight in
    let d = reserve_choice b.0 c Room room in
    reply_words (joined_of asked.1) a.1 b.1 d.1 (has_id asked.0 c Car car x) (has_id a.0 c Flight flight y)
    (has_id b.0 c Room room z)

-- the words for the customer
joined_not_full : (r : Reply) → IsShort r → joins (joined_word (joined_of r)) ≡ true →
    is_reply (reply.No Full) (reply_text r) ≡ false
joined_not_full reply.Done h e = refl
joined_not_full (reply.Number n) h e = absurd h
joined_not_full (reply.Report r) h e = absurd h
joined_not_full (reply.No NeedsCountAndPrice) h e = refl
joined_not_full (reply.No TotalLimit) h e = refl
joined_not_full (reply.No Full) h e = false_true e
joined_not_full (reply.No NoItem) h e = refl
joined_not_full (reply.No NotFree) h e = refl
joined_not_full (reply.No InUse) h e = refl
joined_not_full (reply.No Exists) h e = refl
joined_not_full (reply.No NoCustomer) h e = refl
joined_not_full (reply.No SoldOut) h e = refl
joined_not_full (reply.No NotBooked) h e = refl
joined_not_full (reply.No UnitLimit) h e = refl
joined_not_full (reply.Trip r) h e = absurd h
joined_not_full (reply.Update r) h e = absurd h

joined_same : (c : ℕ) (r : Reply) → IsShort r → joins (joined_word (joined_of r)) ≡ true →
    joined_part c (joined_word (joined_of r)) ≡ Some (task.One (command.NewCustomer c), reply_text r)
joined_same c reply.Done h e = refl
joined_same c (reply.Number n) h e = absurd h
joined_same c (reply.Report r) h e = absurd h
joined_same c (reply.No NeedsCountAndPrice) h e = false_true e
joined_same c (reply.No TotalLimit) h e = false_true e
joined_same c (reply.No Full) h e = false_true e
joined_same c (reply.No NoItem) h e = false_true e
joined_same c (reply.No NotFree) h e = false_true e
joined_same c (reply.No InUse) h e = false_true e
joined_same c (reply.No Exists) h e = refl
joined_same c (reply.No NoCustomer) h e = false_true e
joined_same c (reply.No SoldOut) h e = false_true e
joined_same c (reply.No NotBooked) h e = false_true e
joined_same c (reply.No UnitLimit) h e = false_true e
joined_same c (reply.Trip r) h e = absurd h
joined_same c (reply.Update r) h e = absurd h

-- asks that are kept
pub fewer_asks : (p : Place → Bool) (asks : List Place) → length (filter p asks) ≤ length asks
fewer_asks p [] = omega arith
fewer_asks p (ask ∷ asks) =
    let rest = fewer_asks p asks in
    elim (p ask) as (λ b. length (cond b (ask ∷ filter p asks) (filter p asks)) ≤ suc (length asks)) [
      | true ↦ omega (arith, rest)
      | false ↦ omega (arith, rest)
    ]

pub all_kept : (q p : Place → Bool) (asks : List Place) → list_all q asks ≡ true → list_all q (filter p asks) ≡ true
all_kept q p [] e = refl
all_kept q p (ask ∷ asks) e =
    let both = both_true (q ask) (list_all q asks) e in
    let rest = all_kept q p asks both.1 in
    elim (p ask) as (λ b. list_all q (cond b (ask ∷ filter p asks) (filter p asks)) ≡ true) [
      | true ↦ rw (both.0, rest) refl
      | false ↦ rest
    ]

some_asks : (t : State) (asks : List Place) →
    (is_some (choice_of t Car asks) || is_some (choice_of t Flight asks) || is_some (choice_of t Room asks)) ≡ true →
    1 ≤ length asks
some_asks t [] e = false_true e
some_asks t (ask ∷ asks) e = omega arith

module _ (scope : Scope) (c : ℕ) (own : is_id c ≡ true) (car flight room : Option Choice)
    (car_ids : HasIds car) (flight_ids : HasIds flight) (room_ids : HasIds room) where
  -- the picks after the customer was asked for, and those of the part
  module _ (asked asked' : Outcome) where
    abbrev words : TripWords
    words = words_after asked c car flight room

    abbrev part_car : Option Choice
    part_car = kept_if scope Car words.1 car

    abbrev part_flight : Option Choice
    part_flight = kept_if scope Flight words.2 flight

    abbrev part_room : Option Choice
    part_room = kept_if scope Room words.3 room

    record ThreePicked : Type 0 where
      pub part : HasPart scope (booked_after asked c car flight room).0
          (booked_after asked' c part_car part_flight part_room).0
      pub car_word : (words_after asked' c part_car part_flight part_room).1 ≡ kept_word scope Car words.1
      pub flight_word : (words_after asked' c part_car part_flight part_room).2 ≡ kept_word scope Flight words.2
      pub room_word : (words_after asked' c part_car part_flight part_room).3 ≡ kept_word scope Room words.3

    three_picked : HasPart scope asked.0 asked'.0 → has_customer scope c ≡ true → picks_fit scope c words ≡ true →
        ThreePicked
    three_picked h inside fit =
        let outer = both_true (pick_fits scope c Car words.1 && pick_fits scope c Flight words.2)
        (pick_fits scope c Room words.3) fit in
        let inner = both_true (pick_fits scope c Car words.1) (pick_fits scope c Flight words.2) outer.0 in
        let a = reserve_choice asked.0 c Car car in
        let b = reserve_choice a.0 c Flight flight in
        let a' = reserve_choice asked'.0 c Car part_car in
        let b' = reserve_choice a'.0 c Flight part_flight in
        let first = picked scope asked.0 asked'.0 h c own Car inside car car_ids inner.0 in
        let second = picked scope a.0 a'.0 first.part c own Flight inside flight flight_ids inner.1 in
        let third = picked scope b.0 b'.0 second.part c own Room inside room room_ids outer.1 in
        record { part = third.part; car_word = first.word; flight_word = second.word; room_word = third.word }

    -- the choices of the part are there if a pick is kept
    some_picked : (is_some part_car || is_some part_flight || is_some part_room) ≡ has_kept_pick scope words
    some_picked =
        let a = reserve_choice asked.0 c Car car in
        let b = reserve_choice a.0 c Flight flight in
        let x = some_kept scope asked.0 c Car car car_ids in
        let y = some_kept scope a.0 c Flight flight flight_ids in
        let z = some_kept scope b.0 c Room room room_ids in
        λ k. x k || y k || z k

  -- a stranger leaves the part as it is
  strangers : (s p : State) (asked : Outcome) → HasPart scope asked.0 p → has_customer scope c ≡ false →
      picks_fit scope c (words_after asked c car flight room) ≡ true →
      HasPart scope (booked_after asked c car flight room).0 p
  strangers s p asked h out fit =
      let words = words_after asked c car flight room in
      let outer = both_true (pick_fits scope c Car words.1 && pick_fits scope c Flight words.2)
      (pick_fits scope c Room words.3) fit in
      let inner = both_true (pick_fits scope c Car words.1) (pick_fits scope c Flight words.2) outer.0 in
      let a = reserve_choice asked.0 c Car car in
      let b = reserve_choice a.0 c Flight flight in
      let first = stranger_step scope asked.0 p h c own Car car car_ids inner.0 out in
      let second = stranger_step scope a.0 p first c own Flight flight flight_ids inner.1 out in
      stranger_step scope b.0 p second c own Room room room_ids outer.1 out

  -- a customer that could not be created books nothing
  none_booked : (s : State) → bookings_of s c ≡ None → (booked_after (refused s Full) c car flight room).0 ≡ s
  none_booked s missing =
      let a = reserve_choice s c Car car in
      let b = reserve_choice a.0 c Flight flight in
      let first = missing_choice s c Car car missing in
      let second = ap (λ x. (reserve_choice x c Flight flight).0) first ∙ missing_choice s c Flight flight missing in
      ap (λ x. (reserve_choice x c Room room).0) second ∙ missing_choice s c Room room missing

  not_joined : (s : State) → joins (joined_word (joined_of (new_customer s c).1)) ≡ false →
      (booked_after (new_customer s c) c car flight room).0 ≡ s
  not_joined s = found_both (λ asked. joins (joined_word (joined_of asked.1)) ≡ false →
      (booked_after asked c car flight room).0 ≡ s) (bookings_of s c) _ _
      (λ missing. if_both (λ asked. joins (joined_word (joined_of asked.1)) ≡ false →
      (booked_after asked c car flight room).0 ≡ s) (is_full s) _ _
      (λ _ _. none_booked s missing) (λ _ e. false_true (sym e)))
      (λ b there e. false_true (sym e))

module _ (scope : Scope) (s p : State) (h : HasPart scope s p) (c : ℕ) (asks : List Place)
    (ranged : is_task (task.Trip c asks) ≡ true) where
  own : is_id c ≡ true
  own = (both_true (is_id c) (is_list_length (length asks))
      (both_true (is_id c && is_list_length (length asks)) (list_all (λ a. is_id a.1) asks) ranged).0).0

  few : is_list_length (length asks) ≡ true
  few = (both_true (is_id c) (is_list_length (length asks))
      (both_true (is_id c && is_list_length (length asks)) (list_all (λ a. is_id a.1) asks) ranged).0).1

  ids : list_all (λ (a : Place). is_id a.1) asks ≡ true
  ids = (both_true (is_id c && is_list_length (length asks)) (list_all (λ a. is_id a.1) asks) ranged).1

  choice_ids : (kind : Kind) → HasIds (choice_of s kind asks)
  choice_ids kind = choice_passes (λ (a : Place). is_id a.1) s kind asks ids

  abbrev car : Option Choice
  car = choice_of s Car asks

  abbrev flight : Option Choice
  flight = choice_of s Flight asks

  abbrev room : Option Choice
  room = choice_of s Room asks

  abbrev new : Task
  new = task.One (command.NewCustomer c)

  abbrev asked : Outcome
  asked = new_customer s c

  abbrev asked' : Outcome
  asked' = new_customer p c

  abbrev o : Outcome
  o = booked_after asked c car flight room

  abbrev shown_words : TripWords
  shown_words = words_after asked c car flight room

  -- a part that is in its range
  abbrev pub Part : Outcome → Option Answered → Type 0
  Part x a = Made scope s p h x a × InRange a

  same_price : (q : Place) → has_item scope q ≡ true → price_of p q.0 q.1 ≡ price_of s q.0 q.1
  same_price q inside =
      priced _ ∙ ap (option_map (λ (x : ℕ × ℕ). x.1))
      (h.part.offers q ∙ ap (λ t. cond t (offer_of s q) None) inside) ∙ sym (priced _)

  -- the choices among the asks that are kept
  chosen : (kind : Kind) (word : List ℕ) → word_for shown_words kind ≡ word →
      (is_kept scope kind word ≡ true → Passes (has_item scope) kind (choice_of s kind asks)) → (b : Bool) →
      is_kept scope kind word ≡ b →
      choice_of p kind (kept_asks scope shown_words asks) ≡ cond b (choice_of s kind asks) None
  chosen kind w is passes true e =
      kept_choice s p (has_item scope) (λ k. is_kept scope k (word_for shown_words k)) kind same_price
      (ap (is_kept scope kind) is ∙ e) asks (passes e)
  chosen kind w is passes false e =
      left_out s p (has_item scope) (λ k. is_kept scope k (word_for shown_words k)) kind same_price
      (ap (is_kept scope kind) is ∙ e) asks

  module _ (inside : has_customer scope c ≡ true) (joining : joins shown_words.0 ≡ true)
      (fit : picks_fit scope c shown_words ≡ true) where
    -- the customer is asked for in both
    new_made : (reply_text (run p new).1 ≡ reply_text asked.1) × Near scope asked.0 (run p new).0
    new_made =
        let not_full = joined_not_full asked.1 (new_short s c) joining in
        let same : command_part scope (command.NewCustomer c) (reply_text asked.1) ≡ Some (new, reply_text asked.1) =
        rw (inside, not_full) refl in
        subst (Made scope s p h asked) same
        (command_made scope s p h (command.NewCustomer c) (or_any (is_reply reply.Done (reply_text asked.1))))

    after_new : HasPart scope asked.0 asked'.0
    after_new = next_both scope s p new new h own own new_made.1

    three : ThreePicked scope c own car flight room (choice_ids Car) (choice_ids Flight) (choice_ids Room) asked asked'
    three = three_picked scope c own car flight room (choice_ids Car) (choice_ids Flight) (choice_ids Room) asked
        asked' after_new inside fit

    abbrev asks' : List Place
    asks' = kept_asks scope shown_words asks

    abbrev car' : Option Choice
    car' = kept_if scope Car shown_words.1 car

    abbrev flight' : Option Choice
    flight' = kept_if scope Flight shown_words.2 flight

    abbrev room' : Option Choice
    room' = kept_if scope Room shown_words.3 room

    some_left : (is_some car' || is_some flight' || is_some room') ≡ has_kept_pick scope shown_words
    some_left = some_picked scope c own car flight room (choice_ids Car) (choice_ids Flight) (choice_ids Room) asked
        asked'

    near_after : Near scope o.0 (booked_after asked' c car' flight' room').0
    near_after = record { part = three.part.part; confined = three.part.confined }

    joined_words : joined_word (joined_of asked'.1) ≡ shown_words.0
    joined_words =
        let same = same_word asked'.1 asked.1 (new_short p c) (new_short s c) new_made.0 in
        ap (λ t. codes "cust=" ++ t)
        ((tests asked'.1 (new_short p c)).known ∙ same ∙ sym (tests asked.1 (new_short s c)).known)

    module _ (kept : has_kept_pick scope shown_words ≡ true) where
      car_chosen : choice_of p Car asks' ≡ car'
      car_chosen = chosen Car shown_words.1 refl
          (kept_inside scope asked.0 c Car car (choice_ids Car)) (is_kept scope Car shown_words.1) refl

      flight_chosen : choice_of p Flight asks' ≡ flight'
      flight_chosen = chosen Flight shown_words.2 refl
          (kept_inside scope (reserve_choice asked.0 c Car car).0 c Flight flight (choice_ids Flight))
          (is_kept scope Flight shown_words.2) refl

      room_chosen : choice_of p Room asks' ≡ room'
      room_chosen = chosen Room shown_words.3 refl
          (kept_inside scope (reserve_choice (reserve_choice asked.0 c Car car).0 c Flight flight).0 c Room room
          (choice_ids Room)) (is_kept scope Room shown_words.3) refl

      some_chosen : (is_some (choice_of p Car asks') || is_some (choice_of p Flight asks')
          || is_some (choice_of p Room asks')) ≡ true
      some_chosen =
          let same : (is_some (choice_of p Car asks') || is_some (choice_of p Flight asks')
          || is_some (choice_of p Room asks')) ≡ (is_some car' || is_some flight' || is_some room') =
          λ k. is_some (car_chosen k) || is_some (flight_chosen k) || is_some (room_chosen k) in
          same ∙ some_left ∙ kept

      run_part : run p (task.Trip c asks') ≡ booked_after asked' c car' flight' room'
      run_part =
          let same : trip p c asks' ≡ trip_with p c car' flight' room' =
          λ k. trip_with p c (car_chosen k) (flight_chosen k) (room_chosen k) in
          same ∙ ap (λ t. cond t (book_choices p c car' flight' room')
          (p, reply.Trip (record { joined = joined.NotAsked; picks = None ∷ None ∷ None ∷ [] }))) (some_left ∙ kept)

      text_part : reply_text (booked_after asked' c car' flight' room').1 ≡ kept_text scope shown_words
      text_part =
          let customer = joined_words in
          let first = three.car_word in
          let second = three.flight_word in
          let third = three.room_word in
          λ k. words_joined (customer k) (first k) (second k) (third k)

      asks_range : is_task (task.Trip c asks') ≡ true
      asks_range =
          let fewer = fewer_asks (λ ask. has_item scope ask && is_kept scope ask.0 (word_for shown_words ask.0)) asks in
          let some = some_asks p asks' some_chosen in
          let most : length asks ≤ MOST_PARTS = grind (arith, nat_tests, few) in
          let size : is_list_length (length asks') ≡ true = grind (arith, nat_tests, some, fewer, most) in
          let all = all_kept (λ a. is_id a.1)
          (λ ask. has_item scope ask && is_kept scope ask.0 (word_for shown_words ask.0)) asks ids in
          rw (own, size, all) refl

      trip_kept : Part o (Some (task.Trip c asks', kept_text scope shown_words))
      trip_kept = (
        answered scope s p h o (task.Trip c asks') (kept_text scope shown_words)
            (booked_after asked' c car' flight' room') run_part text_part near_after,
        asks_range,
      )

    -- no pick is kept
    module _ (left : has_kept_pick scope shown_words ≡ false) where
      none_left : (a b d : Bool) → (a || b || d) ≡ false → (a ≡ false) × (b ≡ false) × (d ≡ false)
      none_left true b d e = false_true (sym e)
      none_left false true d e = false_true (sym e)
      none_left false false d e = (refl, refl, e)

      near_new : Near scope o.0 asked'.0
      near_new =
          let none = none_left (is_some car') (is_some flight') (is_some room') (some_left ∙ left) in
          let first = none_of car' none.0 in
          let second = none_of flight' none.1 in
          let third = none_of room' none.2 in
          let same : (booked_after asked' c car' flight' room').0 ≡ asked'.0 =
          λ k. (booked_after asked' c (first k) (second k) (third k)).0 in
          subst (Near scope o.0) same near_after

      customer_kept : Part o (joined_part c shown_words.0)
      customer_kept = subst (Part o) (sym (joined_same c asked.1 (new_short s c) joining))
          ((new_made.0, near_new), own)

    shown_kept : (b : Bool) → has_kept_pick scope shown_words ≡ b → Part o (picked_part scope c asks shown_words)
    shown_kept true e =
        let some = some_asks p asks' (some_chosen e) in
        let asked_for : nat_le 1 (length asks') ≡ true = grind (arith, nat_tests, some) in
        let both : (has_kept_pick scope shown_words && nat_le 1 (length asks')) ≡ true = rw (e, asked_for) refl in
        subst (Part o) (sym (ap (λ t. cond t (Some (task.Trip c asks', kept_text scope shown_words))
        (joined_part c shown_words.0)) both)) (trip_kept e)
    shown_kept false e =
        let both : (has_kept_pick scope shown_words && nat_le 1 (length asks')) ≡ false =
        ap (λ t. t && nat_le 1 (length asks')) e in
        subst (Part o) (sym (ap (λ t. cond t (Some (task.Trip c asks', kept_text scope shown_words))
        (joined_part c shown_words.0)) both)) (customer_kept e)

  nothing : Near scope o.0 p → (b : Bool) → b ≡ false → Part o (cond b (picked_part scope c asks shown_words) None)
  nothing n b e = subst (λ t. Part o (cond t (picked_part scope c asks shown_words) None)) (sym e) (n, tt)

  asked_near : (x : State) → x ≡ s → Near scope x p
  asked_near x e = subst (λ y. Near scope y p) (sym e) (near scope s p h)

  shown_if : picks_fit scope c shown_words ≡ true → (i j : Bool) → has_customer scope c ≡ i →
      joins shown_words.0 ≡ j → Part o (shown_trip scope c asks shown_words)
  shown_if fit true true inside joining =
      let both : (has_customer scope c && joins shown_words.0) ≡ true = rw (inside, joining) refl in
      subst (λ t. Part o (cond t (picked_part scope c asks shown_words) None)) (sym both)
      (shown_kept inside joining fit (has_kept_pick scope shown_words) refl)
  shown_if fit true false inside joining =
      nothing (asked_near o.0 (not_joined scope c own car flight room (choice_ids Car) (choice_ids Flight)
      (choice_ids Room) s joining)) (has_customer scope c && joins shown_words.0)
      (ap (λ t. has_customer scope c && t) joining ∙ and_none (has_customer scope c))
  shown_if fit false j out joining =
      let first : HasPart scope asked.0 p = next_out scope s p new h own
      (subst (Made scope s p h asked) (not_own out)
      (command_made scope s p h (command.NewCustomer c) (or_any (is_reply reply.Done (reply_text asked.1))))) in
      let last = strangers scope c own car flight room (choice_ids Car) (choice_ids Flight) (choice_ids Room) s p asked
      first out fit in
      nothing (record { part = last.part; confined = last.confined }) (has_customer scope c && joins shown_words.0)
      (ap (λ t. t && joins shown_words.0) out)
    where
      not_own : has_customer scope c ≡ false → command_part scope (command.NewCustomer c) (reply_text asked.1) ≡ None
      not_own out = rw out refl

  booked : trip_fits scope c (reply_text o.1) ≡ true → Part o (trip_part scope c asks (reply_text o.1))
  booked fit =
      let read = words_read asked c car flight room (choice_ids Car) (choice_ids Flight) (choice_ids Room) in
      let fits : picks_fit scope c shown_words ≡ true = sym (ap (λ w. option_map_or (picks_fit scope c) w true) read) ∙
      fit in
      subst (Part o) (sym (ap (option_and_then (shown_trip scope c asks)) read))
      (shown_if fits (has_customer scope c) (joins shown_words.0) refl refl)

  -- nothing was chosen
  abbrev unasked : Outcome
  unasked = (s, reply.Trip (record { joined = joined.NotAsked; picks = None ∷ None ∷ None ∷ [] }))

  idle : Part unasked (trip_part scope c asks (reply_text unasked.1))
  idle =
      let read = reply_words joined.NotAsked None None None tt tt tt in
      let words : TripWords = (
        joined_word joined.NotAsked,
        pick_word Car None,
        pick_word Flight None,
        pick_word Room None,
      ) in
      let none : shown_trip scope c asks words ≡ None =
      ap (λ t. cond t (picked_part scope c asks words) None) (and_none (has_customer scope c)) in
      subst (Part unasked) (sym (ap (option_and_then (shown_trip scope c asks)) read ∙ none)) (near scope s p h, tt)

  -- the part of a completed trip
  pub trip_made : trip_fits scope c (reply_text (trip s c asks).1) ≡ true →
      Part (trip s c asks) (trip_part scope c asks (reply_text (trip s c asks).1))
  trip_made = if_both (λ x. trip_fits scope c (reply_text x.1) ≡ true →
      Part x (trip_part scope c asks (reply_text x.1)))
      (is_some car || is_some flight || is_some room) _ _ (λ _. booked) (λ _ _. idle)
