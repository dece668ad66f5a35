-- The part of a completed trip on a scope: its customer, and the bookings that concern the scope.
use Rattle.std.specs.Prelude.{ℕ, ◌==◌, ◌&&◌, ◌||◌, Bool, true, false, not, Option, Some, None, List, [], ◌∷◌, filter, codes, length, nat_le, if◌then◌else◌}
use Rattle.std.specs.List.{before_first, after_first}
use Rattle.std.specs.Str.{bytes_eq}
use Rattle.std.specs.Borrow.{Bor}
use Rattle.std.specs.Option.{option_map, option_map_or, option_and_then}
use Rattle.vac_model.specs.declared.limits.TheConstants.{MOST_ID}
use Rattle.vac_model.specs.declared.items.Kind.{Kind}
use Rattle.vac_model.specs.declared.items.Kind.TheVariants.{Car, Flight, Room}
use Rattle.vac_model.specs.declared.commands.Command.TheVariants as command
use Rattle.vac_model.specs.declared.commands.Refusal.TheVariants.{Full, SoldOut}
use Rattle.vac_model.specs.declared.replies.Reply.TheVariants as reply
use Rattle.vac_model.specs.declared.tasks.Task.TheVariants as task
use Rattle.vac_model.specs.State.{Place}
use Rattle.vac_lines.specs.Lines.{words_of}
use Rattle.vac_lines.specs.Words.{number_between}
use Rattle.vac_model.specs.ReplyText.{reply_text}
use Rattle.vac_model.specs.TaskText.{words_text}
use Rattle.judge_reservations.specs.declared.scope.Scope.{Scope}
use Rattle.judge_reservations.specs.declared.trips.TheConstants.{ID_DIGITS}
use Rattle.judge_reservations.specs.declared.trips.TripWords as declared
use Rattle.judge_reservations.specs.Scopes.{has_customer, has_item, is_closed, allows}
use Rattle.judge_reservations.specs.Tasks.{Answered, customer_exists}
use Rattle.judge_reservations.specs.Updates.{is_why}

-- a pick that a word of the reply shows: the id of an item, and the word for the result of the
-- booking
abbrev pub Shown : Type 0
Shown = ℕ × List ℕ

-- a pick, as code has it
abbrev pub shown : Option (ℕ × Bor (List ℕ)) → Option Shown
shown pick = option_map (λ x. (x.0, x.1.now)) pick

-- the id that a word writes
abbrev pub id_of : List ℕ → Option ℕ
id_of word = number_between ID_DIGITS 1 MOST_ID word

-- the text after the first equals sign of a word
abbrev pub value_of : List ℕ → List ℕ
value_of word = after_first (λ b. b == 61) word

-- the pick that a word shows: `car=5:true` shows one of item 5, `car=-` shows none
abbrev pub shown_pick : List ℕ → Option Shown
shown_pick word =
    option_map (λ id. (id, after_first (λ b. b == 58) (value_of word)))
    (id_of (before_first (λ b. b == 58) (value_of word)))

-- tests if a pick of an item of the scope is kept: not a refusal because no block was left, nor
-- one for want of free units, unless all customers who book the item belong to the scope
abbrev pub keeps_pick : Scope → Kind → Shown → Bool
keeps_pick scope kind pick =
    has_item scope (kind, pick.0) && not (is_why Full pick.1)
    && (not (is_why SoldOut pick.1) || is_closed scope (kind, pick.0))

-- tests if a word shows a pick that is kept
abbrev pub has_kept : Scope → Kind → List ℕ → Bool
has_kept scope kind word = option_map_or (keeps_pick scope kind) (shown_pick word) false

-- tests if all that a word shows of a kind is kept: no pick, or a pick that is kept
abbrev pub is_kept : Scope → Kind → List ℕ → Bool
is_kept scope kind word = option_map_or (keeps_pick scope kind) (shown_pick word) true

-- the word for a kind without a pick
abbrev pub no_pick : Kind → List ℕ
no_pick Car = codes "car=-"
no_pick Flight = codes "flight=-"
no_pick Room = codes "room=-"

-- a word that is kept, or the word for a kind without a pick
abbrev pub kept_word : Scope → Kind → List ℕ → List ℕ
kept_word scope kind word = if is_kept scope kind word then word else no_pick kind

-- the words of the reply to a trip after the first one: for the customer, the car, the flight and
-- the room
abbrev pub TripWords : Type 0
TripWords = List ℕ × List ℕ × List ℕ × List ℕ

-- the words, as code has them
abbrev pub words : declared.TripWords → TripWords
words w = (w.customer.now, w.car.now, w.flight.now, w.room.now)

-- the last four of five words
abbrev pub five_words : List (List ℕ) → Option TripWords
five_words (name ∷ customer ∷ car ∷ flight ∷ room ∷ []) = Some (customer, car, flight, room)
five_words _ = None

-- the words of the reply to a trip
abbrev pub trip_words : List ℕ → Option TripWords
trip_words text = five_words (words_of text)

-- the word for a kind
abbrev pub word_for : TripWords → Kind → List ℕ
word_for words Car = words.1
word_for words Flight = words.2
word_for words Room = words.3

-- tests if a trip has a pick that is kept
abbrev pub has_kept_pick : Scope → TripWords → Bool
has_kept_pick scope words =
    has_kept scope Car words.1 || has_kept scope Flight words.2 || has_kept scope Room words.3

-- the asks for items of the scope, of the kinds whose words are kept
abbrev pub kept_asks : Scope → TripWords → List Place → List Place
kept_asks scope words asks =
    filter (λ ask. has_item scope ask && is_kept scope ask.0 (word_for words ask.0)) asks

-- the reply to a trip that has the picks that are kept, and no others
abbrev pub kept_text : Scope → TripWords → List ℕ
kept_text scope words =
    words_text (codes "trip" ∷ words.0 ∷ kept_word scope Car words.1
    ∷ kept_word scope Flight words.2 ∷ kept_word scope Room words.3 ∷ [])

-- tests if the word for the customer shows that the customer exists after the trip
abbrev pub joins : List ℕ → Bool
joins word = bytes_eq word (codes "cust=true") || bytes_eq word (codes "cust=exists")

-- a trip of which no pick is kept shows that its customer was added, or existed
abbrev pub joined_part : ℕ → List ℕ → Option Answered
joined_part c word =
    if bytes_eq word (codes "cust=true")
    then Some (task.One (command.NewCustomer c), reply_text reply.Done)
    else customer_exists c

-- the part of a trip of a customer of the scope, given the words of its reply
abbrev pub picked_part : Scope → ℕ → List Place → TripWords → Option Answered
picked_part scope c asks words =
    if has_kept_pick scope words && nat_le 1 (length (kept_asks scope words asks))
    then Some (task.Trip c (kept_asks scope words asks), kept_text scope words)
    else joined_part c words.0

-- the part of a trip, given the words of its reply
abbrev pub shown_trip : Scope → ℕ → List Place → TripWords → Option Answered
shown_trip scope c asks words =
    if has_customer scope c && joins words.0 then picked_part scope c asks words else None

-- the part of a trip
abbrev pub trip_part : Scope → ℕ → List Place → List ℕ → Option Answered
trip_part scope c asks text = option_and_then (shown_trip scope c asks) (trip_words text)

-- tests if the booking of a pick, if there is one, leaves closed items closed and whole customers
-- whole
abbrev pub pick_fits : Scope → ℕ → Kind → List ℕ → Bool
pick_fits scope c kind word =
    option_map_or (λ pick. not (bytes_eq pick.1 (codes "true")) || allows scope c (kind, pick.0))
    (shown_pick word) true

-- tests if all bookings of a trip, given the words of its reply, leave closed items closed and
-- whole customers whole
abbrev pub picks_fit : Scope → ℕ → TripWords → Bool
picks_fit scope c words =
    pick_fits scope c Car words.1 && pick_fits scope c Flight words.2
    && pick_fits scope c Room words.3

-- tests if all bookings of a trip leave closed items closed and whole customers whole
abbrev pub trip_fits : Scope → ℕ → List ℕ → Bool
trip_fits scope c text = option_map_or (picks_fit scope c) (trip_words text) true
