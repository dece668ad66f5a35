-- The texts of replies, without a line end.
use Rattle.std.specs.Prelude.{ℕ, Option, Some, None, List, [], ◌∷◌, ◌++◌, take, codes, decimal}
use Rattle.std.specs.List.{flat_map, zip}
use Rattle.vac_model.specs.declared.commands.Refusal.{Refusal}
use Rattle.vac_model.specs.declared.commands.Refusal.TheVariants.{NeedsCountAndPrice, TotalLimit, Full, NoItem, NotFree, InUse, Exists, NoCustomer, SoldOut, NotBooked, UnitLimit}
use Rattle.vac_model.specs.declared.replies.Reply.{Reply}
use Rattle.vac_model.specs.declared.replies.Reply.TheVariants as reply
use Rattle.vac_model.specs.declared.replies.Report.{Report}
use Rattle.vac_model.specs.declared.replies.CustomerOutcome.{CustomerOutcome}
use Rattle.vac_model.specs.declared.replies.CustomerOutcome.TheVariants.{NotAsked, Added, Refused}
use Rattle.vac_model.specs.declared.replies.Pick.{Pick}
use Rattle.vac_model.specs.declared.replies.TripReply.{TripReply}
use Rattle.vac_model.specs.declared.replies.UpdateReply.{UpdateReply}

-- the name of a refusal
abbrev pub why_name : Refusal → List ℕ
why_name NeedsCountAndPrice = codes "needs-count-and-price"
why_name TotalLimit = codes "total-limit"
why_name Full = codes "full"
why_name NoItem = codes "no-item"
why_name NotFree = codes "not-free"
why_name InUse = codes "in-use"
why_name Exists = codes "exists"
why_name NoCustomer = codes "no-customer"
why_name SoldOut = codes "sold-out"
why_name NotBooked = codes "not-booked"
why_name UnitLimit = codes "unit-limit"

-- the text of a change's result: `true`, or the name of its refusal
abbrev pub done_text : Option Refusal → List ℕ
done_text None = codes "true"
done_text (Some why) = why_name why

-- the text of a number, or -1 for none
abbrev pub number_text : Option ℕ → List ℕ
number_text None = codes "-1"
number_text (Some n) = decimal n

-- a name and its number
abbrev pub field_text : List ℕ → ℕ → List ℕ
field_text name n = name ++ decimal n

-- the text of the numbers of entries in the tables of items
abbrev pub entries_text : Report → List ℕ
entries_text r =
    field_text (codes "cars=") r.cars ++ field_text (codes " flights=") r.flights
    ++ field_text (codes " rooms=") r.rooms

-- the text of the number of customers, the number of booked units, and the number of used units
abbrev pub booked_text : Report → List ℕ
booked_text r =
    field_text (codes " customers=") r.customers ++ field_text (codes " bookings=") r.bookings
    ++ field_text (codes " used=") r.used

-- the text of the free units, the total units and the bills
abbrev pub sums_text : Report → List ℕ
sums_text r =
    field_text (codes " free=") r.free ++ field_text (codes " total=") r.total
    ++ field_text (codes " billed=") r.billed

-- the text of a report
abbrev pub report_text : Report → List ℕ
report_text r = entries_text r ++ booked_text r ++ sums_text r

-- the text of the outcome for the customer of a trip
abbrev pub joined_text : CustomerOutcome → List ℕ
joined_text NotAsked = codes "-"
joined_text Added = codes "true"
joined_text (Refused why) = why_name why

-- the text of a trip's pick of one kind, with its result
abbrev pub pick_text : Option Pick → List ℕ
pick_text None = codes "-"
pick_text (Some pick) = decimal pick.id ++ codes ":" ++ done_text pick.refused

-- the texts of a trip's picks, each after the name of its kind
abbrev pub picks_text : List (Option Pick) → List ℕ
picks_text picks =
    flat_map (λ p. p.0 ++ pick_text p.1)
    (zip (codes " car=" ∷ codes " flight=" ∷ codes " room=" ∷ []) picks)

-- the text of the reply to a trip: the outcome for its customer, then its picks
abbrev pub trip_text : TripReply → List ℕ
trip_text trip = codes "trip cust=" ++ joined_text trip.joined ++ picks_text trip.picks

-- the text of a change's result, after a space
abbrev pub change_text : Option Refusal → List ℕ
change_text refused = codes " " ++ done_text refused

-- the text of the reply to an update: the result of each change
abbrev pub update_text : UpdateReply → List ℕ
update_text update = codes "update" ++ flat_map change_text (take update.len update.refused)

-- the text of a reply
abbrev pub reply_text : Reply → List ℕ
reply_text reply.Done = codes "true"
reply_text (reply.Number n) = number_text n
reply_text (reply.Report r) = report_text r
reply_text (reply.No why) = codes "false " ++ why_name why
reply_text (reply.Trip t) = trip_text t
reply_text (reply.Update u) = update_text u
