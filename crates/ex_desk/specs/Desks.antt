-- The progress of a desk with its trips, in one round or several.
use Rattle.std.specs.Prelude.{◌≡◌, ℕ, ◌+◌, ◌*◌, ◌<◌, ◌≤◌, ◌⊎◌}
use Rattle.std.specs.Prelude.{List, [], ◌∷◌, ◌++◌, length}
use Rattle.tx_memory.specs.Image.{In}
use Rattle.stm_core.specs.Client.{Record}
use Rattle.stm_region.specs.Shown.{RegionShown}
use Rattle.vac_model.specs.declared.replies.Reply.{Reply}
use Rattle.vac_model.specs.Code.{code}
use Rattle.stm_object.specs.Callers.{GoesOn}
use Rattle.vac_manager.specs.Called.{ClientShown, CallerShown}
use Rattle.ex_desk.specs.declared.desk.Desk.{Desk}
use Rattle.ex_desk.specs.declared.settings.DeskSettings.{DeskSettings}
use Rattle.ex_desk.specs.declared.trips.TheConstants.{DESKS}
use Rattle.ex_desk.specs.Trips.{trip_of}

-- the number of trips that a desk has issued, which is the number of the next trip
abbrev pub asked : Desk → ℕ
asked d = d.booked + d.given_up

-- a desk that has issued no trip
abbrev pub new_desk : ℕ → Desk
new_desk number = record { number = number; booked = 0; given_up = 0 }

-- the desks before the first round
abbrev pub new_desks : List Desk
new_desks = new_desk 0 ∷ new_desk 1 ∷ new_desk 2 ∷ new_desk 3 ∷ []

-- the desk may go on: it is one of the four desks, and has issued at most all of its trips
pub record MayServe (s : DeskSettings) (d : Desk) : Type 0 where
  pub number : d.number < DESKS
  pub within : asked d ≤ s.trips

-- the numbers ascend; all are at least `low` and below `high`
abbrev pub Ascend : ℕ → List ℕ → ℕ → Type 0
Ascend low [] high = low ≤ high
Ascend low (n ∷ ns) high = (low ≤ n) × Ascend (n + 1) ns high

-- the lists are equally long, and each record is of the desk's trip with the number at its
-- position, and of some reply
abbrev pub AreTrips : ℕ → List ℕ → List Record → Type 0
AreTrips desk [] [] = Unit {0}
AreTrips desk [] (r ∷ rs) = ⊥
AreTrips desk (n ∷ ns) [] = ⊥
AreTrips desk (n ∷ ns) (r ∷ rs) =
    ((reply : Reply) × (r.tag ≡ code (trip_of desk n) reply)) × AreTrips desk ns rs

-- the records are of this renewal
abbrev pub AreOfRenewal : ℕ → List Record → Type 0
AreOfRenewal renewal records = (r : Record) → In r records → r.renewal ≡ renewal

-- the trips that a desk booked, by their numbers, and their records
pub record BookedTrips : Type 0 where
  pub trips : List ℕ
  pub records : List Record

-- between two states of a desk exactly these trips were booked, each once and in their order, and
-- each has its record; the other trips issued in between were given up
pub record HasBooked (d d' : Desk) (x : BookedTrips) : Type 0 where
  pub same : d'.number ≡ d.number
  pub ascend : Ascend (asked d) x.trips (asked d')
  pub booked : d'.booked ≡ d.booked + length x.trips
  pub given_up : d.given_up ≤ d'.given_up
  pub are_of : AreTrips d.number x.trips x.records

-- a client with its manager
abbrev pub session_of : RegionShown → ClientShown → CallerShown
session_of region client = record { shared = region; user = client }

-- the least number of attempts for the trips that a desk issued: one for each booked trip, and all
-- tries of its call for each trip given up
abbrev pub cost_of : DeskSettings → Desk → ℕ
cost_of s d = d.booked + d.given_up * s.tries

-- the trips from `low` to `high` were issued one after the other, by the attempts from `from` to
-- `to`: the trips in the list were booked, each by the attempt in its record, which comes after
-- the attempts of the earlier trips, and each other trip cost at least `price` attempts
abbrev pub Paid : ℕ → ℕ → ℕ → List ℕ → List Record → ℕ → ℕ → Type 0
Paid price from low [] [] high to = from + high * price ≤ to + low * price
Paid price from low [] (r ∷ rs) high to = ⊥
Paid price from low (n ∷ ns) [] high to = ⊥
Paid price from low (n ∷ ns) (r ∷ rs) high to =
    (from + n * price < r.attempt + low * price) × Paid price r.attempt (n + 1) ns rs high to

-- a desk went on with its trips: its client's new records are exactly those of the
-- trips it booked, in this renewal. Each booked trip cost an attempt of its own, and each trip
-- given up cost all of its attempts
pub record ServesTrips (s : DeskSettings) (d d' : Desk) (y y' : CallerShown) : Type 0 where
  pub caller : GoesOn y y'
  pub grants : y'.user.value.grants ≡ y.user.value.grants
  pub may : MayServe s d'
  pub done : BookedTrips
  pub booked : HasBooked d d' done
  pub records : y'.user.value.records ≡ y.user.value.records ++ done.records
  pub renewals : AreOfRenewal y.shared.renewal done.records
  pub attempts : y.user.value.attempt.number + cost_of s d'
      ≤ y'.user.value.attempt.number + cost_of s d
  pub paid : Paid s.tries y.user.value.attempt.number (asked d) done.trips
      done.records
      (asked d') y'.user.value.attempt.number

-- a desk served in a round: it went on until no trip was left, or until it found the clock at its
-- last version
pub record HasServed (s : DeskSettings) (d d' : Desk) (y y' : CallerShown) : Type 0 where
  pub serves : ServesTrips s d d' y y'
  pub why : (asked d' ≡ s.trips) ⊎ (y'.user.value.attempt.next_from ≡ y.shared.last)
