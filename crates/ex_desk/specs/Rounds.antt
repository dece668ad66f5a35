-- A round of all desks.
use Rattle.std.specs.Prelude.{◌≡◌, ℕ, ◌+◌, ◌*◌, ◌<◌, ◌≤◌, List, [], ◌∷◌, ◌++◌, length, All}
use Rattle.std.specs.List.{AllZip}
use Rattle.tx_memory.specs.Image.{In}
use Rattle.stm_core.specs.Client.{Record}
use Rattle.stm_core.specs.History.{Sub}
use Rattle.stm_core.specs.declared.limits.TheConstants.{MOST_GRANTS}
use Rattle.vac_manager.specs.Called.{CallerShown}
use Rattle.ex_desk.specs.declared.desk.Desk.{Desk}
use Rattle.ex_desk.specs.declared.settings.DeskSettings.{DeskSettings}
use Rattle.ex_desk.specs.Desks.{MayServe, AreOfRenewal, BookedTrips, HasBooked}

-- the records are of renewals before this one
abbrev pub AreOld : ℕ → List Record → Type 0
AreOld renewal records = (r : Record) → In r records → r.renewal < renewal

-- if the next booked trip was booked in the same renewal as trip n with record r, then the trips
-- between the two cost at least this price each, by the attempts in their records
abbrev pub IsNextPaid : ℕ → ℕ → Record → List ℕ → List Record → Type 0
IsNextPaid price n r [] qs = Unit {0}
IsNextPaid price n r (m ∷ ms) [] = Unit {0}
IsNextPaid price n r (m ∷ ms) (q ∷ qs) =
    r.renewal ≡ q.renewal → r.attempt + m * price < q.attempt + (n + 1) * price

-- for any two consecutive booked trips of one renewal, the attempts in their records leave room
-- for the trips between the two, which were given up: each of these cost at least this price
abbrev pub ArePaid : ℕ → List ℕ → List Record → Type 0
ArePaid price [] rs = Unit {0}
ArePaid price (n ∷ ns) [] = Unit {0}
ArePaid price (n ∷ ns) (r ∷ rs) = IsNextPaid price n r ns rs × ArePaid price ns rs

-- a desk went from one state to another: the records of the trips that it booked are in the list,
-- in their order, and the trips given up between two booked trips of one round cost at least this
-- price each
pub record WentOn (price : ℕ) (rest : List Record) (d d' : Desk) : Type 0 where
  pub done : BookedTrips
  pub booked : HasBooked d d' done
  pub among : Sub done.records rest
  pub paid : ArePaid price done.trips done.records

-- the number of trips booked by all desks
abbrev pub booked_by : List Desk → ℕ
booked_by [] = 0
booked_by (d ∷ ds) = d.booked + booked_by ds

-- the desks went on, each to the desk at its position, and their clients were gathered: exactly
-- the records of the trips that they booked, all of this renewal, come after the earlier records
pub record RoundRan (price renewal : ℕ) (ds ds' : List Desk) (before after : List Record) :
    Type 0 where
  pub rest : List Record
  pub behind : after ≡ before ++ rest
  pub renewals : AreOfRenewal renewal rest
  pub each : AllZip (WentOn price rest) ds ds'
  pub number : length rest + booked_by ds ≡ booked_by ds'

-- a round of the desks can be run: each desk may go on, the client has a grant for each
-- desk, and its records are of earlier renewals
pub record MayRun (s : DeskSettings) (ds : List Desk) (y : CallerShown) : Type 0 where
  pub desks : All (MayServe s) ds
  pub enough : length ds ≤ y.user.value.grants
  pub most : y.user.value.grants ≤ MOST_GRANTS
  pub old : AreOld y.shared.renewal y.user.value.records

-- one round of the desks ran, whose clients were split off from the client and gathered
-- into it again
pub record HasRunRound (s : DeskSettings) (ds ds' : List Desk) (y y' : CallerShown) : Type 0 where
  pub manager : y'.shared ≡ y.shared
  pub own : y'.user.table ≡ y.user.table
  pub grants : y'.user.value.grants ≡ y.user.value.grants
  pub desks : All (MayServe s) ds'
  pub ran : RoundRan s.tries y.shared.renewal ds ds'
      y.user.value.records y'.user.value.records
