-- The results of the desks.
use Rattle.std.specs.Prelude.{◌≡◌, ℕ, ◌≤◌, ◌⊎◌, List, [], ◌∷◌, length, All}
use Rattle.std.specs.List.{AllZip}
use Rattle.stm_core.specs.Client.{Client, Record}
use Rattle.stm_region.specs.Shown.{RegionShown}
use Rattle.vac_model.specs.declared.replies.Reply.{Reply}
use Rattle.vac_model.specs.Code.{code}
use Rattle.vac_model.specs.State.{report}
use Rattle.vac_manager.specs.Legal.{capacity_of}
use Rattle.vac_manager.specs.Called.{HasAllGrants}
use Rattle.vac_manager.specs.Opening.{ClosesInState}
use Rattle.ex_desk.specs.declared.desk.Desk.{Desk}
use Rattle.ex_desk.specs.declared.settings.DeskSettings.{DeskSettings}
use Rattle.ex_desk.specs.declared.rounds.OpenDesks.{OpenDesks}
use Rattle.ex_desk.specs.declared.run.DeskReport.{DeskReport}
use Rattle.ex_desk.specs.Trips.{stock_of}
use Rattle.ex_desk.specs.Desks.{asked, new_desks, MayServe}
use Rattle.ex_desk.specs.Rounds.{WentOn, booked_by}

-- the record is of the stock, with this number of units of each item, and of some reply
abbrev pub IsStock : ℕ → Record → Type 0
IsStock units r = (reply : Reply) × (r.tag ≡ code (stock_of units) reply)

-- the only record is that of the stock
abbrev pub IsStocked : ℕ → List Record → Type 0
IsStocked units records = (r : Record) × IsStock units r × (records ≡ r ∷ [])

-- the record of the stock comes first, followed by exactly the records of the booked trips; those
-- of each of the four desks are in the order of their trips' numbers, each once
pub record Went (s : DeskSettings) (ds : List Desk) (records : List Record) : Type 0 where
  pub stock : Record
  pub stock_is : IsStock s.units stock
  pub rest : List Record
  pub stock_first : records ≡ stock ∷ rest
  pub each : AllZip (WentOn s.tries rest) new_desks ds
  pub number : length rest ≡ booked_by ds

-- the desks after some of the allowed rounds: each desk may go on; the manager has room for as
-- many entries as the settings say and was renewed once in each round; its client is solo, and the
-- records of the client are those of the stock and of the booked trips
pub record AreOn (s : DeskSettings) (p : OpenDesks) : Type 0 where
  pub own : p.client.table ≡ p.manager.table
  pub alone : HasAllGrants p.client.value
  pub room : capacity_of p.manager ≡ s.blocks
  pub renewals : p.manager.renewal ≡ p.rounds
  pub most : p.rounds ≤ s.rounds
  pub within : All (MayServe s) p.desks.items
  pub went : Went s p.desks.items p.client.value.records

-- no trip is left, or all rounds were run
abbrev pub AreEnded : DeskSettings → List Desk → ℕ → Type 0
AreEnded s ds rounds = All (λ d. asked d ≡ s.trips) ds ⊎ (rounds ≡ s.rounds)

-- the results of the desks: a manager was closed with these words by its last client, which was
-- solo. So the records of that client are one history, legal from the empty state, and its final
-- state has the report. The records are those of the stock and of the booked trips. The number of
-- rounds is the number of renewals of the manager
-- Not said: that a booked trip found anything free, which its reply tells; the round in which a
-- trip was booked; that desks run at once.
-- Not said: that a trip counted as given up was issued, unless a trip before it and a trip after
-- it were booked in the same round.
-- Not said: the number of attempts of a booked trip. A trip with many attempts after a trip
-- counted as given up cannot be told from two trips.
-- Not said: that the region is the one that ran. A region that was renewed more often, with
-- nothing done since, leaves the same words and records.
-- Not said: why a desk ended a round; that a round books a trip; the conflict for which a trip was
-- given up.
pub record Desked (s : DeskSettings) (r : DeskReport) : Type 0 where
  pub region : RegionShown
  pub client : Client
  pub words : List ℕ
  pub version : ℕ
  pub closes : ClosesInState region client words version
  pub alone : HasAllGrants client
  pub room : capacity_of region ≡ s.blocks
  pub shown : report closes.last ≡ r.report
  pub renewals : region.renewal ≡ r.rounds
  pub went : Went s r.desks.items client.records
  pub within : All (MayServe s) r.desks.items
  pub most : r.rounds ≤ s.rounds
  pub ended : AreEnded s r.desks.items r.rounds
