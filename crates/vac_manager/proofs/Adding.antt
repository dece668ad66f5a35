-- A call adds the record of the task and its reply.
use Rattle.std.proofs.Common.{ℕ, List}
use Rattle.stm_core.specs.Client.{Client}
use Rattle.stm_region.specs.Shown.{RegionShown}
use Rattle.stm_object.specs.declared.place.CommitPosition.{CommitPosition}
use Rattle.stm_object.specs.History.{AddsAt as AddsAtObject, AddsWithoutWrites}
pub use Rattle.stm_object.proofs.Adding.{not_earlier, rank_small}
use Rattle.vac_manager.specs.Called.{AddsReader}
use Rattle.vac_manager.specs.Placed.{AddsAt}

pub adds_at : (region : RegionShown) (tag : List ℕ) (place : CommitPosition) (v v' : Client) →
    AddsAtObject region tag place v v' → AddsAt region.renewal tag place v v'
adds_at region tag place v v' h = let a = h.adds in record {
  adds = record {
    added = a.made;
    tag_is = a.tag_is;
    attempt_is = a.attempt_is;
    renewal_is = a.renewal_is;
    unplaced = a.unplaced;
    later = a.later;
    behind = a.behind;
    known = a.known;
    records = a.records;
  };
  place_is = h.place_is;
}

pub adds_reader : (v v' : Client) → AddsWithoutWrites v v' → AddsReader v v'
adds_reader v v' h = record { added = h.made; reader = h.reader; wrote = h.writes; records = h.records }
