-- The words and the records of a region that was closed.
use Rattle.std.specs.Prelude.{◌≡◌, ℕ, ◌+◌, ◌<◌, List, length}
use mathlib.Core.Option.{some}
use lib.ListN.{get_elem?}
use Rattle.tx_memory.specs.Image.{In, Agrees}
use Rattle.stm_core.specs.Client.{Client, Record, Aborted, all_aborted, RecordLaw}
use Rattle.stm_core.specs.Core.{Core}
use Rattle.stm_core.specs.Invariant.{Rule, Sorted}
use Rattle.stm_core.specs.History.{Serial, image_after, image_upto}
use Rattle.stm_region.specs.Shown.{RegionShown, opened_with}
use Rattle.stm_core.specs.Guards.{stripe_of}
use Rattle.stm_region.specs.Traced.{IsTraced}

-- the region ended in a core state with these words and this version, and the records of the
-- closing client, whose value was v, are lawful and serial from the first opening image to the
-- words. There are no other records
pub record Ends (lawful : RecordLaw) (region : RegionShown)
    (v : Client) (words : List ℕ) (version : ℕ) : Type 0 where
  pub core : Core
  pub rule : Rule lawful (stripe_of region.stripes) core
  -- a list of allowed events leads from the first opening to that core state
  pub traced : IsTraced lawful (opened_with region) core
  pub first : core.first ≡ region.first
  pub renewal : core.renewal ≡ region.renewal
  pub opening : core.opening ≡ region.opening
  pub last : core.last ≡ region.last
  pub locks : length core.locks ≡ region.stripes
  pub number : ℕ
  pub member : get_elem? core.clients number ≡ some v
  pub clock : core.clock ≡ version
  -- the closing client knew the clock: its floor is the clock's value
  pub floor : version ≡ v.floor
  pub cells : core.cells ≡ words
  pub abides : (r : Record) → In r v.records → lawful r.tag r.reads r.writes
  pub serial : Serial region.first v.records
  pub newest : words ≡ image_after region.first v.records
  -- the records are in order, each of this renewal or an earlier one
  pub sorted : Sorted v.records
  pub eras : (r : Record) → In r v.records → r.renewal < region.renewal + 1
  -- every aborted attempt of this renewal or an earlier one has read one version: all words that it
  -- has read are in the image of its read version
  pub aborted : (r : Aborted) → In r (all_aborted v)
      → (r.renewal < region.renewal + 1)
      × Agrees (image_upto region.first r.renewal r.version v.records) r.reads
