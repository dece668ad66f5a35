-- The opening and the closing of a manager.
use Rattle.std.specs.Prelude.{◌≡◌, ℕ, Bool, ◌&&◌, nat_le, nat_lt, List}
use Rattle.stm_core.specs.Client.{Client, of_renewal}
use Rattle.stm_core.specs.Event.{opener}
use Rattle.stm_region.specs.Shown.{RegionShown}
use Rattle.stm_region.specs.Closed.{Ends}
use Rattle.tx_alloc.specs.Pool.{heap_words}
use Rattle.tx_alloc.specs.Spread.{IsSpreadHeap}
use Rattle.vac_model.specs.Ranges.{is_block_count}
use Rattle.vac_model.specs.State.{State, empty_state}
use Rattle.stm_core.specs.declared.limits.TheConstants.{MOST_STRIPES}
use Rattle.stm_core.specs.declared.version.TheConstants.{VERSION_LIMIT}
use Rattle.vac_manager.specs.Law.{Shows, IsLawful}
use Rattle.vac_manager.specs.Legal.{IsLegal, AreVersioned, capacity_of}
use Rattle.vac_manager.specs.Called.{ClientShown}

-- the number may be the last version of a clock: 1 to 2^62 - 1
abbrev pub is_last_version : ℕ → Bool
is_last_version last = nat_le 1 last && nat_lt last VERSION_LIMIT

-- the number of lock words is in range: 1 to 1,048,576
abbrev pub is_stripe_count : ℕ → Bool
is_stripe_count stripes = nat_le 1 stripes && nat_le stripes MOST_STRIPES

-- a manager may be opened with this number of blocks, last version and number of lock words
abbrev pub is_opening : ℕ → ℕ → ℕ → Bool
is_opening blocks last stripes =
    is_block_count blocks && (is_last_version last && is_stripe_count stripes)

-- a manager's region was opened with this number of blocks and of lock words, with this last
-- version, and with the words of a partitioned heap, which represent the empty state; the region
-- was never renewed, and its first client has all grants and no record
pub record Opens (blocks last stripes : ℕ) (region : RegionShown) (client : ClientShown) :
    Type 0 where
  pub size : region.size ≡ heap_words blocks
  pub last_is : region.last ≡ last
  pub stripes_is : region.stripes ≡ stripes
  pub capacity : capacity_of region ≡ blocks
  pub first : region.first ≡ region.opening
  pub renewal : region.renewal ≡ 0
  pub start : region.start ≡ opener
  pub heap : IsSpreadHeap region.opening blocks
  pub shown : Shows region.opening (empty_state blocks)
  pub client_is : client ≡ record {
    table = region.table;
    value = opener;
    own = record { start = 0; next = 1 };
  }

-- a region was closed with these words and this version: the closing client's records are legal
-- from the empty state, the words represent their final state, and the records of the present
-- renewal have one writer a version and readers that wrote nothing
pub record ClosesInState (region : RegionShown) (v : Client) (words : List ℕ) (version : ℕ)
    : Type 0 where
  pub ends : Ends (λ (tag : List ℕ) reads writes. IsLawful tag reads writes) region v words version
  pub last : State
  pub legal : IsLegal (empty_state (capacity_of region)) v.records last
  pub shown : Shows words last
  pub versioned : AreVersioned (of_renewal region.renewal v.records)
