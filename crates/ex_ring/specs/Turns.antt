-- First in, first out.
use Rattle.std.specs.Prelude.{◌≡◌, ℕ, true, false, is_some, List, [], ◌++◌, replicate, Option, Some, Ok}
use Rattle.stm_core.specs.Client.{Client, Record}
use Rattle.stm_region.specs.Shown.{RegionShown}
use Rattle.stm_object.specs.History.{IsHistory, IsAlone, words_after, HasCalled, Closes}
use Rattle.ex_ring.specs.declared.entry.Entry.{Entry}
use Rattle.ex_ring.specs.declared.entry.Entry.TheVariants.{Push}
use Rattle.ex_ring.specs.declared.law.TheConstants.{WORDS}
use Rattle.ex_ring.specs.Queue.{ring, content, pushed, popped, popping}

-- in every history of a ring that was opened empty, the values put in are, in their order, the
-- values taken out followed by the values still in the ring
-- Not said: that every value that is put in comes out.
abbrev pub IsFifo : Type 0
IsFifo = (records : List Record) (entries : List Entry) (last : List ℕ) →
    IsHistory ring (replicate WORDS 0) records entries last →
    pushed entries ≡ popped entries ++ content last

-- a solo user that puts a value in takes a value out with its next call, and if the ring was
-- empty, takes out its own value
pub record TakesOwn (region : RegionShown) (v : Client) (value : ℕ) (taken : Option ℕ)
    : Type 0 where
  pub some : is_some taken ≡ true
  pub own : content (words_after region v) ≡ [] → taken ≡ Some value

abbrev pub IsOwnTurn : Type 0
IsOwnTurn = (region : RegionShown) (v w u : Client) (value : ℕ) (taken : Option ℕ)
    (tries tries' : ℕ) → IsAlone v →
    HasCalled ring region (λ room. Push value room) (λ room. room) false tries (Ok true) v w →
    HasCalled ring region (λ x. popping x) (λ x. is_some x) false tries' (Ok taken) w u →
    TakesOwn region v value taken

-- a ring was closed: its records are a history, in which the values are first in, first out
pub record ClosesInOrder (region : RegionShown) (v : Client) (words : List ℕ) (version : ℕ)
    : Type 0 where
  pub closes : Closes ring region v words version
  pub entries : List Entry
  pub history : IsHistory ring region.first v.records entries words
  pub fifo : pushed entries ≡ popped entries ++ content words
