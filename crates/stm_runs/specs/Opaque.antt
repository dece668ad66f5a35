-- Opacity of runs of a region.
use Rattle.std.specs.Prelude.{ℕ, List}
use Rattle.stm_core.specs.Client.{RecordLaw}
use Rattle.stm_core.specs.Guards.{stripe_of}
use Rattle.stm_region.specs.Runs.{Moment, Move, Listing, start_of, IsRun, HasOneList}
use Rattle.stm_replay.specs.Opacity.{IsOpaque}

-- in every run the list of each state is opaque. The list of a later state goes on from that of an
-- earlier one, so the order of its attempts is the real time of the run's own steps
abbrev pub EveryRunIsOpaque : (List ℕ → Type 0) → RecordLaw → Type 0
EveryRunIsOpaque fits lawful =
    (moments : ℕ → Moment) (moves : ℕ → Move) → IsRun fits lawful moments moves
    → (first : Listing lawful (moments 0)) (one : HasOneList lawful moments moves first)
    → (n : ℕ) → IsOpaque (stripe_of (moments n).opened.stripes) (start_of (one.lists n))
    (one.lists n).events (one.lists n).core
