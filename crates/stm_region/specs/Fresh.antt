-- Begins in a run: an attempt reads a snapshot with the writes of every call that had returned.
use Rattle.std.specs.Prelude.{◌≡◌, ℕ, suc, ◌≤◌, List}
use Rattle.stm_core.specs.Client.{Client, RecordLaw}
use Rattle.stm_core.specs.Event.{begin}
use Rattle.stm_region.specs.Findings.{AreEarlier}
use Rattle.stm_region.specs.Runs.{Moment, Move, step, word_at, Has, IsRun}

-- the read version of an attempt that begins in a run is the clock of the state in which it begins.
-- So the read version is at least the floor and the write version of each client then, and no
-- record of any client is newer
-- Not said: that the load of the step call `begin` is made in a state of the run in which the other
-- calls had returned. The contract of a step call names no state.
abbrev pub EveryBeginIsFresh : (List ℕ → Type 0) → RecordLaw → Type 0
EveryBeginIsFresh fits lawful =
    (moments : ℕ → Moment) (moves : ℕ → Move) → IsRun fits lawful moments moves
    → (n i j : ℕ) (v w : Client) → moves n ≡ step i begin → Has (moments (suc n)) i v
    → Has (moments n) j w
    → (v.attempt.rv ≡ word_at (moments n) begin)
    × (w.floor ≤ v.attempt.rv) × (w.attempt.wv ≤ v.attempt.rv)
    × AreEarlier (moments n).opened.renewal v.attempt.rv w.records
