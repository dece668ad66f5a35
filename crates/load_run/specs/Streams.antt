-- The contract of a load that draws its words from the generators of a seed.
use Rattle.std.specs.Prelude.{◌≡◌, ℕ, map}
use Rattle.rand_pcg.specs.Lcg.{Lcg}
use Rattle.vac_model.specs.declared.replies.Report.{Report}
use Rattle.load_tasks.specs.declared.settings.Settings.{Settings}
use Rattle.load_run.specs.declared.outcomes.Outcomes.{Outcomes}
use Rattle.load_tasks.specs.Streams.{stream_of, streams_of, gives}
use Rattle.load_run.specs.declared.slots.Recorders.{Recorders}
use Rattle.load_run.specs.declared.load.Load.{Load}
use Rattle.load_run.specs.Keeping.{RecorderContents}
use Rattle.load_run.specs.Load.{HasLoaded, LoadedKept}

-- the load of a seed: the setup phase draws from stream 0, and each client from the stream of its
-- number
abbrev pub LoadedBySeed : Settings → Outcomes → Report → Type 0
LoadedBySeed s t r =
    HasLoaded gives s (λ stream. stream) (stream_of s.seed 0) (streams_of s.seed s.clients) t r

-- the load of a seed with recorders: the recorder of the setup phase kept the calls of the setup
-- phase, and the recorder of each client those of its client
abbrev pub KeptBySeed : {K : Type 0} → (K → RecorderContents) → Settings → Outcomes → Report → ℕ
    → Recorders K → Recorders K → Type 0
KeptBySeed notes s t r attempts before after =
    LoadedKept gives s (λ stream. stream) (stream_of s.seed 0) (streams_of s.seed s.clients) t r
    attempts (notes before.opening) (notes after.opening)
    (map notes before.clients.items) (map notes after.clients.items)

-- the load of these settings that draws from the generators of its seed, with these recorders: one
-- for the setup phase, and one for each client
-- Not said: that each client has a copy of the gate.
pub record IsBySeed {G K : Type 0} (s : Settings) (recorders : Recorders K) (load : Load Lcg G K)
    : Type 0 where
  pub settings_are : load.plan.settings ≡ s
  pub draws_are : load.draws ≡ stream_of s.seed 0
  pub streams_are : map (λ slot. slot.draws) load.slots.items ≡ streams_of s.seed s.clients
  pub keep_is : load.keep ≡ recorders.opening
  pub keeps_are : map (λ slot. slot.keep) load.slots.items ≡ recorders.clients.items
