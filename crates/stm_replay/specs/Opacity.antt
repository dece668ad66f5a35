-- Opacity in the model of atomic steps: committed, live and aborted attempts in one order.
use Rattle.std.specs.Prelude.{◌≡◌, ℕ, suc, ◌<◌, ltb, cond, List, [], ◌∷◌}
use Rattle.tx_memory.specs.Image.{In, Agrees}
use Rattle.stm_core.specs.Client.{Client, Record, RecordLaw, running}
use Rattle.stm_core.specs.Event.{Action, begin}
use Rattle.stm_core.specs.Core.{Core, Event, opened}
use Rattle.stm_core.specs.Version.{At}
use Rattle.stm_core.specs.Guards.{stripe_of}
use Rattle.stm_core.specs.History.{Serial, image_after}
use Rattle.stm_core.specs.Listed.{IsStepOf, core_at, IsOfList}
use Rattle.stm_core.specs.Theorem.{IsHistory, Reaches}

-- the committed attempts whose point steps come before a position in the list of events
abbrev pub before_place : ℕ → List Record → List Record
before_place place [] = []
before_place place (r ∷ rs) =
    cond (ltb r.point place) (r ∷ before_place place rs) (before_place place rs)

-- the client's attempt is live: the attempt runs, has no write version and has met no conflict
abbrev pub IsLive : Client → Type 0
IsLive v = (v.attempt.phase ≡ running) × (v.attempt.wv ≡ 0)

-- all steps of an attempt come before a position in the list of events
abbrev pub IsOver : List Event → (client attempt place : ℕ) → Type 0
IsOver events client attempt place =
    (n : ℕ) (e : Action) → IsStepOf events client attempt n e → n < place

-- an attempt, whatever its outcome, stands in the order of the committed attempts at its begin
pub record StandsAt (events : List Event) (first : List ℕ) (committed : List Record)
    (client attempt place : ℕ) (has_read : List (ℕ × ℕ)) : Type 0 where
  pub begun : IsStepOf events client attempt place begin
  -- the attempt reads what the committed attempts before it leave
  pub reads : Agrees (image_after first (before_place place committed)) has_read
  -- a committed attempt that was over when this attempt began comes before this attempt
  pub behind : (r : Record) → In r committed → IsOver events r.client r.attempt place
      → r.point < place
  -- a committed attempt that began when this attempt was over comes after this attempt
  pub ahead : (r : Record) (n : ℕ) → In r committed → IsOver events client attempt n
      → IsStepOf events r.client r.attempt n begin → place < r.point

-- all attempts of a list of events fit one order, in which each reads what the committed attempts
-- before it leave. A committed attempt stands at its point step: its won tick if it writes, else
-- its begin. Every other attempt, live or aborted, stands at its begin. Both are steps of the
-- attempt itself, so the order keeps the order of attempts of which one is over when the other
-- begins. Of two attempts that are not committed, too, the earlier begin comes first
-- Not said: an attempt's reads of its own writes, which are no steps: its write log serves them
-- (`own` of the attempt's `read`).
pub record IsOpaque (lk : ℕ → ℕ) (start : Core) (events : List Event) (c : Core) : Type 0 where
  -- the committed attempts, each once, in their order
  pub committed : List Record
  pub is_history : IsHistory c committed
  pub is_listed : IsOfList lk start events committed
  -- each committed attempt reads what the committed attempts before it leave
  pub serial : Serial start.first committed
  -- every attempt agrees, in all that it has read at any moment, with the committed attempts
  -- before its begin. Reads are added to live attempts alone, so the reads of an aborted attempt
  -- are the reads of its last live moment
  pub all : (n i : ℕ) (v : Client) → At (core_at lk start events n).clients i v → IsLive v
      → StandsAt events start.first committed (suc i) v.attempt.number v.attempt.began_at
      v.attempt.reads

-- every list of allowed events is opaque
abbrev pub EveryListIsOpaque : RecordLaw → Type 0
EveryListIsOpaque lawful =
    (image : List ℕ) (last stripes : ℕ) (events : List Event) (c : Core)
    → Reaches lawful image last stripes events c
    → IsOpaque (stripe_of stripes) (opened image last stripes) events c
