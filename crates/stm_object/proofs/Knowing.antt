-- The version that a solo client knows after an attempt.
use Rattle.std.proofs.Common.{◌≡◌, ℕ, ◌+◌, ◌≤◌, true, eqb, List, sym, ap, ◌∙◌, arith}
use Rattle.stm_core.specs.Client.{Client}
use Rattle.stm_core.specs.Event.{begin, finish}
use Rattle.stm_core.specs.declared.limits.TheConstants.{MOST_GRANTS}
use Rattle.stm_logs.specs.Log.{LogValue}
use Rattle.stm_region.specs.Shown.{RegionShown, ClientShown, acted}
use Rattle.stm_attempt.specs.Begun.{still}
use Rattle.stm_attempt.specs.Answers.{IsSpentStop}
use Rattle.stm_attempt.specs.Committing.{HasCommitted, HasStopped}
use Rattle.stm_attempt.specs.declared.conflict.Stop.{Stop}
use Rattle.stm_attempt.specs.declared.conflict.Stop.TheVariants as stop
use Rattle.stm_object.specs.History.{IsAlone, IsNearStop}

module _ (region : RegionShown) (rv : ℕ) (c c0 : ClientShown) (v : Client) (begun : c0 ≡ acted region begin rv c)
    (same : still v ≡ still c0.value) (alone : c.value.grants ≡ 63 →
    rv ≡ c.value.floor) (all : IsAlone c.value) where
  is_lone : v.attempt.lone ≡ true
  is_lone = ap (λ (x : Client). x.attempt.lone) same ∙ (ap (λ (x : ClientShown). x.value.attempt.lone) begun ∙
      ap (λ (n : ℕ). eqb n MOST_GRANTS) all)

  began_at : v.attempt.rv ≡ c.value.floor
  began_at = ap (λ (x : Client). x.attempt.rv) same ∙ (ap (λ (x : ClientShown). x.value.attempt.rv) begun ∙ alone all)

  -- an attempt that wrote nothing
  pub near_begun : (n : ℕ) → n ≡ v.floor → n ≡ c.value.floor
  near_begun n end = end ∙ (ap (λ (x : Client). x.floor) same ∙
      (ap (λ (x : ClientShown). x.value.floor) begun ∙ alone all))

  -- one that was committed
  pub near_committed : (region' : RegionShown) (tag : List ℕ) (pairs : List (ℕ × ℕ)) (version : ℕ) (v2 : Client) (n : ℕ)
      → (v.attempt.lone ≡ true → version ≤ v.attempt.rv + 1) → HasCommitted region' tag pairs v v2 version →
      n ≡ v2.floor → n ≤ c.value.floor + 1
  near_committed region' tag pairs version v2 n next done end =
      let few = next is_lone in
      let at = began_at in
      omega (arith, few, at, end, done.known)

  -- one whose commit stopped
  pub near_stopped : (region' : RegionShown) (log : LogValue) (s : Stop) (v2 : Client) (n : ℕ)
      → region' ≡ region → (v.attempt.lone ≡ true → v.attempt.rv ≡ region'.last)
      → (v.attempt.lone ≡ true → IsSpentStop s) → HasStopped region' log s v v2
      → IsNearStop region.last c.value.floor n s
  near_stopped region' log stop.Memory v2 n same_region next spent h = absurd h.shown
  near_stopped region' log (stop.Conflict conflict) v2 n same_region next spent h = absurd (spent is_lone)
  near_stopped region' log (stop.Spent version) v2 n same_region next spent h =
      sym began_at ∙ (next is_lone ∙ ap (λ (r : RegionShown). r.last) same_region)

  -- one that only read
  pub near_finished : (region' : RegionShown) (tag : List ℕ) (found : ℕ) (c1 c2 : ClientShown) (n : ℕ) → c1.value ≡ v
      → c2 ≡ acted region' (finish tag) found c1 → n ≡ c2.value.floor → n ≡ c.value.floor
  near_finished region' tag found c1 c2 n is ended end =
      near_begun n (end ∙ (ap (λ (x : ClientShown). x.value.floor) ended ∙ ap (λ (x : Client). x.floor) is))
