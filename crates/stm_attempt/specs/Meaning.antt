-- The memory that a running attempt represents.
use Rattle.std.specs.Prelude.{◌≡◌, ℕ, Bool, true, false, List, [], Some}
use Rattle.std.specs.FinMap.{get, empty, get-empty}
use Rattle.std.specs.Ordering.{nat_cmp}
use Rattle.tx_memory.specs.Image.{Has, Agrees}
use Rattle.tx_memory.specs.View.{View, RestsOn}
use Rattle.tx_memory.specs.Pairs.{map_of}
use Rattle.stm_core.specs.Client.{Client}
use Rattle.stm_logs.specs.Log.{LogValue}
use Rattle.stm_region.specs.Shown.{RegionShown, ClientShown}
use Rattle.stm_region.specs.Findings.{StandsOn}
use Rattle.stm_attempt.specs.Begun.{still}
use Rattle.std.proofs.Common.{refl, subst, ◌∙◌}
use Rattle.std.proofs.Math.Logic.{∥∥₁_map}
use Rattle.tx_memory.specs.Paired.{agrees-map_of}

-- the memory of a client in a region, with its reads and its writes; the empty memory if the
-- attempt is over
abbrev pub memory_of : Bool → RegionShown → (List ℕ → Type 0) → Client → LogValue → View
memory_of true region fits v writes =
    let reads = map_of v.attempt.reads in
    record { size = region.size; fits = fits; reads = reads; writes = writes.words }
memory_of false region fits v writes =
    record { size = 0; fits = λ _. Unit {0}; reads = empty; writes = empty }

-- the part of an attempt that no read and no write changes: the region, the identities of the
-- client and of the logs, and the client's value without its reads
pub record Origin : Type 0 where
  pub region : RegionShown
  pub client_name : ℕ
  pub logs_name : ℕ
  pub client : ClientShown
  pub in_use : Bool

-- the origin of an attempt over this region, with this client and these logs
abbrev pub origin_of : Bool → RegionShown → ℕ → ℕ → ClientShown → Origin
origin_of in_use region client_name logs_name client = record {
  region = region;
  client_name = client_name;
  logs_name = logs_name;
  client = record client { value = still client.value };
  in_use = in_use;
}

none_agrees : (a x : ℕ) → get {R = nat_cmp} (empty {X = ℕ}) a ≡ Some x → Has [] a x
none_agrees a x e = absurd (let n = get-empty {X = ℕ} nat_cmp a in cc)

-- while the attempt runs, the size is that of the region and the reads are those of the attempt
abbrev pub IsStanding : Bool → RegionShown → Client → ℕ → List (ℕ × ℕ) → Type 0
IsStanding in_use region v size reads =
    in_use ≡ true → (size ≡ region.size) × (reads ≡ v.attempt.reads)

-- some image that agrees with the reads is possible for the memory and has its size
pub attempt_seen :
    (in_use : Bool) (region : RegionShown) (fits : List ℕ → Type 0) (v : Client)
    (writes : LogValue) (size : ℕ) (reads : List (ℕ × ℕ)) → IsStanding in_use region v size reads →
    ∥ StandsOn fits size reads ∥₁ →
    ∥ ((image : List ℕ) × RestsOn (memory_of in_use region fits v writes) image) ∥₁
attempt_seen true region fits v writes size reads same stands =
    ∥∥₁_map stands (λ s. (
      s.image,
      record {
        size = s.length_is ∙ (same refl).0;
        sees = record {
          fits = s.fitting;
          agrees = agrees-map_of s.image v.attempt.reads
              (subst (λ (rs : List (ℕ × ℕ)). Agrees s.image rs) (same refl).1 s.agrees);
        };
      },
    ))
attempt_seen false region fits v writes size reads same stands =
    ∥∥₁_map stands (λ s. (
      [],
      record {
        size = refl;
        sees = record { fits = tt; agrees = none_agrees };
      },
    ))
