-- Properties of a region's words hold in an attempt that begins.
use Rattle.std.proofs.Common.{◌≡◌, ℕ, Bool, true, false, List, Option, unwrap_or, slice_index, ap, ◌∙◌}
use Rattle.std.specs.FinMap.{empty, get-empty}
use Rattle.std.specs.Ordering.{nat_cmp}
use Rattle.tx_memory.specs.View.{memory}
use Rattle.stm_core.specs.Client.{Client}
use Rattle.stm_logs.specs.Log.{LogValue, empty_log}
use Rattle.stm_region.specs.Shown.{RegionShown}
use Rattle.stm_attempt.specs.Meaning.{memory_of}
use Rattle.stm_attempt.specs.Leading.{Property, image_as_memory}
use Rattle.test_stm.specs.Laws.{Fits, HoldsUnder}

unwritten : (image : List ℕ) → memory image (empty {K = ℕ} {X = ℕ} {R = nat_cmp}) ≡ image_as_memory image
unwritten image = λ i a. ap (λ (o : Option ℕ). unwrap_or o (slice_index image a)) (get-empty nat_cmp a) i

held : (P : Property) (size : ℕ) (in_use : Bool) (region : RegionShown) (v : Client) (w : LogValue) → in_use ≡ true →
    region.size ≡ size → w ≡ empty_log → HoldsUnder P size (memory_of in_use region
    (λ (image : List ℕ). Fits P image) v w)
held P size false region v w u n e = absurd (let x = u in cc)
held P size true region v w u n e = record {
  size_is = n;
  under = λ image i. rw e (rw (unwritten image) i.fits);
}

pub held_begun : (P : Property) (size : ℕ) (in_use : Bool) (region region' : RegionShown) (v : Client) (w : LogValue) →
    in_use ≡ true → region' ≡ region → region.size ≡ size → w ≡ empty_log →
    HoldsUnder P size (memory_of in_use region' (λ (image : List ℕ). Fits P image) v w)
held_begun P size in_use region region' v w u same n e = held P size in_use region' v w u
    (ap (λ (r : RegionShown). r.size) same ∙ n) e
