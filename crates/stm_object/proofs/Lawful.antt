-- A body that was run over a running transaction makes a lawful record.
use Rattle.std.proofs.Common.{◌≡◌, ℕ, Bool, true, false, List, [], Option, slice_index, unwrap_or, refl, ap, ◌∙◌}
use Rattle.std.specs.FinMap.{entries, get-empty}
use Rattle.std.specs.Ordering.{nat_cmp}
use Rattle.tx_memory.specs.View.{Words, mem}
use Rattle.stm_core.specs.Client.{Client}
use Rattle.stm_logs.specs.Log.{LogValue, empty_log, log_pairs}
use Rattle.stm_region.specs.Shown.{RegionShown, ClientShown}
use Rattle.stm_attempt.specs.Meaning.{memory_of, Origin, origin_of}
use Rattle.stm_attempt.specs.Leading.{Property, IsLocal, image_as_memory, nothing_logged, records_lead, readings_lead}
use Rattle.stm_object.specs.Object.{Specification, IsLocal as IsLocalObject, IsFitting, Does, IsLawfulEntry}
use Rattle.stm_object.specs.Bodies.{HasValue, HasEffect}

-- a body that left the writes as they were has nothing to write
pub nothing_written : (fits : List ℕ → Type 0) (in_use in_use' : Bool) (region region' : RegionShown) (n n' l l' : ℕ)
    (c c' : ClientShown) (w w' : LogValue) → in_use ≡ true → w ≡ empty_log →
    origin_of in_use' region' n' l' c' ≡ origin_of in_use region n l c →
    (memory_of in_use' region' fits c'.value w').writes ≡ (memory_of in_use region fits c.value w).writes
    → log_pairs w' ≡ []
nothing_written fits true true region region' n n' l l' c c' w w' runs e origin same =
    ap (λ (m : Words). entries m) (same ∙ ap (λ (x : LogValue). x.words) e) ∙ nothing_logged
nothing_written fits true false region region' n n' l l' c c' w w' runs e origin same =
    absurd (let h : false ≡ true = ap (λ (o : Origin). o.in_use) origin in cc)
nothing_written fits false in_use' region region' n n' l l' c c' w w' runs e origin same =
    absurd (let h = runs in cc)

module _ {E : Type 0} (o : Specification E) (local : IsLocalObject o) where
  -- an attempt that has not written holds a value
  pub has_value : (in_use : Bool) (region region' : RegionShown) (v : Client) (w : LogValue) → in_use ≡ true
      → region' ≡ region → o.IsSize region.size → w ≡ empty_log →
      HasValue o (memory_of in_use region' (IsFitting o) v w)
  has_value false region region' v w u same h e = absurd (let n = u in cc)
  has_value true region region' v w u same h e = record {
    size = rw same h;
    under = λ image i. (
      i.fits.value,
      local (image_as_memory image) (mem (memory_of true region' (IsFitting o) v w) image) _ i.fits.value
          (λ a less. rw e (ap (λ (x : Option ℕ). unwrap_or x (slice_index image a)) (get-empty nat_cmp a)))
          i.fits.shown,
    );
  }

  abbrev before : o.Value → Property
  before x m n = o.Holds m n x

  abbrev done : E → o.Value → Property
  done e x m n = o.Finds e x × o.Holds m n (o.after e x)

  before_local : (x : o.Value) → IsLocal (before x)
  before_local x m m' n same h = local m m' n x same h

  done_local : (e : E) (x : o.Value) → IsLocal (done e x)
  done_local e x m m' n same h = (h.0, local m m' n (o.after e x) same h.1)

  pub does : (in_use in_use' : Bool) (region region' : RegionShown) (n n' l l' : ℕ) (c c' : ClientShown)
      (w w' : LogValue) (e : E) → in_use ≡ true → w ≡ empty_log →
      origin_of in_use' region' n' l' c' ≡ origin_of in_use region n l c →
      HasEffect o (memory_of in_use region (IsFitting o) c.value w)
      (memory_of in_use' region' (IsFitting o) c'.value w') e
      → Does o e c'.value.attempt.reads (log_pairs w')
  does in_use in_use' region region' n n' l l' c c' w w' e runs empty origin did = record {
    is_entry = did.0;
    on = λ image x shown agrees.
        records_lead (IsFitting o) (before x) (done e x) (before_local x) (done_local e x) in_use in_use'
        region region' n n' l l' c c' w w' runs empty origin
        (λ other i h. did.1 other x i h) image (record { value = x; shown = shown }) agrees shown;
  }

  pub does_reading : (running running' : Bool) (region region' : RegionShown) (n n' : ℕ) (c c' : ClientShown)
      (e : E) → running ≡ true →
      origin_of running' region' n' 0 c' ≡ origin_of running region n 0 c →
      HasEffect o (memory_of running region (IsFitting o) c.value empty_log)
      (memory_of running' region' (IsFitting o) c'.value empty_log) e
      → Does o e c'.value.attempt.reads []
  does_reading running running' region region' n n' c c' e runs origin did = record {
    is_entry = did.0;
    on = λ image x shown agrees.
        readings_lead (IsFitting o) (before x) (done e x) (before_local x) (done_local e x) running running'
        region region' n n' c c' runs origin
        (λ other i h. did.1 other x i h) image (record { value = x; shown = shown }) agrees shown;
  }

module _ {E : Type 0} (o : Specification E) where
  pub lawful : (e : E) (reads writes : List (ℕ × ℕ)) → Does o e reads writes
      → IsLawfulEntry o (o.code e) reads writes
  lawful e reads writes d = record { entry = e; told = refl; does = d }
