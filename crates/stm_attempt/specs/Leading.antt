-- The effect of a record's writes on every image that agrees with the record's reads: a property
-- that a transaction establishes holds after its record's writes are applied.
use Rattle.std.proofs.Common.{◌≡◌, ℕ, ◌<◌, Bool, true, false, List, [], ◌∷◌, Option, unwrap_or, slice_index, length, refl, sym, ap, subst, ◌∙◌, arith}
use Rattle.std.specs.FinMap.{empty, get-empty, len-empty, len-entries}
use Rattle.std.specs.Ordering.{nat_cmp}
use Rattle.tx_memory.specs.Image.{Agrees, laid}
use Rattle.tx_memory.specs.View.{View, Sees, memory}
use Rattle.tx_memory.specs.Paired.{agrees-map_of, laid-entries, length-laid}
use Rattle.stm_core.specs.Client.{Client}
use Rattle.stm_logs.specs.Log.{LogValue, empty_log, log_pairs}
use Rattle.stm_region.specs.Shown.{RegionShown, ClientShown}
use Rattle.stm_attempt.specs.Meaning.{memory_of, Origin, origin_of}

-- a property of the first n words of a memory
abbrev pub Property : Type 1
Property = (ℕ → ℕ) → ℕ → Type 0

-- an image as a function from an address to its word
abbrev pub image_as_memory : List ℕ → ℕ → ℕ
image_as_memory image address = slice_index image address

-- the property depends only on the first n words
abbrev pub IsLocal : Property → Type 0
IsLocal P = (m m' : ℕ → ℕ) (n : ℕ) → ((a : ℕ) → a < n → m' a ≡ m a) → P m n → P m' n

-- for every image that is possible afterwards, P before implies Q after
abbrev pub Carries : (P Q : Property) → View → View → Type 0
Carries P Q s s' = (image : List ℕ) → Sees s' image →
    P (memory image s.writes) (length image) → Q (memory image s'.writes) (length image)

-- for every fitting image with P that agrees with the reads, Q holds of the image with the writes
-- applied
abbrev pub LeadsFitting : (fits : List ℕ → Type 0) (P Q : Property) (reads writes : List (ℕ × ℕ))
    → Type 0
LeadsFitting fits P Q reads writes = (image : List ℕ) → fits image → Agrees image reads →
    P (image_as_memory image) (length image) →
    Q (image_as_memory (laid image writes)) (length (laid image writes))

-- if a transaction begins with an empty write log and carries P to Q, its record leads from P to Q
abbrev pub RecordsLead : (fits : List ℕ → Type 0) (P Q : Property) → Type 0
RecordsLead fits P Q =
    (in_use in_use' : Bool) (region region' : RegionShown) (name name' logs logs' : ℕ)
    (c c' : ClientShown) (w w' : LogValue) → in_use ≡ true → w ≡ empty_log →
    origin_of in_use' region' name' logs' c' ≡ origin_of in_use region name logs c →
    Carries P Q (memory_of in_use region fits c.value w)
    (memory_of in_use' region' fits c'.value w') →
    LeadsFitting fits P Q c'.value.attempt.reads (log_pairs w')

-- if a transaction that only reads carries P to Q, its record leads from P to Q
abbrev pub ReadingsLead : (fits : List ℕ → Type 0) (P Q : Property) → Type 0
ReadingsLead fits P Q =
    (running running' : Bool) (region region' : RegionShown) (name name' : ℕ)
    (c c' : ClientShown) → running ≡ true →
    origin_of running' region' name' 0 c' ≡ origin_of running region name 0 c →
    Carries P Q (memory_of running region fits c.value empty_log)
    (memory_of running' region' fits c'.value empty_log) →
    LeadsFitting fits P Q c'.value.attempt.reads []

-- the first n words of the memory are the words of a fitting image
pub record AreFittingWords (fits : List ℕ → Type 0) (m : ℕ → ℕ) (n : ℕ) : Type 0 where
  pub image : List ℕ
  pub fitting : fits image
  pub length_is : length image ≡ n
  pub same : (a : ℕ) → a < n → slice_index image a ≡ m a

-- every fitting image that agrees with the reads still fits after the writes are applied
abbrev pub KeepsFitting : (fits : List ℕ → Type 0) (reads writes : List (ℕ × ℕ)) → Type 0
KeepsFitting fits reads writes =
    (image : List ℕ) → fits image → Agrees image reads → fits (laid image writes)

-- the memory of an image without writes has the words of the image
unwritten : (image : List ℕ) (a : ℕ) →
    memory image (empty {K = ℕ} {X = ℕ} {R = nat_cmp}) a ≡ slice_index image a
unwritten image a =
    ap (λ (o : Option ℕ). unwrap_or o (slice_index image a)) (get-empty nat_cmp a)

no_length : {A : Type 0} (xs : List A) → length xs ≡ 0 → xs ≡ []
no_length [] e = refl
no_length (x ∷ xs) e = absurd (omega (arith, e))

-- an empty log has no writes
pub nothing_logged : log_pairs empty_log ≡ []
nothing_logged =
    no_length (log_pairs empty_log) (sym (len-entries empty_log.words) ∙ len-empty nat_cmp ℕ)

module _ (fits : List ℕ → Type 0) (P Q : Property) (local_p : IsLocal P) (local_q : IsLocal Q) where
  leads_on : (region region' : RegionShown) (v v' : Client) (w w' : LogValue) → w ≡ empty_log →
      Carries P Q (memory_of true region fits v w) (memory_of true region' fits v' w') →
      LeadsFitting fits P Q v'.attempt.reads (log_pairs w')
  leads_on region region' v v' w w' e carries image f agrees p =
      let seen : Sees (memory_of true region' fits v' w') image =
      record { fits = f; agrees = agrees-map_of image v'.attempt.reads agrees } in
      let before : P (memory image w.words) (length image) =
      local_p (image_as_memory image) (memory image w.words) (length image)
      (λ a less. rw e (unwritten image a)) p in
      let after : Q (memory image w'.words) (length image) = carries image seen before in
      let long = length-laid image (log_pairs w') in
      rw long (local_q (memory image w'.words) (image_as_memory (laid image (log_pairs w')))
      (length image) (λ a less. laid-entries w'.words image a less) after)

  -- every record leads from P to Q if its transaction carries P to Q
  pub records_lead : RecordsLead fits P Q
  records_lead true true region region' name name' logs logs' c c' w w' runs e origin carries =
      leads_on region region' c.value c'.value w w' e carries
  records_lead true false region region' name name' logs logs' c c' w w' runs e origin carries =
      absurd (let n : false ≡ true = ap (λ (o : Origin). o.in_use) origin in cc)
  records_lead false in_use' region region' name name' logs logs' c c' w w' runs e origin carries =
      absurd (let n = runs in cc)

  -- every reader's record leads from P to Q if its transaction carries P to Q
  pub readings_lead : ReadingsLead fits P Q
  readings_lead running running' region region' name name' c c' runs origin carries =
      subst (λ (ps : List (ℕ × ℕ)). LeadsFitting fits P Q c'.value.attempt.reads ps) nothing_logged
      (records_lead running running' region region' name name' 0 0 c c' empty_log empty_log runs
      refl origin carries)
