-- Serial lawful records are a history, and a decided attempt stands in it.
use Rattle.std.proofs.Common.{◌≡◌, ◌≢◌, ℕ, zero, suc, List, [], ◌∷◌, ◌++◌, append_assoc, append-nil, false, inl, inr}
use Rattle.std.proofs.Common.{refl, sym, ap, ◌∙◌, subst, arith}
use mathlib.Core.Option.{some, some-injective, some-ne-none}
use lib.ListN.{get_elem?}
use Rattle.tx_memory.specs.Image.{In, Agrees, laid}
use Rattle.tx_memory.specs.Paired.{in_later}
use Rattle.stm_core.specs.Client.{Client, Record, before, merged}
use Rattle.stm_core.specs.History.{Serial, Sub, image_after, all_records}
use Rattle.stm_core.specs.Invariant.{Sorted}
use Rattle.stm_core.specs.Merging.{in_sub}
use Rattle.stm_core.specs.Guards.{stripe_of}
use Rattle.stm_core.proofs.Lists.{nothing_in}
use Rattle.stm_core.proofs.Renewing.{image_append}
use Rattle.stm_core.proofs.Whole.{all_grants, own_sorted}
use Rattle.stm_region.specs.Shown.{RegionShown}
use Rattle.stm_region.specs.Closed.{Ends}
use Rattle.stm_attempt.specs.Committing.{DecidesWith, WasDecided, commit_record}
use Rattle.stm_object.specs.Object.{Specification, Shows, IsFitting, IsBeginning, Does, IsLawfulEntry}
use Rattle.stm_object.specs.Object.{keeps_fitting}
use Rattle.stm_object.specs.History.{Lead, LeadTo, AddsRecord, AddsWithoutWrites}
use Rattle.stm_object.specs.History.{WasInOrder, IsAlone, words_after, LeadsOn, Closes}
use Rattle.stm_object.proofs.Adding.{in_snoc, inserted_last, record_reads, record_writes}

-- an image on which a memory may be opened fits
pub fits_beginning : {E : Type 0} (o : Specification E) (image : List ℕ) → IsBeginning o image → IsFitting o image
fits_beginning o image h = record { value = h.value; shown = h.shown }

-- the record of a commit that wrote nothing is a reader's
record_reader : (region : RegionShown) (tag : List ℕ) (v : Client) (pairs : List (ℕ × ℕ)) (version : ℕ) → pairs ≡ []
    → let r = commit_record region tag v pairs version in (r.writer ≡ false) × (r.writes ≡ [])
record_reader region tag v pairs version none = rw none (refl, refl)

pub spared : (tag : List ℕ) (region region' : RegionShown) (pairs : List (ℕ × ℕ)) (version : ℕ) (v w v' : Client)
    (a : AddsRecord region tag v v') → a.made ≡ commit_record region' tag w pairs version → pairs ≡ []
    → AddsWithoutWrites v v'
spared tag region region' pairs version v w v' a is none =
    let r = record_reader region' tag w pairs version none in
    record {
      made = a.made;
      reader = ap (λ (x : Record). x.writer) is ∙ r.0;
      writes = ap (λ (x : Record). x.writes) is ∙ r.1;
      records = a.records;
    }

-- a sorted list of which nothing stands before what is in another is put behind it
merged_last : (l m : List Record) → Sorted m → ((x y : Record) → In x l → In y m → before y x ≡ false)
    → merged l m ≡ l ++ m
merged_last l [] s f = sym (append-nil l)
merged_last l (y ∷ m) s f =
    ap (λ (k : List Record). merged k m) (inserted_last y l (λ x i. f x y i (zero, refl)))
    ∙ (merged_last (l ++ (y ∷ [])) m s.1 (λ x z i j. elim (in_snoc l y x i) [
      | inl k ↦ f x z k (suc j.0, j.1)
      | inr e ↦ subst (λ (w : Record). before z w ≡ false) e (s.0 z j)
    ])
    ∙ append_assoc l (y ∷ []) m)

all_none : (cs : List Client) → ((i : ℕ) (v : Client) → get_elem? cs i ≡ some v → v.records ≡ []) → all_records cs ≡ []
all_none [] f = refl
all_none (v ∷ cs) f =
    ap (λ (l : List Record). merged l (all_records cs)) (f 0 v refl) ∙ ap (λ (l : List Record). merged [] l)
    (all_none cs (λ i w e. f (suc i) w e))

-- where the others have none, one client's records are all there are
pub all_of_one : (cs : List Client) (i : ℕ) (v : Client) → get_elem? cs i ≡ some v → Sorted v.records
    → ((j : ℕ) (w : Client) → get_elem? cs j ≡ some w → j ≢ i → w.records ≡ []) → all_records cs ≡ v.records
all_of_one [] i v e s f = absurd (some-ne-none v (sym e))
all_of_one (x ∷ cs) zero v e s f =
    ap (λ (l : List Record). merged x.records l) (all_none cs (λ i w t. f (suc i) w t (λ z. omega (arith, z))))
    ∙ ap (λ (c : Client). c.records) (some-injective x v e)
all_of_one (x ∷ cs) (suc i) v e s f =
    ap (λ (l : List Record). merged l (all_records cs)) (f zero x refl (λ z. omega (arith, z)))
    ∙ (ap (λ (l : List Record). merged [] l) (all_of_one cs i v e s
    (λ j w t n. f (suc j) w t (λ z. n (omega (arith, z)))))
    ∙ merged_last [] v.records s (λ x y i j. absurd (nothing_in x i)))

-- the last of serial records was made on the image after those before it
last_agrees : (image : List ℕ) (rs : List Record) (r : Record) → Serial image (rs ++ (r ∷ []))
    → Serial image rs × Agrees (image_after image rs) r.reads
last_agrees image [] r s = (tt, s.0)
last_agrees image (x ∷ rs) r s = let q = last_agrees (laid image x.writes) rs r s.1 in ((s.0, q.0), q.1)

in_front : (rs : List Record) (r x : Record) → In x rs → In x (rs ++ (r ∷ []))
in_front [] r x i = absurd (nothing_in x i)
in_front (y ∷ rs) r x (zero, e) = (zero, e)
in_front (y ∷ rs) r x (suc j, e) = let k = in_front rs r x (j, e) in (suc k.0, k.1)

at_end : (rs : List Record) (r : Record) → In r (rs ++ (r ∷ []))
at_end [] r = (zero, refl)
at_end (x ∷ rs) r = let k = at_end rs r in (suc k.0, k.1)

module _ {E : Type 0} (o : Specification E) where
  -- a step that decided an attempt which only read, as one after which nothing was done
  pub decided_reading : (region : RegionShown) (r : Record) (v : Client)
      → DecidesWith (IsFitting o) (IsLawfulEntry o) region r v → WasDecided (IsFitting o) (IsLawfulEntry o) region r v
  decided_reading region r v k = record { then = v; same = refl; decides = k.0; made = k.1 }

  -- serial lawful records are a history from whatever value the image holds
  pub history : (image : List ℕ) (rs : List Record) → Serial image rs
      → ((r : Record) → In r rs → IsLawfulEntry o r.tag r.reads r.writes) → Lead o image rs
  history image [] serial lawful = λ x shown. record { entries = []; last = x; history = refl; shown = shown }
  history image (r ∷ rs) serial lawful = λ x shown.
      let l = lawful r (zero, refl) in
      let d = l.does.on image x shown serial.0 in
      let rest = history (laid image r.writes) rs serial.1 (λ y i. lawful y (in_later y r rs i))
      (o.after l.entry x) d.1 in
      record {
        entries = l.entry ∷ rest.entries;
        last = rest.last;
        history = (l.told, l.does.is_entry, d.0, rest.history);
        shown = rest.shown;
      }

  -- the image after serial lawful records fits
  fits_after : (image : List ℕ) (rs : List Record) → IsFitting o image → Serial image rs
      → ((r : Record) → In r rs → IsLawfulEntry o r.tag r.reads r.writes) → IsFitting o (image_after image rs)
  fits_after image [] f serial lawful = f
  fits_after image (r ∷ rs) f serial lawful = fits_after (laid image r.writes) rs
      (keeps_fitting o r.tag image r.reads r.writes f serial.0 (lawful r (zero, refl)))
      serial.1 (λ x i. lawful x (in_later x r rs i))

  -- the records of all clients when an attempt was decided, of a client with these records now
  pub in_order : (region region' : RegionShown) (entry : E) (v w v' u : Client) (pairs : List (ℕ × ℕ))
      (version : ℕ) (a : AddsRecord region (o.code entry) v v')
      → a.made ≡ commit_record region' (o.code entry) w pairs version → region' ≡ region
      → Does o entry w.attempt.reads pairs
      → WasDecided (IsFitting o) (IsLawfulEntry o) region' (commit_record region' (o.code entry) w pairs version) u
      → v' ≡ u → WasInOrder o region entry v v'
  in_order region region' entry v w v' u pairs version a is same does d e =
      let k : WasDecided (IsFitting o) (IsLawfulEntry o) region a.made v' =
      subst (λ (x : Client). WasDecided (IsFitting o) (IsLawfulEntry o) region a.made x) (sym e)
      (subst (λ (r : Record). WasDecided (IsFitting o) (IsLawfulEntry o) region r u) (sym is)
      (subst (λ (y : RegionShown). WasDecided (IsFitting o) (IsLawfulEntry o) y
      (commit_record region' (o.code entry) w pairs version) u) same d)) in
      let all = all_records k.decides.core.clients in
      let records : k.then.records ≡ v'.records = ap (λ (c : Client). c.records) (sym k.same) in
      let among : Sub v'.records all = subst (λ (rs : List Record). Sub rs all) records k.decides.among in
      let reads : a.made.reads ≡ w.attempt.reads = ap (λ (r : Record). r.reads) is
      ∙ record_reads region' (o.code entry) w pairs version in
      let writes : a.made.writes ≡ pairs = ap (λ (r : Record). r.writes) is
      ∙ record_writes region' (o.code entry) w pairs version in
      record {
        adds = a;
        does = subst (λ (rs : List (ℕ × ℕ)). Does o entry rs a.made.writes) (sym reads)
            (subst (λ (ws : List (ℕ × ℕ)). Does o entry w.attempt.reads ws) (sym writes) does);
        decided = k;
        lead = history region.first all k.decides.serial k.decides.abides;
        own = in_sub a.made among
            (subst (λ (rs : List Record). In a.made rs) (sym a.records) (at_end v.records a.made));
        among = among;
      }

  -- a client that is alone finds the words to which its own records lead
  pub leads : (region : RegionShown) (entry : E) (v v' : Client) → WasInOrder o region entry v v'
      → v'.is_gathered ≡ false → IsAlone v' → LeadsOn o region entry v v'
  leads region entry v v' h out all =
      let law : List ℕ → List (ℕ × ℕ) → List (ℕ × ℕ) → Type 0 = IsLawfulEntry o in
      let k = h.decided.decides in
      let then : Client = h.decided.then in
      let same = sym h.decided.same in
      let out' : then.is_gathered ≡ false = ap (λ (c : Client). c.is_gathered) same ∙ out in
      let grants : then.grants ≡ v'.grants = ap (λ (c : Client). c.grants) same in
      let records : then.records ≡ v'.records = ap (λ (c : Client). c.records) same in
      let alone = all_grants law (stripe_of region.stripes) k.core k.rule k.number then k.member out' (grants ∙ all) in
      let sorted = own_sorted law (stripe_of region.stripes) k.core k.rule k.number then k.member in
      let mine = all_of_one k.core.clients k.number then k.member sorted
      (λ j w t n. ap (λ (c : Client). c.records) (k.rule.past.are_gone j w t (alone j w t n))) in
      let made = h.adds.made in
      let are : all_records k.core.clients ≡ v.records ++ (made ∷ []) = mine ∙ (records ∙ h.adds.records) in
      let serial : Serial region.first (v.records ++ (made ∷ [])) =
      subst (λ (rs : List Record). Serial region.first rs) are k.serial in
      let abides : (r : Record) → In r (v.records ++ (made ∷ [])) → law r.tag r.reads r.writes =
      subst (λ (rs : List Record). (r : Record) → In r rs → law r.tag r.reads r.writes) are k.abides in
      let last = last_agrees region.first v.records made serial in
      let now : words_after region v' ≡ laid (words_after region v) made.writes =
      ap (λ (rs : List Record). image_after region.first rs) h.adds.records
      ∙ image_append region.first v.records (made ∷ []) in
      record {
        fitting = fits_after region.first v.records k.fitting last.0 (λ r i. abides r (in_front v.records made r i));
        on = λ x shown.
            let d = h.does.on (words_after region v) x shown last.1 in
            (d.0, subst (λ (ys : List ℕ). Shows o ys (o.after entry x)) (sym now) d.1);
      }

  pub closes : (region region' : RegionShown) (v v' : Client) (words : List ℕ) (version : ℕ)
      → IsFitting o region.first → Ends (IsLawfulEntry o) region v words version → region' ≡ region → v' ≡ v
      → Closes o region' v' words version
  closes region region' v v' words version first k e f =
      subst (λ (r : RegionShown). Closes o r v' words version) (sym e)
      (subst (λ (x : Client). Closes o region x words version) (sym f)
      (record {
        fitting = first;
        ends = k;
        lead = λ x shown. subst (λ (ys : List ℕ). LeadTo o x v.records ys) (sym k.newest)
            (history region.first v.records k.serial k.abides x shown);
      }))
