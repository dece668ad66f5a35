-- What is traced of attempts.
use Rattle.std.proofs.Common.{◌≡◌, ◌≤◌, ◌<◌, ℕ, ◌+◌, ◌*◌, Bool, true, false, List, [], ◌∷◌, ◌++◌, length, Option, Some}
use Rattle.std.proofs.Common.{Result, Ok, MatchResult}
use Rattle.std.proofs.Common.{Err, IfOk, refl, sym, ap, subst, ◌∙◌, append_assoc, append-nil, length-append, arith}
use Rattle.std.specs.FinMap.{entries, empty}
use Rattle.tx_memory.specs.Pairs.{map_of}
use Rattle.tx_memory.specs.View.{Words}
use Rattle.tx_memory.specs.declared.access.Access.{Access}
use Rattle.tx_memory.specs.Accesses.{IsTracked, AreOf}
use Rattle.stm_core.specs.Client.{Client, Record}
use Rattle.stm_logs.specs.Log.{LogValue, empty_log, log_pairs}
use Rattle.stm_region.specs.Shown.{RegionShown, ClientShown}
use Rattle.stm_attempt.specs.Committing.{HasCommitted, HasStopped, commit_record}
use Rattle.stm_attempt.specs.declared.conflict.Stop.{Stop}
use Rattle.stm_region.specs.Findings.{StandsOn}
use Rattle.stm_attempt.specs.Meaning.{memory_of, IsStanding, Origin, origin_of}
use Rattle.stm_object.specs.Tracing.{Trace, HasNoAccess, AppendsTrace, IsOfAdded, IsOfEnd, AreAborted, AreOfEnd}
use Rattle.stm_object.specs.Tracing.{HasTraced, IsReaderAt, IsTraceOfAborted, IsListedAborted}
use Rattle.stm_object.specs.Tracing.{AreMadeInTurn}
use Rattle.stm_object.specs.History.{AddsAborted, AddsNoAborted}
use Rattle.stm_object.specs.declared.place.CommitPosition.{CommitPosition}
use Rattle.stm_object.specs.Places.{place_of, rank_of}
use Rattle.stm_object.specs.Tracing.{HasTracedCommit, HasTracedAbort, HasTracedOne}
use Rattle.stm_object.proofs.Adding.{record_reads, record_writes}

-- an attempt between two times, by the times at which it began and ended
is_between : (from begin to : ℕ) (t : Trace) → from ≤ begin → begin ≤ to → t.begin ≡ begin → t.end ≡ to →
    AreMadeInTurn from (t ∷ []) to
is_between from begin to t low high began ended =
    (omega (arith, low, began), omega (arith, high, began, ended), omega (arith, ended))

-- one more attempt is made after the others
turn_next : (from between to : ℕ) (ts : List Trace) (t : Trace) → AreMadeInTurn from ts between →
    AreMadeInTurn between (t ∷ []) to → AreMadeInTurn from (ts ++ (t ∷ [])) to
turn_next from between to [] t h n = let low = n.0 in (omega (arith, h, low), n.1, n.2)
turn_next from between to (x ∷ ts) t h n = (h.0, h.1, turn_next x.end between to ts t h.2 n)

-- an attempt that has just begun has neither read nor written anything
pub tracked_begun : (fits : List ℕ → Type 0) (in_use : Bool) (region : RegionShown) (v : Client) (w : LogValue)
    (accesses : Option (List Access))
    → v.attempt.reads ≡ [] → w ≡ empty_log → HasNoAccess accesses →
    IsTracked accesses (memory_of in_use region fits v w).reads
    (memory_of in_use region fits v w).writes
tracked_begun fits true region v w accesses none e fresh = λ all is.
    let z : all ≡ [] = fresh all is in
    subst (λ (l : List Access). AreOf l (map_of v.attempt.reads) w.words) (sym z)
    (ap (λ (l : List (ℕ × ℕ)). map_of l) none, ap (λ (x : LogValue). x.words) e, refl)
tracked_begun fits false region v w accesses none e fresh = λ all is.
    subst (λ (l : List Access). AreOf l empty empty) (sym (fresh all is)) (refl, refl, refl)

-- what an attempt that still runs has read and written is what was tracked
abbrev Tells : List Access → Client → LogValue → Type 0
Tells all v w = AreOf all (map_of v.attempt.reads) w.words

tells : (fits : List ℕ → Type 0) (in_use in_use' : Bool) (region region' : RegionShown) (c c' l l' : ℕ)
    (v v' : ClientShown) (w : LogValue)
    (accesses : Option (List Access)) (all : List Access) → in_use ≡ true →
    origin_of in_use' region' c' l' v' ≡ origin_of in_use region c l v →
    IsTracked accesses (memory_of in_use' region' fits v'.value w).reads
    (memory_of in_use' region' fits v'.value w).writes → accesses ≡ Some all →
    Tells all v'.value w
tells fits in_use true region region' c c' l l' v v' w accesses all u o tracked is = tracked all is
tells fits true false region region' c c' l l' v v' w accesses all u o tracked is =
    absurd (let n : false ≡ true = ap (λ (x : Origin). x.in_use) o in cc)
tells fits false false region region' c c' l l' v v' w accesses all u o tracked is = absurd (let n = u in cc)

-- it made the record of its commit
pub made : (fits : List ℕ → Type 0) (in_use in_use' : Bool) (region region' : RegionShown) (c c' l l' : ℕ)
    (v v' : ClientShown) (w : LogValue) (accesses : Option (List Access)) (tag : List ℕ) (pairs : List (ℕ × ℕ))
    (version : ℕ) (place : CommitPosition) (first last : Client) (r : Record) → in_use ≡ true →
    origin_of in_use' region' c' l' v' ≡ origin_of in_use region c l v →
    IsTracked accesses (memory_of in_use' region' fits v'.value w).reads
    (memory_of in_use' region' fits v'.value w).writes →
    log_pairs w ≡ pairs → r ≡ commit_record region' tag v'.value pairs version →
    last.records ≡ first.records ++ (r ∷ []) → place ≡ place_of r →
    (t : Trace) → t.commits ≡ true → t.place ≡ place → accesses ≡ Some t.accesses → IsOfAdded first last t
made fits in_use in_use' region region' c c' l l' v v' w accesses tag pairs version place first last r u o
    tracked p is_made records at = λ t commits at_place is.
    let h = tells fits in_use in_use' region region' c c' l l' v v' w accesses t.accesses u o tracked is in
    record {
      added = r;
      records = records;
      is = record {
        commits = commits;
        place = at_place ∙ at;
        reads = ap (λ (x : Record). map_of x.reads) is_made
            ∙ (ap (λ (ps : List (ℕ × ℕ)). map_of ps) (record_reads region' tag v'.value pairs version) ∙ h.0);
        writes = ap (λ (x : Record). x.writes) is_made
            ∙ (record_writes region' tag v'.value pairs version ∙ (sym p ∙ ap (λ (m : Words). entries m) h.1));
        right = h.2;
      };
    }

-- an attempt that committed, and made its record, is one more
pub one_committed : {A X : Type 0} (a : A) (place : CommitPosition) (accesses : Option (List Access))
    (from begin to : ℕ) (first before after : Option (List Trace)) (region : RegionShown) (tag : List ℕ)
    (pairs : List (ℕ × ℕ)) (u : Client) (version : ℕ) (v w v' : Client) → HasCommitted region tag pairs u w version →
    v' ≡ w → before ≡ first →
    HasTracedCommit place accesses begin to before after → begin ≤ to → from ≤ begin →
    ((t : Trace) → t.commits ≡ true → t.place ≡ place → accesses ≡ Some t.accesses → IsOfAdded v w t) →
    (fits : List ℕ → Type 0) (here : RegionShown) →
    HasTracedOne fits here {A = A} {X = X} (Ok a) v v' from to first after
one_committed a place accesses from begin to first before after region tag pairs u version v w v' done f e told high low
    was fits here =
    record {
      later = omega (arith, low, high);
      one = λ all is.
          let o = told all is in (
            o.0,
            o.1,
            sym e ∙ o.2,
            o.3,
            (
              subst (λ (x : Client). IsOfAdded v x o.1) (sym f) (was o.1 o.4.0 o.4.1 o.4.2),
              is_between from begin to o.1 low high o.4.3 o.4.4,
            ),
          );
    }

-- some image has the reads of an attempt that has ended
stood : (fits : List ℕ → Type 0) (in_use : Bool) (region here : RegionShown) (v last : Client) (size : ℕ)
    (reads : List (ℕ × ℕ)) → in_use ≡ true → IsStanding in_use region v size reads → ∥ StandsOn fits size reads ∥₁ →
    region ≡ here → last.attempt.reads ≡ v.attempt.reads → ∥ StandsOn fits here.size last.attempt.reads ∥₁
stood fits in_use region here v last size reads runs same stands at left =
    let s = same runs in
    subst (λ (n : ℕ). ∥ StandsOn fits n last.attempt.reads ∥₁) (s.0 ∙ ap (λ (r : RegionShown). r.size) at)
    (subst (λ (rs : List (ℕ × ℕ)). ∥ StandsOn fits size rs ∥₁) (s.1 ∙ sym left) stands)

-- the trace of an attempt that aborted, at a position that is known
pub abandoned : (fits : List ℕ → Type 0) (in_use in_use' : Bool) (region region' here : RegionShown) (c c' l l' : ℕ)
    (v v' : ClientShown) (w : LogValue) (accesses : Option (List Access)) (begun position : Option CommitPosition)
    (renewal version size : ℕ) (reads : List (ℕ × ℕ)) (last : Client) → in_use ≡ true →
    origin_of in_use' region' c' l' v' ≡ origin_of in_use region c l v →
    IsTracked accesses (memory_of in_use' region' fits v'.value w).reads
    (memory_of in_use' region' fits v'.value w).writes →
    last.attempt.reads ≡ v'.value.attempt.reads → renewal ≡ here.renewal → version ≡ last.attempt.rv →
    IsReaderAt renewal version begun → position ≡ begun → region' ≡ here →
    IsStanding in_use' region' v'.value size reads →
    ∥ StandsOn fits size reads ∥₁ →
    (t : Trace) → t.commits ≡ false → position ≡ Some t.place → accesses ≡ Some t.accesses →
    IsTraceOfAborted fits here last t
abandoned fits in_use in_use' region region' here c c' l l' v v' w accesses begun position renewal version size reads
    last u o tracked left of_renewal of_version reader kept at_here standing stands t aborts at is =
    let h = tells fits in_use in_use' region region' c c' l l' v v' w accesses t.accesses u o tracked is in
    record {
      aborts = aborts;
      place = rw (sym of_renewal, sym of_version) (reader t.place (sym kept ∙ at));
      reads = ap (λ (rs : List (ℕ × ℕ)). map_of rs) left ∙ h.0;
      right = h.2;
      stands = stood fits in_use' region' here v'.value last size reads (ap (λ (x : Origin). x.in_use) o ∙ u) standing
          stands at_here left;
    }

-- the trace of an attempt whose commit stopped
pub abandoned_commit : (fits : List ℕ → Type 0) (in_use in_use' : Bool) (region region' here : RegionShown)
    (c c' l l' : ℕ)
    (v v' : ClientShown) (w : LogValue) (accesses : Option (List Access)) (begun position : Option CommitPosition)
    (renewal version size : ℕ) (reads : List (ℕ × ℕ)) (log : LogValue) (stop : Stop)
    (last : Client) → HasStopped region' log stop v'.value last → in_use ≡ true →
    origin_of in_use' region' c' l' v' ≡ origin_of in_use region c l v →
    IsTracked accesses (memory_of in_use' region' fits v'.value w).reads
    (memory_of in_use' region' fits v'.value w).writes →
    renewal ≡ here.renewal → version ≡ last.attempt.rv →
    IsReaderAt renewal version begun → position ≡ begun → region' ≡ here →
    IsStanding in_use' region' v'.value size reads →
    ∥ StandsOn fits size reads ∥₁ →
    (t : Trace) → t.commits ≡ false → position ≡ Some t.place → accesses ≡ Some t.accesses →
    IsTraceOfAborted fits here last t
abandoned_commit fits in_use in_use' region region' here c c' l l' v v' w accesses begun position renewal version size
    reads
    log stop last h u o tracked =
    abandoned fits in_use in_use' region region' here c c' l l' v v' w accesses begun position renewal version size
    reads last
    u o tracked h.same.reads

-- an attempt that aborted is one more
pub one_aborted : {A X : Type 0} (why : X) (fits : List ℕ → Type 0) (here : RegionShown)
    (accesses : Option (List Access)) (position : Option CommitPosition) (from begin to : ℕ)
    (first before after : Option (List Trace)) (v w last : Client) →
    ((t : Trace) → t.commits ≡ false → position ≡ Some t.place → accesses ≡ Some t.accesses →
    IsTraceOfAborted fits here w t) → last ≡ w →
    before ≡ first → HasTracedAbort position accesses begin to before after → begin ≤ to → from ≤ begin →
    last.attempt.number ≡ v.attempt.number + 1 → v.floor ≤ last.attempt.rv → last.attempt.rv ≤ last.floor →
    HasTracedOne fits here {A = A} {X = X} (Err why) v last from to first after
one_aborted why fits here accesses position from begin to first before after v w last was f e told high low next later
    known =
    record {
      later = omega (arith, low, high);
      one = λ all is.
          let o = told all is in (
            o.0,
            o.1,
            sym e ∙ o.2,
            o.3,
            (
              record {
                next = next;
                later = later;
                known = known;
                is = subst (λ (x : Client). IsTraceOfAborted fits here x o.1) (sym f) (was o.1 o.4.0 o.4.1 o.4.2);
              },
              is_between from begin to o.1 low high o.4.3 o.4.4,
            ),
          );
    }

module _ (fits : List ℕ → Type 0) (region : RegionShown) where
  given_up_more : (v : Client) (ts : List Trace) (w w' : Client) (t : Trace) → AreAborted fits region v ts w →
      IsListedAborted fits region w w' t → AreAborted fits region v (ts ++ (t ∷ [])) w'
  given_up_more v [] w w' t e n = (w', subst (λ (x : Client). IsListedAborted fits region x w' t) e n, refl)
  given_up_more v (x ∷ ts) w w' t h n = (h.0, h.1, given_up_more h.0 ts w w' t h.2 n)

-- the record of an attempt that was answered is at a version that the client knew before, or at a later one, and
-- after the writer of the version that the client knew before
abbrev pub IsLater : {A E : Type 0} → Result A E → Client → Client → Type 0
IsLater end w w' = IfOk end (λ _. (t : Trace) → IsOfAdded w w' t → (w.floor ≤ t.place.version)
    × (2 * w.floor < rank_of t.place))

-- the aborted attempts after an attempt with this result
abbrev pub Lists : {A E : Type 0} → RegionShown → Result A E → Client → Client → Type 0
Lists region end w w' = MatchResult end (λ _. AddsNoAborted w w') (λ _. AddsAborted region w w')

of_end : (fits : List ℕ → Type 0) (region : RegionShown) {A E : Type 0} (end : Result A E) (v w w' : Client)
    (before : List Trace) (t : Trace) → w.records ≡ v.records → w'.attempt.number ≡ w.attempt.number + 1 →
    IsLater end w w' → Lists region end w w' → AreAborted fits region v before w → IsOfEnd fits region end w w' t →
    AreOfEnd fits region end v w' (before ++ (t ∷ []))
of_end fits region (Ok a) v w w' before t same next later lists g is = (
  before,
  t,
  refl,
  (w, g, (later t is).0, (later t is).1, next, lists.same),
  record {
    added = is.added;
    records = is.records ∙ ap (λ (rs : List Record). rs ++ (is.added ∷ [])) same;
    is = is.is;
  },
)
of_end fits region (Err e) v w w' before t same next later lists g is =
    given_up_more fits region v before w w' t g (is, lists)

-- these attempts were made one after the other, and all of them given up
abbrev pub AllGivenUp : (List ℕ → Type 0) → RegionShown → Client → Client → ℕ → ℕ → Option (List Trace)
    → Option (List Trace) → Type 0
AllGivenUp fits region v w from to before now = (all : List Trace) → now ≡ Some all →
    (earlier : List Trace) × (more : List Trace) × (before ≡ Some earlier)
    × (all ≡ earlier ++ more) × AreAborted fits region v more w
    × (v.attempt.number + length more ≡ w.attempt.number) × AreMadeInTurn from more to

pub none_given_up : (fits : List ℕ → Type 0) (region : RegionShown) (v : Client) (from : ℕ)
    (before : Option (List Trace)) → AllGivenUp fits region v v from from before before
none_given_up fits region v from before = λ all is.
    (all, [], is, sym (append-nil all), refl, omega arith, omega arith)

-- one attempt, with this result, is traced after the others
abbrev pub AppendsEnd : (List ℕ → Type 0) → RegionShown → {A E : Type 0} → Result A E → Client → Client → ℕ → ℕ
    → Option (List Trace) → Option (List Trace) → Type 0
AppendsEnd fits region end w w' from to before after =
    AppendsTrace (λ t. IsOfEnd fits region end w w' t × AreMadeInTurn from (t ∷ []) to) before after

more_of_end : (fits : List ℕ → Type 0) (region : RegionShown) {A E : Type 0} (end : Result A E) (v w w' : Client)
    (from between to : ℕ) (a b c : Option (List Trace)) → AllGivenUp fits region v w from between a b →
    AppendsEnd fits region end w w' between to b c → w'.attempt.number ≡ w.attempt.number + 1 →
    w.records ≡ v.records → IsLater end w w' → Lists region end w w' → (all : List Trace) → c ≡ Some all →
    (earlier : List Trace) × (more : List Trace) × (a ≡ Some earlier)
    × (all ≡ earlier ++ more) × AreOfEnd fits region end v w' more
    × (v.attempt.number + length more ≡ w'.attempt.number) × AreMadeInTurn from more to
more_of_end fits region end v w w' from between to a b c h one next same later lists all is =
    let o = one all is in
    let t = h o.0 o.2 in
    let n = t.5 in
    let long : length (t.1 ++ (o.1 ∷ [])) ≡ length t.1 + 1 = length-append t.1 (o.1 ∷ []) in (
      t.0,
      t.1 ++ (o.1 ∷ []),
      t.2,
      o.3 ∙ (ap (λ (l : List Trace). l ++ (o.1 ∷ [])) t.3 ∙ append_assoc t.0 t.1
          (o.1 ∷ [])),
      of_end fits region end v w w' t.1 o.1 same next later lists t.4 o.4.0,
      omega (arith, n, long, next),
      turn_next from between to t.1 o.1 t.6 o.4.1,
    )

-- one attempt more, the last one, after others that were given up
pub traced_last : (fits : List ℕ → Type 0) (region : RegionShown) {A E : Type 0} (answer end : Result A E)
    (v w w' : Client) (from between to : ℕ) (a b c : Option (List Trace)) → answer ≡ end → from ≤ between →
    AllGivenUp fits region v w from between a b → HasTracedOne fits region end w w' between to b c →
    w'.attempt.number ≡ w.attempt.number + 1 →
    w.records ≡ v.records → IsLater end w w' → Lists region end w w' → HasTraced fits region answer v w' from to a c
traced_last fits region answer end v w w' from between to a b c is low h one next same later lists =
    let high = one.later in
    rw is (record {
      later = omega (arith, low, high);
      each = more_of_end fits region end v w w' from between to a b c h one.one next same later lists;
    })

-- the next attempt was given up too
pub traced_next : (fits : List ℕ → Type 0) (region : RegionShown) {A E : Type 0} (end : Result A E) (why : E)
    (v w w' : Client) (from between to : ℕ) (a b c : Option (List Trace)) → end ≡ Err why →
    AllGivenUp fits region v w from between a b → HasTracedOne fits region end w w' between to b c →
    w'.attempt.number ≡ w.attempt.number + 1 →
    w.records ≡ v.records → Lists region end w w' → AllGivenUp fits region v w' from to a c
traced_next fits region {A = A} end why v w w' from between to a b c is h one next same lists =
    more_of_end fits region {A = A} (Err why) v w w' from between to a b c h
    (subst (λ (r : Result A _). AppendsEnd fits region r w w' between to b c) is one.one) next same tt
    (subst (λ (r : Result A _). Lists region r w w') is lists)
