-- Attempts, one after the other, and why they stopped.
use Rattle.std.proofs.lemmas.Bool.Decides.{nat_tests}
use Rattle.std.proofs.Common.{◌≡◌, ℕ, zero, suc, ◌+◌, ◌≤◌, Bool, true, false, List, [], ◌∷◌, ◌++◌, Option, Some, Result}
use Rattle.std.proofs.Common.{Ok, Err, is_some, nat_lt, ◌&&◌}
use Rattle.std.proofs.Common.{IfOk, IfErr, MatchResult, append_assoc, append-nil, inr, refl, sym, ap, ◌∙◌, subst, arith}
use Rattle.stm_core.specs.Client.{Client, Record, aborted_of, all_aborted, rank}
use Rattle.stm_core.specs.Guards.{stripe_of}
use Rattle.stm_logs.specs.Log.{LogValue, log_pairs}
use Rattle.stm_region.specs.Shown.{RegionShown, ClientShown}
use Rattle.stm_attempt.specs.Begun.{IsPlaced}
use Rattle.stm_attempt.specs.Conflicts.{IsReadConflict}
use Rattle.stm_attempt.specs.Committing.{HasStopped}
use Rattle.stm_attempt.specs.declared.conflict.Conflict.{Conflict}
use Rattle.stm_attempt.specs.declared.conflict.Stop.{Stop}
use Rattle.stm_attempt.specs.declared.conflict.Stop.TheVariants as stop
use Rattle.stm_object.specs.declared.place.CommitPosition.{CommitPosition}
use Rattle.stm_object.specs.Places.{rank_of}
use Rattle.stm_object.specs.Object.{Specification, IsFitting, Does}
use Rattle.stm_object.specs.History.{AddsAt, WritesOnlyChanges, RecordsEntry, WasInOrder, IsAlone, IsNoConflict}
use Rattle.stm_object.specs.History.{WasRead, AddsAborted, AddsNoAborted, GrowsAborted}
use Rattle.stm_object.specs.History.{ConflictWasShown, AttemptedOnce, LeadsOn, IsNear, IsUnplaced}
use Rattle.stm_object.specs.History.{WouldWriteEntry, IsStopOfEntry, AbortedTimes, met_in, AreTries, HasCalledAt}
use Rattle.stm_object.specs.Tracing.{Trace, HasTracedOne, conflict_in, tally_with, HasTallied}
use Rattle.stm_object.proofs.Histories.{leads}
use Rattle.stm_object.proofs.Tracing.{IsLater}

-- a read showed the conflict that the attempt kept
pub shown_by_read : (region region' : RegionShown) (conflict : Conflict) (v v' : Client) → region' ≡ region
    → ∥ ((address : ℕ) × IsReadConflict (stripe_of region'.stripes) address conflict v) ∥₁ → v' ≡ v
    → WasRead region conflict v'
shown_by_read region region' conflict v v' same h e =
    subst (λ (r : RegionShown). WasRead r conflict v') same
    (subst (λ (c : Client). WasRead region' conflict c) (sym e) h)

-- attempts that showed conflicts were made one after the other
misses_count : (Shows : Conflict → Client → Type 0) (n : ℕ) (v v' : Client) → AbortedTimes Shows n v v'
    → v'.attempt.number ≡ v.attempt.number + n
misses_count Shows zero v v' h = let e = ap (λ (x : Client). x.attempt.number) h in omega (arith, e)
misses_count Shows (suc n) v v' h = let a = misses_count Shows n v h.0 h.1.0 in let b =
    h.1.1.next in omega (arith, a, b)

-- what was tried of so many tries, where `left` are left: each met a conflict and was tallied, and a
-- client that is alone has made none
pub record Trying {T : Type 0} (Shows : Conflict → Client → Type 0) (more : Option Conflict → T → T)
    (tries left : ℕ) (v v' : Client) (before now : T) : Type 0 where
  pub missed : ℕ
  pub count : missed + left ≡ tries
  pub misses : AbortedTimes Shows missed v v'
  pub tallied : now ≡ tally_with more before (met_in Shows missed v v' misses)
  pub grants : v'.grants ≡ v.grants
  pub floor : v.floor ≤ v'.floor
  pub records : v'.records ≡ v.records
  pub unplaced : IsUnplaced v'
  pub aborted : GrowsAborted v v'
  pub alone : IsAlone v → v' ≡ v

-- aborted attempts of two attempts, one after the other
pub grows_on : (v w v' : Client) → GrowsAborted v w → GrowsAborted w v' → GrowsAborted v v'
grows_on v w v' g h = (
  g.0 ++ h.0,
  h.1 ∙ (ap (λ l. l ++ h.0) g.1 ∙ append_assoc (all_aborted v) g.0 h.0),
)

pub grows_by : {A : Type 0} (region : RegionShown) (v v' : Client) (result : Result A Stop)
    → MatchResult result (λ _. AddsNoAborted v v') (λ _. AddsAborted region v v') → GrowsAborted v v'
grows_by region v v' (Ok a) h = ([], h.same ∙ sym (append-nil (all_aborted v)))
grows_by region v v' (Err e) h = (aborted_of v'.attempt ∷ [], h.listed)

pub trying_first : {T : Type 0} (Shows : Conflict → Client → Type 0) (more : Option Conflict → T → T) (tries : ℕ)
    (v : Client) (t : T) → IsUnplaced v → Trying Shows more tries tries v v t t
trying_first Shows more tries v t unplaced = record {
  missed = 0;
  count = omega arith;
  misses = refl;
  tallied = refl;
  grants = refl;
  floor = omega arith;
  records = refl;
  unplaced = unplaced;
  aborted = ([], sym (append-nil (all_aborted v)));
  alone = λ a. refl;
}

pub trying_next : {T : Type 0} (Shows : Conflict → Client → Type 0) (more : Option Conflict → T → T)
    (tries left left' : ℕ) (v w v' : Client) (t0 t t' : T) (conflict : Conflict)
    → Trying Shows more tries left v w t0 t → left ≡ left' + 1 → v'.attempt.number ≡ w.attempt.number + 1
    → v'.records ≡ w.records → v'.grants ≡ w.grants → Shows conflict v' → t' ≡ more (Some conflict) t
    → w.floor ≤ v'.floor → IsUnplaced v' → GrowsAborted w v' → (IsAlone w → ⊥)
    → Trying Shows more tries left' v v' t0 t'
trying_next Shows more tries left left' v w v' t0 t t' conflict h less next records grants was told low unplaced grows
    not =
    record {
      missed = suc h.missed;
      count = let c = h.count in omega (arith, c, less);
      misses = (
        w,
        (
          h.misses,
          record { next = next; records = records; grants = grants; conflict = conflict; shown = was },
        ),
      );
      tallied = told ∙ ap (λ x. more (Some conflict) x) h.tallied;
      grants = grants ∙ h.grants;
      floor = let a = h.floor in omega (arith, a, low);
      records = records ∙ h.records;
      unplaced = unplaced;
      aborted = grows_on v w v' h.aborted grows;
      alone = λ a. absurd (not (h.grants ∙ a));
    }

-- an attempt as the loop of a call finds it, by the client and the tracer before and after
pub record Made {E A X F T : Type 0} (o : Specification E) (region : RegionShown) (entry : A → E)
    (changes : A → Bool) (frame : X → F) (tally : X → T) (more : Option Conflict → T → T)
    (latest : X → ℕ) (ended : X → Option (List Trace)) (reads : Bool) (result : Result (A × CommitPosition) Stop)
    (c c' : ClientShown) (x x' : X) : Type 0 where
  pub own : c'.table ≡ c.table
  pub tried : AttemptedOnce o region entry changes reads result c.value c'.value
  pub traced : HasTracedOne (IsFitting o) region result c.value c'.value (latest x) (latest x') (ended x) (ended x')
  pub frame_is : frame x' ≡ frame x
  pub tallied : tally x' ≡ more (conflict_in result) (tally x)

-- the last of a list
abbrev last_or : {X : Type 0} → X → List X → X
last_or d [] = d
last_or d (x ∷ xs) = last_or x xs

last_is : {X : Type 0} (d : X) (xs : List X) (x : X) → last_or d (xs ++ (x ∷ [])) ≡ x
last_is d [] x = refl
last_is d (y ∷ xs) x = last_is y xs x

-- the attempt that made the added record is traced at a version that the client knew before, or at a later one, and
-- after the writer of the version that the client knew before
pub is_later : {E A : Type 0} (o : Specification E) (region : RegionShown) (entry : A → E) (w w' : Client)
    (result : Result (A × CommitPosition) Stop) → RecordsEntry o region entry result w w' → IsLater result w w'
is_later o region entry w w' (Ok a) h = λ t is.
    let same : h.adds.made ≡ is.added =
    sym (last_is h.adds.made w.records h.adds.made)
    ∙ (ap (λ (l : List Record). last_or h.adds.made l) (sym h.adds.records ∙ is.records)
    ∙ last_is h.adds.made w.records is.added) in
    let at : t.place.version ≡ h.adds.made.version =
    ap (λ (p : CommitPosition). p.version) is.is.place ∙ ap (λ (r : Record). r.version) (sym same) in
    let ranked : rank_of t.place ≡ rank h.adds.made =
    ap (λ (p : CommitPosition). rank_of p) is.is.place ∙ ap (λ (r : Record). rank r) (sym same) in
    let later = h.adds.later in let behind = h.adds.behind in
    (omega (arith, later, at), omega (arith, behind, ranked))
is_later o region entry w w' (Err e) h = tt

-- another attempt follows a conflict alone, and only if some attempt is left
pub met_conflict : {A : Type 0} (left : ℕ) (result : Result A Stop)
    → (is_some (conflict_in result) && nat_lt 0 left) ≡ true
    → (conflict : Conflict) × (result ≡ Err (stop.Conflict conflict))
met_conflict left (Ok a) h = absurd (let n : false ≡ true = h in cc)
met_conflict left (Err stop.Memory) h = absurd (let n : false ≡ true = h in cc)
met_conflict left (Err (stop.Conflict conflict)) h = (conflict, refl)
met_conflict left (Err (stop.Spent version)) h = absurd (let n : false ≡ true = h in cc)

pub some_left : (b : Bool) (left : ℕ) → (b && nat_lt 0 left) ≡ true → 1 ≤ left
some_left true left h = grind (arith, nat_tests, h)
some_left false left h = absurd (let n : false ≡ true = h in cc)

pub none_left : {A : Type 0} (left : ℕ) (result : Result A Stop) (conflict : Conflict)
    → (is_some (conflict_in result) && nat_lt 0 left) ≡ false → result ≡ Err (stop.Conflict conflict) → left ≡ 0
none_left left (Ok a) conflict h is = absurd (let n : Ok a ≡ Err (stop.Conflict conflict) = is in cc)
none_left left (Err stop.Memory) conflict h is = absurd (let n : Err stop.Memory ≡ Err (stop.Conflict conflict) = is
    in cc)
none_left left (Err (stop.Conflict met)) conflict h is = grind (arith, nat_tests, h)
none_left left (Err (stop.Spent version)) conflict h is =
    absurd (let n : Err (stop.Spent version) ≡ Err (stop.Conflict conflict) = is in cc)

-- no attempt of a client that is alone met a conflict
pub not_conflict : {A : Type 0} (conflict : Conflict) (result : Result A Stop) → result ≡ Err (stop.Conflict conflict)
    → IfErr result (λ s. IsNoConflict s) → ⊥
not_conflict conflict result is none = rw is at none

pub tallied_conflict : {A T : Type 0} (more : Option Conflict → T → T) (conflict : Conflict) (result : Result A Stop)
    (t t' : T) → result ≡ Err (stop.Conflict conflict) → t' ≡ more (conflict_in result) t
    → t' ≡ more (Some conflict) t
tallied_conflict more conflict result t t' is told = told ∙ ap (λ r. more (conflict_in r) t) is

-- what may write does not only read
pub not_reading : false ≡ true → ⊥
not_reading e = absurd (let n : false ≡ true = e in cc)

is_true : (b : Bool) → (b ≡ false → ⊥) → b ≡ true
is_true true not = refl
is_true false not = absurd (not refl)

module _ {E : Type 0} (o : Specification E) {A : Type 0} (region : RegionShown) (entry : A → E) (changes : A → Bool)
    (reads : Bool) where
  would_write : (a : A) (log : LogValue) (s : Stop) (v v' : Client) → (changes a ≡ false → log_pairs log ≡ [])
      → IsPlaced region log → Does o (entry a) v.attempt.reads (log_pairs log)
      → HasStopped region log s v v' → WouldWriteEntry o region entry changes log v'
  would_write a log s v v' wrote placed l h = record {
    answer = a;
    changing = is_true (changes a) (λ no. h.written (wrote no));
    some = h.written;
    placed = placed;
    does = subst (λ (rs : List (ℕ × ℕ)). Does o (entry a) rs (log_pairs log)) (sym h.same.reads) l;
  }

  -- why a commit stopped
  stop_is : (a : A) (log : LogValue) (s : Stop) (v0 v v' : Client) → reads ≡ false
      → v'.attempt.number ≡ v0.attempt.number + 1 → (changes a ≡ false → log_pairs log ≡ []) → IsPlaced region log
      → Does o (entry a) v.attempt.reads (log_pairs log) → HasStopped region log s v v'
      → IsStopOfEntry o region entry changes reads 1 s v0 v'
  stop_is a log stop.Memory v0 v v' writes next wrote placed l h = absurd h.shown
  stop_is a log (stop.Conflict conflict) v0 v v' writes next wrote placed l h = (
    next,
    inr (log, writes, would_write a log (stop.Conflict conflict) v v' wrote placed l h, h.shown),
  )
  stop_is a log (stop.Spent version) v0 v v' writes next wrote placed l h = (
    writes,
    record {
      version_is = h.shown.0;
      from = h.shown.1;
      gave_back = h.gave_back;
      found = h.shown.3;
      log = log;
      written = would_write a log (stop.Spent version) v v' wrote placed l h;
    },
  )

  pub no_record : (conflict : Conflict) (v v' : Client) (result : Result (A × CommitPosition) Stop)
      → result ≡ Err (stop.Conflict conflict) → RecordsEntry o region entry result v v' → v'.records ≡ v.records
  no_record conflict v v' result is h = let k = (rw is at h) in k

  pub conflict_shown : {B : Type 0} (conflict : Conflict) (v v' : Client) (result : Result B Stop)
      → result ≡ Err (stop.Conflict conflict)
      → IfErr result (λ s. IsStopOfEntry o region entry changes reads 1 s v v')
      → ConflictWasShown o region entry changes reads conflict v'
  conflict_shown conflict v v' result is h = let k = (rw is at h) in k.1

  -- where the last attempt met a conflict no other try was left
  last_stop : {B : Type 0} (tries left : ℕ) (v0 v v' : Client) (result : Result B Stop)
      → v.attempt.number + left ≡ v0.attempt.number + tries
      → ((conflict : Conflict) → result ≡ Err (stop.Conflict conflict) → left ≡ 1)
      → IfErr result (λ s. IsStopOfEntry o region entry changes reads 1 s v v')
      → IfErr result (λ s. IsStopOfEntry o region entry changes reads tries s v0 v')
  last_stop tries left v0 v v' (Ok moved) count last h = tt
  last_stop tries left v0 v v' (Err stop.Memory) count last h = h
  last_stop tries left v0 v v' (Err (stop.Conflict conflict)) count last h = let one =
      last conflict refl in (omega (arith, h.0, one, count), h.1)
  last_stop tries left v0 v v' (Err (stop.Spent version)) count last h = h

  adds_from : (tag : List ℕ) (place : CommitPosition) (v w v' : Client) → w.records ≡ v.records → v.floor ≤ w.floor
      → AddsAt region tag place w v' → AddsAt region tag place v v'
  adds_from tag place v w v' start low p = let a = p.adds in record {
    adds = record {
      made = a.made;
      tag_is = a.tag_is;
      attempt_is = a.attempt_is;
      renewal_is = a.renewal_is;
      unplaced = a.unplaced;
      later = let l = a.later in omega (arith, low, l);
      behind = let b = a.behind in omega (arith, low, b);
      known = a.known;
      records = a.records ∙ ap (λ (rs : List Record). rs ++ (a.made ∷ [])) start;
    };
    place_is = p.place_is;
  }

  records_from : {X : Type 0} (v w v' : Client) (result : Result (A × CommitPosition) X) → w.records ≡ v.records
      → v.floor ≤ w.floor → RecordsEntry o region entry result w v' → RecordsEntry o region entry result v v'
  records_from v w v' (Ok a) start low h = adds_from (o.code (entry a.0)) a.1 v w v' start low h
  records_from v w v' (Err e) start low h = h ∙ start

  order_from : {X : Type 0} (v w v' : Client) (result : Result (A × CommitPosition) X) → w.records ≡ v.records
      → v.floor ≤ w.floor → IfOk result (λ a. WasInOrder o region (entry a.0) w v')
      → IfOk result (λ a. WasInOrder o region (entry a.0) v v')
  order_from v w v' (Ok a) start low k = record {
    adds = record {
      made = k.adds.made;
      tag_is = k.adds.tag_is;
      attempt_is = k.adds.attempt_is;
      renewal_is = k.adds.renewal_is;
      unplaced = k.adds.unplaced;
      later = let l = k.adds.later in omega (arith, low, l);
      behind = let b = k.adds.behind in omega (arith, low, b);
      known = k.adds.known;
      records = k.adds.records ∙ ap (λ (rs : List Record). rs ++ (k.adds.made ∷ [])) start;
    };
    does = k.does;
    decided = k.decided;
    lead = k.lead;
    own = k.own;
    among = k.among;
  }
  order_from v w v' (Err e) start low k = tt

  spares_from : {X : Type 0} (v w v' : Client) (result : Result (A × CommitPosition) X) → w.records ≡ v.records
      → WritesOnlyChanges reads changes result w v' → WritesOnlyChanges reads changes result v v'
  spares_from v w v' (Ok a) start k = λ no. let r = k no in record {
    made = r.made;
    reader = r.reader;
    writes = r.writes;
    records = r.records ∙ ap (λ (rs : List Record). rs ++ (r.made ∷ [])) start;
  }
  spares_from v w v' (Err e) start k = tt

  -- a call of a client that is alone found the words to which its own calls had led
  turn_of : {X : Type 0} (v v' : Client) (result : Result (A × CommitPosition) X)
      → IfOk result (λ a. WasInOrder o region (entry a.0) v v') → v'.is_gathered ≡ false → IsAlone v'
      → IfOk result (λ a. LeadsOn o region (entry a.0) v v')
  turn_of v v' (Ok a) order out all = leads o region (entry a.0) v v' order out all
  turn_of v v' (Err e) order out all = tt

  abbrev Shown : Conflict → Client → Type 0
  Shown conflict x = ConflictWasShown o region entry changes reads conflict x

  tried : {T : Type 0} (more : Option Conflict → T → T) (tries left left' : ℕ) (v w v' : Client) (t0 t : T)
      → Trying Shown more tries left v w t0 t → left ≡ left' + 1 → v'.attempt.number ≡ w.attempt.number + 1
      → AreTries Shown tries v v'
  tried more tries left left' v w v' t0 t h less next = record {
    missed = h.missed;
    left = left';
    count = let c = h.count in omega (arith, c, less);
    before = w;
    misses = h.misses;
    next = next;
    number = let n = misses_count Shown h.missed v w h.misses in omega (arith, n, next);
  }

  pub has_tallied : {T : Type 0} (more : Option Conflict → T → T) (tries left left' : ℕ) (v w v' : Client) (t0 t t' : T)
      (answer result : Result (A × CommitPosition) Stop) → answer ≡ result → Trying Shown more tries left v w t0 t
      → left ≡ left' + 1 → AttemptedOnce o region entry changes reads result w v' → t' ≡ more (conflict_in result) t
      → HasTallied Shown more tries answer v v' t0 t'
  unfolding tried
  has_tallied more tries left left' v w v' t0 t t' answer result is h less one told = rw is (record {
    attempts = tried more tries left left' v w v' t0 t h less one.attempt;
    tallied = told ∙ ap (λ x. more (conflict_in result) x) h.tallied;
  })

  -- a call, by its last attempt
  pub has_called : {T : Type 0} (more : Option Conflict → T → T) (tries left left' : ℕ) (v w v' : Client) (t0 t : T)
      (answer result : Result (A × CommitPosition) Stop) → answer ≡ result → Trying Shown more tries left v w t0 t
      → left ≡ left' + 1 → AttemptedOnce o region entry changes reads result w v'
      → ((conflict : Conflict) → result ≡ Err (stop.Conflict conflict) → left' ≡ 0)
      → HasCalledAt o region entry changes reads tries answer v v'
  has_called more tries left left' v w v' t0 t answer result is h less one last = rw is (
      let order = order_from v w v' result h.records h.floor one.order in
      record {
        grants = one.grants ∙ h.grants;
        floor = let a = h.floor in let b = one.floor in omega (arith, a, b);
        free_handed = one.free_handed;
        unplaced = one.unplaced;
        records = records_from v w v' result h.records h.floor one.records;
        order = order;
        spares = spares_from v w v' result h.records one.spares;
        turn = λ a. turn_of v v' result order one.free_handed.0 (one.grants ∙ (h.grants ∙ a));
        alone = λ a. one.alone (h.grants ∙ a);
        once = λ a. one.attempt ∙ ap (λ (x : Client). x.attempt.number + 1) (h.alone a);
        near = λ a. let e = ap (λ (x : Client). x.floor) (h.alone a) in let n = one.near (h.grants ∙ a) in
            subst (λ (floor : ℕ). IsNear reads region.last floor v'.floor result) e n;
        aborted = grows_on v w v' h.aborted (grows_by region w v' result one.aborted);
        attempts = tried more tries left left' v w v' t0 t h less one.attempt;
        stopped = last_stop tries left v w v' result
            (let n = misses_count Shown h.missed v w h.misses in let c = h.count in omega (arith, n, c))
            (λ conflict met. let none = last conflict met in omega (arith, less, none)) one.stopped;
      })

module _ {E : Type 0} (o : Specification E) {A : Type 0} (entry : A → E) (changes : A → Bool) (reads : Bool) where
  pub commit_stop : (region region' : RegionShown) (a : A) (log : LogValue) (s : Stop) (v0 v w w' : Client)
      → region' ≡ region → reads ≡ false → w.attempt.number ≡ v0.attempt.number + 1
      → (changes a ≡ false → log_pairs log ≡ []) → IsPlaced region' log
      → Does o (entry a) v.attempt.reads (log_pairs log) → HasStopped region' log s v w → w' ≡ w
      → IsStopOfEntry o region entry changes reads 1 s v0 w'
  commit_stop region region' a log s v0 v w w' same writes next wrote placed l h e =
      subst (λ (x : Client). IsStopOfEntry o region entry changes reads 1 s v0 x) (sym e)
      (subst (λ (r : RegionShown). IsStopOfEntry o r entry changes reads 1 s v0 w) same
      (stop_is o region' entry changes reads a log s v0 v w writes next wrote placed l h))
