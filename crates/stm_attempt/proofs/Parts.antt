-- The parts of a commit put together.
use Rattle.std.proofs.Common.{◌≡◌, ◌≢◌, ◌⊎◌, ⊎_elim, inl, inr, refl, sym, ap, subst, ◌∙◌, ℕ, zero, suc, ◌+◌, ◌*◌, ◌<◌}
use Rattle.std.proofs.Common.{◌≤◌, Bool, true, false, ◌||◌, cond, eqb, List, [], ◌∷◌, ◌++◌, length, length-append}
use Rattle.std.proofs.Common.{append_assoc, Option, Some, None, Result, Ok, Err, IfOk, IfErr, MatchResult, take, arith}
use Rattle.std.specs.FinMap.{get, len, len-entries}
use Rattle.std.proofs.lemmas.Bool.{ne_eqb}
use Rattle.core.specs.Result.{IsErrAnd}
use Rattle.std.specs.Result.{is_ok, is_err}
use mathlib.Core.Option.{some-injective}
use lib.ListN.{get_elem?}
use Rattle.tx_memory.specs.Image.{In}
use Rattle.stm_core.specs.declared.limits.TheConstants.{MOST_TICKS}
use Rattle.stm_core.specs.Client.{Client, Record, RecordLaw, inserted, committed, running, is_committed, decided}
use Rattle.stm_core.specs.Client.{is_settled}
use Rattle.stm_core.specs.Event.{Action, is_empty, after, finish, decision, writer_record, reader_record}
use Rattle.stm_logs.specs.Log.{LogValue, SameAddresses, log_pairs, log_locks}
use Rattle.stm_logs.proofs.LockLemmas.{locks_few, in_locks}
use Rattle.stm_logs.proofs.TableLemmas.{some_none}
use Rattle.stm_logs.proofs.RisingLemmas.{In as Among, in_get}
use Rattle.stm_region.specs.Findings.{StandsOn, Decides, DecidesAt}
use Rattle.stm_region.specs.Shown.{RegionShown, unplaced}
use Rattle.stm_core.specs.Guards.{stripe_of}
use Rattle.stm_attempt.specs.Begun.{addresses, IsBegun, AreInside}
use Rattle.stm_attempt.specs.Conflicts.{IsLockConflict, IsValidateConflict, IsTickConflict, IsReadLock}
use Rattle.stm_attempt.specs.Conflicts.{IsCommitConflict}
use Rattle.stm_attempt.specs.Committing.{IsSameAttempt, settling, ticked_record, commit_record, IsCommitVersion}
use Rattle.stm_attempt.specs.Committing.{IsCommitStop, IsCounted, GaveBack, HasCommitted, HasStopped, DecidesWith}
use Rattle.stm_attempt.specs.Committing.{IsCommitResult, WasDecided}
use Rattle.stm_attempt.specs.CommitParts.{IsReady, CanValidate, returned, is_at_once, HasFailed, HasTaken, IsClimbing}
use Rattle.stm_attempt.specs.CommitParts.{HasFailedLocking, HasFailedDeciding, HasFailedTicking, HasTicked}
use Rattle.stm_attempt.specs.CommitParts.{HasFailedValidating, MayGiveBack}
use Rattle.stm_attempt.specs.CommitParts.{HasValidated, IsDecided, HasSettled}
use Rattle.stm_attempt.proofs.Named.{apart, same_attempt, same_on}
use Rattle.stm_attempt.specs.declared.conflict.Conflict.{Conflict}
use Rattle.stm_attempt.specs.declared.conflict.Conflict.TheVariants.{Held, Newer, Moved, LostLock, LostTick}
use Rattle.stm_attempt.specs.declared.conflict.Stop.{Stop}
use Rattle.stm_attempt.specs.declared.conflict.Stop.TheVariants.{Memory, Spent, Conflict as Conflicting}
use Rattle.stm_attempt.proofs.Counting.{count_pairs, count_addresses}

-- what was read from an image of the size is inside it
pub inside_of : (fits : List ℕ → Type 0) (size : ℕ) (reads : List (ℕ × ℕ)) → StandsOn fits size reads →
    AreInside size reads
inside_of fits size reads s = λ a x i. subst (λ (n : ℕ). a < n) s.length_is (s.agrees a x i).0

pub inside_same : (size : ℕ) (reads reads' : List (ℕ × ℕ)) → reads' ≡ reads → AreInside size reads →
    AreInside size reads'
inside_same size reads reads' e inside = λ a x i. inside a x (subst (λ (rs : List (ℕ × ℕ)). In (a, x) rs) e i)

-- an attempt that took its locks may still commit
pub still_ready : (region : RegionShown) (v l : Client) (rv : ℕ) → settling l ≡ settling v → IsReady region v rv →
    IsReady region l rv
still_ready region v l rv e ready = record {
  out = ap (λ (x : Client). x.is_gathered) e ∙ ready.out;
  reading = (
    ap (λ (x : Client). x.attempt.phase) e ∙ ready.reading.0,
    ap (λ (x : Client). x.attempt.wv) e ∙ ready.reading.1,
  );
  begun_at = ap (λ (x : Client). x.attempt.rv) e ∙ ready.begun_at;
  known = ap (λ (x : Client). x.floor) e ∙ ready.known;
  unticked = ap (λ (x : Client). x.attempt.ticks) e ∙ ready.unticked;
  from = ap (λ (x : Client). x.attempt.next_from) e ∙ ready.from;
  range = ready.range;
  inside = inside_same region.size v.attempt.reads l.attempt.reads
      (ap (λ (x : Client). x.attempt.reads) e) ready.inside;
}

none_read : (reads : List (ℕ × ℕ)) → eqb (length (addresses reads)) 0 ≡ is_empty reads
none_read [] = refl
none_read (p ∷ ps) = ne_eqb (length (addresses (p ∷ ps))) 0 (λ e. absurd (omega arith))

some_read : (v : Client) (version : ℕ) → is_at_once v version ≡ false → v.attempt.reads ≢ []
some_read v version later none = let at_once : is_at_once v version ≡ true = rw none refl in cc

-- a ticked attempt that is not decided may validate its reads
pub may_validate : (region : RegionShown) (tag : List ℕ) (writes : List (ℕ × ℕ)) (v t : Client) (rv version : ℕ) →
    HasTicked region tag writes v t version → IsReady region v rv → 0 < version → is_at_once v version ≡ false →
    CanValidate region t rv
may_validate region tag writes v t rv version ticked ready less later = record {
  out = ticked.same.is_gathered ∙ ready.out;
  phase = ticked.phase ∙ ap (λ (b : Bool). cond b committed running) later;
  versioned = omega (arith, less, ticked.versioned);
  unvalidated = ticked.unvalidated;
  unplaced = ticked.unplaced;
  begun_at = ticked.same.rv ∙ ready.begun_at;
  some = λ none. some_read v version later (sym ticked.same.reads ∙ none);
  inside = inside_same region.size v.attempt.reads t.attempt.reads ticked.same.reads ready.inside;
}

-- the code's test is whether the tick decides
pub once_is : (v : Client) (logged : List ℕ) (n rv version : ℕ) → n ≡ length logged →
    logged ≡ addresses v.attempt.reads → v.attempt.rv ≡ rv → (eqb n 0 || eqb version (rv + 1)) ≡ is_at_once v version
once_is v logged n rv version e l r =
    let count : eqb n 0 ≡ is_empty v.attempt.reads = ap (λ (k : ℕ). eqb k 0) (e ∙ ap length l) ∙
    none_read v.attempt.reads in
    rw (count, r) refl

module _ (region : RegionShown) (tag : List ℕ) (writes : List (ℕ × ℕ)) (v t : Client) (version : ℕ)
    (ticked : HasTicked region tag writes v t version) (later : v.attempt.rv < version)
    (few : t.attempt.steps ≤ v.attempt.steps + 16) where
  pub decided_at_once : is_at_once v version ≡ true → IsDecided region tag writes v t version
  decided_at_once once = record {
    same = ticked.same;
    held = ticked.held;
    writing = ticked.writing;
    known = ticked.known;
    unstored = ticked.unstored;
    phase = ticked.phase ∙ ap (λ (b : Bool). cond b committed running) once;
    records = ticked.records ∙ ap (λ (b : Bool). cond b (inserted (ticked_record region tag v writes version) v.records)
        v.records) once;
    later = later;
    steps = omega (arith, few);
  }

  module _ (d : Client) (validated : HasValidated region t d) (not_once : is_at_once v version ≡ false) where
    reads_same : t.attempt.reads ≡ v.attempt.reads
    reads_same = ticked.same.reads

    attempt_same : t.attempt.number ≡ v.attempt.number
    attempt_same = ticked.same.number

    old_records : t.records ≡ v.records
    old_records = ticked.records ∙ ap (λ (b : Bool). cond b (inserted
        (ticked_record region tag v writes version) v.records) v.records) not_once

    same_record : ticked_record region t.attempt.tag t t.attempt.writes t.attempt.wv ≡ ticked_record region tag v writes
        version
    same_record = rw (ticked.tagged, ticked.writing, ticked.versioned, reads_same, attempt_same) refl

    pub decided_after_validation : IsDecided region tag writes v d version
    decided_after_validation = record {
      same = same_on v t d ticked.same validated.same;
      held = validated.held ∙ ticked.held;
      writing = validated.writing ∙ ticked.writing;
      known = validated.known ∙ ticked.known;
      unstored = validated.unstored;
      phase = validated.phase;
      records = validated.records ∙ ap (λ (r : Record). inserted r t.records) same_record ∙
          ap (inserted (ticked_record region tag v writes version)) old_records;
      later = later;
      steps = let n : length t.attempt.reads ≡ length v.attempt.reads = ap length reads_same in
          omega (arith, few, validated.steps, n);
    }

-- the record of an attempt that has this tag, these writes and this version
recorded : (region : RegionShown) (tag : List ℕ) (writes : List (ℕ × ℕ)) (v d : Client) (version : ℕ) →
    IsSameAttempt v d → d.attempt.tag ≡ tag → d.attempt.writes ≡ writes → d.attempt.wv ≡ version →
    d.attempt.ticked_at ≡ 0 →
    writer_record (unplaced region.renewal) d.attempt ≡ ticked_record region tag v writes version
recorded region tag writes v d version same e f g h = let a = same.reads in let b = same.number in
    λ i. record {
      tag = e i;
      reads = a i;
      writes = f i;
      writer = true;
      version = g i;
      attempt = b i;
      renewal = region.renewal;
      point = h i;
      client = 0;
    }

-- the deciding step made it: the tick, or the last validation
pub made_by_tick : (fits : List ℕ → Type 0) (lawful : RecordLaw) (region : RegionShown) (tag : List ℕ)
    (writes : List (ℕ × ℕ)) (v t : Client) (version : ℕ) → HasTicked region tag writes v t version → decided t ≡ true →
    Decides fits lawful region t →
    DecidesWith fits lawful region (ticked_record region tag v writes version) t
made_by_tick fits lawful region tag writes v t version ticked is k = (
  k,
  k.writer is ∙ recorded region tag writes v t version ticked.same ticked.tagged ticked.writing ticked.versioned
      ticked.unplaced,
)

pub made_by_validation : (fits : List ℕ → Type 0) (lawful : RecordLaw) (region : RegionShown) (tag : List ℕ)
    (writes : List (ℕ × ℕ)) (v t d : Client) (version : ℕ) → HasTicked region tag writes v t version →
    HasValidated region t d → Decides fits lawful region d →
    DecidesWith fits lawful region (ticked_record region tag v writes version) d
made_by_validation fits lawful region tag writes v t d version ticked validated k = (
  k,
  k.writer (ap is_committed validated.phase) ∙ recorded region tag writes v d version
      (same_on v t d ticked.same validated.same) (validated.tagged ∙ ticked.tagged)
      (validated.writing ∙ ticked.writing) (validated.versioned ∙ ticked.versioned)
      (validated.unplaced ∙ ticked.unplaced),
)

-- or the finish
pub made_by_finish : (fits : List ℕ → Type 0) (lawful : RecordLaw) (region : RegionShown) (tag : List ℕ) (found : ℕ)
    (v u : Client) → DecidesAt fits lawful region (finish tag) found v u →
    DecidesWith fits lawful region (reader_record (unplaced region.renewal) tag v.attempt) u
made_by_finish fits lawful region tag found v u k =
    let s = unplaced region.renewal in
    let made : Record = k.0.made in
    let by : decision s (finish tag) found v ≡ made ∷ [] = subst
    (λ (x : Client). decision s (finish tag) found x ≡ made ∷ []) k.3
    (subst (λ (n : ℕ). decision s (finish tag) n k.0.was ≡ made ∷ []) k.2
    (subst (λ (e : Action). decision s e k.0.word k.0.was ≡ made ∷ []) k.1 k.0.decided_by)) in
    (k.0, sym (some-injective (reader_record s tag v.attempt) made (ap (λ (rs : List Record). get_elem? rs 0) by)))

pub finished_by : (fits : List ℕ → Type 0) (lawful : RecordLaw) (region : RegionShown) (tag : List ℕ)
    (writes : List (ℕ × ℕ)) (found version : ℕ) (v u w : Client) → writes ≡ [] →
    DecidesAt fits lawful region (finish tag) found v u → w ≡ u →
    WasDecided fits lawful region (commit_record region tag v writes version) w
finished_by fits lawful region tag writes found version v u w none k e =
    let d = made_by_finish fits lawful region tag found v u k in
    subst (λ (ps : List (ℕ × ℕ)). WasDecided fits lawful region (commit_record region tag v ps version) w) (sym none)
    (record { then = u; same = ap settling e; decides = d.0; made = d.1 })

-- whether a ticked attempt is decided
pub decided_so : (region : RegionShown) (tag : List ℕ) (writes : List (ℕ × ℕ)) (v t : Client) (version : ℕ) →
    HasTicked region tag writes v t version → is_at_once v version ≡ true → decided t ≡ true
decided_so region tag writes v t version ticked once = ap is_committed
    (ticked.phase ∙ ap (λ (b : Bool). cond b committed running) once)

pub not_decided : {A : Type 0} (region : RegionShown) (tag : List ℕ) (writes : List (ℕ × ℕ)) (v t : Client)
    (version : ℕ) → HasTicked region tag writes v t version → is_at_once v version ≡ false → decided t ≡ true → A
not_decided region tag writes v t version ticked later is =
    let still : decided t ≡ false = ap is_committed (ticked.phase ∙ ap (λ (b : Bool). cond b committed running) later)
    in cc

-- the tick was not won
pub failed_ticking : (region : RegionShown) (log : LogValue) (stop : Stop) (v t : Client) →
    HasFailedTicking region log stop v t → t.attempt.steps ≤ v.attempt.steps + 16 →
    HasFailedDeciding region log stop v t
failed_ticking region log stop v t lost few = record {
  same = lost.failed.same;
  records = lost.failed.records;
  held = lost.failed.held;
  floor = let same = lost.failed.floor in omega (arith, same);
  able = lost.failed.able;
  shown = lost.shown;
  counted = lost.counted;
  steps = omega (arith, few);
}

-- the tick was won, and then a read was not valid
pub failed_validating : (region : RegionShown) (tag : List ℕ) (writes : List (ℕ × ℕ)) (log : LogValue) (c : Conflict)
    (v t d : Client) (rv version : ℕ) → HasTicked region tag writes v t version → v.floor ≡ rv → rv < version →
    is_at_once v version ≡ false → t.attempt.steps ≤ v.attempt.steps + 16 →
    HasFailedValidating t d → IsCommitConflict (stripe_of region.stripes) log c d →
    HasFailedDeciding region log (Conflicting c) v d
failed_validating region tag writes log c v t d rv version ticked known less later few failed shown = record {
  same = same_on v t d ticked.same failed.same;
  records = failed.records ∙ ticked.records ∙ ap (λ (b : Bool). cond b
      (inserted (ticked_record region tag v writes version) v.records) v.records) later;
  held = failed.held ∙ ticked.held;
  floor = let a = failed.floor in let b = ticked.known in omega (arith, a, b, known, less);
  able = failed.able;
  shown = shown;
  counted = tt;
  steps = let n : length t.attempt.reads ≡ length v.attempt.reads = ap length ticked.same.reads in let up =
      failed.steps in omega (arith, few, up, n);
}

-- no lock was taken yet
pub climbing_none : (v : Client) (taken : ℕ) (rest all : List ℕ) → v.attempt.held ≡ [] → taken ≡ 0 → rest ≡ all →
    IsClimbing v v taken rest all
climbing_none v taken rest all none zero_taken e = record {
  same = refl;
  stored = refl;
  held = ap (λ (held : List (ℕ × ℕ)). addresses held ++ rest) none ∙ e;
  count = zero_taken ∙ sym (ap (λ (held : List (ℕ × ℕ)). length (addresses held)) none);
  won = λ some. absurd (omega (arith, some, zero_taken));
  steps = omega (arith, zero_taken);
}

module _ (v w d : Client) (taken : ℕ) (left all : List ℕ) (climbing : IsClimbing v w taken left all) where
  -- one lock more
  pub climbing_on : (k : ℕ) (rest : List ℕ) → left ≡ k ∷ rest → HasTaken w d k → IsClimbing v d (taken + 1) rest all
  climbing_on k rest next more = record {
    same = more.same ∙ climbing.same;
    stored = more.stored ∙ climbing.stored;
    held = ap (λ (xs : List ℕ). xs ++ rest) more.held ∙ append_assoc (addresses w.attempt.held) (k ∷ []) rest ∙
        ap (λ (xs : List ℕ). addresses w.attempt.held ++ xs) (sym next) ∙ climbing.held;
    count = let a = climbing.count in let b : length (addresses d.attempt.held) ≡ length
        (addresses w.attempt.held ++ k ∷ []) = ap length more.held in let n =
        length-append (addresses w.attempt.held) (k ∷ []) in omega (arith, a, b, n);
    won = λ _. more.won;
    steps = let a = climbing.steps in let b = more.steps in omega (arith, a, b);
  }

  -- the next lock was not taken
  pub failed_climbing : HasFailed w d → d.attempt.steps ≤ w.attempt.steps + 2 → HasFailedLocking v d taken
  failed_climbing failed few = record {
    same = same_on v w d (same_attempt v w (ap apart climbing.same)) failed.same;
    records = failed.records ∙ ap (λ (x : Client). x.records) climbing.same;
    floor = failed.floor ∙ ap (λ (x : Client). x.floor) climbing.same;
    able = failed.able;
    unversioned = failed.unversioned;
    steps = let a = climbing.steps in omega (arith, a, few);
  }

no_length : {A : Type 0} (xs : List A) → length xs ≡ 0 → xs ≡ []
no_length [] e = refl
no_length (x ∷ xs) e = absurd (omega (arith, e))

-- an empty map has no entries, and only that
pub no_pairs : (w : LogValue) → len w.words ≡ 0 → log_pairs w ≡ []
no_pairs w e = no_length (log_pairs w) (sym (len-entries w.words) ∙ e)

pub some_pairs : (w : LogValue) → len w.words ≢ 0 → log_pairs w ≢ []
some_pairs w some e = some (len-entries w.words ∙ ap length e)

pub ok_of : {X E : Type 0} (r : Result X E) (P : X → Type 0) → is_ok r ≡ true → IfOk r P → (x : X) × (r ≡ Ok x) × P x
ok_of (Ok x) P is holds = (x, refl, holds)
ok_of (Err e) P is holds = cc

pub err_of : {X E : Type 0} (r : Result X E) (P : E → Type 0) → is_ok r ≡ false → IfErr r P → (e : E) × P e
err_of (Ok x) P is holds = cc
err_of (Err e) P is holds = (e, holds)

pub map_ok : {X E : Type 0} (r : Result X E) (P Q : X → Type 0) → ((x : X) → P x → Q x) → IfOk r P → IfOk r Q
map_ok (Ok x) P Q f holds = f x holds
map_ok (Err e) P Q f holds = tt

pub map_err : {X E : Type 0} (r : Result X E) (P Q : E → Type 0) → ((e : E) → P e → Q e) → IfErr r P → IfErr r Q
map_err (Ok x) P Q f holds = tt
map_err (Err e) P Q f holds = f e holds

-- an error that is handed on as it is
pub handed_on : {X E : Type 0} (r : Result X E) (e : E) (P : E → Type 0) → IsErrAnd r (λ f. f ≡ e) → P e → IfErr r P
handed_on (Ok x) e P is holds = tt
handed_on (Err f) e P is holds = subst P (sym is) holds

-- and answers nothing
pub nothing_answered : {X E : Type 0} (r : Result X E) (e : E) (P : X → Type 0) → IsErrAnd r (λ f. f ≡ e) → IfOk r P
nothing_answered (Ok x) e P is = absurd is
nothing_answered (Err f) e P is = tt

pub result_handed_on : (region : RegionShown) (v : Client) (r : Result ℕ Stop) (stop : Stop) → IsErrAnd r
    (λ s. s ≡ stop) → IsCommitResult region v (Err stop) → IsCommitResult region v r
result_handed_on region v (Ok x) stop is holds = absurd is
result_handed_on region v (Err s) stop is holds =
    subst (λ (s : Stop). IsCommitResult region v (Err s)) (sym is) holds

-- it may return to an attempt what it may return to one that has taken its locks
pub result_on : (region : RegionShown) (v l : Client) (r : Result ℕ Stop) → settling l ≡ settling v →
    IsCommitResult region l r → IsCommitResult region v r
result_on region v l r e result = record {
  range = result.range;
  next = λ lone. subst (λ (rv : ℕ). MatchResult r (λ version. version ≤ rv + 1) (λ _. rv ≡ region.last))
      (ap (λ (x : Client). x.attempt.rv) e) (result.next (ap (λ (x : Client). x.attempt.lone) e ∙ lone));
  lone = λ lone. result.lone (ap (λ (x : Client). x.attempt.lone) e ∙ lone);
}

-- no conflict was met
pub met_none : {A : Type 0} (s : Option Conflict) (conflict : Conflict) → s ≡ Some conflict → s ≡ None → A
met_none (Some d) conflict is e = cc
met_none None conflict is e = cc

-- what may be returned where the client is not alone
pub not_lone : (region : RegionShown) (v : Client) (r : Result ℕ Stop) → IfOk r (λ version. version ≤ region.last) →
    (v.attempt.lone ≡ true → ⊥) → IsCommitResult region v r
not_lone region v r low other = record {
  range = low;
  next = λ lone. absurd (other lone);
  lone = λ lone. absurd (other lone);
}

-- a refusal answers nothing, and an answer refuses nothing
pub none_answered : {X E : Type 0} (r : Result X E) (P : X → Type 0) → is_ok r ≡ false → IfOk r P
none_answered (Ok x) P is = cc
none_answered (Err e) P is = tt

pub none_refused : {X E : Type 0} (r : Result X E) (P : E → Type 0) → is_ok r ≡ true → IfErr r P
none_refused (Ok x) P is = tt
none_refused (Err e) P is = cc

pub not_answered : {X E : Type 0} (r : Result X E) (P : X → Type 0) → is_err r ≡ true → IfOk r P
not_answered (Ok x) P is = cc
not_answered (Err e) P is = tt

pub not_refused : {X E : Type 0} (r : Result X E) (P : E → Type 0) → is_err r ≡ false → IfErr r P
not_refused (Ok x) P is = tt
not_refused (Err e) P is = cc

pub err_not_ok : {X E A : Type 0} (r : Result X E) (e : E) → r ≡ Err e → is_ok r ≡ true → A
err_not_ok (Ok x) e same is = cc
err_not_ok (Err f) e same is = cc

record_of_writer : (region : RegionShown) (tag : List ℕ) (v : Client) (writes : List (ℕ × ℕ)) (version : ℕ) →
    writes ≢ [] → ticked_record region tag v writes version ≡ commit_record region tag v writes version
record_of_writer region tag v [] version some = absurd (some refl)
record_of_writer region tag v (p ∷ ps) version some = refl

version_of_writer : (v : Client) (writes : List (ℕ × ℕ)) (version : ℕ) → writes ≢ [] → v.attempt.rv < version →
    IsCommitVersion v writes version
version_of_writer v [] version some later = absurd (some refl)
version_of_writer v (p ∷ ps) version some later = later

short : (n : ℕ) (xs : List ℕ) → length (take n xs) ≤ length xs
short zero xs = omega arith
short (suc n) [] = omega arith
short (suc n) (x ∷ xs) = let l = short n xs in omega (arith, l)

-- the record of a commit, told of the client that has taken its locks
pub record_on : (region : RegionShown) (tag : List ℕ) (writes : List (ℕ × ℕ)) (v l : Client) (version : ℕ) →
    settling l ≡ settling v → writes ≢ [] → ticked_record region tag l writes version ≡ commit_record region tag v
    writes version
record_on region tag writes v l version locked some =
    let reads : l.attempt.reads ≡ v.attempt.reads = ap (λ (x : Client). x.attempt.reads) locked in
    let attempt : l.attempt.number ≡ v.attempt.number = ap (λ (x : Client). x.attempt.number) locked in
    let same : ticked_record region tag l writes version ≡ ticked_record region tag v writes version =
    rw (reads, attempt) refl in
    same ∙ record_of_writer region tag v writes version some

-- the first of the parts left the client as it was but for its locks
module _ (region : RegionShown) (tag : List ℕ) (writes : List (ℕ × ℕ)) (v l d e : Client) (version : ℕ)
    (locked : settling l ≡ settling v) (decided : IsDecided region tag writes l d version) (settled : HasSettled d e)
    (some : writes ≢ []) where
  record_same : ticked_record region tag l writes version ≡ commit_record region tag v writes version
  record_same = record_on region tag writes v l version locked some

  pub has_committed : HasCommitted region tag writes v e version
  has_committed = record {
    records = ap (λ (x : Client). x.records) settled.same ∙ decided.records ∙
        ap (λ (r : Record). inserted r l.records) record_same ∙
        ap (λ (x : Client). inserted (commit_record region tag v writes version) x.records) locked;
    versioned = version_of_writer v writes version some (subst (λ (n : ℕ). n < version)
        (ap (λ (x : Client). x.attempt.rv) locked) decided.later);
    known = ap (λ (x : Client). x.floor) settled.same ∙ decided.known;
    free = settled.free;
    settled = ap is_settled (ap (λ (x : Client). x.attempt.phase) settled.same ∙ decided.phase);
    same = same_on v l e (same_attempt v l (ap apart locked))
        (same_on l d e decided.same (same_attempt d e (ap apart settled.same)));
    steps = λ none. absurd (some none);
  }

  module _ (w : LogValue) (taken : ℕ) (pairs : writes ≡ log_pairs w) (addressed : SameAddresses w)
      (holds : addresses l.attempt.held ≡ take taken (log_locks w)) (all : taken ≡ length (log_locks w))
      (stepped : l.attempt.steps ≡ v.attempt.steps + 2 * taken) where
    pub steps_committed : e.attempt.steps ≤ v.attempt.steps + length v.attempt.reads + 4 * len w.words + MOST_TICKS
    steps_committed =
        let few = locks_few w addressed in
        let words : length d.attempt.writes ≡ len w.words = ap length (decided.writing ∙ pairs) ∙ count_pairs w in
        let locks : length d.attempt.held ≤ length (log_locks w) =
        subst (λ (n : ℕ). n ≤ length (log_locks w)) (sym (ap length holds) ∙ count_addresses l.attempt.held ∙
        ap length (sym decided.held)) (short taken (log_locks w)) in
        let reads : length l.attempt.reads ≡ length v.attempt.reads =
        ap (λ (x : Client). length x.attempt.reads) locked in
        omega (arith, few, words, locks, reads, settled.steps, decided.steps, stepped, all)

-- a conflict stays shown where locks are given back
lock_kept : (k : ℕ) (c : Conflict) (l g : Client) → returned g ≡ returned l → IsLockConflict k c l →
    IsLockConflict k c g
lock_kept k (Held lock word) l g e i = subst (λ (x : Client). IsLockConflict k (Held lock word) x) (sym e) i
lock_kept k (Newer lock version rv) l g e i = absurd i
lock_kept k (Moved lock first second) l g e i = absurd i
lock_kept k (LostLock lock found) l g e i = subst (λ (x : Client). IsLockConflict k (LostLock lock found) x) (sym e) i
lock_kept k (LostTick found) l g e i = absurd i

validate_kept : (k : ℕ) (c : Conflict) (l g : Client) → returned g ≡ returned l → IsValidateConflict k c l →
    IsValidateConflict k c g
validate_kept k (Held lock word) l g e i = subst (λ (x : Client). IsValidateConflict k (Held lock word) x) (sym e) i
validate_kept k (Newer lock version rv) l g e i = subst (λ (x : Client). IsValidateConflict k (Newer lock version rv) x)
    (sym e) i
validate_kept k (Moved lock first second) l g e i = absurd i
validate_kept k (LostLock lock found) l g e i = absurd i
validate_kept k (LostTick found) l g e i = absurd i

tick_kept : (c : Conflict) (l g : Client) → returned g ≡ returned l → IsTickConflict c l → IsTickConflict c g
tick_kept (Held lock word) l g e i = absurd i
tick_kept (Newer lock version rv) l g e i = absurd i
tick_kept (Moved lock first second) l g e i = absurd i
tick_kept (LostLock lock found) l g e i = absurd i
tick_kept (LostTick found) l g e i = subst (λ (x : Client). IsTickConflict (LostTick found) x) (sym e) i

conflict_kept : (lk : ℕ → ℕ) (log : LogValue) (c : Conflict) (l g : Client) → returned g ≡ returned l →
    IsCommitConflict lk log c l → IsCommitConflict lk log c g
conflict_kept lk log c l g e (inl (k, own, i)) = inl (k, own, lock_kept k c l g e i)
conflict_kept lk log c l g e (inr (inl (k, own, i))) = inr (inl (
  k,
  subst (λ (x : Client). IsReadLock lk x.attempt.reads k) (sym e) own,
  validate_kept k c l g e i,
))
conflict_kept lk log c l g e (inr (inr i)) = inr (inr (tick_kept c l g e i))

stop_kept : (region : RegionShown) (log : LogValue) (stop : Stop) (l g : Client) → returned g ≡ returned l →
    IsCommitStop region log stop l → IsCommitStop region log stop g
stop_kept region log Memory l g e i = absurd i
stop_kept region log (Conflicting c) l g e i = conflict_kept (stripe_of region.stripes) log c l g e i
stop_kept region log (Spent version) l g e i = (
  i.0,
  ap (λ (x : Client). x.attempt.next_from) e ∙ i.1,
  subst (λ (n : ℕ). n < MOST_TICKS) (sym (ap (λ (x : Client). x.attempt.ticks) e)) i.2,
  ⊎_elim
      (λ won. inl (won.0, won.1, ap (λ (x : Client). x.attempt.last) e ∙ won.2))
      (λ lost. inr (lost.0, ap (λ (x : Client). x.attempt.last) e ∙ lost.1, lost.2)) i.3,
)

-- the steps of a spent clock are counted on where so many locks are given back
counted_kept : (stop : Stop) (locks : ℕ) (v l f g : Client) → l.attempt.steps ≡ v.attempt.steps + 2 * locks →
    returned g ≡ returned f → g.attempt.steps ≡ f.attempt.steps + locks → IsCounted stop l.attempt.steps f →
    IsCounted stop (v.attempt.steps + 3 * locks) g
counted_kept Memory locks v l f g up back down i = tt
counted_kept (Conflicting c) locks v l f g up back down i = tt
counted_kept (Spent version) locks v l f g up back down i = let ticks : g.attempt.ticks ≡ f.attempt.ticks =
    ap (λ (x : Client). x.attempt.ticks) back in omega (arith, up, down, ticks, i)

gave_back_at : (stop : Stop) (g : Client) → g.attempt.gave_back ≡ true → GaveBack stop g
gave_back_at Memory g gave = tt
gave_back_at (Conflicting c) g gave = tt
gave_back_at (Spent version) g gave = gave

-- who writes needs a lock
some_first : (xs : List (ℕ × ℕ)) → xs ≢ [] → (p : ℕ × ℕ) × Among p xs
some_first [] some = absurd (some refl)
some_first (p ∷ ps) some = (p, inl refl)

some_among : (k : ℕ) (xs : List ℕ) → Among k xs → 0 < length xs
some_among k [] among = absurd among
some_among k (x ∷ xs) among = omega arith

lock_or : (o : Option ℕ) → (o ≡ None) ⊎ ((k : ℕ) × (o ≡ Some k))
lock_or None = inl refl
lock_or (Some k) = inr (k, refl)

pub some_locks : (w : LogValue) → len w.words ≢ 0 → SameAddresses w → 0 < length (log_locks w)
some_locks w some same =
    let first = some_first (log_pairs w) (some_pairs w some) in
    let a : ℕ = first.0.0 in
    let there : get w.words a ≡ Some first.0.1 = in_get w.words a first.0.1 first.1 in
    ⊎_elim (λ none. absurd (some_none first.0.1 (sym there ∙ (same a).1 none)))
    (λ p. some_among p.0 (log_locks w) (in_locks w a p.0 p.1)) (lock_or (get w.locks a))

-- a client that may give back locks has not decided its attempt
still_unsettled : (v : Client) → MayGiveBack v → is_settled v.attempt.phase ≡ false
still_unsettled v able = ⊎_elim (λ e. ap is_settled e) (λ e. ap is_settled e) able.1

module _ (region : RegionShown) (log : LogValue) (v l : Client) (some : log_pairs log ≢ []) where
  -- a lock was not taken, and all others were given back
  pub stopped_locking : (c : Conflict) (g : Client) (taken : ℕ) → HasFailedLocking v l taken →
      IsCommitConflict (stripe_of region.stripes) log c l → returned g ≡ returned l → MayGiveBack g →
      g.attempt.held ≡ [] → HasStopped region log (Conflicting c) v g
  stopped_locking c g taken failed shown back able free = record {
    written = some;
    shown = conflict_kept (stripe_of region.stripes) log c l g back shown;
    gave_back = tt;
    counted = tt;
    free = free;
    unsettled = still_unsettled g able;
    floor = let a : g.floor ≡ l.floor = ap (λ (x : Client). x.floor) back in omega (arith, a, failed.floor);
    same = same_on v l g failed.same (same_attempt l g (ap apart back));
    records = ap (λ (x : Client). x.records) back ∙ failed.records;
  }

  -- the attempt was not decided, and all locks were given back
  pub stopped_deciding : (stop : Stop) (f g : Client) → settling l ≡ settling v →
      l.attempt.steps ≡ v.attempt.steps + 2 * length (log_locks log) → HasFailedDeciding region log stop l f →
      returned g ≡ returned f → g.attempt.steps ≡ f.attempt.steps + length (log_locks log) →
      g.attempt.gave_back ≡ true → MayGiveBack g → g.attempt.held ≡ [] → HasStopped region log stop v g
  stopped_deciding stop f g locked up failed back down gave able free = record {
    gave_back = gave_back_at stop g gave;
    written = some;
    shown = stop_kept region log stop f g back failed.shown;
    counted = counted_kept stop (length (log_locks log)) v l f g up back down failed.counted;
    free = free;
    unsettled = still_unsettled g able;
    floor = let a : g.floor ≡ f.floor = ap (λ (x : Client). x.floor) back in let b : l.floor ≡ v.floor =
        ap (λ (x : Client). x.floor) locked in omega (arith, a, b, failed.floor);
    same = same_on v l g (same_attempt v l (ap apart locked))
        (same_on l f g failed.same (same_attempt f g (ap apart back)));
    records = ap (λ (x : Client). x.records) back ∙ failed.records ∙ ap (λ (x : Client). x.records) locked;
  }

-- an attempt that wrote nothing is finished as a reader
pub has_finished : (region : RegionShown) (tag : List ℕ) (writes : List (ℕ × ℕ)) (v e : Client) (rv found : ℕ) →
    writes ≡ [] → IsBegun v rv → e ≡ after (unplaced region.renewal) (stripe_of region.stripes) (finish tag) found v →
    HasCommitted region tag writes v e rv
has_finished region tag [] v e rv found none begun is = record {
  records = ap (λ (x : Client). x.records) is;
  versioned = sym begun.begun_at;
  known = ap (λ (x : Client). x.floor) is ∙ begun.known;
  free = ap (λ (x : Client). x.attempt.held) is ∙ begun.free;
  settled = ap (λ (x : Client). is_settled x.attempt.phase) is;
  same = same_attempt v e (ap apart is);
  steps = λ _. ap (λ (x : Client). x.attempt.steps) is;
}
has_finished region tag (p ∷ ps) v e rv found none begun is = cc
