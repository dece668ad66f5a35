-- The validation of a commit, one lock after the other.
use Rattle.std.proofs.Common.{◌≡◌, inr, refl, sym, ap, ◌∙◌, ℕ, zero, suc, ◌+◌, ◌<◌, Bool, true, false, cond, eqb}
use Rattle.std.proofs.Common.{eqb-true, List, [], ◌∷◌, length, slice_index, arith}
use Rattle.std.proofs.lemmas.Bool.{eqb-false}
use Rattle.std.proofs.lemmas.List.{length-map}
use mathlib.Core.Option.{some}
use lib.ListN.{get_elem?}
use Rattle.stm_core.specs.Client.{Client, Record, running, validated, inserted, writes_to, RecordLaw}
use Rattle.stm_core.specs.Event.{Bounds, validate, committed_by, stepping, marking, counting, forgetting}
use Rattle.stm_region.specs.Shown.{RegionShown, unplaced}
use Rattle.stm_attempt.specs.Begun.{addresses, address_of, AreInside}
use Rattle.stm_attempt.specs.Committing.{ticked_record}
use Rattle.stm_attempt.specs.CommitParts.{HasFailedValidating, HasValidated}
use Rattle.stm_attempt.proofs.Named.{apart, same_attempt}
use Rattle.stm_attempt.specs.Conflicts.{IsReadLock}
use Rattle.stm_attempt.specs.Validating.{HasValidatedLock}
use Rattle.stm_attempt.proofs.ValidateOne.{by_validate}
use Rattle.stm_core.proofs.Conditions.{may_act_so}
use Rattle.stm_core.specs.Guards.{May, stripe_of}

-- the client's value without what the validation of a lock changes that passes
abbrev pub unvalidated : Client → Client
unvalidated v = record v {
  records = [];
  attempt = record (forgetting v.attempt) {
    phase = running;
    passed = 0;
    stored = [];
    steps = 0;
  };
}

-- the record of an attempt, for a tick at this place
abbrev pub recorded : RegionShown → Client → ℕ → Record
recorded region v place = record (ticked_record region v.attempt.tag v v.attempt.writes v.attempt.wv) { point = place }

-- so many locks were validated, and all passed; the last of all decided the attempt
pub record IsValidating (region : RegionShown) (v v' : Client) (count : ℕ) : Type 0 where
  pub same : unvalidated v' ≡ unvalidated v
  pub passed : v'.attempt.passed ≡ count
  pub steps : v'.attempt.steps ≡ v.attempt.steps + count
  pub runs : count < length v.attempt.reads → (v'.attempt.phase ≡ running) × (v'.records ≡ v.records)
  pub done : count ≡ length v.attempt.reads → HasValidated region v v'

pub next_less : (log : List ℕ) (reads : List (ℕ × ℕ)) (i : ℕ) → log ≡ addresses reads → i < length log →
    i < length reads
next_less log reads i logged less = omega (arith, ap length logged, length-map reads address_of)

pub address_at : (log : List ℕ) (reads : List (ℕ × ℕ)) (i a : ℕ) → log ≡ addresses reads → a ≡ slice_index log i →
    a ≡ slice_index (addresses reads) i
address_at log reads i a logged at = at ∙ ap (λ (l : List ℕ). slice_index l i) logged

-- the read at a place, with its address
pub read_at : (reads : List (ℕ × ℕ)) (i : ℕ) → i < length reads →
    (x : ℕ) × (get_elem? reads i ≡ some (slice_index (addresses reads) i, x))
read_at [] i l = absurd (omega arith)
read_at (p ∷ ps) zero l = (p.1, refl)
read_at (p ∷ ps) (suc i) l = read_at ps i (omega arith)

pub read_inside : (size : ℕ) (reads : List (ℕ × ℕ)) (i : ℕ) → AreInside size reads → i < length reads →
    slice_index (addresses reads) i < size
read_inside size reads i inside l = let at = read_at reads i l in
    inside (slice_index (addresses reads) i) at.0 (i, at.1)

module _ (region : RegionShown) (v w : Client) (count : ℕ) (validating : IsValidating region v w count)
    (less : count < length v.attempt.reads) where
  -- the next lock may be validated
  pub may_validate_next : (lawful : RecordLaw) (lk : ℕ → ℕ) (b : Bounds) → v.is_gathered ≡ false → 0 < v.attempt.wv →
      (a k : ℕ) → a ≡ slice_index (addresses v.attempt.reads) count → k ≡ lk a → May lawful lk b (validate k) w
  may_validate_next lawful lk b out versioned a k address lock =
      let at = read_at v.attempt.reads count less in
      let here : get_elem? w.attempt.reads w.attempt.passed ≡ some (a, at.0) =
      ap (λ (x : Client). get_elem? x.attempt.reads w.attempt.passed) validating.same ∙
      ap (get_elem? v.attempt.reads) validating.passed ∙ at.1 ∙ ap (λ (n : ℕ). some (n, at.0)) (sym address) in
      let version : w.attempt.wv ≡ v.attempt.wv = ap (λ (x : Client). x.attempt.wv) validating.same in (
        ap (λ (x : Client). x.is_gathered) validating.same ∙ out,
        may_act_so lk lawful b w.attempt (validate k) (
          (validating.runs less).0,
          omega (arith, version),
          (a, at.0, here, sym lock),
        ),
      )

  -- one lock more passed, by whether it was the last of all
  validated_by : (d : Bool) (w' : Client) (lock word : ℕ) → w' ≡ marking (writes_to w.attempt.held lock)
      (stepping (validated lock word) (let x = counting w in cond d (committed_by (unplaced region.renewal) x) x)) →
      eqb (count + 1) (length v.attempt.reads) ≡ d → v.attempt.ticked_at ≡ 0 → IsValidating region v w' (count + 1)
  validated_by true w' lock word stepped last at_zero =
      let all : count + 1 ≡ length v.attempt.reads = eqb-true (count + 1) (length v.attempt.reads) last in
      let records_were : w.records ≡ v.records = (validating.runs less).1 in
      let steps : w'.attempt.steps ≡ w.attempt.steps + 1 = ap (λ (x : Client). x.attempt.steps) stepped in
      record {
        same = ap unvalidated stepped ∙ validating.same;
        passed = ap (λ (x : Client). x.attempt.passed) stepped ∙ ap (λ (n : ℕ). n + 1) validating.passed;
        steps = omega (arith, validating.steps);
        runs = λ l. absurd (omega arith);
        done = λ _. record {
          same = same_attempt v w' (ap apart stepped ∙ ap apart validating.same);
          held = ap (λ (x : Client). x.attempt.held) stepped ∙ ap (λ (x : Client). x.attempt.held) validating.same;
          versioned = ap (λ (x : Client). x.attempt.wv) stepped ∙ ap (λ (x : Client). x.attempt.wv) validating.same;
          tagged = ap (λ (x : Client). x.attempt.tag) stepped ∙ ap (λ (x : Client). x.attempt.tag) validating.same;
          writing = ap (λ (x : Client). x.attempt.writes) stepped ∙
              ap (λ (x : Client). x.attempt.writes) validating.same;
          unplaced = ap (λ (x : Client). x.attempt.ticked_at) stepped ∙
              ap (λ (x : Client). x.attempt.ticked_at) validating.same;
          known = ap (λ (x : Client). x.floor) stepped ∙ ap (λ (x : Client). x.floor) validating.same;
          unstored = ap (λ (x : Client). x.attempt.stored) stepped;
          phase = ap (λ (x : Client). x.attempt.phase) stepped;
          records = ap (λ (x : Client). x.records) stepped ∙
              ap (λ (x : Client). inserted (recorded region x x.attempt.ticked_at) w.records) validating.same ∙
              ap (λ (n : ℕ). inserted (recorded region v n) w.records) at_zero ∙
              ap (inserted (recorded region v 0)) records_were;
          steps = omega (arith, validating.steps);
        };
      }
  validated_by false w' lock word stepped more at_zero =
      let some_left : (count + 1 ≡ length v.attempt.reads) → ⊥ = eqb-false (count + 1) (length v.attempt.reads) more in
      let steps : w'.attempt.steps ≡ w.attempt.steps + 1 = ap (λ (x : Client). x.attempt.steps) stepped in
      record {
        same = ap unvalidated stepped ∙ validating.same;
        passed = ap (λ (x : Client). x.attempt.passed) stepped ∙ ap (λ (n : ℕ). n + 1) validating.passed;
        steps = omega (arith, validating.steps);
        runs = λ _. (
          ap (λ (x : Client). x.attempt.phase) stepped ∙ (validating.runs less).0,
          ap (λ (x : Client). x.records) stepped ∙ (validating.runs less).1,
        );
        done = λ all. absurd (some_left all);
      }

  pub validated_on : (lock : ℕ) (w' : Client) → HasValidatedLock region lock true w w' → v.attempt.ticked_at ≡ 0 →
      IsValidating region v w' (count + 1)
  validated_on lock w' step at_zero =
      let test : eqb (w.attempt.passed + 1) (length w.attempt.reads) ≡ eqb (count + 1) (length v.attempt.reads) =
      ap (λ (x : Client). eqb (w.attempt.passed + 1) (length x.attempt.reads)) validating.same ∙
      ap (λ (n : ℕ). eqb (n + 1) (length v.attempt.reads)) validating.passed in
      validated_by (eqb (w.attempt.passed + 1) (length w.attempt.reads)) w' lock step.0
      (by_validate region lock true w w' step) (sym test) at_zero

  -- the lock that failed was that of a read
  pub validated_read : (a k : ℕ) → a ≡ slice_index (addresses v.attempt.reads) count → k ≡ stripe_of region.stripes a →
      (w' : Client) → HasValidatedLock region k false w w' → IsReadLock (stripe_of region.stripes) w'.attempt.reads k
  validated_read a k address lock w' step =
      let at = read_at v.attempt.reads count less in
      let same : w'.attempt.reads ≡ v.attempt.reads = ap (λ (x : Client). x.attempt.reads)
      (by_validate region k false w w' step) ∙ ap (λ (x : Client). x.attempt.reads) validating.same in (
        a,
        at.0,
        (
          count,
          ap (λ (rs : List (ℕ × ℕ)). get_elem? rs count) same ∙ at.1 ∙ ap (λ (n : ℕ). some (n, at.0))
              (sym address),
        ),
        lock,
      )

  -- a lock that did not pass leaves the attempt to give back what it holds
  pub failed_lock : (lock : ℕ) (w' : Client) → HasValidatedLock region lock false w w' → v.is_gathered ≡ false →
      HasFailedValidating v w'
  failed_lock lock w' step out =
      let stepped = by_validate region lock false w w' step in record {
        same = same_attempt v w' (ap apart stepped ∙ ap apart validating.same);
        records = ap (λ (x : Client). x.records) stepped ∙ (validating.runs less).1;
        held = ap (λ (x : Client). x.attempt.held) stepped ∙ ap (λ (x : Client). x.attempt.held) validating.same;
        floor = ap (λ (x : Client). x.floor) stepped ∙ ap (λ (x : Client). x.floor) validating.same;
        able = (
          ap (λ (x : Client). x.is_gathered) stepped ∙ ap (λ (x : Client). x.is_gathered) validating.same ∙ out,
          inr (ap (λ (x : Client). x.attempt.phase) stepped),
        );
        steps = let s : w'.attempt.steps ≡ w.attempt.steps + 1 = ap (λ (x : Client). x.attempt.steps) stepped in
            omega (arith, validating.steps, less);
      }
