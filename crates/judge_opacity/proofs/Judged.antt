-- What judging an attempt says of the verdict on it and those behind it.
use Rattle.std.proofs.Common.{◌≡◌, ℕ, ◌+◌, cond, List, ◌∷◌, length, map, Option, Some, None, Result, Ok, Err, refl, sym}
use Rattle.std.proofs.Common.{ap, ◌∙◌}
use Rattle.std.proofs.lemmas.List.{length-map}
use Rattle.vac_lines.specs.declared.fault.LineFault.{LineFault}
use Rattle.judge_object.specs.declared.span.Misplaced.{Misplaced}
use Rattle.judge_object.specs.Order.{itself, misplaced}
use Rattle.judge_object.specs.Keeping.{Keeps}
use Rattle.judge_object.proofs.Order.{misplaced_mapped}
use Rattle.judge_opacity.specs.declared.finding.AttemptViolation.{AttemptViolation}
use Rattle.judge_opacity.specs.declared.finding.AttemptViolation.TheVariants as violation
use Rattle.judge_opacity.specs.declared.finding.Finding.TheVariants.{Fault, Illegal}
use Rattle.judge_opacity.specs.declared.judge.Judge.{Judge}
use Rattle.judge_opacity.specs.Attempt.{Attempt, span_of_attempt}
use Rattle.judge_opacity.specs.Words.{words_after, left_by, wrong_read}
use Rattle.judge_opacity.specs.Covered.{image_of}
use Rattle.judge_opacity.specs.Verdict.{place_first, violation_of, unless_violation, judged_attempts}
use Rattle.judge_opacity.specs.Judging.{FollowsAttempts, JudgesAttempt, TakesAttempt, DecidesFinding}

some_none : (b : AttemptViolation) → Some b ≡ None → ⊥
some_none b e = cc

pub by_place : (earlier : List Attempt) (attempt : Attempt) (place : Option Misplaced) →
    misplaced itself (map span_of_attempt earlier) attempt.span ≡ place
    → violation_of earlier attempt ≡ place_first place (wrong_read (left_by earlier) attempt.accesses)
by_place earlier attempt place h =
    ap (λ p. place_first p (wrong_read (left_by earlier) attempt.accesses))
    (sym (misplaced_mapped span_of_attempt earlier attempt) ∙ h)

-- it does not stand in its place
pub judges_place : (words : ℕ) (after : Judge) (earlier : List Attempt) (attempt : Attempt) (wrong : Misplaced) →
    misplaced itself (map span_of_attempt earlier) attempt.span ≡ Some wrong
    → JudgesAttempt words after earlier attempt (Some (violation.Place wrong))
judges_place words after earlier attempt wrong h = record {
  found_is = by_place earlier attempt (Some wrong) h;
  taken = λ e. absurd (some_none (violation.Place wrong) e);
}

pub by_reads : (words : ℕ) (judge : Judge) (earlier : List Attempt) (attempt : Attempt)
    (found : Option AttemptViolation) →
    FollowsAttempts words judge earlier
    → misplaced itself (map span_of_attempt earlier) attempt.span ≡ None →
    wrong_read (image_of judge.memory.words.items) attempt.accesses ≡ found → violation_of earlier attempt ≡ found
by_reads words judge earlier attempt found f p h =
    by_place earlier attempt None p ∙ ap (λ m. wrong_read m attempt.accesses) (sym f.left) ∙ h

-- a read of it is wrong
pub judges_read : (words : ℕ) (judge after : Judge) (earlier : List Attempt) (attempt : Attempt)
    (found : AttemptViolation) →
    FollowsAttempts words judge earlier
    → misplaced itself (map span_of_attempt earlier) attempt.span ≡ None →
    wrong_read (image_of judge.memory.words.items) attempt.accesses ≡ Some found
    → JudgesAttempt words after earlier attempt (Some found)
judges_read words judge after earlier attempt found f p h = record {
  found_is = by_reads words judge earlier attempt (Some found) f p h;
  taken = λ e. absurd (some_none found e);
}

-- it is right and was taken
pub judges_taken : (words : ℕ) (judge next : Judge) (earlier : List Attempt) (attempt : Attempt) →
    FollowsAttempts words judge earlier
    → misplaced itself (map span_of_attempt earlier) attempt.span ≡ None →
    wrong_read (image_of judge.memory.words.items) attempt.accesses ≡ None
    → length next.memory.words.items ≡ length judge.memory.words.items
    → image_of next.memory.words.items ≡ cond attempt.commits
    (words_after (image_of judge.memory.words.items) attempt.accesses) (image_of judge.memory.words.items)
    → Keeps next.spans (attempt.span ∷ map span_of_attempt earlier) →
    next.committed ≡ cond attempt.commits (judge.committed + 1) judge.committed
    → JudgesAttempt words next earlier attempt None
judges_taken words judge next earlier attempt f p h l m k c = record {
  found_is = by_reads words judge earlier attempt None f p h;
  taken = λ e. record {
    size = l ∙ f.size;
    left = m ∙ ap (λ i. cond attempt.commits (words_after i attempt.accesses) i) f.left;
    spans = k;
    committed = c ∙ ap (λ i. cond attempt.commits (i + 1) i) f.committed;
  };
}

-- the number of the next line
number_is : (words : ℕ) (judge : Judge) (line : ℕ) (earlier : List Attempt) → line ≡ judge.spans.count + 1 →
    FollowsAttempts words judge earlier → length earlier + 1 ≡ line
number_is words judge line earlier n f =
    sym (n ∙ ap (λ k. k + 1) (f.spans.count_is ∙ length-map earlier span_of_attempt))

-- a line is no attempt
pub ends_fault : (judge : Judge) (read : ℕ → Result Attempt LineFault) (line : ℕ) (fault : LineFault)
    → ((words : ℕ) (earlier : List Attempt) → FollowsAttempts words judge earlier → read words ≡ Err fault) →
    line ≡ judge.spans.count + 1 → DecidesFinding judge read (Fault line fault)
ends_fault judge read line fault e n = record {
  on = λ words earlier f more.
      ap (λ l. judged_attempts earlier (l ∷ more)) (e words earlier f) ∙ ap (λ k. Fault k fault)
      (number_is words judge line earlier n f);
}

-- an attempt was judged
abbrev pub JudgesLine : Judge → Judge → (ℕ → Result Attempt LineFault) → Option AttemptViolation → Type 0
JudgesLine judge next read found = (words : ℕ) (earlier : List Attempt) → FollowsAttempts words judge earlier →
    (attempt : Attempt) × (read words ≡ Ok attempt) × JudgesAttempt words next earlier attempt found

pub ends_wrong : (judge next : Judge) (read : ℕ → Result Attempt LineFault) (line : ℕ) (found : AttemptViolation) →
    JudgesLine judge next read (Some found)
    → line ≡ judge.spans.count + 1 → DecidesFinding judge read (Illegal line found)
ends_wrong judge next read line found h n = record {
  on = λ words earlier f more.
      let j = h words earlier f in
      ap (λ l. judged_attempts earlier (l ∷ more)) j.1
      ∙ ap (λ b. unless_violation b (length earlier + 1) (judged_attempts (j.0 ∷ earlier) more)) j.2.found_is
      ∙ ap (λ k. Illegal k found) (number_is words judge line earlier n f);
}

pub takes_attempt : (judge next : Judge) (read : ℕ → Result Attempt LineFault) → JudgesLine judge next read None →
    TakesAttempt judge next read
takes_attempt judge next read h = record {
  on = λ words earlier f.
      let j = h words earlier f in (
        j.0 ∷ earlier,
        j.2.taken refl,
        λ more. ap (λ l. judged_attempts earlier (l ∷ more)) j.1
            ∙ ap (λ b. unless_violation b (length earlier + 1) (judged_attempts (j.0 ∷ earlier) more)) j.2.found_is,
      );
}
