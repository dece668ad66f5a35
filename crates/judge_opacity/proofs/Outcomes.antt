-- What a verdict on lines says of them.
use Rattle.std.proofs.Common.{◌≡◌, ℕ, ◌+◌, true, false, List, [], ◌∷◌, ◌++◌, length, map, Option, Some, None, Result}
use Rattle.std.proofs.Common.{Ok, Err, refl, sym, ap, ◌∙◌, subst, append_assoc, append-nil, add-zero}
use mathlib.Core.List.{reverse_aux}
use Rattle.std.proofs.Math.ListN.{length-reverse_aux}
use Rattle.vac_lines.specs.declared.fault.LineFault.{LineFault}
use Rattle.vac_lines.specs.Lines.{lines_of}
use Rattle.judge_opacity.specs.declared.finding.AttemptViolation.{AttemptViolation}
use Rattle.judge_opacity.specs.declared.finding.Counts.{Counts}
use Rattle.judge_opacity.specs.declared.finding.Finding.{Finding}
use Rattle.judge_opacity.specs.declared.finding.Finding.TheVariants.{Opaque, Fault, Illegal}
use Rattle.judge_opacity.specs.Attempt.{Attempt, line_attempt}
use Rattle.judge_opacity.specs.Verdict.{violation_of, counts_of, unless_violation, judged_attempts, finding_on}
use Rattle.judge_opacity.specs.Verdict.{is_opaque}
use Rattle.judge_opacity.specs.Laws.{IsOpaqueOrder, IsOpaqueText, OpaqueIsOpacity, OpaqueCounts}
use Rattle.judge_opacity.specs.Wrongs.{IsFirstWrongAttempt, IsFirstNoAttempt, IllegalIsFirstWrongAttempt}
use Rattle.judge_opacity.specs.Wrongs.{FaultIsFirstNoAttempt}
use Rattle.judge_opacity.proofs.Orders.{opaque_none, opaque_more, opaque_last, opaque_front, breach_is, is_breach}

-- lines as they are read
abbrev Lines : Type 0
Lines = List (Result Attempt LineFault)

back_more : (xs ys : List Attempt) (a : Attempt) → reverse_aux (xs ++ a ∷ []) ys ≡ a ∷ reverse_aux xs ys
back_more [] ys a = refl
back_more (x ∷ xs) ys a = back_more xs (x ∷ ys) a

back_long : (xs : List Attempt) → length (reverse_aux xs []) ≡ length xs
back_long xs = length-reverse_aux xs [] ∙ add-zero (length xs)

-- what is found behind attempts in an opaque order
data Outcome (before : List Attempt) (lines : Lines) (finding : Finding) : Type 0 where
  ended : (more : List Attempt) → lines ≡ map Ok more → IsOpaqueOrder (before ++ more) →
      finding ≡ Opaque (counts_of (reverse_aux (before ++ more) [])) → Outcome before lines finding
  faulty : (more : List Attempt) (fault : LineFault) (rest : Lines) → lines ≡ map Ok more ++ Err fault ∷ rest →
      IsOpaqueOrder (before ++ more)
      → finding ≡ Fault (length (before ++ more) + 1) fault → Outcome before lines finding
  wrong : (more : List Attempt) (a : Attempt) (found : AttemptViolation) (rest : Lines) →
      lines ≡ map Ok more ++ Ok a ∷ rest →
      IsOpaqueOrder (before ++ more)
      → violation_of (reverse_aux (before ++ more) []) a ≡ Some found →
      finding ≡ Illegal (length (before ++ more) + 1) found → Outcome before lines finding

-- one attempt more in front
outcome_later : (before : List Attempt) (a : Attempt) (lines : Lines) (finding : Finding) →
    Outcome (before ++ a ∷ []) lines finding → Outcome before (Ok a ∷ lines) finding
outcome_later before a lines finding (ended more e o f) =
    let same = append_assoc before (a ∷ []) more in
    ended (a ∷ more) (ap (λ t. Ok a ∷ t) e) (subst IsOpaqueOrder same o)
    (f ∙ ap (λ t. Opaque (counts_of (reverse_aux t []))) same)
outcome_later before a lines finding (faulty more fault rest e o f) =
    let same = append_assoc before (a ∷ []) more in
    faulty (a ∷ more) fault rest (ap (λ t. Ok a ∷ t) e) (subst IsOpaqueOrder same o)
    (f ∙ ap (λ t. Fault (length t + 1) fault) same)
outcome_later before a lines finding (wrong more x found rest e o b f) =
    let same = append_assoc before (a ∷ []) more in
    wrong (a ∷ more) x found rest (ap (λ t. Ok a ∷ t) e) (subst IsOpaqueOrder same o)
    (ap (λ t. violation_of (reverse_aux t []) x) (sym same) ∙ b)
    (f ∙ ap (λ t. Illegal (length t + 1) found) same)

outcome : (before : List Attempt) (lines : Lines) → IsOpaqueOrder before →
    Outcome before lines (judged_attempts (reverse_aux before []) lines)
outcome before [] o =
    let same = sym (append-nil before) in
    ended [] refl (subst IsOpaqueOrder same o) (ap (λ t. Opaque (counts_of (reverse_aux t []))) same)
outcome before (Err fault ∷ rest) o =
    let same = sym (append-nil before) in
    faulty [] fault rest refl (subst IsOpaqueOrder same o) (ap (λ n. Fault (n + 1) fault) (back_long before) ∙
    ap (λ t. Fault (length t + 1) fault) same)
outcome before (Ok a ∷ rest) o =
    decide (λ e. outcome (before ++ a ∷ []) rest (opaque_more before a o e))
    (violation_of (reverse_aux before []) a) refl
  where
    decide : (violation_of (reverse_aux before []) a ≡ None → Outcome (before ++ a ∷ []) rest
        (judged_attempts (reverse_aux (before ++ a ∷ []) []) rest))
        → (found : Option AttemptViolation) → violation_of (reverse_aux before []) a ≡ found →
        Outcome before (Ok a ∷ rest) (unless_violation found (length (reverse_aux before []) + 1)
        (judged_attempts (a ∷ reverse_aux before []) rest))
    decide next None e =
        outcome_later before a rest (judged_attempts (a ∷ reverse_aux before []) rest)
        (subst (λ t. Outcome (before ++ a ∷ []) rest (judged_attempts t rest)) (back_more before [] a) (next e))
    decide next (Some found) e =
        let same = sym (append-nil before) in
        wrong [] a found rest refl (subst IsOpaqueOrder same o)
        (ap (λ t. violation_of (reverse_aux t []) a) (sym same) ∙
        e)
        (ap (λ n. Illegal (n + 1) found) (back_long before) ∙ ap (λ t. Illegal (length t + 1) found) same)

-- lines of attempts in an opaque order are taken
taken : (before more : List Attempt) (rest : Lines) → IsOpaqueOrder (before ++ more) →
    judged_attempts (reverse_aux before []) (map Ok more ++ rest) ≡ judged_attempts
    (reverse_aux (before ++ more) []) rest
taken before [] rest o = ap (λ t. judged_attempts (reverse_aux t []) rest) (sym (append-nil before))
taken before (a ∷ more) rest o =
    let same = append_assoc before (a ∷ []) more in
    let all : IsOpaqueOrder ((before ++ a ∷ []) ++ more) = subst IsOpaqueOrder (sym same) o in
    let right = opaque_last before a (opaque_front (before ++ a ∷ []) more all) in
    ap (λ b. unless_violation b (length (reverse_aux before []) + 1)
    (judged_attempts (a ∷ reverse_aux before []) (map Ok more ++ rest))) right
    ∙ ap (λ t. judged_attempts t (map Ok more ++ rest)) (sym (back_more before [] a)) ∙
    taken (before ++ a ∷ []) more rest all ∙
    ap (λ t. judged_attempts (reverse_aux t []) rest) same

-- ---- the laws

false_true : false ≡ true → ⊥
false_true e = cc

fault_opaque : (line : ℕ) (fault : LineFault) (counts : Counts) → Opaque counts ≡ Fault line fault → ⊥
fault_opaque line fault counts e = cc

wrong_opaque : (line : ℕ) (found : AttemptViolation) (counts : Counts) → Opaque counts ≡ Illegal line found → ⊥
wrong_opaque line found counts e = cc

wrong_fault : (line k : ℕ) (found : AttemptViolation) (fault : LineFault) → Fault k fault ≡ Illegal line found → ⊥
wrong_fault line k found fault e = cc

same_fault : (k line : ℕ) (f g : LineFault) → Fault k f ≡ Fault line g → (k ≡ line) × (f ≡ g)
same_fault k line f g e = (cc, cc)

same_wrong : (k line : ℕ) (f g : AttemptViolation) → Illegal k f ≡ Illegal line g → (k ≡ line) × (f ≡ g)
same_wrong k line f g e = (cc, cc)

opaque_text : (words : ℕ) (bytes : List ℕ) → is_opaque (finding_on words bytes) ≡ true → IsOpaqueText words bytes
opaque_text words bytes h =
    elim (outcome [] (map (line_attempt words) (lines_of bytes)) opaque_none) [
      | ended more e o f ↦ record { attempts = more; listed = e; order = o }
      | faulty more fault rest e o f ↦ absurd (false_true (sym (ap is_opaque f) ∙ h))
      | wrong more a found rest e o b f ↦ absurd (false_true (sym (ap is_opaque f) ∙ h))
    ]

pub opaque_counts : OpaqueCounts
opaque_counts words bytes attempts listed o =
    ap (judged_attempts []) (listed ∙ sym (append-nil (map Ok attempts))) ∙ taken [] attempts [] o

text_opaque : (words : ℕ) (bytes : List ℕ) → IsOpaqueText words bytes → is_opaque (finding_on words bytes) ≡ true
text_opaque words bytes t = ap is_opaque (opaque_counts words bytes t.attempts t.listed t.order)

pub opaque_is_opacity : OpaqueIsOpacity
opaque_is_opacity words bytes = (opaque_text words bytes, text_opaque words bytes)

none_some : (found : AttemptViolation) → None ≡ Some found → ⊥
none_some found e = cc

first_wrong : (words : ℕ) (bytes : List ℕ) (line : ℕ) (found : AttemptViolation) →
    finding_on words bytes ≡ Illegal line found →
    IsFirstWrongAttempt words bytes line found
first_wrong words bytes line found h =
    elim (outcome [] (map (line_attempt words) (lines_of bytes)) opaque_none) [
      | ended more e o f ↦ absurd (wrong_opaque line found (counts_of (reverse_aux more [])) (sym f ∙ h))
      | faulty more fault rest e o f ↦ absurd (wrong_fault line (length more + 1) found fault (sym f ∙ h))
      | wrong more a other rest e o b f ↦
          let same = same_wrong (length more + 1) line other found (sym f ∙ h) in
          let is : violation_of (reverse_aux more []) a ≡ Some found = b ∙ ap Some same.1 in
          record {
            before = more;
            attempt = a;
            rest = rest;
            listed = e;
            number = sym same.0;
            opaque = o;
            illegal = λ all. none_some found (sym (opaque_last more a all) ∙ is);
            cause = breach_is more a found o is;
          }
    ]

wrong_first : (words : ℕ) (bytes : List ℕ) (line : ℕ) (found : AttemptViolation) →
    IsFirstWrongAttempt words bytes line found →
    finding_on words bytes ≡ Illegal line found
wrong_first words bytes line found w =
    ap (judged_attempts []) w.listed ∙ taken [] w.before (Ok w.attempt ∷ w.rest) w.opaque
    ∙ ap (λ b. unless_violation b (length (reverse_aux w.before []) + 1)
    (judged_attempts (w.attempt ∷ reverse_aux w.before []) w.rest))
    (is_breach w.before w.attempt found w.opaque w.cause)
    ∙ ap (λ n. Illegal (n + 1) found) (back_long w.before) ∙ ap (λ n. Illegal n found) (sym w.number)

pub illegal_is_first_wrong : IllegalIsFirstWrongAttempt
illegal_is_first_wrong words bytes line found = (first_wrong words bytes line found, wrong_first words bytes line found)

first_fault : (words : ℕ) (bytes : List ℕ) (line : ℕ) (fault : LineFault) → finding_on words bytes ≡ Fault line fault →
    IsFirstNoAttempt words bytes line fault
first_fault words bytes line fault h =
    elim (outcome [] (map (line_attempt words) (lines_of bytes)) opaque_none) [
      | ended more e o f ↦ absurd (fault_opaque line fault (counts_of (reverse_aux more [])) (sym f ∙ h))
      | faulty more other rest e o f ↦
          let same = same_fault (length more + 1) line other fault (sym f ∙ h) in
          record {
            before = more;
            rest = rest;
            listed = e ∙ ap (λ t. map Ok more ++ Err t ∷ rest) same.1;
            number = sym same.0;
            opaque = o;
          }
      | wrong more a found rest e o b f ↦ absurd (wrong_fault (length more + 1) line found fault (sym h ∙ f))
    ]

fault_first : (words : ℕ) (bytes : List ℕ) (line : ℕ) (fault : LineFault) → IsFirstNoAttempt words bytes line fault →
    finding_on words bytes ≡ Fault line fault
fault_first words bytes line fault w =
    ap (judged_attempts []) w.listed ∙ taken [] w.before (Err fault ∷ w.rest) w.opaque
    ∙ ap (λ n. Fault (n + 1) fault) (back_long w.before) ∙ ap (λ n. Fault n fault) (sym w.number)

pub fault_is_first : FaultIsFirstNoAttempt
fault_is_first words bytes line fault = (first_fault words bytes line fault, fault_first words bytes line fault)
