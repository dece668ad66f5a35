-- The words that the code keeps, and what was covered of them.
use Rattle.std.proofs.Common.{◌≡◌, ◌≢◌, ℕ, ◌<◌, ◌==◌, arith, inl, inr, cond, List, [], ◌∷◌, ◌++◌, length, Some, None}
use Rattle.std.proofs.Common.{refl, sym, ap, ◌∙◌, subst, get_or, slice_set}
use Rattle.std.proofs.Math.Path.{fun_ext}
use Rattle.std.proofs.lemmas.List.{set-get_or, get_or-set_same, get_or-set_other, set-set, length-set}
use Rattle.judge_object.proofs.Tests.{test}
use Rattle.judge_opacity.specs.declared.attempt.Access.{Access}
use Rattle.judge_opacity.specs.declared.attempt.Access.TheVariants.{Read, Write}
use Rattle.judge_opacity.specs.declared.finding.AttemptViolation.TheVariants as violation
use Rattle.judge_opacity.specs.declared.memory.Covered.{Covered}
use Rattle.judge_opacity.specs.Words.{image_with, words_after, wrong_read}
use Rattle.judge_opacity.specs.Covered.{image_of, uncovered}
use Rattle.judge_opacity.specs.Parts.{AllAmong}
use Rattle.judge_opacity.proofs.Legal.{unless_right, unless_wrong}

-- a word that is set
set_at : (words : List ℕ) (word value other : ℕ) → word < length words →
    get_or (slice_set words word value) other 0 ≡ cond (word == other) value (get_or words other 0)
set_at words word value other h =
    elim (test word other) [
      | inl t ↦ ap (λ o. get_or (slice_set words word value) o 0) (sym t.1) ∙ get_or-set_same words word value 0 h ∙
          sym (ap (λ b. cond b value (get_or words other 0)) t.0)
      | inr t ↦ get_or-set_other words word other value 0 (λ e. t.1 (sym e)) ∙
          sym (ap (λ b. cond b value (get_or words other 0)) t.0)
    ]

set_image : (words : List ℕ) (word value : ℕ) → word < length words →
    image_of (slice_set words word value) ≡ image_with (image_of words) word value
set_image words word value h = fun_ext (λ other. set_at words word value other h)

-- the last that was covered is given back first
pub uncover_last : (covered : List Covered) (last : Covered) (words : List ℕ) →
    uncovered (covered ++ last ∷ []) words ≡ uncovered covered (slice_set words last.word last.value)
uncover_last [] last words = refl
uncover_last (x ∷ xs) last words = ap (λ w. slice_set w x.word x.value) (uncover_last xs last words)

-- a write covers what was there
pub written : (covered covered' : List Covered) (words words' : List ℕ) (word value old : ℕ) →
    covered' ≡ covered ++ record { word = word; value = old } ∷ [] → old ≡ image_of words word
    → words' ≡ slice_set words word value → uncovered covered' words' ≡ uncovered covered words
written covered covered' words words' word value old c o w =
    ap (λ t. uncovered t words') c ∙ uncover_last covered (record { word = word; value = old }) words'
    ∙ ap (λ t. uncovered covered (slice_set t word old)) w ∙ ap (uncovered covered) (set-set words word value old)
    ∙ ap (λ v. uncovered covered (slice_set words word v)) o ∙ ap (uncovered covered) (set-get_or words word 0)

-- of an attempt this is still to be done
pub record RunTo (first words : List ℕ) (all rest : List Access) : Type 0 where
  pub found : wrong_read (image_of first) all ≡ wrong_read (image_of words) rest
  pub left : words_after (image_of first) all ≡ words_after (image_of words) rest
  pub size : length words ≡ length first
  pub among : AllAmong (length words) rest

pub run_first : (words : List ℕ) (all : List Access) → AllAmong (length words) all → RunTo words words all all
run_first words all h = record { found = refl; left = refl; size = refl; among = h }

-- a read that is right
pub run_read : (first words : List ℕ) (all rest behind : List Access) (x : Access) (word value : ℕ) →
    RunTo first words all rest → rest ≡ x ∷ behind → x ≡ Read word value
    → value ≡ image_of words word → RunTo first words all behind
run_read first words all rest behind x word value r e is same =
    let cut : rest ≡ Read word value ∷ behind = e ∙ ap (λ t. t ∷ behind) is in
    record {
      found = r.found ∙ ap (wrong_read (image_of words)) cut ∙ unless_right word value (image_of words word)
          (wrong_read (image_of words) behind) same;
      left = r.left ∙ ap (words_after (image_of words)) cut;
      size = r.size;
      among = (subst (AllAmong (length words)) cut r.among).1;
    }

-- a read that is wrong
pub run_wrong : (first words : List ℕ) (all rest behind : List Access) (x : Access) (word value expected : ℕ) →
    RunTo first words all rest → rest ≡ x ∷ behind → x ≡ Read word value
    → expected ≡ image_of words word → value ≢ expected → wrong_read (image_of first) all ≡ Some
    (violation.Read word expected)
run_wrong first words all rest behind x word value expected r e is at other =
    r.found ∙ ap (wrong_read (image_of words)) (e ∙ ap (λ t. t ∷ behind) is)
    ∙ unless_wrong word value (image_of words word) (wrong_read (image_of words) behind) (λ same. other (same ∙ sym at))
    ∙ ap (λ v. Some (violation.Read word v)) (sym at)

-- a write
pub run_write : (first words words' : List ℕ) (all rest behind : List Access) (x : Access) (word value : ℕ) →
    RunTo first words all rest → rest ≡ x ∷ behind → x ≡ Write word value
    → words' ≡ slice_set words word value → RunTo first words' all behind
run_write first words words' all rest behind x word value r e is w =
    let cut : rest ≡ Write word value ∷ behind = e ∙ ap (λ t. t ∷ behind) is in
    let among = subst (AllAmong (length words)) cut r.among in
    let image : image_with (image_of words) word value ≡ image_of words' =
    sym (ap image_of w ∙ set_image words word value among.0) in
    let long : length words ≡ length words' = sym (ap length w ∙ length-set words word value) in
    record {
      found = r.found ∙ ap (wrong_read (image_of words)) cut ∙ ap (λ m. wrong_read m behind) image;
      left = r.left ∙ ap (words_after (image_of words)) cut ∙ ap (λ m. words_after m behind) image;
      size = sym long ∙ r.size;
      among = subst (λ n. AllAmong n behind) long among.1;
    }

-- nothing is left to be done
pub run_end : (first words : List ℕ) (all rest : List Access) → RunTo first words all rest → rest ≡ [] →
    wrong_read (image_of first) all ≡ None
run_end first words all rest r e = r.found ∙ ap (wrong_read (image_of words)) e

pub run_left : (first words : List ℕ) (all rest : List Access) → RunTo first words all rest → rest ≡ [] →
    image_of words ≡ words_after (image_of first) all
run_left first words all rest r e = sym (r.left ∙ ap (words_after (image_of words)) e)

-- nothing is covered
pub nothing_covered : (covered : List Covered) (words : List ℕ) → length covered ≡ 0 → words ≡ uncovered covered words
nothing_covered [] words e = refl
nothing_covered (x ∷ xs) words e = absurd (omega arith)

pub no_accesses : (rest : List Access) → length rest ≡ 0 → rest ≡ []
no_accesses [] e = refl
no_accesses (x ∷ xs) e = absurd (omega arith)
