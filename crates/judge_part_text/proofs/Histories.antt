-- The calls that were read of the first lines, and the lines that are left.
use Rattle.std.proofs.Common.{◌≡◌, ℕ, ◌+◌, Result, Ok, Err, List, [], ◌∷◌, ◌++◌, map, length, refl, sym, ap, ◌∙◌}
use Rattle.std.proofs.Common.{append_assoc, append-nil}
use Rattle.std.proofs.lemmas.List.{map-append, length-map}
use Rattle.vac_model.specs.declared.tasks.Task.{Task}
use Rattle.vac_lines.specs.Lines.{lines_of}
use Rattle.judge_object.specs.declared.line.Line.{Line}
use Rattle.judge_calls.specs.declared.fault.CallFault.{CallFault}
use Rattle.judge_calls.specs.Call.{Call, line_call}
use Rattle.judge_calls.specs.Laws.{Lists}
use Rattle.judge_reservations.specs.Lines.{call_of, calls_of}
use Rattle.judge_part_text.specs.Reading.{IsFirstDamaged}

-- these lines were read of a text, and this rest of it is left
abbrev pub HasReadTo : List ℕ → List (Line Task) → List ℕ → Type 0
HasReadTo text lines rest =
    map line_call (lines_of text) ≡ map Ok (calls_of lines) ++ map line_call (lines_of rest)

pub read_none : (text : List ℕ) (lines : List (Line Task)) → lines ≡ [] → HasReadTo text lines text
read_none text lines e = ap (λ (ls : List (Line Task)). map Ok (calls_of ls) ++ map line_call (lines_of text)) (sym e)

-- one line more is read, which is the first of those that are left
pub line_read : (text line : List ℕ) (lines after : List (Line Task)) (l : Line Task) (rest behind : List ℕ) →
    HasReadTo text lines rest → lines_of rest ≡ line ∷ lines_of behind → line_call line ≡ Ok (call_of l) →
    after ≡ lines ++ l ∷ [] → HasReadTo text after behind
line_read text line lines after l rest behind h cut call more =
    let calls = calls_of lines in
    let left = map line_call (lines_of behind) in
    h ∙ ap (λ ls. map Ok calls ++ map line_call ls) cut
    ∙ ap (λ c. map Ok calls ++ c ∷ left) call
    ∙ sym (append_assoc (map Ok calls) (Ok (call_of l) ∷ []) left)
    ∙ ap (λ cs. cs ++ left) (sym (map-append Ok calls (call_of l ∷ [])))
    ∙ ap (λ cs. map Ok cs ++ left) (sym (map-append call_of lines (l ∷ [])))
    ∙ ap (λ (ls : List (Line Task)). map Ok (calls_of ls) ++ left) (sym more)

pub line_damaged : (text line : List ℕ) (lines : List (Line Task)) (fault : CallFault) (number : ℕ)
    (rest behind : List ℕ) → HasReadTo text lines rest → lines_of rest ≡ line ∷ lines_of behind →
    line_call line ≡ Err fault → number ≡ length lines + 1 → IsFirstDamaged text number fault
line_damaged text line lines fault number rest behind h cut bad count = record {
  before = calls_of lines;
  rest = map line_call (lines_of behind);
  listed = h ∙ ap (λ ls. map Ok (calls_of lines) ++ map line_call ls) cut
      ∙ ap (λ c. map Ok (calls_of lines) ++ c ∷ map line_call (lines_of behind)) bad;
  number = count ∙ ap (λ n. n + 1) (sym (length-map lines call_of));
}

pub all_read : (text : List ℕ) (lines : List (Line Task)) (rest : List ℕ) → HasReadTo text lines rest →
    lines_of rest ≡ [] → Lists text (calls_of lines)
all_read text lines rest h e =
    h ∙ ap (λ ls. map Ok (calls_of lines) ++ map line_call ls) e ∙ append-nil (map Ok (calls_of lines))

-- the calls of a text are determined
pub same_calls : (xs ys : List Call) → ◌≡◌ {A = List (Result Call CallFault)} (map Ok xs) (map Ok ys) → xs ≡ ys
same_calls [] [] e = refl
same_calls [] (y ∷ ys) e = absurd (none e)
  where
    none : ◌≡◌ {A = List (Result Call CallFault)} [] (Ok y ∷ map Ok ys) → ⊥
    none e = cc
same_calls (x ∷ xs) [] e = absurd (none e)
  where
    none : ◌≡◌ {A = List (Result Call CallFault)} (Ok x ∷ map Ok xs) [] → ⊥
    none e = cc
same_calls (x ∷ xs) (y ∷ ys) e =
    let two = parts (Ok x) (Ok y) (map Ok xs) (map Ok ys) e in
    ap (λ c. c ∷ xs) (one two.0) ∙ ap (λ cs. y ∷ cs) (same_calls xs ys two.1)
  where
    parts : (a b : Result Call CallFault) (xs ys : List (Result Call CallFault)) → a ∷ xs ≡ b ∷ ys →
        (a ≡ b) × (xs ≡ ys)
    parts a b xs ys e = (cc, cc)

    one : ◌≡◌ {A = Result Call CallFault} (Ok x) (Ok y) → x ≡ y
    one e = cc
