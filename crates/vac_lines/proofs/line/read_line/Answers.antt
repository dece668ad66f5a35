use Rattle.std.proofs.Common.{◌≡◌, ◌≤◌, ◌<◌, ℕ, List, Bool, true, false, length, Err, if◌then◌else◌, nat_lt, ap, sym}
use Rattle.std.proofs.Common.{◌∙◌}
use Rattle.std.proofs.Common.{refl, lt-ltb, rules, arith, Bor}
use Rattle.std.specs.List.{list_any}
use Rattle.std.proofs.lemmas.Bool.{le-ltb}
use Rattle.std.proofs.lemmas.List.{length-map}
use Rattle.vac_lines.specs.declared.fault.LineFault.TheVariants.{LongLine, BadByte}
use Rattle.vac_lines.specs.Lines.{words_of, texts}
use Rattle.vac_lines.specs.LineTable.{words_task, line_task, is_bad_byte}
use Rattle.vac_lines.proofs.line.read_line.Goals as goal

first_case : {X : Type 0} (a b : Bool) (x y z : X) → a ≡ true → x ≡ (if a then x else (if b then y else z))
first_case a b x y z e = rw e refl

second_case : {X : Type 0} (a b : Bool) (x y z : X) → a ≡ false → b ≡ true →
    y ≡ (if a then x else (if b then y else z))
second_case a b x y z e f = rw (e, f) refl

third_case : {X : Type 0} (a b : Bool) (x y z : X) → a ≡ false → b ≡ false →
    z ≡ (if a then x else (if b then y else z))
third_case a b x y z e f = rw (e, f) refl

long_line : (line : List ℕ) → 1024 < length line → Err LongLine ≡ line_task line
long_line line h =
    first_case (nat_lt 1024 (length line)) (list_any is_bad_byte line) (Err LongLine) (Err BadByte)
    (words_task (words_of line)) (lt-ltb 1024 (length line) h)

bad_line : (line : List ℕ) → length line ≤ 1024 → list_any is_bad_byte line ≡ true → Err BadByte ≡ line_task line
bad_line line h e =
    second_case (nat_lt 1024 (length line)) (list_any is_bad_byte line) (Err LongLine) (Err BadByte)
    (words_task (words_of line)) (le-ltb 1024 (length line) h) e

good_line : (line : List ℕ) → length line ≤ 1024 → list_any is_bad_byte line ≡ false →
    words_task (words_of line) ≡ line_task line
good_line line h e =
    third_case (nat_lt 1024 (length line)) (list_any is_bad_byte line) (Err LongLine) (Err BadByte)
    (words_task (words_of line)) (le-ltb 1024 (length line) h) e

pub returns-then-line-gt-LINE_BYTES-clause-task : goal.returns-then-line-gt-LINE_BYTES-clause-task
returns-then-line-gt-LINE_BYTES-clause-task c = λ _. long_line c.args.line.now c.if-line-gt-LINE_BYTES.true

pub returns-then-line-gt-LINE_BYTES-clause-inline : goal.returns-then-line-gt-LINE_BYTES-clause-inline
returns-then-line-gt-LINE_BYTES-clause-inline c = λ _. long_line c.args.line.now c.if-line-gt-LINE_BYTES.true

pub returns-then-has_bad_byte-clause-task : goal.returns-then-has_bad_byte-clause-task
returns-then-has_bad_byte-clause-task c = λ _.
    bad_line c.args.line.now c.if-line-gt-LINE_BYTES.false (sym c.has_bad_byte.ensures ∙ c.if-has_bad_byte.true)

pub returns-then-has_bad_byte-clause-inline : goal.returns-then-has_bad_byte-clause-inline
returns-then-has_bad_byte-clause-inline c = λ _.
    bad_line c.args.line.now c.if-line-gt-LINE_BYTES.false (sym c.has_bad_byte.ensures ∙ c.if-has_bad_byte.true)

pub returns-clause-task : goal.returns-clause-task
returns-clause-task c = λ other.
    let same : texts c.as_slice.result.now ≡ words_of c.args.line.now = search rules in
    c.read_words.ensures.task other ∙ ap words_task same
    ∙ good_line c.args.line.now c.if-line-gt-LINE_BYTES.false (sym c.has_bad_byte.ensures ∙ c.if-has_bad_byte.false)

pub returns-clause-inline : goal.returns-clause-inline
returns-clause-inline c = λ few.
    let same : texts c.as_slice.result.now ≡ words_of c.args.line.now = search rules in
    let long = length-map c.as_slice.result.now (λ (w : Bor (List ℕ)). w.now) in
    c.read_words.ensures.inline (omega (arith, ap length same, long, few)) ∙ ap words_task same
    ∙ good_line c.args.line.now c.if-line-gt-LINE_BYTES.false (sym c.has_bad_byte.ensures ∙ c.if-has_bad_byte.false)
