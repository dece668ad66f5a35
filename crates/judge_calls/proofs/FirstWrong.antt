-- A verdict that is not legal names the first line that is not right, and why it is not.
use Rattle.std.proofs.Common.{◌≡◌, ℕ, ◌+◌, suc, Bool, true, false, List, [], ◌∷◌, ◌++◌, length, map, Option, Some, None}
use Rattle.std.proofs.Common.{Result, Ok, Err, refl, sym, ap, ◌∙◌, subst, arith}
use mathlib.Core.List.{reverse_aux}
use Rattle.vac_model.specs.State.{State, empty_state}
use Rattle.vac_model.specs.Run.{run}
use Rattle.vac_model.specs.declared.replies.Reply.{Reply}
use Rattle.vac_lines.specs.Lines.{lines_of}
use Rattle.judge_calls.specs.declared.fault.CallFault.{CallFault}
use Rattle.judge_calls.specs.declared.verdict.CallViolation.{CallViolation}
use Rattle.judge_calls.specs.declared.verdict.CallViolation.TheVariants as wrong
use Rattle.judge_calls.specs.declared.verdict.Verdict.TheVariants.{Fault, Illegal}
use Rattle.judge_calls.specs.Call.{Call, line_call}
use Rattle.judge_object.proofs.Order as spans
use Rattle.judge_object.proofs.Order.{passes, fails}
use Rattle.judge_object.specs.Call.{span_of}
use Rattle.judge_calls.specs.Order.{call_breaks_client, call_breaks_time, wrong_of}
use Rattle.vac_lines.specs.Text.{is_right}
use Rattle.judge_calls.specs.Verdict.{judged, unless_wrong, verdict_on}
use Rattle.judge_calls.specs.Laws.{IsAnswerOf, GiveReplies, IsLinearization, state_after}
use Rattle.judge_calls.specs.Wrongs.{IsCause, IsFirstWrong, IsFirstFault, IllegalIsFirstWrong, FaultIsFirst}
use Rattle.judge_calls.proofs.Order.{found, answer_of, of_answer, right_of, wrong_none}
use Rattle.judge_calls.proofs.Linearized.{AllRight, linearized, right_from}

false_true : false ≡ true → ⊥
false_true e = cc

-- ---- which cause is found

-- what the tests say where this is wrong
abbrev Tests : Bool → Bool → Bool → Reply → CallViolation → Type 0
Tests client time reply r wrong.Client = client ≡ true
Tests client time reply r wrong.Time = (client ≡ false) × (time ≡ true)
Tests client time reply r (wrong.Reply e) = (client ≡ false) × (time ≡ false) × (reply ≡ false) × (e ≡ r)

wrong_same : (x y : CallViolation) → Some x ≡ Some y → x ≡ y
wrong_same x y e = cc

no_wrong : (w : CallViolation) → None ≡ Some w → ⊥
no_wrong w e = cc

tests_of : (client time reply : Bool) (r : Reply) (w : CallViolation) →
    found client time reply (Some (wrong.Reply r)) ≡ Some w → Tests client time reply r w
tests_of true time reply r w h = subst (Tests true time reply r) (wrong_same wrong.Client w h) refl
tests_of false true reply r w h = subst (Tests false true reply r) (wrong_same wrong.Time w h) (refl, refl)
tests_of false false true r w h = absurd (no_wrong w h)
tests_of false false false r w h = subst (Tests false false false r) (wrong_same (wrong.Reply r) w h) (
  refl,
  refl,
  refl,
  refl,
)

of_tests : (client time reply : Bool) (r : Reply) (w : CallViolation) → Tests client time reply r w →
    found client time reply (Some (wrong.Reply r)) ≡ Some w
of_tests client time reply r wrong.Client h = ap (λ b. found b time reply (Some (wrong.Reply r))) h
of_tests client time reply r wrong.Time h = ap (λ b. found b time reply (Some (wrong.Reply r))) h.0 ∙
    ap (λ b. found false b reply (Some (wrong.Reply r))) h.1
of_tests client time reply r (wrong.Reply e) h =
    ap (λ b. found b time reply (Some (wrong.Reply r))) h.0 ∙ ap (λ b. found false b reply (Some (wrong.Reply r))) h.1
    ∙ ap (λ b. found false false b (Some (wrong.Reply r))) h.2 ∙ ap (λ x. Some (wrong.Reply x)) (sym h.3)

-- what the sequential manager answers to a call behind these
abbrev expected : ℕ → List Call → Call → Reply
expected n cs c = (run (state_after (empty_state n) cs) c.op).1

-- the tests on a call behind calls in a legal order
abbrev TestsOn : ℕ → List Call → Call → CallViolation → Type 0
TestsOn n cs c w = Tests (call_breaks_client (reverse_aux cs []) c) (call_breaks_time (reverse_aux cs []) c)
    (is_right c.reply (expected n cs c)) (expected n cs c) w

cause_of : (n : ℕ) (cs : List Call) (c : Call) (w : CallViolation) → IsLinearization n cs → TestsOn n cs c w →
    IsCause n cs c w
cause_of n cs c wrong.Client l h = λ t. false_true (sym (spans.of_turns span_of cs c t) ∙ h)
cause_of n cs c wrong.Time l h = (
  spans.turns_of span_of cs c (record { times = l.times; clients = l.clients }) h.0,
  λ k. false_true (sym (spans.of_precedence span_of cs c k) ∙ h.1),
)
cause_of n cs c (wrong.Reply e) l h =
    let turns = spans.turns_of span_of cs c (record { times = l.times; clients = l.clients }) h.0 in (
      turns,
      spans.precedence_of span_of cs c turns l.precedence h.1,
      h.3,
      λ a. false_true (sym h.2 ∙ of_answer (expected n cs c) c.reply (subst (λ r. IsAnswerOf r c.reply) h.3 a)),
    )

of_cause : (n : ℕ) (cs : List Call) (c : Call) (w : CallViolation) → IsLinearization n cs → IsCause n cs c w →
    TestsOn n cs c w
of_cause n cs c wrong.Client l h =
    passes (call_breaks_client (reverse_aux cs []) c) (λ e. h (spans.turns_of span_of cs c
    (record { times = l.times; clients = l.clients }) e))
of_cause n cs c wrong.Time l h = (
  spans.of_turns span_of cs c h.0,
  passes (call_breaks_time (reverse_aux cs []) c) (λ e. h.1 (spans.precedence_of span_of cs c h.0 l.precedence e)),
)
of_cause n cs c (wrong.Reply e) l h = (
  spans.of_turns span_of cs c h.0,
  spans.of_precedence span_of cs c h.1,
  fails (is_right c.reply (expected n cs c)) (λ r. h.3 (subst (λ x. IsAnswerOf x c.reply) (sym h.2)
      (answer_of (expected n cs c) c.reply r))),
  h.2,
)

last_reply : (s : State) (cs : List Call) (c : Call) → GiveReplies s (cs ++ c ∷ []) →
    IsAnswerOf (run (state_after s cs) c.op).1 c.reply
last_reply s [] c h = h.0
last_reply s (d ∷ cs) c h = last_reply (run s d.op).0 cs c h.1

-- with the call there is no linearization
none_with : (n : ℕ) (cs : List Call) (c : Call) (w : CallViolation) → IsCause n cs c w →
    IsLinearization n (cs ++ c ∷ []) → ⊥
none_with n cs c wrong.Client h l = h (record { times = l.times; clients = l.clients })
none_with n cs c wrong.Time h l = h.1 l.precedence
none_with n cs c (wrong.Reply e) h l = h.3 (subst (λ r. IsAnswerOf r c.reply) (sym h.2)
    (last_reply (empty_state n) cs c l.replies))

-- ---- the first line that is wrong

-- such a line stands behind calls that are right
record Found (s : State) (earlier : List Call) (lines : List (Result Call CallFault)) (line : ℕ) (w : CallViolation) :
    Type 0 where
  before : List Call
  call : Call
  rest : List (Result Call CallFault)
  listed : lines ≡ map Ok before ++ Ok call ∷ rest
  number : line ≡ length earlier + length before + 1
  right : AllRight s earlier before
  is : wrong_of (state_after s before) (reverse_aux before earlier) call ≡ Some w

not_fault : (k line : ℕ) (f : CallFault) (w : CallViolation) → Fault k f ≡ Illegal line w → ⊥
not_fault k line f w e = cc

illegal_same : (k line : ℕ) (v w : CallViolation) → Illegal k v ≡ Illegal line w → (k ≡ line) × (v ≡ w)
illegal_same k line v w e = (cc, cc)

find : (s : State) (earlier : List Call) (lines : List (Result Call CallFault)) (line : ℕ) (w : CallViolation) →
    judged s earlier lines ≡ Illegal line w → Found s earlier lines line w
find s earlier [] line w h = absurd (let e = h in cc)
find s earlier (Err fault ∷ rest) line w h = absurd (not_fault (length earlier + 1) line fault w h)
find s earlier (Ok c ∷ rest) line w h = decide (λ g. find (run s c.op).0 (c ∷ earlier) rest line w g)
    (wrong_of s earlier c) refl h
  where
    decide : (judged (run s c.op).0 (c ∷ earlier) rest ≡ Illegal line w →
        Found (run s c.op).0 (c ∷ earlier) rest line w) → (found : Option CallViolation) → wrong_of s earlier c ≡ found
        → unless_wrong found (length earlier + 1) (judged (run s c.op).0 (c ∷ earlier) rest) ≡ Illegal line w →
        Found s earlier (Ok c ∷ rest) line w
    decide next None e g =
        let more = next g in
        record {
          before = c ∷ more.before;
          call = more.call;
          rest = more.rest;
          listed = ap (λ t. Ok c ∷ t) more.listed;
          number = omega (arith, more.number);
          right = (right_of s earlier c e, more.right);
          is = more.is;
        }
    decide next (Some x) e g =
        let same = illegal_same (length earlier + 1) line x w g in
        record {
          before = [];
          call = c;
          rest = rest;
          listed = refl;
          number = omega (arith, same.0);
          right = tt;
          is = e ∙ ap Some same.1;
        }

-- so it is the verdict
named : (s : State) (earlier before : List Call) (call : Call) (rest : List (Result Call CallFault))
    (w : CallViolation) →
    AllRight s earlier before
    → wrong_of (state_after s before) (reverse_aux before earlier) call ≡ Some w →
    judged s earlier (map Ok before ++ Ok call ∷ rest) ≡ Illegal (length earlier + length before + 1) w
named s earlier [] call rest w h e =
    let same : length earlier + 1 ≡ length earlier + 0 + 1 = omega arith in
    ap (λ x. unless_wrong x (length earlier + 1) (judged (run s call.op).0 (call ∷ earlier) rest)) e ∙
    ap (λ k. Illegal k w) same
named s earlier (c ∷ cs) call rest w h e =
    let same : suc (length earlier) + length cs + 1 ≡ length earlier + suc (length cs) + 1 = omega arith in
    ap (λ x. unless_wrong x (length earlier + 1) (judged (run s c.op).0 (c ∷ earlier) (map Ok cs ++ Ok call ∷ rest)))
    (wrong_none s earlier c h.0)
    ∙ named (run s c.op).0 (c ∷ earlier) cs call rest w h.1 e ∙ ap (λ k. Illegal k w) same

first_wrong : (n : ℕ) (bytes : List ℕ) (line : ℕ) (w : CallViolation) → verdict_on n bytes ≡ Illegal line w →
    IsFirstWrong n bytes line w
first_wrong n bytes line w h =
    let f = find (empty_state n) [] (map line_call (lines_of bytes)) line w h in
    let legal = linearized n f.before f.right in
    let tests = tests_of (call_breaks_client (reverse_aux f.before []) f.call)
    (call_breaks_time (reverse_aux f.before []) f.call)
    (is_right f.call.reply (expected n f.before f.call)) (expected n f.before f.call) w f.is in
    let cause = cause_of n f.before f.call w legal tests in
    record {
      before = f.before;
      call = f.call;
      rest = f.rest;
      listed = f.listed;
      number = omega (arith, f.number);
      legal = legal;
      illegal = none_with n f.before f.call w cause;
      cause = cause;
    }

wrong_first : (n : ℕ) (bytes : List ℕ) (line : ℕ) (w : CallViolation) → IsFirstWrong n bytes line w →
    verdict_on n bytes ≡ Illegal line w
wrong_first n bytes line w f =
    let tests = of_cause n f.before f.call w f.legal f.cause in
    let is = of_tests (call_breaks_client (reverse_aux f.before []) f.call)
    (call_breaks_time (reverse_aux f.before []) f.call)
    (is_right f.call.reply (expected n f.before f.call)) (expected n f.before f.call) w tests in
    let number : 0 + length f.before + 1 ≡ line = omega (arith, f.number) in
    ap (judged (empty_state n) []) f.listed ∙ named (empty_state n) [] f.before f.call f.rest w
    (right_from n f.before f.legal) is ∙ ap (λ k. Illegal k w) number

pub illegal_is_first_wrong : IllegalIsFirstWrong
illegal_is_first_wrong n bytes line w = (first_wrong n bytes line w, wrong_first n bytes line w)

-- ---- the first line that is no call

record Faulty (s : State) (earlier : List Call) (lines : List (Result Call CallFault)) (line : ℕ) (fault : CallFault) :
    Type 0 where
  before : List Call
  rest : List (Result Call CallFault)
  listed : lines ≡ map Ok before ++ Err fault ∷ rest
  number : line ≡ length earlier + length before + 1
  right : AllRight s earlier before

fault_same : (k line : ℕ) (f g : CallFault) → Fault k f ≡ Fault line g → (k ≡ line) × (f ≡ g)
fault_same k line f g e = (cc, cc)

not_wrong : (k line : ℕ) (w : CallViolation) (f : CallFault) → Illegal k w ≡ Fault line f → ⊥
not_wrong k line w f e = cc

find_fault : (s : State) (earlier : List Call) (lines : List (Result Call CallFault)) (line : ℕ) (fault : CallFault) →
    judged s earlier lines ≡ Fault line fault
    → Faulty s earlier lines line fault
find_fault s earlier [] line fault h = absurd (let e = h in cc)
find_fault s earlier (Err f ∷ rest) line fault h =
    let same = fault_same (length earlier + 1) line f fault h in
    record {
      before = [];
      rest = rest;
      listed = ap (λ x. Err x ∷ rest) same.1;
      number = omega (arith, same.0);
      right = tt;
    }
find_fault s earlier (Ok c ∷ rest) line fault h = decide (λ g. find_fault (run s c.op).0
    (c ∷ earlier) rest line fault g) (wrong_of s earlier c) refl h
  where
    decide : (judged (run s c.op).0 (c ∷ earlier) rest ≡ Fault line fault →
        Faulty (run s c.op).0 (c ∷ earlier) rest line fault) → (found : Option CallViolation) →
        wrong_of s earlier c ≡ found
        → unless_wrong found (length earlier + 1) (judged (run s c.op).0 (c ∷ earlier) rest) ≡ Fault line fault →
        Faulty s earlier (Ok c ∷ rest) line fault
    decide next None e g =
        let more = next g in
        record {
          before = c ∷ more.before;
          rest = more.rest;
          listed = ap (λ t. Ok c ∷ t) more.listed;
          number = omega (arith, more.number);
          right = (right_of s earlier c e, more.right);
        }
    decide next (Some x) e g = absurd (not_wrong (length earlier + 1) line x fault g)

named_fault : (s : State) (earlier before : List Call) (fault : CallFault) (rest : List (Result Call CallFault)) →
    AllRight s earlier before
    → judged s earlier (map Ok before ++ Err fault ∷ rest) ≡ Fault (length earlier + length before + 1) fault
named_fault s earlier [] fault rest h =
    let same : length earlier + 1 ≡ length earlier + 0 + 1 = omega arith in
    ap (λ k. Fault k fault) same
named_fault s earlier (c ∷ cs) fault rest h =
    let same : suc (length earlier) + length cs + 1 ≡ length earlier + suc (length cs) + 1 = omega arith in
    ap (λ x. unless_wrong x (length earlier + 1) (judged (run s c.op).0 (c ∷ earlier)
    (map Ok cs ++ Err fault ∷ rest))) (wrong_none s earlier c h.0)
    ∙ named_fault (run s c.op).0 (c ∷ earlier) cs fault rest h.1 ∙ ap (λ k. Fault k fault) same

first_fault : (n : ℕ) (bytes : List ℕ) (line : ℕ) (fault : CallFault) → verdict_on n bytes ≡ Fault line fault →
    IsFirstFault n bytes line fault
first_fault n bytes line fault h =
    let f = find_fault (empty_state n) [] (map line_call (lines_of bytes)) line fault h in
    record {
      before = f.before;
      rest = f.rest;
      listed = f.listed;
      number = omega (arith, f.number);
      legal = linearized n f.before f.right;
    }

fault_first : (n : ℕ) (bytes : List ℕ) (line : ℕ) (fault : CallFault) → IsFirstFault n bytes line fault →
    verdict_on n bytes ≡ Fault line fault
fault_first n bytes line fault f =
    let number : 0 + length f.before + 1 ≡ line = omega (arith, f.number) in
    ap (judged (empty_state n) []) f.listed ∙ named_fault (empty_state n) [] f.before fault f.rest
    (right_from n f.before f.legal) ∙ ap (λ k. Fault k fault) number

pub fault_is_first : FaultIsFirst
fault_is_first n bytes line fault = (first_fault n bytes line fault, fault_first n bytes line fault)
