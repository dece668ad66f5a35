-- What is kept of the calls that were judged decides on the next as all of them do.
use Rattle.std.proofs.Common.{◌≡◌, Bool, true, false, cond, List, map, Option, Some, None, refl, sym, ap, ◌∙◌, subst}
use Rattle.vac_model.specs.State.{State}
use Rattle.vac_model.specs.Run.{run}
use Rattle.judge_object.specs.declared.span.Span.{Span}
use Rattle.judge_object.specs.declared.span.Misplaced.{Misplaced}
use Rattle.judge_object.specs.declared.span.Misplaced.TheVariants as place
use Rattle.judge_object.specs.Order.{itself, misplaced}
use Rattle.judge_object.proofs.Order.{misplaced_mapped}
use Rattle.judge_calls.specs.declared.verdict.CallViolation.{CallViolation}
use Rattle.judge_calls.specs.declared.verdict.CallViolation.TheVariants.{Client, Time, Reply}
use Rattle.judge_calls.specs.Call.{Call}
use Rattle.judge_object.specs.Call.{span_of}
use Rattle.judge_calls.specs.Order.{call_breaks_client, call_breaks_time, wrong_of}
use Rattle.vac_lines.specs.Text.{is_right}
use Rattle.judge_calls.specs.Judging.{TimesSay, JudgesTimes}

-- a step from an equal state leaves the same state and gives the same reply
pub stepped : {S R : Type 0} (step : S → S × R) (before s after : S) (reply : R) → step before ≡ (after, reply) →
    before ≡ s → ((step s).0 ≡ after) × ((step s).1 ≡ reply)
stepped step before s after reply e is =
    let made : step s ≡ (after, reply) = ap step (sym is) ∙ e in
    (ap (λ p. p.0) made, ap (λ p. p.1) made)

-- what is wrong with the place of a call is wrong with the call
abbrev pub as_wrong : Option Misplaced → Option CallViolation
as_wrong None = None
as_wrong (Some place.Client) = Some Client
as_wrong (Some place.Time) = Some Time

tests_say : (client time : Bool) → TimesSay client time (as_wrong
    (cond client (Some place.Client) (cond time (Some place.Time) None)))
tests_say true time = refl
tests_say false true = (refl, refl)
tests_say false false = (refl, refl)

-- what was found of its span
pub span_says : (earlier : List Call) (call : Call) (span : Span) (found : Option Misplaced) → span ≡ span_of call →
    misplaced itself (map span_of earlier) span ≡ found
    → JudgesTimes earlier call (as_wrong found)
span_says earlier call span found e h =
    let same : misplaced span_of earlier call ≡ found = sym (misplaced_mapped span_of earlier call) ∙
    ap (misplaced itself (map span_of earlier)) (sym e) ∙ h in
    subst (λ f. JudgesTimes earlier call (as_wrong f)) same (tests_say (call_breaks_client earlier call)
    (call_breaks_time earlier call))

-- a call whose times are right is well placed
pub well_placed : (earlier : List Call) (call : Call) (span : Span) → span ≡ span_of call →
    JudgesTimes earlier call None → misplaced itself (map span_of earlier) span ≡ None
well_placed earlier call span e h =
    ap (misplaced itself (map span_of earlier)) e ∙ misplaced_mapped span_of earlier call
    ∙ ap (λ b. cond b (Some place.Client) (cond (call_breaks_time earlier call) (Some place.Time) None)) h.0 ∙
    ap (λ b. cond b (Some place.Time) None) h.1

-- the order of the tests
abbrev found : Bool → Bool → Bool → Option CallViolation → Option CallViolation
found client time reply last = cond client (Some Client) (cond time (Some Time) (cond reply None last))

-- what is wrong with the times is wrong with the call
pub wrong_times : (s : State) (earlier : List Call) (c : Call) (w : CallViolation) → JudgesTimes earlier c (Some w) →
    wrong_of s earlier c ≡ Some w
wrong_times s earlier c Client h = ap (λ b. found b (call_breaks_time earlier c) (is_right c.reply (run s c.op).1)
    (Some (Reply (run s c.op).1))) h
wrong_times s earlier c Time h =
    ap (λ b. found b (call_breaks_time earlier c) (is_right c.reply (run s c.op).1) (Some (Reply (run s c.op).1)))
    h.0
    ∙ ap (λ b. found false b (is_right c.reply (run s c.op).1) (Some (Reply (run s c.op).1))) h.1
wrong_times s earlier c (Reply r) h = absurd h

-- where the times are right, the reply decides
pub wrong_reply : (s : State) (earlier : List Call) (c : Call) (same : Bool) → JudgesTimes earlier c None →
    same ≡ is_right c.reply (run s c.op).1
    → wrong_of s earlier c ≡ cond same None (Some (Reply (run s c.op).1))
wrong_reply s earlier c same h e =
    ap (λ b. found b (call_breaks_time earlier c) (is_right c.reply (run s c.op).1) (Some (Reply (run s c.op).1)))
    h.0
    ∙ ap (λ b. found false b (is_right c.reply (run s c.op).1) (Some (Reply (run s c.op).1))) h.1
    ∙ ap (λ b. cond b None (Some (Reply (run s c.op).1))) (sym e)

-- a wrong that is found is none that is not
pub no_wrong : (w : CallViolation) → Some w ≡ None → ⊥
no_wrong w e = cc
