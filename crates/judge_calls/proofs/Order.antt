-- What the tests on a call say of it and the calls before it.
use Rattle.std.proofs.Common.{◌≡◌, ℕ, ◌≤◌, Bool, true, false, cond, List, [], ◌∷◌, Option, Some, None, refl, sym, ap}
use Rattle.std.proofs.Common.{◌∙◌, nat_lt}
use Rattle.std.specs.Prelude.{⊤}
use Rattle.std.specs.List.{list_any}
use Rattle.std.proofs.lemmas.Slice.Eq.{bytes_eq-Decides}
use Rattle.vac_model.specs.State.{State}
use Rattle.vac_model.specs.Run.{run}
use Rattle.vac_model.specs.declared.replies.Reply.{Reply}
use Rattle.vac_model.specs.ReplyText.{reply_text}
use Rattle.judge_calls.specs.declared.verdict.CallViolation.{CallViolation}
use Rattle.judge_calls.specs.declared.verdict.CallViolation.TheVariants as wrong
use Rattle.judge_calls.specs.Call.{Call}
use Rattle.judge_object.specs.Order as spans
pub use Rattle.judge_object.proofs.Tests.{both_false, false_both, turn_from, turn_test, time_from, time_test}
use Rattle.judge_object.specs.Call.{span_of}
use Rattle.judge_calls.specs.Order.{call_breaks_client, call_breaks_time, wrong_of}
use Rattle.vac_lines.specs.Text.{is_right}
use Rattle.judge_calls.specs.Laws.{IsAnswerOf}

-- a fact of each element
abbrev pub Each : {X : Type 0} → (X → Type 0) → List X → Type 0
Each P [] = ⊤
Each P (x ∷ xs) = P x × Each P xs

-- the call e fits in front of the call c
pub record FitsBefore (e c : Call) : Type 0 where
  pub turn : e.client ≡ c.client → e.end ≤ c.begin
  pub time : e.begin ≤ c.end

-- nothing is wrong with the call behind these
pub record IsRight (s : State) (earlier : List Call) (c : Call) : Type 0 where
  pub own : c.begin ≤ c.end
  pub fits : Each (λ e. FitsBefore e c) earlier
  pub reply : IsAnswerOf (run s c.op).1 c.reply

-- two tests that pass none say that all fit
fits_all : (c : Call) (earlier : List Call) → list_any (spans.overlaps span_of c) earlier ≡ false →
    list_any (spans.ended_before span_of c) earlier ≡ false → Each (λ e. FitsBefore e c) earlier
fits_all c [] h g = tt
fits_all c (e ∷ es) h g =
    let x = both_false (spans.overlaps span_of c e) (list_any (spans.overlaps span_of c) es) h in
    let y = both_false (spans.ended_before span_of c e) (list_any (spans.ended_before span_of c) es) g in (
      record { turn = turn_from e.client c.client c.begin e.end x.0; time = time_from c.end e.begin y.0 },
      fits_all c es x.1 y.1,
    )

none_overlaps : (c : Call) (earlier : List Call) → Each (λ e. FitsBefore e c) earlier →
    list_any (spans.overlaps span_of c) earlier ≡ false
none_overlaps c [] h = refl
none_overlaps c (e ∷ es) h = false_both (spans.overlaps span_of c e) (list_any (spans.overlaps span_of c) es)
    (turn_test e.client c.client c.begin e.end h.0.turn) (none_overlaps c es h.1)

none_ended : (c : Call) (earlier : List Call) → Each (λ e. FitsBefore e c) earlier →
    list_any (spans.ended_before span_of c) earlier ≡ false
none_ended c [] h = refl
none_ended c (e ∷ es) h = false_both (spans.ended_before span_of c e) (list_any (spans.ended_before span_of c) es)
    (time_test c.end e.begin h.0.time) (none_ended c es h.1)

-- the order of the tests
abbrev pub found : Bool → Bool → Bool → Option CallViolation → Option CallViolation
found client time reply last = cond client (Some wrong.Client) (cond time (Some wrong.Time) (cond reply None last))

some_none : (w : CallViolation) → Some w ≡ None → ⊥
some_none w e = cc

found_none : (client time reply : Bool) (w : CallViolation) → found client time reply (Some w) ≡ None →
    (client ≡ false) × (time ≡ false) × (reply ≡ true)
found_none true time reply w h = absurd (some_none wrong.Client h)
found_none false true reply w h = absurd (some_none wrong.Time h)
found_none false false true w h = (refl, refl, refl)
found_none false false false w h = absurd (some_none w h)

-- the test of a reply says that it may have been given
pub answer_of : (r : Reply) (given : Option (List ℕ)) → is_right given r ≡ true → IsAnswerOf r given
answer_of r None h = tt
answer_of r (Some text) h = sym ((bytes_eq-Decides text (reply_text r)).0 h)

pub of_answer : (r : Reply) (given : Option (List ℕ)) → IsAnswerOf r given → is_right given r ≡ true
of_answer r None h = refl
of_answer r (Some text) h = (bytes_eq-Decides text (reply_text r)).1 (sym h)

-- no wrong is found in a call that is right, and in no other
pub right_of : (s : State) (earlier : List Call) (c : Call) → wrong_of s earlier c ≡ None → IsRight s earlier c
right_of s earlier c h =
    let tests = found_none (call_breaks_client earlier c) (call_breaks_time earlier c)
    (is_right c.reply (run s c.op).1)
    (wrong.Reply (run s c.op).1) h in
    let client = both_false (nat_lt c.end c.begin) (list_any (spans.overlaps span_of c) earlier) tests.0 in
    record {
      own = time_from c.end c.begin client.0;
      fits = fits_all c earlier client.1 tests.1;
      reply = answer_of (run s c.op).1 c.reply tests.2;
    }

pub wrong_none : (s : State) (earlier : List Call) (c : Call) → IsRight s earlier c → wrong_of s earlier c ≡ None
wrong_none s earlier c h =
    let last : Option CallViolation = Some (wrong.Reply (run s c.op).1) in
    let client : call_breaks_client earlier c ≡ false = false_both (nat_lt c.end c.begin)
    (list_any (spans.overlaps span_of c) earlier) (time_test c.end c.begin h.own)
    (none_overlaps c earlier h.fits) in
    let reply : is_right c.reply (run s c.op).1 ≡ true = of_answer (run s c.op).1 c.reply h.reply in
    ap (λ b. found b (call_breaks_time earlier c) (is_right c.reply (run s c.op).1) last) client
    ∙ ap (λ b. found false b (is_right c.reply (run s c.op).1) last) (none_ended c earlier h.fits)
    ∙ ap (λ b. found false false b last) reply
