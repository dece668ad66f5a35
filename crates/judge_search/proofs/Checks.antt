-- Calls that are made one by one, each of which may come next and gives its reply, are an order.
use Rattle.std.proofs.Common.{◌≡◌, ◌==◌, ◌||◌, ℕ, ◌<◌, true, List, [], ◌∷◌, ◌++◌, get_or, length, sym, ap, ◌∙◌, subst}
use Rattle.std.proofs.lemmas.List.Elements.{All-append, All-cons, All-nil}
use Rattle.judge_object.specs.Rules.{is_right, given_text}
use Rattle.judge_object.specs.declared.line.Line.{Line}
use Rattle.judge_search.specs.declared.point.Point.{Point}
use Rattle.judge_search.specs.Marks.{is_made}
use Rattle.judge_search.specs.Calls.{calls_of, rest_of, can_come, no_call}
use Rattle.judge_search.specs.Point.{made_of}
use Rattle.judge_search.specs.Configurations.{Configuration, Goes, CallsReach, start, answered}
use Rattle.judge_search.specs.Walk.{IsWhole}
use Rattle.judge_search.specs.Judging.{calls_at, IsLinearizedBy}
use Rattle.judge_search.specs.Checking.{HavePlaces}
use Rattle.judge_search.proofs.Tries.{at, may_begin, stands_of}
use Rattle.judge_search.proofs.Sorted.{long_calls}
use Rattle.judge_search.proofs.Placing.{distinct_none, distinct_more, any_more}
use Rattle.judge_search.proofs.Steps.{reaches_more}
use Rattle.judge_search.proofs.Walking.{map_more}
use Rattle.judge_search.proofs.Completing.{linearization_of}
use Rattle.judge_search.proofs.Judged.{all_left, none_low}
use Rattle.judge_search.proofs.Points.{led_on}
use Rattle.judge_search.proofs.Exact.{turns_more, turn_of}
use Rattle.judge_object.specs.Rules.{Rules}

module _ {S O R : Type 0} (X : Rules S O R) where
  -- what is left at a point, and its state
  abbrev left_at : List (Line O) → Point S → Configuration S O
  left_at lines point = record { rest = rest_of (made_of point) 0 (calls_of lines); state = point.machine }

  -- no call was made
  pub placed_none : (s : S) (lines : List (Line O)) (point : Point S) → point.low ≡ 0 → point.beyond.items ≡ [] →
      point.machine ≡ s → HavePlaces X s (calls_of lines) [] point
  placed_none s lines point e f h = record {
    reaches = ap (λ x. record { rest = x; state = s }) (sym (all_left X point.low point.beyond.items
        (calls_of lines) e f))
        ∙ ap (λ x. record { rest = rest_of (made_of point) 0 (calls_of lines); state = x }) (sym h);
    made = λ p. ap (λ l. is_made l point.beyond.items p) e ∙ ap (λ b. is_made 0 b p) f ∙ none_low X p;
    distinct = distinct_none;
    turns = tt;
    within = All-nil (λ p. p < length (calls_of lines));
  }

  -- one call more
  pub placed_more : (s : S) (lines : List (Line O)) (places : List ℕ) (point next : Point S) (place : ℕ) (line : Line O)
      (reply : R) → place < length lines → line ≡ get_or lines place line →
      can_come X (made_of point) (calls_of lines) place ≡ true → is_right X (given_text line.reply) reply ≡ true
      → ((p : ℕ) → made_of next p ≡ (made_of point p || p == place))
      → X.run point.machine line.op ≡ (next.machine, reply)
      → HavePlaces X s (calls_of lines) places point → HavePlaces X s (calls_of lines) (places ++ place ∷ []) next
  placed_more s lines places point next place line reply l e can right more ran h =
      let cs = calls_of lines in
      let within = long_calls X lines place l in
      let led = led_on X (made_of point) (made_of next) point.machine lines place line next.machine reply l e ran right
      can
      more in
      let goes : Goes X (left_at lines point) (at X cs place) =
      record { may = may_begin X (made_of point) cs place within can; fit = led.0 } in
      record {
        reaches = subst (λ xs. CallsReach X (start s cs) xs (left_at lines next))
            (sym (map_more (λ p. get_or cs p (no_call X)) places place))
            (subst (CallsReach X (start s cs) (calls_at X cs places ++ at X cs place ∷ [])) (sym led.1)
            (reaches_more X (start s cs) (left_at lines point) (calls_at X cs places) (at X cs place) h.reaches goes));
        made = λ p. more p ∙ ap (λ b. b || p == place) (h.made p) ∙ sym (any_more places place p);
        distinct = distinct_more places place h.distinct (sym (h.made place) ∙
            (stands_of X (made_of point) cs place can).free);
        turns = turns_more X cs [] places place h.turns (turn_of X (made_of point) cs places place within can h.made);
        within = All-append (λ p. p < length cs) places (place ∷ []) h.within
            (All-cons (λ p. p < length cs) place [] within (All-nil (λ p. p < length cs)));
      }

  -- no completed call is left
  pub placed_all : (s : S) (lines : List (Line O)) (places : List ℕ) (point : Point S) → IsWhole (calls_of lines) →
      HavePlaces X s (calls_of lines) places point → answered (rest_of (made_of point) 0 (calls_of lines)) ≡ 0 →
      IsLinearizedBy X s (calls_of lines) places
  placed_all s lines places point w h e =
      let both = linearization_of X s (calls_of lines) (calls_at X (calls_of lines) places) w
      (record { to = left_at lines point; reaches = h.reaches; done = e }) in
      record { orders = both.0; linearization = both.1; distinct = h.distinct; within = h.within }
