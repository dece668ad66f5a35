-- If an order of as many calls as possible does not have all completed calls, some completed call
-- may come next after that order, and no completed call that may come next gives its reply.
use Rattle.std.proofs.Common.{◌≡◌, ℕ, ◌<◌, ◌≤◌, ◌==◌, suc, zero, Bool, true, false, cond}
use Rattle.std.proofs.Common.{List, [], ◌∷◌, ◌++◌, length, get_or, refl, ap, ◌∙◌, inl, inr, arith}
use Rattle.std.specs.Prelude.{◌⊎◌}
use Rattle.std.specs.List.{list_any}
use Rattle.std.proofs.lemmas.Bool.{cases_lt}
use Rattle.judge_object.specs.Rules.{Rules}
use Rattle.judge_object.specs.Call.{Call, is_completed}
use Rattle.judge_object.specs.declared.line.Line.{Line}
use Rattle.judge_search.specs.declared.calls.Calls.{Calls}
use Rattle.judge_search.specs.declared.point.Point.{Point}
use Rattle.judge_search.specs.Calls.{calls_of, has_ended, are_sorted, rest_of}
use Rattle.judge_search.specs.Configurations.{Configuration, MayBegin, Goes, start, answered, weight, fits, after_call}
use Rattle.judge_search.specs.Judging.{HasNoOrder}
use Rattle.judge_search.specs.Point.{made_of, point_at}
use Rattle.judge_search.specs.Walk.{InTurn}
use Rattle.judge_search.proofs.Left.{answered_after}
use Rattle.judge_search.proofs.Sorted.{sorted_of, call_here, long_calls, length_calls, begun_early, all_made}
use Rattle.judge_search.proofs.Sorted.{never_left}
use Rattle.judge_search.proofs.Steps.{reaches_more}
use Rattle.judge_search.proofs.Tries.{at, may_begin, of_stands, front_made}
use Rattle.judge_text.specs.ByObject.{AreBlocked}

-- the first of `count` places that has none in the order
record Left (made : ℕ → Bool) (count : ℕ) : Type 0 where
  first : ℕ
  within : first < count
  below : (place : ℕ) → place < first → made place ≡ true
  left : made first ≡ false

first_left : (made : ℕ → Bool) (count : ℕ) → ((place : ℕ) → place < count → made place ≡ true) ⊎ Left made count
first_left made zero = inl (λ place l. absurd (omega arith))
first_left made (suc count) = go (first_left made count)
  where
    last : ((place : ℕ) → place < count → made place ≡ true) → (b : Bool) → made count ≡ b →
        ((place : ℕ) → place < suc count → made place ≡ true) ⊎ Left made (suc count)
    last h true e = inl (λ place l.
        elim (cases_lt place count) [
          | inl m ↦ h place m
          | inr m ↦ ap made (let same : place ≡ count = omega arith in same) ∙ e
        ])
    last h false e = inr (record { first = count; within = omega arith; below = h; left = e })

    go : ((place : ℕ) → place < count → made place ≡ true) ⊎ Left made count →
        ((place : ℕ) → place < suc count → made place ≡ true) ⊎ Left made (suc count)
    go (inl h) = last h (made count) refl
    go (inr f) = inr (record {
      first = f.first;
      within = (let l = f.within in omega arith);
      below = f.below;
      left = f.left;
    })

module _ {O : Type 0} where
  -- the line at a position
  pub line_at : (lines : List (Line O)) (place : ℕ) → place < length lines →
      (line : Line O) × (line ≡ get_or lines place line)
  line_at [] place l = absurd (omega arith)
  line_at (x ∷ xs) zero l = (x, refl)
  line_at (x ∷ xs) (suc place) l = line_at xs place (omega arith)

  takes_time : (calls : List (Call O)) (place : ℕ) (d : Call O) → place < length calls → InTurn calls →
      (get_or calls place d).begin ≤ (get_or calls place d).end
  takes_time [] place d l h = absurd (omega arith)
  takes_time (x ∷ xs) zero d l h = h.0
  takes_time (x ∷ xs) (suc place) d l h = takes_time xs place d (omega arith) h.2

module _ {S O R : Type 0} (X : Rules S O R) where
  -- a completed call may come next
  record Comes (rest : List (Call O)) : Type 0 where
    call : Call O
    may : MayBegin rest call
    completed : is_completed call ≡ true

  -- the first call that is left may come next
  first_comes : (made : ℕ → Bool) (lines : List (Line O)) (line : Line O) → are_sorted lines ≡ true →
      InTurn (calls_of lines) → (f : Left made (length lines)) → line ≡ get_or lines f.first line →
      has_ended line ≡ true → Comes (rest_of made 0 (calls_of lines))
  first_comes made lines line sorted turn f is some =
      let calls = calls_of lines in
      let call = at X calls f.first in
      let here = call_here X lines f.first line f.within is in
      let long = long_calls X lines f.first f.within in
      let time : call.begin ≤ call.end = takes_time calls f.first _ long turn in
      let end : call.end ≡ line.end = ap (λ (c : Call O). c.end) here in
      record {
        call = call;
        may = may_begin X made calls f.first long (of_stands X made calls f.first (record {
          free = f.left;
          none = ap (list_any (λ (o : Call O). o.client == call.client))
              (front_made X made 0 calls f.first (λ place l. f.below place (omega arith)));
          early = begun_early X made lines f.first line call.begin (sorted_of lines sorted) f.within is f.below f.left
              (omega arith);
        }));
        completed = ap is_completed here ∙ some;
      }

  -- where completed calls are left, one of them may come next
  some_comes : (made : ℕ → Bool) (lines : List (Line O)) → are_sorted lines ≡ true → InTurn (calls_of lines) →
      1 ≤ answered (rest_of made 0 (calls_of lines)) → Comes (rest_of made 0 (calls_of lines))
  some_comes made lines sorted turn some =
      elim (first_left made (length lines)) [
        | inl all ↦
            let long = length_calls X lines in
            let none : answered (rest_of made 0 (calls_of lines)) ≡ 0 =
            ap answered (all_made X made 0 (calls_of lines) (λ place l. all place (omega arith))) in
            absurd (omega arith)
        | inr f ↦
            let line = line_at lines f.first f.within in
            go f line.0 line.1 (has_ended line.0) refl
      ]
    where
      go : (f : Left made (length lines)) (line : Line O) → line ≡ get_or lines f.first line → (b : Bool) →
          has_ended line ≡ b → Comes (rest_of made 0 (calls_of lines))
      go f line is true e = first_comes made lines line sorted turn f is e
      go f line is false e =
          let none : answered (rest_of made 0 (calls_of lines)) ≡ 0 =
          never_left X made lines f.first line (sorted_of lines sorted) f.within is f.below f.left e in
          absurd (omega arith)

  -- a completed call that may come next where most calls have a position does not give its reply
  none_goes : (s : S) (calls : List (Call O)) (most : ℕ) (point : Configuration S O) →
      HasNoOrder X s calls most point → (call : Call O) → MayBegin point.rest call → is_completed call ≡ true →
      fits X point.state call ≡ false
  none_goes s calls most point h call may completed = go (fits X point.state call) refl
    where
      go : (b : Bool) → fits X point.state call ≡ b → fits X point.state call ≡ false
      go false e = e
      go true e =
          let goes : Goes X point call = record { may = may; fit = e } in
          let after = after_call X point call in
          let deepest = h.deepest in
          let bound = h.bound (deepest.calls ++ call ∷ []) after
          (reaches_more X (start s calls) point deepest.calls call deepest.reaches goes) in
          let less = answered_after X point call goes in
          let one : weight call ≡ 1 = ap (λ c. cond c 1 0) completed in
          let count = deepest.count in
          absurd (omega arith)

  -- calls that have no order are blocked where most of them have a position
  pub blocked_there : (s : S) (calls : Calls O) (most : ℕ) (point : Point S) → InTurn (calls_of calls.lines.items) →
      HasNoOrder X s (calls_of calls.lines.items) most (point_at X calls point) →
      AreBlocked X (point_at X calls point)
  blocked_there s calls most point turn h =
      let some = some_comes (made_of point) calls.lines.items calls.sorted turn h.deepest.some in
      record {
        call = some.call;
        may = some.may;
        completed = some.completed;
        none = none_goes s (calls_of calls.lines.items) most (point_at X calls point) h;
      }
