-- A finding at the start is a finding on all calls.
use Rattle.std.proofs.Common.{◌≡◌, sym, ℕ, ◌+◌, ◌≤◌, suc, Bool, false, cond, List, [], ◌∷◌, refl, ap, ◌∙◌, subst, arith}
use Rattle.std.proofs.Common.{nat_lt}
use Rattle.std.proofs.lemmas.Bool.Decides.{nat_tests}
use Rattle.judge_object.specs.Call.{Call}
use Rattle.judge_search.specs.declared.calls.Calls.{Calls}
use Rattle.judge_search.specs.declared.point.Point.{Point}
use Rattle.judge_search.specs.declared.walk.Found.{Found}
use Rattle.judge_search.specs.declared.walk.Finding.{Finding}
use Rattle.judge_search.specs.declared.walk.Finding.TheVariants as finding
use Rattle.judge_object.specs.Orders.{IsMerge, IsOrderOf, IsLinearizable}
use Rattle.judge_search.specs.Configurations.{Configuration, start, answered, PlacesAtMost, Deepest}
use Rattle.judge_search.specs.Walk.{IsTimed, IsWhole, Completes}
use Rattle.judge_search.specs.Searching.{HasRun, IsUndecided}
use Rattle.judge_search.specs.Walking.{FindsFrom, FindsIn, IsUnknown}
use Rattle.std.specs.Prelude.{All, ◌<◌}
use Rattle.judge_search.proofs.Sorted.{length_calls}
use Rattle.judge_search.specs.Marks.{is_made}
use Rattle.judge_search.specs.Calls.{calls_of, rest_of}
use Rattle.judge_search.specs.Point.{point_at, point_views}
use Rattle.judge_search.specs.Judging.{calls_at, IsFoundOfCalls, IsFoundIn}
use Rattle.judge_search.proofs.Clients.{each_order, turn_order}
use Rattle.judge_search.proofs.Completing.{linearization_of, completes_start}
use Rattle.judge_object.specs.Rules.{Rules}

module _ {S O R : Type 0} (X : Rules S O R) where
  none_made : (made : ℕ → Bool) (i : ℕ) (cs : List (Call O)) → ((p : ℕ) → made p ≡ false) → rest_of made i cs ≡ cs
  none_made made i [] h = refl
  none_made made i (c ∷ cs) h =
      ap (λ b. cond b (rest_of made (suc i) cs) (c ∷ rest_of made (suc i) cs)) (h i)
      ∙ ap (λ l. c ∷ l) (none_made made (suc i) cs h)

  -- and none has one
  pub none_low : (p : ℕ) → is_made 0 [] p ≡ false
  none_low p = let t : nat_lt p 0 ≡ false = grind (arith, nat_tests) in rw t refl

  -- where no call has a place all are left
  pub all_left : (low : ℕ) (beyond : List ℕ) (cs : List (Call O)) → low ≡ 0 → beyond ≡ [] →
      rest_of (is_made low beyond) 0 cs ≡ cs
  all_left low beyond cs e f =
      ap (λ l. rest_of (is_made l beyond) 0 cs) e ∙ ap (λ b. rest_of (is_made 0 b) 0 cs) f ∙
      none_made (is_made 0 []) 0 cs none_low

  -- a point at which no call has a position is the start
  pub at_start : (calls : Calls O) (point : Point S) (s : S) → point.low ≡ 0 → point.beyond.items ≡ [] →
      point.machine ≡ s
      → point_at X calls point ≡ start s (calls_of calls.lines.items)
  at_start calls point s e f g =
      ap (λ x. record { rest = x; state = point.machine })
      (all_left point.low point.beyond.items (calls_of calls.lines.items) e f)
      ∙ ap (λ x. record { rest = calls_of calls.lines.items; state = x }) g

  none_order : (s : S) (most : ℕ) (calls : List (Call O)) (at : Configuration S O) → IsWhole calls →
      Deepest X (start s calls) most at → PlacesAtMost X (answered calls) most (start s calls)
      → IsLinearizable X s calls → ⊥
  none_order s most calls at w d b l =
      let whole = completes_start X s calls l.order w l.orders l.linearization in
      let most : answered calls ≤ most + answered whole.to.rest = b l.order whole.to whole.reaches in
      let done = whole.done in let count = d.count in let some = d.some in absurd (omega arith)

  pub judges : (calls : Calls O) (point : Point S) (s : S) (steps : ℕ) → IsWhole (calls_of calls.lines.items)
      → point.low ≡ 0 → point.beyond.items ≡ [] → point.machine ≡ s → (found : Finding (Point S))
      → FindsFrom X (point_views X calls) (point_at X calls point) steps found →
      IsFoundOfCalls X (point_at X calls) s (calls_of calls.lines.items) steps found
  judges calls point s steps w e f g (finding.Order places) h =
      let cs = calls_of calls.lines.items in
      let both = linearization_of X s cs (calls_at X cs places.items) w
      (subst (λ x. Completes X x (calls_at X cs places.items)) (at_start calls point s e f g) h.completes) in
      record {
        orders = both.0;
        linearization = both.1;
        distinct = h.distinct;
        within = subst (λ k. All (λ p. p < k) places.items) (sym (length_calls X calls.lines.items)) h.within;
      }
  judges calls point s steps w e f g (finding.NoOrder most there) h =
      let cs = calls_of calls.lines.items in
      let at = point_at X calls there in
      let deepest = subst (λ x. Deepest X x most at) (at_start calls point s e f g) h.0 in
      let bound = subst (λ (x : Configuration S O). PlacesAtMost X (answered x.rest) most x)
      (at_start calls point s e f g) h.1 in
      record { none = none_order s most cs at w deepest bound; deepest = deepest; bound = bound }
  judges calls point s steps w e f g (finding.Unknown most) h =
      subst (λ x. IsUndecided X x steps most) (at_start calls point s e f g) h

  pub judges_in : (calls : Calls O) (point : Point S) (s : S) (steps : ℕ) → IsWhole (calls_of calls.lines.items)
      → point.low ≡ 0 → point.beyond.items ≡ [] → point.machine ≡ s → (found : Found (Point S))
      → FindsIn X (point_views X calls) (point_at X calls point) steps found →
      IsFoundIn X (point_at X calls) s (calls_of calls.lines.items) steps found
  judges_in calls point s steps w e f g found h = record {
    within = h.within;
    run = subst (HasRun X found.steps) (at_start calls point s e f g) h.run;
    finds = judges calls point s found.steps w e f g found.finding h.finds;
    spent = h.spent;
  }

  -- what is found in so many steps, said of all that were given
  pub found_in : {P : Type 0} (at : P → Configuration S O) (s : S) (calls : List (Call O)) (steps : ℕ)
      (found : Found P) → IsFoundIn X at s calls steps found → IsFoundOfCalls X at s calls steps found.finding
  found_in at s calls steps found h = go found.finding h.finds h.spent
    where
      go : (f : Finding _) → IsFoundOfCalls X at s calls found.steps f → (IsUnknown f → found.steps ≡ steps) →
          IsFoundOfCalls X at s calls steps f
      go (finding.Order places) finds spent = finds
      go (finding.NoOrder most point) finds spent = finds
      go (finding.Unknown most) finds spent =
          subst (λ n. IsUndecided X (start s calls) n most) (spent tt) finds

  -- calls that are kept in another way are whole
  pub whole_kept : (calls kept : List (Call O)) → IsMerge calls kept → IsWhole calls → IsWhole kept
  whole_kept calls kept m w = record {
    turn = turn_order calls kept m w.turn;
    last = w.last;
    timed = each_order (IsTimed w.last) calls kept m w.timed;
  }

  -- an order of the calls as they are kept is one of them as they are given
  pub order_given : (calls kept order : List (Call O)) → IsMerge calls kept → IsOrderOf kept order →
      IsOrderOf calls order
  order_given calls kept order m h = record { left = h.left; merges = λ k. h.merges k ∙ m k; never = h.never }

  -- and none of them as they are kept is none
  pub none_given : (s : S) (calls kept : List (Call O)) → IsMerge calls kept → (IsLinearizable X s kept → ⊥) →
      (IsLinearizable X) s calls → ⊥
  none_given s calls kept m h l = h (record {
    order = l.order;
    orders = record { left = l.orders.left; merges = λ k. l.orders.merges k ∙ sym (m k); never = l.orders.never };
    linearization = l.linearization;
  })

  -- what is found in some steps is found in more, unless nothing is
  pub more_steps : {P : Type 0} (at : P → Configuration S O) (s : S) (calls : List (Call O)) (few steps : ℕ)
      (found : Found P) → few ≤ steps → (IsUnknown found.finding → ⊥) → IsFoundIn X at s calls few found →
      IsFoundIn X at s calls steps found
  more_steps at s calls few steps found l known h = record {
    within = let w = h.within in omega arith;
    run = h.run;
    finds = h.finds;
    spent = λ none. absurd (known none);
  }
