-- An order that is a linearization is one of calls that go one after the other, until no completed
-- call is left.
use Rattle.std.proofs.Common.{◌≡◌, ◌≤◌, ℕ, false, List, [], ◌∷◌, ◌++◌, refl, sym, subst, arith}
use Rattle.judge_object.specs.Call.{Call}
use Rattle.judge_object.specs.Call.{IsBehind}
use Rattle.judge_object.specs.Linear.{GiveReplies, IsLinearization}
use Rattle.judge_search.proofs.Right.{answer_of, of_answer}
use Rattle.judge_object.specs.Call.{is_completed}
use Rattle.judge_object.specs.Orders.{IsMerge, IsOrderOf}
use Rattle.judge_search.specs.Configurations.{Configuration, Goes, CallsReach, start, without_next, after_call}
use Rattle.judge_search.specs.Configurations.{answered}
use Rattle.judge_search.specs.Walk.{IsTimed, IsWhole, Completes}
use Rattle.judge_search.proofs.Each.{Each}
use Rattle.judge_search.proofs.Clients.{InTurn, each_order, turn_order, order_first, order_rest, order_more}
use Rattle.judge_search.proofs.Left.{each_without, whole_after, none_answered, never_answered}
use Rattle.judge_search.proofs.Places.{Precedes, times_of, turns_of, precedence_of, precedes_from}
use Rattle.judge_object.specs.Rules.{Rules}

module _ {S O R : Type 0} (X : Rules S O R) where
  -- an order of the calls that are left, of which each gives its reply
  record Orders (at : Configuration S O) (order : List (Call O)) : Type 0 where
    left : List (Call O)
    merges : IsMerge at.rest (order ++ left)
    never : Each (λ c. is_completed c ≡ false) left
    replies : (GiveReplies X) at.state order
    precedes : Precedes order

  each_both : (P : (Call O) → Type 0) (xs ys : List (Call O)) → Each P xs → Each P ys → Each P (xs ++ ys)
  each_both P [] ys h g = g
  each_both P (x ∷ xs) ys h g = (h.0, each_both P xs ys h.1 g)

  each_front : (P : (Call O) → Type 0) (xs ys : List (Call O)) → Each P (xs ++ ys) → Each P xs
  each_front P [] ys h = tt
  each_front P (x ∷ xs) ys h = (h.0, each_front P xs ys h.1)

  each_back : (P : (Call O) → Type 0) (xs ys : List (Call O)) → Each P (xs ++ ys) → Each P ys
  each_back P [] ys h = h
  each_back P (x ∷ xs) ys h = each_back P xs ys h.1

  -- a pending call ends later than all begin
  ends_last : (last b : ℕ) (cs : List (Call O)) → b ≤ last → Each (IsTimed last) cs →
      Each (λ c. is_completed c ≡ false) cs →
      Each (λ c. b ≤ c.end) cs
  ends_last last b [] l h n = tt
  ends_last last b (c ∷ cs) l h n = (let e : last ≤ c.end = h.0.ends n.0 in omega arith, ends_last last b cs l h.1 n.1)

  -- an order begins with a call that goes, and goes on with an order of the others
  goes_first : (at : Configuration S O) (c : Call O) (order : List (Call O)) → IsWhole at.rest → Orders at (c ∷ order) →
      (Goes X) at c × Orders (after_call X at c) order
  goes_first at c order w h =
      let all = c ∷ (order ++ h.left) in
      let turn : InTurn all = turn_order at.rest all h.merges w.turn in
      let timed : Each (IsTimed w.last) all = each_order (IsTimed w.last) at.rest all h.merges w.timed in
      let later : Each (λ d. c.begin ≤ d.end) all = (
        turn.0,
        each_both (λ d. c.begin ≤ d.end) order h.left h.precedes.0
            (ends_last w.last c.begin h.left timed.0.begins (each_back (IsTimed w.last) order h.left timed.1) h.never),
      ) in (
        record {
          may = record {
            first = order_first at.rest c (order ++ h.left) h.merges;
            early = each_order (λ d. c.begin ≤ d.end) all at.rest (λ k. sym (h.merges k)) later;
          };
          fit = (of_answer X) (X.run at.state c.op).1 c.reply h.replies.0;
        },
        record {
          left = h.left;
          merges = order_rest at.rest c (order ++ h.left) h.merges;
          never = h.never;
          replies = h.replies.1;
          precedes = h.precedes.1;
        },
      )

  none_left : (rest left : List (Call O)) → IsMerge rest left → Each (λ c. is_completed c ≡ false) left →
      answered rest ≡ 0
  none_left rest left m n = (none_answered X) rest (each_order (λ c. is_completed c ≡ false) left rest
      (λ k. sym (m k)) n)

  completes_of : (at : Configuration S O) (order : List (Call O)) → IsWhole at.rest → Orders at order →
      (Completes X) at order
  completes_of at [] w h = record { to = at; reaches = refl; done = none_left at.rest h.left h.merges h.never }
  completes_of at (c ∷ order) w h =
      let first = goes_first at c order w h in
      let rest = completes_of (after_call X at c) order (whole_after X at c w) first.1 in
      record { to = rest.to; reaches = (first.0, rest.reaches); done = rest.done }

  -- and the converse
  orders_of : (at to : Configuration S O) (order : List (Call O)) → IsWhole at.rest → (CallsReach X) at order to →
      answered to.rest ≡ 0 →
      Orders at order
  orders_of at to [] w r d = record {
    left = at.rest;
    merges = λ k. refl;
    never = (never_answered X) at.rest (subst (λ (x : Configuration S O). answered x.rest ≡ 0) (sym r) d);
    replies = tt;
    precedes = tt;
  }
  orders_of at to (c ∷ order) w r d =
      let h = orders_of (after_call X at c) to order (whole_after X at c w) r.1 d in
      let later = (each_without X) (λ e. c.begin ≤ e.end) c.client at.rest r.0.may.early in
      record {
        left = h.left;
        merges = order_more at.rest c (order ++ h.left) r.0.may.first h.merges;
        never = h.never;
        replies = (answer_of X (X.run at.state c.op).1 c.reply r.0.fit, h.replies);
        precedes = (
          each_front (λ e. c.begin ≤ e.end) order h.left
              (each_order (λ e. c.begin ≤ e.end) (without_next c.client at.rest) (order ++ h.left) h.merges later),
          h.precedes,
        );
      }

  turn_front : (xs ys : List (Call O)) → InTurn (xs ++ ys) → InTurn xs
  turn_front [] ys h = tt
  turn_front (x ∷ xs) ys h = (h.0, each_front (λ d. IsBehind d x) xs ys h.1, turn_front xs ys h.2)

  -- what completes the start is a linearization
  pub linearization_of : (s : S) (calls order : List (Call O)) → IsWhole calls → (Completes X) (start s calls) order →
      IsOrderOf calls order × (IsLinearization X) s order
  linearization_of s calls order w h =
      let o = orders_of (start s calls) h.to order w h.reaches h.done in
      let turn = turn_front order o.left (turn_order calls (order ++ o.left) o.merges w.turn) in (
        record { left = o.left; merges = o.merges; never = o.never },
        record {
          replies = o.replies;
          times = times_of order turn;
          clients = turns_of order turn;
          precedence = precedence_of order turn o.precedes;
        },
      )

  -- and a linearization completes it
  pub completes_start : (s : S) (calls order : List (Call O)) → IsWhole calls → IsOrderOf calls order →
      (IsLinearization X) s order → (Completes X) (start s calls) order
  completes_start s calls order w m l =
      completes_of (start s calls) order w
      (record {
        left = m.left;
        merges = m.merges;
        never = m.never;
        replies = l.replies;
        precedes = precedes_from order l.precedence;
      })
