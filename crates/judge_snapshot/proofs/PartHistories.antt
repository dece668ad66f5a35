-- Parts of snapshot isolated histories are snapshot isolated.
use Rattle.std.proofs.Common.{◌≡◌, ℕ, ◌≤◌, ◌==◌, Bool, true, false, cond, List, [], ◌∷◌, ◌++◌, Option, Some, None, refl}
use Rattle.std.proofs.Common.{sym, ap, ◌∙◌, subst}
use Rattle.std.specs.Prelude.{nat_lt}
use Rattle.std.specs.List.{filter_map, cons_option}
use Rattle.judge_object.specs.Rules.{Rules}
use Rattle.judge_object.specs.Call.{Call, EachCall, IsBehind, is_completed}
use Rattle.judge_object.specs.Linear.{CallsTakeTime, CallsAreSequential, CallsKeepPrecedence}
use Rattle.judge_object.specs.Orders.{of_client, IsMerge, IsOrderOf}
use Rattle.judge_object.specs.declared.span.TheConstants.{NEVER}
use Rattle.judge_object.proofs.Cuts.{filter_append}
use Rattle.judge_search.proofs.Each.{Each as Every}
use Rattle.judge_search.specs.Walk.{InTurn}
use Rattle.judge_search.proofs.Places.{Precedes, times_of, turns_of, precedence_of, in_turn_from, precedes_from}
use Rattle.judge_snapshot.specs.WriteSets.{WriteSets}
use Rattle.judge_snapshot.specs.Snapshots.{calls_of, strong_needs}
use Rattle.judge_snapshot.specs.Parts.{PartsAreIsolated}
use Rattle.judge_snapshot.proofs.Parts.{parts_may_commit}

module _ {O O' : Type 0} (part : Call O → Option (Call O'))
    (client : (c : Call O) (d : Call O') → part c ≡ Some d → d.client ≡ c.client)
    (begin : (c : Call O) (d : Call O') → part c ≡ Some d → d.begin ≡ c.begin)
    (end : (c : Call O) (d : Call O') → part c ≡ Some d → d.end ≡ c.end) where
  client_part : (k : ℕ) (cs : List (Call O)) → of_client k (filter_map part cs) ≡ filter_map part (of_client k cs)
  client_part k [] = refl
  client_part k (c ∷ cs) = go (part c) refl (c.client == k) refl (client_part k cs)
    where
      go : (o : Option (Call O')) → part c ≡ o → (b : Bool) → (c.client == k) ≡ b →
          of_client k (filter_map part cs) ≡ filter_map part (of_client k cs) →
          of_client k (cons_option o (filter_map part cs)) ≡
          filter_map part (cond b (c ∷ of_client k cs) (of_client k cs))
      go None e true t h = h ∙ ap (λ o. cons_option o (filter_map part (of_client k cs))) (sym e)
      go None e false t h = h
      go (Some d) e true t h =
          let same : (d.client == k) ≡ true = ap (λ n. n == k) (client c d e) ∙ t in
          ap (λ b. cond b (d ∷ of_client k (filter_map part cs)) (of_client k (filter_map part cs))) same
          ∙ ap (λ l. d ∷ l) h ∙ ap (λ o. cons_option o (filter_map part (of_client k cs))) (sym e)
      go (Some d) e false t h =
          let same : (d.client == k) ≡ false = ap (λ n. n == k) (client c d e) ∙ t in
          ap (λ b. cond b (d ∷ of_client k (filter_map part cs)) (of_client k (filter_map part cs))) same ∙ h

  merge_part : (xs ys : List (Call O)) → IsMerge xs ys → IsMerge (filter_map part xs) (filter_map part ys)
  merge_part xs ys m k = client_part k ys ∙ ap (filter_map part) (m k) ∙ sym (client_part k xs)

  -- a fact of each call gives one of each part
  module _ (P : Call O → Type 0) (Q : Call O' → Type 0)
      (gives : (c : Call O) (d : Call O') → part c ≡ Some d → P c → Q d) where
    every_part : (cs : List (Call O)) → Every P cs → Every Q (filter_map part cs)
    every_part [] h = tt
    every_part (c ∷ cs) h = go (part c) refl (every_part cs h.1)
      where
        go : (o : Option (Call O')) → part c ≡ o → Every Q (filter_map part cs) →
            Every Q (cons_option o (filter_map part cs))
        go None e more = more
        go (Some d) e more = (gives c d e h.0, more)

    each_part : (cs : List (Call O)) → EachCall P cs → EachCall Q (filter_map part cs)
    each_part [] h = tt
    each_part (c ∷ cs) h = go (part c) refl (each_part cs h.1)
      where
        go : (o : Option (Call O')) → part c ≡ o → EachCall Q (filter_map part cs) →
            EachCall Q (cons_option o (filter_map part cs))
        go None e more = more
        go (Some d) e more = (gives c d e h.0, more)

  behind : (c e : Call O) (d f : Call O') → part c ≡ Some d → part e ≡ Some f → IsBehind e c → IsBehind f d
  behind c e d f p q h same =
      subst (λ n. n ≤ f.begin) (sym (end c d p))
      (subst (λ n. c.end ≤ n) (sym (begin e f q)) (h (sym (client c d p) ∙ same ∙ client e f q)))

  turn_part : (cs : List (Call O)) → InTurn cs → InTurn (filter_map part cs)
  turn_part [] h = tt
  turn_part (c ∷ cs) h = go (part c) refl (turn_part cs h.2)
    where
      go : (o : Option (Call O')) → part c ≡ o → InTurn (filter_map part cs) →
          InTurn (cons_option o (filter_map part cs))
      go None e more = more
      go (Some d) e more = (
        subst (λ n. n ≤ d.end) (sym (begin c d e)) (subst (λ n. c.begin ≤ n) (sym (end c d e)) h.0),
        each_part (λ x. IsBehind x c) (λ y. IsBehind y d) (λ x y p b. behind c x d y e p b) cs h.1,
        more,
      )

  precedes_part : (cs : List (Call O)) → Precedes cs → Precedes (filter_map part cs)
  precedes_part [] h = tt
  precedes_part (c ∷ cs) h = go (part c) refl (precedes_part cs h.1)
    where
      go : (o : Option (Call O')) → part c ≡ o → Precedes (filter_map part cs) →
          Precedes (cons_option o (filter_map part cs))
      go None e more = more
      go (Some d) e more = (
        every_part (λ x. c.begin ≤ x.end) (λ y. d.begin ≤ y.end)
            (λ x y p b. subst (λ n. n ≤ y.end) (sym (begin c d e)) (subst (λ n. c.begin ≤ n) (sym (end x y p)) b)) cs
            h.0,
        more,
      )

  order_part : (calls order : List (Call O)) → IsOrderOf calls order →
      IsOrderOf (filter_map part calls) (filter_map part order)
  order_part calls order h = record {
    left = filter_map part h.left;
    merges = subst (IsMerge (filter_map part calls)) (filter_append part order h.left)
        (merge_part calls (order ++ h.left) h.merges);
    never = each_part (λ c. is_completed c ≡ false) (λ d. is_completed d ≡ false)
        (λ c d e n. ap (λ n. nat_lt n NEVER) (end c d e) ∙ n) h.left h.never;
  }

module _ {S O R W S' O' R' W' : Type 0} (X : Rules S O R) (V : WriteSets S O W) (X' : Rules S' O' R')
    (V' : WriteSets S' O' W') where
  pub parts_are_isolated : PartsAreIsolated X V X' V'
  parts_are_isolated state part k is s calls h =
      let p = parts_may_commit X V X' V' state part strong_needs strong_needs is s h.order h.commits in
      let turn = turn_part part k.client k.begin k.end (calls_of h.order)
      (in_turn_from (calls_of h.order) h.times h.clients) in
      let first = precedes_part part k.client k.begin k.end (calls_of h.order)
      (precedes_from (calls_of h.order) h.precedence) in
      record {
        order = p.transactions;
        orders = subst (IsOrderOf (filter_map part calls)) (sym p.calls)
            (order_part part k.client k.begin k.end calls (calls_of h.order) h.orders);
        commits = p.may;
        times = subst CallsTakeTime (sym p.calls) (times_of (filter_map part (calls_of h.order)) turn);
        clients = subst CallsAreSequential (sym p.calls) (turns_of (filter_map part (calls_of h.order)) turn);
        precedence = subst CallsKeepPrecedence (sym p.calls)
            (precedence_of (filter_map part (calls_of h.order)) turn first);
      }
