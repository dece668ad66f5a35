-- Each level of snapshot isolation is a level of consistency of commits.
use Rattle.std.proofs.Common.{◌≡◌, List, [], ◌∷◌, map, refl, sym, subst, inl, inr}
use Rattle.std.proofs.Common.{Bool}
use Rattle.judge_object.specs.declared.span.Span.{Span}
use Rattle.judge_object.specs.Rules.{Rules}
use Rattle.judge_object.specs.Call.{Call}
use Rattle.judge_object.specs.Linear.{GiveReplies, CallsTakeTime, CallsAreSequential, CallsKeepPrecedence}
use Rattle.judge_object.specs.Orders.{IsOrderOf, IsLinearizable}
use Rattle.judge_object.specs.Levels.{IsSelectionOf, IsSequentiallyConsistent, IsSerializable}
use Rattle.judge_snapshot.specs.WriteSets.{WriteSets, AreWriteSets}
use Rattle.judge_snapshot.specs.Snapshots.{Transaction, calls_of, MayCommitAll}
use Rattle.judge_snapshot.specs.Snapshots.{session_needs, strong_needs, plain_needs}
use Rattle.judge_snapshot.specs.Snapshots.{IsStrongSnapshotIsolated, IsSessionSnapshotIsolated, IsSnapshotIsolated}
use Rattle.judge_snapshot.specs.Possible.{Past, past_of, claim, commits}
use Rattle.judge_snapshot.specs.Laws.{StrongIsLinearizable, SessionIsSequential, SnapshotIsSerializable}
use Rattle.judge_snapshot.proofs.Tests.{In}
use Rattle.judge_snapshot.proofs.Possible.{Choice, chosen, replies}
use Rattle.judge_snapshot.proofs.Claims.{order_claims, claims_order, selection_claims, claims_selection}
use Rattle.judge_snapshot.proofs.Claims.{time_claims, claims_time, turn_claims, claims_turn}
use Rattle.judge_snapshot.proofs.Claims.{precedence_claims, claims_precedence}

module _ {S O R W : Type 0} (X : Rules S O R) (V : WriteSets S O W) where
  module _ (needs : Span → Span → Bool) where
    -- the transactions of an order of claims that give their replies
    record Commits (s : S) (order : List (Call O)) : Type 0 where
      transactions : List (Transaction O)
      calls : calls_of transactions ≡ order
      may : MayCommitAll X V needs s [] transactions

    only : (s : S) (order : List (Call O)) → Choice X V needs (past_of s ∷ []) order → Commits s order
    only s order h = record {
      transactions = h.transactions;
      calls = h.calls;
      may = one h.is h.may;
    }
      where
        one : In h.from (past_of s ∷ []) → MayCommitAll X V needs h.from.first h.from.versions h.transactions →
            MayCommitAll X V needs s [] h.transactions
        one (inl e) m = subst (λ (p : Past S W). MayCommitAll X V needs p.first p.versions h.transactions) e m
        one (inr e) m = absurd e

    commits_of : (s : S) (from : List (Call O)) (order : List (Call (Call O))) → map claim from ≡ order →
        GiveReplies (commits X V needs) (past_of s ∷ []) order → Commits s from
    commits_of s from order e h =
        only s from (chosen X V needs (past_of s) [] from
        (subst (GiveReplies (commits X V needs) (past_of s ∷ [])) (sym e) h))

    of_commits : AreWriteSets X V → (s : S) (transactions : List (Transaction O)) →
        MayCommitAll X V needs s [] transactions →
        GiveReplies (commits X V needs) (past_of s ∷ []) (map claim (calls_of transactions))
    of_commits laws s transactions h = replies X V needs laws (past_of s ∷ []) (past_of s) transactions (inl refl) h

  to_linearizable : AreWriteSets X V → (s : S) (calls : List (Call O)) → IsStrongSnapshotIsolated X V s calls →
      IsLinearizable (commits X V strong_needs) (past_of s ∷ []) (map claim calls)
  to_linearizable laws s calls h = record {
    order = map claim (calls_of h.order);
    orders = order_claims calls (calls_of h.order) h.orders;
    linearization = record {
      replies = of_commits strong_needs laws s h.order h.commits;
      times = time_claims (calls_of h.order) h.times;
      clients = turn_claims (calls_of h.order) h.clients;
      precedence = precedence_claims (calls_of h.order) h.precedence;
    };
  }

  from_linearizable : (s : S) (calls : List (Call O)) →
      IsLinearizable (commits X V strong_needs) (past_of s ∷ []) (map claim calls) →
      IsStrongSnapshotIsolated X V s calls
  from_linearizable s calls h =
      let c = claims_order calls h.order h.orders in
      let t = commits_of strong_needs s c.from h.order c.gives h.linearization.replies in
      record {
        order = t.transactions;
        orders = subst (IsOrderOf calls) (sym t.calls) c.orders;
        commits = t.may;
        times = subst CallsTakeTime (sym t.calls) (claims_time c.from
            (subst CallsTakeTime (sym c.gives) h.linearization.times));
        clients = subst CallsAreSequential (sym t.calls) (claims_turn c.from
            (subst CallsAreSequential (sym c.gives) h.linearization.clients));
        precedence = subst CallsKeepPrecedence (sym t.calls) (claims_precedence c.from
            (subst CallsKeepPrecedence (sym c.gives) h.linearization.precedence));
      }

  to_sequential : AreWriteSets X V → (s : S) (calls : List (Call O)) → IsSessionSnapshotIsolated X V s calls →
      IsSequentiallyConsistent (commits X V session_needs) (past_of s ∷ []) (map claim calls)
  to_sequential laws s calls h = record {
    order = map claim (calls_of h.order);
    orders = order_claims calls (calls_of h.order) h.orders;
    replies = of_commits session_needs laws s h.order h.commits;
  }

  from_sequential : (s : S) (calls : List (Call O)) →
      IsSequentiallyConsistent (commits X V session_needs) (past_of s ∷ []) (map claim calls) →
      IsSessionSnapshotIsolated X V s calls
  from_sequential s calls h =
      let c = claims_order calls h.order h.orders in
      let t = commits_of session_needs s c.from h.order c.gives h.replies in
      record {
        order = t.transactions;
        orders = subst (IsOrderOf calls) (sym t.calls) c.orders;
        commits = t.may;
      }

  to_serializable : AreWriteSets X V → (s : S) (calls : List (Call O)) → IsSnapshotIsolated X V s calls →
      IsSerializable (commits X V plain_needs) (past_of s ∷ []) (map claim calls)
  to_serializable laws s calls h = record {
    order = map claim (calls_of h.order);
    selects = selection_claims calls (calls_of h.order) h.selects;
    replies = of_commits plain_needs laws s h.order h.commits;
  }

  from_serializable : (s : S) (calls : List (Call O)) →
      IsSerializable (commits X V plain_needs) (past_of s ∷ []) (map claim calls) →
      IsSnapshotIsolated X V s calls
  from_serializable s calls h =
      let c = claims_selection calls h.order h.selects in
      let t = commits_of plain_needs s c.from h.order c.gives h.replies in
      record {
        order = t.transactions;
        selects = subst (IsSelectionOf calls) (sym t.calls) c.selects;
        commits = t.may;
      }

  pub strong_is_linearizable : AreWriteSets X V → StrongIsLinearizable X V
  strong_is_linearizable laws s calls = (to_linearizable laws s calls, from_linearizable s calls)

  pub session_is_sequential : AreWriteSets X V → SessionIsSequential X V
  session_is_sequential laws s calls = (to_sequential laws s calls, from_sequential s calls)

  pub snapshot_is_serializable : AreWriteSets X V → SnapshotIsSerializable X V
  snapshot_is_serializable laws s calls = (to_serializable laws s calls, from_serializable s calls)
