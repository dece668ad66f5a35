-- Histories of two transactions over registers.
use Rattle.std.proofs.Common.{◌≡◌, ◌≤◌, ◌<◌, ℕ, suc, zero, Bool, List, [], ◌∷◌, ◌++◌, refl, sym, ap}
use Rattle.std.proofs.Common.{subst}
use Rattle.std.proofs.Common.{arith}
use Rattle.std.specs.Prelude.{codes, get_or}
use Rattle.std.proofs.lemmas.List.Sorted.{IsPermutation-middle}
use Rattle.judge_object.specs.declared.span.Span.{Span}
use Rattle.judge_object.specs.Call.{Call}
use Rattle.judge_object.specs.Linear.{GiveReplies, CallsAreSequential, CallsKeepPrecedence}
use Rattle.judge_object.specs.Orders.{of_client}
use Rattle.judge_object.proofs.Merges.{cons_same, merge_moves}
use Rattle.judge_search.specs.Walk.{InTurn}
use Rattle.judge_search.proofs.Places.{Precedes, times_of, turns_of, precedence_of}
use Rattle.judge_snapshot.specs.Snapshots.{Transaction, calls_of, MayCommit, MayCommitAll, version}
use Rattle.judge_snapshot.specs.Snapshots.{plain_needs, session_needs, strong_needs}
use Rattle.judge_snapshot.specs.Snapshots.{IsStrongSnapshotIsolated}
use Rattle.judge_snapshot.specs.Registers.{Registers, registers, register_writes}
use Rattle.judge_snapshot.specs.Examples.{skew_x, skew_y, write_skew, update_1, update_2}
use Rattle.judge_snapshot.specs.Examples.{set_before, sees_stale, stale_read, own_set, own_unseen, unseen_write}
use Rattle.judge_snapshot.specs.Examples.{WriteSkewIsIsolated, LostUpdateIsNotIsolated, StaleReadIsNotStrong}
use Rattle.judge_snapshot.specs.Examples.{UnseenWriteIsNotSession}
use Rattle.judge_snapshot.proofs.Tests.{false_true}
use Rattle.judge_snapshot.proofs.Pairs.{two_of, by_two, both_of}

code_of : (l : List ℕ) → l ≡ codes "y" → get_or l 0 0 ≡ 121
code_of l e = ap (λ (l : List ℕ). get_or l 0 0) e

pub no_yes : codes "n" ≡ codes "y" → ⊥
no_yes e =
    let h : ◌≡◌ {A = ℕ} 110 121 = code_of (codes "n") e in
    absurd (omega (arith, h))

-- ---- two commits

abbrev tx : Call Registers → ℕ → Transaction Registers
tx c missed = record { call = c; missed = missed }

abbrev Commit2 : (Span → Span → Bool) → List (Transaction Registers) → Type 0
Commit2 needs order = MayCommitAll registers register_writes needs (0, 0) [] order

abbrev Second : (Span → Span → Bool) → Call Registers → Call Registers → ℕ → Type 0
Second needs a b missed = MayCommit registers register_writes needs (0, 0)
    (version registers register_writes (0, 0) [] (tx a 0) ∷ []) (tx b missed)

-- two calls may not commit one after the other if the second may with neither snapshot
two_fail : (needs : Span → Span → Bool) (a b : Call Registers) → (Second needs a b 0 → ⊥) → (Second needs a b 1 → ⊥) →
    (m n : ℕ) → Commit2 needs (tx a m ∷ tx b n ∷ []) → ⊥
two_fail needs a b none one (suc m) n h = let w = h.0.within in absurd (omega (arith, w))
two_fail needs a b none one zero zero h = none h.1.0
two_fail needs a b none one zero (suc zero) h = one h.1.0
two_fail needs a b none one zero (suc (suc n)) h = let w = h.1.0.within in absurd (omega (arith, w))

commits_fail : (needs : Span → Span → Bool) (a b : Call Registers) → (Second needs a b 0 → ⊥) →
    (Second needs a b 1 → ⊥) → (order : List (Transaction Registers)) → Commit2 needs order →
    calls_of order ≡ a ∷ b ∷ [] → ⊥
commits_fail needs a b none one order h e =
    let o = both_of order a b e in
    two_fail needs a b none one o.first o.second (subst (Commit2 needs) o.is h)

-- ---- write skew

skew_order : List (Transaction Registers)
skew_order = tx skew_x 0 ∷ tx skew_y 1 ∷ []

skew_turn : InTurn write_skew
skew_turn = (omega arith, (λ e. absurd (omega arith), tt), (omega arith, tt, tt))

skew_precedes : Precedes write_skew
skew_precedes = ((omega arith, tt), (tt, tt))

skew_isolated : IsStrongSnapshotIsolated registers register_writes (0, 0) write_skew
unfolding skew_order
skew_isolated = record {
  order = skew_order;
  orders = record { left = []; merges = λ k. refl; never = tt };
  commits = (
    record { within = omega arith; reply = refl; apart = tt; fresh = tt },
    (record { within = omega arith; reply = refl; apart = (refl, tt); fresh = (refl, tt) }, tt),
  );
  times = times_of write_skew skew_turn;
  clients = turns_of write_skew skew_turn;
  precedence = precedence_of write_skew skew_turn skew_precedes;
}

pub write_skew_is_isolated : WriteSkewIsIsolated
write_skew_is_isolated = (
  skew_isolated,
  λ h.
      by_two skew_x skew_y refl refl h.order
      (two_of skew_x skew_y refl refl h.order h.selects.left h.selects.all h.selects.never)
      (GiveReplies registers (0, 0)) h.replies
      (λ g. no_yes g.1.0) (λ g. no_yes g.1.0) (λ g. no_yes g.1.0) (λ g. no_yes g.1.0),
)

-- ---- lost update

pub lost_update_is_not_isolated : LostUpdateIsNotIsolated
lost_update_is_not_isolated h =
    by_two update_1 update_2 refl refl (calls_of h.order)
    (two_of update_1 update_2 refl refl (calls_of h.order) h.selects.left h.selects.all h.selects.never)
    (λ l. calls_of h.order ≡ l) refl
    (fails update_1 update_1 (λ g. no_yes g.reply) (λ g. false_true (sym g.apart.0)))
    (fails update_1 update_2 (λ g. no_yes g.reply) (λ g. false_true (sym g.apart.0)))
    (fails update_2 update_1 (λ g. no_yes g.reply) (λ g. false_true (sym g.apart.0)))
    (fails update_2 update_2 (λ g. no_yes g.reply) (λ g. false_true (sym g.apart.0)))
  where
    fails : (a b : Call Registers) → (Second plain_needs a b 0 → ⊥) → (Second plain_needs a b 1 → ⊥) →
        calls_of h.order ≡ a ∷ b ∷ [] → ⊥
    fails a b none one e = commits_fail plain_needs a b none one h.order h.commits e

-- ---- stale read

pub stale_read_is_not_strong : StaleReadIsNotStrong
stale_read_is_not_strong = (
  record {
    order = stale_read;
    orders = record { left = []; merges = λ k. refl; never = tt };
    replies = (refl, (refl, tt));
  },
  λ h.
      by_two sees_stale set_before refl refl (calls_of h.order)
      (two_of sees_stale set_before refl refl (calls_of h.order) h.orders.left
      (merge_moves stale_read (calls_of h.order ++ h.orders.left) h.orders.merges) h.orders.never)
      (λ l. calls_of h.order ≡ l) refl
      (λ e.
      let o : 3 ≤ 2 = subst CallsAreSequential e h.clients 0 1 sees_stale sees_stale refl refl (omega arith) refl in
      absurd (omega (arith, o)))
      (λ e.
      let o : 1 < 0 = subst CallsKeepPrecedence e h.precedence 1 0 set_before sees_stale refl refl (omega arith) in
      absurd (omega (arith, o)))
      (commits_fail strong_needs set_before sees_stale (λ g. no_yes g.reply) (λ g. false_true (sym g.fresh.0)) h.order
      h.commits)
      (λ e.
      let o : 1 ≤ 0 = subst CallsAreSequential e h.clients 0 1 set_before set_before refl refl (omega arith) refl in
      absurd (omega (arith, o))),
)

-- ---- own write unseen

begins_same : (a b : Call Registers) → a ≡ b → a.begin ≡ b.begin
begins_same a b e = ap (λ (c : Call Registers). c.begin) e

abbrev IsUnseenOrder : List (Call Registers) → List (Call Registers) → Type 0
IsUnseenOrder left order = of_client 1 (order ++ left) ≡ own_set ∷ own_unseen ∷ []

pub unseen_write_is_not_session : UnseenWriteIsNotSession
unseen_write_is_not_session = (
  record {
    order = own_unseen ∷ own_set ∷ [];
    selects = record { left = []; all = IsPermutation-middle (own_set ∷ []) own_unseen []; never = tt };
    replies = (refl, (refl, tt));
  },
  λ h.
      by_two own_set own_unseen refl refl (calls_of h.order)
      (two_of own_set own_unseen refl refl (calls_of h.order) h.orders.left
      (merge_moves unseen_write (calls_of h.order ++ h.orders.left) h.orders.merges) h.orders.never)
      (λ l. (calls_of h.order ≡ l) × IsUnseenOrder h.orders.left l) (refl, h.orders.merges 1)
      (λ g. twice h.orders.left g.1)
      (λ g.
      commits_fail session_needs own_set own_unseen (λ g. no_yes g.reply) (λ g. false_true (sym g.fresh.0)) h.order
      h.commits g.0)
      (λ g. late own_set h.orders.left g.1)
      (λ g. late own_unseen h.orders.left g.1),
)
  where
    late : (b : Call Registers) (left : List (Call Registers)) → IsUnseenOrder left (own_unseen ∷ b ∷ []) → ⊥
    late b left e =
        let o : 2 ≡ 0 = begins_same own_unseen own_set
        (cons_same own_unseen own_set (of_client 1 (b ∷ left)) (own_unseen ∷ []) e).0 in
        absurd (omega (arith, o))

    twice : (left : List (Call Registers)) → IsUnseenOrder left (own_set ∷ own_set ∷ []) → ⊥
    twice left e =
        let one = cons_same own_set own_set (own_set ∷ of_client 1 left) (own_unseen ∷ []) e in
        let o : 0 ≡ 2 = begins_same own_set own_unseen (cons_same own_set own_unseen (of_client 1 left) [] one.1).0 in
        absurd (omega (arith, o))
