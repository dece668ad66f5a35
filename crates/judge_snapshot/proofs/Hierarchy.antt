-- Which levels of isolation imply which.
use Rattle.std.proofs.Common.{◌≡◌, ◌==◌, ◌||◌, Bool, true, false, List, [], ◌∷◌, ◌++◌, refl, sym, ap}
use Rattle.std.proofs.Common.{subst, arith, take}
use Rattle.std.specs.Prelude.{nat_lt}
use Rattle.judge_object.specs.declared.span.Span.{Span}
use Rattle.judge_object.specs.Rules.{Rules, IsAnswerOf}
use Rattle.judge_object.specs.Call.{Call, span_of}
use Rattle.judge_object.specs.Linear.{GiveReplies, CallsTakeTime, CallsAreSequential, CallsKeepPrecedence}
use Rattle.judge_object.specs.Orders.{IsOrderOf, IsLinearizable}
use Rattle.judge_object.specs.Levels.{IsSelectionOf, IsSequentiallyConsistent, IsSerializable}
use Rattle.judge_object.proofs.Levels.{linearizable_is_sequential, sequential_is_serializable}
use Rattle.judge_object.proofs.Merges.{merge_moves}
use Rattle.judge_snapshot.specs.WriteSets.{WriteSets, AreWriteSets, InstallsOwn}
use Rattle.judge_snapshot.specs.Snapshots.{Transaction, Version, Each, calls_of, MayCommit, MayCommitAll, state_of}
use Rattle.judge_snapshot.specs.Snapshots.{version}
use Rattle.judge_snapshot.specs.Snapshots.{session_needs, strong_needs, plain_needs}
use Rattle.judge_snapshot.specs.Snapshots.{IsStrongSnapshotIsolated, IsSessionSnapshotIsolated, IsSnapshotIsolated}
use Rattle.judge_snapshot.specs.Hierarchy.{StrictSerializable, StrongSnapshot, SessionSnapshot, Snapshot, Sequential}
use Rattle.judge_snapshot.specs.Hierarchy.{Serializable, Level, implies, IsAtLevel, ImpliedLevelsHold}
use Rattle.judge_snapshot.proofs.Tests.{false_true}

not_same : (a b : Bool) → (a || b) ≡ false → a ≡ false
not_same true b e = e
not_same false b e = refl

module _ {O : Type 0} where
  -- each call sees all before it
  abbrev serial : List (Call O) → List (Transaction O)
  serial [] = []
  serial (c ∷ cs) = record { call = c; missed = 0 } ∷ serial cs

  calls_serial : (cs : List (Call O)) → calls_of (serial cs) ≡ cs
  calls_serial [] = refl
  calls_serial (c ∷ cs) = ap (λ l. c ∷ l) (calls_serial cs)

module _ {S O R W : Type 0} (X : Rules S O R) (V : WriteSets S O W) where
  -- a call that misses nothing leaves what its operation leaves, and its own writes go on being installed
  own_next : (s : S) (c : Call O) → InstallsOwn X V s → InstallsOwn X V (V.install (V.writes s c.op) s)
  own_next s c own = subst (InstallsOwn X V) (sym (own [] c.op)) (λ calls op. own (c ∷ calls) op)

  serial_may : (needs : Span → Span → Bool) (s : S) (past : List (Version S W)) → InstallsOwn X V (state_of s past) →
      (cs : List (Call O)) → GiveReplies X (state_of s past) cs → MayCommitAll X V needs s past (serial cs)
  serial_may needs s past own [] h = tt
  serial_may needs s past own (c ∷ cs) h = (
    first past h.0,
    serial_may needs s (version X V s past (record { call = c; missed = 0 }) ∷ past) (keeps past own) cs
        (next past own h.1),
  )
    where
      first : (past : List (Version S W)) → IsAnswerOf X (X.run (state_of s past) c.op).1 c.reply →
          MayCommit X V needs s past (record { call = c; missed = 0 })
      first [] h = record { within = omega arith; reply = h; apart = tt; fresh = tt }
      first (v ∷ past) h = record { within = omega arith; reply = h; apart = tt; fresh = tt }

      keeps : (past : List (Version S W)) → InstallsOwn X V (state_of s past) →
          InstallsOwn X V (version X V s past (record { call = c; missed = 0 })).state
      keeps [] own = own_next s c own
      keeps (v ∷ past) own = own_next v.state c own

      next : (past : List (Version S W)) → InstallsOwn X V (state_of s past) →
          GiveReplies X (X.run (state_of s past) c.op).0 cs →
          GiveReplies X (version X V s past (record { call = c; missed = 0 })).state cs
      next [] own h = subst (λ (t : S). GiveReplies X t cs) (sym (own [] c.op)) h
      next (v ∷ past) own h = subst (λ (t : S). GiveReplies X t cs) (sym (own [] c.op)) h

  -- ---- what consistency implies

  module _ (s : S) (own : InstallsOwn X V s) (calls : List (Call O)) where
    linearizable_is_strong : IsLinearizable X s calls → IsStrongSnapshotIsolated X V s calls
    linearizable_is_strong h =
        let is = sym (calls_serial h.order) in
        record {
          order = serial h.order;
          orders = subst (IsOrderOf calls) is h.orders;
          commits = serial_may strong_needs s [] own h.order h.linearization.replies;
          times = subst CallsTakeTime is h.linearization.times;
          clients = subst CallsAreSequential is h.linearization.clients;
          precedence = subst CallsKeepPrecedence is h.linearization.precedence;
        }

    sequential_is_session : IsSequentiallyConsistent X s calls → IsSessionSnapshotIsolated X V s calls
    sequential_is_session h = record {
      order = serial h.order;
      orders = subst (IsOrderOf calls) (sym (calls_serial h.order)) h.orders;
      commits = serial_may session_needs s [] own h.order h.replies;
    }

    serializable_is_snapshot : IsSerializable X s calls → IsSnapshotIsolated X V s calls
    serializable_is_snapshot h = record {
      order = serial h.order;
      selects = subst (IsSelectionOf calls) (sym (calls_serial h.order)) h.selects;
      commits = serial_may plain_needs s [] own h.order h.replies;
    }

  -- ---- less is needed

  module _ (needs less : Span → Span → Bool)
      (weaker : (c d : Span) → needs c d ≡ false → less c d ≡ false) where
    each_less : (call : Span) (vs : List (Version S W)) → Each (λ v. needs v.span call ≡ false) vs →
        Each (λ v. less v.span call ≡ false) vs
    each_less call [] h = tt
    each_less call (v ∷ vs) h = (weaker v.span call h.0, each_less call vs h.1)

    may_less : (s : S) (past : List (Version S W)) (ts : List (Transaction O)) →
        MayCommitAll X V needs s past ts → MayCommitAll X V less s past ts
    may_less s past [] h = tt
    may_less s past (t ∷ ts) h = (
      record {
        within = h.0.within;
        reply = h.0.reply;
        apart = h.0.apart;
        fresh = each_less (span_of t.call) (take t.missed past) h.0.fresh;
      },
      may_less s (version X V s past t ∷ past) ts h.1,
    )

  strong_is_session : (s : S) (calls : List (Call O)) → IsStrongSnapshotIsolated X V s calls →
      IsSessionSnapshotIsolated X V s calls
  strong_is_session s calls h = record {
    order = h.order;
    orders = h.orders;
    commits = may_less strong_needs session_needs
        (λ c d e. not_same (c.client == d.client) (nat_lt c.end d.begin) e) s [] h.order h.commits;
  }

  session_is_snapshot : (s : S) (calls : List (Call O)) → IsSessionSnapshotIsolated X V s calls →
      IsSnapshotIsolated X V s calls
  session_is_snapshot s calls h = record {
    order = h.order;
    selects = record {
      left = h.orders.left;
      all = merge_moves calls (calls_of h.order ++ h.orders.left) h.orders.merges;
      never = h.orders.never;
    };
    commits = may_less session_needs plain_needs (λ c d e. refl) s [] h.order h.commits;
  }

  -- ---- the table

  module _ (s : S) (own : InstallsOwn X V s) (calls : List (Call O)) where
    holds : (level other : Level) → implies level other ≡ true → IsAtLevel X V level s calls →
        IsAtLevel X V other s calls
    holds StrictSerializable StrictSerializable e h = h
    holds StrictSerializable StrongSnapshot e h = linearizable_is_strong s own calls h
    holds StrictSerializable SessionSnapshot e h = strong_is_session s calls (linearizable_is_strong s own calls h)
    holds StrictSerializable Snapshot e h = session_is_snapshot s calls
        (strong_is_session s calls (linearizable_is_strong s own calls h))
    holds StrictSerializable Sequential e h = linearizable_is_sequential X s calls h
    holds StrictSerializable Serializable e h =
        sequential_is_serializable X s calls (linearizable_is_sequential X s calls h)
    holds StrongSnapshot StrictSerializable e h = absurd (false_true e)
    holds StrongSnapshot StrongSnapshot e h = h
    holds StrongSnapshot SessionSnapshot e h = strong_is_session s calls h
    holds StrongSnapshot Snapshot e h = session_is_snapshot s calls (strong_is_session s calls h)
    holds StrongSnapshot Sequential e h = absurd (false_true e)
    holds StrongSnapshot Serializable e h = absurd (false_true e)
    holds SessionSnapshot StrictSerializable e h = absurd (false_true e)
    holds SessionSnapshot StrongSnapshot e h = absurd (false_true e)
    holds SessionSnapshot SessionSnapshot e h = h
    holds SessionSnapshot Snapshot e h = session_is_snapshot s calls h
    holds SessionSnapshot Sequential e h = absurd (false_true e)
    holds SessionSnapshot Serializable e h = absurd (false_true e)
    holds Snapshot StrictSerializable e h = absurd (false_true e)
    holds Snapshot StrongSnapshot e h = absurd (false_true e)
    holds Snapshot SessionSnapshot e h = absurd (false_true e)
    holds Snapshot Snapshot e h = h
    holds Snapshot Sequential e h = absurd (false_true e)
    holds Snapshot Serializable e h = absurd (false_true e)
    holds Sequential StrictSerializable e h = absurd (false_true e)
    holds Sequential StrongSnapshot e h = absurd (false_true e)
    holds Sequential SessionSnapshot e h = sequential_is_session s own calls h
    holds Sequential Snapshot e h = session_is_snapshot s calls (sequential_is_session s own calls h)
    holds Sequential Sequential e h = h
    holds Sequential Serializable e h = sequential_is_serializable X s calls h
    holds Serializable StrictSerializable e h = absurd (false_true e)
    holds Serializable StrongSnapshot e h = absurd (false_true e)
    holds Serializable SessionSnapshot e h = absurd (false_true e)
    holds Serializable Snapshot e h = serializable_is_snapshot s own calls h
    holds Serializable Sequential e h = absurd (false_true e)
    holds Serializable Serializable e h = h

  pub implied_levels_hold : AreWriteSets X V → ImpliedLevelsHold X V
  implied_levels_hold laws level other e s start calls h = holds s (laws.own s start) calls level other e h
