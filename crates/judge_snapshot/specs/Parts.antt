-- Parts of snapshot isolated histories. A part is a history of another object, such as one key of
-- a store: it has for each call the part of the call that concerns that object, if there is one.
use Rattle.std.specs.Prelude.{◌≡◌, Bool, false, Option, Some, None, List, [], ◌∷◌, filter_map}
use Rattle.judge_object.specs.declared.span.Span.{Span}
use Rattle.judge_object.specs.Rules.{Rules, IsAnswerOf}
use Rattle.judge_object.specs.Call.{Call, span_of}
use Rattle.judge_snapshot.specs.WriteSets.{WriteSets}
use Rattle.judge_snapshot.specs.Snapshots.{Transaction, Each, calls_of, MayCommitAll, strong_needs, IsStrongSnapshotIsolated}

module _ {S O W : Type 0} (V : WriteSets S O W) where
  -- the state after these write sets are installed, of which the last is installed first
  abbrev pub installed : S → List W → S
  installed s [] = s
  installed s (w ∷ ws) = V.install w (installed s ws)

  -- write sets lead from one state to another, and none of them has a key in common with this one
  pub record Reaches (from : S) (w : W) (to : S) : Type 0 where
    pub sets : List W
    pub apart : Each (λ v. V.conflicts v w ≡ false) sets
    pub is : to ≡ installed from sets

module _ {S O R W S' O' R' W' : Type 0} (X : Rules S O R) (V : WriteSets S O W)
    (X' : Rules S' O' R') (V' : WriteSets S' O' W') where
  -- a call gives its reply in a state
  abbrev pub Answers : S → Call O → Type 0
  Answers s call = IsAnswerOf X (X.run s call.op).1 call.reply

  -- these map a state to its part, and a call to its part, if the call has one
  pub record IsPart (state : S → S') (part : Call O → Option (Call O'))
      (needs : Span → Span → Bool) (needs' : Span → Span → Bool) : Type 0 where
    -- the part of a call gives its reply on the part of a snapshot
    pub reply : (s : S) (c : Call O) (d : Call O') → part c ≡ Some d → Answers s c →
        IsAnswerOf X' (X'.run (state s) d.op).1 d.reply
    -- the part of a call writes the part of what the call writes
    pub installs : (s t : S) (c : Call O) (d : Call O') → part c ≡ Some d → Answers s c →
        Reaches V s (V.writes s c.op) t →
        V'.install (V'.writes (state s) d.op) (state t) ≡ state (V.install (V.writes s c.op) t)
    -- a call without a part writes nothing of the part of a state
    pub leaves : (s t : S) (c : Call O) → part c ≡ None → Answers s c →
        Reaches V s (V.writes s c.op) t → state (V.install (V.writes s c.op) t) ≡ state t
    -- the parts of two calls write no common key if the calls write none
    pub apart : (s t : S) (c e : Call O) (d f : Call O') → part c ≡ Some d → part e ≡ Some f →
        Answers s c → Answers t e → V.conflicts (V.writes s c.op) (V.writes t e.op) ≡ false →
        V'.conflicts (V'.writes (state s) d.op) (V'.writes (state t) f.op) ≡ false
    -- the snapshot of a part needs an earlier part only if the snapshot of the call needs the call
    -- of that part
    pub fresh : (c e : Call O) (d f : Call O') → part c ≡ Some d → part e ≡ Some f →
        needs (span_of c) (span_of e) ≡ false → needs' (span_of d) (span_of f) ≡ false

  -- the parts of the calls of transactions may commit in the order of the transactions
  pub record PartsCommit (state : S → S') (part : Call O → Option (Call O'))
      (needs' : Span → Span → Bool) (s : S) (order : List (Transaction O)) : Type 0 where
    pub transactions : List (Transaction O')
    pub calls : calls_of transactions ≡ filter_map part (calls_of order)
    pub may : MayCommitAll X' V' needs' (state s) [] transactions

  -- if calls may commit in an order, their parts may
  abbrev pub PartsMayCommit : Type 0
  PartsMayCommit = (state : S → S') (part : Call O → Option (Call O'))
      (needs : Span → Span → Bool) (needs' : Span → Span → Bool) →
      IsPart state part needs needs' → (s : S) (order : List (Transaction O)) →
      MayCommitAll X V needs s [] order → PartsCommit state part needs' s order

  -- the part of a call has the client and the interval of the call
  pub record KeepsSpans (part : Call O → Option (Call O')) : Type 0 where
    pub client : (c : Call O) (d : Call O') → part c ≡ Some d → d.client ≡ c.client
    pub begin : (c : Call O) (d : Call O') → part c ≡ Some d → d.begin ≡ c.begin
    pub end : (c : Call O) (d : Call O') → part c ≡ Some d → d.end ≡ c.end

  -- each part of a strong snapshot isolated history is strong snapshot isolated. So a history is
  -- not strong snapshot isolated if a part of it is not
  abbrev pub PartsAreIsolated : Type 0
  PartsAreIsolated = (state : S → S') (part : Call O → Option (Call O')) → KeepsSpans part →
      IsPart state part strong_needs strong_needs → (s : S) (calls : List (Call O)) →
      IsStrongSnapshotIsolated X V s calls →
      IsStrongSnapshotIsolated X' V' (state s) (filter_map part calls)
