-- Commits as operations of a derived sequential object. A history is snapshot isolated if its
-- commits are linearizable. A state of this object is the list of the version histories that are
-- possible: each of them is what some choice of snapshots gives for the commits so far.
use Rattle.std.specs.Prelude.{◌&&◌, ◌||◌, false, ℕ, suc, zero, Bool, Some, None, List, [], ◌∷◌, length, take, not, nat_le, codes, if◌then◌else◌}
use Rattle.std.specs.List.{list_any}
use Rattle.judge_object.specs.declared.span.Span.{Span}
use Rattle.judge_snapshot.specs.declared.outcome.Outcome.{Outcome}
use Rattle.judge_snapshot.specs.declared.outcome.Outcome.TheVariants.{Committed, Refused}
use Rattle.judge_object.specs.Rules.{Rules, is_right}
use Rattle.judge_object.specs.Call.{Call, span_of}
use Rattle.judge_snapshot.specs.WriteSets.{WriteSets}
use Rattle.judge_snapshot.specs.Snapshots.{Transaction, Version, snapshot, written, version}

-- a version history: a first state, and the versions since, the newest first
pub record Past (S W : Type 0) : Type 0 where
  pub first : S
  pub versions : List (Version S W)

-- the version history before the first commit
abbrev pub past_of : {S W : Type 0} → S → Past S W
past_of s = record { first = s; versions = [] }

-- the commit of a call: it was made in the interval of the call
abbrev pub claim : {O : Type 0} → Call O → Call (Call O)
claim call = record {
  client = call.client;
  begin = call.begin;
  end = call.end;
  op = call;
  reply = Some (codes "ok");
}

-- the text of a reply
abbrev pub outcome_text : Outcome → List ℕ
outcome_text Committed = codes "ok"
outcome_text Refused = codes "no"

module _ {S O R W : Type 0} (X : Rules S O R) (V : WriteSets S O W)
    (needs : Span → Span → Bool) where
  -- tests whether a transaction may commit after a version history
  abbrev pub can_commit : Past S W → Transaction O → Bool
  can_commit past t =
      nat_le t.missed (length past.versions)
      && is_right X t.call.reply (X.run (snapshot X V past.first past.versions t) t.call.op).1
      && not (list_any (λ v. V.conflicts v.written (written X V past.first past.versions t))
      (take t.missed past.versions))
      && not (list_any (λ v. needs v.span (span_of t.call)) (take t.missed past.versions))

  -- the version history after the commit
  abbrev pub grown : Past S W → Transaction O → Past S W
  grown past t = record {
    first = past.first;
    versions = version X V past.first past.versions t ∷ past.versions;
  }

  -- tests whether a call that misses fewer than `m` versions may commit with the write set that
  -- the call has if it misses `n`
  abbrev pub repeats : Past S W → Call O → ℕ → ℕ → Bool
  repeats past call n zero = false
  repeats past call n (suc m) =
      can_commit past (record { call = call; missed = m })
      && V.same (written X V past.first past.versions (record { call = call; missed = m }))
      (written X V past.first past.versions (record { call = call; missed = n }))
      || repeats past call n m

  -- version histories with the one after a commit that misses so many versions, if it may be made
  -- and no commit that misses fewer has the same write set
  abbrev pub with_commit : Past S W → Call O → ℕ → List (Past S W) → List (Past S W)
  with_commit past call n others =
      if can_commit past (record { call = call; missed = n }) && not (repeats past call n n)
      then grown past (record { call = call; missed = n }) ∷ others
      else others

  -- version histories with those after a commit that misses fewer than so many versions
  abbrev pub longer : Past S W → Call O → ℕ → List (Past S W) → List (Past S W)
  longer past call zero others = others
  longer past call (suc n) others = with_commit past call n (longer past call n others)

  -- the version histories after a commit, from any of these on
  abbrev pub all_longer : List (Past S W) → Call O → List (Past S W)
  all_longer [] call = []
  all_longer (past ∷ pasts) call =
      longer past call (suc (length past.versions)) (all_longer pasts call)

  -- the state and the reply: a commit is refused if it leaves no version history
  abbrev pub answered : List (Past S W) → List (Past S W) → List (Past S W) × Outcome
  answered pasts [] = (pasts, Refused)
  answered pasts (next ∷ nexts) = (next ∷ nexts, Committed)

  -- the rules of the derived object
  abbrev pub commits : Rules (List (Past S W)) (Call O) Outcome
  commits = record {
    run = λ pasts call. answered pasts (all_longer pasts call);
    text = outcome_text;
    none = record { client = 0; begin = 0; end = 0; op = X.none; reply = None };
  }
