-- Write sets: what snapshot isolation needs to know of a sequential object.
use Rattle.std.specs.Prelude.{◌≡◌, Bool, true, List}
use Rattle.judge_object.specs.Rules.{Rules}
use Rattle.judge_object.specs.Call.{Call}
use Rattle.judge_object.specs.Linear.{state_after}

-- the write sets W of the operations of an object
pub record WriteSets (S O W : Type 0) : Type 0 where
  -- the write set that an operation computes on a snapshot
  pub writes : S → O → W
  -- the state after the writes of a set are installed
  pub install : W → S → S
  -- tests whether two write sets have a key in common
  pub conflicts : W → W → Bool
  -- tests whether two write sets are equal; equal ones may be missed
  pub same : W → W → Bool
  -- tests whether a history may start from a state
  pub starts : S → Bool

module _ {S O R W : Type 0} (X : Rules S O R) (V : WriteSets S O W) where
  -- in each state that calls reach from this one, an operation leaves the state with its own
  -- writes installed
  abbrev pub InstallsOwn : S → Type 0
  InstallsOwn s = (calls : List (Call O)) (op : O) →
      V.install (V.writes (state_after X s calls) op) (state_after X s calls)
      ≡ (X.run (state_after X s calls) op).0

  -- the laws of write sets: from each start on, an operation leaves the state that it read with
  -- its own writes installed; and the test of equality recognizes only equal write sets
  pub record AreWriteSets : Type 0 where
    pub own : (s : S) → V.starts s ≡ true → InstallsOwn s
    pub equal : (v w : W) → V.same v w ≡ true → v ≡ w
