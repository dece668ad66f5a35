-- Levels of consistency of a history of which only each client's own order is known.
use Rattle.std.specs.Prelude.{◌≡◌, Bool, true, false, List, ◌++◌, IsPermutation}
use Rattle.judge_object.specs.declared.level.Level.{Level}
use Rattle.judge_object.specs.declared.level.Level.TheVariants as level
use Rattle.judge_object.specs.Rules.{Rules}
use Rattle.judge_object.specs.Call.{Call, EachCall, is_completed}
use Rattle.judge_object.specs.Linear.{GiveReplies}
use Rattle.judge_object.specs.Orders.{IsOrderOf, IsLinearizable}

module _ {O : Type 0} where
  -- all completed calls and some pending calls, in any order
  pub record IsSelectionOf (calls order : List (Call O)) : Type 0 where
    pub left : List (Call O)
    pub all : IsPermutation calls (order ++ left)
    pub never : EachCall (λ call. is_completed call ≡ false) left

module _ {S O R : Type 0} (X : Rules S O R) where
  -- sequential consistency (Lamport, IEEE Transactions on Computers 1979): in some order of the
  -- calls, with each client's calls in their order, the calls give their replies
  pub record IsSequentiallyConsistent (s : S) (calls : List (Call O)) : Type 0 where
    pub order : List (Call O)
    pub orders : IsOrderOf calls order
    pub replies : GiveReplies X s order

  -- serializability (Papadimitriou, JACM 1979), each call being a transaction: in some order of all
  -- completed calls and some pending calls, the calls give their replies
  pub record IsSerializable (s : S) (calls : List (Call O)) : Type 0 where
    pub order : List (Call O)
    pub selects : IsSelectionOf calls order
    pub replies : GiveReplies X s order

  -- the history is at the level
  abbrev pub IsAt : Level → S → List (Call O) → Type 0
  IsAt level.Linearizable s calls = IsLinearizable X s calls
  IsAt level.Sequential s calls = IsSequentiallyConsistent s calls
  IsAt level.Serializable s calls = IsSerializable s calls

-- true if the first level keeps all order that the second level keeps
abbrev pub keeps_all_of : Level → Level → Bool
keeps_all_of level.Linearizable other = true
keeps_all_of level.Sequential level.Linearizable = false
keeps_all_of level.Sequential other = true
keeps_all_of level.Serializable level.Serializable = true
keeps_all_of level.Serializable other = false
