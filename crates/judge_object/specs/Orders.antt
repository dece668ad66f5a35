-- Linearizability: a history, of which only each client's own order is known, is linearizable if
-- and only if some order of its calls is a linearization.
use Rattle.std.specs.Prelude.{◌≡◌, ◌==◌, ℕ, false, List, [], ◌∷◌, ◌++◌, if◌then◌else◌}
use Rattle.judge_object.specs.Rules.{Rules}
use Rattle.judge_object.specs.Call.{Call, EachCall, is_completed}
use Rattle.judge_object.specs.Linear.{IsLinearization}

module _ {O : Type 0} where
  -- the calls of one client, in their order
  abbrev pub of_client : ℕ → List (Call O) → List (Call O)
  of_client client [] = []
  of_client client (call ∷ calls) =
      if call.client == client then call ∷ of_client client calls else of_client client calls

  -- each client's calls are the same in both lists, in the same order
  abbrev pub IsMerge : List (Call O) → List (Call O) → Type 0
  IsMerge calls order = (client : ℕ) → of_client client order ≡ of_client client calls

  -- an order of the calls: each client's calls are in the order that they have here; calls that are
  -- left out are the last of their clients, and pending, whether or not their replies are known
  pub record IsOrderOf (calls order : List (Call O)) : Type 0 where
    pub left : List (Call O)
    pub merges : IsMerge calls (order ++ left)
    pub never : EachCall (λ call. is_completed call ≡ false) left

-- some order of the calls is a linearization, from this state on
pub record IsLinearizable {S O R : Type 0} (X : Rules S O R) (s : S) (calls : List (Call O)) :
    Type 0 where
  pub order : List (Call O)
  pub orders : IsOrderOf calls order
  pub linearization : IsLinearization X s order
