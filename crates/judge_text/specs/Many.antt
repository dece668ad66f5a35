-- Many objects of one kind, each with a name. A history of them is linearizable exactly where that
-- of each object is (Herlihy and Wing, TOPLAS 1990: linearizability is local), if no client begins
-- a call at the very time at which its last one ended.
use Rattle.std.specs.Prelude.{◌≡◌, ◌<◌, ⊤, ℕ, Bool, List, [], ◌∷◌, if◌then◌else◌}
use Rattle.std.specs.Str.{bytes_eq}
use Rattle.judge_object.specs.Rules.{Rules}
use Rattle.judge_object.specs.Call.{Call, EachCall}
use Rattle.judge_object.specs.Orders.{IsLinearizable}
use Rattle.judge_search.specs.Walk.{IsWhole}

-- the states of all objects where that of one has changed
abbrev pub changed : {T : Type 0} → (List ℕ → T) → List ℕ → T → List ℕ → T
changed s name t other = if bytes_eq other name then t else s other

module _ {O : Type 0} where
  -- an operation is for the object of this name
  abbrev pub is_for : (O → List ℕ) → List ℕ → Call O → Bool
  is_for name k call = bytes_eq (name call.op) k

  -- the calls for the object of this name, in their order
  abbrev pub part : (O → List ℕ) → List ℕ → List (Call O) → List (Call O)
  part name k [] = []
  part name k (call ∷ calls) =
      if is_for name k call then call ∷ part name k calls else part name k calls

  -- an earlier call of the same client had ended before a call began
  abbrev pub IsApart : Call O → Call O → Type 0
  IsApart call earlier = earlier.client ≡ call.client → earlier.end < call.begin

  -- no client made a call at the moment at which an earlier one of its own ended
  abbrev pub AreStrict : List (Call O) → Type 0
  AreStrict [] = ⊤
  AreStrict (call ∷ calls) = EachCall (λ later. IsApart later call) calls × AreStrict calls

module _ {T O R : Type 0} (Y : Rules T O R) (name : O → List ℕ) where
  -- the rules of many objects, whose states go by their names
  abbrev pub many : Rules (List ℕ → T) O R
  many = record {
    run = λ s op. (changed s (name op) (Y.run (s (name op)) op).0, (Y.run (s (name op)) op).1);
    text = Y.text;
    none = Y.none;
  }

  -- where a history is linearizable, that of each object is
  abbrev pub PartsAreLinearizable : Type 0
  PartsAreLinearizable = (s : List ℕ → T) (calls : List (Call O)) →
      IsLinearizable many s calls → (k : List ℕ) → IsLinearizable Y (s k) (part name k calls)

  -- where that of each object is linearizable, the whole is
  abbrev pub PartsMakeLinearizable : Type 0
  PartsMakeLinearizable = (s : List ℕ → T) (calls : List (Call O)) → IsWhole calls →
      AreStrict calls → ((k : List ℕ) → IsLinearizable Y (s k) (part name k calls)) →
      IsLinearizable many s calls
