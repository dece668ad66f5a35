-- The classes of a store's keys: keys that an operation touches together are in one class.
use Rattle.std.specs.Prelude.{◌≡◌, ⊤, ℕ, List, [], ◌∷◌, map}
use Rattle.judge_object.specs.Call.{Call, EachCall}
use Rattle.judge_object.specs.Orders.{IsLinearizable}
use Rattle.judge_search.specs.Walk.{IsWhole}
use Rattle.judge_text.specs.Many.{many, AreStrict}
use Rattle.judge_text.specs.declared.classes.Classes.{Classes}
use Rattle.judge_text.specs.Classes.{IsOneForEach}
use Rattle.judge_text.specs.Classing.{for_object, AreTogether}
use Rattle.judge_kv.specs.Stores.{Pairs}
use Rattle.judge_kv.specs.Requests.{Requested, One, Transact}
use Rattle.judge_kv.specs.StoreRules.{whole}

-- the keys that an operation reads or writes
abbrev pub keys_of : Requested → List (List ℕ)
keys_of (One op) = op.key ∷ []
keys_of (Transact clauses) = map (λ clause. clause.key) clauses

-- the first of keys
abbrev pub first_of : List (List ℕ) → List ℕ
first_of [] = []
first_of (key ∷ keys) = key

-- the name of an operation: its first key
abbrev pub name_of : Requested → List ℕ
name_of op = first_of (keys_of op)

-- a fact of each key
abbrev pub EachKey : (List ℕ → Type 0) → List (List ℕ) → Type 0
EachKey P [] = ⊤
EachKey P (key ∷ keys) = P key × EachKey P keys

-- a function gives the same for all of these keys
abbrev pub IsOneForKeys : (List ℕ → List ℕ) → List (List ℕ) → Type 0
IsOneForKeys g keys = EachKey (λ key. g key ≡ g (first_of keys)) keys

-- a function gives the same for all keys of a call's operation
abbrev pub IsOneFor : (List ℕ → List ℕ) → Call Requested → Type 0
IsOneFor g call = IsOneForKeys g (keys_of call.op)

-- the classes of these keys, and no others, have become one class
abbrev pub AreKeysJoined : List (List ℕ) → Classes → Classes → Type 0
AreKeysJoined keys old new = (g : List ℕ → List ℕ) →
    (IsOneForEach g new → IsOneForEach g old × IsOneForKeys g keys)
    × (IsOneForEach g old → IsOneForKeys g keys → IsOneForEach g new)

-- keys are in one class if and only if operations of these calls join them
abbrev pub JoinsCalls : List (Call Requested) → Classes → Type 0
JoinsCalls calls classes = (g : List ℕ → List ℕ) →
    (IsOneForEach g classes → EachCall (IsOneFor g) calls)
    × (EachCall (IsOneFor g) calls → IsOneForEach g classes)

-- the objects of a store's history are classes of its keys: keys that an operation names together
-- are in one class. If no client begins a call at the moment at which an earlier one of its own
-- ended, keys are in one class only if operations join them, and a class has one of its keys as its
-- name. Otherwise the whole store is one object, whose name is empty
-- Not said: of a history with a call out of turn, which keys are in one class, but for keys that an
-- operation names together.
pub record AreStoreObjects (calls : List (Call Requested)) (objects : List ℕ → List ℕ) : Type 0
  where
    pub joins : EachCall (IsOneFor objects) calls
    pub parts : AreStrict calls → (g : List ℕ → List ℕ) → EachCall (IsOneFor g) calls →
        (key : List ℕ) → g (objects key) ≡ g key
    pub touching : IsWhole calls → (AreStrict calls → ⊥) → AreTogether objects

-- if the keys of each operation have one object, the history of the whole store is linearizable
-- where that of these objects is, each of which begins with the whole store, and only there
abbrev pub ObjectsMakeStore : Type 0
ObjectsMakeStore = (pairs : Pairs) (calls : List (Call Requested)) (objects : List ℕ → List ℕ) →
    EachCall (IsOneFor objects) calls →
    (IsLinearizable whole pairs calls →
    IsLinearizable (many whole (for_object objects name_of)) (λ name. pairs) calls)
    × (IsLinearizable (many whole (for_object objects name_of)) (λ name. pairs) calls →
    IsLinearizable whole pairs calls)
