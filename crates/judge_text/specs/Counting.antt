-- The numbers of calls, clients and objects of a history.
use Rattle.std.specs.Prelude.{ℕ, ◌==◌, List, length, map}
use Rattle.std.specs.Set.{distinct_count}
use Rattle.std.specs.Str.{bytes_eq}
use Rattle.judge_object.specs.Call.{Call}
use Rattle.judge_text.specs.declared.counting.Counts.{Counts}

module _ {O : Type 0} where
  -- the number of clients that made these calls
  abbrev pub clients_in : List (Call O) → ℕ
  clients_in calls = distinct_count (λ a b. a == b) (map (λ call. call.client) calls)

  module _ (name : O → List ℕ) where
    -- the number of objects that these calls are for
    abbrev pub objects_in : List (Call O) → ℕ
    objects_in calls = distinct_count bytes_eq (map (λ call. name call.op) calls)

    -- the numbers of calls, clients and objects
    abbrev pub counts_of : List (Call O) → Counts
    counts_of calls = record {
      calls = length calls;
      clients = clients_in calls;
      objects = objects_in calls;
    }
