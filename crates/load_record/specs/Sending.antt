-- Lines of calls that are collected before they are written.
use Rattle.std.specs.Prelude.{ℕ, List, [], Option}
use Rattle.vac_lines.specs.Writing.{AppendsPrefix}
use Rattle.vac_lines.specs.Sent.{Sent}
use Rattle.load_record.specs.Order.{Entry}
use Rattle.load_record.specs.Picking.{PicksAll, Merges}
use Rattle.load_record.specs.History.{calls_text}

-- the lines of calls that were picked from the lists were sent, and these lists are left
pub record SentPicked (lists left : List (List Entry)) (held holds : Option (List ℕ))
    (hand : List ℕ) : Type 0 where
  pub all : List Entry
  pub picked : PicksAll lists all left
  pub sent : Sent held holds [] hand (calls_text all)

-- the lines of all calls were sent
pub record SentMerged (lists : List (List Entry)) (held holds : Option (List ℕ))
    (hand : List ℕ) : Type 0 where
  pub all : List Entry
  pub merges : Merges lists all
  pub sent : Sent held holds [] hand (calls_text all)

-- a prefix of the lines of all calls was written
pub record MergedPrefix (lists : List (List Entry)) (held holds : Option (List ℕ)) : Type 0 where
  pub all : List Entry
  pub merges : Merges lists all
  pub written : AppendsPrefix held holds (calls_text all)
