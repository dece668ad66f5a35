-- A collector of the entries of a log, after some of its bytes.
use Rattle.std.specs.Prelude.{◌≡◌, ℕ, List, [], ◌∷◌, ◌++◌, filter_map}
use Rattle.vac_lines.specs.Lines.{HasNo}
use Rattle.vac_lines.specs.Told.{Message, line_messages}
use Rattle.judge_coverage.specs.declared.collector.Collector.{Collector}
use Rattle.judge_coverage.specs.declared.entries.Entries.{Entries}
use Rattle.judge_coverage.specs.Entries.{told_interval, told_outcome, intervals_in, outcomes_in}

-- these entries, and then those of one more line
pub record AddsLine (before after : Entries) (told : Message) : Type 0 where
  pub intervals : after.intervals.items
      ≡ before.intervals.items ++ filter_map told_interval (told ∷ [])
  pub outcomes : after.outcomes.items
      ≡ before.outcomes.items ++ filter_map told_outcome (told ∷ [])

-- the collector has taken the line that had begun, with its rest
pub record TakesLine (before after : Collector) (told : Message) : Type 0 where
  pub longest : after.longest ≡ before.longest
  pub line : after.line.items ≡ []
  pub entries : AddsLine before.entries after.entries told

-- the collector has taken the lines that ended within these bytes, and keeps the line that has
-- begun
pub record HasTaken (longest : ℕ) (collector : Collector) (bytes : List ℕ) : Type 0 where
  pub longest_is : collector.longest ≡ longest
  pub begun : HasNo 10 collector.line.items
  pub told : List Message
  pub same : (more : List ℕ) → line_messages longest (bytes ++ more)
      ≡ told ++ line_messages longest (collector.line.items ++ more)
  pub intervals : collector.entries.intervals.items ≡ filter_map told_interval told
  pub outcomes : collector.entries.outcomes.items ≡ filter_map told_outcome told

-- the entries are those of all lines of these bytes
pub record AreEntriesOf (longest : ℕ) (bytes : List ℕ) (entries : Entries) : Type 0 where
  pub intervals : entries.intervals.items ≡ intervals_in longest bytes
  pub outcomes : entries.outcomes.items ≡ outcomes_in longest bytes
