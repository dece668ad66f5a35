use Rattle.std.proofs.Common.{◌≡◌, ◌-◌, drop, length}
use Rattle.judge_part_text.specs.Naming.{items_of}
use Rattle.judge_part_text.proofs.Named.{ahead, texts_of}
use Rattle.judge_part_text.proofs.naming.items_of.Given as goal

-- the items so far, before those of the words that are left
abbrev pub invariant-words : goal.invariant-words
invariant-words l = items_of (texts_of l.words) ≡ ahead l.items.items (items_of (texts_of (drop l.at l.words)))

abbrev pub decreases-words : goal.decreases-words
decreases-words l = length l.words - l.at
