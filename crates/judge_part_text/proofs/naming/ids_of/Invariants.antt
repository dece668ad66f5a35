use Rattle.std.proofs.Common.{◌≡◌, drop}
use Rattle.judge_part_text.specs.Naming.{ids_of}
use Rattle.judge_part_text.proofs.Named.{ahead, texts_of}
use Rattle.judge_part_text.proofs.naming.ids_of.Given as goal

-- the ids so far, before those of the words that are left
abbrev pub invariant-words : goal.invariant-words
invariant-words l = ids_of (texts_of l.words) ≡ ahead l.ids.items (ids_of (texts_of (drop l.at l.words)))
