use Rattle.std.proofs.Common.{◌≡◌, ◌<◌, ℕ, List, length}
use Rattle.judge_text.specs.Classes.{IsOneForEach, name_at, parent_at}
use Rattle.judge_text.proofs.classes.Classes.root_of.Given as goal

abbrev pub invariant-up : goal.invariant-up
invariant-up l =
    (l.at < length l.self.parents.items)
    × (l.above ≡ parent_at l.self l.at)
    × ((g : List ℕ → List ℕ) → IsOneForEach g l.self → g (name_at l.self l.place) ≡ g (name_at l.self l.at))

abbrev pub decreases-up : goal.decreases-up
decreases-up l = l.at
