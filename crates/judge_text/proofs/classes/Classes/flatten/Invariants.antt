use Rattle.std.proofs.Common.{◌≡◌, length}
use Rattle.judge_text.specs.Classes.{AreWellFormed, AreSameClasses, AreFlatTo}
use Rattle.judge_text.proofs.classes.Classes.flatten.Given as goal

abbrev pub invariant-places : goal.invariant-places
invariant-places l =
    AreWellFormed l.self × AreSameClasses l.fn.self l.self × AreFlatTo l.place l.self
    × (length l.self.parents.items ≡ l.count)
