use Rattle.std.proofs.Common.{◌≡◌, take}
use Rattle.judge_search.specs.Walking.{places_of}
use Rattle.judge_search.proofs.walk.places_of.Given as goal

abbrev pub invariant-path : goal.invariant-path
invariant-path g l = l.places.items ≡ places_of (take l.number l.path)
