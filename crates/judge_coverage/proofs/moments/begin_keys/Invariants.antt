use Rattle.std.proofs.Common.{◌≡◌, map, take}
use Rattle.judge_coverage.specs.Moments.{begin_key}
use Rattle.judge_coverage.proofs.moments.begin_keys.Given as goal

-- the keys are those of the calls before
abbrev pub invariant-calls : goal.invariant-calls
invariant-calls l = l.keys.items ≡ map (begin_key l.apart) (take l.place l.calls)
