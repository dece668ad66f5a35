use Rattle.std.proofs.Common.{◌≡◌, map, take}
use Rattle.judge_coverage.specs.Moments.{end_key}
use Rattle.judge_coverage.proofs.moments.end_keys.Given as goal

-- the keys are those of the calls before
abbrev pub invariant-calls : goal.invariant-calls
invariant-calls l = l.keys.items ≡ map (end_key l.apart) (take l.place l.calls)
