use Rattle.std.proofs.Common.{take}
use Rattle.judge_snapshot.specs.Horizons.{IsHorizon}
use Rattle.judge_snapshot.proofs.horizons.horizon_of.Given as goal

abbrev pub invariant-spans : goal.invariant-spans
invariant-spans l = IsHorizon (take l.place l.spans) l.begin l.horizon
