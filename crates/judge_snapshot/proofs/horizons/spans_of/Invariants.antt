use Rattle.std.proofs.Common.{◌≡◌, take, map}
use Rattle.judge_object.specs.Call.{span_of}
use Rattle.judge_search.specs.Calls.{calls_of}
use Rattle.judge_snapshot.proofs.horizons.spans_of.Given as goal

abbrev pub invariant-lines : goal.invariant-lines
invariant-lines g l = l.spans.items ≡ map span_of (calls_of (take l.place l.lines))
