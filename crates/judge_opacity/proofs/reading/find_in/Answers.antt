use Rattle.judge_opacity.proofs.Telling.{opaque_heard, finding_heard}
use Rattle.judge_opacity.proofs.reading.find_in.Goals as goal

pub returns-in-GoOn-clause-found : goal.returns-in-GoOn-clause-found
returns-in-GoOn-clause-found g c =
    opaque_heard _ c.args.words _ _ _ _ _ _ _ c.in-GoOn.is c.in_ok-new.ensures c.in_ok-read_lines.ensures
    c.counts.ensures

pub returns-in-Some-clause-found : goal.returns-in-Some-clause-found
returns-in-Some-clause-found g c =
    finding_heard _ c.args.words _ _ _ _ _ _ c.in-Some.finding c.in-Stop.is c.in_ok-new.ensures
    c.in_ok-read_lines.ensures c.in-Some.is
