use Rattle.std.proofs.Common.{sym}
use Rattle.judge_text.proofs.classes.Classes.place_of.Goals as goal

pub returns-in-Some-clause-place : goal.returns-in-Some-clause-place
returns-in-Some-clause-place c =
    let found = c.requires.formed.found c.args.name.now c.in-Some.place.now (sym c.in-Some.ensures.value) in
    record { within = found.0; is = found.1 }
