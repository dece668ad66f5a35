use Rattle.std.proofs.Common.{rules, refl}
use Rattle.ex_desk.proofs.Running.{desked}
use Rattle.ex_desk.proofs.run.close.Goals as goal

pub returns-in-Ok-clause-ran : goal.returns-in-Ok-clause-ran
returns-in-Ok-clause-ran c = desked c.args.settings c.args.open_desks c.in-Ok.words.items c.in-Ok.field-0-1 _
    c.requires.on c.requires.ended (search rules) c.report_of.ensures refl refl
