use Rattle.load_run.proofs.Eras.{all_versioned}
use Rattle.load_run.proofs.alone.close.Goals as goal

pub returns-in-Ok-clause-closes : goal.returns-in-Ok-clause-closes
returns-in-Ok-clause-closes c = (c.in-Ok.field-0-1, c.in-Ok.ensures.closes)

pub returns-in-Ok-clause-versioned : goal.returns-in-Ok-clause-versioned
returns-in-Ok-clause-versioned c = all_versioned c.args.manager.renewal c.args.client.value.records
    c.requires.alone.era c.in-Ok.ensures.closes.versioned
