use Rattle.cli_script.proofs.Closing.{closed}
use Rattle.cli_script.proofs.system.close.Goals as goal

pub returns-in-Ok-clause-words : goal.returns-in-Ok-clause-words
returns-in-Ok-clause-words c = λ s st. closed c.args.manager c.args.client.value c.in-Ok.words.items _
    c.in-Ok.ensures.closes s st
