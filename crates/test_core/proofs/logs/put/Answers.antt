use Rattle.stm_logs.proofs.StripeLemmas.{striped_put}
use Rattle.test_core.proofs.logs.put.Goals as goal

pub returns : goal.returns
returns g c = striped_put c.put.result c.args.log.now c.put.new.self c.args.stripes c.args.addr c.args.value
    c.put.ensures.answer c.requires.striped
