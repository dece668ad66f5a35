use Rattle.stm_logs.proofs.StripeLemmas.{striped_put}
use Rattle.test_stm.proofs.logs.put.Goals as goal

pub returns : goal.returns
returns g c = striped_put c.put.result c.args.log.now c.put.new.self 10 c.args.addr 7 c.put.ensures.answer c.requires
