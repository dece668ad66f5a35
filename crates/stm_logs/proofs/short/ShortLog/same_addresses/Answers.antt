use Rattle.stm_logs.proofs.ShortLemmas.{short_addresses}
use Rattle.stm_logs.proofs.short.ShortLog.same_addresses.Goals as goal

pub returns : goal.returns
returns c = short_addresses c.args.self.now c.requires
