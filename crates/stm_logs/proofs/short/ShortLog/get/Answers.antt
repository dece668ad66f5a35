use Rattle.std.proofs.Common.{sym, arith}
use Rattle.stm_logs.proofs.ShortLemmas.{short_none, short_some}
use Rattle.stm_logs.proofs.short.ShortLog.get.Goals as goal

pub returns-then-position-eq0 : goal.returns-then-position-eq0
returns-then-position-eq0 c = sym (short_none c.args.self.now c.args.number
    (c.search-position.ensures.none c.if-position-eq0.true))

pub returns-else-position-eq0 : goal.returns-else-position-eq0
returns-else-position-eq0 c = sym (short_some c.args.self.now c.args.number c.search-position.result c.requires
    (omega arith) (c.search-position.ensures.there (omega arith)))
