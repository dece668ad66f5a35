use Rattle.std.proofs.Common.{arith}
use Rattle.stm_logs.proofs.ShortLemmas.{search_nears, search_goes_on}
use Rattle.stm_logs.proofs.short.ShortLog.search.Goals as goal

pub loop-at-smaller : goal.loop-at-smaller
loop-at-smaller c = search_nears c.args.self.now c.loop-at.at c.requires.short (omega arith) c.loop-at.invariant.inside

pub loop-at-preserved : goal.loop-at-preserved
loop-at-preserved c = search_goes_on c.args.self.now c.args.row.now c.args.number c.loop-at.at c.requires.short
    c.requires.row (omega arith) c.if-row-at.false c.loop-at.invariant
