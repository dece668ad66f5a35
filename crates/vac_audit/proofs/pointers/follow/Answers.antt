use Rattle.std.proofs.Common.{refl, arith}
use Rattle.vac_audit.proofs.Marking.{followed, lands, fewer}
use Rattle.vac_audit.proofs.pointers.follow.Goals as goal

pub returns-clause-lands : goal.returns-clause-lands
returns-clause-lands c = lands c.args.words.now c.args.reached.now.items _ c.requires.marked (omega arith) (omega arith)
    (omega arith)

pub returns-clause-followed : goal.returns-clause-followed
returns-clause-followed c = followed c.args.words.now c.args.reached.now.items c.args.at _ c.requires.marked refl
    (omega arith) (omega arith) (omega arith) (cc)

pub returns-clause-fewer : goal.returns-clause-fewer
returns-clause-fewer c = fewer c.args.reached.now.items _ (omega arith) (omega arith) (omega arith) (cc)
