use Rattle.std.proofs.Common.{arith}
use Rattle.judge_text.proofs.Classing.{set_formed, linked, turned}
use Rattle.judge_text.proofs.classes.Classes.link.Goals as goal

pub returns-then-one-other-clause-formed : goal.returns-then-one-other-clause-formed
returns-then-one-other-clause-formed c =
    let l = c.if-one-other.true in
    set_formed c.args.self.now c.set_parent.new.self c.args.other c.args.one c.set_parent.ensures c.requires.formed
    c.requires.other_within (omega arith)

pub returns-then-one-other-clause-joined : goal.returns-then-one-other-clause-joined
returns-then-one-other-clause-joined c =
    turned c.args.self.now c.set_parent.new.self c.args.one c.args.other
    (linked c.args.self.now c.set_parent.new.self c.args.other c.args.one c.set_parent.ensures
    c.requires.other_within c.requires.other_root)

pub returns-else-one-other-clause-formed : goal.returns-else-one-other-clause-formed
returns-else-one-other-clause-formed c =
    let l = c.if-one-other.false in
    set_formed c.args.self.now c.set_parent-else-one-other.new.self c.args.one c.args.other
    c.set_parent-else-one-other.ensures c.requires.formed c.requires.one_within (omega arith)

pub returns-else-one-other-clause-joined : goal.returns-else-one-other-clause-joined
returns-else-one-other-clause-joined c =
    linked c.args.self.now c.set_parent-else-one-other.new.self c.args.one c.args.other
    c.set_parent-else-one-other.ensures c.requires.one_within c.requires.one_root
