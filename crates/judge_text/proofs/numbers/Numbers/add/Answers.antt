use Rattle.std.proofs.Common.{arith}
use Rattle.judge_text.specs.declared.numbers.Numbers.{Numbers}
use Rattle.judge_text.proofs.Numbering.{is_new, new_formed, new_kept, new_number}
use Rattle.judge_text.proofs.numbers.Numbers.add.Goals as goal

pub returns-clause-formed : goal.returns-clause-formed
returns-clause-formed c =
    let old = c.args.self.now in
    let new : Numbers = record { alloc = old.alloc; places = c.insert.new.self; names = c.push.new.self } in
    new_formed old new c.args.name.now c.len-number.result c.requires.formed
    (is_new old new c.args.name.now c.len-number.result c.in_ok-own.own c.in_ok-key.key
    (let n = c.len-number.ensures in omega arith) c.in_ok-own.ensures.items c.in_ok-key.ensures.items
    c.in_ok-push.ensures.items c.in_ok-insert.ensures.updates) c.requires.none

pub returns-clause-kept : goal.returns-clause-kept
returns-clause-kept c =
    let old = c.args.self.now in
    let new : Numbers = record { alloc = old.alloc; places = c.insert.new.self; names = c.push.new.self } in
    new_kept old new c.args.name.now c.len-number.result c.requires.formed
    (is_new old new c.args.name.now c.len-number.result c.in_ok-own.own c.in_ok-key.key
    (let n = c.len-number.ensures in omega arith) c.in_ok-own.ensures.items c.in_ok-key.ensures.items
    c.in_ok-push.ensures.items c.in_ok-insert.ensures.updates)

pub returns-clause-number : goal.returns-clause-number
returns-clause-number c =
    let old = c.args.self.now in
    let new : Numbers = record { alloc = old.alloc; places = c.insert.new.self; names = c.push.new.self } in
    new_number old new c.args.name.now c.len-number.result c.requires.formed
    (is_new old new c.args.name.now c.len-number.result c.in_ok-own.own c.in_ok-key.key
    (let n = c.len-number.ensures in omega arith) c.in_ok-own.ensures.items c.in_ok-key.ensures.items
    c.in_ok-push.ensures.items c.in_ok-insert.ensures.updates)
