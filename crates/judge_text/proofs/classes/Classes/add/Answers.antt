use Rattle.std.proofs.Common.{arith}
use Rattle.judge_text.specs.declared.classes.Classes.{Classes}
use Rattle.judge_text.proofs.Classing.{is_added, added_formed, added_same, added_kept, added_place}
use Rattle.judge_text.proofs.classes.Classes.add.Goals as goal

pub returns-clause-formed : goal.returns-clause-formed
returns-clause-formed c =
    let old = c.args.self.now in
    let new : Classes = record {
      alloc = old.alloc;
      places = c.insert.new.self;
      names = c.push.new.self;
      parents = c.push-2.new.self;
    } in
    added_formed old new c.args.name.now c.len-place.result c.requires.formed
    (is_added old new c.args.name.now c.len-place.result c.in_ok-own.own c.in_ok-key.key c.requires.formed
    (let n = c.len-place.ensures in omega arith) c.in_ok-own.ensures.items c.in_ok-key.ensures.items
    c.in_ok-push.ensures.items c.in_ok-push-2.ensures.items c.in_ok-insert.ensures.updates) c.requires.none

pub returns-clause-same : goal.returns-clause-same
returns-clause-same c =
    let old = c.args.self.now in
    let new : Classes = record {
      alloc = old.alloc;
      places = c.insert.new.self;
      names = c.push.new.self;
      parents = c.push-2.new.self;
    } in
    added_same old new c.args.name.now c.len-place.result c.requires.formed
    (is_added old new c.args.name.now c.len-place.result c.in_ok-own.own c.in_ok-key.key c.requires.formed
    (let n = c.len-place.ensures in omega arith) c.in_ok-own.ensures.items c.in_ok-key.ensures.items
    c.in_ok-push.ensures.items c.in_ok-push-2.ensures.items c.in_ok-insert.ensures.updates)

pub returns-clause-kept : goal.returns-clause-kept
returns-clause-kept c =
    let old = c.args.self.now in
    let new : Classes = record {
      alloc = old.alloc;
      places = c.insert.new.self;
      names = c.push.new.self;
      parents = c.push-2.new.self;
    } in
    added_kept old new c.args.name.now c.len-place.result c.requires.formed
    (is_added old new c.args.name.now c.len-place.result c.in_ok-own.own c.in_ok-key.key c.requires.formed
    (let n = c.len-place.ensures in omega arith) c.in_ok-own.ensures.items c.in_ok-key.ensures.items
    c.in_ok-push.ensures.items c.in_ok-push-2.ensures.items c.in_ok-insert.ensures.updates)

pub returns-clause-place : goal.returns-clause-place
returns-clause-place c =
    let old = c.args.self.now in
    let new : Classes = record {
      alloc = old.alloc;
      places = c.insert.new.self;
      names = c.push.new.self;
      parents = c.push-2.new.self;
    } in
    added_place old new c.args.name.now c.len-place.result c.requires.formed
    (is_added old new c.args.name.now c.len-place.result c.in_ok-own.own c.in_ok-key.key c.requires.formed
    (let n = c.len-place.ensures in omega arith) c.in_ok-own.ensures.items c.in_ok-key.ensures.items
    c.in_ok-push.ensures.items c.in_ok-push-2.ensures.items c.in_ok-insert.ensures.updates)
