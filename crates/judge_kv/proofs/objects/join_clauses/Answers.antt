use Rattle.std.proofs.Common.{subst, arith}
use Rattle.std.proofs.lemmas.List.{take_all}
use Rattle.judge_kv.specs.Classes.{AreKeysJoined}
use Rattle.judge_kv.proofs.Joining.{clause_keys, keys_first, clause_joined}
use Rattle.judge_kv.proofs.objects.join_clauses.Goals as goal

pub clauses-init : goal.clauses-init
clauses-init c = (c.requires, keys_first c.args.clauses.now c.args.classes.now, (omega arith))

pub clauses-preserved : goal.clauses-preserved
clauses-preserved c =
    let i = c.clauses.invariant in
    let more = i.2 in (
      c.in_ok-join.ensures.formed,
      clause_joined c.args.clauses.now c.clauses.place c.index-clauses-place.result c.index-clauses-0.result
          c.key-first.result.now c.key-other.result.now c.args.classes.now c.clauses.classes c.join.new.self more
          c.clauses-test.true c.index-clauses-place.is c.index-clauses-0.is c.key-first.ensures c.key-other.ensures
          i.1 c.in_ok-join.ensures.joined,
      (omega arith),
    )

pub returns-clause-joined : goal.returns-clause-joined
returns-clause-joined c =
    subst (λ cs. AreKeysJoined (clause_keys cs) c.args.classes.now c.clauses.classes)
    (take_all c.clauses.place c.args.clauses.now c.clauses-test.false) c.clauses.invariant.1
