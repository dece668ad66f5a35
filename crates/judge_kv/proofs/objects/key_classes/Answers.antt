use Rattle.std.proofs.Common.{sym, subst}
use Rattle.std.proofs.lemmas.List.{take_all}
use Rattle.judge_object.specs.declared.line.Line.{Line}
use Rattle.judge_search.specs.Calls.{calls_of}
use Rattle.judge_kv.specs.Requests.{Requested}
use Rattle.judge_kv.specs.Classes.{AreKeysJoined, JoinsCalls, keys_of}
use Rattle.judge_kv.proofs.Joining.{calls_none, call_joined}
use Rattle.judge_kv.proofs.objects.key_classes.Goals as goal

pub lines-init : goal.lines-init
lines-init c = (c.new-classes.ensures.formed, calls_none c.new-classes.result c.new-classes.ensures.none)

pub lines-preserved : goal.lines-preserved
lines-preserved c = (
  c.in_ok-join_request.ensures.formed,
  call_joined c.args.lines.now c.lines.place c.index-lines-place.result c.lines.classes c.join_request.new.classes
      c.lines-test.true c.index-lines-place.is c.lines.invariant.1
      (subst (λ (l : Line Requested). AreKeysJoined (keys_of l.op) c.lines.classes c.join_request.new.classes)
      (sym c.index-lines-place.is) c.in_ok-join_request.ensures.joined),
)

pub returns-clause-joined : goal.returns-clause-joined
returns-clause-joined c =
    subst (λ ls. JoinsCalls (calls_of ls) c.lines.classes)
    (take_all c.lines.place c.args.lines.now c.lines-test.false) c.lines.invariant.1
