use Rattle.std.proofs.Common.{rules, ◌≡◌, ◌<◌, ◌+◌, ◌-◌, subst, arith}
use Rattle.std.specs.Prelude.{IfSome}
use Rattle.std.proofs.lemmas.Result.{IfOk-weaker}
use Rattle.judge_object.specs.declared.span.TheConstants.{NEVER}
use Rattle.judge_search.specs.Calls.{calls_of}
use Rattle.judge_linear.specs.Moments.{AreCutCalls}
use Rattle.judge_linear.specs.Possible.{HaveStates, HadStatesBefore}
use Rattle.judge_linear.proofs.CutCalls.{kept_cut}
use Rattle.judge_linear.proofs.PossibleStates.{had_before}
use Rattle.judge_linear.proofs.moments.states_before.Goals as goal

pub possible_states-requires : goal.possible_states-requires
possible_states-requires c =
    let moment = c.args.moment in
    let early : moment < NEVER = search rules in
    let before : moment - 1 < NEVER = omega arith in
    let cuts = subst (λ ls. AreCutCalls (moment - 1) ls c.in_ok-before.before) c.as_slice.ensures
    c.in_ok-before.ensures in
    record {
      whole = (kept_cut (moment - 1) c.args.calls.now.lines.items c.in_ok-before.before before c.requires.whole
          cuts).0;
    }

pub returns : goal.returns
returns c =
    let moment = c.args.moment in
    let lines = c.args.calls.now.lines.items in
    let kept = c.in_ok-before.before in
    let early : moment < NEVER = search rules in
    let before : moment - 1 < NEVER = omega arith in
    let next : moment ≡ (moment - 1) + 1 = omega arith in
    let cuts = subst (λ ls. AreCutCalls (moment - 1) ls kept) c.as_slice.ensures c.in_ok-before.ensures in
    let merges = (kept_cut (moment - 1) lines kept before c.requires.whole cuts).1 in
    IfOk-weaker c.possible_states.result (λ found. IfSome found (HaveStates (calls_of kept.lines.items)))
    (λ found. IfSome found (HadStatesBefore (calls_of lines) moment))
    (had_before (calls_of lines) (calls_of kept.lines.items) moment (moment - 1) next merges)
    c.possible_states.ensures
