use Rattle.std.proofs.Common.{◌≡◌, ◌+◌, ◌<◌, nat_lt, length, get_or, refl, sym}
use Rattle.std.proofs.Common.{ap, ◌∙◌, subst, arith}
use Rattle.std.specs.Global.{Vec}
use Rattle.judge_object.specs.declared.span.TheConstants.{NEVER}
use Rattle.judge_object.specs.Call.{Call}
use Rattle.judge_object.specs.declared.line.Line.{Line}
use Rattle.judge_search.specs.declared.stuck.Stuck.{Stuck}
use Rattle.judge_object.specs.Call.{is_completed}
use Rattle.judge_search.specs.Marks.{is_made}
use Rattle.judge_search.specs.Calls.{calls_of}
use Rattle.judge_search.proofs.Tries.{at}
use Rattle.judge_search.proofs.Sorted.{early, late, call_here, length_calls}
use Rattle.judge_search.proofs.StuckCalls.{AreFound, found_none, found_more, found_less, found_all}
use Rattle.judge_search.proofs.stuck.stuck_lines.Goals as goal
use Rattle.judge_search.proofs.stuck.stuck_lines.Goals.{then-lines-place-lt-NEVER+in_ok-expected+in_ok-push}
use Rattle.judge_search.proofs.stuck.stuck_lines.Goals.{else-lines-place-lt-NEVER}

pub calls-init : goal.calls-init
calls-init g c =
    let s = c.args.machine.now in
    let made = is_made c.args.low c.args.beyond.now in
    let cs = calls_of c.args.calls.now.lines.items in
    subst (λ l. AreFound (g.M.Object.rules) s made cs l 0) (sym c.new-found.ensures.items)
    (found_none (g.M.Object.rules) s made cs)

pub bounds-lines-place : goal.bounds-lines-place
bounds-lines-place g c =
    let long = length_calls (g.M.Object.rules) c.args.calls.now.lines.items in
    let same : length c.as_slice-lines.result.now ≡ length c.args.calls.now.lines.items =
    ap length c.as_slice-lines.ensures in
    let within = c.in-Some.ensures.next.within in
    omega arith

pub returns : goal.returns
returns g c = found_all (g.M.Object.rules) c.args.machine.now (is_made c.args.low c.args.beyond.now)
    (calls_of c.args.calls.now.lines.items) c.calls.found.items c.calls.from c.in_default.ensures.next c.calls.invariant

pub calls-preserved : goal.calls-preserved
calls-preserved g c =
    let s = c.args.machine.now in
    let made = is_made c.args.low c.args.beyond.now in
    let lines = c.args.calls.now.lines.items in
    let cs = calls_of lines in
    let p = c.in-Some.place in
    let next = c.in-Some.ensures.next in
    let line = c.index-lines-place.result in
    let long = length_calls (g.M.Object.rules) lines in
    let within : p < length lines = (let l = next.within in omega arith) in
    let is : line ≡ get_or lines p line = c.index-lines-place.is ∙
    ap (λ ls. get_or ls p line) c.as_slice-lines.ensures in
    let was = get_or c.as_slice-lines.result.now p line in
    let here = call_here (g.M.Object.rules) lines p line within is in
    let some : is_completed (at (g.M.Object.rules) cs p) ≡ nat_lt was.end NEVER = ap is_completed here ∙
    ap (λ (y : Line _). nat_lt y.end NEVER) c.index-lines-place.is in
    elim c.if-lines-place-lt-NEVER.branch [
      | then-lines-place-lt-NEVER+in_ok-expected+in_ok-push w ↦
          let then_line = w.index-lines-place-then-lines-place-lt-NEVER.result in
          let then_is : then_line ≡ get_or lines p then_line =
          w.index-lines-place-then-lines-place-lt-NEVER.is
          ∙ ap (λ ls. get_or ls p then_line) c.as_slice-lines.ensures in
          let x : Stuck _ = record { place = p; expected = w.in_ok-expected.expected } in
          subst (λ l. AreFound (g.M.Object.rules) s made cs l (p + 1))
          (sym (ap (λ (v : Vec (Stuck _)). v.items) w.found-is ∙
          w.in_ok-push.ensures.items))
          (found_more (g.M.Object.rules) s made cs c.calls.found.items c.calls.from p x next
          (some ∙ late was.end NEVER w.if-lines-place-lt-NEVER.true) refl
          (sym (ap (λ (y : Call _). (g.M.Object.rules.run s y.op).1)
          (call_here (g.M.Object.rules) lines p then_line within then_is)
          ∙ ap (λ (y : Line _). (g.M.Object.rules.run s y.op).1) w.index-lines-place-then-lines-place-lt-NEVER.is
          ∙ ap (λ (y : _ × _). y.1) w.in_ok-expected.ensures))
          c.calls.invariant)
      | else-lines-place-lt-NEVER w ↦
          subst (λ l. AreFound (g.M.Object.rules) s made cs l (p + 1))
          (sym (ap (λ (v : Vec (Stuck _)). v.items) w.found-is))
          (found_less (g.M.Object.rules) s made cs c.calls.found.items c.calls.from p next
          (some ∙ early was.end NEVER w.if-lines-place-lt-NEVER.false) c.calls.invariant)
    ]
