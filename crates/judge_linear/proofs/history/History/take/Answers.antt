use Rattle.std.proofs.Common.{◌≡◌, ◌+◌, length, sym, ap, ◌∙◌, arith}
use Rattle.std.specs.FinMap.{insert}
use Rattle.judge_calls.specs.Parts.{shown_call}
use Rattle.judge_calls.specs.Order.{call_breaks_client}
use Rattle.judge_linear.specs.declared.history.History.{History}
use Rattle.judge_search.specs.Calls.{calls_of}
use Rattle.judge_linear.proofs.Turns.{took, timed_of, not_true}
use Rattle.judge_linear.proofs.history.History.take.Goals as goal

pub returns : goal.returns
returns c = λ held.
    let before = c.args.self.now in
    let call = c.args.call in
    let after : History = record { lines = c.push.new.self; ends = c.insert.new.self } in
    let number : c.len.result ≡ length before.lines.items = c.len.ensures ∙ before.lines.ok.0 in
    took before after c.args.text.now (shown_call call) c.in_ok-line.line (c.len.result + 1) held
    (c.in_ok-insert.ensures ∙ ap (λ e. insert before.ends call.client e) c.end_or_never-end.ensures)
    (omega arith) c.in_ok-line.ensures.number c.in_ok-line.ensures.text c.in_ok-line.ensures.call
    c.in_ok-push.ensures.items
    (not_true (call_breaks_client (calls_of before.lines.items) (shown_call call))
    (sym (c.is_in_turn.ensures held) ∙ c.if-not-is_in_turn.false))
    (timed_of call c.in_ok-line.ensures.begun)
