use Rattle.std.proofs.Common.{◌≤◌, nat_le, sym, ap, ◌∙◌, arith}
use Rattle.judge_calls.specs.Parts.{shown_call, shown_end}
use Rattle.judge_search.specs.Calls.{calls_of}
use Rattle.judge_linear.proofs.Turns.{said_some, said_none}
use Rattle.judge_linear.proofs.history.History.is_in_turn.Goals as goal

pub returns-in-Some : goal.returns-in-Some
returns-in-Some c = λ held.
    let call = c.args.call.now in
    let own : call.begin ≤ shown_end call.end = omega (
      arith,
      c.if-end_or_never-begin.false,
      c.from-begin.ensures,
      c.end_or_never.ensures,
    ) in
    ap (nat_le c.in-Some.last) c.from-begin.ensures
    ∙ said_some c.args.self.now.ends (calls_of c.args.self.now.lines.items)
    (shown_call call) c.in-Some.last held.ends own (sym c.get.ensures ∙ c.in-Some.is)

pub returns-in-None : goal.returns-in-None
returns-in-None c = λ held.
    let call = c.args.call.now in
    let own : call.begin ≤ shown_end call.end = omega (
      arith,
      c.if-end_or_never-begin.false,
      c.from-begin.ensures,
      c.end_or_never.ensures,
    ) in
    said_none c.args.self.now.ends (calls_of c.args.self.now.lines.items) (shown_call call) held.ends own
    (sym c.get.ensures ∙ c.in-None.is)
