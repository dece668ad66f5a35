use Rattle.std.proofs.Common.{◌≡◌, Some, None, sym, ◌∙◌, subst}
use Rattle.judge_calls.specs.declared.verdict.Verdict.{Verdict}
use Rattle.judge_linear.specs.Reading.{ReadWrong}
use Rattle.judge_linear.proofs.Telling.{read_all, read_wrong}
use Rattle.judge_linear.proofs.reading.read_history.Goals as goal

some_none : (v : Verdict) → Some v ≡ None → ⊥
some_none v e = cc

some_same : (v w : Verdict) → Some v ≡ Some w → v ≡ w
some_same v w e = cc

pub unreachable-requires : goal.unreachable-requires
unreachable-requires g c =
    let r = read_wrong _ _ _ _ _ _ _ c.in-Stop.is c.new.ensures.held c.new.ensures.lines c.in_ok-read_lines.ensures in
    some_none r.0 (sym r.1 ∙ c.in-None.is)

pub returns-in-GoOn-clause-read : goal.returns-in-GoOn-clause-read
returns-in-GoOn-clause-read g c = read_all _ _ _ _ _ _ _ c.in-GoOn.is c.new.ensures.held c.new.ensures.lines
    c.in_ok-read_lines.ensures

pub returns-in-Some-clause-read : goal.returns-in-Some-clause-read
returns-in-Some-clause-read g c =
    let r = read_wrong _ _ _ _ _ _ _ c.in-Stop.is c.new.ensures.held c.new.ensures.lines c.in_ok-read_lines.ensures in
    subst (ReadWrong (g.R.Read.remaining c.args.input.now) (g.R.Read.remaining c.read_lines.new.input))
    (some_same r.0 c.in-Some.verdict (sym r.1 ∙ c.in-Some.is)) r.2
