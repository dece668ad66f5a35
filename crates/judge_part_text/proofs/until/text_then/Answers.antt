use Rattle.std.proofs.Common.{◌≡◌, ◌+◌, ◌∙◌, not, ap, sym, subst, rules}
use Rattle.std.specs.Prelude.{MatchOption}
use Rattle.std.specs.List.{position}
use Rattle.judge_object.specs.Cut.{cut}
use Rattle.judge_reservations.specs.Largest.{HasNoScope}
use Rattle.judge_reservations.specs.Lines.{call_of, calls_of}
use Rattle.judge_part_text.specs.Parting.{IsPartOfCalls, no_part_text}
use Rattle.judge_part_text.specs.Until.{had_part}
use Rattle.judge_part_text.proofs.Then.{none_then, first_then}
use Rattle.judge_part_text.proofs.until.text_then.Goals as goal

pub unreachable-requires : goal.unreachable-requires
unreachable-requires c =
    let customers = c.args.names.now.customers.items in
    let items = c.args.names.now.items.items in
    let lines = c.args.lines.items in
    let scope = c.in_ok-scope.scope in
    let none : HasNoScope customers items (cut c.args.moment (calls_of lines)) =
    subst (HasNoScope customers items) (ap calls_of c.as_slice-2.ensures.value ∙ c.in_ok-cut.ensures.calls)
    (subst (λ o. MatchOption o (HasNoScope customers items (calls_of c.as_slice-2.result.now))
    (λ text. IsPartOfCalls customers items (calls_of c.as_slice-2.result.now) text.items)) c.in_default.is
    c.in_ok-text.ensures) in
    none_then customers items c.args.moment lines scope none c.in_ok-scope.ensures
    (ap (position (λ line. not (had_part scope c.args.moment (call_of line)))) (sym c.as_slice.ensures.value)
    ∙ sym c.first_without-first.ensures ∙ c.in-None.is)

pub returns : goal.returns
returns c =
    let customers = c.args.names.now.customers.items in
    let items = c.args.names.now.items.items in
    let lines = c.args.lines.items in
    let scope = c.in_ok-scope.scope in
    let none : HasNoScope customers items (cut c.args.moment (calls_of lines)) =
    subst (HasNoScope customers items) (ap calls_of c.as_slice-2.ensures.value ∙ c.in_ok-cut.ensures.calls)
    (subst (λ o. MatchOption o (HasNoScope customers items (calls_of c.as_slice-2.result.now))
    (λ text. IsPartOfCalls customers items (calls_of c.as_slice-2.result.now) text.items)) c.in_default.is
    c.in_ok-text.ensures) in
    let first = first_then customers items c.args.moment lines scope c.in-Some-first.place none
    c.in_ok-scope.ensures
    (ap (position (λ line. not (had_part scope c.args.moment (call_of line)))) (sym c.as_slice.ensures.value)
    ∙ sym c.first_without-first.ensures ∙ c.in-Some-first.is) in
    let line = c.in-Some-first.place + 1 in
    let text : c.print.new.out.items ≡ no_part_text line = search rules in
    (line, first, text)
