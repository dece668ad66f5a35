use Rattle.std.proofs.Common.{◌≡◌, ◌==◌, ℕ, true, Some, None, sym, ◌∙◌, arith}
use Rattle.std.proofs.lemmas.Bool.Decides.{nat_tests}
use Rattle.judge_search.specs.Marks.{is_made}
use Rattle.judge_search.specs.Calls.{calls_of}
use Rattle.judge_search.proofs.Sorted.{long_calls}
use Rattle.judge_search.proofs.Exact.{first_try}
use Rattle.judge_search.proofs.checking.may_come.Goals as goal

some_none : (p : ℕ) → None ≡ Some p → ⊥
some_none p e = cc

same_place : (p q : ℕ) → Some p ≡ Some q → (p == q) ≡ true
same_place p q e = let s : p ≡ q = cc in grind (arith, nat_tests)

pub returns-in-Some-clause-all : goal.returns-in-Some-clause-all
returns-in-Some-clause-all g c = λ within can.
    let rules = g.M.Object.rules in
    let lines = c.args.calls.now.lines.items in
    let place = c.args.place in
    same_place c.in-Some.first place
    (sym c.in-Some.is ∙ first_try rules (is_made c.args.low c.args.beyond.now) (calls_of lines) place c.next_call.result
    (long_calls rules lines place within) can c.next_call.ensures.next c.next_call.ensures.after)

pub returns-in-None-clause-all : goal.returns-in-None-clause-all
returns-in-None-clause-all g c = λ within can.
    let rules = g.M.Object.rules in
    let lines = c.args.calls.now.lines.items in
    let place = c.args.place in
    absurd (some_none place
    (sym c.in-None.is ∙ first_try rules (is_made c.args.low c.args.beyond.now) (calls_of lines) place c.next_call.result
    (long_calls rules lines place within) can c.next_call.ensures.next c.next_call.ensures.after))
