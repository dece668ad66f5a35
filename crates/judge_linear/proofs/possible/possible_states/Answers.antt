use Rattle.std.proofs.Common.{◌≡◌, ◌≤◌, ◌==◌, Bool, false, List, [], ◌∷◌, length, sym, ap, ◌∙◌, subst, arith}
use Rattle.std.specs.Prelude.{IfSome, vec_len}
use Rattle.judge_reservations.specs.Reserving.{reserving}
use Rattle.judge_search.specs.Calls.{calls_of}
use Rattle.judge_search.specs.Reaching.{AreLeft}
use Rattle.judge_linear.specs.Possible.{AreSameOnce}
use Rattle.judge_linear.proofs.PossibleStates.{have_states}
use Rattle.judge_linear.proofs.possible.possible_states.Goals as goal

some_items : {X : Type 0} (empty : Bool) (xs : List X) → empty ≡ (length xs == 0) → empty ≡ false → 1 ≤ length xs
some_items empty [] e f = cc
some_items empty (x ∷ xs) e f = omega arith

pub returns : goal.returns
returns c =
    let calls = calls_of c.args.calls.now.lines.items in
    let machine = c.in_ok-machine.machine in
    let states = c.in-Some.states.items in
    let once = c.in-Some-2.once in
    let long : vec_len once ≡ length once.items = once.ok.0 in
    let number : length once.items ≡ c.len.result = sym (c.len.ensures ∙ long) in
    let some : 1 ≤ length once.items =
    some_items c.is_empty.result once.items (c.is_empty.ensures ∙ ap (λ n. n == 0) long) c.if-is_empty.false in
    have_states calls states once.items machine c.len.result c.in_ok-machine.ensures
    (subst (λ o. IfSome o (λ found. AreLeft reserving machine calls found.items)) c.in-Some.is c.in_ok-states.ensures)
    (subst (λ o. IfSome o (λ found. AreSameOnce states found.items)) c.in-Some-2.is c.in_ok-once.ensures)
    number (subst (λ n. 1 ≤ n) number some)
