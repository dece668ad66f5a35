use Rattle.std.proofs.Common.{◌≡◌, Bool, true, false, not, subst, refl}
use Rattle.judge_search.specs.Calls.{calls_of}
use Rattle.judge_text.specs.Turns.{AreTurns}
use Rattle.judge_text.proofs.Legal.{out_of_turn}
use Rattle.judge_kv.proofs.objects.are_touching.Goals as goal

not_true : (b : Bool) → not b ≡ true → b ≡ false
not_true true e = cc
not_true false e = refl

not_false : (b : Bool) → not b ≡ false → b ≡ true
not_false true e = refl
not_false false e = cc

pub returns-in-Held-clause-some : goal.returns-in-Held-clause-some
returns-in-Held-clause-some c = λ e strict.
    let turns = subst (AreTurns (calls_of c.args.lines.now)) c.in-Held.is c.in_ok-is_strict.ensures in
    turns.2 (not_true c.in-Held.is_strict e) strict

pub returns-in-Held-clause-none : goal.returns-in-Held-clause-none
returns-in-Held-clause-none c = λ e whole.
    let turns = subst (AreTurns (calls_of c.args.lines.now)) c.in-Held.is c.in_ok-is_strict.ensures in
    turns.1 (not_false c.in-Held.is_strict e)

pub returns-in-Broken-clause-none : goal.returns-in-Broken-clause-none
returns-in-Broken-clause-none c = λ e whole.
    let turns = subst (AreTurns (calls_of c.args.lines.now)) c.in-Broken.is c.in_ok-is_strict.ensures in
    absurd (out_of_turn (calls_of c.args.lines.now) _ turns whole.turn)
