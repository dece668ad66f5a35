use Rattle.std.proofs.Common.{◌≡◌, Bool, true, false, not, Some, refl, sym, ap, ◌∙◌}
use Rattle.std.proofs.Common.{arith, nat_le}
use Rattle.std.proofs.lemmas.Bool.Decides.{nat_tests}
use Rattle.judge_search.specs.Calls.{call_of}
use Rattle.judge_text.proofs.Ends.{said_some, said_none, not_true, apart_some, apart_none, touch_some}
use Rattle.judge_text.proofs.turns.stands.Goals as goal

not_false : (b : Bool) → not b ≡ false → b ≡ true
not_false true e = refl
not_false false e = cc

pub returns-then-begin-last-clause-stands : goal.returns-then-begin-last-clause-stands
returns-then-begin-last-clause-stands g c = λ calls k kc ke.
    let call = call_of c.args.line.now in
    let own = c.if-line-begin.false in
    let late = c.if-begin-last.true in
    let told = said_some c.args.ends.now calls call c.in-Some.last k (omega arith) (sym c.in-Some.ensures) in
    let no : nat_le c.in-Some.last call.begin ≡ false = grind (arith, nat_tests) in
    not_false _ (sym told ∙ no)

pub returns-then-begin-last-2-clause-stands : goal.returns-then-begin-last-2-clause-stands
returns-then-begin-last-2-clause-stands g c = λ calls k kc ke.
    let call = call_of c.args.line.now in
    let own = c.if-line-begin.false in
    let late = c.if-begin-last.false in
    let told = said_some c.args.ends.now calls call c.in-Some.last k (omega arith) (sym c.in-Some.ensures) in
    let yes : nat_le c.in-Some.last call.begin ≡ true = grind (arith, nat_tests) in
    let at : c.in-Some.last ≡ call.begin = omega arith in (
      not_true _ (sym told ∙ yes),
      touch_some c.args.ends.now calls call ke (sym c.in-Some.ensures ∙ ap Some at),
    )

pub returns-else-begin-last-2-clause-stands : goal.returns-else-begin-last-2-clause-stands
returns-else-begin-last-2-clause-stands g c = λ calls k kc ke.
    let call = call_of c.args.line.now in
    let own = c.if-line-begin.false in
    let late = c.if-begin-last.false in
    let other = c.if-begin-last-2.false in
    let told = said_some c.args.ends.now calls call c.in-Some.last k (omega arith) (sym c.in-Some.ensures) in
    let yes : nat_le c.in-Some.last call.begin ≡ true = grind (arith, nat_tests) in (
      not_true _ (sym told ∙ yes),
      apart_some c.args.ends.now calls call c.in-Some.last k (sym c.in-Some.ensures) (grind arith),
    )

pub returns-in-None-clause-stands : goal.returns-in-None-clause-stands
returns-in-None-clause-stands g c = λ calls k kc ke.
    let call = call_of c.args.line.now in
    let own = c.if-line-begin.false in
    let told = said_none c.args.ends.now calls call k (omega arith) (sym c.in-None.ensures) in (
      not_true _ (sym told),
      apart_none c.args.ends.now calls call kc (sym c.in-None.ensures),
    )
