use Rattle.std.proofs.Common.{◌∙◌, Result, Ok, Err}
use Rattle.std.specs.Prelude.{IfOk}
use Rattle.judge_linear.proofs.CutCalls.{copies_cut}
use Rattle.judge_linear.proofs.moments.cut_calls.Goals as goal

both_ok : {A E : Type 0} {P Q T : A → Type 0} → ((x : A) → P x → Q x → T x) → (r : Result A E) → IfOk r P → IfOk r Q →
    IfOk r T
both_ok f (Ok x) p q = f x p q
both_ok f (Err e) p q = tt

pub returns : goal.returns
returns c =
    both_ok (λ calls same merges. record {
      from = c.in_ok-cut.cut.items;
      numbers = c.in_ok-cut.ensures.lines
          ∙ copies_cut c.args.moment c.in_ok-copies.copies.items c.args.lines.now c.in_ok-copies.ensures;
      sorted = same;
      merges = merges;
    }) c.new.result c.new.ensures.same c.new.ensures.merges
