use Rattle.std.proofs.Common.{sym, refl, arith}
use Rattle.std.specs.List.{list_any}
use Rattle.std.proofs.lemmas.List.Recursion.{or_from_places}
use Rattle.judge_opacity.specs.declared.attempt.Access.TheVariants.{Read}
use Rattle.judge_opacity.specs.Placing.{is_write}
use Rattle.judge_opacity.proofs.logged.has_write.Goals as goal

pub returns : goal.returns
returns c =
    sym (or_from_places (list_any is_write) is_write refl (λ _ _. refl) c.args.accesses.now (Read 0 0)
    (λ i l. c.accesses.invariant i (Read 0 0) (omega (arith, l))))
