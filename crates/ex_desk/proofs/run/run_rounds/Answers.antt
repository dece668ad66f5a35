use Rattle.std.proofs.Common.{rules, ◌≡◌, ◌∙◌, false, nat_lt, List, inl, inr, sym, subst, arith}
use Rattle.std.specs.List.{list_any}
use Rattle.ex_desk.specs.declared.desk.Desk.{Desk}
use Rattle.ex_desk.specs.Desks.{asked}
use Rattle.ex_desk.proofs.Running.{all_ended}
use Rattle.ex_desk.proofs.run.run_rounds.Goals as goal
use Rattle.ex_desk.proofs.run.run_rounds.Goals.{then-rounds-test+else-is_left, else-rounds-test}

pub close-requires-clause-ended : goal.close-requires-clause-ended
close-requires-clause-ended g c = elim c.rounds-test.branch [
  | then-rounds-test+else-is_left w ↦
      let none : w.is_left.result ≡ false = search rules in
      let same : w.deref.result.now ≡ c.rounds.open_desks.desks.items = search rules in
      inl (all_ended c.args.settings c.rounds.open_desks.desks.items c.rounds.invariant.within
      (subst (λ (l : List Desk). list_any (λ d. nat_lt (asked d) c.args.settings.trips) l ≡ false) same
      (sym w.is_left.ensures ∙ none)))
  | else-rounds-test w ↦ inr (let most = c.rounds.invariant.most in search (rules, arith))
]
