use Rattle.std.proofs.Common.{leb-true, refl}
use Rattle.std.proofs.lemmas.Bool.{and_parts}
use Rattle.judge_linear.specs.declared.ordering.Outcome.TheVariants as outcome
use Rattle.cli_judge.proofs.Judgement.{kept_as}
use Rattle.cli_judge.proofs.searching.order_in_memory.Goals as goal

pub order_history-requires-clause-some : goal.order_history-requires-clause-some
order_history-requires-clause-some g c = leb-true _ _ (and_parts _ _ c.requires).0

pub order_history-requires-clause-most : goal.order_history-requires-clause-most
order_history-requires-clause-most g c = leb-true _ _ (and_parts _ _ c.requires).1

pub returns-in-Ok-Illegal-clause-none : goal.returns-in-Ok-Illegal-clause-none
returns-in-Ok-Illegal-clause-none g c =
    kept_as _ _ _ _ outcome.Illegal _ _ _ _ _ _ _ _ c.in-Ok-Illegal.field-0-is refl c.new-text.ensures.items
    c.as_slice.ensures.value
    c.in-Ok-Illegal.ensures.ok c.write_unordered.ensures

pub returns-in-Ok-Undecided-clause-none : goal.returns-in-Ok-Undecided-clause-none
returns-in-Ok-Undecided-clause-none g c =
    kept_as _ _ _ _ outcome.Undecided _ _ _ _ _ _ _ _ c.in-Ok-Undecided.field-0-is refl c.new-text.ensures.items
    c.as_slice-in-Ok-Undecided.ensures.value c.in-Ok-Undecided.ensures.ok c.write_unordered-in-Ok-Undecided.ensures
