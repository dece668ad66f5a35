use Rattle.std.proofs.Common.{subst, sym, ◌∙◌}
use Rattle.vac_model.specs.State.{empty_state}
use Rattle.judge_object.specs.Orders.{IsLinearizable}
use Rattle.judge_reservations.specs.Reserving.{reserving}
use Rattle.judge_part_text.proofs.Histories.{same_calls}
use Rattle.judge_part_text.proofs.laws.illegal_parts_that_are_written_show_illegal_histories.Goals as goal

pub returns : goal.returns
returns c = λ customers items bytes text part illegal blocks calls few listed legal.
    c.illegal_parts_show_illegal_histories.ensures part.text_is.scope blocks part.calls few part.text_is.is_scope.parts
    illegal (subst (IsLinearizable reserving (empty_state blocks))
    (same_calls calls part.calls (sym listed ∙ part.listed)) legal)
