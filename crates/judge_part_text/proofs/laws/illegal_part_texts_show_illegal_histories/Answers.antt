use Rattle.std.proofs.Common.{subst, sym, ◌∙◌}
use Rattle.vac_model.specs.State.{empty_state}
use Rattle.vac_model.specs.declared.limits.TheConstants.{MOST_BLOCKS}
use Rattle.judge_object.specs.Orders.{IsLinearizable}
use Rattle.judge_reservations.specs.Reserving.{reserving}
use Rattle.judge_calls.specs.Laws.{Lists}
use Rattle.judge_reservations.specs.Histories.{part_of_history}
use Rattle.judge_part_text.proofs.Histories.{same_calls}
use Rattle.judge_part_text.proofs.laws.illegal_part_texts_show_illegal_histories.Goals as goal

pub returns : goal.returns
returns c = λ customers items bytes text part written parts read illegal blocks calls few listed legal.
    let whole = part_of_history part.text_is.scope part.calls in
    let lists = (c.histories_are_read.ensures whole written).listed in
    let same = same_calls whole parts (sym (subst (λ t. Lists t whole) (sym part.text_is.text_is) lists) ∙ read) in
    c.illegal_parts_show_illegal_histories.ensures part.text_is.scope blocks part.calls few part.text_is.is_scope.parts
    (λ l. illegal (subst (IsLinearizable reserving (empty_state MOST_BLOCKS)) same l))
    (subst (IsLinearizable reserving (empty_state blocks))
    (same_calls calls part.calls (sym listed ∙ part.listed)) legal)
