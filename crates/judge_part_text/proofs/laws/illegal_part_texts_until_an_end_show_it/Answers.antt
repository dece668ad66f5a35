use Rattle.std.proofs.Common.{subst, sym, ◌∙◌}
use Rattle.vac_model.specs.State.{empty_state}
use Rattle.vac_model.specs.declared.limits.TheConstants.{MOST_BLOCKS}
use Rattle.judge_object.specs.Orders.{IsLinearizable}
use Rattle.judge_object.specs.Cut.{cut}
use Rattle.judge_reservations.specs.Reserving.{reserving}
use Rattle.judge_calls.specs.Laws.{Lists}
use Rattle.judge_reservations.specs.Histories.{part_of_history}
use Rattle.judge_part_text.proofs.Histories.{same_calls}
use Rattle.judge_part_text.proofs.laws.illegal_part_texts_until_an_end_show_it.Goals as goal

pub returns : goal.returns
returns c = λ customers items line bytes text part written parts read illegal blocks calls few listed.
    let of = part.text_is.text_is in
    let whole = part_of_history of.scope (cut part.text_is.moment part.calls) in
    let lists = (c.histories_are_read.ensures whole written).listed in
    let same = same_calls whole parts (sym (subst (λ t. Lists t whole) (sym of.text_is) lists) ∙ read) in
    c.illegal_parts_until_an_end_show_illegal_histories.ensures customers items line bytes text part
    (λ l. illegal (subst (IsLinearizable reserving (empty_state MOST_BLOCKS)) same l)) blocks calls few listed
