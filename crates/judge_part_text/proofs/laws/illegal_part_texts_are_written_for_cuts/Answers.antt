use Rattle.std.proofs.Common.{subst, sym, ◌∙◌}
use Rattle.judge_object.specs.Cut.{cut}
use Rattle.judge_calls.specs.Laws.{Lists}
use Rattle.judge_reservations.specs.Histories.{part_of_history}
use Rattle.judge_part_text.specs.Laws.{HaveNoOrder}
use Rattle.judge_part_text.proofs.Histories.{same_calls}
use Rattle.judge_part_text.proofs.laws.illegal_part_texts_are_written_for_cuts.Goals as goal

pub returns : goal.returns
returns c = λ customers items line bytes text had part written parts read.
    let of = part.text_is.text_is in
    let whole = part_of_history of.scope (cut part.text_is.moment part.calls) in
    let lists = (c.histories_are_read.ensures whole written).listed in
    let same = same_calls whole parts (sym (subst (λ t. Lists t whole) (sym of.text_is) lists) ∙ read) in
    subst HaveNoOrder same (c.illegal_parts_are_written_for_cuts.ensures customers items line bytes text had part)
