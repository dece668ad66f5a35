use Rattle.std.proofs.Common.{sym, subst}
use Rattle.std.proofs.lemmas.Result.{IfOk-weaker}
use Rattle.judge_calls.specs.Laws.{Lists}
use Rattle.judge_reservations.specs.Lines.{calls_of}
use Rattle.judge_part_text.specs.Reading.{IsReadingOf}
use Rattle.judge_part_text.proofs.Parts.{whole_text}
use Rattle.judge_part_text.proofs.parting.find_text.Goals as goal

pub returns-in-Whole : goal.returns-in-Whole
returns-in-Whole c =
    let listed = subst (λ ls. Lists c.args.bytes.now (calls_of ls)) (sym c.as_slice.ensures.value)
    (subst (IsReadingOf c.args.bytes.now) c.in-Whole.is c.in_ok-reading.ensures) in
    IfOk-weaker c.text_of_calls.result _ _
    (λ found h. whole_text _ _ c.args.bytes.now _ found.0 found.1.items listed h) c.text_of_calls.ensures
