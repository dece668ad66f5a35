use Rattle.std.proofs.Common.{refl, sym, ap, inr, ◌∙◌}
use Rattle.std.specs.Prelude.{option_map}
use Rattle.judge_part_text.specs.Naming.{shown}
use Rattle.cli_judge.proofs.PartNames.{named_as, unnamed_as}
use Rattle.cli_judge.proofs.parting.part.Goals as goal

pub returns-in-Ok-Some : goal.returns-in-Ok-Some
returns-in-Ok-Some g c =
    named_as c.args.words.now (shown c.in-Ok-Some.names) _ _ _ _ _ _ _
    (sym (ap (option_map shown) c.in-Ok-Some.field-0-is) ∙ c.in-Ok-Some.ensures)
    c.as_slice.ensures.value c.as_slice-2.ensures.value c.part_on.ensures

pub returns-in-Ok-None : goal.returns-in-Ok-None
returns-in-Ok-None g c =
    unnamed_as c.args.words.now _ _ _ _ _
    (sym (ap (option_map shown) c.in-Ok-None.field-0-is) ∙ c.in-Ok-None.ensures)
    c.as_slice.ensures.value c.as_slice-2.ensures.value c.refuse.ensures

pub returns-in-Err : goal.returns-in-Err
returns-in-Err g c = inr (c.end_by.ensures.status, refl, c.end_by.ensures.line)
