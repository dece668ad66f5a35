use Rattle.vac_model.specs.declared.limits.TheConstants.{MOST_BLOCKS}
use Rattle.judge_object.specs.declared.level.Level.TheVariants as level
use Rattle.cli_judge.proofs.Verdicts.{had_illegal}
use Rattle.cli_judge.proofs.laws.parts_of_illegal_verdicts_are_written_illegal.Goals as goal

pub returns : goal.returns
returns c = λ n bytes line customers items stuck states h.
    let had = had_illegal n bytes line customers items stuck states h in
    record {
      written = λ text. c.parts_are_written_for_cuts.ensures customers items line bytes text had;
      illegal = λ text part written.
          let none = c.illegal_part_texts_are_written_for_cuts.ensures customers items line bytes text had part
          written in
          record {
            none = none;
            never = λ steps numbers found.
                none found.ordered.calls found.ordered.listed
                (c.an_order_that_is_found_shows_the_level.ensures level.Linearizable MOST_BLOCKS steps text numbers
                found found.ordered.calls found.ordered.listed);
          };
    }
