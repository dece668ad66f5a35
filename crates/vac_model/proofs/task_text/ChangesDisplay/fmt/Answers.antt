use Rattle.std.proofs.Common.{◌≡◌, ◌∷◌, ◌++◌, ◌∙◌, ap, arith, take, rules, codes}
use Rattle.std.specs.List.{flat_map}
use Rattle.std.proofs.lemmas.Grind.{common_steps}
use Rattle.std.proofs.Output.{has_written_append, has_written_of_eq}
use Rattle.vac_model.specs.TaskText.{spaced, further_words, changes_words, words_text, command_words}
use Rattle.vac_model.proofs.TaskLines.{change_more, changes_spaced}
use Rattle.vac_model.proofs.task_text.ChangesDisplay.fmt.Goals as goal

pub loop-change-preserved : goal.loop-change-preserved
loop-change-preserved g c plain =
    let before = c.loop-change.invariant plain in
    has_written_of_eq _ _ _ _ _ (change_more c.in-Some.rest.now c.loop-change.change-index _ c.loop-change-test.true)
    (has_written_append _ _ _ _ _ _ before (c.in_ok-write-2.ensures.writes before.plain (search rules)))

pub returns-clause-writes : goal.returns-clause-writes
returns-clause-writes g c plain ok =
    let first = c.in_ok-write.ensures.writes plain (search rules) in
    let all : take c.loop-change.change-index c.in-Some.rest.now ≡ c.in-Some.rest.now = grind (arith, common_steps) in
    let parts : c.in-Some.first.now ∷ c.in-Some.rest.now ≡ c.args.self.now = search rules in
    has_written_of_eq _ _ _ _ _
    (ap (λ l. (codes " " ++ words_text (command_words c.in-Some.first.now)) ++ flat_map
    (λ d. spaced (further_words d)) l) all
    ∙ changes_spaced c.in-Some.first.now c.in-Some.rest.now ∙ ap (λ l. spaced (changes_words l)) parts)
    (has_written_append _ _ _ _ _ _ first (c.loop-change.invariant first.plain))
