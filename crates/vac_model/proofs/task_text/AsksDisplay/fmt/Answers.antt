use Rattle.std.proofs.Common.{◌≡◌, ◌∙◌, ap, arith, take}
use Rattle.std.proofs.lemmas.Grind.{common_steps}
use Rattle.std.specs.List.{flat_map}
use Rattle.std.proofs.Output.{has_written_of_eq}
use Rattle.vac_model.specs.TaskText.{spaced, item_words}
use Rattle.vac_model.proofs.TaskLines.{spaced_each}
use Rattle.vac_model.proofs.task_text.AsksDisplay.fmt.Goals as goal

pub returns-clause-writes : goal.returns-clause-writes
returns-clause-writes g c plain ok =
    let all : take c.loop-kind.kind-index c.as_slice-kind-items.result.now ≡ c.args.self.now =
    grind (arith, common_steps) in
    has_written_of_eq _ _ _ _ _
    (ap (flat_map (λ ask. spaced (item_words ask.0 ask.1))) all ∙ spaced_each (λ ask. item_words ask.0 ask.1) _)
    (c.loop-kind.invariant plain)
