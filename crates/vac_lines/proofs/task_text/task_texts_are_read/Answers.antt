use Rattle.std.proofs.Common.{ap, ◌∙◌, length}
use Rattle.std.proofs.lemmas.Bool.{le-ltb}
use Rattle.vac_lines.specs.LineTable.{words_task}
use Rattle.vac_model.specs.TaskText.{task_words, task_text}
use Rattle.vac_lines.proofs.Spacing.{words_cut, words_clean}
use Rattle.vac_lines.proofs.TaskReading.{words_read, words_plain, task_some}
use Rattle.vac_lines.proofs.task_text.task_texts_are_read.Goals as goal

pub returns : goal.returns
returns c = λ t h few.
    let plain = words_plain t h in
    rw (le-ltb 1024 (length (task_text t)) few, words_clean (task_words t) plain)
    (ap words_task (words_cut (task_words t) (task_some t) plain) ∙ words_read t h)
