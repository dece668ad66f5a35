-- The reservation system as a sequential object.
use Rattle.judge_object.specs.Rules.{Rules}
use Rattle.vac_model.specs.State.{State}
use Rattle.vac_model.specs.Run.{run}
use Rattle.vac_model.specs.declared.tasks.Task.{Task}
use Rattle.vac_model.specs.declared.tasks.Task.TheVariants as task
use Rattle.vac_model.specs.declared.replies.Reply.{Reply}
use Rattle.vac_model.specs.ReplyText.{reply_text}

-- the rules of the reservation system
abbrev pub reserving : Rules State Task Reply
reserving = record { run = run; text = reply_text; none = task.Leave 0 }
