-- The tasks of a load as text, one task a line, and the effect of writing them.
use Rattle.std.specs.Prelude.{◌≡◌, ℕ, zero, suc, ◌*◌, List, ◌++◌, Option, codes}
use Rattle.std.specs.Prelude.{decimal, flat_map}
use Rattle.std.specs.Io.KnownBytes.{Appends}
use Rattle.rand_pcg.specs.Lcg.{Lcg}
use Rattle.vac_model.specs.declared.commands.Command.{Command}
use Rattle.vac_model.specs.declared.tasks.Task.{Task}
use Rattle.vac_model.specs.declared.tasks.Task.TheVariants as task
use Rattle.load_tasks.specs.declared.settings.Settings.{Settings}
use Rattle.load_tasks.specs.Draws.{Reader, times_over, Drawn}
use Rattle.load_tasks.specs.Streams.{stream_of, gives}
use Rattle.load_tasks.specs.Tasks.{task_of, opening}
use Rattle.vac_lines.specs.Writing.{AppendsPrefix}
use Rattle.vac_lines.specs.Script.{as_line}
use Rattle.vac_model.specs.TaskText.{task_text}

-- the line `CLIENT LINE`: a task as an output line, after the number of its client
abbrev pub task_line : ℕ → Task → List ℕ
task_line client t = as_line (decimal client ++ codes " " ++ task_text t)

-- a command of the setup phase as an output line, under client 0
abbrev pub opening_line : Command → List ℕ
opening_line c = task_line 0 (task.One c)

-- the text has the lines, in order, of the items that are read from the words of a generator
-- between the first state and the last one
pub record DrawnLines {X : Type 0} (reader : Reader (List X)) (line : X → List ℕ)
    (state last : Lcg) (text : List ℕ) : Type 0 where
  pub items : List X
  pub drawn : Drawn gives reader state items last
  pub text_is : text ≡ flat_map line items

-- the text has the lines of the setup phase, which is drawn from stream 0
abbrev pub IsOpeningText : Settings → List ℕ → Type 0
IsOpeningText s text =
    (last : Lcg) × DrawnLines (opening s) opening_line (stream_of s.seed 0) last text

-- the text has the lines of a client's tasks in all rounds, which are drawn from the stream of the
-- client's number
abbrev pub IsClientText : Settings → ℕ → List ℕ → Type 0
IsClientText s client text = (last : Lcg) × DrawnLines (times_over (s.rounds * s.tasks) (task_of s))
    (task_line client) (stream_of s.seed client) last text

-- the text has the lines of the setup phase, and after them those of the clients from 1 to n,
-- client after client
abbrev pub IsTextOf : Settings → ℕ → List ℕ → Type 0
IsTextOf s zero text = IsOpeningText s text
IsTextOf s (suc n) text = (before : List ℕ) × (own : List ℕ)
    × IsTextOf s n before × IsClientText s (suc n) own × (text ≡ before ++ own)

-- the text has the tasks of a load with these settings, one task a line
abbrev pub IsTasksText : Settings → List ℕ → Type 0
IsTasksText s text = IsTextOf s s.clients text

-- the tasks of a load were written, and nothing else
-- Not said: in how many writes; that the output is flushed; that it takes one chunk and one task
-- of memory.
pub record WroteTasks (s : Settings) (held holds : Option (List ℕ)) : Type 0 where
  pub text : List ℕ
  pub is : IsTasksText s text
  pub written : Appends held holds text

-- a prefix of the tasks of a load was written
-- Not said: that it ends otherwise only if memory is refused or a write fails.
pub record WroteTasksPrefix (s : Settings) (held holds : Option (List ℕ)) : Type 0 where
  pub text : List ℕ
  pub is : IsTasksText s text
  pub written : AppendsPrefix held holds text
