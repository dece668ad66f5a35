-- The judgement of a history of a queue: status, input and output.
use Rattle.std.specs.Prelude.{ℕ, Option, List, []}
use Rattle.judge_text.specs.Classing.{AreOwn}
use Rattle.judge_text.specs.Program.{HasEnded}
use Rattle.judge_text.specs.declared.settings.Settings.{Settings}
use Rattle.judge_queue.specs.Rules.{queue}
use Rattle.judge_queue.specs.Words.{queue_language}
use Rattle.judge_options.specs.declared.asked.SearchSettings.{SearchSettings}

-- the settings of the judge of a history of objects
abbrev pub settings_of : SearchSettings → Settings
settings_of search = record { level = search.level; steps = search.steps }

-- the program judges a history of a queue that is empty at first
abbrev pub JudgesQueue : Settings → ℕ → Option (List ℕ) → Option (List ℕ) → Option (List ℕ)
    → Option (List ℕ) → Type 0
JudgesQueue how status unread left held holds =
    HasEnded queue (λ op. []) (λ calls objects. AreOwn objects) queue_language (λ name. []) how
    status unread left held holds
