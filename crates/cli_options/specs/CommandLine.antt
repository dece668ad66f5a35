-- The command line that the program takes, in clap's terms, and the request that its words make.
use Rattle.std.specs.Prelude.{◌≡◌, ◌+◌, true, Some, codes, List, [], ◌∷◌, ◌++◌}
use Rattle.clap.specs.Simple.{new_shape}
use Rattle.clap.specs.Words.{App, Shape, Rule, Row, Text, fault_of}
use Rattle.clap.specs.Words.{subcommand_of, subcommand_rows_of}
use Rattle.clap.specs.declared.parser.matches.ArgMatches.{ArgMatches}
use Rattle.vac_model.specs.Ranges.{is_block_count}
use Rattle.vac_model.specs.declared.limits.TheConstants.{MOST_BLOCKS, MOST_PARTS, MOST_TRIES}
use Rattle.load_tasks.specs.declared.settings.TheConstants.{MOST_CLIENTS, MOST_TASKS, MOST_ITEMS}
use Rattle.load_tasks.specs.declared.settings.TheConstants.{MOST_ROUNDS, PERCENT}
use Rattle.load_tasks.specs.declared.settings.Settings.{Settings}
use Rattle.load_tasks.specs.declared.settings.TheConstants.{VERSION_LIMIT}
use Rattle.cli_common.specs.declared.values.TheConstants.{MOST_NUMBER}
use Rattle.cli_common.specs.Options.{number_option, any_number_option, short_option, blocks_option}
use Rattle.cli_common.specs.Options.{flag, with_options, with_commands}
use Rattle.cli_common.specs.Values.{Gives, GivesIn, Says, IsFlag}
use Rattle.cli_options.specs.declared.asked.TheConstants.{DRAWN_TRIES}
use Rattle.cli_options.specs.declared.asked.LoadOutput.{LoadOutput}
use Rattle.cli_options.specs.declared.asked.Request.{Request}
use Rattle.cli_options.specs.declared.asked.Request.TheVariants.{Run, Dump, Check, Load, Tasks}

-- ---- the options and subcommands

-- `-c`, `--clients`: number of clients
abbrev pub clients_option : Rule
clients_option = short_option 99 (number_option (codes "clients") 1 MOST_CLIENTS (codes "4"))

-- `-t`, `--tasks`: tasks per client and round
abbrev pub tasks_option : Rule
tasks_option = short_option 116 (number_option (codes "tasks") 1 MOST_TASKS (codes "100"))

-- `--rounds`: number of rounds
abbrev pub rounds_option : Rule
rounds_option = number_option (codes "rounds") 1 MOST_ROUNDS (codes "1")

-- `--tries`: largest number of attempts of a task
abbrev pub tries_option : Rule
tries_option = number_option (codes "tries") 1 MOST_TRIES (codes "64")

-- the options for the clients of a load and the number of their tasks
abbrev pub client_options : List Rule
client_options = clients_option ∷ tasks_option ∷ rounds_option ∷ []

-- `-r`, `--items`: number of items of each kind, and number of customers
abbrev pub items_option : Rule
items_option = short_option 114 (number_option (codes "items") 1 MOST_ITEMS (codes "16"))

-- `-n`, `--asks`: largest number of items that a task names
abbrev pub asks_option : Rule
asks_option = short_option 110 (number_option (codes "asks") 1 MOST_PARTS (codes "4"))

-- `-u`, `--user`: percentage of trips among the tasks
abbrev pub user_option : Rule
user_option = short_option 117 (number_option (codes "user") 0 PERCENT (codes "80"))

-- `--reads`: percentage of questions among the tasks
abbrev pub reads_option : Rule
reads_option = number_option (codes "reads") 0 PERCENT (codes "0")

-- `-s`, `--seed`: seed of the pseudo-random generator of the tasks
abbrev pub seed_option : Rule
seed_option = short_option 115 (any_number_option (codes "seed") (codes "1"))

-- the options for the tasks that each client draws
abbrev pub task_options : List Rule
task_options =
    items_option ∷ asks_option ∷ reads_option ∷ user_option ∷ seed_option ∷ blocks_option ∷ []

-- all options that determine the tasks of a load
abbrev pub drawing_options : List Rule
drawing_options = client_options ++ task_options

-- the flags of a load: reports of its progress and statistics, and its history or attempts as
-- output
abbrev pub telling_options : List Rule
telling_options = flag (codes "progress") ∷ flag (codes "stats")
    ∷ flag (codes "history") ∷ flag (codes "attempts") ∷ []

-- the options of a load that do not change its tasks
abbrev pub running_options : List Rule
running_options = tries_option ∷ telling_options

-- all options of a load
abbrev pub load_options : List Rule
load_options = drawing_options ++ running_options

-- the program before its subcommands are added; one must be named, and the program has a version
abbrev pub top_command : App
top_command = record {
  top = record (new_shape (codes "vacation")) {
    has_version = true;
    subcommand_required = true;
  };
  subs = [];
}

-- the subcommands that read a script or the words of a memory
abbrev pub memory_commands : List Shape
memory_commands = with_options (codes "run") (blocks_option ∷ [])
    ∷ with_options (codes "dump") (blocks_option ∷ [])
    ∷ with_options (codes "check") [] ∷ []

-- the subcommands that run a load or write its tasks
abbrev pub load_commands : List Shape
load_commands = with_options (codes "load") load_options
    ∷ with_options (codes "tasks") drawing_options ∷ []

-- the program with its subcommands
abbrev pub vacation : App
vacation = with_commands (with_commands top_command memory_commands) load_commands

-- ---- the request that the words make

-- the rows of clap say of each flag of a load whether it is set
pub record HasFlags (rows : List Row) : Type 0 where
  pub progress : IsFlag rows (codes "progress")
  pub stats : IsFlag rows (codes "stats")
  pub history : IsFlag rows (codes "history")
  pub attempts : IsFlag rows (codes "attempts")

-- the rows of clap give each option that determines the tasks a number in its range
pub record HasDrawing (rows : List Row) : Type 0 where
  pub clients : GivesIn rows (codes "clients") 1 MOST_CLIENTS
  pub tasks : GivesIn rows (codes "tasks") 1 MOST_TASKS
  pub items : GivesIn rows (codes "items") 1 MOST_ITEMS
  pub asks : GivesIn rows (codes "asks") 1 MOST_PARTS
  pub reads : GivesIn rows (codes "reads") 0 PERCENT
  pub user : GivesIn rows (codes "user") 0 PERCENT
  pub seed : GivesIn rows (codes "seed") 0 MOST_NUMBER
  pub blocks : GivesIn rows (codes "blocks") 1 MOST_BLOCKS
  pub rounds : GivesIn rows (codes "rounds") 1 MOST_ROUNDS

-- the rows of clap give each option of a load a number in its range, and say of each flag whether
-- it is set
pub record HasLoad (rows : List Row) : Type 0 where
  pub drawing : HasDrawing rows
  pub tries : GivesIn rows (codes "tries") 1 MOST_TRIES
  pub flags : HasFlags rows

-- each setting that determines the tasks is the value of the option of its name; the last version,
-- which has no option, is the largest
pub record AreDrawn (rows : List Row) (s : Settings) : Type 0 where
  pub clients : Gives rows (codes "clients") s.clients
  pub tasks : Gives rows (codes "tasks") s.tasks
  pub items : Gives rows (codes "items") s.items
  pub asks : Gives rows (codes "asks") s.asks
  pub reads : Gives rows (codes "reads") s.reads
  pub user : Gives rows (codes "user") s.user
  pub seed : Gives rows (codes "seed") s.seed
  pub blocks : Gives rows (codes "blocks") s.blocks
  pub last : s.last + 1 ≡ VERSION_LIMIT
  pub rounds : Gives rows (codes "rounds") s.rounds

-- each setting is the value of the option of its name
pub record AreGiven (rows : List Row) (s : Settings) : Type 0 where
  pub drawn : AreDrawn rows s
  pub tries : Gives rows (codes "tries") s.tries

-- the output of a load is as its flags say
pub record IsTold (rows : List Row) (how : LoadOutput) : Type 0 where
  pub progress : Says rows (codes "progress") how.progress
  pub stats : Says rows (codes "stats") how.stats
  pub history : Says rows (codes "history") how.history
  pub attempts : Says rows (codes "attempts") how.attempts

-- clap accepts the words, and its matches are what it found in them
pub record IsFoundIn (words : List Text) (m : ArgMatches) : Type 0 where
  pub taken : fault_of vacation words ≡ []
  pub found : subcommand_rows_of m ≡ subcommand_of vacation words

-- the words name this subcommand, and clap's rows for it are these
abbrev pub Names : List Text → Text → List Row → Type 0
Names words name rows = subcommand_of vacation words ≡ Some (name, rows)

-- the words make this request
abbrev pub AsksFor : List Text → Request → Type 0
AsksFor words (Run blocks) = (rows : List Row) × Names words (codes "run") rows
    × Gives rows (codes "blocks") blocks × (is_block_count blocks ≡ true)
AsksFor words (Dump blocks) = (rows : List Row) × Names words (codes "dump") rows
    × Gives rows (codes "blocks") blocks × (is_block_count blocks ≡ true)
AsksFor words Check = (rows : List Row) × Names words (codes "check") rows
AsksFor words (Load settings how) = (rows : List Row) × Names words (codes "load") rows
    × AreGiven rows settings × IsTold rows how
AsksFor words (Tasks settings) = (rows : List Row) × Names words (codes "tasks") rows
    × AreDrawn rows settings × (settings.tries ≡ DRAWN_TRIES)
