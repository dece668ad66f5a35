-- The command line that the program takes, in clap's terms, and the request that its words make.
use Rattle.std.specs.Prelude.{◌≡◌, ℕ, ◌≤◌, ◌⊎◌, ◌||◌, Bool, true, false, Some, None, codes}
use Rattle.std.specs.Prelude.{map, if◌then◌else◌, List, [], ◌∷◌, Option, option_and_then}
use Rattle.std.specs.Str.{bytes_eq}
use Rattle.clap.specs.Simple.{new_shape}
use Rattle.clap.specs.Walk.{first_of}
use Rattle.clap.specs.Words.{App, Shape, Rule, Row, Text, fault_of, new_rule}
use Rattle.clap.specs.Words.{subcommand_of, subcommand_rows_of}
use Rattle.clap.specs.declared.builder.action.ArgAction.TheVariants.{Append}
use Rattle.clap.specs.declared.builder.value_parser.ValueParser.TheVariants as parser
use Rattle.clap.specs.declared.parser.matches.ArgMatches.{ArgMatches}
use Rattle.vac_model.specs.Ranges.{is_block_count}
use Rattle.vac_model.specs.declared.limits.TheConstants.{MOST_BLOCKS}
use Rattle.judge_object.specs.declared.level.Level.{Level}
use Rattle.judge_object.specs.declared.level.Level.TheVariants.{Linearizable, Sequential}
use Rattle.judge_object.specs.declared.level.Level.TheVariants.{Serializable}
use Rattle.judge_opacity.specs.declared.memory.TheConstants.{MOST_WORDS}
use Rattle.cli_common.specs.declared.values.TheConstants.{MOST_NUMBER}
use Rattle.cli_common.specs.Options.{valued_option, number_option, any_number_option}
use Rattle.cli_common.specs.Options.{blocks_option, flag, with_options, with_commands}
use Rattle.cli_common.specs.Values.{Gives, GivesIn, GivesLine, Says, IsFlag, NamesFile}
use Rattle.cli_common.specs.Values.{is_given, values_of}
use Rattle.judge_options.specs.declared.asked.TheConstants.{DEFAULT_BLOCKS, DEFAULT_STEPS}
use Rattle.judge_options.specs.declared.asked.Request.{Request}
use Rattle.judge_options.specs.declared.asked.Request.TheVariants.{History, Order, UnknownLevel}
use Rattle.judge_options.specs.declared.asked.Request.TheVariants.{Attempts, Part, Keys, Queue}
use Rattle.judge_options.specs.declared.asked.PartWords.{PartWords}
use Rattle.judge_options.specs.declared.asked.SearchSettings.{SearchSettings}
use Rattle.judge_options.specs.declared.asked.JudgeSettings.{JudgeSettings}
use Rattle.judge_options.specs.declared.asked.KeysSettings.{KeysSettings}
use Rattle.judge_options.specs.declared.asked.OpacitySettings.{OpacitySettings}

-- ---- the options and subcommands

-- `--tasks FILE`: the tasks against which a history is checked
abbrev pub file_option : Rule
file_option = valued_option (codes "tasks")

-- `--steps`: largest number of steps of a search of all calls
abbrev pub steps_option : Rule
steps_option = any_number_option (codes "steps") (codes "10000000")

-- `--level`: level of consistency of an order, as a word
abbrev pub level_option : Rule
level_option = record (valued_option (codes "level")) { defaults = codes "linearizable" ∷ [] }

-- the options of a search for an order, and of the report on the log
abbrev pub searching_options : List Rule
searching_options =
    level_option ∷ steps_option ∷ flag (codes "progress") ∷ flag (codes "stats") ∷ []

-- the options of a judge of histories
abbrev pub history_options : List Rule
history_options = blocks_option ∷ file_option ∷ flag (codes "given-order") ∷ searching_options

-- `--words`: number of words of a memory
abbrev pub words_option : Rule
words_option = number_option (codes "words") 1 MOST_WORDS (codes "65536")

-- the options of a judge of attempts
abbrev pub attempts_options : List Rule
attempts_options = words_option ∷ flag (codes "place") ∷ flag (codes "stats") ∷ []

-- `--customer N`: a customer of a scope; each use adds one
abbrev pub customer_option : Rule
customer_option = record (valued_option (codes "customer")) { action = Some Append }

-- `--item KIND ID`: an item of a scope; each use adds one
abbrev pub item_option : Rule
item_option = record (new_rule (codes "item")) {
  long = Some (codes "item");
  action = Some Append;
  value_names = 2;
}

-- `--until LINE`: the line at the end of whose call a history is cut before its part is written
abbrev pub until_option : Rule
until_option = record (valued_option (codes "until")) {
  parser = Some (parser.Unsigned 1 MOST_NUMBER);
}

-- the options of a part
abbrev pub part_options : List Rule
part_options = customer_option ∷ item_option ∷ until_option ∷ []

-- `--start FILE`: the values that keys have at first
abbrev pub start_option : Rule
start_option = valued_option (codes "start")

-- the options of a judge of a key-value store's histories
abbrev pub keys_options : List Rule
keys_options = flag (codes "whole") ∷ start_option ∷ searching_options

-- the program before its subcommands are added; it has a version, and needs no subcommand
abbrev pub top_command : App
top_command = record { top = record (new_shape (codes "judge")) { has_version = true }; subs = [] }

-- the subcommands that judge histories and attempts
abbrev pub judging_commands : List Shape
judging_commands = with_options (codes "history") history_options
    ∷ with_options (codes "order") (blocks_option ∷ searching_options)
    ∷ with_options (codes "attempts") attempts_options
    ∷ with_options (codes "part") part_options
    ∷ with_options (codes "keys") keys_options
    ∷ with_options (codes "queue") searching_options ∷ []

-- the program with its subcommands
abbrev pub judge : App
judge = with_commands top_command judging_commands

-- ---- the request that the words make

-- the rows of clap give a search its number of steps, and say whether it reports its progress and
-- whether the figures of the log are reported
pub record HasSearch (rows : List Row) : Type 0 where
  pub steps : GivesIn rows (codes "steps") 0 MOST_NUMBER
  pub progress : IsFlag rows (codes "progress")
  pub stats : IsFlag rows (codes "stats")

-- the level that a word names, if the word names one
abbrev pub level_named : Text → Option Level
level_named word =
    if bytes_eq word (codes "linearizable") then Some Linearizable
    else if bytes_eq word (codes "sequential") then Some Sequential
    else if bytes_eq word (codes "serializable") then Some Serializable
    else None

-- the level of a search, if the rows of clap give a word that names a level
abbrev pub level_given : List Row → Option Level
level_given rows = option_and_then level_named (first_of (codes "level") rows)

-- the search has the level, the number of steps and the reports that its options say
pub record IsSearchOfRows (rows : List Row) (search : SearchSettings) : Type 0 where
  pub level : level_given rows ≡ Some search.level
  pub steps : Gives rows (codes "steps") search.steps
  pub progress : Says rows (codes "progress") search.progress
  pub stats : Says rows (codes "stats") search.stats

-- the rows of clap have all that a judge needs
pub record HasJudging (rows : List Row) : Type 0 where
  pub blocks : GivesIn rows (codes "blocks") 1 MOST_BLOCKS
  pub given_order : IsFlag rows (codes "given-order")
  pub search : HasSearch rows

-- true if the words themselves give the number of steps or the level of a search, or ask for its
-- progress
abbrev pub names_search : List Row → SearchSettings → Bool
names_search rows search =
    is_given (codes "steps") rows || (is_given (codes "level") rows || search.progress)

-- the judge's settings are those that its options give
pub record IsJudging (rows : List Row) (how : JudgeSettings) : Type 0 where
  pub blocks : Gives rows (codes "blocks") how.blocks
  pub room : is_block_count how.blocks ≡ true
  pub tasks : NamesFile rows (codes "tasks") how.tasks
  pub given_order : Says rows (codes "given-order") how.given_order
  pub search : IsSearchOfRows rows how.search
  pub named : how.names_search ≡ names_search rows how.search

-- the words for the scope of a part are the values of all uses of its options, and the history is
-- cut at the end of the call of the line that `--until` gives, if the words give one
pub record IsPartWords (rows : List Row) (part : PartWords) : Type 0 where
  pub customers : map (λ value. value.now) part.customers.items
      ≡ values_of (codes "customer") rows
  pub items : map (λ value. value.now) part.items.items ≡ values_of (codes "item") rows
  pub until : GivesLine rows (codes "until") part.until

-- the rows of clap have all that a judge of attempts needs
pub record HasOpacity (rows : List Row) : Type 0 where
  pub words : GivesIn rows (codes "words") 1 MOST_WORDS
  pub place : IsFlag rows (codes "place")
  pub stats : IsFlag rows (codes "stats")

-- the settings of a judge of attempts are those that its options give
pub record IsOpacity (rows : List Row) (how : OpacitySettings) : Type 0 where
  pub words : Gives rows (codes "words") how.words
  pub some : 1 ≤ how.words
  pub room : how.words ≤ MOST_WORDS
  pub place : Says rows (codes "place") how.place
  pub stats : Says rows (codes "stats") how.stats

-- the rows of clap have all that a judge of a key-value store needs
pub record HasKeys (rows : List Row) : Type 0 where
  pub whole : IsFlag rows (codes "whole")
  pub search : HasSearch rows

-- the settings of a judge of a key-value store are those that its options give
pub record IsKeys (rows : List Row) (how : KeysSettings) : Type 0 where
  pub whole : Says rows (codes "whole") how.whole
  pub start : NamesFile rows (codes "start") how.start
  pub search : IsSearchOfRows rows how.search

-- clap accepts the words, and its matches are what it found in them
pub record IsFoundIn (words : List Text) (m : ArgMatches) : Type 0 where
  pub taken : fault_of judge words ≡ []
  pub found : subcommand_rows_of m ≡ subcommand_of judge words

-- the words name this subcommand, and clap's rows for it are these
abbrev pub Names : List Text → Text → List Row → Type 0
Names words name rows = subcommand_of judge words ≡ Some (name, rows)

-- the words name none of the subcommands
pub record NamesNone (words : List Text) : Type 0 where
  pub history : (rows : List Row) → Names words (codes "history") rows → ⊥
  pub order : (rows : List Row) → Names words (codes "order") rows → ⊥
  pub attempts : (rows : List Row) → Names words (codes "attempts") rows → ⊥
  pub part : (rows : List Row) → Names words (codes "part") rows → ⊥
  pub keys : (rows : List Row) → Names words (codes "keys") rows → ⊥
  pub queue : (rows : List Row) → Names words (codes "queue") rows → ⊥

-- the settings of a judge of a history if the words name no subcommand: those of `history` without
-- options
pub record IsDefault (how : JudgeSettings) : Type 0 where
  pub blocks : how.blocks ≡ DEFAULT_BLOCKS
  pub tasks : how.tasks ≡ None
  pub given_order : how.given_order ≡ false
  pub level : how.search.level ≡ Linearizable
  pub steps : how.search.steps ≡ DEFAULT_STEPS
  pub progress : how.search.progress ≡ false
  pub stats : how.search.stats ≡ false
  pub named : how.names_search ≡ false

-- the words name a subcommand that searches, and a word for a level that names none
abbrev pub NamesNoLevel : List Text → Type 0
NamesNoLevel words = (rows : List Row)
    × (Names words (codes "history") rows ⊎ Names words (codes "order") rows
    ⊎ Names words (codes "keys") rows ⊎ Names words (codes "queue") rows)
    × (level_given rows ≡ None)

-- the words make this request
abbrev pub AsksFor : List Text → Request → Type 0
AsksFor words (History how) = (is_block_count how.blocks ≡ true)
    × (((rows : List Row) × Names words (codes "history") rows × IsJudging rows how)
    ⊎ (NamesNone words × IsDefault how))
AsksFor words (Order blocks search) = (rows : List Row) × Names words (codes "order") rows
    × Gives rows (codes "blocks") blocks × (is_block_count blocks ≡ true)
    × IsSearchOfRows rows search
AsksFor words UnknownLevel = NamesNoLevel words
AsksFor words (Attempts how) =
    (rows : List Row) × Names words (codes "attempts") rows × IsOpacity rows how
AsksFor words (Part part) =
    (rows : List Row) × Names words (codes "part") rows × IsPartWords rows part
AsksFor words (Keys how) = (rows : List Row) × Names words (codes "keys") rows × IsKeys rows how
AsksFor words (Queue search) =
    (rows : List Row) × Names words (codes "queue") rows × IsSearchOfRows rows search
