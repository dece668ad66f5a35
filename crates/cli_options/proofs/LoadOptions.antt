-- The options of the subcommands that run a load and that draw its tasks.
use Rattle.std.proofs.Common.{◌≡◌, ◌<◌, List, [], length, Some, refl, codes, arith}
use Rattle.clap.specs.Words.{fault_of}
use Rattle.clap.specs.Simple.{Shape, filled}
use Rattle.clap.specs.Walk.{Row, Rule, Text, arg_by_id}
use Rattle.vac_model.specs.declared.limits.TheConstants.{MOST_BLOCKS, MOST_PARTS, MOST_TRIES}
use Rattle.load_tasks.specs.declared.settings.TheConstants.{MOST_CLIENTS, MOST_TASKS, MOST_ITEMS, MOST_ROUNDS}
use Rattle.load_tasks.specs.declared.settings.TheConstants.{PERCENT}
use Rattle.cli_common.specs.declared.values.TheConstants.{MOST_NUMBER}
use Rattle.cli_common.specs.Options.{blocks_option, flag}
use Rattle.cli_common.specs.Values.{IsFlag}
use Rattle.cli_options.specs.CommandLine.{vacation, clients_option, tasks_option, rounds_option, tries_option}
use Rattle.cli_options.specs.CommandLine.{items_option, asks_option, reads_option, user_option, seed_option}
use Rattle.cli_options.specs.CommandLine.{HasDrawing, HasLoad, Names}
use Rattle.cli_common.proofs.Walks.{AllFit}
use Rattle.cli_common.proofs.Given.{IsGiven, IsEntered}
use Rattle.cli_common.proofs.OptionTexts.{number_given, seed_given, flag_given}
use Rattle.cli_common.proofs.Shapes.{fit, option_given, differ}
use Rattle.cli_options.proofs.Subcommands.{shape_at, IsAlone, enters}

-- `load` and `tasks`, as clap builds them
loading : Shape
loading = shape_at 3

drawing : Shape
drawing = shape_at 4

loading_fit : AllFit loading.rules
unfolding shape_at loading
loading_fit = (
  fit refl refl refl,
  (
    fit refl refl refl,
    (
      fit refl refl refl,
      (
        fit refl refl refl,
        (
          fit refl refl refl,
          (
            fit refl refl refl,
            (
              fit refl refl refl,
              (
                fit refl refl refl,
                (
                  fit refl refl refl,
                  (
                    fit refl refl refl,
                    (
                      fit refl refl refl,
                      (
                        fit refl refl refl,
                        (fit refl refl refl, (fit refl refl refl, (fit refl refl refl, tt))),
                      ),
                    ),
                  ),
                ),
              ),
            ),
          ),
        ),
      ),
    ),
  ),
)

drawing_fit : AllFit drawing.rules
unfolding shape_at drawing
drawing_fit = (
  fit refl refl refl,
  (
    fit refl refl refl,
    (
      fit refl refl refl,
      (
        fit refl refl refl,
        (
          fit refl refl refl,
          (
            fit refl refl refl,
            (fit refl refl refl, (fit refl refl refl, (fit refl refl refl, (fit refl refl refl, tt)))),
          ),
        ),
      ),
    ),
  ),
)

-- the numbers that determine the tasks, in a subcommand that has their options
drawing_given : (s : Shape) (rows : List Row) → ((a : Rule) → arg_by_id s.rules a.id ≡ Some a → 0 < length a.defaults →
    IsGiven a rows) → arg_by_id s.rules (codes "clients") ≡ Some (filled clients_option) →
    arg_by_id s.rules (codes "tasks") ≡ Some (filled tasks_option) →
    arg_by_id s.rules (codes "items") ≡ Some (filled items_option) →
    arg_by_id s.rules (codes "asks") ≡ Some (filled asks_option) →
    arg_by_id s.rules (codes "reads") ≡ Some (filled reads_option) →
    arg_by_id s.rules (codes "user") ≡ Some (filled user_option) →
    arg_by_id s.rules (codes "seed") ≡ Some (filled seed_option) →
    arg_by_id s.rules (codes "blocks") ≡ Some (filled blocks_option) →
    arg_by_id s.rules (codes "rounds") ≡ Some (filled rounds_option) → HasDrawing rows
drawing_given s rows given clients tasks items asks reads user seed blocks rounds = record {
  clients = number_given rows (filled clients_option) 1 MOST_CLIENTS refl (given _ clients (omega arith));
  tasks = number_given rows (filled tasks_option) 1 MOST_TASKS refl (given _ tasks (omega arith));
  items = number_given rows (filled items_option) 1 MOST_ITEMS refl (given _ items (omega arith));
  asks = number_given rows (filled asks_option) 1 MOST_PARTS refl (given _ asks (omega arith));
  reads = number_given rows (filled reads_option) 0 PERCENT refl (given _ reads (omega arith));
  user = number_given rows (filled user_option) 0 PERCENT refl (given _ user (omega arith));
  seed = seed_given rows (filled seed_option) MOST_NUMBER refl (given _ seed (omega arith));
  blocks = number_given rows (filled blocks_option) 1 MOST_BLOCKS refl (given _ blocks (omega arith));
  rounds = number_given rows (filled rounds_option) 1 MOST_ROUNDS refl (given _ rounds (omega arith));
}

tasks_given : (rows : List Row) → IsEntered drawing rows → HasDrawing rows
unfolding shape_at drawing
tasks_given rows e = drawing_given drawing rows (λ a own some. option_given drawing rows drawing_fit e a own some) refl
    refl refl refl refl refl refl refl refl

load_flag : (rows : List Row) → IsEntered loading rows → (name : Text) →
    arg_by_id loading.rules name ≡ Some (filled (flag name)) → IsFlag rows name
load_flag rows e name own = flag_given rows name (option_given loading rows loading_fit e (filled (flag name)) own
    (omega arith))

load_given : (rows : List Row) → IsEntered loading rows → HasLoad rows
unfolding shape_at loading
load_given rows e = record {
  drawing = drawing_given loading rows (λ a own some. option_given loading rows loading_fit e a own some) refl refl refl
      refl refl refl refl refl refl;
  tries = number_given rows (filled tries_option) 1 MOST_TRIES refl
      (option_given loading rows loading_fit e (filled tries_option) refl (omega arith));
  flags = record {
    progress = load_flag rows e (codes "progress") refl;
    stats = load_flag rows e (codes "stats") refl;
    history = load_flag rows e (codes "history") refl;
    attempts = load_flag rows e (codes "attempts") refl;
  };
}

load_alone : IsAlone (codes "load") loading
unfolding shape_at loading
load_alone = (
  λ e. absurd (differ _ _ refl e),
  (
    λ e. absurd (differ _ _ refl e),
    (
      λ e. absurd (differ _ _ refl e),
      (
        λ e. refl,
        (
          λ e. absurd (differ _ _ refl e),
          (λ e. absurd (differ _ _ refl e), tt),
        ),
      ),
    ),
  ),
)

tasks_alone : IsAlone (codes "tasks") drawing
unfolding shape_at drawing
tasks_alone = (
  λ e. absurd (differ _ _ refl e),
  (
    λ e. absurd (differ _ _ refl e),
    (
      λ e. absurd (differ _ _ refl e),
      (
        λ e. absurd (differ _ _ refl e),
        (
          λ e. refl,
          (λ e. absurd (differ _ _ refl e), tt),
        ),
      ),
    ),
  ),
)

pub load_options : (words : List Text) (rows : List Row) → fault_of vacation words ≡ [] →
    Names words (codes "load") rows → HasLoad rows
load_options words rows fault names = load_given rows (enters _ _ words rows load_alone fault names)

pub tasks_options : (words : List Text) (rows : List Row) → fault_of vacation words ≡ [] →
    Names words (codes "tasks") rows → HasDrawing rows
tasks_options words rows fault names = tasks_given rows (enters _ _ words rows tasks_alone fault names)
