-- The settings with which a load can be run.
use Rattle.std.specs.Prelude.{◌*◌, Bool, ◌&&◌, nat_le, nat_lt}
use Rattle.vac_model.specs.Amounts.{is_list_length}
use Rattle.vac_model.specs.declared.limits.TheConstants.{MOST_BLOCKS, MOST_TRIES}
use Rattle.load_tasks.specs.declared.settings.Settings.{Settings}
use Rattle.load_tasks.specs.declared.settings.TheConstants.{MOST_CLIENTS, MOST_TASKS, MOST_ITEMS}
use Rattle.load_tasks.specs.declared.settings.TheConstants.{PERCENT, MOST_ROUNDS, BLOCKS_OF_ITEM}
use Rattle.load_tasks.specs.declared.settings.TheConstants.{VERSION_LIMIT}

-- true if the numbers of clients, rounds and tasks are in their ranges
abbrev pub is_work : Settings → Bool
is_work s =
    nat_le 1 s.clients && nat_le s.clients MOST_CLIENTS
    && nat_le 1 s.tasks && nat_le s.tasks MOST_TASKS
    && nat_le 1 s.rounds && nat_le s.rounds MOST_ROUNDS

-- true if the numbers of the manager are in their ranges: the number of blocks, the attempts of a
-- call, and the version at which the clock ends
abbrev pub is_manager : Settings → Bool
is_manager s =
    (nat_le 1 s.blocks && nat_le s.blocks MOST_BLOCKS)
    && (nat_le 1 s.tries && nat_le s.tries MOST_TRIES)
    && (nat_le 1 s.last && nat_lt s.last VERSION_LIMIT)

-- true if the numbers for drawing the tasks and the numbers of the manager are in their ranges,
-- and there is a block for each item and each customer of the setup phase
abbrev pub is_system : Settings → Bool
is_system s =
    nat_le 1 s.items && nat_le s.items MOST_ITEMS && nat_le (BLOCKS_OF_ITEM * s.items) s.blocks
    && is_list_length s.asks && nat_le s.reads PERCENT && nat_le s.user PERCENT && is_manager s

-- true if a load can be run with these settings
abbrev pub is_settings : Settings → Bool
is_settings s = is_work s && is_system s
