-- The range of the settings of the desks.
use Rattle.std.specs.Prelude.{Bool, ◌&&◌, nat_le, nat_lt}
use Rattle.stm_core.specs.declared.version.TheConstants.{VERSION_LIMIT}
use Rattle.vac_model.specs.declared.limits.TheConstants.{MOST_BLOCKS, MOST_AMOUNT}
use Rattle.vac_manager.specs.Called.{is_try_count}
use Rattle.ex_desk.specs.declared.settings.DeskSettings.{DeskSettings}
use Rattle.ex_desk.specs.declared.settings.TheConstants.{MOST_TRIPS, MOST_ROUNDS}

-- all numbers of the settings are in their ranges
abbrev pub is_desk_settings : DeskSettings → Bool
is_desk_settings s =
    nat_le 1 s.blocks && nat_le s.blocks MOST_BLOCKS
    && nat_le 1 s.last && nat_lt s.last VERSION_LIMIT
    && nat_le s.units MOST_AMOUNT && nat_le s.trips MOST_TRIPS
    && is_try_count s.tries
    && nat_le s.rounds MOST_ROUNDS
