-- The running core that a state of the code stands for.
use Rattle.std.specs.Prelude.{◌≡◌, ◌<◌, [], length}
use Rattle.stm_replay.specs.Running.{Running}
use Rattle.stm_replay.specs.declared.state.State.TheInside.{Inside}

-- the running core that a state stands for; a state keeps no images and no records of earlier
-- renewals
abbrev pub running_of : {A : Type 0} → Inside A → Running
running_of s = record {
  core = record {
    first = [];
    past = [];
    last = s.last;
    opening = [];
    renewal = s.renewal;
    events = s.events;
    clock = s.clock;
    locks = s.locks.items;
    cells = s.cells.items;
    clients = s.seats.items;
  };
  order = s.order;
}

-- there is at least one lock word, and `stripes` is the number of lock words
pub record HasLockWords {A : Type 0} (s : Inside A) : Type 0 where
  pub stripes : s.stripes ≡ length s.locks.items
  pub some : 0 < s.stripes
