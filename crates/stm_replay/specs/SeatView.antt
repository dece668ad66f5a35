-- The client's value that the running core's record of a client stands for.
use Rattle.std.specs.Prelude.{ℕ, List, [], ◌∷◌, Option, Some, None}
use Rattle.stm_core.specs.Client as client
use Rattle.stm_core.specs.Event.{idle_attempt}
use Rattle.stm_replay.specs.declared.seat.Phase.{Phase}
use Rattle.stm_replay.specs.declared.seat.Phase.TheVariants.{Idle, Running, Ending, Committed, Finished}
use Rattle.stm_replay.specs.declared.seat.Step.{Step}
use Rattle.stm_replay.specs.declared.seat.Step.TheVariants.{Nothing, Began, Probed, Fetched, Checked, Locked, Ticked, Validated, Ended}
use Rattle.stm_replay.specs.declared.seat.Seat.TheInside.{Inside}

-- the abstract phase that a phase of the running core stands for
abbrev pub phase_of : Phase → client.Phase
phase_of Idle = client.idle
phase_of Running = client.running
phase_of Ending = client.ending
phase_of Committed = client.committed
phase_of Finished = client.finished

-- the abstract step that a step of the running core stands for
abbrev pub step_of : Step → client.Step
step_of Nothing = client.nothing
step_of (Began n) = client.began n
step_of (Probed k n) = client.probed k n
step_of (Fetched a n x) = client.fetched a n x
step_of (Checked a n m) = client.checked a n m
step_of (Locked k n m) = client.locked k n m
step_of (Ticked f m) = client.ticked f m
step_of (Validated k n) = client.validated k n
step_of (Ended n) = client.ended n

-- the tag that the running core keeps: a list of one number, or empty before the won tick
abbrev pub tag_of : Option ℕ → List ℕ
tag_of None = []
tag_of (Some n) = n ∷ []

-- the client's value that the running core's record of a client stands for; fields that are not
-- kept have their first value
abbrev pub client_of_seat : {A : Type 0} → Inside A → client.Client
client_of_seat s = record {
  grants = s.grants;
  is_gathered = s.is_gathered;
  floor = 0;
  records = [];
  aborted_before = [];
  aborted = [];
  attempt = record idle_attempt {
    phase = phase_of s.phase;
    rv = s.rv;
    reads = s.reads.items;
    last = step_of s.last;
    gave_back = s.gave_back;
    held = s.held.items;
    wv = s.wv;
    tag = tag_of s.tag;
    writes = s.writes.items;
    passed = s.passed;
    stored = s.stored.items;
    ticks = s.ticks;
    next_from = s.next_from;
    began_at = s.began_at;
    ticked_at = s.ticked_at;
  };
}
