-- The part of a client's value that the running core keeps.
use Rattle.std.specs.Prelude.{ℕ, false, [], ◌∷◌, List}
use Rattle.stm_core.specs.Client.{Client}
use Rattle.stm_core.specs.Event.{Action, after}

-- a client's value without the fields that no condition of an event looks at. These are the
-- records, the aborted attempts and the floor, and of the attempt its number, its renewal, its
-- number of steps, whether it is solo and whether the last lock was its own
abbrev pub blank : Client → Client
blank c = record c {
  floor = 0;
  records = [];
  aborted_before = [];
  aborted = [];
  attempt = record c.attempt { number = 0; renewal = 0; steps = 0; lone = false; mine = false };
}

-- the kept part of a client's value after a step at a position in the list of events. No step
-- looks at the lock of an address here, so the function from addresses to locks may be any
abbrev pub seat_after : ℕ → Action → ℕ → Client → Client
seat_after place e n c =
    blank (after (record { client = 0; place = place; renewal = 0 }) (λ a. a) e n c)

-- the tag as a number: in the running core a tag is a list of one number
abbrev pub tag_number : List ℕ → ℕ
tag_number [] = 0
tag_number (n ∷ ns) = n
