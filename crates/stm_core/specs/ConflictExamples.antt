-- Worked lists of events. The last event of each is a step of client 1 that shows a conflict, and
-- an event of client 2 causes the conflict. Kinds, places and causes were worked out by hand.
use Rattle.std.specs.Prelude.{◌≡◌, ℕ, true, zero, suc, ◌+◌, ◌-◌, List, [], ◌∷◌, ◌++◌, length}
use Rattle.stm_core.specs.Event.{Action, begin, probe, fetch, check, lock, tick, validate, put, release, give_back}
use Rattle.stm_core.specs.Guards.{stripe_of}
use Rattle.stm_core.specs.Client.{running, committed}
use Rattle.stm_core.specs.Core.{Core, Event, acts, splits, is_out, may_play, opened}
use Rattle.stm_core.specs.Examples.{zero_words, IsAllowedList}
use Rattle.stm_core.specs.Listed.{IsStepOf, core_at}
use Rattle.stm_core.specs.Theorem.{free_law, Reaches}
use Rattle.stm_core.specs.Conflicts.{Conflict, held, newer, moved, lost_lock, lost_tick}
use Rattle.stm_core.specs.Causes.{AtLeast, HoldsAt, TakesAt, ReleasesAbove, WinsTickAt, LosesTickAt, IsLastProbe, IsUndisturbed, IsUntouched, IsSpentAt, HoldsUnticked}
use Rattle.stm_core.specs.Progress.{ShowsAt, client_at, MeetsFreshConflict}

-- the core on which the worked lists begin: 32 words, all of them 0, and 32 lock words
abbrev pub start : Core
start = opened zero_words 100 32

-- the list is allowed, and its last event is this step of client 1, in its first attempt, which
-- shows the conflict
abbrev pub EndsIn : List Event → Action → Conflict → Type 0
EndsIn events action conflict =
    IsAllowedList events
    × ShowsAt (stripe_of 32) start events 1 1 (length events - 1) action conflict

-- client 2 takes the lock before client 1 begins
abbrev pub meets_held : List Event
meets_held =
    splits 1
    ∷ acts 2 begin ∷ acts 2 (probe 8) ∷ acts 2 (lock 8)
    ∷ acts 1 begin ∷ acts 1 (probe 8) ∷ []

-- client 2 writes word 8 after client 1 has begun
abbrev pub meets_newer : List Event
meets_newer =
    splits 1
    ∷ acts 1 begin
    ∷ acts 2 begin ∷ acts 2 (probe 8) ∷ acts 2 (lock 8) ∷ acts 2 (tick 0 (1 ∷ []) ((8, 5) ∷ []))
    ∷ acts 2 (put 8 5) ∷ acts 2 (release 8)
    ∷ acts 1 (probe 8) ∷ []

-- client 2 takes the lock between client 1's fetch and its check
abbrev pub meets_moved : List Event
meets_moved =
    splits 1
    ∷ acts 1 begin ∷ acts 1 (probe 8) ∷ acts 1 (fetch 8)
    ∷ acts 2 begin ∷ acts 2 (probe 8) ∷ acts 2 (lock 8)
    ∷ acts 1 (check 8) ∷ []

-- client 2 takes the lock between client 1's probe and its exchange
abbrev pub loses_lock : List Event
loses_lock =
    splits 1
    ∷ acts 1 begin ∷ acts 1 (probe 8)
    ∷ acts 2 begin ∷ acts 2 (probe 8) ∷ acts 2 (lock 8)
    ∷ acts 1 (lock 8) ∷ []

-- client 1 has read word 8 and holds lock 9, client 2 commits to word 20, and so client 1 loses a
-- tick and must validate
abbrev pub has_to_validate : List Event
has_to_validate =
    splits 1
    ∷ acts 1 begin ∷ acts 1 (probe 8) ∷ acts 1 (fetch 8) ∷ acts 1 (check 8)
    ∷ acts 1 (probe 9) ∷ acts 1 (lock 9)
    ∷ acts 2 begin ∷ acts 2 (probe 20) ∷ acts 2 (lock 20)
    ∷ acts 2 (tick 0 (1 ∷ []) ((20, 6) ∷ [])) ∷ acts 2 (put 20 6) ∷ acts 2 (release 20)
    ∷ acts 1 (tick 0 (2 ∷ []) ((9, 5) ∷ [])) ∷ acts 1 (tick 1 (2 ∷ []) ((9, 5) ∷ [])) ∷ []

-- client 2 takes the lock of the word read before the validation
abbrev pub validates_held : List Event
validates_held =
    has_to_validate
    ++ acts 2 begin ∷ acts 2 (probe 8) ∷ acts 2 (lock 8) ∷ acts 1 (validate 8) ∷ []

-- client 2 writes the word read before the validation
abbrev pub validates_newer : List Event
validates_newer =
    has_to_validate
    ++ acts 2 begin ∷ acts 2 (probe 8) ∷ acts 2 (lock 8)
    ∷ acts 2 (tick 2 (1 ∷ []) ((8, 7) ∷ [])) ∷ acts 2 (put 8 7) ∷ acts 2 (release 8)
    ∷ acts 1 (validate 8) ∷ []

-- client 2 commits to word 10, from this version and so many more, and each time client 1 loses the
-- tick from that version
abbrev pub duels : (version rounds : ℕ) → List Event
duels u zero = []
duels u (suc n) =
    acts 2 begin ∷ acts 2 (probe 10) ∷ acts 2 (lock 10) ∷ acts 2 (tick u (1 ∷ []) ((10, 6) ∷ []))
    ∷ acts 2 (put 10 6) ∷ acts 2 (release 10)
    ∷ acts 1 (tick u (2 ∷ []) ((9, 5) ∷ [])) ∷ duels (u + 1) n

-- client 1 loses sixteen ticks to commits that share no word with it
abbrev pub loses_ticks : List Event
loses_ticks = splits 1 ∷ acts 1 begin ∷ acts 1 (probe 9) ∷ acts 1 (lock 9) ∷ duels 0 16

-- client 1 begins after client 2 has committed, and no other client takes a step since
abbrev pub undisturbed : List Event
undisturbed =
    splits 1
    ∷ acts 2 begin ∷ acts 2 (probe 8) ∷ acts 2 (lock 8) ∷ acts 2 (tick 0 (1 ∷ []) ((8, 5) ∷ []))
    ∷ acts 2 (put 8 5) ∷ acts 2 (release 8)
    ∷ acts 1 begin ∷ acts 1 (probe 8) ∷ acts 1 (fetch 8) ∷ acts 1 (check 8)
    ∷ acts 1 (probe 9) ∷ acts 1 (lock 9) ∷ []

-- client 2 takes the lock after client 1's first probe and gives the lock back, and takes it again
-- between client 1's second probe and its check
abbrev pub probes_twice : List Event
probes_twice =
    splits 1
    ∷ acts 1 begin ∷ acts 1 (probe 8)
    ∷ acts 2 begin ∷ acts 2 (probe 8) ∷ acts 2 (lock 8) ∷ acts 2 (give_back 8)
    ∷ acts 1 (probe 8) ∷ acts 1 (fetch 8)
    ∷ acts 2 begin ∷ acts 2 (probe 8) ∷ acts 2 (lock 8)
    ∷ acts 1 (check 8) ∷ []

-- client 1 commits after it has validated its read. Client 2 has committed meanwhile, but to a word
-- of another stripe
abbrev pub passes_by : List Event
passes_by = has_to_validate ++ acts 1 (validate 8) ∷ []

-- two attempts of client 1 find the lock held, which client 2 has taken anew each time
abbrev pub meets_twice : List Event
meets_twice =
    splits 1
    ∷ acts 1 begin
    ∷ acts 2 begin ∷ acts 2 (probe 8) ∷ acts 2 (lock 8)
    ∷ acts 1 (probe 8)
    ∷ acts 2 (give_back 8)
    ∷ acts 1 begin
    ∷ acts 2 begin ∷ acts 2 (probe 8) ∷ acts 2 (lock 8)
    ∷ acts 1 (probe 8) ∷ []

-- a core whose last version is 1
abbrev pub brief : Core
brief = opened zero_words 1 32

-- a client that is alone commits, which takes the clock to its last version. Then its second
-- attempt takes a lock
abbrev pub spends_clock : List Event
spends_clock =
    acts 1 begin ∷ acts 1 (probe 8) ∷ acts 1 (lock 8) ∷ acts 1 (tick 0 (1 ∷ []) ((8, 5) ∷ []))
    ∷ acts 1 (put 8 5) ∷ acts 1 (release 8)
    ∷ acts 1 begin ∷ acts 1 (probe 9) ∷ acts 1 (lock 9) ∷ []

-- each list ends in its conflict, and the cause stands at its place
pub record WorkedConflicts : Type 0 where
  pub held_is_met : EndsIn meets_held (probe 8) (held 8)
  pub held_before : HoldsAt (stripe_of 32) start meets_held 2 8 4
  pub newer_is_met : EndsIn meets_newer (probe 8) (newer 8)
  pub released_newer : ReleasesAbove (stripe_of 32) start meets_newer 8 0 2 7
  pub moved_is_met : EndsIn meets_moved (check 8) (moved 8)
  pub taken_before_the_check : TakesAt (stripe_of 32) start meets_moved 8 2 6
  pub lock_is_lost : EndsIn loses_lock (lock 8) (lost_lock 8)
  pub taken_before_the_exchange : TakesAt (stripe_of 32) start loses_lock 8 2 5
  pub validation_meets_held : EndsIn validates_held (validate 8) (held 8)
  pub taken_since : TakesAt (stripe_of 32) start validates_held 8 2 17
  pub validation_meets_newer : EndsIn validates_newer (validate 8) (newer 8)
  pub released_since : ReleasesAbove (stripe_of 32) start validates_newer 8 0 2 20
  pub last_tick_is_lost : EndsIn loses_ticks (tick 15 (2 ∷ []) ((9, 5) ∷ [])) lost_tick
  pub first_won : WinsTickAt (stripe_of 32) start loses_ticks 0 2 7
  pub last_won : WinsTickAt (stripe_of 32) start loses_ticks 15 2 112
  -- an attempt is undisturbed, though another client is out
  pub undisturbed_is_allowed : IsAllowedList undisturbed
  pub begun_alone : IsStepOf undisturbed 1 1 7 begin
  pub none_disturbs : IsUndisturbed (stripe_of 32) start undisturbed 1 7 13
  pub both_out : is_out (core_at (stripe_of 32) start undisturbed 13) 2 ≡ true
  pub still_runs : (client_at (stripe_of 32) start undisturbed 1 13).attempt.phase ≡ running
  -- the lock that was taken after the first probe is no cause, since a probe came after
  pub moved_since_last_probe : EndsIn probes_twice (check 8) (moved 8)
  pub taken_before : TakesAt (stripe_of 32) start probes_twice 8 2 5
  pub last_probe : IsLastProbe (stripe_of 32) start probes_twice 1 1 12 8 7
  pub not_last : IsLastProbe (stripe_of 32) start probes_twice 1 1 12 8 2 → ⊥
  pub taken_again : TakesAt (stripe_of 32) start probes_twice 8 2 11
  -- an attempt loses one tick and commits, though another client commits meanwhile
  pub passing_is_allowed : IsAllowedList passes_by
  pub passed_by : IsUntouched (stripe_of 32) start passes_by 1 1 1 15
  pub one_tick_lost : LosesTickAt (stripe_of 32) start passes_by 1 1 13
  pub commits : (client_at (stripe_of 32) start passes_by 1 16).attempt.phase ≡ committed
  -- two attempts with conflicts, and two locks taken by another client
  pub meeting_is_allowed : IsAllowedList meets_twice
  pub two_attempts : AtLeast 2 (MeetsFreshConflict (stripe_of 32) start meets_twice 1 0 11)
  pub first_taken : TakesAt (stripe_of 32) start meets_twice 8 2 4
  pub second_taken : TakesAt (stripe_of 32) start meets_twice 8 2 10
  -- an undisturbed attempt that holds its lock may not tick, since the clock is spent. It may give
  -- its lock back
  pub spending_is_allowed : (c : Core) × Reaches free_law zero_words 1 32 spends_clock c
  pub alone_since : IsUndisturbed (stripe_of 32) brief spends_clock 1 6 9
  pub is_spent : IsSpentAt (stripe_of 32) brief spends_clock 9
  pub holds_its_lock : HoldsUnticked (client_at (stripe_of 32) brief spends_clock 1 9).attempt
  pub no_tick : (u : ℕ) (tag : List ℕ) (writes : List (ℕ × ℕ))
      → may_play (stripe_of 32) (acts 1 (tick u tag writes))
      (core_at (stripe_of 32) brief spends_clock 9) ≡ true → ⊥
  pub gives_back : may_play (stripe_of 32) (acts 1 (give_back 9))
      (core_at (stripe_of 32) brief spends_clock 9) ≡ true
