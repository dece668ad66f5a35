-- Worked examples of the core: lists of events with the records that they decide, worked out by
-- hand.
use Rattle.std.specs.Prelude.{◌≡◌, ℕ, true, false, List, [], ◌∷◌, replicate}
use Rattle.stm_core.specs.Client.{Record, Aborted, all_aborted}
use Rattle.stm_core.specs.Event.{begin, probe, fetch, check, lock, tick, validate, put, release, finish}
use Rattle.stm_core.specs.Core.{Core, Event, acts, splits, gathers, renews, client_of, opened}
use Rattle.stm_core.specs.History.{image_upto}
use Rattle.stm_core.specs.Theorem.{free_law, Reaches}
use Rattle.stm_core.specs.Guards.{stripe_of}
use Rattle.stm_core.specs.Listed.{decisions, begins}

-- the image on which the worked lists open: 32 words, all of them 0
abbrev pub zero_words : List ℕ
zero_words = replicate 32 0

-- the list is allowed on that image, with 32 lock words and the last version 100
abbrev pub IsAllowedList : List Event → Type 0
IsAllowedList events = (c : Core) × Reaches free_law zero_words 100 32 events c

-- the records that the events of a list decide on that image
abbrev pub decided_by : List Event → List Record
decided_by = decisions (stripe_of 32) (opened zero_words 100 32)

-- client 1 reads word 8, loses a tick to client 2 and wins the next tick. Client 2 commits once
-- more before client 1 has validated its read
abbrev pub overtaken : List Event
overtaken =
    splits 1
    ∷ acts 1 begin ∷ acts 1 (probe 8) ∷ acts 1 (fetch 8) ∷ acts 1 (check 8)
    ∷ acts 2 begin ∷ acts 2 (probe 20) ∷ acts 2 (lock 20)
    ∷ acts 2 (tick 0 (1 ∷ []) ((20, 6) ∷ [])) ∷ acts 2 (put 20 6) ∷ acts 2 (release 20)
    ∷ acts 1 (probe 9) ∷ acts 1 (lock 9)
    ∷ acts 1 (tick 0 (11 ∷ []) ((9, 5) ∷ [])) ∷ acts 1 (tick 1 (11 ∷ []) ((9, 5) ∷ []))
    ∷ acts 2 begin ∷ acts 2 (probe 10) ∷ acts 2 (lock 10)
    ∷ acts 2 (tick 2 (12 ∷ []) ((10, 7) ∷ []))
    ∷ acts 1 (validate 8) ∷ []

-- the records of `overtaken` in the order of their decisions. In the history client 1's record
-- comes before the last one, since its tick does
abbrev pub overtaken_records : List Record
overtaken_records =
    record {
      tag = 1 ∷ [];
      reads = [];
      writes = (20, 6) ∷ [];
      writer = true;
      version = 1;
      attempt = 1;
      renewal = 0;
      point = 8;
      client = 2;
    }
    ∷ record {
      tag = 12 ∷ [];
      reads = [];
      writes = (10, 7) ∷ [];
      writer = true;
      version = 3;
      attempt = 2;
      renewal = 0;
      point = 18;
      client = 2;
    }
    ∷ record {
      tag = 11 ∷ [];
      reads = (8, 0) ∷ [];
      writes = (9, 5) ∷ [];
      writer = true;
      version = 2;
      attempt = 1;
      renewal = 0;
      point = 14;
      client = 1;
    }
    ∷ []

-- an attempt reads word 9 and is abandoned; the next attempt reads nothing and finishes
abbrev pub abandoned : List Event
abandoned =
    acts 1 begin ∷ acts 1 (probe 9) ∷ acts 1 (fetch 9) ∷ acts 1 (check 9)
    ∷ acts 1 begin ∷ acts 1 (finish (7 ∷ [])) ∷ []

-- the records of `abandoned`: only the second attempt has one
abbrev pub abandoned_records : List Record
abandoned_records =
    record {
      tag = 7 ∷ [];
      reads = [];
      writes = [];
      writer = false;
      version = 0;
      attempt = 2;
      renewal = 0;
      point = 4;
      client = 1;
    }
    ∷ []

-- the abandoned attempt of client 1, as an aborted one
abbrev pub abandoned_aborts : List Aborted
abandoned_aborts =
    record { reads = (9, 0) ∷ []; version = 0; attempt = 1; renewal = 0 } ∷ []

-- an attempt reads word 9 and is abandoned; the clock is renewed, and the next attempt finishes
abbrev pub carried : List Event
carried =
    acts 1 begin ∷ acts 1 (probe 9) ∷ acts 1 (fetch 9) ∷ acts 1 (check 9)
    ∷ renews 1 50 ∷ acts 1 begin ∷ acts 1 (finish (7 ∷ [])) ∷ []

-- client 2 reads word 9 and abandons its attempt; client 1 gathers client 2
abbrev pub gathered_attempt : List Event
gathered_attempt =
    splits 1
    ∷ acts 2 begin ∷ acts 2 (probe 9) ∷ acts 2 (fetch 9) ∷ acts 2 (check 9)
    ∷ gathers 1 2 ∷ []

-- a writer's record of this renewal and version
abbrev pub writer_at : ℕ → ℕ → List (ℕ × ℕ) → Record
writer_at renewal version writes = record {
  tag = [];
  reads = [];
  writes = writes;
  writer = true;
  version = version;
  attempt = 1;
  renewal = renewal;
  point = 0;
  client = 1;
}

-- two writers in two renewals
abbrev pub two_writers : List Record
two_writers =
    writer_at 0 3 ((0, 5) ∷ []) ∷ writer_at 1 1 ((0, 6) ∷ (1, 7) ∷ []) ∷ []

-- the images of `two_writers`, from two words that are 0: before and at the first writer, and
-- before and at the second one
pub record WorkedImages : Type 0 where
  pub before_first : image_upto (0 ∷ 0 ∷ []) 0 2 two_writers ≡ 0 ∷ 0 ∷ []
  pub at_first : image_upto (0 ∷ 0 ∷ []) 0 3 two_writers ≡ 5 ∷ 0 ∷ []
  pub before_second : image_upto (0 ∷ 0 ∷ []) 1 0 two_writers ≡ 5 ∷ 0 ∷ []
  pub at_second : image_upto (0 ∷ 0 ∷ []) 1 1 two_writers ≡ 6 ∷ 7 ∷ []

-- the lists are allowed, and each decides exactly these records, leaves exactly these aborted
-- attempts, or both. The images of two writers are those that were worked out
pub record WorkedLists : Type 0 where
  pub overtaken_is_allowed : IsAllowedList overtaken
  pub overtaken_decides : decided_by overtaken ≡ overtaken_records
  pub abandoned_is_allowed : IsAllowedList abandoned
  pub abandoned_decides : decided_by abandoned ≡ abandoned_records
  pub abandoned_leaves : all_aborted (client_of abandoned_is_allowed.0 1) ≡ abandoned_aborts
  pub carried_is_allowed : IsAllowedList carried
  pub carried_leaves : all_aborted (client_of carried_is_allowed.0 1) ≡ abandoned_aborts
  pub gathered_is_allowed : IsAllowedList gathered_attempt
  pub gathered_leaves : all_aborted (client_of gathered_is_allowed.0 1) ≡ abandoned_aborts
  pub images : WorkedImages
  -- client 1 has begun once after the first four events, and twice after the first five
  pub first_attempt : begins 1 abandoned 4 ≡ 1
  pub second_attempt : begins 1 abandoned 5 ≡ 2
