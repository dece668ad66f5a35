-- A worked example of the text of a load, worked out by hand: a system of one block, whose word 8
-- is 16 at the beginning. Client 1 reads word 1, which is 0, and commits; then it reads word 8 and
-- aborts. Both attempts are at version 0.
use Rattle.std.specs.Prelude.{◌≡◌, ℕ, true, false, List, [], ◌∷◌, ◌++◌, Some, replicate}
use Rattle.std.specs.Global.{Vec, Box}
use Rattle.tx_memory.specs.declared.access.Access.{Access}
use Rattle.tx_memory.specs.declared.access.Access.TheVariants.{Read, Write}
use Rattle.tx_alloc.specs.Pool.{heap_words}
use Rattle.vac_model.specs.declared.tasks.Task.{Task}
use Rattle.vac_model.specs.declared.replies.Reply.{Reply}
use Rattle.vac_manager.specs.declared.note.CompletedCall.{CompletedCall}
use Rattle.vac_manager.specs.declared.note.TracedAttempt.{TracedAttempt}
use Rattle.load_record.specs.Lines.{AttemptEntry}
use Rattle.load_record.specs.Pages.{Page, calls_on}
use Rattle.load_record.specs.Text.{AreAttempts}
use Rattle.load_record.specs.Examples.{worked_first}
use Rattle.load_record.specs.Judged.{JudgedByPrecedence}
use Rattle.load_record.specs.Loads.{MadeHistory, AbortsAndTimesAreRight, JudgedByAbortsAndTimes}
use Rattle.load_record.specs.InPlace.{AbortedReadAtTheirPlaces, JudgedByTimes}
use Rattle.load_record.specs.InTurn.{EachMadeInTurn}

-- the words at the beginning
abbrev pub loaded_image : List ℕ
loaded_image = replicate 8 0 ++ 16 ∷ replicate 15 0

-- the attempt of client 1 that commits
abbrev pub loaded_committed : Vec Access → TracedAttempt
loaded_committed accesses = record {
  begin = 1;
  end = 2;
  commits = true;
  place = record { renewal = 0; version = 0; wrote = false };
  accesses = accesses;
}

-- the attempt of client 1 that aborts
abbrev pub loaded_aborted : Vec Access → TracedAttempt
loaded_aborted accesses = record {
  begin = 3;
  end = 4;
  commits = false;
  place = record { renewal = 0; version = 0; wrote = false };
  accesses = accesses;
}

-- a completed call with this attempt
abbrev pub loaded_call : Task → Reply → Box TracedAttempt → CompletedCall
loaded_call task reply attempt = record {
  begin = 1;
  end = 2;
  task = task;
  reply = reply;
  place = record { renewal = 0; version = 0; wrote = false };
  attempt = Some attempt;
}

-- the page of the setup phase, which is empty, and the page of client 1
abbrev pub loaded_pages : CompletedCall → TracedAttempt → List Page
loaded_pages call aborted =
    record { calls = []; given_up = [] }
    ∷ record { calls = call ∷ []; given_up = aborted ∷ [] } ∷ []

-- the attempts in the order of their lines
abbrev pub loaded_entries : TracedAttempt → TracedAttempt → TracedAttempt → List AttemptEntry
loaded_entries first committed aborted =
    record { client = 0; attempt = first }
    ∷ record { client = 1; attempt = committed }
    ∷ record { client = 1; attempt = aborted } ∷ []

-- the attempts are those of a load on one block, whose calls made a history; the aborted attempts
-- and the times are right, so that the judge calls the text opaque. The aborted attempt reads the
-- image of its version, and each client made its attempts one after the other, so that the text is
-- judged by its times, and by precedence alone
pub record AreLoaded (first committed aborted : TracedAttempt) (call : CompletedCall) : Type 0 where
  pub attempts : AreAttempts 1 (loaded_pages call aborted) (loaded_entries first committed aborted)
  pub made : MadeHistory 1 (calls_on (loaded_pages call aborted))
  pub right : AbortsAndTimesAreRight (loaded_entries first committed aborted)
  pub judged : JudgedByAbortsAndTimes 1 (loaded_entries first committed aborted)
  pub read : AbortedReadAtTheirPlaces made.image made.history (loaded_pages call aborted)
  pub by_times : JudgedByTimes 1 (loaded_entries first committed aborted)
  pub in_turn : EachMadeInTurn (loaded_pages call aborted)
  pub by_precedence : JudgedByPrecedence (heap_words 1) (loaded_entries first committed aborted)

-- the first attempt writes 16 to word 8; the one that commits reads word 1; the aborted one reads
-- word 8
abbrev pub WorkedLoad : Type 0
WorkedLoad = (x y z : Vec Access) (task : Task) (reply : Reply) (attempt : Box TracedAttempt) →
    x.items ≡ Write (record { 0 = 8 }) 16 ∷ [] → y.items ≡ Read (record { 0 = 1 }) 0 ∷ [] →
    z.items ≡ Read (record { 0 = 8 }) 16 ∷ [] → attempt.value ≡ loaded_committed y →
    AreLoaded (worked_first x) attempt.value (loaded_aborted z) (loaded_call task reply attempt)
