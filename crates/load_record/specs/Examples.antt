-- A worked example of attempts in the order of their records, worked out by hand: word 1 is 5 at
-- the beginning, client 1 reads it and writes 7 to word 0, and client 2 aborts after it read the 7.
use Rattle.std.specs.Prelude.{◌≡◌, ℕ, true, false, List, [], ◌∷◌}
use Rattle.std.specs.Global.{Vec}
use Rattle.tx_memory.specs.declared.access.Access.{Access}
use Rattle.tx_memory.specs.declared.access.Access.TheVariants.{Read, Write}
use Rattle.stm_core.specs.Client.{Record}
use Rattle.judge_object.specs.Laws.{TakeTurns, KeepPrecedence}
use Rattle.vac_manager.specs.declared.note.TracedAttempt.{TracedAttempt}
use Rattle.load_record.specs.Lines.{AttemptEntry}
use Rattle.load_record.specs.AttemptOrder.{EntriesAreOrdered}
use Rattle.load_record.specs.Entries.{span_of_entry}
use Rattle.load_record.specs.Ordered.{AreOfHistory}
use Rattle.load_record.specs.Records.{AbortedReadInPlace}

-- the words at the beginning
abbrev pub worked_image : List ℕ
worked_image = 0 ∷ 5 ∷ []

-- the attempt that writes the words which are not 0, before all others
abbrev pub worked_first : Vec Access → TracedAttempt
worked_first accesses = record {
  begin = 0;
  end = 0;
  commits = true;
  place = record { renewal = 0; version = 0; wrote = true };
  accesses = accesses;
}

-- the attempt of client 1, which commits version 1
abbrev pub worked_writer : Vec Access → TracedAttempt
worked_writer accesses = record {
  begin = 1;
  end = 4;
  commits = true;
  place = record { renewal = 0; version = 1; wrote = true };
  accesses = accesses;
}

-- the aborted attempt of client 2 at read version 1
abbrev pub worked_aborted : Vec Access → TracedAttempt
worked_aborted accesses = record {
  begin = 2;
  end = 5;
  commits = false;
  place = record { renewal = 0; version = 1; wrote = false };
  accesses = accesses;
}

-- the three attempts, with these accesses
abbrev pub worked_entries : Vec Access → Vec Access → Vec Access → List AttemptEntry
worked_entries x y z =
    record { client = 0; attempt = worked_first x }
    ∷ record { client = 1; attempt = worked_writer y }
    ∷ record { client = 2; attempt = worked_aborted z } ∷ []

-- the attempts meet the conditions on their order, records, aborted attempts and times under which
-- their text is opaque
pub record AreWorked (x y z : Vec Access) : Type 0 where
  pub sorted : EntriesAreOrdered (worked_entries x y z)
  pub records : List Record
  pub history : AreOfHistory worked_image records (worked_first x ∷ []) (worked_entries x y z)
  pub aborted : AbortedReadInPlace worked_image (worked_first x ∷ []) (worked_entries x y z)
  pub turns : TakeTurns span_of_entry (worked_entries x y z)
  pub precedence : KeepPrecedence span_of_entry (worked_entries x y z)

-- the first attempt writes 5 to word 1; the second reads it, writes 7 to word 0 and reads the 7;
-- the third reads the 7
abbrev pub WorkedAttempts : Type 0
WorkedAttempts = (x y z : Vec Access) →
    x.items ≡ Write (record { 0 = 1 }) 5 ∷ [] →
    y.items ≡ Read (record { 0 = 1 }) 5 ∷ Write (record { 0 = 0 }) 7
    ∷ Read (record { 0 = 0 }) 7 ∷ [] →
    z.items ≡ Read (record { 0 = 0 }) 7 ∷ [] → AreWorked x y z
