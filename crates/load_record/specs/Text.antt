-- The text of a load's attempts.
use Rattle.std.specs.Prelude.{◌≡◌, ◌⊎◌, ℕ, true, false, List, [], ◌++◌, map, Option}
use Rattle.std.specs.List.Sorted.{IsPermutation}
use Rattle.std.specs.Io.KnownBytes.{Appends}
use Rattle.vac_lines.specs.Writing.{AppendsPrefix}
use Rattle.tx_alloc.specs.Pool.{heap_words}
use Rattle.judge_opacity.specs.Laws.{ListsAttempts}
use Rattle.vac_manager.specs.declared.note.TracedAttempt.{TracedAttempt}
use Rattle.load_record.specs.Laying.{Lays}
use Rattle.load_record.specs.Lines.{AttemptEntry, lines_text}
use Rattle.load_record.specs.AttemptOrder.{EntriesAreOrdered}
use Rattle.load_record.specs.Pages.{Page, attempt_entries_of, attempt_entries_from, are_told}
use Rattle.load_record.specs.Entries.{attempt_of, AllFit, are_short}

-- the list has the attempts of a load on a system with this number of blocks, sorted by commit
-- position: as attempts of client 0 those that write the initial words; and for each client,
-- numbered from 0, the attempt of each of its completed calls, once, and its aborted attempts. The
-- attempts that write the initial words come first, in the order of the addresses
-- Not said: that an attempt listed as aborted was an attempt of this load, its reads, or its
-- position.
pub record AreAttempts (blocks : ℕ) (pages : List Page) (all : List AttemptEntry) : Type 0 where
  pub laid : List TracedAttempt
  pub lays : Lays blocks laid
  pub told : are_told pages ≡ true
  pub each_once : IsPermutation (attempt_entries_of 0 laid ++ attempt_entries_from 0 pages) all
  pub ordered : EntriesAreOrdered all
  pub rest : List AttemptEntry
  pub first : all ≡ attempt_entries_of 0 laid ++ rest

-- some attempt of the load has more than 2,164,800 accesses, or one that is at no word of the heap
-- Not said: that the judge could not read the lines of such attempts. A line with more accesses
-- can still be short enough, if its numbers are.
pub record AreTooLong (blocks : ℕ) (pages : List Page) : Type 0 where
  pub all : List AttemptEntry
  pub attempts : AreAttempts blocks pages all
  pub long : are_short (heap_words blocks) all ≡ false

-- the attempts were written, one line each, and nothing else. The judge of opacity can read each
-- line at as many words as the heap has, and reads the text as these attempts, one attempt a line
-- Not said: the number of writes.
pub record WroteAttempts (blocks : ℕ) (pages : List Page) (held holds : Option (List ℕ))
    : Type 0 where
  pub all : List AttemptEntry
  pub attempts : AreAttempts blocks pages all
  pub fits : AllFit (heap_words blocks) all
  pub read : ListsAttempts (heap_words blocks) (lines_text all) (map attempt_of all)
  pub written : Appends held holds (lines_text all)

-- a prefix of the text of such attempts was written
pub record WroteAttemptsInPart (blocks : ℕ) (pages : List Page) (held holds : Option (List ℕ))
    : Type 0 where
  pub all : List AttemptEntry
  pub attempts : AreAttempts blocks pages all
  pub fits : AllFit (heap_words blocks) all
  pub written : AppendsPrefix held holds (lines_text all)

-- nothing was written, or a prefix of the text of such attempts
-- Not said: that writing stops early only if memory is refused or a write fails.
abbrev pub WroteAttemptsPrefix : ℕ → List Page → Option (List ℕ) → Option (List ℕ) → Type 0
WroteAttemptsPrefix blocks pages held holds =
    AppendsPrefix held holds [] ⊎ WroteAttemptsInPart blocks pages held holds
