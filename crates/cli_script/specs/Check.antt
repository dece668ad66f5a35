-- The verdict of a check on the words that it reads.
use Rattle.std.specs.Prelude.{◌≡◌, ◌⊎◌, ⊤, ℕ, ◌≤◌, Bool, true, false, Option, Some, None, List, [], ◌++◌, length, slice_index, codes, decimal, Err}
use Rattle.std.specs.Io.KnownBytes.{Appends, Consumes, IsAtEnd}
use Rattle.vac_model.specs.State.{State}
use Rattle.vac_records.specs.Represents.{IsState}
use Rattle.vac_lines.specs.Script.{as_line}
use Rattle.vac_model.specs.ReplyText.{report_text}
use Rattle.vac_lines.specs.Memory.{memory_words}
use Rattle.vac_audit.specs.Walk.{audit}
use Rattle.vac_audit.specs.Laws.{word_of}
use Rattle.vac_audit.specs.Ran.{IsHeapSize}
use Rattle.vac_audit.specs.Represented.{StateOf}
use Rattle.vac_audit.specs.declared.Flaw.{Flaw}
use Rattle.vac_audit.specs.declared.Flaw.TheVariants.{Pointer, Shared, Lost, Order, Colour, Counts, Bookings}
use Rattle.vac_lines.specs.Writing.{AppendsPrefix}
use Rattle.cli_script.specs.declared.check.Verdict.{Verdict}
use Rattle.cli_script.specs.declared.check.Verdict.TheVariants.{Sound, Flawed, BadWords}

-- the name of a flaw
abbrev pub flaw_name : Flaw → List ℕ
flaw_name (Pointer a) = codes "flaw pointer "
flaw_name (Shared a) = codes "flaw shared "
flaw_name (Lost a) = codes "flaw lost "
flaw_name (Order a) = codes "flaw order "
flaw_name (Colour a) = codes "flaw colour "
flaw_name (Counts a) = codes "flaw counts "
flaw_name (Bookings a) = codes "flaw bookings "

-- the text of a flaw: its name and the word at which it was met
abbrev pub flaw_text : Flaw → List ℕ
flaw_text flaw = flaw_name flaw ++ decimal (word_of flaw)

-- the text of a verdict
abbrev pub check_text : Verdict → List ℕ
check_text (Sound report) = report_text report
check_text (Flawed flaw) = flaw_text flaw
check_text BadWords = codes "fault bad-words"

-- the words represent no balanced state of one block or more
abbrev pub IsNone : List ℕ → Type 0
IsNone words =
    (s : State) → 1 ≤ s.capacity → IsState (slice_index words) (length words) s → ⊥

-- the words have the size of a heap, and this is their first flaw; they represent no balanced
-- state
pub record HasFlaw (words : List ℕ) (flaw : Flaw) : Type 0 where
  pub heap : IsHeapSize (length words)
  pub first : audit (slice_index words) heap.0 ≡ Err flaw
  pub none : IsNone words

-- no heap has this number of words, so the words represent no balanced state
pub record IsNoHeap (words : List ℕ) : Type 0 where
  pub size : IsHeapSize (length words) → ⊥
  pub none : IsNone words

-- the words have this verdict
abbrev pub Judged : List ℕ → Verdict → Type 0
Judged words (Sound report) = StateOf words report
Judged words (Flawed flaw) = HasFlaw words flaw
Judged words BadWords = IsNoHeap words

-- the input was read to its end, and its words have this verdict
pub record WordsJudged (unread left : Option (List ℕ)) (verdict : Verdict) : Type 0 where
  pub bytes : List ℕ
  pub consumed : Consumes unread left bytes
  pub ended : IsAtEnd left
  pub words : List ℕ
  pub words_are : memory_words bytes ≡ Some words
  pub judged : Judged words verdict

-- the bytes are not the words of a memory, or their number is not that of a heap
abbrev pub NoHeapOf : Option (List ℕ) → Type 0
NoHeapOf None = ⊤
NoHeapOf (Some words) = IsNoHeap words

-- enough of the input was read to see that it is not the text of a heap: all of it, or so much
-- that this holds whatever follows
pub record NoWords (unread left : Option (List ℕ)) : Type 0 where
  pub bytes : List ℕ
  pub consumed : Consumes unread left bytes
  pub none : (IsAtEnd left × NoHeapOf (memory_words bytes))
      ⊎ ((x : List ℕ) → NoHeapOf (memory_words (bytes ++ x)))

-- the bytes that were read have this verdict
abbrev pub IsVerdict : Option (List ℕ) → Option (List ℕ) → Verdict → Type 0
IsVerdict unread left (Sound report) = WordsJudged unread left (Sound report)
IsVerdict unread left (Flawed flaw) = WordsJudged unread left (Flawed flaw)
IsVerdict unread left BadWords = NoWords unread left

-- the verdict is that of a balanced state
abbrev pub is_sound : Verdict → Bool
is_sound (Sound report) = true
is_sound (Flawed flaw) = false
is_sound BadWords = false

-- the verdict on the bytes that were read was written as one line, and `sound` says whether the
-- words represent a balanced state
pub record Checked (sound : Bool) (unread left held holds : Option (List ℕ)) : Type 0 where
  pub verdict : Verdict
  pub is : IsVerdict unread left verdict
  pub answered : sound ≡ is_sound verdict
  pub written : Appends held holds (as_line (check_text verdict))

-- a prefix of the line of the verdict on the bytes that were read was written
pub record CheckedPrefix (unread left held holds : Option (List ℕ)) : Type 0 where
  pub verdict : Verdict
  pub is : IsVerdict unread left verdict
  pub written : AppendsPrefix held holds (as_line (check_text verdict))

-- a check ended with a fault, before it wrote or while it wrote
-- Not said: which fault ended the check, except that it is neither Busy nor Spent; that no more
-- words are read than necessary, which a test counts.
abbrev pub CheckStopped : Option (List ℕ) → Option (List ℕ) → Option (List ℕ)
    → Option (List ℕ) → Type 0
CheckStopped unread left held holds =
    Appends held holds [] ⊎ CheckedPrefix unread left held holds
