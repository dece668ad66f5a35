-- The manager as a sequential object: its values are balanced states, its operations are tasks.
use Rattle.std.specs.Prelude.{◌≡◌, ℕ, ◌≤◌, List, length, slice_index, true}
use Rattle.stm_core.specs.declared.limits.TheConstants.{MOST_WORDS}
use Rattle.stm_object.specs.Object.{Specification, IsFitting as IsFittingObject, IsLawfulEntry}
use Rattle.tx_alloc.specs.declared.place.TheConstants.{FIRST_BLOCK}
use Rattle.vac_model.specs.declared.tasks.Task.{Task}
use Rattle.vac_model.specs.declared.replies.Reply.{Reply}
use Rattle.vac_model.specs.State.{State, empty_state}
use Rattle.vac_model.specs.Run.{run}
use Rattle.vac_model.specs.Ranges.{is_task}
use Rattle.vac_model.specs.Code.{code}
use Rattle.vac_records.specs.Represents.{IsState}

-- the words of an image, as a memory
abbrev pub memory_of_image : List ℕ → ℕ → ℕ
memory_of_image image address = slice_index image address

-- the image represents this balanced state
abbrev pub Shows : List ℕ → State → Type 0
Shows image s = IsState (memory_of_image image) (length image) s

-- the manager as a sequential object; an entry is a task that can be issued, with its reply
abbrev pub vacation : Specification (Task × Reply)
vacation = record {
  Value = State;
  IsSize = λ n. (FIRST_BLOCK ≤ n) × (n ≤ MOST_WORDS);
  Holds = λ m n s. IsState m n s;
  Begins = λ s. s ≡ empty_state s.capacity;
  IsEntry = λ e. is_task e.0 ≡ true;
  Finds = λ e s. (run s e.0).1 ≡ e.1;
  after = λ e s. (run s e.0).0;
  code = λ e. code e.0 e.1;
}

-- an image fits if it represents a balanced state, of any capacity up to 262,144
abbrev pub IsFitting : List ℕ → Type 0
IsFitting image = IsFittingObject vacation image

-- a record is lawful if its tag is the code of a task that can be issued and of a reply, and if,
-- for every fitting image that agrees with the reads, the task gives this reply and the writes
-- make the state after the task
abbrev pub IsLawful : List ℕ → List (ℕ × ℕ) → List (ℕ × ℕ) → Type 0
IsLawful tag reads writes = IsLawfulEntry vacation tag reads writes
