-- The result and the output of judging a history that is checked against a workload, as a function
-- of all bytes of both.
use Rattle.std.specs.Prelude.{◌≡◌, ℕ, Bool, Option, List, []}
use Rattle.std.specs.Io.KnownBytes.{Appends, Consumes, IsAtEnd}
use Rattle.vac_lines.specs.Writing.{AppendsPrefix}
use Rattle.vac_lines.specs.declared.stream_fault.StreamFault.{StreamFault}
use Rattle.vac_lines.specs.declared.stream_fault.StreamFault.TheVariants as fault
use Rattle.judge_calls.specs.Work.{workload_verdict, workload_verdict_text, is_whole}

-- an input was read to its end, and its bytes are these
pub record IsReadWhole (unread left : Option (List ℕ)) (bytes : List ℕ) : Type 0 where
  pub consumed : Consumes unread left bytes
  pub at_end : IsAtEnd left

-- the workload and the history were read to their ends, and exactly the verdict on both was
-- written. The returned value is true if the history is legal and covers the workload
-- Not said: anything of the bytes of a stream that no contract describes.
pub record HasChecked (n : ℕ) (legal : Bool) (tasks tasks_left unread left held holds
    : Option (List ℕ)) : Type 0 where
  pub work : List ℕ
  pub bytes : List ℕ
  pub work_read : IsReadWhole tasks tasks_left work
  pub history_read : IsReadWhole unread left bytes
  pub answered : legal ≡ is_whole (workload_verdict n work bytes)
  pub written : Appends held holds (workload_verdict_text (workload_verdict n work bytes))

-- the workload and the history were read to their ends, and a prefix of the verdict was written
pub record HasCheckedInPart (n : ℕ) (tasks tasks_left unread left held holds : Option (List ℕ))
    : Type 0 where
  pub work : List ℕ
  pub bytes : List ℕ
  pub work_read : IsReadWhole tasks tasks_left work
  pub history_read : IsReadWhole unread left bytes
  pub written : AppendsPrefix held holds (workload_verdict_text (workload_verdict n work bytes))

-- a fault ended the judging. After a fault of the output a prefix of the verdict was written,
-- after any other fault nothing
-- Not said: which cause gives which of the faults of reading, of memory and of bounds.
abbrev pub HasStoppedChecking : ℕ → StreamFault → Option (List ℕ) → Option (List ℕ) →
    Option (List ℕ)
    → Option (List ℕ) → Option (List ℕ) → Option (List ℕ) → Type 0
HasStoppedChecking n fault.Write tasks tasks_left unread left held holds =
    HasCheckedInPart n tasks tasks_left unread left held holds
HasStoppedChecking n fault tasks tasks_left unread left held holds = Appends held holds []
