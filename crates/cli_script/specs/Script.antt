-- The output of a script, as a function of all bytes of the input.
use Rattle.std.specs.Prelude.{ℕ, Option, IfSome, List}
use Rattle.std.specs.Io.KnownBytes.{Appends, Consumes, IsAtEnd}
use Rattle.vac_lines.specs.Script.{script_out}
use Rattle.vac_lines.specs.Text.{Extends}

-- the input was read to its end, and exactly the output of its script was written
-- Not said: anything of streams whose bytes no contract knows, such as a terminal's; that the task
-- of each line is one transaction of the manager, which is read in the code.
pub record WroteAll (n : ℕ) (unread left held holds : Option (List ℕ)) : Type 0 where
  pub bytes : List ℕ
  pub consumed : Consumes unread left bytes
  pub ended : IsAtEnd left
  pub written : Appends held holds (script_out n bytes)

-- the text that was written is a prefix of the output for the bytes that were read, and of the
-- output for the whole input
-- Not said: which of Read, Write, Memory and Bound ended the script; that memory was refused if
-- Memory is returned. Tests use readers and writers that fail.
pub record WrotePrefix (n : ℕ) (unread left held holds : Option (List ℕ)) : Type 0 where
  pub bytes : List ℕ
  pub consumed : Consumes unread left bytes
  pub text : List ℕ
  pub written : Appends held holds text
  pub of_read : Extends text (script_out n bytes)
  pub of_input : IfSome unread (λ input. Extends text (script_out n input))
