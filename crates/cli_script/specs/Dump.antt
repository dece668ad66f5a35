-- The output of a dump: the words of a memory that represents the state after a script.
use Rattle.std.specs.Prelude.{ℕ, ◌⊎◌, Option, List, []}
use Rattle.std.specs.Io.KnownBytes.{Appends, Consumes, IsAtEnd}
use Rattle.vac_lines.specs.Script.{script_state}
use Rattle.vac_lines.specs.Memory.{dump_text}
use Rattle.vac_manager.specs.Law.{Shows}
use Rattle.vac_lines.specs.Writing.{AppendsPrefix}

-- the input was read to its end, and exactly the text of some words was written that represent the
-- state after the script on a system of n blocks
-- Not said: which of several arrangements of blocks is written; anything of streams whose bytes no
-- contract knows.
pub record Dumped (n : ℕ) (unread left held holds : Option (List ℕ)) : Type 0 where
  pub bytes : List ℕ
  pub consumed : Consumes unread left bytes
  pub ended : IsAtEnd left
  pub words : List ℕ
  pub shown : Shows words (script_state n bytes)
  pub written : Appends held holds (dump_text words)

-- the input was read to its end, and a prefix of the text of such words was written
pub record DumpedPrefix (n : ℕ) (unread left held holds : Option (List ℕ)) : Type 0 where
  pub bytes : List ℕ
  pub consumed : Consumes unread left bytes
  pub ended : IsAtEnd left
  pub words : List ℕ
  pub shown : Shows words (script_state n bytes)
  pub written : AppendsPrefix held holds (dump_text words)

-- some of the input was read, and nothing was written
pub record DumpedNothing (unread left held holds : Option (List ℕ)) : Type 0 where
  pub bytes : List ℕ
  pub consumed : Consumes unread left bytes
  pub written : Appends held holds []

-- a dump ended with a fault, before it wrote or while it wrote
-- Not said: which of Read, Write, Memory and Bound ended the dump.
abbrev pub DumpStopped : ℕ → Option (List ℕ) → Option (List ℕ) → Option (List ℕ)
    → Option (List ℕ) → Type 0
DumpStopped n unread left held holds =
    DumpedNothing unread left held holds ⊎ DumpedPrefix n unread left held holds
