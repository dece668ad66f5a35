-- Text that is gathered in a buffer before it is written.
use Rattle.std.specs.Prelude.{◌≡◌, ℕ, List, ◌++◌, Option}
use Rattle.std.specs.Io.KnownBytes.{Appends}

-- of the buffered text and a text after it, a front part was written, and the rest is in the
-- buffer
pub record Sent (held holds : Option (List ℕ)) (hand hand' text : List ℕ) : Type 0 where
  pub front : List ℕ
  pub written : Appends held holds front
  pub all : hand ++ text ≡ front ++ hand'
