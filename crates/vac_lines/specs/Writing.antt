-- The output after a text was written in part.
use Rattle.std.specs.Prelude.{ℕ, Option, List, take}
use Rattle.std.specs.Io.KnownBytes.{Appends}

-- a prefix of the text was appended
abbrev pub AppendsPrefix : Option (List ℕ) → Option (List ℕ) → List ℕ → Type 0
AppendsPrefix held holds text = (n : ℕ) × Appends held holds (take n text)
