-- How operations and replies are written.
use Rattle.std.specs.Prelude.{ℕ, Option, List}

-- the operation that words of a line write, and the reply that a word writes, if they write one
pub record Language (O R : Type 0) : Type 0 where
  pub operation : List (List ℕ) → Option O
  pub reply : List ℕ → Option R
