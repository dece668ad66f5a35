-- The result and the output of ordering a history that is read.
use Rattle.std.specs.Prelude.{◌≡◌, ◌⊎◌, ℕ, Option, IfSome, List, [], ◌++◌}
use Rattle.std.specs.Io.KnownBytes.{Appends, Consumes, IsAtEnd}
use Rattle.vac_lines.specs.Writing.{AppendsPrefix}
use Rattle.vac_lines.specs.declared.stream_fault.StreamFault.{StreamFault}
use Rattle.vac_lines.specs.declared.stream_fault.StreamFault.TheVariants as fault
use Rattle.judge_object.specs.declared.level.Level.{Level}
use Rattle.judge_linear.specs.declared.ordering.Outcome.{Outcome}
use Rattle.judge_linear.specs.declared.ordering.Outcome.TheVariants as outcome
use Rattle.judge_linear.specs.Found.{FoundOfText, Wrong, Order, NoOrder, IllegalPart, Undecided, IsFound}
use Rattle.judge_linear.specs.Found.{found_text}

-- the outcome that is returned for a result
abbrev pub outcome_of : FoundOfText → Outcome
outcome_of (Wrong verdict) = outcome.Illegal
outcome_of (Order numbers) = outcome.Ordered
outcome_of (NoOrder most stuck) = outcome.Illegal
outcome_of (IllegalPart line customers items stuck states) = outcome.Illegal
outcome_of (Undecided most) = outcome.Undecided

-- the text has some result at a level, of searches that may make `steps` steps; its output is this
-- text, and its outcome is the returned one
pub record FindsText (kept : Level) (n steps : ℕ) (bytes : List ℕ) (result : Outcome)
    (text : List ℕ) : Type 0 where
  pub found : FoundOfText
  pub is : IsFound kept n steps bytes found
  pub answered : result ≡ outcome_of found
  pub text_is : text ≡ found_text bytes found

-- enough of the input was read to decide the result: all of the input, or a prefix for which the
-- result holds whatever follows
-- Not said: anything of streams whose bytes no contract describes; that no byte is read after the
-- chunk with the first wrong line, which is read in the code.
pub record HasText (kept : Level) (n steps : ℕ) (unread left : Option (List ℕ)) (result : Outcome)
    (text : List ℕ) : Type 0 where
  pub bytes : List ℕ
  pub consumed : Consumes unread left bytes
  pub of_read : (IsAtEnd left × FindsText kept n steps bytes result text)
      ⊎ ((x : List ℕ) → FindsText kept n steps (bytes ++ x) result text)
  pub of_input : IfSome unread (λ input. FindsText kept n steps input result text)

-- exactly the output for the result was written, and the outcome of the result was returned
pub record HasOrdered (kept : Level) (n steps : ℕ) (result : Outcome)
    (unread left held holds : Option (List ℕ)) : Type 0 where
  pub text : List ℕ
  pub is : HasText kept n steps unread left result text
  pub written : Appends held holds text

-- a prefix of the output for the result was written
pub record HasOrderedInPart (kept : Level) (n steps : ℕ)
    (unread left held holds : Option (List ℕ)) : Type 0 where
  pub result : Outcome
  pub text : List ℕ
  pub is : HasText kept n steps unread left result text
  pub written : AppendsPrefix held holds text

-- a fault ended the ordering. After a fault of the output a prefix of the text was written, after
-- any other fault nothing
-- Not said: which of Read, Memory and Bound ends the ordering; that the output failed if Write is
-- returned.
abbrev pub HasStoppedOrdering : Level → ℕ → ℕ → StreamFault → Option (List ℕ) → Option (List ℕ)
    → Option (List ℕ) → Option (List ℕ) → Type 0
HasStoppedOrdering kept n steps fault.Write unread left held holds =
    HasOrderedInPart kept n steps unread left held holds
HasStoppedOrdering kept n steps fault unread left held holds = Appends held holds []
