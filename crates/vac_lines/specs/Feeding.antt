-- The effect of a chunk of an input on a sink, if a line has begun before the chunk.
use Rattle.std.specs.Prelude.{◌≡◌, ℕ, ◌+◌, ◌≤◌, Result, Ok, Err, List, [], ◌∷◌, ◌++◌, length}
use Rattle.vac_lines.specs.Lines.{HasNo}
use Rattle.vac_lines.specs.declared.stream_fault.StreamFault.{StreamFault}
use Rattle.vac_lines.specs.declared.next.Next.{Next}
use Rattle.vac_lines.specs.declared.next.Next.TheVariants.{GoOn, Stop}
use Rattle.vac_lines.specs.Told.{Message, Pause, line_messages, lines_in}
use Rattle.vac_lines.specs.Heard.{ReceivedAll, ReceivedLast, AreFirst}

-- the kept part of a line that has begun: the line, or enough of it to see that it is too long
abbrev pub HasBegun : ℕ → List ℕ → Type 0
HasBegun longest line = HasNo 10 line × (length line ≤ longest + 1)

-- the sink heard the lines that end in a chunk, and then a pause. Whatever follows the chunk, the
-- lines after them are those of the line that has begun by then
pub record FedAll {S O : Type 0}
    (hears : S → O → Message → Result Next StreamFault → S → O → Type 0) (longest : ℕ)
    (line line' chunk : List ℕ) (s : S) (o : O) (t : S) (p : O) : Type 0 where
  pub begun : HasBegun longest line'
  pub lines : List Message
  pub only : lines_in lines ≡ lines
  pub told : List Message
  pub paused : told ≡ lines ++ Pause ∷ []
  pub heard : ReceivedAll hears s o told t p
  pub same : (x : List ℕ) → line_messages longest (line ++ (chunk ++ x))
      ≡ lines_in told ++ line_messages longest (line' ++ x)

-- the sink heard some of these lines, and its answer to the last one ended the reading
pub record FedLast {S O : Type 0}
    (hears : S → O → Message → Result Next StreamFault → S → O → Type 0) (longest : ℕ)
    (answer : Result Next StreamFault) (line chunk : List ℕ) (s : S) (o : O) (t : S) (p : O) :
    Type 0 where
  pub told : List Message
  pub heard : ReceivedLast hears s o told answer t p
  pub first : (x : List ℕ) → AreFirst longest (lines_in told) (line ++ (chunk ++ x))

-- the effect of a chunk on the sink, by its answer
abbrev pub Fed : {S O : Type 0}
    → (S → O → Message → Result Next StreamFault → S → O → Type 0) → ℕ
    → Result Next StreamFault → List ℕ → List ℕ → List ℕ → S → O → S → O → Type 0
Fed hears longest (Ok GoOn) line line' chunk s o t p =
    FedAll hears longest line line' chunk s o t p
Fed hears longest (Ok Stop) line line' chunk s o t p =
    FedLast hears longest (Ok Stop) line chunk s o t p
Fed hears longest (Err fault) line line' chunk s o t p =
    FedLast hears longest (Err fault) line chunk s o t p

-- the sink heard the last line, if there is one
pub record EndedAll {S O : Type 0}
    (hears : S → O → Message → Result Next StreamFault → S → O → Type 0) (longest : ℕ)
    (line : List ℕ) (s : S) (o : O) (t : S) (p : O) : Type 0 where
  pub told : List Message
  pub heard : ReceivedAll hears s o told t p
  pub same : lines_in told ≡ line_messages longest line

-- the sink's answer to the last line ended the reading
pub record EndedLast {S O : Type 0}
    (hears : S → O → Message → Result Next StreamFault → S → O → Type 0) (longest : ℕ)
    (answer : Result Next StreamFault) (line : List ℕ) (s : S) (o : O) (t : S) (p : O) :
    Type 0 where
  pub told : List Message
  pub heard : ReceivedLast hears s o told answer t p
  pub first : AreFirst longest (lines_in told) line

-- the effect of the end of the input on the sink, by its answer
abbrev pub Ended : {S O : Type 0}
    → (S → O → Message → Result Next StreamFault → S → O → Type 0) → ℕ
    → Result Next StreamFault → List ℕ → S → O → S → O → Type 0
Ended hears longest (Ok GoOn) line s o t p = EndedAll hears longest line s o t p
Ended hears longest (Ok Stop) line s o t p = EndedLast hears longest (Ok Stop) line s o t p
Ended hears longest (Err fault) line s o t p = EndedLast hears longest (Err fault) line s o t p
