-- The lines of an input that a sink has heard. The relation `hears` of a sink says what one
-- message does: it takes a sink and an output, with this message and this answer, to a sink and an
-- output.
use Rattle.std.specs.Prelude.{◌≡◌, ◌≢◌, ◌⊎◌, ℕ, Option, Result, Ok, Err, List, [], ◌∷◌, ◌++◌}
use Rattle.std.specs.Io.KnownBytes.{Consumes, IsAtEnd}
use Rattle.vac_lines.specs.declared.stream_fault.StreamFault.{StreamFault}
use Rattle.vac_lines.specs.declared.stream_fault.StreamFault.TheVariants.{Write}
use Rattle.vac_lines.specs.declared.next.Next.{Next}
use Rattle.vac_lines.specs.declared.next.Next.TheVariants.{GoOn, Stop}
use Rattle.vac_lines.specs.Told.{Message, line_messages, lines_in}

-- the sink heard all these messages in order, and wants more
abbrev pub ReceivedAll : {S O : Type 0}
    → (S → O → Message → Result Next StreamFault → S → O → Type 0)
    → S → O → List Message → S → O → Type 0
ReceivedAll hears s o [] t p = (t ≡ s) × (p ≡ o)
ReceivedAll {S} {O} hears s o (x ∷ more) t p =
    (u : S) × (q : O) × hears s o x (Ok GoOn) u q × ReceivedAll hears u q more t p

-- the sink heard all these messages in order, and gave this answer to the last
pub record ReceivedLast {S O : Type 0}
    (hears : S → O → Message → Result Next StreamFault → S → O → Type 0)
    (s : S) (o : O) (told : List Message) (answer : Result Next StreamFault) (t : S) (p : O) :
    Type 0 where
  pub before : List Message
  pub last : Message
  pub all : told ≡ before ++ last ∷ []
  pub sink : S
  pub output : O
  pub first : ReceivedAll hears s o before sink output
  pub then : hears sink output last answer t p

-- the messages are those of the first lines of the text
abbrev pub AreFirst : ℕ → List Message → List ℕ → Type 0
AreFirst longest lines text = (more : List Message) × (line_messages longest text ≡ lines ++ more)

-- the messages are those of the first lines of an input of which these bytes were read: the input
-- was read to its end, or the messages are first whatever follows
abbrev pub AreFirstOf : ℕ → List Message → List ℕ → Option (List ℕ) → Type 0
AreFirstOf longest lines bytes left =
    (IsAtEnd left × AreFirst longest lines bytes)
    ⊎ ((x : List ℕ) → AreFirst longest lines (bytes ++ x))

-- the input was read to its end, and the sink heard exactly its lines, in order
pub record HeardAll {S O : Type 0}
    (hears : S → O → Message → Result Next StreamFault → S → O → Type 0) (longest : ℕ)
    (unread left : Option (List ℕ)) (s : S) (o : O) (t : S) (p : O) : Type 0 where
  pub bytes : List ℕ
  pub consumed : Consumes unread left bytes
  pub ended : IsAtEnd left
  pub told : List Message
  pub heard : ReceivedAll hears s o told t p
  pub lines : lines_in told ≡ line_messages longest bytes

-- the sink heard the first lines of the input, and its answer to the last one ended the reading
pub record HeardLast {S O : Type 0}
    (hears : S → O → Message → Result Next StreamFault → S → O → Type 0) (longest : ℕ)
    (answer : Result Next StreamFault)
    (unread left : Option (List ℕ)) (s : S) (o : O) (t : S) (p : O) : Type 0 where
  pub bytes : List ℕ
  pub consumed : Consumes unread left bytes
  pub told : List Message
  pub heard : ReceivedLast hears s o told answer t p
  pub first : AreFirstOf longest (lines_in told) bytes left

-- the sink heard the first lines of the input, whatever follows the bytes read
pub record HeardFirst {S O : Type 0}
    (hears : S → O → Message → Result Next StreamFault → S → O → Type 0) (longest : ℕ)
    (unread left : Option (List ℕ)) (s : S) (o : O) (t : S) (p : O) : Type 0 where
  pub bytes : List ℕ
  pub consumed : Consumes unread left bytes
  pub told : List Message
  pub heard : ReceivedAll hears s o told t p
  pub first : (x : List ℕ) → AreFirst longest (lines_in told) (bytes ++ x)

-- the outcome of reading an input for a sink: the sink heard all of it; or the sink ended the
-- reading; or the reading ended by a fault of its own, which is no fault of an output
-- Not said: which fault of the reading is returned for which failure of the reader.
abbrev pub Heard : {S O : Type 0}
    → (S → O → Message → Result Next StreamFault → S → O → Type 0) → ℕ
    → Result Next StreamFault → Option (List ℕ) → Option (List ℕ) → S → O → S → O → Type 0
Heard hears longest (Ok GoOn) unread left s o t p = HeardAll hears longest unread left s o t p
Heard hears longest (Ok Stop) unread left s o t p =
    HeardLast hears longest (Ok Stop) unread left s o t p
Heard hears longest (Err fault) unread left s o t p =
    HeardLast hears longest (Err fault) unread left s o t p
    ⊎ ((fault ≢ Write) × HeardFirst hears longest unread left s o t p)
