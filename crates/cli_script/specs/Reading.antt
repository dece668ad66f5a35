-- Reading the words of a memory, as a function of all bytes of the input.
use Rattle.std.specs.Prelude.{◌≡◌, ℕ, ◌<◌, ◌≤◌, ◌⊎◌, ⊤, Option, Some, None, Result, Ok, Err}
use Rattle.std.specs.Prelude.{List, [], ◌∷◌, ◌++◌, length}
use Rattle.std.specs.Io.KnownBytes.{Consumes, IsAtEnd}
use Rattle.vac_lines.specs.Words.{memory_word_of}
use Rattle.vac_lines.specs.Memory.{memory_words}
use Rattle.vac_audit.specs.declared.audit.TheConstants.{MOST_HEAP_WORDS}
use Rattle.vac_lines.specs.declared.stream_fault.StreamFault.{StreamFault}
use Rattle.vac_lines.specs.declared.next.Next.{Next}
use Rattle.vac_lines.specs.declared.next.Next.TheVariants.{GoOn, Stop}
use Rattle.vac_lines.specs.Told.{Message, Line, LongLine, Pause}

-- the bytes are not the words of a memory, or there are more words than a memory has
abbrev pub NoneOrMany : Option (List ℕ) → Type 0
NoneOrMany None = ⊤
NoneOrMany (Some words) = MOST_HEAP_WORDS < length words

-- the input was read to its end, and these are its words
pub record ReadWords (unread left : Option (List ℕ)) (words : List ℕ) : Type 0 where
  pub bytes : List ℕ
  pub consumed : Consumes unread left bytes
  pub ended : IsAtEnd left
  pub words_are : memory_words bytes ≡ Some words
  pub few : length words ≤ MOST_HEAP_WORDS

-- enough of the input was read to see that it is not the text of a memory: all of it, or so much
-- that this holds whatever follows
pub record ReadNone (unread left : Option (List ℕ)) : Type 0 where
  pub bytes : List ℕ
  pub consumed : Consumes unread left bytes
  pub none : (IsAtEnd left × NoneOrMany (memory_words bytes))
      ⊎ ((x : List ℕ) → NoneOrMany (memory_words (bytes ++ x)))

-- the line was read as one more word
pub record TookWord (words words' line : List ℕ) : Type 0 where
  pub word : ℕ
  pub is : memory_word_of line ≡ Some word
  pub more : words' ≡ words ++ word ∷ []
  pub few : length words' ≤ MOST_HEAP_WORDS

-- the line is no word, or there is no room for the word
abbrev pub RefusedLine : List ℕ → List ℕ → Type 0
RefusedLine words line = (memory_word_of line ≡ None) ⊎ (MOST_HEAP_WORDS ≤ length words)

-- the effect of an event of the line reader on the words: a word is added, or the reader stops
-- because the text is not that of a memory
abbrev pub HearsWord : List ℕ → Message → Result Next StreamFault → List ℕ → Type 0
HearsWord words (Line line) (Ok GoOn) words' = TookWord words words' line
HearsWord words (Line line) (Ok Stop) words' = RefusedLine words line
HearsWord words (Line line) (Err fault) words' = ⊤
HearsWord words LongLine (Ok next) words' = next ≡ Stop
HearsWord words LongLine (Err fault) words' = ⊤
HearsWord words Pause (Ok next) words' = (next ≡ GoOn) × (words' ≡ words)
HearsWord words Pause (Err fault) words' = ⊤
