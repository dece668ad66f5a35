-- The words of a memory as text, one word a line.
use Rattle.std.specs.Prelude.{ℕ, Option, Some, None, List, [], ◌∷◌, decimal, flat_map}
use Rattle.vac_lines.specs.Lines.{lines_of}
use Rattle.vac_lines.specs.Script.{as_line}
use Rattle.vac_lines.specs.Words.{memory_word_of}

-- a word of a memory as a line
abbrev pub word_line : ℕ → List ℕ
word_line word = as_line (decimal word)

-- the words of a memory as text, one word a line
abbrev pub dump_text : List ℕ → List ℕ
dump_text words = flat_map word_line words

-- a word followed by others, if all of them are valid
abbrev pub word_in_front : Option ℕ → Option (List ℕ) → Option (List ℕ)
word_in_front None words = None
word_in_front (Some word) None = None
word_in_front (Some word) (Some words) = Some (word ∷ words)

-- the words that these lines write, if each line writes one
abbrev pub words_of_lines : List (List ℕ) → Option (List ℕ)
words_of_lines [] = Some []
words_of_lines (line ∷ more) = word_in_front (memory_word_of line) (words_of_lines more)

-- the words that a text writes, one a line, if each line writes one
abbrev pub memory_words : List ℕ → Option (List ℕ)
memory_words text = words_of_lines (lines_of text)
