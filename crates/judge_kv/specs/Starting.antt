-- The values that keys have at first, as a text of lines KEY VALUE gives them. Both are quoted
-- words.
use Rattle.std.specs.Prelude.{◌≡◌, ℕ, ◌+◌, Option, Some, None, Result, Ok, Err, List, [], ◌∷◌, is_some, codes, if◌then◌else◌}
use Rattle.std.specs.Str.{bytes_eq}
use Rattle.vac_lines.specs.Lines.{lines_of, words_of}
use Rattle.std.specs.Global.{Vec}
use Rattle.judge_text.specs.Quoting.{unquoted}
use Rattle.judge_kv.specs.declared.starting.FirstValues.{FirstValues}
use Rattle.judge_kv.specs.declared.starting.FirstValues.TheVariants.{Given, Fault}
use Rattle.judge_kv.specs.Rules.{Held}
use Rattle.judge_kv.specs.declared.starting.StartFault.{StartFault}
use Rattle.judge_kv.specs.declared.starting.StartFault.TheVariants.{BadStart, MissingValue, KeyTwice}

-- a key and the value that it has at first
abbrev pub First : Type 0
First = List ℕ × List ℕ

-- the number of a line, the first being 1, and its fault
abbrev pub FirstFault : Type 0
FirstFault = ℕ × StartFault

-- the name of a fault
abbrev pub fault_name : StartFault → List ℕ
fault_name BadStart = codes "bad-start"
fault_name MissingValue = codes "missing-value"
fault_name KeyTwice = codes "key-twice"

-- the value that a key has at first, if one is given
abbrev pub value_at_first : List First → List ℕ → Held
value_at_first [] key = None
value_at_first (first ∷ firsts) key =
    if bytes_eq key first.0 then Some first.1 else value_at_first firsts key

-- a key and its value, if the value was read
abbrev pub first_of : List ℕ → Option (List ℕ) → Result First StartFault
first_of key None = Err BadStart
first_of key (Some value) = Ok (key, value)

-- the key that was read and the value that a word writes
abbrev pub key_first : Option (List ℕ) → List ℕ → Result First StartFault
key_first None word = Err BadStart
key_first (Some key) word =
    if bytes_eq word (codes "-") then Err MissingValue else first_of key (unquoted word)

-- the fault of a line that has one word
abbrev pub alone_fault : Option (List ℕ) → StartFault
alone_fault None = BadStart
alone_fault (Some key) = MissingValue

-- the key and the value that words write
abbrev pub words_first : List (List ℕ) → Result First StartFault
words_first [] = Err BadStart
words_first (key ∷ []) = Err (alone_fault (unquoted key))
words_first (key ∷ value ∷ []) = key_first (unquoted key) value
words_first (key ∷ value ∷ more ∷ rest) = Err BadStart

-- a key and its value, if no line before gives the key one
abbrev pub once : List First → Result First StartFault → Result First StartFault
once before (Ok first) =
    if is_some (value_at_first before first.0) then Err KeyTwice else Ok first
once before (Err fault) = Err fault

-- the key and the value of a line behind others
abbrev pub line_first : List First → List ℕ → Result First StartFault
line_first before line = once before (words_first (words_of line))

-- what is read of a line, and then of those behind it
abbrev pub then_firsts : ℕ → Result First StartFault
    → (First → Result (List First) FirstFault) → Result (List First) FirstFault
then_firsts number (Ok first) more = more first
then_firsts number (Err fault) more = Err (number, fault)

-- the keys and values of lines, the first of which has this number and stands behind others, with
-- those of the others; or the first line that has a fault
abbrev pub lines_firsts : List First → ℕ → List (List ℕ) → Result (List First) FirstFault
lines_firsts before number [] = Ok before
lines_firsts before number (line ∷ lines) =
    then_firsts number (line_first before line)
    (λ first. lines_firsts (first ∷ before) (number + 1) lines)

-- the keys and values of a text, or its first line that has a fault
abbrev pub text_firsts : List ℕ → Result (List First) FirstFault
text_firsts text = lines_firsts [] 1 (lines_of text)

-- each key begins with its value at first
abbrev pub BeginWith : List First → (List ℕ → Held) → Type 0
BeginWith firsts s = (key : List ℕ) → s key ≡ value_at_first firsts key

-- no line of a text has a fault, and each key begins with its value in the text
pub record IsStartOf (text : List ℕ) (s : List ℕ → Held) : Type 0 where
  pub firsts : List First
  pub are : text_firsts text ≡ Ok firsts
  pub begin : BeginWith firsts s

-- the key and the value that were read, or the fault, are the expected ones
abbrev pub IsFirstRead : Result First StartFault → Result (Vec ℕ × Vec ℕ) StartFault → Type 0
IsFirstRead expected (Ok first) = expected ≡ Ok (first.0.items, first.1.items)
IsFirstRead expected (Err fault) = expected ≡ Err fault

-- a text was read as the values that keys have at first, or its first fault was found; `held` is
-- what each key has
abbrev pub AreFirstValues : {F : Type 0} → (F → List ℕ → Held) → List ℕ → FirstValues F → Type 0
AreFirstValues held text (Given firsts) = IsStartOf text (held firsts)
AreFirstValues held text (Fault number fault) = text_firsts text ≡ Err (number, fault)
