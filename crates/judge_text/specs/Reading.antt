-- Which history a text is. Each text is one history, or has one first line that is no call.
use Rattle.std.specs.Prelude.{◌≡◌, ⊤, ℕ, ◌+◌, Result, Ok, Err, List, [], ◌∷◌}
use Rattle.vac_lines.specs.Lines.{lines_of}
use Rattle.judge_object.specs.Rules.{Rules}
use Rattle.judge_object.specs.Call.{Call}
use Rattle.judge_object.specs.declared.line.Line.{Line}
use Rattle.judge_search.specs.Calls.{call_of, calls_of}
use Rattle.judge_text.specs.declared.fault.CallFault.{CallFault}
use Rattle.judge_text.specs.declared.history.Reading.{Reading}
use Rattle.judge_text.specs.declared.history.Reading.TheVariants.{History, Fault}
use Rattle.judge_text.specs.Language.{Language}
use Rattle.judge_text.specs.Lines.{line_call}

-- the number of a line, the first being 1, and its fault
abbrev pub LineFault : Type 0
LineFault = ℕ × CallFault

module _ {O : Type 0} where
  -- a call before those behind it, unless one of them has a fault
  abbrev pub before : Call O → Result (List (Call O)) LineFault → Result (List (Call O)) LineFault
  before call (Ok calls) = Ok (call ∷ calls)
  before call (Err fault) = Err fault

  -- the call of a line with a number before those behind it, or the first fault
  abbrev pub line_before : ℕ → Result (Call O) CallFault → Result (List (Call O)) LineFault
      → Result (List (Call O)) LineFault
  line_before number (Ok call) rest = before call rest
  line_before number (Err fault) rest = Err (number, fault)

  -- the lines have the numbers from this one on
  abbrev pub AreNumbered : ℕ → List (Line O) → Type 0
  AreNumbered number [] = ⊤
  AreNumbered number (line ∷ lines) = (line.number ≡ number) × AreNumbered (number + 1) lines

  -- what a line was read as is what it is
  abbrev pub IsReadLine : Result (Call O) CallFault → ℕ → Result (Line O) CallFault → Type 0
  IsReadLine call number (Ok line) = (call ≡ Ok (call_of line)) × (line.number ≡ number)
  IsReadLine call number (Err fault) = call ≡ Err fault

module _ {S O R : Type 0} (X : Rules S O R) (L : Language O R) where
  -- the calls of lines, the first of which has this number, or the first that is no call
  abbrev pub lines_calls : ℕ → List (List ℕ) → Result (List (Call O)) LineFault
  lines_calls number [] = Ok []
  lines_calls number (line ∷ rest) =
      line_before number (line_call X L line) (lines_calls (number + 1) rest)

  -- the calls of a text, or its first line that is no call
  abbrev pub text_calls : List ℕ → Result (List (Call O)) LineFault
  text_calls text = lines_calls 1 (lines_of text)

  -- what a text was read as is what it is
  abbrev pub IsReadingOf : List ℕ → Reading O → Type 0
  IsReadingOf text (History lines) =
      (text_calls text ≡ Ok (calls_of lines.items)) × AreNumbered 1 lines.items
  IsReadingOf text (Fault number fault) = text_calls text ≡ Err (number, fault)
