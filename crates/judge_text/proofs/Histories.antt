-- The history that the lines read so far make.
use Rattle.std.proofs.Common.{◌≡◌, ℕ, ◌+◌, ◌<◌, Result, Ok, Err, List, [], ◌∷◌, ◌++◌, length, refl, sym, ap, ◌∙◌, subst}
use Rattle.std.proofs.Common.{arith, append_assoc, append-nil, length-append}
use Rattle.std.proofs.lemmas.List.{map-append}
use Rattle.vac_lines.specs.Lines.{lines_of, HasNo}
use Rattle.judge_object.specs.Rules.{Rules}
use Rattle.judge_object.specs.Call.{Call}
use Rattle.judge_object.specs.declared.line.Line.{Line}
use Rattle.judge_search.specs.Calls.{call_of, calls_of}
use Rattle.judge_text.specs.declared.fault.CallFault.{CallFault}
use Rattle.judge_text.specs.Language.{Language}
use Rattle.judge_text.specs.Lines.{line_call}
use Rattle.judge_text.specs.Reading.{LineFault, before, line_before, lines_calls, text_calls, AreNumbered}
use Rattle.judge_text.proofs.Cutting.{lines_cut, lines_rest, lines_none}

module _ {S O R : Type 0} (X : Rules S O R) (L : Language O R) where
  -- calls before those behind them, or the first fault
  abbrev pub ahead : List (Call O) → Result (List (Call O)) LineFault → Result (List (Call O)) LineFault
  ahead calls (Ok more) = Ok (calls ++ more)
  ahead calls (Err fault) = Err fault

  -- these lines were read of a text, and this rest of it is left
  pub record HasReadTo (text : List ℕ) (lines : List (Line O)) (rest : List ℕ) : Type 0 where
    pub calls : text_calls X L text ≡ ahead (calls_of lines) (lines_calls X L (length lines + 1) (lines_of rest))
    pub numbered : AreNumbered 1 lines

  pub read_none : (text : List ℕ) (lines : List (Line O)) → lines ≡ [] → HasReadTo text lines text
  read_none text lines e = subst (λ ls. HasReadTo text ls text) (sym e) (record {
    calls = sym (same (lines_calls X L 1 (lines_of text)));
    numbered = tt;
  })
    where
      same : (o : Result (List (Call O)) LineFault) → ahead [] o ≡ o
      same (Ok more) = refl
      same (Err fault) = refl

  ahead_one : (calls : List (Call O)) (call : Call O) (o : Result (List (Call O)) LineFault) →
      ahead calls (before call o) ≡ ahead (calls ++ call ∷ []) o
  ahead_one calls call (Ok more) = ap Ok (sym (append_assoc calls (call ∷ []) more))
  ahead_one calls call (Err fault) = refl

  numbered_more : (n : ℕ) (lines : List (Line O)) (l : Line O) → AreNumbered n lines →
      l.number ≡ n + length lines → AreNumbered n (lines ++ l ∷ [])
  numbered_more n [] l h e = ((let x : l.number ≡ n = omega arith in x), tt)
  numbered_more n (x ∷ lines) l h e =
      (h.0, numbered_more (n + 1) lines l h.1 (let y : l.number ≡ n + 1 + length lines = omega arith in y))

  -- one line more is read, which is the first of those that are left
  line_read : (text line : List ℕ) (lines : List (Line O)) (l : Line O) (rest behind : List ℕ) →
      HasReadTo text lines rest → lines_of rest ≡ line ∷ lines_of behind →
      line_call X L line ≡ Ok (call_of l) → l.number ≡ length lines + 1 → HasReadTo text (lines ++ l ∷ []) behind
  line_read text line lines l rest behind h cut call number =
      let n = length lines + 1 in
      let more = lines_calls X L (n + 1) (lines_of behind) in
      let long : n + 1 ≡ length (lines ++ l ∷ []) + 1 =
      ap (λ k. k + 1) (sym (length-append lines (l ∷ []))) in
      record {
        calls =
            h.calls
            ∙ ap (λ ls. ahead (calls_of lines) (lines_calls X L n ls)) cut
            ∙ ap (λ c. ahead (calls_of lines) (line_before n c more)) call
            ∙ ahead_one (calls_of lines) (call_of l) more
            ∙ ap (λ cs. ahead cs more) (sym (map-append call_of lines (l ∷ [])))
            ∙ ap (λ k. ahead (calls_of (lines ++ l ∷ [])) (lines_calls X L k (lines_of behind))) long;
        numbered = numbered_more 1 lines l h.numbered (let x : l.number ≡ 1 + length lines = omega arith in x);
      }

  line_fault : (text line : List ℕ) (lines : List (Line O)) (fault : CallFault) (rest : List ℕ)
      (behind : List (List ℕ)) → HasReadTo text lines rest → lines_of rest ≡ line ∷ behind →
      line_call X L line ≡ Err fault → text_calls X L text ≡ Err (length lines + 1, fault)
  line_fault text line lines fault rest behind h cut bad =
      let n = length lines + 1 in
      h.calls
      ∙ ap (λ ls. ahead (calls_of lines) (lines_calls X L n ls)) cut
      ∙ ap (λ c. ahead (calls_of lines) (line_before n c (lines_calls X L (n + 1) behind))) bad

  -- a line that has its end
  pub cut_read : (text line : List ℕ) (lines : List (Line O)) (l : Line O) (rest behind : List ℕ) →
      HasReadTo text lines rest → HasNo 10 line → rest ≡ line ++ 10 ∷ behind →
      line_call X L line ≡ Ok (call_of l) → l.number ≡ length lines + 1 → HasReadTo text (lines ++ l ∷ []) behind
  cut_read text line lines l rest behind h clear e call number =
      line_read text line lines l rest behind h (ap lines_of e ∙ lines_cut line behind clear) call number

  pub cut_fault : (text line : List ℕ) (lines : List (Line O)) (fault : CallFault) (rest behind : List ℕ) →
      HasReadTo text lines rest → HasNo 10 line → rest ≡ line ++ 10 ∷ behind →
      line_call X L line ≡ Err fault → text_calls X L text ≡ Err (length lines + 1, fault)
  cut_fault text line lines fault rest behind h clear e bad =
      line_fault text line lines fault rest (lines_of behind) h (ap lines_of e ∙ lines_cut line behind clear) bad

  -- all lines were read
  pub read_all : (text : List ℕ) (lines : List (Line O)) (rest : List ℕ) → HasReadTo text lines rest →
      length rest ≡ 0 → (text_calls X L text ≡ Ok (calls_of lines)) × AreNumbered 1 lines
  read_all text lines rest h e = (
    h.calls
        ∙ ap (λ ls. ahead (calls_of lines) (lines_calls X L (length lines + 1) ls)) (lines_none rest e)
        ∙ ap Ok (append-nil (calls_of lines)),
    h.numbered,
  )

  -- a last line without an end
  pub last_read : (text : List ℕ) (lines : List (Line O)) (l : Line O) (rest : List ℕ) →
      HasReadTo text lines rest → HasNo 10 rest → 0 < length rest →
      line_call X L rest ≡ Ok (call_of l) → l.number ≡ length lines + 1 →
      (text_calls X L text ≡ Ok (calls_of (lines ++ l ∷ []))) × AreNumbered 1 (lines ++ l ∷ [])
  last_read text lines l rest h clear some call number =
      read_all text (lines ++ l ∷ []) []
      (line_read text rest lines l rest [] h (lines_rest rest clear some) call number) refl

  pub last_fault : (text : List ℕ) (lines : List (Line O)) (fault : CallFault) (rest : List ℕ) →
      HasReadTo text lines rest → HasNo 10 rest → 0 < length rest →
      line_call X L rest ≡ Err fault → text_calls X L text ≡ Err (length lines + 1, fault)
  last_fault text lines fault rest h clear some bad =
      line_fault text rest lines fault rest [] h (lines_rest rest clear some) bad
