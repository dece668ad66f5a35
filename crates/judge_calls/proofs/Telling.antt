-- What a history that was told line by line says of the verdict on it.
use Rattle.std.proofs.Common.{◌≡◌, ℕ, true, false, cond, List, [], ◌∷◌, ◌++◌, length, map, refl, ap, sym, ◌∙◌, inl, inr}
use Rattle.std.proofs.Common.{arith, append-nil, append_assoc, subst, Option, Some, None, IfSome, nat_lt, Result, Ok}
use Rattle.std.proofs.lemmas.Bool.{cases_lt}
use Rattle.std.proofs.lemmas.Bool.Decides.{nat_tests}
use Rattle.std.proofs.lemmas.List.{map-append}
use Rattle.std.specs.Io.KnownBytes.{Consumes}
use Rattle.std.proofs.KnownBytes.{Consumes-whole}
use Rattle.vac_model.specs.State.{State, empty_state}
use Rattle.vac_lines.specs.Lines.{lines_of}
use Rattle.vac_lines.specs.declared.stream_fault.StreamFault.{StreamFault}
use Rattle.vac_lines.specs.declared.next.Next.{Next}
use Rattle.vac_lines.specs.declared.next.Next.TheVariants.{GoOn, Stop}
use Rattle.vac_lines.specs.Told as told
use Rattle.vac_lines.specs.Told.{Message, message_of, line_messages, lines_in}
use Rattle.vac_lines.specs.Heard.{ReceivedAll, ReceivedLast, AreFirst, AreFirstOf, HeardAll, HeardLast, Heard}
use Rattle.vac_lines.proofs.Telling.{lines_both}
use Rattle.judge_calls.specs.declared.fault.CallFault.{CallFault}
use Rattle.judge_calls.specs.declared.reading.History.{History}
use Rattle.judge_calls.specs.declared.verdict.Summary.{Summary}
use Rattle.judge_calls.specs.declared.verdict.Verdict.{Verdict}
use Rattle.judge_calls.specs.declared.verdict.Verdict.TheVariants.{Legal}
use Rattle.judge_calls.specs.Call.{Call, line_call}
use Rattle.judge_calls.specs.Verdict.{judged, summary_of, verdict_on}
use Rattle.judge_calls.specs.Judging.{Follows, Takes}
use Rattle.judge_calls.specs.Hearing.{told_call, HearsCall}
use Rattle.judge_calls.specs.Reading.{HasVerdict}

-- a line is the same call as what is told of it
pub line_told : (line : List ℕ) → line_call line ≡ told_call (message_of 4096 line)
line_told line =
    elim (cases_lt 4096 (length line)) [
      | inl h ↦ let long : nat_lt 4096 (length line) ≡ true = grind (arith, nat_tests) in rw long refl
      | inr h ↦
          let short : nat_lt 4096 (length line) ≡ false = grind (arith, nat_tests) in
          let same : message_of 4096 line ≡ told.Line line = ap (λ b. cond b told.LongLine (told.Line line)) short in
          sym (ap told_call same)
    ]

-- the calls of lines are those of what is told of them
pub lines_told : (lines : List (List ℕ)) → map line_call lines ≡ map told_call (map (message_of 4096) lines)
lines_told [] = refl
lines_told (line ∷ more) =
    ap (λ r. r ∷ map line_call more) (line_told line) ∙ ap (λ t. told_call (message_of 4096 line) ∷ t) (lines_told more)

-- so the verdict on a text is that on what is told of it
verdict_told : (n : ℕ) (bytes : List ℕ)
    → verdict_on n bytes ≡ judged (empty_state n) [] (map told_call (line_messages 4096 bytes))
verdict_told n bytes = ap (judged (empty_state n) []) (lines_told (lines_of bytes))

-- these lines were taken: whatever follows, the verdict is the same
abbrev Taken : State → List Call → List Message → History → Type 0
Taken s earlier lines y = (t : State) × (calls : List Call) × Follows y.judge t calls
    × ((more : List (Result Call CallFault)) →
    judged s earlier (map told_call lines ++ more) ≡ judged t calls more)

taken_line : (x u y : History) (s : State) (earlier : List Call) (line : Message) (lines : List Message)
    → Takes x.judge u.judge (told_call line) → Follows x.judge s earlier
    → ((t : State) (calls : List Call) → Follows u.judge t calls → Taken t calls lines y)
    → Taken s earlier (line ∷ lines) y
taken_line x u y s earlier line lines takes f next =
    let one = takes.on s earlier f in
    let rest = next one.0 one.1 one.2 in
    (rest.0, rest.1, rest.2, λ more. one.3 (map told_call lines ++ more) ∙ rest.3 more)

go_stop : Stop ≡ GoOn → ⊥
go_stop e = cc

same_verdict : (a b : Verdict) → Some a ≡ Some b → a ≡ b
same_verdict a b e = cc

-- the last line that was told brought the verdict, whatever follows
stopped : (u : History) (last : Message) (y : History) (verdict : Verdict) (s : State) (earlier : List Call)
    (more : List (Result Call CallFault)) → HearsCall u last (Ok Stop) y → y.found ≡ Some verdict
    → Follows u.judge s earlier → judged s earlier (map told_call (lines_in (last ∷ [])) ++ more) ≡ verdict
stopped u (told.Line text) y verdict s earlier more h e f =
    h.ends.on s earlier f more ∙ same_verdict h.verdict verdict (sym h.found ∙ e)
stopped u told.LongLine y verdict s earlier more h e f =
    h.ends.on s earlier f more ∙ same_verdict h.verdict verdict (sym h.found ∙ e)
stopped u told.Pause y verdict s earlier more h e f = absurd (go_stop h.0)

-- what holds whatever follows holds of the whole input
of_whole : (n : ℕ) (unread left : Option (List ℕ)) (bytes : List ℕ) (verdict : Verdict)
    → Consumes unread left bytes → ((x : List ℕ) → verdict_on n (bytes ++ x) ≡ verdict)
    → IfSome unread (λ input. verdict_on n input ≡ verdict)
of_whole n None left bytes verdict c h = tt
of_whole n (Some xs) None bytes verdict c h = absurd c
of_whole n (Some xs) (Some ys) bytes verdict c h = ap (verdict_on n) c ∙ h ys

module _ {O : Type 0} where
  abbrev hears : History → O → Message → Result Next StreamFault → History → O → Type 0
  hears x o line answer y p = HearsCall x line answer y

  taken_told : (x : History) (o : O) (lines : List Message) (y : History) (p : O) → ReceivedAll hears x o lines y p
      → (s : State) (earlier : List Call) → Follows x.judge s earlier → Taken s earlier (lines_in lines) y
  taken_told x o [] y p h s earlier f =
      (s, earlier, subst (λ (z : History). Follows z.judge s earlier) (sym h.0) f, λ more. refl)
  taken_told x o (told.Line text ∷ lines) y p h s earlier f =
      taken_line x h.0 y s earlier (told.Line text) (lines_in lines) h.2 f
      (λ t calls g. taken_told h.0 h.1 lines y p h.3 t calls g)
  taken_told x o (told.LongLine ∷ lines) y p h s earlier f =
      taken_line x h.0 y s earlier told.LongLine (lines_in lines) h.2 f
      (λ t calls g. taken_told h.0 h.1 lines y p h.3 t calls g)
  taken_told x o (told.Pause ∷ lines) y p h s earlier f =
      taken_told h.0 h.1 lines y p h.3 s earlier (subst (λ (z : History). Follows z.judge s earlier) (sym h.2.1) f)

  -- the input was read to its end
  heard_all : (n : ℕ) (unread left : Option (List ℕ)) (x : History) (o : O) (y : History) (p : O) (found : Summary)
      → Follows x.judge (empty_state n) [] → HeardAll hears 4096 unread left x o y p
      → ((s : State) (earlier : List Call) → Follows y.judge s earlier → found ≡ summary_of s earlier)
      → HasVerdict n unread left (Legal found)
  heard_all n unread left x o y p found f h sums =
      let t = taken_told x o h.told y p h.heard (empty_state n) [] f in
      let same : verdict_on n h.bytes ≡ Legal found =
      verdict_told n h.bytes ∙ ap (λ l. judged (empty_state n) [] (map told_call l)) (sym h.lines)
      ∙ ap (judged (empty_state n) []) (sym (append-nil (map told_call (lines_in h.told)))) ∙ t.3 []
      ∙ ap Legal (sym (sums t.0 t.1 t.2)) in
      record {
        bytes = h.bytes;
        consumed = h.consumed;
        of_read = inl (h.ended, same);
        of_input = Consumes-whole unread left h.bytes (λ input. verdict_on n input ≡ Legal found) h.consumed
            h.ended same;
      }

  of_told : (n : ℕ) (x : History) (o : O) (lines : List Message) (y : History) (p : O) (verdict : Verdict)
      (more : List Message) → Follows x.judge (empty_state n) [] → ReceivedLast hears x o lines (Ok Stop) y p
      → y.found ≡ Some verdict → judged (empty_state n) [] (map told_call (lines_in lines ++ more)) ≡ verdict
  of_told n x o lines y p verdict more f h e =
      let t = taken_told x o h.before h.sink h.output h.first (empty_state n) [] f in
      let last = lines_in (h.last ∷ []) in
      let calls : map told_call (lines_in lines ++ more)
      ≡ map told_call (lines_in h.before) ++ (map told_call last ++ map told_call more) =
      map-append told_call (lines_in lines) more
      ∙ ap (λ l. map told_call l ++ map told_call more) (ap lines_in h.all ∙ lines_both h.before (h.last ∷ []))
      ∙ ap (λ l. l ++ map told_call more) (map-append told_call (lines_in h.before) last)
      ∙ append_assoc (map told_call (lines_in h.before)) (map told_call last) (map told_call more) in
      ap (judged (empty_state n) []) calls ∙ t.3 (map told_call last ++ map told_call more)
      ∙ stopped h.sink h.last y verdict t.0 t.1 (map told_call more) h.then e t.2

  of_first : (n : ℕ) (x : History) (o : O) (lines : List Message) (y : History) (p : O) (verdict : Verdict)
      (text : List ℕ) → Follows x.judge (empty_state n) [] → ReceivedLast hears x o lines (Ok Stop) y p
      → y.found ≡ Some verdict → AreFirst 4096 (lines_in lines) text → verdict_on n text ≡ verdict
  of_first n x o lines y p verdict text f h e first =
      verdict_told n text ∙ ap (λ l. judged (empty_state n) [] (map told_call l)) first.1
      ∙ of_told n x o lines y p verdict first.0 f h e

  by_first : (n : ℕ) (unread left : Option (List ℕ)) (x : History) (o : O) (lines : List Message) (y : History) (p : O)
      (verdict : Verdict) (bytes : List ℕ) → Follows x.judge (empty_state n) []
      → ReceivedLast hears x o lines (Ok Stop) y p → y.found ≡ Some verdict → Consumes unread left bytes
      → AreFirstOf 4096 (lines_in lines) bytes left → HasVerdict n unread left verdict
  by_first n unread left x o lines y p verdict bytes f h e c (inl first) =
      let same = of_first n x o lines y p verdict bytes f h e first.1 in
      record {
        bytes = bytes;
        consumed = c;
        of_read = inl (first.0, same);
        of_input = Consumes-whole unread left bytes (λ input. verdict_on n input ≡ verdict) c first.0 same;
      }
  by_first n unread left x o lines y p verdict bytes f h e c (inr first) =
      let same : (z : List ℕ) → verdict_on n (bytes ++ z) ≡ verdict =
      λ z. of_first n x o lines y p verdict (bytes ++ z) f h e (first z) in
      record {
        bytes = bytes;
        consumed = c;
        of_read = inr same;
        of_input = of_whole n unread left bytes verdict c same;
      }

  -- what was read, by what the reading returned
  pub legal_heard : (next : Next) (n : ℕ) (unread left : Option (List ℕ)) (x : History) (o : O) (y : History) (p : O)
      (found : Summary) → next ≡ GoOn → Follows x.judge (empty_state n) []
      → Heard hears 4096 (Ok next) unread left x o y p
      → ((s : State) (earlier : List Call) → Follows y.judge s earlier → found ≡ summary_of s earlier)
      → HasVerdict n unread left (Legal found)
  legal_heard next n unread left x o y p found e f h sums =
      heard_all n unread left x o y p found f (subst (λ z. Heard hears 4096 (Ok z) unread left x o y p) e h) sums

  pub verdict_heard : (next : Next) (n : ℕ) (unread left : Option (List ℕ)) (x : History) (o : O) (y : History)
      (p : O) (verdict : Verdict) → next ≡ Stop → Follows x.judge (empty_state n) []
      → Heard hears 4096 (Ok next) unread left x o y p → y.found ≡ Some verdict → HasVerdict n unread left verdict
  verdict_heard next n unread left x o y p verdict e f h found =
      let last : HeardLast hears 4096 (Ok Stop) unread left x o y p =
      subst (λ z. Heard hears 4096 (Ok z) unread left x o y p) e h in
      by_first n unread left x o last.told y p verdict last.bytes f last.heard found last.consumed last.first
