-- How a text is read as a history, line by line.
use Rattle.std.proofs.Common.{◌≡◌, ◌⊎◌, ℕ, ◌+◌, Bool, true, false, cond, List, [], ◌∷◌, ◌++◌, length, map}
use Rattle.std.proofs.Common.{refl, ap, sym, ◌∙◌, inl, inr, append-nil, append_assoc, subst, Option, Some, nat_lt}
use Rattle.std.proofs.Common.{Result, Ok}
use Rattle.std.specs.Io.KnownBytes.{IsAtEnd}
use Rattle.vac_lines.specs.Lines.{lines_of}
use Rattle.vac_lines.specs.declared.stream_fault.StreamFault.{StreamFault}
use Rattle.vac_lines.specs.declared.next.Next.{Next}
use Rattle.vac_lines.specs.declared.next.Next.TheVariants.{GoOn, Stop}
use Rattle.vac_lines.specs.Told as told
use Rattle.vac_lines.specs.Told.{Message, message_of, line_messages, lines_in}
use Rattle.vac_lines.specs.Heard.{ReceivedAll, ReceivedLast, AreFirst, AreFirstOf, HeardAll, HeardLast, Heard}
use Rattle.vac_lines.proofs.Telling.{lines_both}
use Rattle.judge_calls.specs.declared.fault.CallFault.{CallFault}
use Rattle.judge_calls.specs.declared.verdict.Verdict.{Verdict}
use Rattle.judge_calls.specs.declared.verdict.Verdict.TheVariants.{Illegal}
use Rattle.judge_calls.specs.declared.verdict.CallViolation.TheVariants.{Client}
use Rattle.judge_calls.specs.Call.{Call, line_call}
use Rattle.judge_calls.specs.Hearing.{told_call}
use Rattle.judge_calls.proofs.Telling.{lines_told}
use Rattle.judge_linear.specs.declared.reading.HistoryText.{HistoryText}
use Rattle.judge_search.specs.Calls.{calls_of}
use Rattle.judge_linear.specs.Reading.{wrong_behind, first_wrong, texts_of, IsHeld, TookLine}
use Rattle.judge_linear.specs.Reading.{HistoryHearsLine}
use Rattle.judge_linear.specs.Reading.{ReadWhole, ReadWrong}

-- what is wrong with a text is wrong with its lines as they are told
whole_told : (bytes : List ℕ) → first_wrong bytes ≡ wrong_behind [] (map told_call (line_messages 4096 bytes))
whole_told bytes = ap (wrong_behind []) (lines_told (lines_of bytes))

abbrev lines : HistoryText → List Call
lines x = calls_of x.history.lines.items

abbrev texts : HistoryText → List (List ℕ)
texts x = texts_of x.history.lines.items

-- these lines were taken, as calls
record Taken (x : HistoryText) (lines_are : List Message) (y : HistoryText) : Type 0 where
  pub held : IsHeld y.history
  pub none : y.wrong ≡ x.wrong
  pub more_texts : List (List ℕ)
  pub more_calls : List Call
  pub told_are : lines_are ≡ map told.Line more_texts
  pub listed : map line_call more_texts ≡ map Ok more_calls
  pub texts_are : texts y ≡ texts x ++ more_texts
  pub calls_are : lines y ≡ lines x ++ more_calls
  pub same : (more : List (Result Call CallFault)) → wrong_behind (lines x)
      (map told_call lines_are ++ more) ≡ wrong_behind (lines y) more

taken_none : (x : HistoryText) → IsHeld x.history → Taken x [] x
taken_none x h = record {
  held = h;
  none = refl;
  more_texts = [];
  more_calls = [];
  told_are = refl;
  listed = refl;
  texts_are = sym (append-nil (texts x));
  calls_are = sym (append-nil (lines x));
  same = λ more. refl;
}

taken_line : (x : HistoryText) (text : List ℕ) (rest : List Message) (u y : HistoryText) → TookLine x u text →
    Taken u rest y → Taken x (told.Line text ∷ rest) y
taken_line x text rest u y t r = record {
  held = r.held;
  none = r.none ∙ t.wrong;
  more_texts = text ∷ r.more_texts;
  more_calls = t.call ∷ r.more_calls;
  told_are = ap (λ l. told.Line text ∷ l) r.told_are;
  listed = ap (λ c. c ∷ map line_call r.more_texts) t.is ∙ ap (λ l. Ok t.call ∷ l) r.listed;
  texts_are = r.texts_are ∙ ap (λ l. l ++ r.more_texts) t.took.texts ∙ append_assoc (texts x) (text ∷ []) r.more_texts;
  calls_are = r.calls_are ∙ ap (λ l. l ++ r.more_calls) t.took.calls ∙ append_assoc (lines x)
      (t.call ∷ []) r.more_calls;
  same = λ more.
      ap (λ c. wrong_behind (lines x) (c ∷ (map told_call rest ++ more))) t.is
      ∙ ap (λ b. cond b (Some (Illegal (length (lines x) + 1) Client))
      (wrong_behind (lines x ++ t.call ∷ []) (map told_call rest ++ more))) t.took.fits
      ∙ ap (λ l. wrong_behind l (map told_call rest ++ more)) (sym t.took.calls) ∙ r.same more;
}

-- the texts that were told
texts_same : (ts us : List (List ℕ)) → map told.Line us ≡ map (message_of 4096) ts → us ≡ ts
texts_same [] [] e = refl
texts_same [] (u ∷ us) e = absurd (none_first e)
  where
    none_first : ◌≡◌ {A = List Message} (told.Line u ∷ map told.Line us) [] → ⊥
    none_first e = cc
texts_same (t ∷ ts) [] e = absurd (none_first e)
  where
    none_first : ◌≡◌ {A = List Message} [] (message_of 4096 t ∷ map (message_of 4096) ts) → ⊥
    none_first e = cc
texts_same (t ∷ ts) (u ∷ us) e =
    let two = parts (told.Line u) (message_of 4096 t) (map told.Line us) (map (message_of 4096) ts) e in
    ap (λ x. x ∷ us) (one (nat_lt 4096 (length t)) two.0) ∙ ap (λ l. t ∷ l) (texts_same ts us two.1)
  where
    parts : (a b : Message) (xs ys : List Message) → a ∷ xs ≡ b ∷ ys → (a ≡ b) × (xs ≡ ys)
    parts a b xs ys e = (cc, cc)

    one : (b : Bool) → told.Line u ≡ cond b told.LongLine (told.Line t) → u ≡ t
    one true e = cc
    one false e = cc

map_both : (xs ys : List Message) → map told_call (xs ++ ys) ≡ map told_call xs ++ map told_call ys
map_both [] ys = refl
map_both (x ∷ xs) ys = ap (λ l. told_call x ∷ l) (map_both xs ys)

wrong_of_first : (x : HistoryText) (lines_are : List Message) (text : List ℕ) (verdict : Verdict) →
    x.history.lines.items ≡ []
    → ((more : List Message) → wrong_behind (lines x) (map told_call (lines_are ++ more)) ≡ Some verdict) →
    AreFirst 4096 lines_are text → first_wrong text ≡ Some verdict
wrong_of_first x lines_are text verdict e h f =
    whole_told text ∙ ap (λ l. wrong_behind l (map told_call (line_messages 4096 text))) (sym (ap calls_of e))
    ∙ ap (λ l. wrong_behind (lines x) (map told_call l)) f.1 ∙ h f.0

go_stop : GoOn ≡ Stop → ⊥
go_stop e = cc

abbrev hears : {O : Type 0} → HistoryText → O → Message → Result Next StreamFault → HistoryText → O → Type 0
hears x o told answer y p = HistoryHearsLine x told answer y

module _ {O : Type 0} where
  taken_told : (x : HistoryText) (o : O) (told_all : List Message) (y : HistoryText) (p : O) → IsHeld x.history →
      ReceivedAll hears x o told_all y p → Taken x (lines_in told_all) y
  taken_told x o [] y p i h = subst (λ z. Taken x [] z) (sym h.0) (taken_none x i)
  taken_told x o (told.Line text ∷ rest) y p i h =
      let t = h.2 i in taken_line x text (lines_in rest) h.0 y t (taken_told h.0 h.1 rest y p t.took.held h.3)
  taken_told x o (told.LongLine ∷ rest) y p i h = absurd (go_stop h.2.0)
  taken_told x o (told.Pause ∷ rest) y p i h =
      subst (λ z. Taken z (lines_in rest) y) h.2.1 (taken_told h.0 h.1 rest y p
      (subst (λ (z : HistoryText). IsHeld z.history) (sym h.2.1) i) h.3)

  -- the input was read to its end
  read_whole : (unread left : Option (List ℕ)) (x : HistoryText) (o : O) (y : HistoryText) (p : O) → IsHeld x.history →
      x.history.lines.items ≡ []
      → HeardAll hears 4096 unread left x o y p → ReadWhole unread left y.history
  read_whole unread left x o y p i e h =
      let t = taken_told x o h.told y p i h.heard in
      let same : t.more_texts ≡ lines_of h.bytes = texts_same (lines_of h.bytes) t.more_texts
      (sym t.told_are ∙ h.lines) in
      record {
        bytes = h.bytes;
        consumed = h.consumed;
        ended = h.ended;
        held = t.held;
        texts = t.texts_are ∙ ap (λ l. texts_of l ++ t.more_texts) e ∙ same;
        right = whole_told h.bytes
            ∙ ap (λ l. wrong_behind [] (map told_call l)) (sym h.lines) ∙ ap (wrong_behind [])
            (sym (append-nil (map told_call (lines_in h.told))))
            ∙ ap (λ (l : List Call). wrong_behind l (map told_call (lines_in h.told) ++ [])) (sym (ap calls_of e)) ∙
            t.same [];
        listed = sym (ap (map line_call) same) ∙ t.listed ∙ ap (map Ok)
            (sym (t.calls_are ∙ ap (λ l. calls_of l ++ t.more_calls) e));
      }

  -- the line that ended the reading is wrong, whatever follows
  stopped : (u : HistoryText) (q : O) (last : Message) (y : HistoryText) (p : O) → IsHeld u.history →
      hears u q last (Ok Stop) y p
      → (verdict : Verdict) × (y.wrong ≡ Some verdict) × ((more : List (Result Call CallFault)) →
      wrong_behind (lines u) (map told_call (lines_in (last ∷ [])) ++ more) ≡ Some verdict)
  stopped u q (told.Line text) y p i h = let s = h i in (s.verdict, s.wrong, s.is)
  stopped u q told.LongLine y p i h = (h.1.verdict, h.1.wrong, h.1.is)
  stopped u q told.Pause y p i h = absurd (go_stop (sym h.0))

  read_stopped : (x : HistoryText) (o : O) (told_all : List Message) (y : HistoryText) (p : O) → IsHeld x.history →
      ReceivedLast hears x o told_all (Ok Stop) y p
      → (verdict : Verdict) × (y.wrong ≡ Some verdict) × ((more : List Message) →
      wrong_behind (lines x) (map told_call (lines_in told_all ++ more)) ≡ Some verdict)
  read_stopped x o told_all y p i h =
      let t = taken_told x o h.before h.sink h.output i h.first in
      let s = stopped h.sink h.output h.last y p t.held h.then in (
        s.0,
        s.1,
        λ more.
            ap (wrong_behind (lines x))
            (map_both (lines_in told_all) more
            ∙ ap (λ l. map told_call (lines_in l) ++ map told_call more) h.all
            ∙ ap (λ l. map told_call l ++ map told_call more) (lines_both h.before (h.last ∷ []))
            ∙ ap (λ l. l ++ map told_call more) (map_both (lines_in h.before) (lines_in (h.last ∷ [])))
            ∙ append_assoc (map told_call (lines_in h.before)) (map told_call (lines_in (h.last ∷ [])))
            (map told_call more))
            ∙ t.same (map told_call (lines_in (h.last ∷ [])) ++ map told_call more) ∙ s.2 (map told_call more),
      )

  -- the reading ended at a line that is wrong
  pub read_wrong : (unread left : Option (List ℕ)) (x : HistoryText) (o : O) (y : HistoryText) (p : O) (next : Next) →
      next ≡ Stop → IsHeld x.history → x.history.lines.items ≡ []
      → Heard hears 4096 (Ok next) unread left x o y p → (verdict : Verdict) × (y.wrong ≡ Some verdict) ×
      ReadWrong unread left verdict
  read_wrong unread left x o y p next n i e g =
      let h : HeardLast hears 4096 (Ok Stop) unread left x o y p =
      subst (λ z. Heard hears 4096 (Ok z) unread left x o y p) n g in
      let s = read_stopped x o h.told y p i h.heard in (
        s.0,
        s.1,
        record {
          bytes = h.bytes;
          consumed = h.consumed;
          is = firsts h.bytes s.0 (lines_in h.told) (λ text
              f. wrong_of_first x (lines_in h.told) text s.0 e s.2 f) h.first;
        },
      )
    where
      firsts : (bytes : List ℕ) (verdict : Verdict) (told_all : List Message) →
          ((text : List ℕ) → AreFirst 4096 told_all text → first_wrong text ≡ Some verdict)
          → AreFirstOf 4096 told_all bytes left → (IsAtEnd left × (first_wrong bytes ≡ Some verdict)) ⊎ ((z : List ℕ) →
          first_wrong (bytes ++ z) ≡ Some verdict)
      firsts bytes verdict told_all w (inl f) = inl (f.0, w bytes f.1)
      firsts bytes verdict told_all w (inr f) = inr (λ z. w (bytes ++ z) (f z))

  pub read_all : (unread left : Option (List ℕ)) (x : HistoryText) (o : O) (y : HistoryText) (p : O) (next : Next) →
      next ≡ GoOn → IsHeld x.history → x.history.lines.items ≡ []
      → Heard hears 4096 (Ok next) unread left x o y p → ReadWhole unread left y.history
  read_all unread left x o y p next n i e g = read_whole unread left x o y p i e
      (subst (λ z. Heard hears 4096 (Ok z) unread left x o y p) n g)
