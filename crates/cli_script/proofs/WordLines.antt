-- How a text is read as the words of a memory, line by line.
use Rattle.std.proofs.Common.{◌≡◌, ◌⊎◌, ℕ, ◌<◌, ◌≤◌, true, false, List, [], ◌∷◌, ◌++◌, length, map, refl, ap, sym, ◌∙◌}
use Rattle.std.proofs.Common.{inl, inr, arith, append-nil, append_assoc, length-append, subst, Option, Some, None}
use Rattle.std.proofs.Common.{option_map, nat_le, nat_lt, lt-ltb, Result, Ok}
use Rattle.std.proofs.lemmas.Bool.{cases_lt}
use Rattle.std.proofs.lemmas.Iterator.Adapters.{option_map_id}
use Rattle.std.specs.Io.KnownBytes.{IsAtEnd}
use Rattle.vac_lines.specs.Lines.{lines_of}
use Rattle.vac_lines.specs.Words.{memory_word_of}
use Rattle.vac_lines.specs.Memory.{word_in_front, words_of_lines, memory_words}
use Rattle.vac_audit.specs.declared.audit.TheConstants.{MOST_HEAP_WORDS}
use Rattle.vac_lines.specs.declared.stream_fault.StreamFault.{StreamFault}
use Rattle.vac_lines.specs.declared.next.Next.{Next}
use Rattle.vac_lines.specs.declared.next.Next.TheVariants.{GoOn, Stop}
use Rattle.vac_lines.specs.Told.{Message, Line, LongLine, Pause, message_of, line_messages, lines_in}
use Rattle.vac_lines.specs.Heard.{ReceivedAll, ReceivedLast, AreFirst, AreFirstOf, HeardAll, HeardLast, Heard}
use Rattle.vac_lines.proofs.Telling.{lines_both}
use Rattle.cli_script.specs.Reading.{NoneOrMany, TookWord, RefusedLine, HearsWord, ReadWords, ReadNone}

-- the word of a line that was told
abbrev word_told : Message → Option ℕ
word_told (Line line) = memory_word_of line
word_told LongLine = None
word_told Pause = None

-- the words of these, where each is one
all_words : List (Option ℕ) → Option (List ℕ)
all_words [] = Some []
all_words (word ∷ more) = word_in_front word (all_words more)

-- a line that is too long is no word
long_word : (line : List ℕ) → 1024 < length line → memory_word_of line ≡ None
long_word line h =
    let some : nat_le 1 (length line) ≡ true = grind (arith) in
    let many : nat_le (length line) 20 ≡ false = grind (arith) in
    rw (some, many) refl

one_word : (line : List ℕ) → memory_word_of line ≡ word_told (message_of 1024 line)
one_word line =
    elim (cases_lt 1024 (length line)) [
      | inl h ↦ long_word line h ∙ (rw (lt-ltb 1024 (length line) h) refl)
      | inr h ↦ let short : nat_lt 1024 (length line) ≡ false = grind (arith) in rw short refl
    ]

words_told : (lines : List (List ℕ)) → words_of_lines lines ≡ all_words (map word_told (map (message_of 1024) lines))
unfolding all_words
words_told [] = refl
words_told (line ∷ more) = ap (λ w. word_in_front w (words_of_lines more)) (one_word line)
    ∙ ap (word_in_front (word_told (message_of 1024 line))) (words_told more)

-- the words of what was told
abbrev words_in : List Message → Option (List ℕ)
words_in told = all_words (map word_told told)

-- these words, and behind them those of what was told
abbrev behind : List ℕ → List Message → Option (List ℕ)
behind words told = option_map (λ more. words ++ more) (words_in told)

some_none : (word : ℕ) → Some word ≡ None → ⊥
some_none word e = cc

-- a word between others
between : (words words' : List ℕ) (word : ℕ) (more : Option (List ℕ)) → words' ≡ words ++ word ∷ []
    → option_map (λ m. words ++ m) (word_in_front (Some word) more) ≡ option_map (λ m. words' ++ m) more
between words words' word None e = refl
between words words' word (Some more) e = ap Some (sym (append_assoc words (word ∷ []) more)
    ∙ ap (λ t. t ++ more) (sym e))

-- a line that is no word, or one too many
refused : (words : List ℕ) (word : Option ℕ) (more : Option (List ℕ))
    → (word ≡ None) ⊎ (MOST_HEAP_WORDS ≤ length words)
    → NoneOrMany (option_map (λ m. words ++ m) (word_in_front word more))
refused words None more h = tt
refused words (Some word) None h = tt
refused words (Some word) (Some more) (inl e) = absurd (some_none word e)
refused words (Some word) (Some more) (inr h) = omega (arith, h, length-append words (word ∷ more))

-- one more word was taken
behind_line : (words words' : List ℕ) (line : List ℕ) (more : List Message) → TookWord words words' line
    → behind words (Line line ∷ more) ≡ behind words' more
unfolding all_words
behind_line words words' line more t = ap (λ w. option_map (λ m. words ++ m) (word_in_front w (words_in more))) t.is
    ∙ between words words' t.word (words_in more) t.more

-- a line was refused
refused_line : (words : List ℕ) (line : List ℕ) (more : List Message) → RefusedLine words line
    → NoneOrMany (behind words (Line line ∷ more))
unfolding all_words
refused_line words line more h = refused words (memory_word_of line) (words_in more) h

refused_long : (words : List ℕ) (more : List Message) → NoneOrMany (behind words (LongLine ∷ more))
unfolding all_words
refused_long words more = tt

go_stop : GoOn ≡ Stop → ⊥
go_stop e = cc

-- the words of a whole text
whole_words : (text : List ℕ) → memory_words text ≡ behind [] (line_messages 1024 text)
whole_words text = words_told (lines_of text) ∙ sym (option_map_id (words_in (line_messages 1024 text)))

none_behind : (w : List ℕ) → behind w [] ≡ Some w
unfolding all_words
none_behind w = ap Some (append-nil w)

module _ {S : Type 0} (words : S → List ℕ) where
  -- these were taken: whatever follows, the words are the same
  record Taken (x : S) (lines : List Message) (y : S) : Type 0 where
    pub same : (more : List Message) → behind (words x) (lines ++ more) ≡ behind (words y) more
    pub few : length (words x) ≤ MOST_HEAP_WORDS → length (words y) ≤ MOST_HEAP_WORDS

  taken_line : (x : S) (line : List ℕ) (lines : List Message) (u y : S) → TookWord (words x) (words u) line
      → Taken u lines y → Taken x (Line line ∷ lines) y
  taken_line x line lines u y t r = record {
    same = λ more. behind_line (words x) (words u) line (lines ++ more) t ∙ r.same more;
    few = λ h. r.few t.few;
  }

  taken_pause : (x : S) (lines : List Message) (u y : S) → words u ≡ words x → Taken u lines y → Taken x lines y
  taken_pause x lines u y e r = record {
    same = λ more. ap (λ w. behind w (lines ++ more)) (sym e) ∙ r.same more;
    few = λ h. r.few (subst (λ w. length w ≤ MOST_HEAP_WORDS) (sym e) h);
  }

module _ {S O : Type 0} (words : S → List ℕ) where
  abbrev hears : S → O → Message → Result Next StreamFault → S → O → Type 0
  hears x o told answer y p = HearsWord (words x) told answer (words y)

  taken_told : (x : S) (o : O) (told : List Message) (y : S) (p : O) → ReceivedAll hears x o told y p
      → Taken words x (lines_in told) y
  taken_told x o [] y p h = subst (λ z. Taken words x [] z) (sym h.0) (record { same = λ more. refl; few = λ f. f })
  taken_told x o (Line line ∷ told) y p h = taken_line words x line (lines_in told) h.0 y h.2
      (taken_told h.0 h.1 told y p h.3)
  taken_told x o (LongLine ∷ told) y p h = absurd (go_stop h.2)
  taken_told x o (Pause ∷ told) y p h = taken_pause words x (lines_in told) h.0 y h.2.1
      (taken_told h.0 h.1 told y p h.3)

  -- the input was read to its end
  pub read_words : (unread left : Option (List ℕ)) (x : S) (o : O) (y : S) (p : O) → words x ≡ []
      → HeardAll hears 1024 unread left x o y p → ReadWords unread left (words y)
  read_words unread left x o y p e h =
      let t = taken_told x o h.told y p h.heard in
      record {
        bytes = h.bytes;
        consumed = h.consumed;
        ended = h.ended;
        words_are = whole_words h.bytes ∙ ap (λ w. behind w (line_messages 1024 h.bytes)) (sym e)
            ∙ ap (behind (words x)) (sym h.lines ∙ sym (append-nil (lines_in h.told))) ∙ t.same []
            ∙ none_behind (words y);
        few = t.few (omega (arith, ap length e));
      }

  -- the last line that was told is refused, whatever follows
  stopped : (u : S) (q : O) (last : Message) (y : S) (p : O) (more : List Message) → hears u q last (Ok Stop) y p
      → NoneOrMany (behind (words u) (lines_in (last ∷ []) ++ more))
  stopped u q (Line line) y p more h = refused_line (words u) line more h
  stopped u q LongLine y p more h = refused_long (words u) more
  stopped u q Pause y p more h = absurd (go_stop (sym h.0))

  no_words : (x : S) (o : O) (told : List Message) (y : S) (p : O) (more : List Message)
      → ReceivedLast hears x o told (Ok Stop) y p → NoneOrMany (behind (words x) (lines_in told ++ more))
  no_words x o told y p more h =
      let t = taken_told x o h.before h.sink h.output h.first in
      let lines : lines_in told ++ more ≡ lines_in h.before ++ (lines_in (h.last ∷ []) ++ more) =
      ap (λ l. lines_in l ++ more) h.all ∙ ap (λ l. l ++ more) (lines_both h.before (h.last ∷ []))
      ∙ append_assoc (lines_in h.before) (lines_in (h.last ∷ [])) more in
      subst NoneOrMany (sym (ap (behind (words x)) lines ∙ t.same (lines_in (h.last ∷ []) ++ more)))
      (stopped h.sink h.output h.last y p more h.then)

  none_of : (x : S) (o : O) (told : List Message) (y : S) (p : O) (text : List ℕ) → words x ≡ []
      → ReceivedLast hears x o told (Ok Stop) y p → AreFirst 1024 (lines_in told) text → NoneOrMany (memory_words text)
  none_of x o told y p text e h f =
      subst NoneOrMany (sym (whole_words text ∙ ap (λ w. behind w (line_messages 1024 text)) (sym e)
      ∙ ap (behind (words x)) f.1)) (no_words x o told y p f.0 h)

  none_of_first : (x : S) (o : O) (told : List Message) (y : S) (p : O) (bytes : List ℕ) (left : Option (List ℕ))
      → words x ≡ [] → ReceivedLast hears x o told (Ok Stop) y p → AreFirstOf 1024 (lines_in told) bytes left
      → (IsAtEnd left × NoneOrMany (memory_words bytes)) ⊎ ((x : List ℕ) → NoneOrMany (memory_words (bytes ++ x)))
  none_of_first x o told y p bytes left e h (inl f) = inl (f.0, none_of x o told y p bytes e h f.1)
  none_of_first x o told y p bytes left e h (inr f) = inr (λ z. none_of x o told y p (bytes ++ z) e h (f z))

  -- the reading ended at a line that is refused
  pub read_none : (unread left : Option (List ℕ)) (x : S) (o : O) (y : S) (p : O) → words x ≡ []
      → HeardLast hears 1024 (Ok Stop) unread left x o y p → ReadNone unread left
  read_none unread left x o y p e h = record {
    bytes = h.bytes;
    consumed = h.consumed;
    none = none_of_first x o h.told
        y p h.bytes left e h.heard h.first;
  }

  -- what was read, by what the reading answered
  pub words_heard : (next : Next) (unread left : Option (List ℕ)) (x : S) (o : O) (y : S) (p : O) → next ≡ GoOn
      → words x ≡ [] → Heard hears 1024 (Ok next) unread left x o y p → ReadWords unread left (words y)
  words_heard next unread left x o y p e n h = read_words unread left x o y p n
      (subst (λ z. Heard hears 1024 (Ok z) unread left x o y p) e h)

  pub none_heard : (next : Next) (unread left : Option (List ℕ)) (x : S) (o : O) (y : S) (p : O) → next ≡ Stop
      → words x ≡ [] → Heard hears 1024 (Ok next) unread left x o y p → ReadNone unread left
  none_heard next unread left x o y p e n h = read_none unread left x o y p n
      (subst (λ z. Heard hears 1024 (Ok z) unread left x o y p) e h)
