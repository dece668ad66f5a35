-- What a text of attempts that was told line by line says of the verdict on it.
use Rattle.std.proofs.Common.{◌≡◌, ℕ, true, false, cond, List, [], ◌∷◌, ◌++◌, length, map, refl, ap, sym, ◌∙◌, inl, inr}
use Rattle.std.proofs.Common.{append-nil, append_assoc, subst, Option, Some, None, IfSome, nat_lt, Result, Ok, Err}
use Rattle.std.proofs.lemmas.List.{map-append}
use Rattle.std.specs.Io.KnownBytes.{Consumes}
use Rattle.std.proofs.KnownBytes.{Consumes-whole}
use Rattle.vac_lines.specs.declared.fault.LineFault.{LineFault}
use Rattle.vac_lines.specs.declared.fault.LineFault.TheVariants as fault
use Rattle.vac_lines.specs.Lines.{lines_of}
use Rattle.vac_lines.specs.declared.stream_fault.StreamFault.{StreamFault}
use Rattle.vac_lines.specs.declared.next.Next.{Next}
use Rattle.vac_lines.specs.declared.next.Next.TheVariants.{GoOn, Stop}
use Rattle.vac_lines.specs.Told.{Message, Line, LongLine, Pause, message_of, line_messages, lines_in}
use Rattle.vac_lines.specs.Heard.{ReceivedAll, ReceivedLast, AreFirst, AreFirstOf, HeardAll, HeardLast, Heard}
use Rattle.vac_lines.proofs.Telling.{lines_both}
use Rattle.judge_opacity.specs.declared.finding.Counts.{Counts}
use Rattle.judge_opacity.specs.declared.finding.Finding.{Finding}
use Rattle.judge_opacity.specs.declared.finding.Finding.TheVariants.{Opaque}
use Rattle.judge_opacity.specs.declared.reading.Attempts.{Attempts}
use Rattle.judge_opacity.specs.Attempt.{Attempt, text_attempt, line_attempt}
use Rattle.judge_opacity.specs.Verdict.{counts_of, judged_attempts, finding_on}
use Rattle.judge_opacity.specs.Judging.{FollowsAttempts, TakesAttempt}
use Rattle.judge_opacity.specs.Hearing.{told_attempt, AttemptsHear}
use Rattle.judge_opacity.specs.Reading.{HasFinding}

-- a line that was told
abbrev read : ℕ → Message → Result Attempt LineFault
read words told = told_attempt told words

line_is : (words : ℕ) (line : List ℕ) → read words (message_of 67108864 line) ≡ line_attempt words line
line_is words line = elim (nat_lt 67108864 (length line)) as (λ b. read words (cond b LongLine (Line line)) ≡ cond b
    (Err fault.LongLine) (text_attempt words line)) [ true ↦ refl | false ↦ refl ]

lines_are : (words : ℕ) (lines : List (List ℕ)) → map (read words) (map (message_of 67108864) lines) ≡ map
    (line_attempt words) lines
lines_are words [] = refl
lines_are words (line ∷ more) = ap (λ r. r ∷ map (read words) (map (message_of 67108864) more)) (line_is words line) ∙
    ap (λ t. line_attempt words line ∷ t) (lines_are words more)

-- the verdict on a text is that on what is told of it
finding_is : (words : ℕ) (bytes : List ℕ) → finding_on words bytes ≡ judged_attempts []
    (map (read words) (line_messages 67108864 bytes))
finding_is words bytes = ap (judged_attempts []) (sym (lines_are words (lines_of bytes)))

-- these were taken: whatever follows, the verdict is the same
abbrev Taken : ℕ → Attempts → List Attempt → List Message → Attempts → Type 0
Taken words x earlier lines y = (attempts : List Attempt) × FollowsAttempts words y.judge attempts
    × ((more : List (Result Attempt LineFault)) → judged_attempts earlier
    (map (read words) lines ++ more) ≡ judged_attempts attempts more)

taken_line : (words : ℕ) (x u y : Attempts) (earlier : List Attempt) (told : Message) (lines : List Message) →
    TakesAttempt x.judge u.judge (told_attempt told) → FollowsAttempts words x.judge earlier
    → ((attempts : List Attempt) → FollowsAttempts words u.judge attempts → Taken words u attempts lines y) →
    Taken words x earlier (told ∷ lines) y
taken_line words x u y earlier told lines t f next =
    let one = t.on words earlier f in
    let rest = next one.0 one.1 in
    (rest.0, rest.1, λ more. one.2 (map (read words) lines ++ more) ∙ rest.2 more)

go_stop : Stop ≡ GoOn → ⊥
go_stop e = cc

same_found : (a b : Finding) → Some a ≡ Some b → a ≡ b
same_found a b e = cc

-- the last line that was told brought the verdict, whatever follows
stopped : (words : ℕ) (u : Attempts) (last : Message) (y : Attempts) (finding : Finding) (earlier : List Attempt)
    (more : List (Result Attempt LineFault)) → AttemptsHear u last (Ok Stop) y
    → y.found ≡ Some finding → FollowsAttempts words u.judge earlier →
    judged_attempts earlier (map (read words) (lines_in (last ∷ [])) ++ more) ≡ finding
stopped words u (Line text) y finding earlier more h e f = h.ends.on words earlier f more ∙ same_found h.finding finding
    (sym h.found ∙ e)
stopped words u LongLine y finding earlier more h e f = h.ends.on words earlier f more ∙ same_found h.finding finding
    (sym h.found ∙ e)
stopped words u Pause y finding earlier more h e f = absurd (go_stop h.0)

-- of the whole input
of_whole : (words : ℕ) (unread left : Option (List ℕ)) (bytes : List ℕ) (finding : Finding) →
    Consumes unread left bytes → ((x : List ℕ) → finding_on words (bytes ++ x) ≡ finding)
    → IfSome unread (λ input. finding_on words input ≡ finding)
of_whole words None left bytes finding c h = tt
of_whole words (Some xs) None bytes finding c h = absurd c
of_whole words (Some xs) (Some ys) bytes finding c h = ap (finding_on words) c ∙ h ys

module _ {O : Type 0} where
  abbrev hears : Attempts → O → Message → Result Next StreamFault → Attempts → O → Type 0
  hears x o told answer y p = AttemptsHear x told answer y

  taken_told : (x : Attempts) (o : O) (told : List Message) (y : Attempts) (p : O) → ReceivedAll hears x o told y p →
      (words : ℕ) (earlier : List Attempt) → FollowsAttempts words x.judge earlier
      → Taken words x earlier (lines_in told) y
  taken_told x o [] y p h words earlier f = (
    earlier,
    subst (λ (z : Attempts). FollowsAttempts words z.judge earlier)
        (sym h.0) f,
    λ more. refl,
  )
  taken_told x o (Line text ∷ told) y p h words earlier f =
      taken_line words x h.0 y earlier (Line text) (lines_in told) h.2 f
      (λ attempts g. taken_told h.0 h.1 told y p h.3 words attempts g)
  taken_told x o (LongLine ∷ told) y p h words earlier f =
      taken_line words x h.0 y earlier LongLine (lines_in told) h.2 f
      (λ attempts g. taken_told h.0 h.1 told y p h.3 words attempts g)
  taken_told x o (Pause ∷ told) y p h words earlier f =
      taken_told h.0 h.1 told y p h.3 words earlier (subst (λ (z : Attempts). FollowsAttempts words z.judge earlier)
      (sym h.2.1) f)

  -- the input was read to its end
  heard_all : (words : ℕ) (unread left : Option (List ℕ)) (x : Attempts) (o : O) (y : Attempts) (p : O)
      (counts : Counts) → FollowsAttempts words x.judge []
      → HeardAll hears 67108864 unread left x o y p → ((w : ℕ) (earlier : List Attempt) →
      FollowsAttempts w y.judge earlier →
      counts ≡ counts_of earlier)
      → HasFinding words unread left (Opaque counts)
  heard_all words unread left x o y p counts f h sums =
      let t = taken_told x o h.told y p h.heard words [] f in
      let same : finding_on words h.bytes ≡ Opaque counts =
      finding_is words h.bytes ∙ ap (λ l. judged_attempts [] (map (read words) l)) (sym h.lines) ∙
      ap (judged_attempts []) (sym (append-nil (map (read words) (lines_in h.told))))
      ∙ t.2 [] ∙ ap Opaque (sym (sums words t.0 t.1)) in
      record {
        bytes = h.bytes;
        consumed = h.consumed;
        of_read = inl (h.ended, same);
        of_input = Consumes-whole unread left h.bytes (λ input. finding_on words input ≡ Opaque counts) h.consumed
            h.ended same;
      }

  of_told : (words : ℕ) (x : Attempts) (o : O) (told : List Message) (y : Attempts) (p : O) (finding : Finding)
      (more : List Message) → FollowsAttempts words x.judge []
      → ReceivedLast hears x o told (Ok Stop) y p → y.found ≡ Some finding →
      judged_attempts [] (map (read words) (lines_in told ++ more)) ≡ finding
  of_told words x o told y p finding more f h e =
      let t = taken_told x o h.before h.sink h.output h.first words [] f in
      let lines : map (read words) (lines_in told ++ more) ≡ map (read words) (lines_in h.before) ++
      (map (read words) (lines_in (h.last ∷ [])) ++ map (read words) more) =
      map-append (read words) (lines_in told) more
      ∙ ap (λ l. map (read words) l ++ map (read words) more) (ap lines_in h.all ∙ lines_both h.before (h.last ∷ []))
      ∙ ap (λ l. l ++ map (read words) more) (map-append (read words) (lines_in h.before) (lines_in (h.last ∷ [])))
      ∙ append_assoc (map (read words) (lines_in h.before)) (map (read words) (lines_in (h.last ∷ [])))
      (map (read words) more) in
      ap (judged_attempts []) lines ∙ t.2 (map (read words) (lines_in (h.last ∷ [])) ++ map (read words) more)
      ∙ stopped words h.sink h.last y finding t.0 (map (read words) more) h.then e t.1

  of_first : (words : ℕ) (x : Attempts) (o : O) (told : List Message) (y : Attempts) (p : O) (finding : Finding)
      (text : List ℕ) → FollowsAttempts words x.judge []
      → ReceivedLast hears x o told (Ok Stop) y p → y.found ≡ Some finding → AreFirst 67108864 (lines_in told) text →
      finding_on words text ≡ finding
  of_first words x o told y p finding text f h e first =
      finding_is words text ∙ ap (λ l. judged_attempts [] (map (read words) l)) first.1 ∙
      of_told words x o told y p finding first.0 f h e

  by_first : (words : ℕ) (unread left : Option (List ℕ)) (x : Attempts) (o : O) (told : List Message) (y : Attempts)
      (p : O) (finding : Finding) (bytes : List ℕ) → FollowsAttempts words x.judge []
      → ReceivedLast hears x o told (Ok Stop) y p → y.found ≡ Some finding → Consumes unread left bytes →
      AreFirstOf 67108864 (lines_in told) bytes left → HasFinding words unread left finding
  by_first words unread left x o told y p finding bytes f h e c (inl first) =
      let same = of_first words x o told y p finding bytes f h e first.1 in
      record {
        bytes = bytes;
        consumed = c;
        of_read = inl (first.0, same);
        of_input = Consumes-whole unread left bytes (λ input. finding_on words input ≡ finding) c first.0 same;
      }
  by_first words unread left x o told y p finding bytes f h e c (inr first) =
      let same : (z : List ℕ) → finding_on words (bytes ++ z) ≡ finding =
      λ z. of_first words x o told y p finding (bytes ++ z) f h e (first z) in
      record {
        bytes = bytes;
        consumed = c;
        of_read = inr same;
        of_input = of_whole words unread left bytes finding c same;
      }

  -- what was read, by what the reading answered
  pub opaque_heard : (next : Next) (words : ℕ) (unread left : Option (List ℕ)) (x : Attempts) (o : O) (y : Attempts)
      (p : O) (counts : Counts) → next ≡ GoOn → FollowsAttempts words x.judge []
      → Heard hears 67108864 (Ok next) unread left x o y p → ((w : ℕ) (earlier : List Attempt) →
      FollowsAttempts w y.judge earlier → counts ≡ counts_of earlier)
      → HasFinding words unread left (Opaque counts)
  opaque_heard next words unread left x o y p counts e f h sums =
      heard_all words unread left x o y p counts f (subst (λ z. Heard hears 67108864 (Ok z) unread left x o y p) e h)
      sums

  pub finding_heard : (next : Next) (words : ℕ) (unread left : Option (List ℕ)) (x : Attempts) (o : O) (y : Attempts)
      (p : O) (finding : Finding) → next ≡ Stop → FollowsAttempts words x.judge []
      → Heard hears 67108864 (Ok next) unread left x o y p → y.found ≡ Some finding →
      HasFinding words unread left finding
  finding_heard next words unread left x o y p finding e f h found =
      let last : HeardLast hears 67108864 (Ok Stop) unread left x o y p =
      subst (λ z. Heard hears 67108864 (Ok z) unread left x o y p) e h in
      by_first words unread left x o last.told y p finding last.bytes f last.heard found last.consumed last.first
