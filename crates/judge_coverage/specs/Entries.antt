-- The entries of a log. The line of a call begins with CLIENT BEGIN END and the line of its task,
-- the line of an attempt with CLIENT BEGIN END and commit or abort.
use Rattle.std.specs.Prelude.{ℕ, ◌==◌, Bool, true, false, Option, Some, None, List, ◌∷◌, filter_map, codes, if◌then◌else◌}
use Rattle.std.specs.List.{list_any}
use Rattle.std.specs.Str.{bytes_eq}
use Rattle.vac_lines.specs.Lines.{words_of}
use Rattle.vac_lines.specs.Words.{is_dash, memory_word_of}
use Rattle.vac_lines.specs.Told.{Message, Line, LongLine, Pause, line_messages}
use Rattle.judge_object.specs.declared.span.Span.{Span}
use Rattle.judge_object.specs.declared.span.TheConstants.{NEVER}
use Rattle.vac_lines.specs.Client.{client_number}
use Rattle.judge_coverage.specs.declared.attempts.Outcome.{Outcome}
use Rattle.judge_coverage.specs.declared.entries.Head.{Head}

-- the first four words of a line
pub record HeadTexts : Type 0 where
  pub client : List ℕ
  pub begin : List ℕ
  pub end : List ℕ
  pub next : List ℕ

-- the texts that the code has cut off a line
abbrev pub shown_head : Head → HeadTexts
shown_head head = record {
  client = head.client.now;
  begin = head.begin.now;
  end = head.end.now;
  next = head.next.now;
}

-- the first four of the words of a line, if there are so many
abbrev pub head_of : List (List ℕ) → Option HeadTexts
head_of (client ∷ begin ∷ end ∷ next ∷ more) =
    Some (record { client = client; begin = begin; end = end; next = next })
head_of _ = None

infixl 10 ◌>>=◌
-- continues with the value of a reading step; a step without a value ends the reading
abbrev pub ◌>>=◌ : {A B : Type 0} → Option A → (A → Option B) → Option B
(Some x) >>= f = f x
None >>= f = None

-- END: a reading of the clock; a dash marks a call that never ended
abbrev pub end_of : List ℕ → Option ℕ
end_of word = if is_dash word then Some NEVER else memory_word_of word

-- the interval that the first words of a line write
abbrev pub interval_of : HeadTexts → Option Span
interval_of head = do
  client ← client_number head.client
  begin ← memory_word_of head.begin
  end ← end_of head.end
  Some (record { client = client; begin = begin; end = end })

-- true if an attempt wrote a word: only the kind of a write has the letter w (119)
abbrev pub has_write : List ℕ → Bool
has_write line = list_any (λ byte. byte == 119) line

-- the outcome of an attempt, from the word behind its interval and from its line
abbrev pub outcome_of : List ℕ → List ℕ → Option Outcome
outcome_of word line =
    if bytes_eq word (codes "commit")
    then Some (record { commits = true; writes = has_write line })
    else if bytes_eq word (codes "abort")
    then Some (record { commits = false; writes = has_write line })
    else None

-- the client and the interval of a line, or none if the line is no entry
abbrev pub line_interval : List ℕ → Option Span
line_interval line = head_of (words_of line) >>= interval_of

-- the outcome of the line of an attempt, or none for another line
abbrev pub line_outcome : List ℕ → Option Outcome
line_outcome line = head_of (words_of line) >>= λ head. outcome_of head.next line

-- the interval of a message about a line; a line that is too long has none
abbrev pub told_interval : Message → Option Span
told_interval (Line text) = line_interval text
told_interval LongLine = None
told_interval Pause = None

-- the outcome of a message about a line; a line that is too long has none
abbrev pub told_outcome : Message → Option Outcome
told_outcome (Line text) = line_outcome text
told_outcome LongLine = None
told_outcome Pause = None

-- the intervals of the lines of a log that are at most so long, in their order
abbrev pub intervals_in : ℕ → List ℕ → List Span
intervals_in longest bytes = filter_map told_interval (line_messages longest bytes)

-- the outcomes of the lines of a log that are at most so long, in their order
abbrev pub outcomes_in : ℕ → List ℕ → List Outcome
outcomes_in longest bytes = filter_map told_outcome (line_messages longest bytes)
