-- The attempts of a text that are kept until they have their places.
use Rattle.std.specs.Prelude.{◌≡◌, ℕ, ◌+◌, ◌==◌, ◌&&◌, Bool, true, false, not, ◌||◌, is_none, None, Ok, Err, Result, List, [], ◌∷◌, ◌++◌, map, length, reverse, slice_index_or, ◌<◌, take, remove, All, if◌then◌else◌}
use Rattle.std.specs.List.{count_by}
use Rattle.vac_lines.specs.declared.fault.LineFault.{LineFault}
use Rattle.vac_lines.specs.Lines.{lines_of}
use Rattle.judge_object.specs.declared.span.Span.{Span}
use Rattle.judge_object.specs.Order.{itself, overlaps, ended_before}
use Rattle.judge_opacity.specs.declared.finding.Counts.{Counts}
use Rattle.judge_opacity.specs.declared.judge.Judge.{Judge}
use Rattle.judge_opacity.specs.declared.logged.Logged.{Logged}
use Rattle.judge_opacity.specs.declared.log_reading.Log.{Log}
use Rattle.judge_opacity.specs.declared.log_reading.Log.TheVariants.{Attempts, Fault}
use Rattle.judge_opacity.specs.Attempt.{Attempt, line_attempt}
use Rattle.judge_opacity.specs.Parts.{attempt_of, AllAmong}
use Rattle.judge_opacity.specs.Verdict.{violation_of, counts_of}
use Rattle.judge_opacity.specs.Laws.{IsOpaqueOrder, ListsAttempts}
use Rattle.judge_opacity.specs.Judging.{FollowsAttempts}
use Rattle.judge_opacity.specs.Placing.{is_writer, NoWriter, IsPlacement, Completes}

-- the attempt that is kept
abbrev pub logged_attempt : Logged → Attempt
logged_attempt logged = attempt_of logged.head logged.accesses.items

-- the attempts that are kept
abbrev pub attempts_in : List Logged → List Attempt
attempts_in logged = map logged_attempt logged

-- all accesses of the attempts are to one of this many words
abbrev pub AreAmong : ℕ → List Logged → Type 0
AreAmong words left = All (λ logged. AllAmong words logged.accesses.items) left

-- the line is the first of a text that is no attempt at this many words
pub record HasFirstFault (words : ℕ) (bytes : List ℕ) (line : ℕ) (fault : LineFault) : Type 0 where
  pub before : List Attempt
  pub rest : List (Result Attempt LineFault)
  pub listed : map (line_attempt words) (lines_of bytes) ≡ map Ok before ++ Err fault ∷ rest
  pub number : line ≡ length before + 1

-- the log is that of a text
abbrev pub IsLogOf : ℕ → List ℕ → Log → Type 0
IsLogOf words bytes (Attempts attempts) =
    ListsAttempts words bytes (attempts_in attempts.items) × AreAmong words attempts.items
IsLogOf words bytes (Fault line fault) = HasFirstFault words bytes line fault

-- clients and times let a later interval stand behind a first one
abbrev pub spans_follow : Span → Span → Bool
spans_follow first later = not (overlaps itself later first || ended_before itself later first)

-- the attempt has to come before one with this interval
abbrev pub blocks : Span → Logged → Bool
blocks span logged = not (spans_follow span logged.head.span)

-- the number of attempts that have to come before one with this interval
abbrev pub blocked_by : Span → List Logged → ℕ
blocked_by span left = count_by (blocks span) left

-- 1 if an attempt with this interval would count among those that have to come before it
abbrev pub own_block : Span → ℕ
own_block span = if spans_follow span span then 0 else 1

-- the attempt is no committed writer, none of the others has to come before it, and it has no
-- fault behind the earlier attempts
abbrev pub is_free : List Attempt → List Logged → Logged → Bool
is_free earlier left logged =
    not logged.writer && ((blocked_by logged.head.span left == own_block logged.head.span)
    && is_none (violation_of earlier (logged_attempt logged)))

-- the attempt at this position is free
pub record IsFreeAt (earlier : List Attempt) (left : List Logged) (place : ℕ) : Type 0 where
  pub within : place < length left
  pub free : (d : Logged) → is_free earlier left (slice_index_or left place d) ≡ true

-- the attempt at this position is the first committed writer
pub record IsFirstWriter (left : List Logged) (place : ℕ) : Type 0 where
  pub within : place < length left
  pub writes : (d : Logged) → (slice_index_or left place d).writer ≡ true
  pub first : (k : ℕ) (d : Logged) → k < place → (slice_index_or left k d).writer ≡ false

-- the judge has judged the same attempts
pub record IsSameJudge (judge other : Judge) : Type 0 where
  pub words : other.memory.words.items ≡ judge.memory.words.items
  pub spans : other.spans ≡ judge.spans
  pub committed : other.committed ≡ judge.committed

-- the attempt at this position may come next behind the earlier ones, and no order of all that are
-- left is lost by it
pub record MayComeNext (earlier : List Attempt) (left : List Logged) (place : ℕ) : Type 0 where
  pub within : place < length left
  pub fits : (d : Logged) → violation_of earlier
      (logged_attempt (slice_index_or left place d)) ≡ None
  pub writers : (d : Logged) → is_writer (logged_attempt (slice_index_or left place d)) ≡ true →
      NoWriter (attempts_in (take place left))
  pub completes : (d : Logged) → Completes earlier (attempts_in left) →
      Completes (logged_attempt (slice_index_or left place d) ∷ earlier)
      (attempts_in (remove left place))

-- one attempt was placed behind the earlier ones, and no order of all that are left is lost by it
pub record IsNextPlaced (words : ℕ) (judge : Judge) (earlier left after : List Attempt) : Type 0
  where
    pub before : List Attempt
    pub next : Attempt
    pub behind : List Attempt
    pub split : left ≡ before ++ next ∷ behind
    pub rest : after ≡ before ++ behind
    pub writers : is_writer next ≡ true → NoWriter before
    pub fits : violation_of earlier next ≡ None
    pub follows : FollowsAttempts words judge (next ∷ earlier)
    pub completes : Completes earlier left → Completes (next ∷ earlier) after

-- one attempt was placed; or none can be placed, and then no order of those that are left goes on
abbrev pub PlacesNext : ℕ → Judge → List Attempt → List Attempt → List Attempt → Bool → Type 0
PlacesNext words judge earlier left after true = IsNextPlaced words judge earlier left after
PlacesNext words judge earlier left after false = Completes earlier left → left ≡ []

-- the attempts were placed in an order that shows that they are opaque, and these are its counts
pub record IsPlacedAs (attempts : List Attempt) (counts : Counts) : Type 0 where
  pub order : List Attempt
  pub placement : IsPlacement attempts order
  pub opaque : IsOpaqueOrder order
  pub counts_are : counts ≡ counts_of (reverse order)
