-- The attempts of a load's text, as the judge of opacity reads them.
use Rattle.std.specs.Prelude.{◌≤◌, ◌<◌, ◌+◌, ◌^◌, ◌&&◌, nat_le, nat_lt, ℕ, Bool, All, List, map, length}
use Rattle.std.specs.List.{list_all}
use Rattle.tx_memory.specs.declared.access.Access.{Access as MadeAccess}
use Rattle.tx_memory.specs.declared.access.Access.TheVariants as made
use Rattle.judge_object.specs.declared.span.Span.{Span}
use Rattle.vac_lines.specs.declared.client.TheConstants.{MOST_CLIENT}
use Rattle.judge_opacity.specs.declared.attempt.Access.{Access}
use Rattle.judge_opacity.specs.declared.attempt.Access.TheVariants.{Read, Write}
use Rattle.judge_opacity.specs.declared.attempt.TheConstants.{ATTEMPT_BYTES}
use Rattle.judge_opacity.specs.declared.memory.TheConstants.{MOST_WORDS}
use Rattle.judge_opacity.specs.Attempt.{Attempt}
use Rattle.vac_manager.specs.declared.note.TracedAttempt.{TracedAttempt}
use Rattle.load_record.specs.declared.fitting.TheConstants.{FITTING_ACCESSES}
use Rattle.load_record.specs.Lines.{AttemptEntry, line_text}

-- the access as the judge reads it: the number of a word is its address
abbrev pub access_of : MadeAccess → Access
access_of (made.Read addr value) = Read addr.0 value
access_of (made.Write addr value) = Write addr.0 value

-- the client and the interval of an entry's attempt
abbrev pub span_of_entry : AttemptEntry → Span
span_of_entry e =
    record { client = e.client; begin = e.attempt.begin; end = e.attempt.end }

-- the attempt of an entry as the judge reads it
abbrev pub attempt_of : AttemptEntry → Attempt
attempt_of e = record {
  span = span_of_entry e;
  commits = e.attempt.commits;
  accesses = map access_of e.attempt.accesses.items;
}

-- a value at an address: the address is that of one of the words, and the numbers fit their types
pub record FitsWord (words address value : ℕ) : Type 0 where
  pub address_fits : address < 2 ^ 32
  pub among : address < words
  pub value_fits : value < 2 ^ 64

-- the access is at one of the words, and its numbers fit their types
abbrev pub FitsAccess : ℕ → MadeAccess → Type 0
FitsAccess words (made.Read addr value) = FitsWord words addr.0 value
FitsAccess words (made.Write addr value) = FitsWord words addr.0 value

-- the numbers of the entry fit their types, and each access is at one of the words
pub record HasNumbers (words : ℕ) (e : AttemptEntry) : Type 0 where
  pub client : e.client ≤ MOST_CLIENT
  pub begin : e.attempt.begin < 2 ^ 64
  pub end : e.attempt.end < 2 ^ 64
  pub accesses : All (λ access. FitsAccess words access) e.attempt.accesses.items

-- the judge can read the line of the entry at this many words: its numbers fit, and the line,
-- without its line end, is no longer than a line of attempts may be
pub record Fits (words : ℕ) (e : AttemptEntry) : Type 0 where
  pub numbers : HasNumbers words e
  pub line : length (line_text e) ≤ ATTEMPT_BYTES + 1

-- the entries fit
abbrev pub AllFit : ℕ → List AttemptEntry → Type 0
AllFit words entries = All (λ e. Fits words e) entries

-- an entry whose numbers fit, at no more words than the judge takes, fits if it has at most
-- 2,164,800 accesses
abbrev pub FewAccessesFit : Type 0
FewAccessesFit = (words : ℕ) (e : AttemptEntry) → words ≤ MOST_WORDS → HasNumbers words e →
    length e.attempt.accesses.items ≤ FITTING_ACCESSES → Fits words e

-- the access is at one of the words
abbrev pub is_at_word : ℕ → MadeAccess → Bool
is_at_word words (made.Read addr value) = nat_lt addr.0 words
is_at_word words (made.Write addr value) = nat_lt addr.0 words

-- the attempt has at most 2,164,800 accesses, each at one of the words
abbrev pub is_short : ℕ → TracedAttempt → Bool
is_short words a =
    nat_le (length a.accesses.items) FITTING_ACCESSES
    && list_all (λ access. is_at_word words access) a.accesses.items

-- the attempts of the entries have at most 2,164,800 accesses each, all of them at these words
abbrev pub are_short : ℕ → List AttemptEntry → Bool
are_short words entries = list_all (λ e. is_short words e.attempt) entries
