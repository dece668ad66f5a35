-- Loads in which the attempts of each client are in turn, and the verdict on their text.
use Rattle.std.specs.Prelude.{◌≡◌, ◌≤◌, ◌||◌, ◌&&◌, ℕ, Bool, false, not, eqb, ltb, List, filter}
use Rattle.std.specs.List.{All, AllPairs}
use Rattle.tx_memory.specs.Image.{In}
use Rattle.tx_alloc.specs.Pool.{heap_words}
use Rattle.vac_model.specs.declared.limits.TheConstants.{MOST_BLOCKS}
use Rattle.vac_manager.specs.Placed.{CommitPosition}
use Rattle.vac_manager.specs.declared.note.TracedAttempt.{TracedAttempt}
use Rattle.stm_object.specs.Places.{rank_of}
use Rattle.load_record.specs.Lines.{AttemptEntry}
use Rattle.load_record.specs.Entries.{AllFit}
use Rattle.load_record.specs.Judged.{JudgedByPrecedence}
use Rattle.load_record.specs.Pages.{Page, attempts_of, calls_on}
use Rattle.load_record.specs.Text.{AreAttempts}
use Rattle.load_record.specs.Loads.{MadeHistory}
use Rattle.load_record.specs.InPlace.{AbortedReadAtTheirPlaces}

-- true if commit position a is before b: by renewal, then by version with the writer of a version
-- before its readers
abbrev pub is_before : CommitPosition → CommitPosition → Bool
is_before a b =
    ltb a.renewal b.renewal || (eqb a.renewal b.renewal && ltb (rank_of a) (rank_of b))

-- these are the attempts on a page: those that committed are the attempts of its completed calls,
-- in the order of the calls, and the others are its aborted attempts, in their order
pub record AreAttemptsOf (page : Page) (attempts : List TracedAttempt) : Type 0 where
  pub committed : filter (λ a. a.commits) attempts ≡ attempts_of page.calls
  pub aborted : filter (λ a. not a.commits) attempts ≡ page.given_up

-- the attempts on this page have an order in which none begins before an earlier one ended, and no
-- commit position is before that of an earlier one
-- Not said: that the client made its attempts in this order.
pub record MadeInTurn (page : Page) : Type 0 where
  pub attempts : List TracedAttempt
  pub own : AreAttemptsOf page attempts
  -- no attempt ends before it begins
  pub times : All (λ a. a.begin ≤ a.end) attempts
  -- each attempt begins no earlier than all attempts before it ended
  pub turns : AllPairs (λ earlier later. earlier.end ≤ later.begin) attempts
  -- the commit position of no attempt is before that of an earlier attempt
  pub positions : AllPairs (λ earlier later. is_before later.place earlier.place ≡ false) attempts

-- the attempts on each of these pages have such an order
abbrev pub EachMadeInTurn : List Page → Type 0
EachMadeInTurn pages = (page : Page) → In page pages → MadeInTurn page

-- the judge calls the text of a load's attempts opaque, at as many words as the heap has, if and
-- only if each attempt that had ended before another began comes before that other attempt
abbrev pub LoadJudgedByPrecedence : ℕ → List AttemptEntry → Type 0
LoadJudgedByPrecedence blocks all = JudgedByPrecedence (heap_words blocks) all

-- if the completed calls of a load made a history, each aborted attempt reads the image of its
-- version in this history, the attempts of each client have an order that is in turn, and the judge
-- can read the attempts at the words of the heap, then their text is judged by precedence alone
-- Not said: that the attempts of a load have such orders. The program's contract says it of the
-- loads that it writes.
-- Not said: that the order keeps precedence. The clock readings of two clients do not show which
-- of them read first.
abbrev pub LoadsAreJudgedByPrecedence : Type 0
LoadsAreJudgedByPrecedence = (blocks : ℕ) (pages : List Page) (all : List AttemptEntry) →
    blocks ≤ MOST_BLOCKS → AreAttempts blocks pages all → AllFit (heap_words blocks) all →
    (made : MadeHistory blocks (calls_on pages)) →
    AbortedReadAtTheirPlaces made.image made.history pages → EachMadeInTurn pages →
    LoadJudgedByPrecedence blocks all
