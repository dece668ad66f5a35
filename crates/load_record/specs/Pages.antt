-- The recorded attempts of a client.
use Rattle.std.specs.Prelude.{ℕ, suc, Bool, List, [], ◌∷◌, ◌++◌, map, flat_map, Option, Some, None}
use Rattle.std.specs.Prelude.{◌&&◌}
use Rattle.std.specs.List.{list_all}
use Rattle.std.specs.Global.{Box}
use Rattle.vac_manager.specs.declared.note.CompletedCall.{CompletedCall}
use Rattle.vac_manager.specs.declared.note.TracedAttempt.{TracedAttempt}
use Rattle.load_record.specs.declared.ledger.AttemptRecorder.{AttemptRecorder}
use Rattle.load_record.specs.Noted.{all_noted, none_committed}
use Rattle.load_record.specs.Lines.{AttemptEntry}

-- the completed calls of a client, and its aborted attempts
pub record Page : Type 0 where
  pub calls : List CompletedCall
  pub given_up : List TracedAttempt

-- the completed calls and the aborted attempts in an attempt recorder
abbrev pub page_of : {W : Type 0} → AttemptRecorder W → Page
page_of ledger = record {
  calls = ledger.journal.notes.items;
  given_up = ledger.trail.given_up.items;
}

-- the page of the setup phase, followed by the pages of the clients
abbrev pub pages_of : {W : Type 0} → AttemptRecorder W → List (AttemptRecorder W) → List Page
pages_of opening clients = page_of opening ∷ map page_of clients

-- the completed calls on these pages
abbrev pub calls_on : List Page → List CompletedCall
calls_on pages = flat_map (λ page. page.calls) pages

-- the attempt of a call, if it is noted
abbrev pub noted_attempt : Option (Box TracedAttempt) → List TracedAttempt
noted_attempt None = []
noted_attempt (Some a) = a.value ∷ []

-- the attempts of these calls, as far as they are noted
abbrev pub attempts_of : List CompletedCall → List TracedAttempt
attempts_of calls = flat_map (λ n. noted_attempt n.attempt) calls

-- each completed call has its attempt, and no attempt listed as aborted committed
abbrev pub is_told : Page → Bool
is_told page = all_noted page.calls && none_committed page.given_up

-- on each page, each completed call has its attempt, and no attempt listed as aborted committed
abbrev pub are_told : List Page → Bool
are_told pages = list_all is_told pages

-- the attempts, each with the number of the client
abbrev pub attempt_entries_of : ℕ → List TracedAttempt → List AttemptEntry
attempt_entries_of client attempts = map (λ a. record { client = client; attempt = a }) attempts

-- the attempts of a client: the attempt of each completed call, once, and each aborted attempt
abbrev pub entries_on : ℕ → Page → List AttemptEntry
entries_on client page =
    attempt_entries_of client (attempts_of page.calls) ++ attempt_entries_of client page.given_up

-- the attempts of all clients; the clients are numbered from `first` on
abbrev pub attempt_entries_from : ℕ → List Page → List AttemptEntry
attempt_entries_from first [] = []
attempt_entries_from first (page ∷ pages) =
    entries_on first page ++ attempt_entries_from (suc first) pages
