-- The attempts of clients, as lines.
use Rattle.std.proofs.Common.{◌≡◌, ◌∙◌, ◌+◌, ◌<◌, ◌&&◌, sym, ap, arith, ℕ, suc, Bool, true, List, [], ◌∷◌, ◌++◌, length}
use Rattle.std.proofs.Common.{take, get_or, append_assoc, append-nil}
use Rattle.std.proofs.lemmas.List.{map-append, take_more, length-map, length-take-le}
use Rattle.std.proofs.lemmas.List.Folds.{list_all-append}
use Rattle.load_record.specs.declared.ledger.AttemptRecorder.{AttemptRecorder}
use Rattle.load_record.specs.Lines.{AttemptEntry}
use Rattle.load_record.specs.Pages.{Page, page_of, pages_of, is_told, are_told, entries_on, attempt_entries_from}

-- the attempts of two lists of clients
pub entries_both : (first n : ℕ) (xs ys : List Page) → first + length xs ≡ n →
    attempt_entries_from first (xs ++ ys) ≡ attempt_entries_from first xs ++ attempt_entries_from n ys
entries_both first n [] ys e = let same : first ≡ n = omega (arith, e) in ap (λ (k : ℕ). attempt_entries_from k ys) same
entries_both first n (x ∷ xs) ys e =
    ap (λ t. entries_on first x ++ t) (entries_both (suc first) n xs ys (omega (arith, e)))
    ∙ sym (append_assoc (entries_on first x) (attempt_entries_from (suc first) xs) (attempt_entries_from n ys))

-- the pages of one client more
pages_more : {W : Type 0} (opening : AttemptRecorder W) (clients : List (AttemptRecorder W)) (place : ℕ)
    (ledger : AttemptRecorder W) →
    place < length clients → ledger ≡ get_or clients place ledger
    → pages_of opening (take (place + 1) clients) ≡ pages_of opening (take place clients) ++ page_of ledger ∷ []
pages_more {W} opening clients place ledger low at =
    let front = take place clients in
    let all : take (place + 1) clients ≡ front ++ ledger ∷ [] =
    take_more clients place ledger low ∙ ap (λ (l : AttemptRecorder W). front ++ l ∷ []) (sym at) in
    ap (pages_of opening) all ∙ ap (λ (l : List Page). page_of opening ∷ l) (map-append page_of front (ledger ∷ []))

-- one client more, of whom all is told
pub told_more : {W : Type 0} (opening : AttemptRecorder W) (clients : List (AttemptRecorder W)) (place : ℕ)
    (ledger : AttemptRecorder W) →
    place < length clients → ledger ≡ get_or clients place ledger
    → are_told (pages_of opening (take place clients)) ≡ true → is_told (page_of ledger) ≡ true →
    are_told (pages_of opening (take (place + 1) clients)) ≡ true
told_more {W} opening clients place ledger low at before own =
    ap are_told (pages_more opening clients place ledger low at)
    ∙ list_all-append is_told (pages_of opening (take place clients)) (page_of ledger ∷ [])
    ∙ ap (λ (b : Bool). b && (is_told (page_of ledger) && true)) before ∙ ap (λ (b : Bool). b && true) own

-- one client more
pub client_more : {W : Type 0} (opening : AttemptRecorder W) (clients : List (AttemptRecorder W)) (place client : ℕ)
    (ledger : AttemptRecorder W)
    (entries entries' before : List AttemptEntry)
    → place < length clients → ledger ≡ get_or clients place ledger → client ≡ place + 1
    → entries ≡ before ++ attempt_entries_from 0 (pages_of opening (take place clients)) →
    entries' ≡ entries ++ entries_on client (page_of ledger)
    → entries' ≡ before ++ attempt_entries_from 0 (pages_of opening (take (place + 1) clients))
client_more {W} opening clients place client ledger entries entries' before low at number is more =
    let pages = pages_of opening (take place clients) in
    let own = entries_on client (page_of ledger) in
    let count : 0 + length pages ≡ client = let a = length-map (take place clients) (page_of {W = W}) in let b =
    length-take-le place clients (omega (arith, low)) in omega (arith, a, b, number) in
    let last : attempt_entries_from 0 (pages_of opening (take (place + 1) clients)) ≡ attempt_entries_from 0 pages ++
    own =
    ap (attempt_entries_from 0) (pages_more opening clients place ledger low at) ∙ entries_both 0 client pages
    (page_of ledger ∷ []) count ∙ ap (λ t. attempt_entries_from 0 pages ++ t) (append-nil own) in
    more ∙ ap (λ t. t ++ own) is ∙ append_assoc before (attempt_entries_from 0 pages) own ∙ ap (λ t. before ++ t)
    (sym last)
