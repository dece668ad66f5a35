-- The pages of the ledgers of a load.
use Rattle.std.proofs.Common.{◌≡◌, ◌∙◌, ◌&&◌, ◌↔◌, refl, sym, ap, subst, inl, inr, suc, arith, ℕ, Bool, true, false}
use Rattle.std.proofs.Common.{Err, nat_eq, List, [], ◌∷◌, ◌++◌, Option, Some, None, map, length, append-nil, not}
use Rattle.std.proofs.Common.{if◌then◌else◌}
use Rattle.std.specs.Prelude.{IsErrOf, IfSome, is_some}
use Rattle.std.specs.Global.{Box}
use Rattle.std.specs.FinMap.{get}
use Rattle.std.specs.List.{list_all}
use Rattle.std.proofs.lemmas.List.{length-map}
use Rattle.std.proofs.lemmas.Bool.Decides.{nat_tests}
use Rattle.tx_memory.specs.Image.{In, Has, Agrees}
use Rattle.tx_memory.specs.Paired.{agrees-map_of}
use Rattle.stm_core.specs.Client.{Record, Aborted}
use Rattle.stm_core.proofs.Lists.{nothing_in}
use Rattle.stm_core.proofs.Orders.{in_cons}
use Rattle.stm_object.specs.declared.place.CommitPosition.{CommitPosition}
use Rattle.load_run.specs.Load.{Share, is_load, HaveRead}
use Rattle.load_tasks.specs.declared.settings.Settings.{Settings}
use Rattle.load_tasks.specs.Setting.{is_settings}
use Rattle.vac_manager.specs.declared.note.CompletedCall.{CompletedCall}
use Rattle.vac_manager.specs.declared.note.TracedAttempt.{TracedAttempt}
use Rattle.vac_manager.specs.Tracing.{Trace, trace_of, AreMadeInTurn}
use Rattle.stm_core.specs.History.{image_upto}
use Rattle.load_run.specs.Lists.{Paired, none, both}
use Rattle.load_run.specs.Made.{IsTraceOfListed, committed_in, aborted_in, AreAscending, AreMade}
use Rattle.load_run.specs.Made.{IsNotedWith}
use Rattle.load_run.specs.Several.{Interleaved, no_more, of_first, of_second}
use Rattle.load_run.proofs.Making.{aborted_both, aborted_one}
use Rattle.load_record.specs.declared.ledger.AttemptRecorder.{AttemptRecorder}
use Rattle.vac_lines.specs.Writing.{AppendsPrefix}
use Rattle.load_record.specs.Known.{known, committed_trace, ended_by, is_whole_ledger, are_whole_ledgers}
use Rattle.load_record.specs.Noted.{all_noted, none_committed, has_committed}
use Rattle.load_record.specs.Pages.{Page, page_of, pages_of, calls_on, noted_attempt, attempts_of}
use Rattle.load_record.specs.Text.{WroteAttempts, WroteAttemptsPrefix, AreTooLong}
use Rattle.load_record.specs.Loads.{MadeHistory}
use Rattle.load_record.proofs.Made.{made_their_history}
use Rattle.load_record.specs.InPlace.{ReadsAtItsPlace, AbortedReadAtTheirPlaces}
use Rattle.load_record.specs.InTurn.{MadeInTurn, EachMadeInTurn}
use Rattle.load_record.proofs.AtPlaces.{judged_by_times}
use Rattle.load_record.proofs.InTurn.{judged_by_precedence}
use Rattle.load_run.specs.declared.load.LoadFault.TheVariants as load
use Rattle.load_run.specs.declared.load.LoadFault.{LoadFault}
use Rattle.cli_main.specs.Ending.{long_attempt_line}
use Rattle.load_run.specs.declared.summary.LoadSummary.{LoadSummary}
use Rattle.cli_main.specs.Load.{HasNoted, WroteLoadAttempts, WroteLoadAttemptsInPart, HasLongAttempt}
use Rattle.cli_main.specs.Load.{AreAllTraces, IsWholePage}
use Rattle.vac_manager.specs.Keeping.{IsNoted}
use Rattle.cli_main.proofs.LoadEnds.{few_blocks, both_first, both_second}
use Rattle.cli_main.proofs.Recorded.{made_history}
use Rattle.cli_main.proofs.InTurn.{times_of, turns_of, places_of, commit_all, parted_by}

-- the calls that a ledger keeps
abbrev journal_calls : {W : Type 0} → AttemptRecorder W → List CompletedCall
journal_calls ledger = ledger.journal.notes.items

same_pages : {W : Type 0} (clients : List (AttemptRecorder W)) → map (λ page. page.calls)
    (map page_of clients) ≡ map journal_calls clients
same_pages [] = refl
same_pages (c ∷ clients) = ap (λ (l : List (List CompletedCall)). journal_calls c ∷ l) (same_pages clients)

-- ---- attempts

whole_ledger : (a b c d : Bool) → (a && b && (c && d)) ≡ true → a ≡ true
whole_ledger true b c d h = refl
whole_ledger false b c d h = absurd (let n : false ≡ true = h in cc)

whole_trail : (a b c d : Bool) → (a && b && (c && d)) ≡ true → c ≡ true
whole_trail a b true d h = refl
whole_trail true true false d h = absurd (let n : false ≡ true = h in cc)
whole_trail true false false d h = absurd (let n : false ≡ true = h in cc)
whole_trail false b false d h = absurd (let n : false ≡ true = h in cc)

not_both : (c rest : Bool) → (not c && rest) ≡ true → c ≡ false
not_both false rest h = refl
not_both true rest h = absurd (let n : false ≡ true = h in cc)

-- attempts that aborted are the aborted ones among their traces
aborted_mapped : (notes : List TracedAttempt) → none_committed notes ≡ true →
    aborted_in (map trace_of notes) ≡ map trace_of notes
aborted_mapped [] h = refl
aborted_mapped (a ∷ notes) h = aborted_one a.commits (trace_of a) (aborted_in (map trace_of notes))
    (map trace_of notes) (not_both a.commits (none_committed notes) h)
    (aborted_mapped notes (both_second (not a.commits) (none_committed notes) h))

-- the attempt at hand, if there is one, is none of them
none_at_hand : (o : Option TracedAttempt) → has_committed o ≡ true → aborted_in (committed_trace o) ≡ []
none_at_hand None h = refl
none_at_hand (Some a) h = rw h refl

aborted_there : (notes : List TracedAttempt) (o : Option TracedAttempt) → none_committed notes ≡ true →
    has_committed o ≡ true → aborted_in (map trace_of notes ++ committed_trace o) ≡ map trace_of notes
aborted_there notes o refused h = aborted_both (map trace_of notes) (committed_trace o)
    ∙ (ap (λ (l : List Trace). aborted_in (map trace_of notes) ++ l) (none_at_hand o h)
    ∙ (append-nil (aborted_in (map trace_of notes)) ∙ aborted_mapped notes refused))

one_noted : (o : Option (Box TracedAttempt)) (t : Trace) (rest : List TracedAttempt) (ts : List Trace) →
    is_some o ≡ true → IfSome o (λ a. trace_of a.value ≡ t) → map trace_of rest ≡ ts →
    map trace_of (noted_attempt o ++ rest) ≡ t ∷ ts
one_noted (Some a) t rest ts so e f = ap (λ (x : Trace). x ∷ map trace_of rest) e ∙ ap (λ (l : List Trace). t ∷ l) f
one_noted None t rest ts so e f = absurd (let n : false ≡ true = so in cc)

-- the noted attempts are those that committed
noted_attempts : (calls : List CompletedCall) (ts : List Trace) → all_noted calls ≡ true →
    Paired IsNotedWith calls ts → map trace_of (attempts_of calls) ≡ ts
noted_attempts [] [] h none = refl
noted_attempts (n ∷ calls) (t ∷ ts) h (both e p) =
    one_noted n.attempt t (attempts_of calls) ts (both_first (is_some n.attempt) (all_noted calls) h) e
    (noted_attempts calls ts (both_second (is_some n.attempt) (all_noted calls) h) p)
noted_attempts [] (t ∷ ts) h p = elim p [ ]
noted_attempts (n ∷ calls) [] h p = elim p [ ]

parted : (c : Bool) (t : Trace) (xs ys ts : List Trace) → Interleaved xs ys ts →
    Interleaved (if c then t ∷ xs else xs) (if c then ys else t ∷ ys) (t ∷ ts)
parted true t xs ys ts p = of_first t p
parted false t xs ys ts p = of_second t p

-- attempts are those that committed and those that aborted
parts : (ts : List Trace) → Interleaved (committed_in ts) (aborted_in ts) ts
parts [] = no_more
parts (t ∷ ts) = parted t.commits t (committed_in ts) (aborted_in ts) ts (parts ts)

abbrev rest_of : List Trace → List Trace
rest_of [] = []
rest_of (t ∷ ts) = ts

abbrev first_or : Trace → List Trace → Trace
first_or d [] = d
first_or d (t ∷ ts) = t

-- attempts whose traces are put together
record Together (xs ys : List TracedAttempt) (zs : List Trace) : Type 0 where
  all : List TracedAttempt
  same : map trace_of all ≡ zs
  each : Interleaved xs ys all

together : {us bs zs : List Trace} → Interleaved us bs zs → (xs ys : List TracedAttempt) → map trace_of xs ≡ us →
    map trace_of ys ≡ bs → Together xs ys zs
together no_more [] [] e f = record { all = []; same = refl; each = no_more }
together no_more (x ∷ xs) ys e f = absurd (let n : trace_of x ∷ map trace_of xs ≡ [] = e in cc)
together no_more [] (y ∷ ys) e f = absurd (let n : trace_of y ∷ map trace_of ys ≡ [] = f in cc)
together (of_first t {xs = us} p) [] ys e f = absurd (let n : [] ≡ t ∷ us = e in cc)
together (of_first t p) (x ∷ xs) ys e f =
    let r = together p xs ys (ap rest_of e) f in
    record {
      all = x ∷ r.all;
      same = ap (λ (u : Trace). u ∷ map trace_of r.all) (ap (first_or t) e) ∙ ap (λ (l : List Trace). t ∷ l) r.same;
      each = of_first x r.each;
    }
together (of_second t {ys = bs} p) xs [] e f = absurd (let n : [] ≡ t ∷ bs = f in cc)
together (of_second t p) xs (y ∷ ys) e f =
    let r = together p xs ys e (ap rest_of f) in
    record {
      all = y ∷ r.all;
      same = ap (λ (u : Trace). u ∷ map trace_of r.all) (ap (first_or t) f) ∙ ap (λ (l : List Trace). t ∷ l) r.same;
      each = of_second y r.each;
    }

-- a ledger has all attempts of its client, if all are known
abbrev pub LedgerHasAll : {W : Type 0} → List ℕ → List Record → ℕ → List Record → List Aborted → AttemptRecorder W →
    Type 0
LedgerHasAll image history attempts records aborts ledger = (all : List Trace) → ended_by ledger.trail ≡ Some all →
    AreAllTraces image history attempts records aborts ledger.journal.notes.items all

-- the aborted attempts of a list read the images of their read versions
abbrev AllReadPlaces : List ℕ → List Record → List TracedAttempt → Type 0
AllReadPlaces image history notes = (a : TracedAttempt) → In a notes → ReadsAtItsPlace image history a

one_read : (image : List ℕ) (history : List Record) (a : TracedAttempt) (b : Aborted) → IsTraceOfListed (trace_of a) b →
    Agrees (image_upto image b.renewal b.version history) b.reads → ReadsAtItsPlace image history a
one_read image history a b h agrees = record {
  reader = ap (λ (p : CommitPosition). p.wrote) h.place;
  reads = record {
    agrees = λ address value is. subst
        (λ (p : CommitPosition). Has (image_upto image p.renewal p.version history) address value) (sym h.place)
        (agrees-map_of (image_upto image b.renewal b.version history) b.reads agrees address value
        (subst (λ m. get m address ≡ Some value) (sym h.reads) is));
    right = h.right;
  };
}

all_read : (image : List ℕ) (history : List Record) (notes : List TracedAttempt) (aborts : List Aborted) →
    Paired IsTraceOfListed (map trace_of notes) aborts → HaveRead image history aborts →
    AllReadPlaces image history notes
all_read image history [] aborts h read a i = absurd (nothing_in a i)
all_read image history (n ∷ notes) (b ∷ aborts) (both h hs) read a i = elim (in_cons n a notes i) [
  | inl e ↦ subst (λ (x : TracedAttempt). ReadsAtItsPlace image history x) e
      (one_read image history n b h (read b (0, refl)))
  | inr j ↦ all_read image history notes aborts hs (λ x k. read x (suc k.0, k.1)) a j
]
all_read image history (n ∷ notes) [] h read a i = elim h [ ]

module _ {W : Type 0} (image : List ℕ) (history : List Record) (attempts : ℕ) (records : List Record)
    (aborts : List Aborted) (ledger : AttemptRecorder W) (whole : is_whole_ledger ledger ≡ true)
    (has : LedgerHasAll image history attempts records aborts ledger) where
  abbrev traces : List Trace
  traces = map trace_of ledger.trail.given_up.items ++ committed_trace ledger.trail.committed

  known_traces : AreAllTraces image history attempts records aborts ledger.journal.notes.items traces
  known_traces = has traces (ap (λ (b : Bool). known b traces)
      (whole_trail ledger.is_whole ledger.journal.is_whole ledger.trail.is_whole ledger.trail.accesses.is_whole whole))

  its_aborted : map trace_of ledger.trail.given_up.items ≡ aborted_in known_traces.made
  its_aborted = sym (aborted_there ledger.trail.given_up.items ledger.trail.committed ledger.trail.aborted
      ledger.trail.commits) ∙ known_traces.are_left.aborted

  page_read : AllReadPlaces image history (page_of ledger).given_up
  page_read =
      let k = known_traces in
      all_read image history ledger.trail.given_up.items aborts
      (subst (λ (l : List Trace). Paired IsTraceOfListed l aborts) (sym its_aborted) k.are_made.listed) k.read

  page_whole : IsWholePage image history attempts records aborts (page_of ledger)
  page_whole =
      let k = known_traces in
      let given = ledger.trail.given_up.items in
      let calls = ledger.journal.notes.items in
      let noted = ledger.noted (whole_ledger ledger.is_whole ledger.journal.is_whole ledger.trail.is_whole
      ledger.trail.accesses.is_whole whole) in
      let firsts = noted_attempts calls (committed_in k.made) noted k.are_made.of_calls in
      let all = together (parts k.made) (attempts_of calls) given firsts its_aborted in
      let own = parted_by all.each (commit_all (attempts_of calls) k.made firsts) ledger.trail.aborted in
      let turns : AreMadeInTurn k.from (map trace_of all.all) k.to =
      subst (λ (l : List Trace). AreMadeInTurn k.from l k.to) (sym all.same) k.are_made.turns in
      let ascending : AreAscending k.first (map trace_of all.all) k.last =
      subst (λ (l : List Trace). AreAscending k.first l k.last) (sym all.same) k.are_made.ascending in
      record {
        in_turn = record {
          attempts = all.all;
          own = record { committed = own.0; aborted = own.1 };
          times = times_of k.from k.to all.all turns;
          turns = turns_of k.from k.to all.all turns;
          positions = places_of k.first k.last all.all ascending;
        };
        number = sym (length-map all.all trace_of) ∙ (ap (λ (l : List Trace). length l) all.same ∙ k.number);
        first = k.first;
        last = k.last;
        from = k.from;
        to = k.to;
        made = subst (λ (l : List Trace). AreMade k.first k.last k.from k.to calls records aborts l) (sym all.same)
            k.are_made;
        read = k.read;
      }

module _ {D : Type 0} (image : List ℕ) (history : List Record) where
  -- each of whole pages was made in turn
  pages_in_turn : (pages : List Page) (xs : List (Share D)) →
      Paired (λ page x. IsWholePage image history x.attempts x.records x.aborts page) pages xs →
      EachMadeInTurn pages
  pages_in_turn [] [] none page i = absurd (nothing_in page i)
  pages_in_turn (p ∷ pages) (x ∷ xs) (both h hs) page i = elim (in_cons p page pages i) [
    | inl e ↦ subst MadeInTurn e h.in_turn
    | inr j ↦ pages_in_turn pages xs hs page j
  ]
  pages_in_turn [] (x ∷ xs) hs page i = elim hs [ ]
  pages_in_turn (p ∷ pages) [] hs page i = elim hs [ ]

module _ {D W : Type 0} (image : List ℕ) (history : List Record) where
  -- a ledger has all attempts of a client's share
  abbrev pub LedgerOfShare : AttemptRecorder W → Share D → Type 0
  LedgerOfShare ledger x = LedgerHasAll image history x.attempts x.records x.aborts ledger

  pages_whole : (ledgers : List (AttemptRecorder W)) (xs : List (Share D)) →
      list_all is_whole_ledger ledgers ≡ true → Paired LedgerOfShare ledgers xs →
      Paired (λ page x. IsWholePage image history x.attempts x.records x.aborts page) (map page_of ledgers) xs
  pages_whole [] [] whole none = none
  pages_whole (ledger ∷ ledgers) (x ∷ xs) whole (both h hs) =
      let rest = list_all is_whole_ledger ledgers in
      both (page_whole image history x.attempts x.records x.aborts ledger
      (both_first (is_whole_ledger ledger) rest whole) h)
      (pages_whole ledgers xs (both_second (is_whole_ledger ledger) rest whole) hs)
  pages_whole [] (x ∷ xs) whole hs = elim hs [ ]
  pages_whole (ledger ∷ ledgers) [] whole hs = elim hs [ ]

  pages_read : (ledgers : List (AttemptRecorder W)) (xs : List (Share D)) →
      list_all is_whole_ledger ledgers ≡ true → Paired LedgerOfShare ledgers xs →
      AbortedReadAtTheirPlaces image history (map page_of ledgers)
  pages_read [] [] whole none = λ page i. absurd (nothing_in page i)
  pages_read (ledger ∷ ledgers) (x ∷ xs) whole (both h hs) = λ page i.
      let rest = list_all is_whole_ledger ledgers in
      elim (in_cons (page_of ledger) page (map page_of ledgers) i) [
        | inl e ↦ subst (λ (p : Page). AllReadPlaces image history p.given_up) e
            (page_read image history x.attempts x.records x.aborts ledger
            (both_first (is_whole_ledger ledger) rest whole) h)
        | inr j ↦ pages_read ledgers xs (both_second (is_whole_ledger ledger) rest whole) hs page j
      ]
  pages_read [] (x ∷ xs) whole hs = elim hs [ ]
  pages_read (ledger ∷ ledgers) [] whole hs = elim hs [ ]

-- ---- loads

module _ {W : Type 0} (s : Settings) (n : LoadSummary) (opening : AttemptRecorder W)
    (clients : List (AttemptRecorder W))
    (fits : is_settings s ≡ true) (has : HasNoted s n (journal_calls opening) (map journal_calls clients)) where
  has_pages : HasNoted s n (page_of opening).calls (map (λ page. page.calls) (map page_of clients))
  has_pages = record {
    loaded = has.loaded;
    attempts_add_up = has.attempts_add_up;
    of_opening = has.of_opening;
    of_clients = subst (λ (l : List (List CompletedCall)). Paired (λ notes x. Paired IsNoted notes x.records) l
        has.loaded.shares) (sym (same_pages clients)) has.of_clients;
  }

  made : MadeHistory s.blocks (calls_on (pages_of opening clients))
  made = made_history s (page_of opening) (map page_of clients) has_pages

  -- the history of the calls is that of the load
  same_image : made.image ≡ has_pages.loaded.image
  unfolding made has_pages made_history
  same_image = refl

  same_history : made.history ≡ has_pages.loaded.history
  unfolding made has_pages made_history
  same_history = refl

  opening_whole : are_whole_ledgers opening clients ≡ true → is_whole_ledger opening ≡ true
  opening_whole whole = both_first (is_whole_ledger opening) (list_all is_whole_ledger clients) whole

  others_whole : are_whole_ledgers opening clients ≡ true → list_all is_whole_ledger clients ≡ true
  others_whole whole = both_second (is_whole_ledger opening) (list_all is_whole_ledger clients) whole

  abbrev OpeningHasAll : ℕ → List Aborted → Type 0
  OpeningHasAll k aborts = LedgerHasAll has.loaded.image has.loaded.history k has.loaded.opened aborts opening

  abbrev ClientsHaveAll : Type 0
  ClientsHaveAll = Paired (LedgerOfShare has.loaded.image has.loaded.history) clients has.loaded.shares

  opening_is : are_whole_ledgers opening clients ≡ true → (k : ℕ) (aborts : List Aborted) → OpeningHasAll k aborts →
      IsWholePage has_pages.loaded.image has_pages.loaded.history k has_pages.loaded.opened aborts (page_of opening)
  unfolding has_pages
  opening_is whole k aborts first = page_whole has.loaded.image has.loaded.history k has.loaded.opened aborts opening
      (opening_whole whole) first

  clients_whole : are_whole_ledgers opening clients ≡ true → ClientsHaveAll →
      Paired (λ page x. IsWholePage has_pages.loaded.image has_pages.loaded.history x.attempts x.records x.aborts page)
      (map page_of clients) has_pages.loaded.shares
  unfolding has_pages
  clients_whole whole others = pages_whole has.loaded.image has.loaded.history clients has.loaded.shares
      (others_whole whole) others

  -- each client made its attempts in turn
  each_in_turn : are_whole_ledgers opening clients ≡ true → (k : ℕ) (aborts : List Aborted) →
      OpeningHasAll k aborts → ClientsHaveAll → EachMadeInTurn (pages_of opening clients)
  each_in_turn whole k aborts first others page i = elim (in_cons (page_of opening) page (map page_of clients) i) [
    | inl e ↦ subst MadeInTurn e (opening_is whole k aborts first).in_turn
    | inr j ↦ pages_in_turn has_pages.loaded.image has_pages.loaded.history (map page_of clients)
        has_pages.loaded.shares (clients_whole whole others) page j
  ]

  -- the aborted attempts read the words of the history
  read : are_whole_ledgers opening clients ≡ true → (k : ℕ) (aborts : List Aborted) → OpeningHasAll k aborts →
      ClientsHaveAll → AbortedReadAtTheirPlaces made.image made.history (pages_of opening clients)
  unfolding made has_pages made_history
  read whole k aborts first others = λ page i.
      let image = has.loaded.image in
      let history = has.loaded.history in
      elim (in_cons (page_of opening) page (map page_of clients) i) [
        | inl e ↦ subst (λ (p : Page). AllReadPlaces image history p.given_up) e
            (page_read image history k has.loaded.opened aborts opening (opening_whole whole) first)
        | inr j ↦ pages_read image history clients has.loaded.shares (others_whole whole) others page j
      ]

  -- the attempts were written whole
  pub wrote_tried : (held holds : Option (List ℕ)) → are_whole_ledgers opening clients ≡ true → (k : ℕ)
      (aborts : List Aborted) → OpeningHasAll k aborts → ClientsHaveAll →
      WroteAttempts s.blocks (pages_of opening clients) held holds →
      WroteLoadAttempts s n held holds
  wrote_tried held holds whole k aborts first others wrote =
      let few = few_blocks s fits in
      let pages = pages_of opening clients in
      let judged = judged_by_times s.blocks pages wrote.all few wrote.attempts wrote.fits made
      (read whole k aborts first others) in
      record {
        opening = page_of opening;
        clients = map page_of clients;
        noted = has_pages;
        written = wrote;
        made = made;
        same_image = same_image;
        same_history = same_history;
        history = made_their_history s.blocks pages wrote.all few wrote.attempts made;
        read = read whole k aborts first others;
        legal = judged.0;
        judged = judged_by_precedence s.blocks pages wrote.all few wrote.attempts wrote.fits made
            (read whole k aborts first others) (each_in_turn whole k aborts first others);
        setup_attempts = k;
        setup_aborts = aborts;
        of_opening = opening_is whole k aborts first;
        of_clients = clients_whole whole others;
      }

  -- a prefix of them was written
  pub wrote_tried_in_part : (held holds : Option (List ℕ)) → are_whole_ledgers opening clients ≡ true → (k : ℕ)
      (aborts : List Aborted) → OpeningHasAll k aborts → ClientsHaveAll →
      WroteAttemptsPrefix s.blocks (pages_of opening clients) held holds → WroteLoadAttemptsInPart s n held holds
  wrote_tried_in_part held holds whole k aborts first others wrote = record {
    opening = page_of opening;
    clients = map page_of clients;
    noted = has_pages;
    written = wrote;
    made = made;
    read = read whole k aborts first others;
    setup_attempts = k;
    setup_aborts = aborts;
    of_opening = opening_is whole k aborts first;
    of_clients = clients_whole whole others;
  }

  -- none of them was written
  pub has_long : (held middle holds : Option (List ℕ)) → middle ≡ held →
      AreTooLong s.blocks (pages_of opening clients) → AppendsPrefix middle holds long_attempt_line →
      HasLongAttempt s n held holds
  has_long held middle holds same long line = record {
    opening = page_of opening;
    clients = map page_of clients;
    noted = has_pages;
    long = long;
    named = subst (λ (o : Option (List ℕ)). AppendsPrefix o holds long_attempt_line) same line;
  }

both_true : (a : Bool) (n m : ℕ) → a ≡ true → n ≡ m → (a && nat_eq n m) ≡ true
both_true true n m e same = grind (arith, nat_tests, same)
both_true false n m e same = absurd cc

-- a load with as many keepers as clients is not refused for its settings where these fit each other
pub not_refused : {T : Type 0} (s : Settings) (n : ℕ) (fault : LoadFault) → is_settings s ≡ true → n ≡ s.clients →
    (IsErrOf {T = T} (Err fault) load.Arguments ↔ (is_load s n ≡ false)) → fault ≡ load.Arguments → ⊥
not_refused s n fault fits same arguments e =
    let right : is_load s n ≡ true = both_true (is_settings s) n s.clients fits same in
    let wrong : is_load s n ≡ false = arguments.0 (ap (λ (f : LoadFault). Err f) e) in
    let bad : true ≡ false = sym right ∙ wrong in
    absurd cc
