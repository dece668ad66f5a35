-- The attempts of a load made the records of its calls.
use Rattle.std.proofs.Common.{◌≡◌, ◌∙◌, ◌&&◌, ◌+◌, ◌*◌, ℕ, suc, Bool, true, false, cond, not, is_some, List, [], ◌∷◌}
use Rattle.std.proofs.Common.{◌++◌}
use Rattle.std.proofs.Common.{map, Option, Some, None, IfSome, refl, sym, ap, subst, append_assoc}
use Rattle.std.specs.Global.{Box}
use Rattle.stm_core.specs.Client.{Record}
use Rattle.vac_manager.specs.declared.note.CompletedCall.{CompletedCall}
use Rattle.vac_manager.specs.declared.note.TracedAttempt.{TracedAttempt}
use Rattle.vac_manager.specs.Tracing.{trace_of, IsTraceOf}
use Rattle.load_record.specs.Laying.{writes_from, done_by}
use Rattle.load_record.specs.Noted.{all_noted, none_committed}
use Rattle.load_record.specs.Lines.{AttemptEntry}
use Rattle.load_record.specs.Pages.{Page, noted_attempt, attempts_of, is_told, are_told, calls_on}
use Rattle.load_record.specs.Pages.{attempt_entries_of, attempt_entries_from}
use Rattle.load_record.specs.Entries.{attempt_of}
use Rattle.load_record.specs.Records.{committed_notes}
use Rattle.load_record.specs.Ordered.{CorrespondTo, AreOfHistory}
use Rattle.load_record.specs.Legal.{AreCallsOf}
use Rattle.load_record.specs.Loads.{MadeHistory, LoadsMakeTheirHistory, LoadsAreJudgedByAbortsAndTimes}
use Rattle.load_record.specs.Text.{AreAttempts}
use Rattle.load_record.proofs.Corresponding.{Correspond, flip, Same, same_of, cancel_all, same_keeps}
use Rattle.load_record.proofs.Heap.{one_heap}
use Rattle.load_record.proofs.Loads.{committed_first}
use Rattle.load_record.proofs.Serial.{judged_apart, serial_legal}
use Rattle.load_record.proofs.AttemptExchange.{made_serially}
use Rattle.load_record.proofs.Judging.{judged_by_entries}

-- ---- in any order

-- the committed ones of the entries made these records
abbrev Made : List AttemptEntry → List Record → Type 0
Made entries records = CorrespondTo (committed_notes entries) records

abbrev IsOf : TracedAttempt → Record → Type 0
IsOf a r = IsTraceOf (trace_of a) r

as_related : (notes : List TracedAttempt) (s : List Record) → CorrespondTo notes s → Correspond IsOf notes s
as_related [] s h = h
as_related (a ∷ notes) s h = (h.0, h.1, h.2, h.3, h.4, as_related notes (h.0 ++ h.2) h.5)

of_related : (notes : List TracedAttempt) (s : List Record) → Correspond IsOf notes s → CorrespondTo notes s
of_related [] s h = h
of_related (a ∷ notes) s h = (h.0, h.1, h.2, h.3, h.4, of_related notes (h.0 ++ h.2) h.5)

made_under : (e : AttemptEntry) (t t' : List AttemptEntry) → ((s : List Record) → Made t s → Made t' s) →
    (s : List Record) → Made (e ∷ t) s → Made (e ∷ t') s
made_under e t t' h s = go e.attempt.commits
  where
    go : (b : Bool) → CorrespondTo (cond b (e.attempt ∷ committed_notes t) (committed_notes t)) s →
        CorrespondTo (cond b (e.attempt ∷ committed_notes t') (committed_notes t')) s
    go true q = (q.0, q.1, q.2, q.3, q.4, h (q.0 ++ q.2) q.5)
    go false q = h s q

made_flip : (e f : AttemptEntry) (t : List AttemptEntry) (s : List Record) → Made (e ∷ f ∷ t) s → Made (f ∷ e ∷ t) s
made_flip e f t s = go e.attempt.commits f.attempt.commits
  where
    go : (b c : Bool) → CorrespondTo (cond b (e.attempt ∷ cond c (f.attempt ∷ committed_notes t) (committed_notes t))
        (cond c (f.attempt ∷ committed_notes t) (committed_notes t))) s →
        CorrespondTo (cond c (f.attempt ∷ cond b (e.attempt ∷ committed_notes t) (committed_notes t))
        (cond b (e.attempt ∷ committed_notes t) (committed_notes t))) s
    go true true q =
        of_related (f.attempt ∷ e.attempt ∷ committed_notes t) s
        (flip IsOf e.attempt f.attempt (committed_notes t) s
        (as_related (e.attempt ∷ f.attempt ∷ committed_notes t) s q))
    go true false q = q
    go false true q = q
    go false false q = q

-- ---- the pages

first : (a b : Bool) → (a && b) ≡ true → a ≡ true
first true b e = refl
first false b e = absurd (let never : false ≡ true = e in cc)

second : (a b : Bool) → (a && b) ≡ true → b ≡ true
second true b e = e
second false b e = absurd (let never : false ≡ true = e in cc)

is_false : (b : Bool) → not b ≡ true → b ≡ false
is_false true e = absurd (let never : false ≡ true = e in cc)
is_false false e = refl

-- the calls of a client, and then others
calls_made : (client : ℕ) (calls others : List CompletedCall) (more : List AttemptEntry) (history : List Record) →
    all_noted calls ≡ true → AreCallsOf (calls ++ others) history →
    ((h : List Record) → AreCallsOf others h → Made more h) →
    Made (attempt_entries_of client (attempts_of calls) ++ more) history
calls_made client [] others more history noted h k = k history h
calls_made client (n ∷ calls) others more history noted h k =
    go n.attempt refl (calls_made client calls others more (h.0 ++ h.2)
    (second (is_some n.attempt) (all_noted calls) noted) h.5 k)
  where
    go : (o : Option (Box TracedAttempt)) → n.attempt ≡ o →
        Made (attempt_entries_of client (attempts_of calls) ++ more) (h.0 ++ h.2) →
        Made (attempt_entries_of client (noted_attempt o ++ attempts_of calls) ++ more) history
    go None e rest =
        absurd (let never : false ≡ true = sym (ap (λ (o : Option (Box TracedAttempt)). is_some o && all_noted calls) e)
        ∙ noted in cc)
    go (Some a) e rest =
        let trace : IsTraceOf (trace_of a.value) h.1 =
        subst (λ (o : Option (Box TracedAttempt)). IfSome o (λ a. IsTraceOf (trace_of a.value) h.1)) e h.4.attempt in
        let notes = committed_notes (attempt_entries_of client (attempts_of calls) ++ more) in
        subst (λ (b : Bool). CorrespondTo (cond b (a.value ∷ notes) notes) history) (sym trace.commits)
        (h.0, h.1, h.2, h.3, trace, rest)

-- aborted attempts, and then others
given_up_made : (client : ℕ) (notes : List TracedAttempt) (more : List AttemptEntry) (history : List Record) →
    none_committed notes ≡ true → Made more history → Made (attempt_entries_of client notes ++ more) history
given_up_made client [] more history none h = h
given_up_made client (a ∷ notes) more history none h =
    let rest = given_up_made client notes more history (second (not a.commits) (none_committed notes) none) h in
    let others = committed_notes (attempt_entries_of client notes ++ more) in
    subst (λ (b : Bool). CorrespondTo (cond b (a ∷ others) others) history)
    (sym (is_false a.commits (first (not a.commits) (none_committed notes) none))) rest

pages_made : (client : ℕ) (pages : List Page) (history : List Record) → are_told pages ≡ true →
    AreCallsOf (calls_on pages) history → Made (attempt_entries_from client pages) history
pages_made client [] history told h = h
pages_made client (page ∷ pages) history told h =
    let own = first (is_told page) (are_told pages) told in
    let noted = first (all_noted page.calls) (none_committed page.given_up) own in
    let none = second (all_noted page.calls) (none_committed page.given_up) own in
    let calls = attempt_entries_of client (attempts_of page.calls) in
    let given_up = attempt_entries_of client page.given_up in
    let more = attempt_entries_from (suc client) pages in
    subst (λ (l : List AttemptEntry). Made l history) (sym (append_assoc calls given_up more))
    (calls_made client page.calls (calls_on pages) (given_up ++ more) history noted h
    (λ s k. given_up_made client page.given_up more s none
    (pages_made (suc client) pages s (second (is_told page) (are_told pages) told) k)))

-- ---- the load

module _ (blocks : ℕ) (pages : List Page) (all : List AttemptEntry) (are : AreAttempts blocks pages all) where
  -- the entries behind the first ones are those of the pages
  pub rest_same : Same are.rest (attempt_entries_from 0 pages)
  rest_same =
      let laid = attempt_entries_of 0 are.laid in
      let clients = attempt_entries_from 0 pages in
      let same : Same (laid ++ are.rest) (laid ++ clients) =
      subst (λ (l : List AttemptEntry). Same l (laid ++ clients)) are.first
      (same_of (laid ++ clients) all are.each_once) in
      cancel_all laid are.rest clients same

  module _ (made : MadeHistory blocks (calls_on pages)) where
    -- the committed ones among them made the history
    pub rest_made : CorrespondTo (committed_notes are.rest) made.history
    rest_made =
        same_keeps Made made_under made_flip are.rest (attempt_entries_from 0 pages) rest_same made.history
        (pages_made 0 pages made.history are.told made.made)

    pub of_history : AreOfHistory made.image made.history are.laid all
    of_history =
        let image = one_heap made.image are.lays.words blocks made.heap are.lays.heap in
        record {
          made = committed_notes are.rest;
          committed = ap committed_notes are.first ∙ committed_first are.laid are.rest are.lays.before_all;
          writes = subst (λ (i : List ℕ). done_by are.laid ≡ writes_from 0 i) (sym image) are.lays.writes;
          traced = rest_made;
          serial = made.serial;
          sorted = made.sorted;
          versioned = made.versioned;
        }

pub made_their_history : LoadsMakeTheirHistory
made_their_history = λ blocks pages all few are made. record {
  first = are.laid;
  of_history = of_history blocks pages all are made;
}

pub judged_by_aborts_and_times : LoadsAreJudgedByAbortsAndTimes
judged_by_aborts_and_times = λ blocks pages all few are fit made.
    let from = made_their_history blocks pages all few are made in
    let committed = serial_legal made.image from.first all
    (made_serially made.image made.history from.first all are.ordered from.of_history) in
    let apart = judged_apart (map attempt_of all) in
    let judged = judged_by_entries (16 + 8 * blocks) all fit in (
      λ e.
          let o = judged.0 e in
          record { aborted = (apart.0 o.legal).1; turns = o.turns; precedence = o.precedence },
      λ r. judged.1 (record {
        legal = apart.1 (committed, r.aborted);
        turns = r.turns;
        precedence = r.precedence;
      }),
    )
