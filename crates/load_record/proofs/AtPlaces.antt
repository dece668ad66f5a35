-- Aborted attempts that read the images of their versions in the history of a load read in place.
use Rattle.std.proofs.Common.{◌≡◌, ◌∙◌, ◌+◌, ◌*◌, ◌&&◌, ◌||◌, ℕ, suc, Bool, true, false, cond, eqb, ltb}
use Rattle.std.proofs.Common.{leb, List, [], ◌∷◌, ◌++◌, Option, Some, None, IfSome, refl, sym, ap, subst, arith}
use Rattle.std.proofs.Common.{append_assoc}
use Rattle.std.specs.Prelude.{All}
use Rattle.std.specs.FinMap.{empty, entries}
use Rattle.std.specs.Global.{Box}
use Rattle.std.proofs.lemmas.Bool.Decides.{nat_tests}
use Rattle.tx_memory.specs.Image.{In, laid}
use Rattle.tx_memory.specs.Accesses.{writes_behind}
use Rattle.stm_core.specs.Client.{Record}
use Rattle.stm_core.specs.Invariant.{Sorted}
use Rattle.stm_object.specs.declared.place.CommitPosition.{CommitPosition}
use Rattle.vac_lines.proofs.Spacing.{Each}
use Rattle.vac_manager.specs.declared.note.CompletedCall.{CompletedCall}
use Rattle.vac_manager.specs.declared.note.TracedAttempt.{TracedAttempt}
use Rattle.vac_manager.specs.Legal.{AreVersioned}
use Rattle.vac_manager.specs.Tracing.{trace_of, IsTraceOf}
use Rattle.stm_object.specs.Places.{rank_of}
use Rattle.load_record.specs.Laying.{IsLaidFirst}
use Rattle.load_record.specs.Legal.{AreCallsOf}
use Rattle.load_record.specs.Lines.{AttemptEntry}
use Rattle.load_record.specs.Pages.{Page, noted_attempt, attempts_of, calls_on}
use Rattle.load_record.specs.Pages.{attempt_entries_of, attempt_entries_from}
use Rattle.load_record.specs.Text.{AreAttempts}
use Rattle.load_record.specs.Records.{committed_notes, image_left, ReadsImage, AbortedReadInPlace}
use Rattle.load_record.specs.Ordered.{CorrespondTo}
use Rattle.load_record.specs.Loads.{MadeHistory}
use Rattle.stm_core.specs.History.{is_upto, image_upto}
use Rattle.load_record.specs.InPlace.{ReadsAtItsPlace, AbortedReadAtTheirPlaces, LoadsAreJudgedByTimes}
use Rattle.load_record.proofs.AttemptExchange.{below, IsLater, Ordered, AllLater, EntriesOrdered, follow_on}
use Rattle.load_record.proofs.AttemptExchange.{entries_ordered, committed_later, committed_ordered}
use Rattle.load_record.proofs.AttemptExchange.{sorted_without, versioned_without, made_later, quiet, made_serially}
use Rattle.load_record.proofs.Corresponding.{heads, same_keeps}
use Rattle.load_record.proofs.InPlace.{aborted_legal, in_place_legal}
use Rattle.load_record.proofs.Loads.{committed_first}
use Rattle.load_record.proofs.Made.{rest_same, rest_made, of_history, judged_by_aborts_and_times}

-- ---- the image of a version

same_both : (b : Bool) (image : List ℕ) → cond b image image ≡ image
same_both true image = refl
same_both false image = refl

-- a record that wrote nothing leaves the image as it is
passes : (image : List ℕ) (n u : ℕ) (r : Record) → r.writes ≡ [] →
    cond (is_upto n u r) (laid image r.writes) image ≡ image
passes image n u r e =
    ap (λ (i : List ℕ). cond (is_upto n u r) i image) (ap (laid image) e) ∙ same_both (is_upto n u r) image

skipped : (image : List ℕ) (n u : ℕ) (first : List Record) (r : Record) (more : List Record) → r.writes ≡ [] →
    image_upto image n u (first ++ r ∷ more) ≡ image_upto image n u (first ++ more)
skipped image n u [] r more e = ap (λ (i : List ℕ). image_upto i n u more) (passes image n u r e)
skipped image n u (x ∷ first) r more e =
    skipped (cond (is_upto n u x) (laid image x.writes) image) n u first r more e

-- a record can be applied before the records in front of it, if neither they nor that record wrote anything
moved : (image : List ℕ) (n u : ℕ) (first : List Record) (r : Record) (more : List Record) →
    ((x : Record) → In x first → (x.writes ≡ []) × (r.writes ≡ [])) →
    image_upto image n u (first ++ r ∷ more)
    ≡ image_upto (cond (is_upto n u r) (laid image r.writes) image) n u (first ++ more)
moved image n u [] r more still = refl
moved image n u (x ∷ first) r more still =
    let e = (still x (0, refl)).1 in
    skipped image n u (x ∷ first) r more e
    ∙ sym (ap (λ (i : List ℕ). image_upto i n u (x ∷ first ++ more)) (passes image n u r e))

-- records that are of later versions, or wrote nothing, leave the image as it is
untouched : (image : List ℕ) (n u : ℕ) (records : List Record) →
    ((x : Record) → In x records → is_upto n u x ≡ true → x.writes ≡ []) → image_upto image n u records ≡ image
untouched image n u [] h = refl
untouched image n u (r ∷ rs) h =
    ap (λ (i : List ℕ). image_upto i n u rs) (stays (is_upto n u r) refl)
    ∙ untouched image n u rs (λ x i. h x (suc i.0, i.1))
  where
    stays : (b : Bool) → is_upto n u r ≡ b → cond b (laid image r.writes) image ≡ image
    stays true e = ap (laid image) (h r (0, refl) e)
    stays false e = refl

-- ---- the records before a reader

upto_places : (n u m w : ℕ) (b : Bool) → below n (2 * u + 1) m (2 * w + cond b 0 1) ≡ false →
    (ltb m n || (eqb m n && leb w u)) ≡ true
upto_places n u m w true h = grind (arith, nat_tests, h)
upto_places n u m w false h = grind (arith, nat_tests, h)

later_places : (n u m w : ℕ) (b : Bool) → below m (2 * w + cond b 0 1) n (2 * u + 1) ≡ false →
    (ltb m n || (eqb m n && leb w u)) ≡ true → b ≡ false
later_places n u m w true h k = absurd (grind (arith, nat_tests, h, k))
later_places n u m w false h k = refl

module _ (e : TracedAttempt) (reader : e.place.wrote ≡ false) where
  abbrev rank_is : Bool → ℕ
  rank_is b = 2 * e.place.version + cond b 0 1

  -- the record of an attempt that is not after the reader is of at most its version
  before_reader : (a : TracedAttempt) (r : Record) → IsTraceOf (trace_of a) r → IsLater e a →
      is_upto e.place.renewal e.place.version r ≡ true
  before_reader a r h l =
      upto_places e.place.renewal e.place.version r.renewal r.version r.writer
      (subst (λ (p : CommitPosition). below e.place.renewal (2 * e.place.version + 1) p.renewal (rank_of p) ≡ false)
      h.place
      (subst (λ (b : Bool). below e.place.renewal (rank_is b) a.place.renewal (rank_of a.place) ≡ false) reader l))

  -- if the record of an attempt that is not before the reader is of at most its version, then it is that of a reader
  behind_reader : (a : TracedAttempt) (r : Record) → IsTraceOf (trace_of a) r → IsLater a e →
      is_upto e.place.renewal e.place.version r ≡ true → r.writer ≡ false
  behind_reader a r h l k =
      later_places e.place.renewal e.place.version r.renewal r.version r.writer
      (subst (λ (p : CommitPosition). below p.renewal (rank_of p) e.place.renewal (2 * e.place.version + 1) ≡ false)
      h.place
      (subst (λ (b : Bool). below a.place.renewal (rank_of a.place) e.place.renewal (rank_is b) ≡ false) reader l)) k

  abbrev n : ℕ
  n = e.place.renewal

  abbrev u : ℕ
  u = e.place.version

  -- the attempts in front of the reader leave the image of its version
  left_is : (image : List ℕ) (front back : List TracedAttempt) (records : List Record) →
      CorrespondTo (front ++ back) records → Ordered (front ++ back) → Each (λ a. IsLater e a) front →
      Each (λ a. IsLater a e) back → Sorted records → AreVersioned records →
      image_left image front ≡ image_upto image n u records
  left_is image [] back records m o f b sorted v =
      sym (untouched image n u records (λ x i k.
      let q = made_later e back records x m b i in
      v.readers x i (behind_reader q.0 x q.1 q.2 k)))
  left_is image (a ∷ front) back records m o f b sorted v =
      let first = m.0 in
      let r = m.1 in
      let more = m.2 in
      let own = entries (writes_behind empty a.accesses.items) in
      let sorted' : Sorted (first ++ r ∷ more) = subst (λ (rs : List Record). Sorted rs) m.3 sorted in
      let v' : AreVersioned (first ++ r ∷ more) = subst (λ (rs : List Record). AreVersioned rs) m.3 v in
      let applied : cond (is_upto n u r) (laid image r.writes) image ≡ laid image own =
      ap (λ (b : Bool). cond b (laid image r.writes) image) (before_reader a r m.4 f.0)
      ∙ ap (laid image) m.4.writes in
      let rest = left_is (laid image own) front back (first ++ more) m.5 o.1 f.1 b
      (sorted_without first more r sorted') (versioned_without first more r v') in
      rest ∙ sym (ap (λ (i : List ℕ). image_upto i n u (first ++ more)) applied)
      ∙ sym (moved image n u first r more (quiet a (front ++ back) first r more m.4 m.5 o.0 sorted' v'))
      ∙ sym (ap (image_upto image n u) m.3)

-- ---- the entries before an aborted one

committed_split : (before after : List AttemptEntry) (e : AttemptEntry) → e.attempt.commits ≡ false →
    committed_notes (before ++ e ∷ after) ≡ committed_notes before ++ committed_notes after
committed_split [] after e c =
    ap (λ (b : Bool). cond b (e.attempt ∷ committed_notes after) (committed_notes after)) c
committed_split (x ∷ before) after e c =
    let rest = committed_split before after e c in
    let all = committed_notes (before ++ e ∷ after) in
    let own = committed_notes before in
    elim x.attempt.commits as (λ b. cond b (x.attempt ∷ all) all
    ≡ cond b (x.attempt ∷ own) own ++ committed_notes after) [
      | true ↦ ap (λ l. x.attempt ∷ l) rest
      | false ↦ rest
    ]

later_at : (a : TracedAttempt) (before after : List AttemptEntry) (e : AttemptEntry) →
    AllLater a (before ++ e ∷ after) → IsLater e.attempt a
later_at a [] after e h = h.0
later_at a (x ∷ before) after e h = later_at a before after e h.1

earlier_all : (before after : List AttemptEntry) (e : AttemptEntry) → EntriesOrdered (before ++ e ∷ after) →
    Each (λ a. IsLater e.attempt a) (committed_notes before)
earlier_all [] after e o = tt
earlier_all (x ∷ before) after e o =
    let rest = earlier_all before after e o.1 in
    elim x.attempt.commits as (λ b. Each (λ a. IsLater e.attempt a)
    (cond b (x.attempt ∷ committed_notes before) (committed_notes before))) [
      | true ↦ (later_at x.attempt before after e o.0, rest)
      | false ↦ rest
    ]

later_all : (before after : List AttemptEntry) (e : AttemptEntry) → EntriesOrdered (before ++ e ∷ after) →
    AllLater e.attempt after
later_all [] after e o = o.0
later_all (x ∷ before) after e o = later_all before after e o.1

ordered_back : (front back : List AttemptEntry) → EntriesOrdered (front ++ back) → EntriesOrdered back
ordered_back [] back o = o
ordered_back (x ∷ front) back o = ordered_back front back o.1

-- ---- an aborted entry is not among the first

-- the entries before an aborted one are all of the first ones, and others
abbrev Behind : List TracedAttempt → List AttemptEntry → List AttemptEntry → List AttemptEntry → AttemptEntry → Type 0
Behind first rest before after e = (mid : List AttemptEntry)
    × (before ≡ attempt_entries_of 0 first ++ mid) × (rest ≡ mid ++ e ∷ after)

true_false : true ≡ false → ⊥
true_false e = cc

behind_first : (first : List TracedAttempt) (rest before after : List AttemptEntry) (e : AttemptEntry) →
    All (λ a. IsLaidFirst a) first → attempt_entries_of 0 first ++ rest ≡ before ++ e ∷ after →
    e.attempt.commits ≡ false → Behind first rest before after e
behind_first [] rest before after e h same c = (before, refl, same)
behind_first (a ∷ first) rest [] after e h same c =
    let own : AttemptEntry = record { client = 0; attempt = a } in
    let k = heads own e (attempt_entries_of 0 first ++ rest) after same in
    absurd (true_false (sym (h 0 a (omega arith)).commits
    ∙ ap (λ (x : AttemptEntry). x.attempt.commits) k.0 ∙ c))
behind_first (a ∷ first) rest (b ∷ before) after e h same c =
    let own : AttemptEntry = record { client = 0; attempt = a } in
    let k = heads own b (attempt_entries_of 0 first ++ rest) (before ++ e ∷ after) same in
    let q = behind_first first rest before after e (λ i d l. h (suc i) d (omega (arith, l))) k.1 c in (
      q.0,
      ap (λ (x : AttemptEntry). x ∷ before) (sym k.0) ∙ ap (λ l. own ∷ l) q.1,
      q.2,
    )

-- ---- the aborted attempts are those of the pages

module _ (image : List ℕ) (history : List Record) where
  -- if the attempt aborted, then it reads the image of its version
  abbrev AbortedReads : AttemptEntry → Type 0
  AbortedReads e = e.attempt.commits ≡ false → ReadsAtItsPlace image history e.attempt

  abbrev AllRead : List AttemptEntry → Unit {0} → Type 0
  AllRead es s = Each AbortedReads es

  read_under : (e : AttemptEntry) (t t' : List AttemptEntry) →
      ((s : Unit {0}) → AllRead t s → AllRead t' s) → (s : Unit {0}) → AllRead (e ∷ t) s → AllRead (e ∷ t') s
  read_under e t t' h s q = (q.0, h s q.1)

  read_flip : (e f : AttemptEntry) (t : List AttemptEntry) (s : Unit {0}) → AllRead (e ∷ f ∷ t) s →
      AllRead (f ∷ e ∷ t) s
  read_flip e f t s q = (q.1.0, (q.0, q.1.1))

  -- the attempt of a call, if it is noted, committed
  abbrev HasCommitted : CompletedCall → Type 0
  HasCommitted n = IfSome n.attempt (λ a. a.value.commits ≡ true)

  calls_committed : (calls : List CompletedCall) (records : List Record) → AreCallsOf calls records →
      Each HasCommitted calls
  calls_committed [] records h = tt
  calls_committed (n ∷ calls) records h =
      (go n.attempt h.4.attempt, calls_committed calls (h.0 ++ h.2) h.5)
    where
      go : (o : Option (Box TracedAttempt)) → IfSome o (λ a. IsTraceOf (trace_of a.value) h.1) →
          IfSome o (λ a. a.value.commits ≡ true)
      go None k = tt
      go (Some a) k = k.commits

  -- the attempts of a client's calls, and then others
  calls_read : (client : ℕ) (calls others : List CompletedCall) (more : List AttemptEntry) →
      Each HasCommitted (calls ++ others) → (Each HasCommitted others → Each AbortedReads more) →
      Each AbortedReads (attempt_entries_of client (attempts_of calls) ++ more)
  calls_read client [] others more h k = k h
  calls_read client (n ∷ calls) others more h k = go n.attempt h.0 (calls_read client calls others more h.1 k)
    where
      go : (o : Option (Box TracedAttempt)) → IfSome o (λ a. a.value.commits ≡ true) →
          Each AbortedReads (attempt_entries_of client (attempts_of calls) ++ more) →
          Each AbortedReads (attempt_entries_of client (noted_attempt o ++ attempts_of calls) ++ more)
      go None c rest = rest
      go (Some a) c rest = (λ no. absurd (true_false (sym c ∙ no)), rest)

  -- aborted attempts, and then others
  given_up_read : (client : ℕ) (notes : List TracedAttempt) (more : List AttemptEntry) →
      ((a : TracedAttempt) → In a notes → ReadsAtItsPlace image history a) → Each AbortedReads more →
      Each AbortedReads (attempt_entries_of client notes ++ more)
  given_up_read client [] more h k = k
  given_up_read client (a ∷ notes) more h k =
      (λ no. h a (0, refl), given_up_read client notes more (λ b i. h b (suc i.0, i.1)) k)

  pages_read : (client : ℕ) (pages : List Page) → Each HasCommitted (calls_on pages) →
      AbortedReadAtTheirPlaces image history pages → Each AbortedReads (attempt_entries_from client pages)
  pages_read client [] c h = tt
  pages_read client (page ∷ pages) c h =
      let calls = attempt_entries_of client (attempts_of page.calls) in
      let given_up = attempt_entries_of client page.given_up in
      let more = attempt_entries_from (suc client) pages in
      subst (λ (l : List AttemptEntry). Each AbortedReads l) (sym (append_assoc calls given_up more))
      (calls_read client page.calls (calls_on pages) (given_up ++ more) c (λ k.
      given_up_read client page.given_up more (λ a i. h page (0, refl) a i)
      (pages_read (suc client) pages k (λ p j. h p (suc j.0, j.1)))))

  read_at : (before after : List AttemptEntry) (e : AttemptEntry) → Each AbortedReads (before ++ e ∷ after) →
      AbortedReads e
  read_at [] after e h = h.0
  read_at (x ∷ before) after e h = read_at before after e h.1

-- ---- the load

module _ (blocks : ℕ) (pages : List Page) (all : List AttemptEntry) (are : AreAttempts blocks pages all)
    (made : MadeHistory blocks (calls_on pages))
    (aborted : AbortedReadAtTheirPlaces made.image made.history pages) where
  rest_read : Each (λ e. AbortedReads made.image made.history e) are.rest
  rest_read =
      same_keeps (AllRead made.image made.history) (read_under made.image made.history)
      (read_flip made.image made.history) are.rest (attempt_entries_from 0 pages) (rest_same blocks pages all are) tt
      (pages_read made.image made.history 0 pages
      (calls_committed made.image made.history (calls_on pages) made.history made.made) aborted)

  rest_ordered : EntriesOrdered are.rest
  rest_ordered =
      ordered_back (attempt_entries_of 0 are.laid) are.rest
      (subst (λ (l : List AttemptEntry). EntriesOrdered l) are.first (entries_ordered all (follow_on all are.ordered)))

  read_in_place : AbortedReadInPlace made.image are.laid all
  read_in_place before after e split c =
      let q = behind_first are.laid are.rest before after e are.lays.before_all (sym are.first ∙ split) c in
      let mid = q.0 in
      let ordered : EntriesOrdered (mid ++ e ∷ after) =
      subst (λ (l : List AttemptEntry). EntriesOrdered l) q.2 rest_ordered in
      let place : ReadsAtItsPlace made.image made.history e.attempt =
      read_at made.image made.history mid after e
      (subst (λ (l : List AttemptEntry). Each (λ x. AbortedReads made.image made.history x) l) q.2 rest_read) c in
      let both : committed_notes are.rest ≡ committed_notes mid ++ committed_notes after =
      ap committed_notes q.2 ∙ committed_split mid after e c in
      let left = left_is e.attempt place.reader made.image (committed_notes mid) (committed_notes after) made.history
      (subst (λ (l : List TracedAttempt). CorrespondTo l made.history) both (rest_made blocks pages all are made))
      (subst (λ (l : List TracedAttempt). Ordered l) both (committed_ordered are.rest rest_ordered))
      (earlier_all mid after e ordered) (committed_later e.attempt after (later_all mid after e ordered))
      made.sorted made.versioned in
      record {
        made = committed_notes mid;
        committed = ap committed_notes q.1 ∙ committed_first are.laid mid are.lays.before_all;
        reads = subst (λ (i : List ℕ). ReadsImage i e.attempt) (sym left) place.reads;
      }

pub judged_by_times : LoadsAreJudgedByTimes
judged_by_times = λ blocks pages all few are fit made aborted.
    let serial = made_serially made.image made.history are.laid all are.ordered
    (of_history blocks pages all are made) in
    let places = read_in_place blocks pages all are made aborted in
    let legal = aborted_legal made.image are.laid all serial places in
    let judged = judged_by_aborts_and_times blocks pages all few are fit made in (
      in_place_legal made.image are.laid all serial places,
      (
        λ e. let r = judged.0 e in record { turns = r.turns; precedence = r.precedence },
        λ t. judged.1 (record { aborted = legal; turns = t.turns; precedence = t.precedence }),
      ),
    )
