-- The effects of a step on its client, and a list of events beside the records that it decides.
use Rattle.std.proofs.Common.{◌≡◌, ℕ, zero, suc, ◌+◌, ◌-◌, ◌<◌, ◌≤◌, ◌⊎◌, inl, inr, ⊎_elim, Bool, true, false}
use Rattle.std.proofs.Common.{cond, eqb, eq-eqb, List, [], ◌∷◌, ◌++◌, length, length-append, append_assoc}
use Rattle.std.proofs.Common.{append-nil, refl, sym, ap, ◌∙◌, subst, arith}
use mathlib.Core.Option.{some, some-injective, some-ne-none}
use lib.ListN.{get_elem?}
use Rattle.std.proofs.lemmas.Bool.Decides.{nat_tests}
use Rattle.tx_memory.specs.Image.{In}
use Rattle.stm_core.specs.Client.{Client, Record, RecordLaw, running, ending, committed, finished, Stamp, decided}
use Rattle.stm_core.specs.Client.{is_committed, checked, locked, ticked, validated, version_of, word_before}
use Rattle.stm_core.specs.Client.{value_fetched, writes_to}
use Rattle.stm_core.specs.Event.{Action, begin, check, lock, tick, validate, put, give_back}
use Rattle.stm_core.specs.Event.{finish, decision, committed_by, stepping, failing, read_too, holding, versioned}
use Rattle.stm_core.specs.Event.{decides_at_once, won, passes, passing, after}
use Rattle.stm_core.specs.Event.{writer_record, reader_record, with_ticks, marking, counting}
use Rattle.stm_core.specs.Core.{Core, Event, acts}
use Rattle.stm_core.specs.Core.{played, Leads}
use Rattle.stm_core.specs.Version.{At}
use Rattle.stm_core.specs.Listed.{is_begin_of, begins, IsStepOf, made, core_at, decisions, IsDecision, IsMade}
use Rattle.stm_core.proofs.Lists.{clash, in_range, at_longer}
use Rattle.stm_core.proofs.Eras.{in_append, append_left, append_right}
use Rattle.stm_core.proofs.Steps.{by_case, undecided_at}

-- the element at an index of a list with one more element
pub last_at : {A : Type 0} (l : List A) (a b : A) (j : ℕ) → get_elem? (l ++ a ∷ []) j ≡ some b →
    (get_elem? l j ≡ some b) ⊎ ((j ≡ length l) × (a ≡ b))
last_at [] a b zero e = inr (refl, some-injective a b e)
last_at [] a b (suc j) e = absurd (some-ne-none b (sym e))
last_at (x ∷ l) a b zero e = inl e
last_at (x ∷ l) a b (suc j) e = ⊎_elim (λ p. inl p) (λ p. inr (ap suc p.0, p.1)) (last_at l a b j e)

pub at_end : {A : Type 0} (l : List A) (a : A) → get_elem? (l ++ a ∷ []) (length l) ≡ some a
at_end [] a = refl
at_end (x ∷ l) a = at_end l a

pub begins_before : (k : ℕ) (es : List Event) (e : Event) (n : ℕ) → n ≤ length es →
    begins k (es ++ e ∷ []) n ≡ begins k es n
begins_before k es e zero l = refl
begins_before k [] e (suc n) l = absurd (omega arith)
begins_before k (x ∷ es) e (suc n) l = ap (λ m. cond (is_begin_of k x) 1 0 + m) (begins_before k es e n (omega arith))

pub begins_end : (k : ℕ) (es : List Event) (e : Event) → begins k (es ++ e ∷ []) (suc (length es)) ≡ begins k es
    (length es) + cond (is_begin_of k e) 1 0
begins_end k [] e = (let z : cond (is_begin_of k e) 1 0 + 0 ≡ 0 + cond (is_begin_of k e) 1 0 = omega arith in z)
begins_end k (x ∷ es) e = (let h = begins_end k es e in omega (arith, h))

pub begins_more : (k : ℕ) (es : List Event) (n m : ℕ) → n ≤ m → begins k es n ≤ begins k es m
begins_more k es zero m l = omega arith
begins_more k [] (suc n) m l = omega arith
begins_more k (x ∷ es) (suc n) zero l = absurd (omega arith)
begins_more k (x ∷ es) (suc n) (suc m) l = (let h = begins_more k es n m (omega arith) in omega (arith, h))

-- the begin of an attempt comes before all its other steps
begin_counts : (k : ℕ) (es : List Event) (n : ℕ) → get_elem? es n ≡ some (acts k begin) →
    begins k es (suc n) ≡ suc (begins k es n)
begin_counts k [] n e = absurd (some-ne-none (acts k begin) (sym e))
begin_counts k (x ∷ es) zero e = subst (λ y. cond (is_begin_of k y) 1 0 + begins k es 0 ≡ 1)
    (sym (some-injective x (acts k begin) e)) (rw (eq-eqb k k refl) refl)
begin_counts k (x ∷ es) (suc n) e = (let h = begin_counts k es n e in omega (arith, h))

pub begin_first : (k : ℕ) (es : List Event) (a n m : ℕ) (e : Action) → IsStepOf es k a n begin → IsStepOf es k a m e →
    n ≤ m
begin_first k es a n m e b s = by_le (Rattle.std.proofs.Common.leb n m) refl
  where
    by_le : (x : Bool) → Rattle.std.proofs.Common.leb n m ≡ x → n ≤ m
    by_le true t = grind (arith, nat_tests)
    by_le false t = absurd (let l : suc m ≤ n = grind (arith, nat_tests) in let c = begin_counts k es n b.0 in let d =
        begins_more k es (suc m) n l in let p = b.1 in let q = s.1 in omega (arith, c, d, p, q))

module _ (lk : ℕ → ℕ) where
  pub core_before : (c : Core) (es : List Event) (e : Event) (n : ℕ) → n ≤ length es →
      core_at lk c (es ++ e ∷ []) n ≡ core_at lk c es n
  core_before c es e zero l = refl
  core_before c [] e (suc n) l = absurd (omega arith)
  core_before c (x ∷ es) e (suc n) l = core_before (played lk x c) es e n (omega arith)

  core_end : (c : Core) (es : List Event) (e : Event) → core_at lk c (es ++ e ∷ []) (suc (length es)) ≡ played lk e
      (core_at lk c es (length es))
  core_end c [] e = refl
  core_end c (x ∷ es) e = core_end (played lk x c) es e

  decisions_end : (c : Core) (es : List Event) (e : Event) →
      decisions lk c (es ++ e ∷ []) ≡ decisions lk c es ++ made lk e (core_at lk c es (length es))
  decisions_end c [] e = append-nil (made lk e c)
  decisions_end c (x ∷ es) e = ap (λ l. made lk x c ++ l) (decisions_end (played lk x c) es e) ∙
      sym (append_assoc (made lk x c) (decisions lk (played lk x c) es)
      (made lk e (core_at lk (played lk x c) es (length es))))

  pub core_after : (lawful : RecordLaw) (es : List Event) (c d : Core) → Leads lawful lk c es d →
      core_at lk c es (length es) ≡ d
  core_after lawful [] c d h = h
  core_after lawful (e ∷ es) c d h = core_after lawful es (played lk e c) d h.1

-- a step keeps its position when one more event is added
pub step_stays : (es : List Event) (x : Event) (k a n : ℕ) (e : Action) → IsStepOf es k a n e →
    IsStepOf (es ++ x ∷ []) k a n e
step_stays es x k a n e s = (
  at_longer es x (acts k e) n s.0,
  begins_before k es x (suc n) (in_range es n (acts k e) s.0) ∙ s.1,
)

-- the two values of a client agree in all that a list of events determines
pub record Rests (v w : Client) : Type 0 where
  pub number : w.attempt.number ≡ v.attempt.number
  pub runs : w.attempt.phase ≡ running → (v.attempt.phase ≡ running) × (w.attempt.began_at ≡ v.attempt.began_at) ×
      (w.attempt.rv ≡ v.attempt.rv)
  pub ticked : w.attempt.phase ≡ running → 0 < w.attempt.wv → (0 < v.attempt.wv) × (w.attempt.wv ≡ v.attempt.wv) ×
      (w.attempt.ticked_at ≡ v.attempt.ticked_at) × (w.attempt.tag ≡ v.attempt.tag) ×
      (w.attempt.writes ≡ v.attempt.writes)
  pub commits : decided w ≡ true → (decided v ≡ true) × (w.attempt.writes ≡ v.attempt.writes)

-- the origin of a decided record: its point step is this step or an earlier one of the attempt
pub record Origin (t : Stamp) (e : Action) (n : ℕ) (v : Client) (r : Record) : Type 0 where
  pub client : r.client ≡ t.client
  pub attempt : r.attempt ≡ v.attempt.number
  pub reader : r.writer ≡ false → (r.point ≡ v.attempt.began_at) × (r.version ≡ v.attempt.rv)
  pub writer : r.writer ≡ true
      → ((0 < v.attempt.wv) × (r.point ≡ v.attempt.ticked_at) × (r.version ≡ v.attempt.wv) × (r.tag ≡ v.attempt.tag) ×
      (r.writes ≡ v.attempt.writes))
      ⊎ ((e ≡ tick n r.tag r.writes) × (r.point ≡ t.place) × (r.version ≡ n + 1))

-- the ways in which a step changes its client: it begins an attempt, leaves the attempt as it is,
-- wins the tick, or decides
pub data Turn (t : Stamp) (e : Action) (n : ℕ) (v w : Client) (rs : List Record) : Type 0 where
  opens : e ≡ begin → rs ≡ [] → w.attempt.phase ≡ running → w.attempt.number ≡ v.attempt.number + 1 →
      w.attempt.began_at ≡ t.place → w.attempt.rv ≡ n → w.attempt.wv ≡ 0 → Turn t e n v w rs
  rests : ((k j : ℕ) → is_begin_of k (acts j e) ≡ false) → rs ≡ [] → Rests v w → Turn t e n v w rs
  wins : ((k j : ℕ) → is_begin_of k (acts j e) ≡ false) → rs ≡ [] → v.attempt.phase ≡ running →
      w.attempt.number ≡ v.attempt.number → w.attempt.began_at ≡ v.attempt.began_at → w.attempt.rv ≡ v.attempt.rv
      → e ≡ tick n w.attempt.tag w.attempt.writes → w.attempt.ticked_at ≡ t.place → w.attempt.wv ≡ n + 1 →
      decided w ≡ false → Turn t e n v w rs
  decides : (r : Record) → ((k j : ℕ) → is_begin_of k (acts j e) ≡ false) → rs ≡ r ∷ [] → v.attempt.phase ≡ running →
      w.attempt.number ≡ v.attempt.number → (w.attempt.phase ≡ running → ⊥) →
      (decided w ≡ true → (r.writer ≡ true) × (r.writes ≡ w.attempt.writes))
      → Origin t e n v r → Turn t e n v w rs

not_running : {X : Type 0} (p : Rattle.stm_core.specs.Client.Phase) → p ≡ ending → p ≡ running → X
not_running p e r = absurd (let z : ending ≡ running = sym e ∙ r in cc)

pub same : (v w : Client) → w.attempt.number ≡ v.attempt.number → w.attempt.phase ≡ v.attempt.phase →
    w.attempt.began_at ≡ v.attempt.began_at → w.attempt.rv ≡ v.attempt.rv → w.attempt.wv ≡ v.attempt.wv →
    w.attempt.ticked_at ≡ v.attempt.ticked_at → w.attempt.tag ≡ v.attempt.tag → w.attempt.writes ≡ v.attempt.writes →
    Rests v w
same v w number phase began rv wv won_at tag writes = record {
  number = number;
  runs = λ r. (sym phase ∙ r, began, rv);
  ticked = λ r z. (subst (λ n. 0 < n) wv z, wv, won_at, tag, writes);
  commits = λ d. (sym (ap is_committed phase) ∙ d, writes);
}

fails : (v w : Client) → w.attempt.number ≡ v.attempt.number → w.attempt.phase ≡ ending → Rests v w
fails v w number phase = record {
  number = number;
  runs = λ r. not_running w.attempt.phase phase r;
  ticked = λ r z. not_running w.attempt.phase phase r;
  commits = λ d. clash d (ap is_committed phase);
}

module _ (t : Stamp) (lk : ℕ → ℕ) (n : ℕ) (v : Client) where
  pub turn_check : (a : ℕ) → Turn t (check a) n v (after t lk (check a) n v) []
  turn_check a =
      by_case (λ b. Turn t (check a) n v (stepping (checked a (word_before v.attempt.last) n)
      (cond b (read_too a (value_fetched v.attempt.last) v) (failing v))) []) (eqb n (word_before v.attempt.last))
      (λ e. rests (λ k j. refl) refl (same v _ refl refl refl refl refl refl refl refl))
      (λ e. rests (λ k j. refl) refl (fails v _ refl refl))

  pub turn_lock : (a : ℕ) → Turn t (lock a) n v (after t lk (lock a) n v) []
  turn_lock a =
      by_case (λ b. Turn t (lock a) n v (stepping (locked a (word_before v.attempt.last) n)
      (cond b (holding a (version_of n) v) (failing v))) []) (eqb n (word_before v.attempt.last))
      (λ e. rests (λ k j. refl) refl (same v _ refl refl refl refl refl refl refl refl))
      (λ e. rests (λ k j. refl) refl (fails v _ refl refl))

  pub turn_tick : (from : ℕ) (tag : List ℕ) (writes : List (ℕ × ℕ)) → v.attempt.phase ≡ running →
      Turn t (tick from tag writes) n v (after t lk (tick from tag writes) n v) (decision t (tick from tag writes) n v)
  turn_tick from tag writes run =
      let w0 : Client = versioned t (from + 1) tag writes v in
      by_case (λ b. Turn t (tick from tag writes) n v (with_ticks (v.attempt.ticks + 1) n
      (stepping (ticked from n) (cond b (won t (from + 1) tag writes v) v)))
      (cond b (cond (decides_at_once w0) (writer_record t w0.attempt ∷ []) []) [])) (eqb n from)
      (λ e. let is : n ≡ from = grind (arith, nat_tests) in
      by_case (λ b. Turn t (tick from tag writes) n v (with_ticks (v.attempt.ticks + 1) n
      (stepping (ticked from n) (cond b (committed_by t w0) w0))) (cond b (writer_record t w0.attempt ∷ []) []))
      (decides_at_once w0)
      (λ z. decides (writer_record t w0.attempt) (λ k j. refl) refl run refl (λ r. (let q : committed ≡ running = r in
      cc)) (λ d. (refl, refl))
      (record {
        client = refl;
        attempt = refl;
        reader = λ q. clash refl q;
        writer = λ q. inr (ap (λ f. tick f tag writes) (sym is), refl, ap (λ f. f + 1) (sym is));
      }))
      (λ z. wins (λ k j. refl) refl run refl refl refl (ap (λ f. tick f tag writes) (sym is)) refl
      (ap (λ f. f + 1) (sym is)) (undecided_at v run)))
      (λ e. rests (λ k j. refl) refl (same v _ refl refl refl refl refl refl refl refl))

  pub turn_validate : (a : ℕ) → v.attempt.phase ≡ running → 0 < v.attempt.wv →
      Turn t (validate a) n v (after t lk (validate a) n v) (decision t (validate a) n v)
  turn_validate a run number =
      let w0 : Client = counting v in
      by_case (λ b. Turn t (validate a) n v (marking (writes_to v.attempt.held a)
      (stepping (validated a n) (cond b (passing t v) (failing v))))
      (cond b (cond (eqb w0.attempt.passed (length v.attempt.reads)) (writer_record t v.attempt ∷ []) []) []))
      (passes a n v)
      (λ e. by_case (λ b. Turn t (validate a) n v (marking (writes_to v.attempt.held a)
      (stepping (validated a n) (cond b (committed_by t w0) w0))) (cond b (writer_record t v.attempt ∷ []) []))
      (eqb w0.attempt.passed (length v.attempt.reads))
      (λ z. decides (writer_record t v.attempt) (λ k j. refl) refl run refl (λ r. (let q : committed ≡ running = r in
      cc)) (λ d. (refl, refl))
      (record {
        client = refl;
        attempt = refl;
        reader = λ q. clash refl q;
        writer = λ q. inl (number, refl, refl, refl, refl);
      }))
      (λ z. rests (λ k j. refl) refl (same v _ refl refl refl refl refl refl refl refl)))
      (λ e. rests (λ k j. refl) refl (fails v _ refl refl))

  pub turn_finish : (tag : List ℕ) → v.attempt.phase ≡ running →
      Turn t (finish tag) n v (after t lk (finish tag) n v) (decision t (finish tag) n v)
  turn_finish tag run =
      decides (reader_record t tag v.attempt) (λ k j. refl) refl run refl (λ r. (let q : finished ≡ running = r in cc))
      (λ d. (let q : false ≡ true = d in absurd cc))
      (record { client = refl; attempt = refl; reader = λ q. (refl, refl); writer = λ q. clash q refl })

  pub turn_begin : Turn t begin n v (after t lk begin n v) []
  turn_begin = opens refl refl refl refl refl refl refl

  pub turn_give_back : (a : ℕ) → Turn t (give_back a) n v (after t lk (give_back a) n v) []
  turn_give_back a = rests (λ k j. refl) refl (fails v _ refl refl)

module _ (lk : ℕ → ℕ) (start : Core) where
  -- a running attempt began at the position that it records
  abbrev pub Runs : List Event → ℕ → Client → Type 0
  Runs es k v = v.attempt.phase ≡ running → IsStepOf es k v.attempt.number v.attempt.began_at begin ×
      ((core_at lk start es v.attempt.began_at).clock ≡ v.attempt.rv)

  -- an attempt with a write version won its tick at the position that it records
  abbrev pub Ticked : List Event → ℕ → Client → Type 0
  Ticked es k v = v.attempt.phase ≡ running → 0 < v.attempt.wv
      → (from : ℕ) × IsStepOf es k v.attempt.number v.attempt.ticked_at (tick from v.attempt.tag v.attempt.writes) ×
      ((core_at lk start es v.attempt.ticked_at).clock ≡ from) × (v.attempt.wv ≡ from + 1)

  -- a decided writer has its record
  abbrev pub Commits : List Record → ℕ → Client → Type 0
  Commits h k v = decided v ≡ true → (r : Record) × In r h × (r.client ≡ k) × (r.attempt ≡ v.attempt.number) ×
      (r.writer ≡ true) × (r.writes ≡ v.attempt.writes)

  -- the value that a put stores is a write of a record that was decided before
  abbrev pub IsStored : List Event → List Record → (k attempt n a x : ℕ) → Type 0
  IsStored es h k attempt n a x =
      (r : Record) × In r h × (r.client ≡ k) × (r.attempt ≡ attempt) × (r.writer ≡ true) × In (a, x) r.writes ×
      ((m : ℕ) × (m < n) × IsDecision lk start es k attempt m r)

  -- a list of events beside its records and the core that it leads to
  pub record Trace (es : List Event) (c : Core) (h : List Record) : Type 0 where
    pub here : core_at lk start es (length es) ≡ c
    pub count : c.events ≡ length es
    pub number : (i : ℕ) (v : Client) → At c.clients i v → v.is_gathered ≡ false →
        begins (suc i) es (length es) ≡ v.attempt.number
    pub unborn : (i : ℕ) → length c.clients ≤ i → begins (suc i) es (length es) ≡ 0
    pub runs : (i : ℕ) (v : Client) → At c.clients i v → Runs es (suc i) v
    pub ticks : (i : ℕ) (v : Client) → At c.clients i v → Ticked es (suc i) v
    pub commits : (i : ℕ) (v : Client) → At c.clients i v → Commits h (suc i) v
    pub each : (r : Record) → In r h → IsMade lk start es r
    pub all_in : (r : Record) → In r h → In r (decisions lk start es)
    pub all_of : (r : Record) → In r (decisions lk start es) → In r h
    pub as_many : length h ≡ length (decisions lk start es)
    pub stored : (k attempt n a x : ℕ) → IsStepOf es k attempt n (put a x) → IsStored es h k attempt n a x

  -- one more event
  module _ (es : List Event) (c : Core) (h : List Record) (d : Trace es c h) (x : Event) where
    abbrev es' : List Event
    es' = es ++ x ∷ []

    pub longer : length (es ++ x ∷ []) ≡ suc (length es)
    longer = length-append es (x ∷ []) ∙ (let z : length es + 1 ≡ suc (length es) = omega arith in z)

    clock_stays : (n : ℕ) → n < length es → (core_at lk start (es ++ x ∷ []) n).clock ≡ (core_at lk start es n).clock
    clock_stays n l = ap (λ (y : Core). y.clock) (core_before lk start es x n (omega arith))

    pub inside : {k a n : ℕ} {e : Action} → IsStepOf es k a n e → n < length es
    inside {k} {a} {n} {e} s = in_range es n (acts k e) s.0

    pub decision_stays : (k a n : ℕ) (r : Record) → IsDecision lk start es k a n r →
        IsDecision lk start (es ++ x ∷ []) k a n r
    decision_stays k a n r q = (
      q.0,
      step_stays es x k a n q.0 q.1,
      ap (made lk (acts k q.0)) (core_before lk start es x n (let l = inside q.1 in omega arith)) ∙ q.2,
    )

    made_stays : (r : Record) → IsMade lk start es r → IsMade lk start (es ++ x ∷ []) r
    made_stays r m = record {
      decided_at = m.decided_at;
      decided = decision_stays r.client r.attempt m.decided_at r m.decided;
      point = m.point;
      reader = λ t. let q = m.reader t in (
        step_stays es x r.client r.attempt r.point begin q.0,
        clock_stays r.point (inside q.0) ∙ q.1,
      );
      writer = λ t. let q = m.writer t in (
        q.0,
        step_stays es x r.client r.attempt r.point
            (tick q.0 r.tag r.writes) q.1,
        clock_stays r.point (inside q.1) ∙ q.2,
        q.3,
      );
      began_at = m.began_at;
      began = step_stays es x r.client r.attempt m.began_at begin m.began;
      begins_first = m.begins_first;
    }

    pub runs_stay : (k : ℕ) (v : Client) → Runs es k v → Runs (es ++ x ∷ []) k v
    runs_stay k v f r = let q = f r in (
      step_stays es x k v.attempt.number v.attempt.began_at begin q.0,
      clock_stays v.attempt.began_at (inside q.0) ∙ q.1,
    )

    pub ticked_stay : (k : ℕ) (v : Client) → Ticked es k v → Ticked (es ++ x ∷ []) k v
    ticked_stay k v f r z = let q = f r z in (
      q.0,
      step_stays es x k v.attempt.number v.attempt.ticked_at
          (tick q.0 v.attempt.tag v.attempt.writes) q.1,
      clock_stays v.attempt.ticked_at (inside q.1) ∙ q.2,
      q.3,
    )

    -- a client that does not begin has begun as many attempts as before
    pub unbegun : (k : ℕ) → is_begin_of k x ≡ false → begins k (es ++ x ∷ []) (length (es ++ x ∷ [])) ≡ begins k es
        (length es)
    unbegun k e = ap (begins k (es ++ x ∷ [])) longer ∙ (begins_end k es x ∙
        rw e (let z : begins k es (length es) + 0 ≡ begins k es (length es) = omega arith in z))

    -- the event itself, a step of a client that has begun this many attempts
    pub itself : (k a : ℕ) (e : Action) → x ≡ acts k e → begins k (es ++ x ∷ []) (length (es ++ x ∷ [])) ≡ a →
        IsStepOf (es ++ x ∷ []) k a (length es) e
    itself k a e is b = (at_end es x ∙ ap some is, ap (begins k (es ++ x ∷ [])) (sym longer) ∙ b)

    pub its_clock : (core_at lk start (es ++ x ∷ []) (length es)).clock ≡ c.clock
    its_clock = ap (λ (y : Core). y.clock) (core_before lk start es x (length es) (Rattle.std.proofs.Common.le_refl _) ∙
        d.here)

    pub its_core : core_at lk start (es ++ x ∷ []) (length es) ≡ c
    its_core = core_before lk start es x (length es) (Rattle.std.proofs.Common.le_refl _) ∙ d.here

    -- the effects of the event on the clients and on the records are given
    module _ (h' : List Record) (from : (r : Record) → In r h' → In r h ⊎ In r (made lk x c)) (old : (r : Record) →
        In r h → In r h') (new : (r : Record) → In r (made lk x c) →
        In r h') (many : length h' ≡ length h + length (made lk x c))
        (counts : (played lk x c).events ≡ c.events + 1)
        (number' : (i : ℕ) (v : Client) → At (played lk x c).clients i v → v.is_gathered ≡ false →
        begins (suc i) (es ++ x ∷ []) (length (es ++ x ∷ [])) ≡ v.attempt.number)
        (unborn' : (i : ℕ) → length (played lk x c).clients ≤ i →
        begins (suc i) (es ++ x ∷ []) (length (es ++ x ∷ [])) ≡ 0)
        (runs' : (i : ℕ) (v : Client) → At (played lk x c).clients i v → Runs (es ++ x ∷ []) (suc i) v)
        (ticks' : (i : ℕ) (v : Client) → At (played lk x c).clients i v → Ticked (es ++ x ∷ []) (suc i) v)
        (commits' : (i : ℕ) (v : Client) → At (played lk x c).clients i v → Commits h' (suc i) v)
        (each' : (r : Record) → In r (made lk x c) → IsMade lk start (es ++ x ∷ []) r)
        (stored' : (k a y : ℕ) → x ≡ acts k (put a y) → IsStored (es ++ x ∷ []) h' k
        (begins k (es ++ x ∷ []) (suc (length es))) (length es) a y) where
      made_at : decisions lk start (es ++ x ∷ []) ≡ decisions lk start es ++ made lk x c
      made_at = decisions_end lk start es x ∙ ap (λ y. decisions lk start es ++ made lk x y) d.here

      stored_on : (k attempt n a y : ℕ) → IsStored es h k attempt n a y → IsStored (es ++ x ∷ []) h' k attempt n a y
      stored_on k attempt n a y q = (
        q.0,
        old q.0 q.1,
        q.2,
        q.3,
        q.4,
        q.5,
        (q.6.0, q.6.1, decision_stays k attempt q.6.0 q.0 q.6.2),
      )

      pub trace_on : Trace (es ++ x ∷ []) (played lk x c) h'
      trace_on = record {
        here = ap (core_at lk start (es ++ x ∷ [])) longer ∙ (core_end lk start es x ∙ ap (played lk x) d.here);
        count = counts ∙ (let a = d.count in let b = longer in omega (arith, a, b));
        number = number';
        unborn = unborn';
        runs = runs';
        ticks = ticks';
        commits = commits';
        each = λ r i. ⊎_elim (λ p. made_stays r (d.each r p)) (λ p. each' r p) (from r i);
        all_in = λ r i. subst (In r) (sym made_at) (⊎_elim (λ p. append_left (decisions lk start es) (made lk x c) r
            (d.all_in r p)) (λ p. append_right (decisions lk start es) (made lk x c) r p) (from r i));
        all_of = λ r i. ⊎_elim (λ p. old r (d.all_of r p)) (λ p. new r p)
            (in_append (decisions lk start es) (made lk x c) r (subst (In r) made_at i));
        as_many = many ∙ (ap (λ n. n + length (made lk x c)) d.as_many ∙
            (sym (length-append (decisions lk start es) (made lk x c)) ∙ ap length (sym made_at)));
        stored = λ k attempt n a y s. ⊎_elim
            (λ p. let before = begins_before k es x (suc n) (in_range es n (acts k (put a y)) p) in
            stored_on k attempt n a y (d.stored k attempt n a y (p, sym before ∙ s.1)))
            (λ p. subst (λ m. IsStored (es ++ x ∷ []) h' k attempt m a y) (sym p.0)
            (subst (λ m. IsStored (es ++ x ∷ []) h' k m (length es) a y)
            (ap (λ m. begins k (es ++ x ∷ []) (suc m)) (sym p.0) ∙ s.1) (stored' k a y p.1)))
            (last_at es x (acts k (put a y)) n s.0);
      }
