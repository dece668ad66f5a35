-- A list of allowed events from the opening on, and the properties of the core that it leads to.
use Rattle.std.proofs.Common.{◌≡◌, ◌≢◌, ℕ, zero, suc, ◌+◌, ◌-◌, ◌<◌, ◌≤◌, ◌⊎◌, inl, inr, ⊎_elim, Bool, true, false}
use Rattle.std.proofs.Common.{cond, eqb, List, [], ◌∷◌, ◌++◌, append-nil, append_assoc, ltb, length, length-append}
use Rattle.std.proofs.Common.{length-set, set, set-set, slice_index, slice_set, refl, sym, ap, ◌∙◌, subst, arith}
use Rattle.std.proofs.Common.{le_refl}
use mathlib.Core.Option.{some, some-injective, some-ne-none}
use mathlib.Core.Logic.{dite}
use native.Mathlib.Decide.{ℕ_discrete}
use lib.ListN.{get_elem?}
use Rattle.std.proofs.lemmas.Bool.Decides.{nat_tests}
use Rattle.tx_memory.specs.Image.{In, Agrees}
use Rattle.stm_core.specs.History.{Serial, image_after, image_at, image_upto, Ascending, ByPoint}
use Rattle.stm_core.specs.Client.{shed, rank, is_settled, Client, Record, idle, running, ending, checked, locked}
use Rattle.stm_core.specs.Client.{ticked, validated, Stamp, version_of, word_before, value_fetched, writes_to}
use Rattle.stm_core.specs.Client.{RecordLaw}
use Rattle.stm_core.specs.Event.{decision, Action, begin, probe, fetch, check, lock, tick, validate, put, release}
use Rattle.stm_core.specs.Event.{give_back, finish, committed_by, stepping, failing, read_too, holding, versioned}
use Rattle.stm_core.specs.Event.{decides_at_once, won, passes, passing, after, giving, fresh, renewing, gone, opener}
use Rattle.stm_core.specs.Event.{writer_record, reader_record, with_ticks, marking, counting}
use Rattle.stm_core.specs.Core.{Core, bounds_of, found, stepped, divided, gathered, renewed, IsFreeHanded, Event, acts}
use Rattle.stm_core.specs.Core.{splits, gathers, renews, client_of, Allowed, played, Leads, opened}
use Rattle.stm_core.specs.Version.{At, IsOpen}
use Rattle.stm_core.specs.Invariant.{now, Rule, KeepsAborted}
use Rattle.stm_core.specs.Theorem.{IsHistory, IsSerializable, EveryListIsSerializable}
use Rattle.stm_core.specs.Guards.{stripe_of}
use Rattle.stm_core.proofs.Lists.{at_set, set_here, same_at, by_bool, clash, nothing_in, only_one}
use Rattle.stm_core.proofs.Steps.{undecided_at, by_case}
use Rattle.stm_core.proofs.Histories.{Ahead, Ranked, rank_writer, rank_reader, serial, image_last}
use Rattle.stm_core.proofs.Facts.{ahead_by, agrees_by, aborted_by, cells_by}
use Rattle.stm_core.proofs.Aborting.{AllAborted, bare_aborted, act_aborted, split_aborted, gather_aborted}
use Rattle.stm_core.proofs.Aborting.{renew_aborted, all_agree}
use Rattle.stm_core.proofs.Eras.{in_append, append_left, append_right, of_is}
use Rattle.stm_core.proofs.Lones.{at_map, at_unmap, goes_on}
use Rattle.stm_core.proofs.Renewals.{step_rules, now_stepped, may_shed, pre, map_length, eqb_yes}
use Rattle.stm_core.proofs.Renewing.{split_rules, gather_rules, renew_rules, opening_rules, now_divided, now_gathered}
use Rattle.stm_core.proofs.Renewing.{whole, at_below, serial_append, image_append}
use Rattle.stm_core.proofs.Dating.{Mark, IsDated, Dated, placed, in_placed, placed_in, placed_old, date_step}
use Rattle.stm_core.proofs.Dating.{date_decide, date_longer, date_join, ranked_by}
use Rattle.stm_core.proofs.Conditions.{IsReading, CanAct, CanPlay, IsAlone, can_play}
use Rattle.stm_core.proofs.Traced.{Trace}
use Rattle.stm_core.proofs.Tracing.{at_most_one, act_trace, split_trace, gather_trace, renew_trace}
use Rattle.stm_core.proofs.Tracing.{opening_trace, of_list}
use Rattle.stm_core.specs.Listed.{made}
use Rattle.stm_core.proofs.Orders.{in_cons}

not_running : (c : Client) → c.attempt.phase ≡ ending → IsReading c.attempt → ⊥
not_running c e r = (let z : ending ≡ running = sym e ∙ r.0 in cc)

unsettled : (v : Client) → v.attempt.phase ≡ running → is_settled v.attempt.phase ≡ true → ⊥
unsettled v e s = clash s (ap is_settled e)

unsettled_end : (v : Client) → v.attempt.phase ≡ ending → is_settled v.attempt.phase ≡ true → ⊥
unsettled_end v e s = clash s (ap is_settled e)

set_same : {A : Type 0} (l : List A) (i : ℕ) (v : A) → get_elem? l i ≡ some v → set l i v ≡ l
set_same [] i v e = refl
set_same (x ∷ l) zero v e = λ j. sym (some-injective x v e) j ∷ l
set_same (x ∷ l) (suc i) v e = λ j. x ∷ set_same l i v e j

-- the history with the decision of a step put in by point steps
abbrev pub filed : List Record → List Record → List Record
filed [] h = h
filed (r ∷ rs) h = placed r h

filed_from : (rs h : List Record) (x : Record) → In x (filed rs h) → In x h ⊎ In x rs
filed_from [] h x i = inl i
filed_from (r ∷ rs) h x i = ⊎_elim (λ e. inr (0, ap some e)) (λ p. inl p) (in_placed r h x i)

filed_old : (rs h : List Record) (x : Record) → In x h → In x (filed rs h)
filed_old [] h x i = i
filed_old (r ∷ rs) h x i = placed_old r h x i

-- a list of at most one record
abbrev AtMostOne : List Record → Type 0
AtMostOne rs = (rs ≡ []) ⊎ ((r : Record) × (rs ≡ r ∷ []))

filed_new : (rs h : List Record) (x : Record) → AtMostOne rs → In x rs → In x (filed rs h)
filed_new rs h x (inl e) i = absurd (nothing_in x (subst (In x) e i))
filed_new rs h x (inr q) i = rw q.1 (⊎_elim (λ e. subst (λ y. In y (placed q.0 h)) e (placed_in q.0 h))
    (λ p. absurd (nothing_in x p)) (in_cons q.0 x [] (subst (In x) q.1 i)))

placed_length : (r : Record) (h : List Record) → length (placed r h) ≡ suc (length h)
placed_length r [] = refl
placed_length r (x ∷ h) = by_case (λ b. length (cond b (r ∷ x ∷ h) (x ∷ placed r h)) ≡ suc (length (x ∷ h)))
    (ltb r.point x.point) (λ e. refl) (λ e. ap suc (placed_length r h))

filed_length : (rs h : List Record) → AtMostOne rs → length (filed rs h) ≡ length h + length rs
filed_length rs h (inl e) = rw e (omega arith)
filed_length rs h (inr q) = rw q.1 (let p = placed_length q.0 h in omega (arith, p))

-- the history after an event
abbrev pub history_after : (ℕ → ℕ) → Event → Core → List Record → List Record
history_after lk (acts k e) c h = filed (decision (record { client = k; place = c.events; renewal = c.renewal }) e
    (found lk c e) (client_of c k)) h
history_after lk (splits k) c h = h
history_after lk (gathers k j) c h = h
history_after lk (renews k last) c h = []

-- the history of the earlier renewals after an event
abbrev pub earlier_after : Event → List Record → List Record → List Record
earlier_after (renews k last) old h = old ++ h
earlier_after _ old h = old

-- a core beside its history
abbrev pub IsDatedBy : List Record → List Record → Core → Type 0
IsDatedBy old h c = Dated old c.clock c.events c.clients h

module _ (lawful : RecordLaw) (lk : ℕ → ℕ) (old : List Record) (c : Core) (h : List Record)
    (d : Dated old c.clock c.events c.clients h) (i : ℕ) (v : Client) (at : At c.clients i v)
    (live : v.is_gathered ≡ false) where
  abbrev stamp : Stamp
  stamp = record { client = suc i; place = c.events; renewal = c.renewal }

  abbrev Next : Action → Type 0
  Next e = IsDatedBy old (filed (decision stamp e (found lk c e) v) h) (stepped stamp lk e i v c)

  -- a step that leaves the read version, the write version and their positions as they are
  quiet : (w : Client) → w.records ≡ v.records → w.is_gathered ≡ v.is_gathered →
      (IsReading w.attempt → IsReading v.attempt × (w.attempt.began_at ≡ v.attempt.began_at) ×
      (w.attempt.rv ≡ v.attempt.rv)) → (IsOpen w → IsOpen v × (w.attempt.ticked_at ≡ v.attempt.ticked_at) ×
      (w.attempt.wv ≡ v.attempt.wv)) → w.attempt.number ≡ v.attempt.number →
      (is_settled v.attempt.phase ≡ true → is_settled w.attempt.phase ≡ true)
      → Dated old c.clock (c.events + 1) (set c.clients i w) h
  quiet w records is_gathered reading ticking attempt settled =
      date_step old c.clock c.events c.clients h d i v w at c.clock (le_refl _) records is_gathered
      (λ r. inl (reading r)) (λ o. inl (ticking o)) (inr (attempt, settled))

  begin_dates : Next begin
  begin_dates = date_step old c.clock c.events c.clients h d i v (after stamp lk begin c.clock v) at c.clock
      (le_refl _) refl refl (λ r. inr (refl, refl, refl)) (λ o. absurd (let z = o.0 in omega arith)) (inl (omega arith))

  probe_dates : (k : ℕ) → Next (probe k)
  probe_dates k = quiet (after stamp lk (probe k) (slice_index c.locks k) v) refl refl (λ r. (r, refl, refl))
      (λ o. (o, refl, refl)) refl (λ s. s)

  fetch_dates : (a : ℕ) → Next (fetch a)
  fetch_dates a = quiet (after stamp lk (fetch a) (slice_index c.cells a) v) refl refl (λ r. (r, refl, refl))
      (λ o. (o, refl, refl)) refl (λ s. s)

  closed : IsReading v.attempt → 0 < v.attempt.wv → ⊥
  closed r z = (let e = r.1 in omega arith)

  check_dates : (a : ℕ) → IsReading v.attempt → Next (check a)
  check_dates a may =
      let n = slice_index c.locks (lk a) in
      by_case (λ b. Dated old c.clock (c.events + 1) (slice_set c.clients i
      (stepping (checked a (word_before v.attempt.last) n)
      (cond b (read_too a (value_fetched v.attempt.last) v) (failing v)))) h) (eqb n (word_before v.attempt.last))
      (λ e. quiet (stepping (checked a (word_before v.attempt.last) n) (read_too a (value_fetched v.attempt.last) v))
      refl refl (λ r. (r, refl, refl)) (λ o. (o, refl, refl)) refl (λ s. s))
      (λ e. let w : Client = stepping (checked a (word_before v.attempt.last) n) (failing v) in
      quiet w refl refl (λ r. absurd (not_running w refl r)) (λ o. absurd (closed may o.0)) refl
      (λ s. absurd (unsettled v may.0 s)))

  lock_dates : (k : ℕ) → IsReading v.attempt → Next (lock k)
  lock_dates k may =
      let n = slice_index c.locks k in
      by_case (λ b. Dated old c.clock (c.events + 1) (slice_set c.clients i
      (stepping (locked k (word_before v.attempt.last) n) (cond b (holding k (version_of n) v) (failing v)))) h)
      (eqb n (word_before v.attempt.last))
      (λ e. quiet (stepping (locked k (word_before v.attempt.last) n) (holding k (version_of n) v)) refl refl
      (λ r. (r, refl, refl)) (λ o. (o, refl, refl)) refl (λ s. s))
      (λ e. let w : Client = stepping (locked k (word_before v.attempt.last) n) (failing v) in
      quiet w refl refl (λ r. absurd (not_running w refl r)) (λ o. absurd (closed may o.0)) refl
      (λ s. absurd (unsettled v may.0 s)))

  -- a decision right after a step of the same client
  then_decided : (clock events : ℕ) (w : Client) (g : Dated old clock events (set c.clients i w) h) → IsOpen w →
      w.is_gathered ≡ v.is_gathered → Dated old clock events (set c.clients i (committed_by stamp w))
      (placed (writer_record stamp w.attempt) h)
  then_decided clock events w g open' is_gathered =
      let here : At (set c.clients i w) i w = set_here c.clients i v w at in
      let q = (g.each i w here).ticking open' in
      subst (λ cs. Dated old clock events cs (placed (writer_record stamp w.attempt) h))
      (set-set c.clients i w (committed_by stamp w))
      (date_decide old clock events (set c.clients i w) h g i w (committed_by stamp w) here
      (writer_record stamp w.attempt) (inr (open', refl)) refl refl
      (λ p m. ⊎_elim (λ s. (let z = s.0.0 in cc)) (λ s. clash refl s.0.1) m)
      (record { past = q.0; writer = λ t. (q.1, q.2); reader = λ t. clash refl t }) refl refl refl refl)

  tick_dates : (from : ℕ) (tag : List ℕ) (writes : List (ℕ × ℕ)) → IsReading v.attempt → Next (tick from tag writes)
  tick_dates from tag writes may =
      let w0 : Client = versioned stamp (from + 1) tag writes v in
      by_case (λ b. Dated old (cond b (from + 1) c.clock) (c.events + 1)
      (slice_set c.clients i (with_ticks (v.attempt.ticks + 1) c.clock
      (stepping (ticked from c.clock) (cond b (won stamp (from + 1) tag writes v) v))))
      (filed (cond b (cond (decides_at_once w0) (writer_record stamp w0.attempt ∷ []) []) []) h)) (eqb c.clock from)
      (λ e. let same : c.clock ≡ from = grind (arith, nat_tests) in
      let w : Client = with_ticks (v.attempt.ticks + 1) c.clock (stepping (ticked from c.clock) w0) in
      let open' : IsOpen w = (omega arith, undecided_at v may.0) in
      let g : Dated old (from + 1) (c.events + 1) (set c.clients i w) h =
      date_step old c.clock c.events c.clients h d i v w at (from + 1) (omega arith) refl refl (λ r. absurd (let z =
      r.1 in omega arith)) (λ o. inr (refl, omega arith, omega arith)) (inr (refl, λ s. s)) in
      by_case (λ b. Dated old (from + 1) (c.events + 1) (slice_set c.clients i
      (with_ticks (v.attempt.ticks + 1) c.clock (stepping (ticked from c.clock)
      (cond b (committed_by stamp w0) w0)))) (filed (cond b (writer_record stamp w0.attempt ∷ []) []) h))
      (decides_at_once w0)
      (λ z. then_decided (from + 1) (c.events + 1) w g open' refl)
      (λ z. g))
      (λ e. quiet (with_ticks (v.attempt.ticks + 1) c.clock (stepping (ticked from c.clock) v)) refl refl
      (λ r. (r, refl, refl)) (λ o. (o, refl, refl)) refl (λ s. s))

  validate_dates : (k : ℕ) → v.attempt.phase ≡ running → 0 < v.attempt.wv → Next (validate k)
  validate_dates k run number =
      let n = slice_index c.locks k in
      let w0 : Client = counting v in
      by_case (λ b. Dated old c.clock (c.events + 1) (slice_set c.clients i
      (marking (writes_to v.attempt.held k) (stepping (validated k n) (cond b (passing stamp v) (failing v)))))
      (filed (cond b (cond (eqb w0.attempt.passed (length v.attempt.reads))
      (writer_record stamp w0.attempt ∷ []) []) []) h)) (passes k n v)
      (λ e. let w : Client = marking (writes_to v.attempt.held k) (stepping (validated k n) w0) in
      let open' : IsOpen w = (number, undecided_at v run) in
      let g : Dated old c.clock (c.events + 1) (set c.clients i w) h =
      quiet w refl refl (λ r. (r, refl, refl)) (λ o. (o, refl, refl)) refl (λ s. s) in
      by_case (λ b. Dated old c.clock (c.events + 1) (slice_set c.clients i
      (marking (writes_to v.attempt.held k) (stepping (validated k n) (cond b (committed_by stamp w0) w0))))
      (filed (cond b (writer_record stamp w0.attempt ∷ []) []) h)) (eqb w0.attempt.passed (length v.attempt.reads))
      (λ z. then_decided c.clock (c.events + 1) w g open' refl)
      (λ z. g))
      (λ e. let w : Client = marking (writes_to v.attempt.held k) (stepping (validated k n) (failing v)) in
      quiet w refl refl (λ r. absurd (not_running w refl r)) (λ o. ((number, undecided_at v run), refl, refl)) refl
      (λ s. absurd (unsettled v run s)))

  put_dates : (a x : ℕ) → Next (put a x)
  put_dates a x = quiet (after stamp lk (put a x) (slice_index c.cells a) v) refl refl (λ r. (r, refl, refl))
      (λ o. (o, refl, refl)) refl (λ s. s)

  release_dates : (k : ℕ) → Next (release k)
  release_dates k = quiet (after stamp lk (release k) (slice_index c.locks k) v) refl refl (λ r. (r, refl, refl))
      (λ o. (o, refl, refl)) refl (λ s. s)

  give_back_dates : (k : ℕ) → (v.attempt.phase ≡ running) ⊎ (v.attempt.phase ≡ ending) → Next (give_back k)
  give_back_dates k may = let w : Client = after stamp lk (give_back k) (slice_index c.locks k) v in
      quiet w refl refl (λ r. absurd (not_running w refl r)) (λ o. absurd (let z = o.0 in omega arith)) refl
      (λ s. absurd (⊎_elim (λ e. unsettled v e s) (λ e. unsettled_end v e s) may))

  finish_dates : (tag : List ℕ) → IsReading v.attempt → Next (finish tag)
  finish_dates tag may =
      let r : Record = reader_record stamp tag v.attempt in
      let w : Client = after stamp lk (finish tag) c.clock v in
      let g : Dated old c.clock (c.events + 1) (set c.clients i v) h =
      quiet v refl refl (λ q. (q, refl, refl)) (λ o. (o, refl, refl)) refl (λ s. s) in
      let k : Dated old c.clock (c.events + 1) c.clients h =
      subst (λ cs. Dated old c.clock (c.events + 1) cs h) (set_same c.clients i v at) g in
      let q = (k.each i v at).reading may in
      date_decide old c.clock (c.events + 1) c.clients h k i v w at r (inl (may, refl)) refl refl
      (λ p m. ⊎_elim (λ s. (let z = s.0.0 in cc)) (λ s. (let z = s.0.0 in closed may z)) m)
      (record { past = q.0; writer = λ t. clash t refl; reader = λ t. (q.1, q.2) }) refl refl refl refl

  act_dates : (e : Action) → CanAct lawful lk (bounds_of c) e v.attempt → Next e
  act_dates begin may = begin_dates
  act_dates (probe k) may = probe_dates k
  act_dates (fetch a) may = fetch_dates a
  act_dates (check a) may = check_dates a may.0
  act_dates (lock k) may = lock_dates k may.0
  act_dates (tick from tag writes) may = tick_dates from tag writes may.0
  act_dates (validate k) may = validate_dates k may.0 may.1
  act_dates (put a x) may = put_dates a x
  act_dates (release k) may = release_dates k
  act_dates (give_back k) may = give_back_dates k may.0
  act_dates (finish tag) may = finish_dates tag may.0

  split_dates : IsDatedBy old h (divided i v c)
  split_dates = date_longer old c.clock (c.events + 1) (set c.clients i (giving v)) h
      (quiet (giving v) refl refl (λ r. (r, refl, refl)) (λ o. (o, refl, refl)) refl (λ s. s)) (fresh v)
      (λ p m. ⊎_elim (λ s. (let z = s.0.0 in cc)) (λ s. (let z = s.0.0 in omega arith)) m) refl

  gather_dates : (j : ℕ) (w : Client) → At c.clients j w → i ≢ j → IsDatedBy old h (gathered i v j w c)
  gather_dates j w to ne =
      let g : Dated old c.clock (c.events + 1) (set c.clients i v) h =
      quiet v refl refl (λ q. (q, refl, refl)) (λ o. (o, refl, refl)) refl (λ s. s) in
      let k : Dated old c.clock (c.events + 1) c.clients h =
      subst (λ cs. Dated old c.clock (c.events + 1) cs h) (set_same c.clients i v at) g in
      date_join old c.clock (c.events + 1) c.clients h k i j v w at to ne live

by_append : (l k : List Record) → ByPoint l → ByPoint k → ((x y : Record) → In x l → In y k → x.point < y.point) →
    ByPoint (l ++ k)
by_append [] k s t f = t
by_append (x ∷ l) k s t f = (
  λ r i. ⊎_elim (λ p. s.0 r p) (λ p. f x r (0, refl) p) (in_append l k r i),
  by_append l k s.1 t (λ y z i j. f y z (suc i.0, i.1) j),
)

-- the fields of a core that a renewal keeps
pub record Frame : Type 0 where
  pub first : List ℕ
  pub opening : List ℕ
  pub past : List Record

abbrev pub frame_of : Core → Frame
frame_of c = record { first = c.first; opening = c.opening; past = c.past }

-- the history of the earlier renewals
pub record Earlier (old : List Record) (f : Frame) : Type 0 where
  pub serial : Serial f.first old
  pub leads : image_after f.first old ≡ f.opening
  pub ascending : ByPoint old
  pub all : (r : Record) → In r f.past → In r old
  pub only : (r : Record) → In r old → In r f.past

frame_stays : (t : Stamp) (lk : ℕ → ℕ) (e : Action) (i : ℕ) (v : Client) (c : Core) →
    frame_of c ≡ frame_of (stepped t lk e i v c)
frame_stays t lk begin i v c = refl
frame_stays t lk _ i v c = refl

module _ (lawful : RecordLaw) (lk : ℕ → ℕ) where
  -- a core beside the history of the earlier renewals and that of the present one
  pub record Beside (old h : List Record) (c : Core) : Type 0 where
    pub rule : Rule lawful lk c
    pub dated : IsDatedBy old h (now c)
    pub earlier : Earlier old (frame_of c)
    pub aborted : AllAborted c.first old c.renewal c.clients

  -- a renewal begins a new history
  module _ (old h : List Record) (c : Core) (b : Beside old h c) (i : ℕ) (v : Client) (at : At c.clients i v)
      (free : IsFreeHanded v) (others : IsAlone c i) (last : ℕ) where
    abbrev v' : Client
    v' = shed c.renewal v

    at' : At (now c).clients i v'
    at' = at_map (shed c.renewal) c.clients i v at

    is_gone : (j : ℕ) (o : Client) → At c.clients j o → j ≢ i → o ≡ gone
    is_gone j o e n = b.rule.past.are_gone j o e (others j o e n)

    abbrev d : Dated old c.clock c.events (now c).clients h
    d = b.dated

    ahead : Ahead c.opening b.rule.inv.story h c.opening 0
    ahead = ahead_by lawful lk (now c) b.rule.inv h (ranked_by old c.clock c.events (now c).clients h d h d.ascending
        (λ r m. m)) (λ r m. d.only r m) (λ j o r e m. d.every j o r e m)

    -- the clients afterwards
    who : (P : ℕ → Client → Type 0) → P i (shed (c.renewal + 1) (renewing v)) → ((j : ℕ) → P j gone) →
        (j : ℕ) (o : Client) → At (now (renewed i last v c)).clients j o → P j o
    who P mine else j o e =
        let q = at_unmap (shed (c.renewal + 1)) (set c.clients i (renewing v)) j o e in
        subst (P j) q.2 (⊎_elim (λ p. subst (λ y. P j (shed (c.renewal + 1) y)) p.1
        (subst (λ n. P n (shed (c.renewal + 1) (renewing v))) (sym p.0) mine))
        (λ p. subst (λ y. P j (shed (c.renewal + 1) y)) (sym (is_gone j q.0 p.1 p.0)) (else j))
        (at_set c.clients i j (renewing v) q.0 q.1))

    no_mark : (w : Client) → w.attempt.phase ≡ idle → w.attempt.wv ≡ 0 → (p : ℕ) → Mark w p → ⊥
    no_mark w e z p m = ⊎_elim (λ q. (let k : idle ≡ running = sym e ∙ q.0.0 in cc)) (λ q. (let k = q.0.0 in
        omega (arith, z))) m

    unmarked : (j : ℕ) (o : Client) → At (now (renewed i last v c)).clients j o → (p : ℕ) → Mark o p → ⊥
    unmarked = who (λ j o. (p : ℕ) → Mark o p → ⊥) (λ p m. no_mark (renewing v) refl refl p m)
        (λ j p m. no_mark gone refl refl p m)

    same_length : length (now (renewed i last v c)).clients ≡ length (now c).clients
    same_length = map_length (shed (c.renewal + 1)) (set c.clients i (renewing v)) ∙
        (length-set c.clients i (renewing v) ∙ sym (map_length (shed c.renewal) c.clients))

    renew_dates : IsDatedBy (old ++ h) [] (now (renewed i last v c))
    renew_dates = record {
      time = λ p. 0;
      grows = λ p q l. le_refl _;
      now = refl;
      stamped = λ r m. absurd (nothing_in r m);
      each = λ j o e. record {
        reading = λ q. absurd (unmarked j o e o.attempt.began_at (inl (q, refl)));
        ticking = λ q. absurd (unmarked j o e o.attempt.ticked_at (inr (q, refl)));
      };
      unused = λ j o p r e m k. absurd (nothing_in r k);
      apart = λ j k o q p e f n m m'. unmarked j o e p m;
      ascending = tt;
      every = λ j o r e m. absurd (let q = at_unmap (shed (c.renewal + 1)) (set c.clients i (renewing v)) j o e in
          none j q.0 q.1 r (subst (λ (y : Client). In r y.records) (sym q.2) m));
      only = λ r m. absurd (nothing_in r m);
      known = λ r m. absurd (nothing_in r m);
      numbered = λ j o r e s m k. absurd (nothing_in r m);
      old_past = λ r m. ⊎_elim (λ p. (let q = d.old_past r p in omega arith)) (λ p. (let q = (d.stamped r p).past in
          omega arith)) (in_append old h r m);
      old_before = λ r x m k. absurd (nothing_in x k);
      old_marked = λ j o p r e m k. absurd (unmarked j o e p m);
      old_known = λ r m. rw same_length (⊎_elim (λ p. d.old_known r p) (λ p. d.known r p) (in_append old h r m));
      old_numbered = λ j o r e s m k. who (λ n y. y.is_gathered ≡ false → r.client ≡ suc n →
          (r.attempt ≤ y.attempt.number) × (r.attempt ≡ y.attempt.number → is_settled y.attempt.phase ≡ true))
          (λ s' k'. (
            ⊎_elim (λ p. (d.old_numbered i v' r at' free.0 p k').0)
                (λ p. (d.numbered i v' r at' free.0 p k').0) (in_append old h r m),
            λ z. refl,
          )) (λ n s'. clash refl s') j o e s k;
    }
      where
        none : (j : ℕ) (o : Client) → At (set c.clients i (renewing v)) j o → (r : Record) →
            In r (shed (c.renewal + 1) o).records → ⊥
        none j o e r m = let q = of_is (c.renewal + 1) o.records r m in
            ⊎_elim (λ p. let k : In r v.records = subst (λ (y : Client). In r y.records) (sym p.1) q.0 in
            let l = (renew_rules lawful lk c b.rule i v at free others last).past.earlier r k in let z = q.1 in
            omega arith)
            (λ p. nothing_in r (subst (λ (y : Client). In r y.records) (is_gone j o p.1 p.0) q.0))
            (at_set c.clients i j (renewing v) o e)

    whole_is : v.records ≡ c.past ++ v'.records
    whole_is = whole lawful lk c b.rule i v at free others last

    nobody_holds : (j : ℕ) (o : Client) → At (now c).clients j o → o.attempt.held ≡ []
    nobody_holds j o e = let q = at_unmap (shed c.renewal) c.clients j o e in
        dite (ℕ_discrete j i) (λ s. sym (ap (λ (y : Client). y.attempt.held) q.2) ∙
        (ap (λ (y : Client). y.attempt.held) (same_at c.clients i q.0 v (subst (λ n. At c.clients n q.0) s q.1) at)
        ∙ free.1))
        (λ n. sym (ap (λ (y : Client). y.attempt.held) q.2) ∙ ap (λ (y : Client). y.attempt.held) (is_gone j q.0 q.1 n))

    renew_earlier : Earlier (old ++ h) (frame_of (renewed i last v c))
    renew_earlier = record {
      serial = serial_append c.first old h b.earlier.serial (subst (λ m. Serial m h) (sym b.earlier.leads)
          (serial c.opening b.rule.inv.story h c.opening 0 ahead));
      leads = image_append c.first old h ∙ (ap (λ m. image_after m h) b.earlier.leads ∙
          sym (cells_by lawful lk (now c) b.rule.inv h ahead (λ r m. d.only r m) nobody_holds));
      ascending = by_append old h b.earlier.ascending d.ascending (λ x y m n. d.old_before x y m n);
      all = λ r m. ⊎_elim (λ p. append_left old h r (b.earlier.all r p))
          (λ p. append_right old h r (d.every i v' r at' p)) (in_append c.past v'.records r (subst (In r) whole_is m));
      only = λ r m. subst (In r) (sym whole_is) (⊎_elim (λ p. append_left c.past v'.records r (b.earlier.only r p))
          (λ p. append_right c.past v'.records r (mine r p)) (in_append old h r m));
    }
      where
        mine : (r : Record) → In r h → In r v'.records
        mine r m = let q = d.only r m in let p = at_unmap (shed c.renewal) c.clients q.0 q.1 q.2 in
            dite (ℕ_discrete q.0 i) (λ s. subst (λ (y : Client). In r y.records)
            (same_at (now c).clients i q.1 v' (subst (λ n. At (now c).clients n q.1) s q.2) at') q.3)
            (λ n. absurd (nothing_in r (let z : In r (shed c.renewal p.0).records =
            subst (λ (y : Client). In r y.records) (sym p.2) q.3 in
            subst (λ (y : Client). In r (shed c.renewal y).records) (is_gone q.0 p.0 p.1 n) z)))

    renew_beside : Beside (old ++ h) [] (renewed i last v c)
    renew_beside = record {
      rule = renew_rules lawful lk c b.rule i v at free others last;
      dated = renew_dates;
      earlier = renew_earlier;
      aborted = renew_aborted c.first old h c.renewal v (b.aborted i v at)
          (λ r m. b.rule.past.earlier r (b.earlier.only r m))
          (λ r m. let q = d.only r m in ((b.rule.inv.filed.filed q.0 q.1 q.2).told r q.3).present)
          (λ r m. subst (λ z. Agrees (image_at z r.version h) r.reads) (sym b.earlier.leads)
          (aborted_by lawful lk (now c) b.rule.inv h ahead i v' at' r m)) c.clients i is_gone;
    }

  -- an allowed event keeps the whole invariant
  pub event_keeps : (c : Core) (e : Event) → Rule lawful lk c → CanPlay lawful lk e c → Rule lawful lk (played lk e c)
  event_keeps c (acts k e) h may =
      step_rules lawful lk c h (k - 1) (client_of c k) may.0.1 may.0.2
      (record { client = k; place = c.events; renewal = c.renewal }) refl e may.1
  event_keeps c (splits k) h may = split_rules lawful lk c h (k - 1) (client_of c k) may.0.1 (may.0.2, may.1) may.2
  event_keeps c (gathers k j) h may =
      gather_rules lawful lk c h (k - 1) (client_of c k) may.0.1 (j - 1) (client_of c j) may.1.1 (λ e. may.2 (let a =
      may.0.0 in let b = may.1.0 in omega arith)) (may.0.2, may.3) (may.1.2, may.4)
  event_keeps c (renews k last) h may = renew_rules lawful lk c h (k - 1) (client_of c k) may.0.1 (
    may.0.2,
    may.1,
  ) may.2 last

  found_now : (c : Core) (e : Action) → found lk (now c) e ≡ found lk c e
  found_now c begin = refl
  found_now c _ = refl

  decision_now : (t : Stamp) (m : ℕ) (e : Action) (n : ℕ) (v : Client) → decision t e n (shed m v) ≡ decision t e n v
  decision_now t m begin n v = refl
  decision_now t m _ n v = refl

  aborted_stepped : (c : Core) (old : List Record) → AllAborted c.first old c.renewal c.clients → (i : ℕ)
      (v : Client) → At c.clients i v → (t : Stamp) → t.renewal ≡ c.renewal → (e : Action) →
      CanAct lawful lk (bounds_of c) e v.attempt → AllAborted (stepped t lk e i v c).first old
      (stepped t lk e i v c).renewal (stepped t lk e i v c).clients
  aborted_stepped c old h i v at t era begin may =
      act_aborted c.first old c.renewal c.clients h i v at lawful lk (bounds_of c) t begin (found lk c begin) era may
  aborted_stepped c old h i v at t era e may =
      act_aborted c.first old c.renewal c.clients h i v at lawful lk (bounds_of c) t e (found lk c e) era may

  -- an allowed event leads to a core beside the histories with its decision
  pub event_beside : (c : Core) (e : Event) (old h : List Record) → Beside old h c → CanPlay lawful lk e c →
      Beside (earlier_after e old h) (history_after lk e c h) (played lk e c)
  event_beside c (acts k e) old h b may =
      let v = client_of c k in
      let v' : Client = shed c.renewal v in
      let number : suc (k - 1) ≡ k = (let a = may.0.0 in omega arith) in
      let t : Stamp = record { client = k; place = c.events; renewal = c.renewal } in
      let r = act_dates lawful lk old (now c) h b.dated (k - 1) v'
      (at_map (shed c.renewal) c.clients (k - 1) v may.0.1) may.0.2 e (may_shed lawful lk c e v may.1) in
      let r' : IsDatedBy old (filed (decision t e (found lk (now c) e) v') h) (stepped t lk e (k - 1) v' (now c)) =
      subst (λ n. let s : Stamp = record { client = n; place = c.events; renewal = c.renewal } in
      IsDatedBy old (filed (decision s e (found lk (now c) e) v') h)
      (stepped s lk e (k - 1) v' (now c))) number r in
      let made : decision t e (found lk (now c) e) v' ≡ decision t e (found lk c e) v =
      ap (λ n. decision t e n v') (found_now c e) ∙ decision_now t c.renewal e (found lk c e) v in
      record {
        rule = step_rules lawful lk c b.rule (k - 1) v may.0.1 may.0.2 t refl e may.1;
        dated = subst (λ rs. IsDatedBy old (filed rs h) (now (stepped t lk e (k - 1) v c))) made
            (subst (λ x. IsDatedBy old (filed (decision t e (found lk (now c) e) v') h) x)
            (sym (now_stepped lawful lk c b.rule (k - 1) v may.0.1 may.0.2 t refl e may.1)) r');
        earlier = subst (Earlier old) (frame_stays t lk e (k - 1) v c) b.earlier;
        aborted = aborted_stepped c old b.aborted (k - 1) v may.0.1 t refl e may.1;
      }
  event_beside c (splits k) old h b may =
      let v = client_of c k in
      let free : IsFreeHanded v = (may.0.2, may.1) in
      record {
        rule = split_rules lawful lk c b.rule (k - 1) v may.0.1 free may.2;
        dated = subst (λ x. IsDatedBy old h x) (sym (now_divided lawful lk c b.rule (k - 1) v may.0.1 free may.2))
            (split_dates lawful lk old (now c) h b.dated (k - 1) (shed c.renewal v)
            (at_map (shed c.renewal) c.clients (k - 1) v may.0.1) may.0.2);
        earlier = b.earlier;
        aborted = split_aborted c.first old c.renewal c.clients b.aborted (k - 1) v may.0.1;
      }
  event_beside c (gathers k j) old h b may =
      let v = client_of c k in
      let w = client_of c j in
      let ne : (k - 1) ≢ (j - 1) = λ e. may.2 (let a = may.0.0 in let b' = may.1.0 in omega arith) in
      let free : IsFreeHanded v = (may.0.2, may.3) in
      let free' : IsFreeHanded w = (may.1.2, may.4) in
      record {
        rule = gather_rules lawful lk c b.rule (k - 1) v may.0.1 (j - 1) w may.1.1 ne free free';
        dated = subst (λ x. IsDatedBy old h x) (sym (now_gathered lawful lk c b.rule (k - 1) v may.0.1
            (j - 1) w may.1.1 ne free free'))
            (gather_dates lawful lk old (now c) h b.dated (k - 1) (shed c.renewal v)
            (at_map (shed c.renewal) c.clients (k - 1) v may.0.1) may.0.2 (j - 1) (shed c.renewal w)
            (at_map (shed c.renewal) c.clients (j - 1) w may.1.1) ne);
        earlier = b.earlier;
        aborted = gather_aborted c.first old c.renewal c.clients b.aborted (k - 1) v may.0.1 (j - 1) w may.1.1;
      }
  event_beside c (renews k last) old h b may =
      renew_beside old h c b (k - 1) (client_of c k) may.0.1 (may.0.2, may.1) may.2 last

  pub opening_dates : (image : List ℕ) (last stripes : ℕ) → Dated [] 0 0 (opener ∷ []) []
  opening_dates image last stripes = record {
    time = λ p. 0;
    grows = λ p q l. le_refl _;
    now = refl;
    stamped = λ r m. absurd (nothing_in r m);
    each = λ i v e. let z : opener ≡ v = only_one opener i v e in
        subst (λ c. Rattle.stm_core.proofs.Dating.IsDated (λ p. 0) 0 c) z
        (record { reading = λ q. (let k = q.0 in cc); ticking = λ q. (let k = q.0 in absurd (omega arith)) });
    unused = λ i v p r e m k. absurd (nothing_in r k);
    apart = λ i j v w p e f n m k. n (one i v e ∙ sym (one j w f));
    ascending = tt;
    every = λ i v r e m. absurd (nothing_in r (subst (λ (c : Client). In r c.records) (sym (only_one opener i v e)) m));
    only = λ r m. absurd (nothing_in r m);
    known = λ r m. absurd (nothing_in r m);
    numbered = λ i v r e s m. absurd (nothing_in r m);
    old_past = λ r m. absurd (nothing_in r m);
    old_before = λ r x m. absurd (nothing_in r m);
    old_marked = λ i v p r e m k. absurd (nothing_in r k);
    old_known = λ r m. absurd (nothing_in r m);
    old_numbered = λ i v r e s m. absurd (nothing_in r m);
  }
    where
      one : (i : ℕ) (v : Client) → At (opener ∷ []) i v → i ≡ 0
      one zero v e = refl
      one (suc i) v e = absurd (some-ne-none v (sym e))

  pub opening_beside : (image : List ℕ) (last stripes : ℕ) → Beside [] [] (opened image last stripes)
  opening_beside image last stripes = record {
    rule = opening_rules lawful lk image last stripes;
    dated = opening_dates image last stripes;
    earlier = record { serial = tt; leads = refl; ascending = tt; all = λ r m. m; only = λ r m. m };
    aborted = λ i v e. subst (λ y. KeepsAborted image [] 0 y) (only_one opener i v e)
        (bare_aborted image [] 0 opener refl refl refl);
  }

  -- the list of events with one more event decides exactly the records of the histories
  pub event_traced : (start : Core) (es : List Event) (c : Core) (a : Event) (old h : List Record) →
      Trace lk start es c (old ++ h) → CanPlay lawful lk a c →
      Trace lk start (es ++ a ∷ []) (played lk a c) (earlier_after a old h ++ history_after lk a c h)
  event_traced start es c (acts k e) old h t may =
      let rs = made lk (acts k e) c in
      let one = at_most_one lawful lk start es c (old ++ h) t k e may in
      act_trace lawful lk start es c (old ++ h) t k e may (old ++ filed rs h)
      (λ r m. ⊎_elim (λ p. inl (append_left old h r p)) (λ p. ⊎_elim (λ q. inl (append_right old h r q)) (λ q. inr q)
      (filed_from rs h r p)) (in_append old (filed rs h) r m))
      (λ r m. ⊎_elim (λ p. append_left old (filed rs h) r p) (λ p. append_right old (filed rs h) r (filed_old rs h r p))
      (in_append old h r m))
      (λ r m. append_right old (filed rs h) r (filed_new rs h r one m))
      (length-append old (filed rs h) ∙ (let a = filed_length rs h one in let b = length-append old h in
      omega (arith, a, b)))
  event_traced start es c (splits k) old h t may = split_trace lawful lk start es c (old ++ h) t k may (old ++ h)
      (λ r m. m) (λ r m. m) refl
  event_traced start es c (gathers k j) old h t may = gather_trace lawful lk start es c (old ++ h) t k j may (old ++ h)
      (λ r m. m) (λ r m. m) refl
  event_traced start es c (renews k last) old h t may =
      let e = append-nil (old ++ h) in renew_trace lawful lk start es c (old ++ h) t k last may ((old ++ h) ++ [])
      (λ r m. subst (In r) e m) (λ r m. subst (In r) (sym e) m) (ap length e)

  -- the core that a list of events leads to, beside its histories
  pub record Led (start : Core) (es : List Event) (c : Core) : Type 0 where
    pub old : List Record
    pub new : List Record
    pub beside : Beside old new c
    pub trace : Trace lk start es c (old ++ new)
    pub first : c.first ≡ start.first

  pub first_stays : (e : Event) (c : Core) → (played lk e c).first ≡ c.first
  first_stays (acts k e) c = sym (ap (λ (f : Frame). f.first)
      (frame_stays (record { client = k; place = c.events; renewal = c.renewal }) lk e (k - 1) (client_of c k) c))
  first_stays _ c = refl

  -- one more allowed event
  pub led_on : (start : Core) (es : List Event) (c : Core) (a : Event) → Led start es c → Allowed lawful lk a c →
      Led start (es ++ a ∷ []) (played lk a c)
  led_on start es c a l h = let may = can_play lawful lk a c h in record {
    old = earlier_after a l.old l.new;
    new = history_after lk a c l.new;
    beside = event_beside c a l.old l.new l.beside may;
    trace = event_traced start es c a l.old l.new l.trace may;
    first = first_stays a c ∙ l.first;
  }

  pub led_all : (es before : List Event) (start c e : Core) → Led start before c → Leads lawful lk c es e →
      Led start (before ++ es) e
  led_all [] before start c e l same = subst (λ m. Led start m e) (sym (append-nil before))
      (subst (Led start before) same l)
  led_all (a ∷ es) before start c e l h = subst (λ m. Led start m e) (append_assoc before (a ∷ []) es)
      (led_all es (before ++ a ∷ []) start (played lk a c) e (led_on start before c a l h.0) h.1)

  pub led_opening : (image : List ℕ) (last stripes : ℕ) → Led (opened image last stripes) [] (opened image last stripes)
  led_opening image last stripes = record {
    old = [];
    new = [];
    beside = opening_beside image last stripes;
    trace = opening_trace lk image last stripes;
    first = refl;
  }

-- the history of the core
pub is_history : (lawful : RecordLaw) (lk : ℕ → ℕ) (c : Core) (old h : List Record) → Beside lawful lk old h c →
    IsHistory c (old ++ h)
is_history lawful lk c old h b = record {
  ascending = by_append old h b.earlier.ascending b.dated.ascending (λ x y m
      n. b.dated.old_before x y m n);
  every = every;
  only = only;
}
  where
    every : (i : ℕ) (v : Client) (r : Record) → At c.clients i v → In r v.records → In r (old ++ h)
    every i v r e m = ⊎_elim (λ p. append_left old h r (b.earlier.all r (past_of (eqb i b.rule.past.keeper) p)))
        (λ p. append_right old h r (b.dated.every i (shed c.renewal v) r (at_map (shed c.renewal) c.clients i v e) p))
        (in_append (pre lawful lk c b.rule i) (shed c.renewal v).records r (subst (In r) (b.rule.past.kept i v e) m))
      where
        past_of : (x : Bool) → In r (cond x c.past []) → In r c.past
        past_of true p = p
        past_of false p = absurd (nothing_in r p)

    only : (r : Record) → In r (old ++ h) → (i : ℕ) × (v : Client) × At c.clients i v × In r v.records
    only r m = ⊎_elim
        (λ p. let q = at_below c.clients b.rule.past.keeper b.rule.past.member in (
          b.rule.past.keeper,
          q.0,
          q.1,
          subst (In r) (sym (b.rule.past.kept b.rule.past.keeper q.0 q.1 ∙
              ap (λ x. cond x c.past [] ++ (shed c.renewal q.0).records)
              (eqb_yes b.rule.past.keeper b.rule.past.keeper refl)))
              (append_left c.past (shed c.renewal q.0).records r (b.earlier.only r p)),
        ))
        (λ p. let q = b.dated.only r p in let s = at_unmap (shed c.renewal) c.clients q.0 q.1 q.2 in
        (q.0, s.0, s.1, (of_is c.renewal s.0.records r (subst (λ (y : Client). In r y.records) (sym s.2) q.3)).0))
        (in_append old h r m)

-- records that are ranked have ascending versions
ascends : (l : List Record) → Ranked l → Ascending l
ascends [] r = tt
ascends (x ∷ l) r = (λ y i. pair y (r.0 y i), ascends l r.1)
  where
    pair : (y : Record) → (rank x ≤ rank y) × (x.writer ≡ true → y.writer ≡ true → x.version ≢ y.version) →
        (x.version ≤ y.version) × (y.writer ≡ true → x.version < y.version)
    pair y p = by_bool x.writer
        (λ t. let a = rank_writer x t in by_bool y.writer
        (λ u. let b = rank_writer y u in let n = p.1 t u in (omega (arith, a, b, p.0), λ _. omega (arith, a, b, p.0)))
        (λ u. let b = rank_reader y u in (omega (arith, a, b, p.0), λ z. clash z u)))
        (λ t. let a = rank_reader x t in by_bool y.writer
        (λ u. let b = rank_writer y u in (omega (arith, a, b, p.0), λ _. omega (arith, a, b, p.0)))
        (λ u. let b = rank_reader y u in (omega (arith, a, b, p.0), λ z. clash z u)))

-- the properties of a core follow from the invariant and the histories
pub stands : (lawful : RecordLaw) (lk : ℕ → ℕ) (start : Core) (es : List Event) (c : Core) → Led lawful lk start es c →
    IsSerializable lawful lk start es c
stands lawful lk start es c l =
    let old = l.old in
    let h = l.new in
    let b = l.beside in
    let own = is_history lawful lk c old h b in
    let d = b.dated in
    let k = b.rule.inv in
    let ranked : Ranked h = ranked_by old c.clock c.events (now c).clients h d h d.ascending (λ r m. m) in
    let g = ahead_by lawful lk (now c) k h ranked (λ r m. d.only r m) (λ i v r e m. d.every i v r e m) in
    let leads : image_after start.first old ≡ c.opening = subst
    (λ m. image_after m old ≡ c.opening) l.first b.earlier.leads in
    let all : image_after start.first (old ++ h) ≡ image_after c.opening h =
    image_append start.first old h ∙ ap (λ m. image_after m h) leads in record {
      rule = b.rule;
      earlier = old;
      present = h;
      is_history = own;
      is_listed = of_list lk start es c (old ++ h) l.trace own.ascending;
      before = λ r m. b.rule.past.earlier r (b.earlier.only r m);
      now = λ r m. let q = d.only r m in ((k.filed.filed q.0 q.1 q.2).told r q.3).present;
      serial = serial_append start.first old h (subst (λ m. Serial m old) l.first b.earlier.serial)
          (subst (λ m. Serial m h) (sym leads) (serial c.opening k.story h c.opening 0 g));
      opening = leads;
      versions = ascends h ranked;
      newest = image_last c.opening k.story h c.opening c.clock (λ r m. let q = d.only r m in
          (k.version.sound q.0 q.1 q.2).recorded r q.3) ∙ sym all;
      one_version = λ i v e. agrees_by lawful lk (now c) k h g i (shed c.renewal v)
          (at_map (shed c.renewal) c.clients i v e);
      aborted = λ i v r e m. subst (λ z. Agrees (image_upto z r.renewal r.version (old ++ h)) r.reads) l.first
          (all_agree c.first old h c.renewal v (b.aborted i v e)
          (λ x n. b.rule.past.earlier x (b.earlier.only x n))
          (λ x n. let q = d.only x n in ((k.filed.filed q.0 q.1 q.2).told x q.3).present)
          (λ x n. subst (λ z. Agrees (image_at z x.version h) x.reads) (sym b.earlier.leads)
          (aborted_by lawful lk (now c) k h g i (shed c.renewal v)
          (at_map (shed c.renewal) c.clients i v e) x n)) r m).1;
      lone = λ i v e y z. goes_on lawful lk c k b.rule.lone i v e y z;
      words = λ f. cells_by lawful lk (now c) k h g (λ r m. d.only r m) (λ i v e. let q =
          at_unmap (shed c.renewal) c.clients i v e in sym (ap (λ (y : Client). y.attempt.held) q.2) ∙ f i q.0 q.1) ∙
          sym all;
      no_trace = λ i v r e s u m n z. ⊎_elim (λ p. clash ((d.old_numbered i (shed c.renewal v) r
          (at_map (shed c.renewal) c.clients i v e) s p n).1 z) u)
          (λ p. clash ((d.numbered i (shed c.renewal v) r (at_map (shed c.renewal) c.clients i v e) s p n).1 z) u)
          (in_append old h r m);
    }

pub every_list_is_serializable : (lawful : RecordLaw) → EveryListIsSerializable lawful
every_list_is_serializable lawful image last stripes es c leads =
    let lk = stripe_of stripes in
    let start = opened image last stripes in
    stands lawful lk start es c (led_all lawful lk es [] start start c (led_opening lawful lk image last stripes) leads)
