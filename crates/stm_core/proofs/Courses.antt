-- Facts that a running attempt keeps of the steps of others since its begin.
use Rattle.std.proofs.Common.{◌≡◌, ◌≢◌, ℕ, suc, ◌+◌, ◌<◌, ◌≤◌, ◌⊎◌, inl, inr, ⊎_elim, true}
use Rattle.std.proofs.Common.{List, slice_index, sym, ◌∙◌, subst, arith}
use mathlib.Core.Option.{some}
use mathlib.Core.Logic.{dite}
use native.Mathlib.Decide.{ℕ_discrete}
use lib.ListN.{get_elem?}
use Rattle.stm_core.specs.LockWord.{free_word}
use Rattle.stm_core.specs.Client.{Client, Step, probed, fetched, version_of, IsFree, writes_to}
use Rattle.stm_core.specs.Event.{Action, probe}
use Rattle.stm_core.specs.Core.{Core, Event, acts}
use Rattle.stm_core.specs.Version.{At}
use Rattle.stm_core.specs.Causes.{AtLeast, IsDoneByAnother, HoldsAt, TakesAt, ReleasesAbove, WinsTickAt, LosesTickAt}
use Rattle.stm_core.specs.Causes.{IsLastProbe}
use Rattle.stm_core.proofs.Amounts.{at_least_so}

-- what another client has done before a place it has done before the next one
pub widen : {k from to : ℕ} {Does : (other place : ℕ) → Type 0} → IsDoneByAnother k from to Does →
    IsDoneByAnother k from (suc to) Does
widen q = (q.0, q.1, q.2, q.3, (let z = q.4 in omega (arith, z)), q.5)

module _ (lk : ℕ → ℕ) (start : Core) (es : List Event) where
  -- another client's lock was held at a place, or is taken since
  abbrev pub Since : (j l from to : ℕ) → Type 0
  Since j l from to =
      HoldsAt lk start es j l from ⊎ ((n : ℕ) × (from < n) × (n < to) × TakesAt lk start es l j n)

  pub longer : (j l from to : ℕ) → Since j l from to → Since j l from (suc to)
  longer j l from to s = ⊎_elim (λ h. inl h) (λ q. inr (q.0, q.1, (let z = q.2 in omega (arith, z)), q.3)) s

  -- the attempt's last probe of a lock has found this word, and the word is there still or another client has taken
  -- the lock
  abbrev pub Probed : (n : ℕ) → Core → (k number l w : ℕ) → Type 0
  Probed n c k number l w =
      (p : ℕ) × IsLastProbe lk start es k number n l p
      × ((slice_index c.locks l ≡ w) ⊎ IsDoneByAnother k p n (TakesAt lk start es l))

  -- no probe of a lock since a place, with one event more
  pub quiet_on : (k l p n : ℕ) → get_elem? es n ≢ some (acts k (probe l)) →
      ((m : ℕ) → p < m → m < n → get_elem? es m ≢ some (acts k (probe l))) →
      (m : ℕ) → p < m → m < suc n → get_elem? es m ≢ some (acts k (probe l))
  quiet_on k l p n here before m low high = dite (ℕ_discrete m n)
      (λ e. subst (λ z. get_elem? es z ≢ some (acts k (probe l))) (sym e) here)
      (λ ne. before m low (let z : m < n = omega (arith, high, ne) in z))

  -- the ticks that an attempt has lost before a place
  abbrev pub Lost : (n k number ticks : ℕ) → Type 0
  Lost n k number ticks = AtLeast ticks (λ m. LosesTickAt lk start es k number m × (m < n))

  pub lost_on : (n k number ticks : ℕ) → Lost n k number ticks → Lost (suc n) k number ticks
  lost_on n k number ticks q = at_least_so ticks (λ m. LosesTickAt lk start es k number m × (m < n))
      (λ m. LosesTickAt lk start es k number m × (m < suc n))
      (λ m p. (p.0, (let z = p.1 in omega (arith, z)))) q

  abbrev pub Seen : (n : ℕ) → Core → (k number : ℕ) → Step → Type 0
  Seen n c k number (probed l w) = IsFree w → Probed n c k number l w
  Seen n c k number (fetched a w x) = IsFree w → Probed n c k number (lk a) w
  Seen n c k number _ = Unit {0}

  -- a running attempt of client k, before a place, beside the core
  pub record Course (n : ℕ) (c : Core) (k number rv began wv ticks next : ℕ) (last : Step) : Type 0 where
    pub newer : (l : ℕ) → rv < version_of (slice_index c.locks l)
        → IsDoneByAnother k began n (ReleasesAbove lk start es l rv)
    pub seen : Seen n c k number last
    pub paced : wv ≡ 0 → (rv + ticks ≤ next) × (next ≤ c.clock)
    pub lost : wv ≡ 0 → Lost n k number ticks
    pub won : wv ≡ 0 → (u : ℕ) → rv ≤ u → u < c.clock → IsDoneByAnother k began n (WinsTickAt lk start es u)
    pub held : (j l : ℕ) (w : Client) → suc j ≢ k → At c.clients j w → writes_to w.attempt.held l ≡ true
        → Since (suc j) l began n

  abbrev pub Of : (n : ℕ) → Core → ℕ → Client → Type 0
  Of n c k v = Course n c k v.attempt.number v.attempt.rv v.attempt.began_at v.attempt.wv v.attempt.ticks
      v.attempt.next_from v.attempt.last

  -- what the event of client k at a place makes of a lock word
  pub data Turned (n k l w w' : ℕ) : Type 0 where
    stays : w' ≡ w → Turned n k l w w'
    takes : w' ≡ w + 1 → IsFree w → TakesAt lk start es l k n → Turned n k l w w'
    releases : (u : ℕ) → (IsFree w → ⊥) → w' ≡ free_word u → ((b : ℕ) → b < u → ReleasesAbove lk start es l b k n)
        → Turned n k l w w'
    returns : (IsFree w → ⊥) → version_of w' ≡ version_of w → Turned n k l w w'

  -- what the event of client k at a place makes of all words and held locks
  pub record Moves (n k : ℕ) (c d : Core) : Type 0 where
    pub locks : (l : ℕ) → Turned n k l (slice_index c.locks l) (slice_index d.locks l)
    pub clock : (d.clock ≡ c.clock) ⊎ ((d.clock ≡ suc c.clock) × WinsTickAt lk start es c.clock k n)
    pub held : (j l : ℕ) (w : Client) → At d.clients j w → writes_to w.attempt.held l ≡ true
        → ((o : Client) × At c.clients j o × (writes_to o.attempt.held l ≡ true))
        ⊎ ((suc j ≡ k) × TakesAt lk start es l k n)

  -- another client's event
  module _ (n k j : ℕ) (c d : Core) (m : Moves n j c d) (ne : j ≢ k)
      (far : (e : Action) → get_elem? es n ≡ some (acts k e) → ⊥) where
    abbrev Mine : (p l : ℕ) → Type 0
    Mine p l = IsDoneByAnother k p (suc n) (TakesAt lk start es l)

    word_on : (p l w : ℕ) → p < n → IsFree w → slice_index c.locks l ≡ w → (slice_index d.locks l ≡ w) ⊎ Mine p l
    word_on p l w less free e = go (m.locks l)
      where
        go : Turned n j l (slice_index c.locks l) (slice_index d.locks l) → (slice_index d.locks l ≡ w) ⊎ Mine p l
        go (stays s) = inl (s ∙ e)
        go (takes s f t) = inr (j, n, ne, less, (let z : n < suc n = omega arith in z), t)
        go (releases u f s t) = absurd (f (subst IsFree (sym e) free))
        go (returns f s) = absurd (f (subst IsFree (sym e) free))

    probed_on : (number l w : ℕ) → IsFree w → Probed n c k number l w → Probed (suc n) d k number l w
    probed_on number l w free q = (
      q.0,
      (q.1.0, (let z = q.1.1 in omega (arith, z)), quiet_on k l q.0 n (far (probe l)) q.1.2),
      ⊎_elim (λ e. word_on q.0 l w q.1.1 free e) (λ t. inr (widen t)) q.2,
    )

    seen_on : (number : ℕ) (s : Step) → Seen n c k number s → Seen (suc n) d k number s
    seen_on number (probed l w) h = λ free. probed_on number l w free (h free)
    seen_on number (fetched a w x) h = λ free. probed_on number (lk a) w free (h free)
    seen_on number _ h = tt

    pub on_other : (number rv began wv ticks next : ℕ) (last : Step) → began < n
        → Course n c k number rv began wv ticks next last → Course (suc n) d k number rv began wv ticks next last
    on_other number rv began wv ticks next last less f = record {
      newer = newer';
      seen = seen_on number last f.seen;
      paced = λ z. let p = f.paced z in (p.0, clock_on p.1);
      lost = λ z. lost_on n k number ticks (f.lost z);
      won = won';
      held = λ i l w other at h. ⊎_elim (λ q. longer (suc i) l began n (f.held i l q.0 other q.1 q.2))
          (λ q. inr (
            n,
            less,
            (let z : n < suc n = omega arith in z),
            subst (λ y. TakesAt lk start es l y n) (sym q.0) q.1,
          )) (m.held i l w at h);
    }
      where
        now : n < suc n
        now = omega arith

        clock_on : next ≤ c.clock → next ≤ d.clock
        clock_on h = ⊎_elim (λ e. omega (arith, e)) (λ q. let e = q.0 in omega (arith, e)) m.clock

        newer' : (l : ℕ) → rv < version_of (slice_index d.locks l)
            → IsDoneByAnother k began (suc n) (ReleasesAbove lk start es l rv)
        newer' l h = go (m.locks l)
          where
            go : Turned n j l (slice_index c.locks l) (slice_index d.locks l)
                → IsDoneByAnother k began (suc n) (ReleasesAbove lk start es l rv)
            go (stays s) = widen (f.newer l (subst (λ w. rv < version_of w) s h))
            go (takes s free t) =
                widen (f.newer l (let q : rv < version_of (slice_index c.locks l) = omega (arith, s, free, h) in q))
            go (releases u free s t) = (j, n, ne, less, now, t rv (let q : rv < u = omega (arith, s, h) in q))
            go (returns free s) = widen (f.newer l (subst (λ w. rv < w) s h))

        won' : wv ≡ 0 → (u : ℕ) → rv ≤ u → u < d.clock → IsDoneByAnother k began (suc n) (WinsTickAt lk start es u)
        won' z u low high = ⊎_elim (λ e. widen (f.won z u low (let q : u < c.clock = omega (arith, e, high) in q)))
            (λ p. dite (ℕ_discrete u c.clock)
            (λ e. (j, n, ne, less, now, subst (λ y. WinsTickAt lk start es y j n) (sym e) p.1))
            (λ y. widen (f.won z u low (let e = p.0 in let q : u < c.clock = omega (arith, e, high) in q)))) m.clock

  -- its own event, after which it still runs
  pub on_own : (n k : ℕ) (c d : Core) → Moves n k c d → (number rv began wv ticks next : ℕ) (last : Step)
      → Course n c k number rv began wv ticks next last
      → ((l : ℕ) → version_of (slice_index d.locks l) ≡ version_of (slice_index c.locks l))
      → (wv' ticks' next' : ℕ) (last' : Step) → Seen (suc n) d k number last'
      → (wv' ≡ 0 → (wv ≡ 0) × (d.clock ≡ c.clock) × (rv + ticks' ≤ next') × (next' ≤ c.clock))
      → (wv' ≡ 0 → Lost (suc n) k number ticks')
      → Course (suc n) d k number rv began wv' ticks' next' last'
  on_own n k c d m number rv began wv ticks next last f same wv' ticks' next' last' seen' still lost' = record {
    newer = λ l h. widen (f.newer l (subst (λ w. rv < w) (same l) h));
    seen = seen';
    paced = λ z. let p = still z in (p.2, (let e = p.1 in let h = p.3 in omega (arith, e, h)));
    lost = lost';
    won = λ z u low high. let p = still z in
        widen (f.won p.0 u low (let e = p.1 in let q : u < c.clock = omega (arith, e, high) in q));
    held = λ i l w other at h. ⊎_elim (λ q. longer (suc i) l began n (f.held i l q.0 other q.1 q.2))
        (λ q. absurd (other q.0)) (m.held i l w at h);
  }
