-- A move of a region keeps its invariant, and every list that leads to the state before the move,
-- with the move's event at its end, leads to the state after it.
use Rattle.std.proofs.Common.{◌≡◌, ◌≢◌, ℕ, zero, suc, ◌+◌, ◌-◌, ◌≤◌, ◌<◌, List, [], ◌∷◌, ◌++◌, length, drop, replicate}
use Rattle.std.proofs.Common.{get_or, slice_index, append_assoc, append-nil, refl, sym, ap, ◌∙◌, subst, arith}
use mathlib.Core.Option.{some}
use Rattle.atomic_table.specs.Table.{opening as table_of}
use Rattle.stm_core.specs.Client.{Client, RecordLaw}
use Rattle.stm_core.specs.Core.{Event, opened, left, IsFreeHanded}
use Rattle.stm_core.specs.Event.{Action, renewing}
use Rattle.stm_core.specs.Guards.{May, stripe_of}
use Rattle.stm_region.specs.Shown.{RegionShown, region_of, no_table}
use Rattle.stm_region.specs.Layout.{place, first_cell, InRange}
use Rattle.stm_region.specs.Refused.{MayRenew}
use Rattle.stm_region.specs.Rule.{listed}
use Rattle.stm_region.specs.Traced.{IsTraced}
use Rattle.stm_region.specs.Runs.{Moment, Move, step, split, gather, renew, rest, step_from, split_from, gather_from}
use Rattle.stm_region.specs.Runs.{data_words, renewed_from, bounds_at, Has, Moves, events_of, KeepsNumbers, Stands}
use Rattle.stm_region.specs.Runs.{Listing, start_of, GoesOn, EveryListGoesOn, IsRun, HasOneList, EveryRunHasOneList}
use Rattle.stm_region.proofs.Mirroring.{mirrors_of}
use Rattle.stm_region.proofs.Tracing.{step_listed, step_opened, step_numbers, split_listed, split_opened, split_numbers}
use Rattle.stm_region.proofs.Tracing.{gather_listed, gather_opened, gather_numbers, renewal_listed}
use Rattle.stm_region.proofs.Tracing.{renewal_opened, renewal_numbers}
use Rattle.stm_region.proofs.Stepping.{kept_after, traced_after, member, there, may_here, in_core, split_kept}
use Rattle.stm_region.proofs.Stepping.{gather_kept}
use Rattle.stm_region.proofs.Ending.{ends, alone, reopens_cells}
use Rattle.stm_region.proofs.Laws.{is_listed}

-- equal lists whose first parts have one length have equal parts
parts : (xs xs' ys ys' : List ℕ) → length xs ≡ length xs' → xs ++ ys ≡ xs' ++ ys' → (xs ≡ xs') × (ys ≡ ys')
parts [] [] ys ys' l e = (refl, e)
parts [] (x ∷ xs') ys ys' l e = absurd (omega arith)
parts (x ∷ xs) [] ys ys' l e = absurd (omega arith)
parts (x ∷ xs) (x' ∷ xs') ys ys' l e =
    let q = parts xs xs' ys ys' (omega arith) (ap (drop 1) e) in
    let h : x ≡ x' = ap (λ zs. get_or zs 0 0) e in (λ i. h i ∷ q.0 i, q.1)

module _ (fits : List ℕ → Type 0) (lawful : RecordLaw) where
  -- a list that explains the state explains the invariant's core
  module _ (m : Moment) (h : Stands fits lawful m) (t : Listing lawful m) where
    same_words : listed h.gap h.pad h.core ≡ listed t.gap t.pad t.core
    same_words = sym h.words ∙ t.words

    behind_gap : (h.gap ≡ t.gap) × (h.core.locks ++ (h.pad ++ h.core.cells) ≡ t.core.locks ++ (t.pad ++ t.core.cells))
    behind_gap = parts h.gap t.gap (h.core.locks ++ (h.pad ++ h.core.cells)) (t.core.locks ++ (t.pad ++ t.core.cells))
        (h.before_locks ∙ sym t.before_locks) (ap (drop 1) same_words)

    behind_locks : (h.core.locks ≡ t.core.locks) × (h.pad ++ h.core.cells ≡ t.pad ++ t.core.cells)
    behind_locks = parts h.core.locks t.core.locks (h.pad ++ h.core.cells) (t.pad ++ t.core.cells)
        (h.locks ∙ sym t.locks) behind_gap.1

    behind_pad : (h.pad ≡ t.pad) × (h.core.cells ≡ t.core.cells)
    behind_pad = parts h.pad t.pad h.core.cells t.core.cells (h.before_cells ∙ sym t.before_cells) behind_locks.1

    same_core : h.core ≡ record t.core { clients = h.core.clients; events = h.core.events; past = h.core.past }
    same_core =
        let first = h.first ∙ sym t.first in
        let last = h.last ∙ sym t.last_version in
        let image = h.opening ∙ sym t.opening in
        let renewal = h.renewal ∙ sym t.renewal in
        let clock : h.core.clock ≡ t.core.clock = ap (λ ws. get_or ws 0 0) same_words in
        let locks = behind_locks.0 in
        let cells = behind_pad.1 in λ i. record {
          first = first i;
          past = h.core.past;
          last = last i;
          opening = image i;
          renewal = renewal i;
          events = h.core.events;
          clock = clock i;
          locks = locks i;
          cells = cells i;
          clients = h.core.clients;
        }

    abbrev traced_by : IsTraced lawful m.opened h.core
    traced_by = record {
      last = t.last;
      events = t.events;
      core = t.core;
      leads = t.leads;
      same = same_core;
      clients = mirrors_of m.table.views h.core.clients t.core.clients t.clients (sym h.views);
    }

    abbrev by : Stands fits lawful m
    by = record h { traced = traced_by }

  -- the region after the move meets its invariant, by the list before with the move's event at its
  -- end
  record Goes (first : List ℕ) (stripes last : ℕ) (events : List Event) (number : ℕ → ℕ) (size : ℕ) (move : Move)
      (m' : Moment) : Type 0 where
    kept : Stands fits lawful m'
    first_is : m'.opened.first ≡ first
    stripes_is : m'.opened.stripes ≡ stripes
    opened : kept.traced.last ≡ last
    listed_is : kept.traced.events ≡ events ++ events_of number move
    numbers : KeepsNumbers move number kept.traced.clients.number size

  abbrev GoesFrom : (m : Moment) → Stands fits lawful m → Move → Moment → Type 0
  GoesFrom m h move m' =
      Goes m.opened.first m.opened.stripes h.traced.last h.traced.events h.traced.clients.number
      (length m.table.views) move m'

  -- a step
  goes_step : (m : Moment) (h : Stands fits lawful m) (i : ℕ) (e : Action) (v : Client) → Has m i v →
      InRange m.opened.stripes (length m.opened.image) e →
      May lawful (stripe_of m.opened.stripes) (bounds_at m.opened) e v → GoesFrom m h (step i e) (step_from m i e v)
  unfolding kept_after traced_after
  goes_step m h i e v at range may =
      let o = m.opened in
      let s = m.table in
      let at' = member fits lawful o s h i v at e range may in
      let may' = may_here fits lawful o s h i v at e range may in record {
        kept = kept_after fits lawful o s h i v at e range may (left e (slice_index s.words (place o.stripes e)) v)
            (ap (λ n. left e n v) (there fits lawful o s h i v at e range may));
        first_is = refl;
        stripes_is = refl;
        opened = step_opened lawful o h.core h.traced i v at' e may' o.renewal (sym h.renewal);
        listed_is = step_listed lawful o h.core h.traced i v at' e may' o.renewal (sym h.renewal);
        numbers = λ j l. step_numbers lawful o h.core h.traced i v at' e may' o.renewal (sym h.renewal) j;
      }

  -- a split
  goes_split : (m : Moment) (h : Stands fits lawful m) (i : ℕ) (v : Client) → Has m i v → IsFreeHanded v →
      0 < v.grants → GoesFrom m h (split i) (split_from m i v)
  unfolding split_kept
  goes_split m h i v at free more =
      let o = m.opened in
      let at' = in_core fits lawful o m.table h i v at i v at in record {
        kept = split_kept fits lawful o m.table h i v at free more;
        first_is = refl;
        stripes_is = refl;
        opened = split_opened lawful o h.core h.traced i v at' free more;
        listed_is = split_listed lawful o h.core h.traced i v at' free more;
        numbers = λ j l. split_numbers lawful o h.core h.traced i v at' free more j
            (subst (λ vs. j < length vs) h.views l);
      }

  -- a gathering
  goes_gather : (m : Moment) (h : Stands fits lawful m) (i j : ℕ) (v w : Client) → Has m i v → Has m j w → i ≢ j →
      IsFreeHanded v → IsFreeHanded w → GoesFrom m h (gather i j) (gather_from m i v j w)
  unfolding gather_kept
  goes_gather m h i j v w at to ne free free' =
      let o = m.opened in
      let at' = in_core fits lawful o m.table h i v at i v at in
      let to' = in_core fits lawful o m.table h i v at j w to in record {
        kept = gather_kept fits lawful o m.table h i v at j w to ne free free';
        first_is = refl;
        stripes_is = refl;
        opened = gather_opened lawful o h.core h.traced i v at' j w to' ne free free';
        listed_is = gather_listed lawful o h.core h.traced i v at' j w to' ne free free';
        numbers = λ k l. gather_numbers lawful o h.core h.traced i v at' j w to' ne free free' k;
      }

  -- a renewal
  goes_renew : (m : Moment) (h : Stands fits lawful m) (i last : ℕ) (v : Client) → Has m i v → IsFreeHanded v →
      MayRenew m.opened.renewal last v.grants → GoesFrom m h (renew i last) (renewed_from m last v)
  unfolding ends reopens_cells
  goes_renew m h i last v at free may =
      let o = m.opened in
      let r : RegionShown = region_of no_table (length o.image) o.last o.stripes o in
      let e = ends fits lawful r i v free may.2 m.table h at in
      let only = alone fits lawful r v (data_words m) (slice_index m.table.words 0) last e free may
      h.fitting h.some in
      subst (λ ws. GoesFrom m h (renew i last) record {
        opened = record {
          image = ws;
          last = last;
          stripes = o.stripes;
          first = o.first;
          renewal = o.renewal + 1;
          start = renewing v;
        };
        table = table_of (replicate (first_cell o.stripes) 0 ++ ws) [] (renewing v);
      }) e.cells record {
        kept = reopens_cells fits lawful r v (data_words m) (slice_index m.table.words 0) last e free may h.fitting
            h.some {S = Unit {0}};
        first_is = refl;
        stripes_is = refl;
        opened = renewal_opened lawful o h.core h.traced i v e.member free only last may.0.0 may.0.1 may.1 e.first
            e.renewal e.locks;
        listed_is = renewal_listed lawful o h.core h.traced i v e.member free only last may.0.0 may.0.1 may.1 e.first
            e.renewal e.locks;
        numbers = renewal_numbers lawful o h.core h.traced i v e.member free only last may.0.0 may.0.1 may.1 e.first
            e.renewal e.locks;
      }

  goes : (m m' : Moment) (h : Stands fits lawful m) (move : Move) → Moves lawful m move m' → GoesFrom m h move m'
  goes m m' h (step i e) p = subst (GoesFrom m h (step i e)) (sym p.4) (goes_step m h i e p.0 p.1 p.2 p.3)
  goes m m' h (split i) p = subst (GoesFrom m h (split i)) (sym p.4) (goes_split m h i p.0 p.1 p.2 p.3)
  goes m m' h (gather i j) p = subst (GoesFrom m h (gather i j)) (sym p.7) (goes_gather m h i j p.0 p.1 p.2 p.3 p.4 p.5
      p.6)
  goes m m' h (renew i last) p = subst (GoesFrom m h (renew i last)) (sym p.4) (goes_renew m h i last p.0 p.1 p.2 p.3)
  goes m m' h rest p = subst (GoesFrom m h rest) (sym p) record {
    kept = h;
    first_is = refl;
    stripes_is = refl;
    opened = refl;
    listed_is = sym (append-nil h.traced.events);
    numbers = λ j l. refl;
  }

  pub every_list_goes_on : EveryListGoesOn fits lawful
  unfolding is_listed mirrors_of
  every_list_goes_on m m' move h p = (
    (goes m m' h move p).kept,
    λ t. let g = goes m m' (by m h t) move p in (
      is_listed fits lawful m'.opened m'.table g.kept,
      record {
        first = g.first_is;
        stripes = g.stripes_is;
        last = g.opened;
        events = g.listed_is;
        numbers = g.numbers;
      },
    ),
  )

  module _ (moments : ℕ → Moment) (moves : ℕ → Move) (run : IsRun fits lawful moments moves) where
    stands : (n : ℕ) → Stands fits lawful (moments n)
    stands zero = run.begins
    stands (suc n) = (every_list_goes_on (moments n) (moments (suc n)) (moves n) (stands n) (run.goes n)).0

    module _ (first : Listing lawful (moments 0)) where
      lists : (n : ℕ) → Listing lawful (moments n)
      lists zero = first
      lists (suc n) =
          ((every_list_goes_on (moments n) (moments (suc n)) (moves n) (stands n) (run.goes n)).1 (lists n)).0

      on : (n : ℕ) → GoesOn lawful (lists n) (moves n) (lists (suc n))
      unfolding lists
      on n = ((every_list_goes_on (moments n) (moments (suc n)) (moves n) (stands n) (run.goes n)).1 (lists n)).1

      opening : (n : ℕ) → start_of (lists n) ≡ start_of first
      unfolding lists
      opening zero = refl
      opening (suc n) =
          let g = on n in (λ i. opened (g.first i) (g.last i) (g.stripes i)) ∙ opening n

      stripes : (n : ℕ) → (moments n).opened.stripes ≡ (moments 0).opened.stripes
      stripes zero = refl
      stripes (suc n) = (on n).stripes ∙ stripes n

      prefix_by : (m k : ℕ) → (others : List Event) × ((lists (m + k)).events ≡ (lists m).events ++ others)
      prefix_by m zero = subst (λ x. (others : List Event) × ((lists x).events ≡ (lists m).events ++ others))
          (let e : m ≡ m + 0 = omega arith in e) ([], sym (append-nil (lists m).events))
      prefix_by m (suc k) =
          let q = prefix_by m k in
          let g = on (m + k) in
          let more = events_of (lists (m + k)).clients.number (moves (m + k)) in
          subst (λ x. (others : List Event) × ((lists x).events ≡ (lists m).events ++ others))
          (let e : suc (m + k) ≡ m + suc k = omega arith in e) (
            q.0 ++ more,
            g.events ∙ (ap (λ l. l ++ more) q.1 ∙ append_assoc (lists m).events q.0 more),
          )

      prefix : (m n : ℕ) → m ≤ n → (others : List Event) × ((lists n).events ≡ (lists m).events ++ others)
      prefix m n l = subst (λ x. (others : List Event) × ((lists x).events ≡ (lists m).events ++ others))
          (let e : m + (n - m) ≡ n = omega (arith, l) in e) (prefix_by m (n - m))

      begins : lists 0 ≡ first
      unfolding lists
      begins = refl

      one_list : HasOneList lawful moments moves first
      one_list = record {
        lists = lists;
        begins = begins;
        goes_on = on;
        opening = opening;
        stripes = stripes;
        prefix = prefix;
      }

  pub every_run_has_one_list : EveryRunHasOneList fits lawful
  every_run_has_one_list moments moves run = (stands moments moves run, one_list moments moves run)
