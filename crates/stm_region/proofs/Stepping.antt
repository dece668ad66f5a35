-- Each move of clients keeps the invariant, and is one more event of the list that leads to the core
-- state.
use Rattle.std.proofs.Common.{◌≡◌, ◌≢◌, ℕ, ◌+◌, ◌<◌, min, false, List, [], ◌∷◌, ◌++◌, length, slice_index, slice_set}
use Rattle.std.proofs.Common.{refl, sym, ap, ◌∙◌, subst, arith}
use mathlib.Core.Option.{some}
use lib.ListN.{get_elem?}
use Rattle.atomic_table.specs.Table.{State}
use Rattle.stm_core.specs.Client.{Client, RecordLaw, shed}
use Rattle.stm_core.specs.Core.{Core, bounds_of, found, left, written, stepped, divided, gathered, IsFreeHanded}
use Rattle.stm_core.specs.Event.{Action, after, giving, fresh, taking, gone}
use Rattle.stm_core.specs.Invariant.{Rule, now}
use Rattle.stm_core.proofs.Facts.{grants_of_two}
use Rattle.stm_core.proofs.Lones.{at_map}
use Rattle.stm_core.proofs.Renewals.{step_rules}
use Rattle.stm_core.proofs.Renewing.{split_rules, gather_rules}
use Rattle.stm_core.proofs.Conditions.{can_act}
use Rattle.stm_core.specs.Guards.{May, stripe_of}
use Rattle.stm_region.specs.Shown.{Opened, unplaced, with_gathered}
use Rattle.stm_region.specs.Layout.{place, InRange}
use Rattle.stm_region.specs.Traced.{IsTraced}
use Rattle.stm_region.specs.Rule.{IsCoreState}
use Rattle.stm_region.specs.Runs.{bounds_at}
use Rattle.stm_region.proofs.Tracing.{step_traced, split_traced, gather_traced}
use Rattle.stm_region.proofs.Places.{Stays, stays, found_there, left_there}

-- the table after a step that leaves this word
abbrev pub table_after : {S : Type 0} → Opened → State S Client → ℕ → Client → Action → ℕ → State S Client
table_after o s id v e left' = record s {
  words = slice_set s.words (place o.stripes e) left';
  views = slice_set s.views id
      (after (unplaced o.renewal) (stripe_of o.stripes) e (slice_index s.words (place o.stripes e)) v);
}

module _ {S : Type 0} (fits : List ℕ → Type 0) (lawful : RecordLaw) (o : Opened) (s : State S Client)
    (h : IsCoreState fits lawful o s) (id : ℕ) (v : Client) (at : get_elem? s.views id ≡ some v) (e : Action)
    (range : InRange o.stripes (length o.image) e) (may : May lawful (stripe_of o.stripes) (bounds_at o) e v) where
  abbrev lk : ℕ → ℕ
  lk = stripe_of o.stripes

  abbrev c : Core
  c = h.core

  pub member : get_elem? h.core.clients id ≡ some v
  member = subst (λ vs. get_elem? vs id ≡ some v) h.views at

  pub there : slice_index s.words (place o.stripes e) ≡ found (stripe_of o.stripes) h.core e
  there = ap (λ ws. slice_index ws (place o.stripes e)) h.words ∙
      found_there h.gap h.pad c o.stripes h.before_locks h.locks h.before_cells e h.some (length o.image) range

  same : bounds_of h.core ≡ bounds_at o
  same =
      let l = h.last in
      let k = h.locks in
      let w = h.rule.inv.size ∙ ap length h.opening in λ i. record { last = l i; stripes = k i; size = w i }

  pub may_here : May lawful (stripe_of o.stripes) (bounds_of h.core) e v
  may_here = subst (λ b. May lawful lk b e v) (sym same) may

  pub rule_after : Rule lawful (stripe_of o.stripes) (stepped (unplaced o.renewal) (stripe_of o.stripes) e id v h.core)
  rule_after = step_rules lawful lk c h.rule id v member may.0 (unplaced o.renewal) (sym h.renewal) e
      (can_act lk lawful (bounds_of c) v.attempt e may_here.1)

  unfoldable pub traced_after : IsTraced lawful o (stepped (unplaced o.renewal) (stripe_of o.stripes) e id v h.core)
  traced_after = step_traced lawful o c h.traced id v member e may_here o.renewal (sym h.renewal)

  module _ (left' : ℕ) (leaves : left' ≡ left e (found (stripe_of o.stripes) h.core e) v) where
    abbrev st : Stays c (written e (left e (found lk c e) v) c)
    st = stays c e (left e (found lk c e) v)

    unfoldable pub kept_after : IsCoreState fits lawful o (table_after o s id v e left')
    kept_after = record {
      core = stepped (unplaced o.renewal) (stripe_of o.stripes) e id v h.core;
      gap = h.gap;
      pad = h.pad;
      words = rw (leaves, h.words) (left_there h.gap h.pad c o.stripes h.before_locks h.locks h.before_cells e h.some
          (length o.image) range v);
      views = rw (h.views, there) refl;
      before_locks = h.before_locks;
      locks = st.locks ∙ h.locks;
      before_cells = h.before_cells;
      last = st.last ∙ h.last;
      opening = st.opening ∙ h.opening;
      first = st.first ∙ h.first;
      renewal = st.renewal ∙ h.renewal;
      rule = rule_after;
      traced = traced_after;
      fitting = h.fitting;
      bounded = h.bounded;
      some = h.some;
    }

-- the bound on the number of grants takes no grant away
pub gathered_takes : (lawful : RecordLaw) (l : ℕ → ℕ) (c : Core) → Rule lawful l c → (i j : ℕ) (v w : Client) → i ≢ j →
    get_elem? c.clients i ≡ some v → get_elem? c.clients j ≡ some w → v.is_gathered ≡ false → w.is_gathered ≡ false →
    with_gathered v w ≡ taking v w
gathered_takes lawful l c inv i j v w ne at to un un' =
    let n = grants_of_two lawful l (now c) inv.inv i j (shed c.renewal v) (shed c.renewal w) ne
    (at_map (shed c.renewal) c.clients i v at) (at_map (shed c.renewal) c.clients j w to) un un' in
    let e : min (v.grants + w.grants + 1) 63 ≡ v.grants + w.grants + 1 = omega arith in
    λ k. record (taking v w) { grants = e k }

module _ {S : Type 0} (fits : List ℕ → Type 0) (lawful : RecordLaw) (o : Opened) (s : State S Client)
    (h : IsCoreState fits lawful o s) (id : ℕ) (v : Client) (at : get_elem? s.views id ≡ some v) where
  pub in_core : (i : ℕ) (w : Client) → get_elem? s.views i ≡ some w → get_elem? h.core.clients i ≡ some w
  in_core i w e = subst (λ vs. get_elem? vs i ≡ some w) h.views e

  -- a client splits off another
  unfoldable pub split_kept : IsFreeHanded v → 0 < v.grants →
      IsCoreState fits lawful o record s { views = slice_set s.views id (giving v) ++ fresh v ∷ [] }
  split_kept free gr = record {
    core = divided id v h.core;
    gap = h.gap;
    pad = h.pad;
    words = h.words;
    views = rw h.views refl;
    before_locks = h.before_locks;
    locks = h.locks;
    before_cells = h.before_cells;
    last = h.last;
    opening = h.opening;
    first = h.first;
    renewal = h.renewal;
    rule = split_rules lawful (stripe_of o.stripes) h.core h.rule id v (in_core id v at) free gr;
    traced = split_traced lawful o h.core h.traced id v (in_core id v at) free gr;
    fitting = h.fitting;
    bounded = h.bounded;
    some = h.some;
  }

  -- a client gathers another
  module _ (other : ℕ) (w : Client) (to : get_elem? s.views other ≡ some w) (ne : id ≢ other)
      (free : IsFreeHanded v) (free' : IsFreeHanded w) where
    pub all : with_gathered v w ≡ taking v w
    all = gathered_takes lawful (stripe_of o.stripes) h.core h.rule id other v w ne (in_core id v at)
        (in_core other w to) free.0 free'.0

    unfoldable pub gather_kept :
        IsCoreState fits lawful o record s { views = slice_set (slice_set s.views id (with_gathered v w)) other gone }
    gather_kept = record {
      core = gathered id v other w h.core;
      gap = h.gap;
      pad = h.pad;
      words = h.words;
      views = rw (h.views, all) refl;
      before_locks = h.before_locks;
      locks = h.locks;
      before_cells = h.before_cells;
      last = h.last;
      opening = h.opening;
      first = h.first;
      renewal = h.renewal;
      rule = gather_rules lawful (stripe_of o.stripes) h.core h.rule id v (in_core id v at) other w (in_core other w to)
          ne free free';
      traced = gather_traced lawful o h.core h.traced id v (in_core id v at) other w (in_core other w to) ne free free';
      fitting = h.fitting;
      bounded = h.bounded;
      some = h.some;
    }
