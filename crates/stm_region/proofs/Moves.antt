-- Each step keeps the invariant, and reports its facts.
use Rattle.std.proofs.Common.{◌≡◌, inl, inr, ℕ, zero, suc, ◌+◌, ◌-◌, ◌*◌, ◌/◌, ◌%◌, ◌^◌, ◌≤◌, ◌<◌, cond}
use Rattle.std.proofs.Common.{eq-eqb, ne_eqb, Bool, true, false, List, [], ◌∷◌, length, set, slice_index, refl, sym, ap}
use Rattle.std.proofs.Common.{◌∙◌, subst, arith}
use mathlib.Core.Option.{none, some, some-injective, some-ne-none}
use mathlib.Core.Logic.{dite}
use native.Mathlib.Decide.{ℕ_discrete}
use prog.Atomic.{either}
use lib.ListN.{get_elem?}
use Rattle.atomic_table.specs.Table.{State, Me, step, keeps, Allows, Splits, Joins}
use Rattle.atomic_table.proofs.Lists.{set_else}
use Rattle.atomic_table.specs.Seated.{TableId}
use Rattle.tx_memory.specs.Image.{In, Agrees, laid}
use Rattle.stm_core.specs.Client.{Client, Record, running, old_version, RecordLaw, shed}
use Rattle.stm_core.specs.Core.{Core, bounds_of, found, left, written, stepped, IsFreeHanded}
use Rattle.stm_core.specs.Event.{Action, begin, probe, check, lock, tick, validate, put, release, give_back, finish}
use Rattle.stm_core.specs.Event.{after, decision, giving, fresh, gone}
use Rattle.stm_core.specs.History.{Serial, SomeFits, all_records}
use Rattle.stm_core.specs.Invariant.{now, Rule}
use Rattle.stm_core.proofs.Eras.{in_append, of_is}
use Rattle.stm_core.proofs.Lones.{at_map, goes_on}
use Rattle.stm_core.specs.Guards.{Holds, MayAct, May, stripe_of}
use Rattle.stm_core.proofs.Conditions.{can_act}
use Rattle.stm_core.proofs.Whole.{whole_shared, opening_fits, knows}
use Rattle.stm_core.proofs.Histories.{image_fits}
use Rattle.stm_core.proofs.Facts.{some_fits, ahead, all_lawful, one_version}
use Rattle.stm_region.specs.Shown.{Opened, RegionShown, with_gathered, opened_with, bounds, unplaced}
use Rattle.stm_region.specs.declared.layout.TheConstants.{FIRST_LOCK}
use Rattle.stm_region.specs.Layout.{place, first_cell, InRange, IsLaid, IsStore}
use Rattle.stm_region.specs.Findings.{IsLockWord, IsVersion, StandsOn, IsRightAfter, IsOneEvent, IsOfOneVersionAt}
use Rattle.stm_region.specs.Findings.{DecidesAt, Tells, Happens, acting, IsEarlier, AreEarlier}
use Rattle.stm_region.specs.Rule.{IsCoreState}
use Rattle.stm_region.proofs.Tracing.{step_traced, step_listed, step_opened, step_numbers}
use Rattle.stm_region.proofs.Deciding.{Makes, tick_makes, validate_makes, finish_makes}
use Rattle.stm_region.proofs.Places.{Stays, stays, in_table}
use Rattle.stm_region.proofs.Stepping.{kept_after, member, there as there_is, may_here, rule_after, split_kept}
use Rattle.stm_region.proofs.Stepping.{gather_kept}
use Rattle.stm_region.specs.Runs.{bounds_at}

not_in : {A : Type 0} (x : A) → In x [] → ⊥
not_in x m = some-ne-none x (sym m.1)

pair_eq : (p : ℕ × ℕ) (k : ℕ) → p.0 ≡ k → p ≡ (k, p.1)
pair_eq p k e i = (e i, p.1)

-- the old version that is looked up for a held lock is the listed one
old_there : (held : List (ℕ × ℕ)) (k u : ℕ) → In (k, u) held → In (k, old_version held k) held
old_there [] k u m = absurd (not_in (k, u) m)
old_there (p ∷ ps) k u (zero, e) = let q : p.0 ≡ k = ap (λ (x : ℕ × ℕ). x.0) (some-injective p (k, u) e) in
    (zero, rw (eq-eqb p.0 k q) (ap some (pair_eq p k q)))
old_there (p ∷ ps) k u (suc j, e) = dite (ℕ_discrete p.0 k) (λ q. (zero, rw (eq-eqb p.0 k q) (ap some (pair_eq p k q))))
    (λ n. let t = old_there ps k u (j, e) in (suc t.0, rw (ne_eqb p.0 k n) t.1))

abbrev Keeping : (List ℕ → Type 0) → RecordLaw → Type 0
Keeping fits lawful = (tag image : List ℕ) (reads writes : List (ℕ × ℕ)) → fits image → Agrees image reads →
    lawful tag reads writes → fits (laid image writes)

-- a running region as contracts see it: its table has the opening of the region
pub record Runs (words : ℕ) (key : Opened) (r : RegionShown) : Type 0 where
  pub key_is : key ≡ opened_with r
  pub size : length r.opening ≡ r.size
  pub total : words ≡ first_cell r.stripes + r.size
  pub some : 0 < r.stripes
  pub top : r.last < 2 ^ 62

pub runs : {renewals : ℕ} (words slots : ℕ) (key : Opened) (size last stripes cells : ℕ) →
    IsLaid words slots key size last stripes cells renewals → (t : TableId) (r : RegionShown) →
    record {
      table = t;
      size = size;
      last = last;
      stripes = stripes;
      opening = key.image;
      first = key.first;
      renewal = key.renewal;
      start = key.start;
    } ≡ r → Runs words key r
runs words slots key size last stripes cells h t r e = subst (λ x. Runs words key x) e record {
  key_is = (let l = h.last in let s = h.same in λ i. record {
    image = key.image;
    last = l i;
    stripes = s i;
    first = key.first;
    renewal = key.renewal;
    start = key.start;
  });
  size = h.image;
  total = (let b = h.behind in h.total ∙ ap (λ n. n + size) b);
  some = h.some;
  top = h.top;
}

pub either_is : (b : Bool) (x y : ℕ) → either b x y ≡ cond b x y
either_is true x y = refl
either_is false x y = refl

-- a core that agrees with the opening of its region
pub record Matches (o : Opened) (c : Core) : Type 0 where
  pub last : c.last ≡ o.last
  pub opening : c.opening ≡ o.image
  pub first : c.first ≡ o.first
  pub renewal : c.renewal ≡ o.renewal
  pub locks : length c.locks ≡ o.stripes

in_kept : (b : Bool) (l : List Record) (x : Record) → In x (cond b l []) → In x l
in_kept true l x m = m
in_kept false l x m = absurd (not_in x m)

-- a client's records are of earlier renewals, or of versions that the clock has reached
pub earlier : (lawful : RecordLaw) (l : ℕ → ℕ) (c : Core) → Rule lawful l c → (i : ℕ) (v : Client) →
    get_elem? c.clients i ≡ some v → AreEarlier c.renewal c.clock v.records
earlier lawful l c h i v at x m = elim (in_append _ _ x (subst (In x) (h.past.kept i v at) m)) [
  | inl p ↦ old (h.past.earlier x (in_kept _ c.past x p))
  | inr p ↦ record {
    present = present (of_is c.renewal v.records x p).1;
    version = λ _. (h.inv.version.sound i (shed c.renewal v) (at_map (shed c.renewal) c.clients i v at)).recorded x p;
  }
]
  where
    old : x.renewal < c.renewal → IsEarlier c.renewal c.clock x
    old q = record { present = omega arith; version = λ e. absurd (omega arith) }

    present : x.renewal ≡ c.renewal → x.renewal ≤ c.renewal
    present q = omega arith

module _ (fits : List ℕ → Type 0) (lawful : RecordLaw) (law : Keeping fits lawful) (r : RegionShown) where
  abbrev lk : ℕ → ℕ
  lk = stripe_of r.stripes

  abbrev o : Opened
  o = opened_with r

  decides_of : (c : Core) → Matches o c → length r.opening ≡ r.size → fits r.first → Rule lawful lk c →
      (i : ℕ) (v : Client) → get_elem? c.clients i ≡ some v → (e : Action) (n : ℕ) (u : Client) →
      IsRightAfter lawful r e n u i c → u.attempt.phase ≡ running →
      Makes (unplaced r.renewal) (decision (unplaced r.renewal) e n u) u v → DecidesAt fits lawful r e n u v
  decides_of c m z f h i v at e n u g run k =
      let all = whole_shared lawful lk c h i v at in (
        record {
          core = c;
          rule = h;
          first = m.first;
          renewal = m.renewal;
          opening = m.opening;
          last = m.last;
          locks = m.locks;
          cells = h.inv.size ∙ (ap length m.opening ∙ z);
          number = i;
          member = at;
          step = e;
          word = n;
          was = u;
          after = g;
          undecided = run;
          made = k.made;
          decided_by = k.single;
          added = k.added;
          attempt = k.attempt;
          writer = k.writer;
          fitting = f;
          abides = all.abides;
          serial = subst (λ image. Serial image (all_records c.clients)) m.first all.serial;
          among = all.among;
        },
        refl,
        refl,
        refl,
      )

  stands_on : (image : List ℕ) (reads : List (ℕ × ℕ)) → SomeFits fits (length image) reads →
      StandsOn fits (length image) reads
  stands_on image reads h = record { image = h.0; length_is = h.2; fitting = h.1; agrees = h.3 }

  stands_of : (c : Core) → Matches o c → length r.opening ≡ r.size → fits r.first → Rule lawful lk c →
      (i : ℕ) (v : Client) → get_elem? c.clients i ≡ some v → StandsOn fits r.size v.attempt.reads
  stands_of c m z f h i v at =
      let k : fits c.opening = opening_fits lawful lk c h fits law (subst fits (sym m.first) f) in
      subst (λ n. StandsOn fits n v.attempt.reads) (ap length m.opening ∙ z)
      (stands_on c.opening v.attempt.reads (some_fits lawful lk (now c) h.inv fits law k i (shed c.renewal v)
      (at_map (shed c.renewal) c.clients i v at)))

  -- the image of the read version fits, and agrees with the reads
  version_of_reads : (c : Core) → Matches o c → length r.opening ≡ r.size → fits r.first → Rule lawful lk c →
      (i : ℕ) (v : Client) → get_elem? c.clients i ≡ some v → (e : Action) (n : ℕ) (u : Client) →
      IsRightAfter lawful r e n u i c → IsOfOneVersionAt fits lawful r e n u v
  version_of_reads c m z f h i v at e n u g =
      let k : fits c.opening = opening_fits lawful lk c h fits law (subst fits (sym m.first) f) in
      let all = all_records (now c).clients in (
        record {
          core = c;
          rule = h;
          first = m.first;
          renewal = m.renewal;
          opening = m.opening;
          last = m.last;
          locks = m.locks;
          cells = h.inv.size ∙ (ap length m.opening ∙ z);
          number = i;
          member = at;
          step = e;
          word = n;
          was = u;
          after = g;
          fitting = image_fits c.opening h.inv.story fits lawful law all c.opening 0 v.attempt.rv
              (ahead lawful lk (now c) h.inv) (all_lawful lawful lk (now c) h.inv) k;
          agrees = one_version lawful lk (now c) h.inv i (shed c.renewal v) (at_map (shed c.renewal) c.clients i v at);
        },
        refl,
        refl,
        refl,
      )

  lock_word : (c : Core) → Matches o c → r.last < 2 ^ 62 → Rule lawful lk c → (k : ℕ) →
      IsLockWord r.last (slice_index c.locks k)
  lock_word c m top inv k =
      let h = inv.inv.version.versions k in
      let b = inv.inv.bounded in
      let e = m.last in
      let n : ℕ = slice_index c.locks k in
      let h' : n / 2 ≤ c.clock = h in record { version = omega arith; small = omega arith }

  clock : (c : Core) → Matches o c → r.last < 2 ^ 62 → Rule lawful lk c → IsVersion r.last c.clock
  clock c m top inv = let b = inv.inv.bounded in let e = m.last in record { known = omega arith; small = omega arith }

  opening_stands : (c : Core) → Matches o c → length r.opening ≡ r.size → fits r.first → Rule lawful lk c →
      StandsOn fits r.size []
  opening_stands c m z f h = record {
    image = c.opening;
    length_is = ap length m.opening ∙ z;
    fitting = opening_fits lawful lk c h fits law (subst fits (sym m.first) f);
    agrees =
        λ a x k. absurd (not_in (a, x) k);
  }

  later : (c : Core) → Rule lawful lk c → (i : ℕ) (v : Client) → get_elem? c.clients i ≡ some v → 0 < v.attempt.wv →
      v.attempt.rv < v.attempt.wv
  later c h i v at = (h.inv.books.booked i (shed c.renewal v) (at_map (shed c.renewal) c.clients i v at)).later

  -- the facts that a step reports, from the core before it and the core after it
  told_of : (c d : Core) → Matches o c → Matches o d → length r.opening ≡ r.size → r.last < 2 ^ 62 → fits r.first →
      Rule lawful lk c → Rule lawful lk d → (i : ℕ) (v : Client) (e : Action) → get_elem? c.clients i ≡ some v
      → get_elem? d.clients i ≡ some (after (unplaced r.renewal) lk e (found lk c e) v) →
      IsRightAfter lawful r e (found lk c e) v i d → MayAct lawful lk (bounds_of c) e v.attempt →
      Tells fits lawful r e (found lk c e) v (after (unplaced r.renewal) lk e (found lk c e) v)
  told_of c d m m' z top f h h' i v begin was at g may = (
    clock c m top h,
    (h.inv.version.sound i (shed c.renewal v) (at_map (shed c.renewal) c.clients i v was)).floor,
    opening_stands c m z f h,
    subst (λ n. AreEarlier n c.clock v.records) m.renewal (earlier lawful lk c h i v was),
    λ all. knows lawful lk c h i v was all,
  )
  told_of c d m m' z top f h h' i v (probe k) was at g may =
      (lock_word c m top h k, λ y. (goes_on lawful lk c h.inv h.lone i v was y.0 y.1).probes k)
  told_of c d m m' z top f h h' i v (check a) was at g may = (
    lock_word c m top h (lk a),
    stands_of d m' z f h' i (after (unplaced r.renewal) lk (check a)
        (found lk c (check a)) v) at,
    (λ y. (goes_on lawful lk c h.inv h.lone i v was y.0 y.1).checks a may),
    version_of_reads d m' z f h' i (after (unplaced r.renewal) lk (check a) (found lk c (check a)) v) at (check a)
        (found lk c (check a)) v g,
  )
  told_of c d m m' z top f h h' i v (lock k) was at g may = (
    lock_word c m top h k,
    λ y. (goes_on lawful lk c h.inv h.lone i v was y.0 y.1).locks k may,
  )
  told_of c d m m' z top f h h' i v (tick from tag writes) was at g may =
      let w = after (unplaced r.renewal) lk (tick from tag writes) c.clock v in
      let run : v.attempt.phase ≡ running = (can_act lk lawful (bounds_of c) v.attempt (tick from tag writes) may).0.0
      in (
        clock c m top h,
        later d h' i w at,
        (λ s. decides_of d m' z f h' i w at (tick from tag writes) c.clock v g run
            (tick_makes (unplaced r.renewal) lk c.clock v run from tag writes s)),
        λ y. let g =
            (goes_on lawful lk c h.inv h.lone i v was y.0 y.1).ticks from tag writes may in
            (g.0, g.1 (unplaced r.renewal)),
      )
  told_of c d m m' z top f h h' i v (validate k) was at g may =
      let run : v.attempt.phase ≡ running = (can_act lk lawful (bounds_of c) v.attempt (validate k) may).0 in (
        lock_word c m top h k,
        λ s. decides_of d m' z f h' i (after (unplaced r.renewal) lk (validate k)
            (found lk c (validate k)) v) at (validate k) (found lk c (validate k)) v g run
            (validate_makes (unplaced r.renewal) lk (found lk c (validate k)) v run k s),
      )
  told_of c d m m' z top f h h' i v (finish tag) was at g may =
      let run : v.attempt.phase ≡ running = (can_act lk lawful (bounds_of c) v.attempt (finish tag) may).0.0 in
      decides_of d m' z f h' i (after (unplaced r.renewal) lk (finish tag) c.clock v) at (finish tag) c.clock v g run
      (finish_makes (unplaced r.renewal) lk c.clock v run tag)
  told_of c d m m' z top f h h' i v _ was at g may = tt

  -- the step is one event
  event_of : (d : Core) → Matches o d → length r.opening ≡ r.size → Rule lawful lk d → (i : ℕ) (v : Client) →
      get_elem? d.clients i ≡ some v → (e : Action) (n : ℕ) (u : Client) → IsRightAfter lawful r e n u i d →
      IsOneEvent lawful r e n u v
  event_of d m z h i v at e n u g = record {
    core = d;
    rule = h;
    first = m.first;
    renewal = m.renewal;
    opening = m.opening;
    last = m.last;
    locks = m.locks;
    cells = h.inv.size ∙ (ap length m.opening ∙ z);
    number = i;
    member = at;
    after = g;
  }

  happens_of : (e : Action) (n : ℕ) (v w : Client) → IsOneEvent lawful r e n v w → Happens fits lawful r e n v w
  happens_of (put a x) n v w h = (n, h)
  happens_of (release k) n v w h = (n, h)
  happens_of _ n v w h = h

  in_clients : (cs : List Client) (i : ℕ) (v w : Client) → get_elem? cs i ≡ some v → get_elem? (set cs i w) i ≡ some w
  in_clients [] i v w e = absurd (some-ne-none v (sym e))
  in_clients (x ∷ xs) zero v w e = refl
  in_clients (x ∷ xs) (suc i) v w e = in_clients xs i v w e

  -- a held lock word less 1 is the free word of its old version
  less_one : (c : Core) (id k : ℕ) (v : Client) → Rule lawful lk c → get_elem? c.clients id ≡ some v →
      Holds v.attempt.held k → slice_index c.locks k < 18446744073709551616
      → (slice_index c.locks k + (18446744073709551616 - 1)) % 18446744073709551616 ≡ 2 * old_version v.attempt.held k
  less_one c id k v inv at w lt =
      let e = (inv.inv.books.booked id (shed c.renewal v) (at_map (shed c.renewal) c.clients id v at)).listed k
      (old_version v.attempt.held k) (old_there v.attempt.held k w.0 w.1) in
      let n : ℕ = slice_index c.locks k in
      let u : ℕ = old_version v.attempt.held k in
      let e' : n ≡ 2 * u + 1 = e in omega arith

  module _ {S : Type 0} where
    abbrev Kept : State S Client → Type 0
    Kept s = IsCoreState fits lawful o s

    pub matches : (s : State S Client) (h : Kept s) → Matches o h.core
    matches s h = record { last = h.last; opening = h.opening; first = h.first; renewal = h.renewal; locks = h.locks }

    -- a step on its word, which becomes f of the word before
    acts_allowed : (slots id : ℕ) (me : Me S Client) (e : Action) (word : ℕ) (f : ℕ → ℕ) (told : ℕ → Me S Client →
        Type 0)
        → length r.opening ≡ r.size → word ≡ place r.stripes e → InRange r.stripes r.size e →
        May lawful lk (bounds r) e me.0
        → ((c : Core) → Rule lawful lk c → get_elem? c.clients id ≡ some me.0 → found lk c e < 18446744073709551616 →
        f (found lk c e) ≡ left e (found lk c e) me.0)
        → ((n : ℕ) → Tells fits lawful r e n me.0 (after (unplaced r.renewal) lk e n me.0) →
        IsOneEvent lawful r e n me.0 (after (unplaced r.renewal) lk e n me.0) →
        told n (after (unplaced r.renewal) lk e n me.0, me.1))
        → Allows Kept slots id me word f told
    acts_allowed slots id me e word f told z is range may does tells s h len at lt =
        let v : Client = me.0 in
        let c : Core = h.core in
        let range' : InRange o.stripes (length o.image) e = subst (λ n. InRange r.stripes n e) (sym z) range in
        let may0 : May lawful lk (bounds_at o) e v =
        subst (λ n. May lawful lk record { last = r.last; stripes = r.stripes; size = n } e v) (sym z) may in
        let there : slice_index s.words word ≡ found lk c e =
        ap (slice_index s.words) is ∙ there_is fits lawful o s h id v at e range' may0 in
        let at' : get_elem? c.clients id ≡ some v = member fits lawful o s h id v at e range' may0 in
        let may' : May lawful lk (bounds_of c) e v = may_here fits lawful o s h id v at e range' may0 in
        let inv' : Rule lawful lk (stepped (unplaced r.renewal) lk e id v c) =
        rule_after fits lawful o s h id v at e range' may0 in
        let st : Stays c (written e (left e (found lk c e) v) c) = stays c e (left e (found lk c e) v) in
        let m' : Matches o (stepped (unplaced r.renewal) lk e id v c) =
        record {
          last = st.last ∙ h.last;
          opening = st.opening ∙ h.opening;
          first = st.first ∙ h.first;
          renewal = st.renewal ∙ h.renewal;
          locks = st.locks ∙ h.locks;
        } in
        let here : get_elem? (stepped (unplaced r.renewal) lk e id v c).clients id ≡ some
        (after (unplaced r.renewal) lk e (found lk c e) v) = in_clients c.clients id v _ at' in
        let right : IsRightAfter lawful r e (found lk c e) v id (stepped (unplaced r.renewal) lk e id v c) =
        record {
          before = c;
          member = at';
          finds = refl;
          now = refl;
          traced = h.traced;
          goes_on = λ t. (
            step_traced lawful o c t id v at' e may' r.renewal (sym h.renewal),
            step_opened lawful o c t id v at' e may' r.renewal (sym h.renewal),
            step_numbers lawful o c t id v at' e may' r.renewal (sym h.renewal),
            step_listed lawful o c t id v at' e may' r.renewal (sym h.renewal),
          );
        } in
        let does' : f (slice_index s.words word) ≡ left e (found lk c e) v =
        ap f there ∙ does c h.rule at' (subst (λ n. n < 18446744073709551616) there lt) in (
          after (unplaced r.renewal) lk e (slice_index s.words word) v,
          keeps,
          tt,
          subst (λ w. IsCoreState fits lawful o (Rattle.atomic_table.specs.Table.stepped s w
              (f (slice_index s.words word)) id me.1 (after (unplaced r.renewal) lk e (slice_index s.words w) v) keeps))
              (sym is)
              (kept_after fits lawful o s h id v at e range' may0 (f (slice_index s.words word)) does'),
          tells (slice_index s.words word) (rw there (told_of c (stepped (unplaced r.renewal) lk e id v c)
              (matches s h) m' z h.bounded h.fitting h.rule inv' id v e at' here right may'.1))
              (rw there (event_of (stepped (unplaced r.renewal) lk e id v c) m' z inv' id
              (after (unplaced r.renewal) lk e (found lk c e) v) here e (found lk c e) v right)),
        )

    -- as `acts_allowed`, for a table that has the opening of the region
    acts_in : (words : ℕ) (key : Opened) → Runs words key r →
        (slots id : ℕ) (me : Me S Client) (e : Action) (word : ℕ) (f : ℕ → ℕ) (told : ℕ → Me S Client → Type 0)
        → word ≡ place r.stripes e → InRange r.stripes r.size e → May lawful lk (bounds r) e me.0
        → ((c : Core) → Rule lawful lk c → get_elem? c.clients id ≡ some me.0 → found lk c e < 18446744073709551616 →
        f (found lk c e) ≡ left e (found lk c e) me.0)
        → ((n : ℕ) → Tells fits lawful r e n me.0 (after (unplaced r.renewal) lk e n me.0) →
        IsOneEvent lawful r e n me.0 (after (unplaced r.renewal) lk e n me.0) →
        told n (after (unplaced r.renewal) lk e n me.0, me.1))
        → (word < words) × Allows (IsCoreState fits lawful key) slots id me word f told
    acts_in words key run slots id me e word f told is range may does tells = (
      subst (λ n. n < words) (sym is) (in_table r.stripes r.size words e run.total run.some range),
      subst (λ k. Allows (IsCoreState fits lawful k) slots id me word f told) (sym run.key_is)
          (acts_allowed slots id me e word f told run.size is range may does tells),
    )

    -- a load or an exchange
    pub acts_here : (words : ℕ) (key : Opened) → Runs words key r → (t : RegionShown) → t ≡ r →
        (slots id : ℕ) (me : Me S Client) (e : Action) (word : ℕ) (f : ℕ → ℕ)
        → word ≡ place r.stripes e → InRange r.stripes r.size e → May lawful lk (bounds r) e me.0 →
        ((n : ℕ) → left e n me.0 ≡ f n)
        → (word < words) × Allows (IsCoreState fits lawful key) slots id me word f
        (acting fits lawful t e (step 0 0 0 0 none) me)
    acts_here words key run t q slots id me e word f is range may does =
        subst (λ x. (word < words) × Allows (IsCoreState fits lawful key) slots id me word f
        (acting fits lawful x e (step 0 0 0 0 none) me)) (sym q)
        (acts_in words key run slots id me e word f (acting fits lawful r e (step 0 0 0 0 none) me) is range may
        (λ c i a l. sym (does (found lk c e))) (λ n t h. (refl, t, happens_of e n me.0 _ h)))

    -- a store, whose effect does not depend on the word found
    stored : (me : Me S Client) (e : Action) → IsStore e → (n new : ℕ) →
        Tells fits lawful r e n me.0 (after (unplaced r.renewal) lk e n me.0) →
        IsOneEvent lawful r e n me.0 (after (unplaced r.renewal) lk e n me.0) →
        acting fits lawful r e (step 0 0 0 0 none) me new (after (unplaced r.renewal) lk e n me.0, me.1)
    stored me (put a x) s n new t h = (refl, tt, (n, h))
    stored me (release k) s n new t h = (refl, tt, (n, h))
    stored me _ s n new t h = absurd s

    pub stores_here : (words : ℕ) (key : Opened) → Runs words key r → (t : RegionShown) → t ≡ r →
        (slots id : ℕ) (me : Me S Client) (e : Action) (word new : ℕ)
        → word ≡ place r.stripes e → InRange r.stripes r.size e → May lawful lk (bounds r) e me.0 → IsStore e →
        ((n : ℕ) → left e n me.0 ≡ new)
        → (word < words) × Allows (IsCoreState fits lawful key) slots id me word (λ _. new)
        (λ _. acting fits lawful t e (step 0 0 0 0 none) me new)
    stores_here words key run t q slots id me e word new is range may s does =
        subst (λ x. (word < words) × Allows (IsCoreState fits lawful key) slots id me word (λ _. new)
        (λ _. acting fits lawful x e (step 0 0 0 0 none) me new)) (sym q)
        (acts_in words key run slots id me e word (λ _. new)
        (λ _. acting fits lawful r e (step 0 0 0 0 none) me new) is range may (λ c i a l. sym (does (found lk c e)))
        (λ n t h. stored me e s n new t h))

    pub subtracts_here : (words : ℕ) (key : Opened) → Runs words key r → (t : RegionShown) → t ≡ r →
        (slots id : ℕ) (me : Me S Client) (e : Action) (k word : ℕ)
        → e ≡ give_back k → word ≡ FIRST_LOCK + k → k < r.stripes → May lawful lk (bounds r) (give_back k) me.0
        → (word < words) × Allows (IsCoreState fits lawful key) slots id me word
        (λ n. (n + (18446744073709551616 - 1)) % 18446744073709551616)
        (acting fits lawful t e (step 0 0 0 0 none) me)
    subtracts_here words key run t q slots id me e k word gives is range may =
        subst (λ x. (word < words) × Allows (IsCoreState fits lawful key) slots id me word
        (λ n. (n + (18446744073709551616 - 1)) % 18446744073709551616)
        (acting fits lawful t x (step 0 0 0 0 none) me)) (sym gives)
        (subst (λ x. (word < words) × Allows (IsCoreState fits lawful key) slots id me word
        (λ n. (n + (18446744073709551616 - 1)) % 18446744073709551616)
        (acting fits lawful x (give_back k) (step 0 0 0 0 none) me)) (sym q)
        (acts_in words key run slots id me (give_back k) word
        (λ n. (n + (18446744073709551616 - 1)) % 18446744073709551616)
        (acting fits lawful r (give_back k) (step 0 0 0 0 none) me) is range may
        (λ c i a l. less_one c id k me.0 i a (can_act lk lawful (bounds r) me.0.attempt (give_back k) may.1).1 l)
        (λ n t h. (refl, t, h))))

    -- a client splits off another
    split_allowed : (id : ℕ) (v : Client) → IsFreeHanded v → 0 < v.grants → Splits Kept id v (giving v) (fresh v)
    split_allowed id v free gr s h at = split_kept fits lawful o s h id v at free gr

    pub splits_here : (words : ℕ) (key : Opened) → Runs words key r → (id : ℕ) (v : Client) → IsFreeHanded v →
        0 < v.grants → (0 < words) × Splits (IsCoreState {S = S} fits lawful key) id v (giving v) (fresh v)
    splits_here words key run id v free gr = (
      let t = run.total in
          omega arith,
      subst (λ k. Splits (IsCoreState {S = S} fits lawful k) id v (giving v) (fresh v)) (sym run.key_is)
          (split_allowed id v free gr),
    )

    -- a client gathers another
    join_allowed : (id : ℕ) (v : Client) (other : ℕ) (w : Client) → IsFreeHanded v → IsFreeHanded w →
        Joins Kept id v other w (with_gathered v w) gone
    join_allowed id v other w free free' s h at ne to = gather_kept fits lawful o s h id v at other w
        (sym (set_else s.views id other (with_gathered v w) ne) ∙ to) (λ e. ne (sym e)) free free'

    pub joins_here : (words : ℕ) (key : Opened) → Runs words key r → (id : ℕ) (v : Client) (other : ℕ) (w : Client) →
        IsFreeHanded v → IsFreeHanded w → (0 < words) × Joins (IsCoreState {S = S} fits lawful key) id v other w
        (with_gathered v w) gone
    joins_here words key run id v other w free free' = (
      let t = run.total in omega arith,
      subst (λ k. Joins (IsCoreState {S = S} fits lawful k) id v other w
          (with_gathered v w) gone) (sym run.key_is) (join_allowed id v other w free free'),
    )
