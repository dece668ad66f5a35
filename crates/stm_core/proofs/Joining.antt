-- A client is split off, two clients are joined, and a core is opened: each of these keeps the
-- version invariant.
use Rattle.std.proofs.Common.{◌≡◌, ◌≢◌, ℕ, zero, suc, ◌+◌, ◌-◌, ◌≤◌, ◌<◌, ◌⊎◌, inl, inr, ⊎_elim, true, false, List, []}
use Rattle.std.proofs.Common.{◌∷◌, ◌++◌, length, replicate, set, slice_index, refl, sym, ◌∙◌, subst, arith, le_refl}
use Rattle.std.proofs.Common.{zero-le}
use mathlib.Core.Option.{some, some-ne-none}
use mathlib.Core.Logic.{dite}
use native.Mathlib.Decide.{ℕ_discrete}
use lib.ListN.{get_elem?}
use Rattle.std.proofs.lemmas.List.Sums.{sum_by-cons}
use Rattle.tx_memory.specs.Image.{In}
use Rattle.stm_core.specs.Client.{Client, Record, Aborted, decided, writes_to, merged, given_up, nothing, RecordLaw}
use Rattle.stm_core.specs.Event.{giving, fresh, taking, gone, opener}
use Rattle.stm_core.specs.Core.{Core, IsFreeHanded, divided, gathered, opened}
use Rattle.stm_core.specs.Version.{World, At, IsOpen, Claims, runs, passes, noted, gave_up, Saw, IsSound, IsKept}
use Rattle.stm_core.specs.Version.{IsBooked}
use Rattle.stm_core.specs.Records.{AllInside, IsFiled, Filed, wrote_in}
use Rattle.stm_core.specs.Invariant.{world, share, Inv}
use Rattle.stm_core.proofs.Lists.{at_set, at_snoc, at_longer, set_here, set_else, same_at, clash, nothing_in}
use Rattle.stm_core.proofs.Turns.{Heart, look_keeps}
use Rattle.stm_core.proofs.Orders.{in_merged, merged_left, merged_right, merged_ordered}
use Rattle.stm_core.proofs.Loading.{same_keeps, given_cases, given_claims}
use Rattle.stm_core.proofs.Eras.{in_append}
use Rattle.stm_core.proofs.Clearing.{clear_keeps}
use Rattle.stm_core.proofs.Sums.{sum_set, sum_snoc, share_of}
use Rattle.stm_core.proofs.Steps.{heart_of, same_files}

module _ (lk : ℕ → ℕ) (s : World) (cs : List Client) (w : Client) (h : Heart lk s cs) (held : w.attempt.held ≡ [])
    (wv : w.attempt.wv ≡ 0) (reads : w.attempt.reads ≡ []) (records : w.records ≡ []) (phase : decided w ≡ false)
    (rv : w.attempt.rv ≡ 0) (floor : w.floor ≤ s.clock) (last : w.attempt.last ≡ nothing)
    (aborted : w.aborted ≡ []) where
  no_claim : (b a x : ℕ) → Claims w b a x → ⊥
  no_claim b a x (runs e i) = nothing_in (a, x) (subst (In (a, x)) reads i)
  no_claim b a x (passes e j l i) = (let z : suc b ≡ 0 = e ∙ wv in omega arith)
  no_claim b a x (noted r i e m) = nothing_in r (subst (In r) records i)
  no_claim b a x (gave_up r i e m) = nothing_in r (subst (In r) aborted i)

  no_lock : (k u : ℕ) → In (k, u) w.attempt.held → ⊥
  no_lock k u i = nothing_in (k, u) (subst (In (k, u)) held i)

  no_version : 0 < w.attempt.wv → ⊥
  no_version z = (let e = wv in omega arith)

  who : (P : ℕ → Client → Type 0) → ((i : ℕ) → P i w) → ((i : ℕ) (o : Client) → At cs i o → P i o) →
      (i : ℕ) (o : Client) → At (cs ++ w ∷ []) i o → P i o
  who P new old i o e = ⊎_elim (λ p. old i o p) (λ p. subst (λ c. P i c) p (new i)) (at_snoc cs w o i e)

  -- one more client, which has nothing
  pub longer_keeps : Heart lk s (cs ++ w ∷ [])
  longer_keeps = record {
    version = record {
      versions = h.version.versions;
      own = λ i j o p e f z same. who (λ y c. 0 < c.attempt.wv → c.attempt.wv ≡ p.attempt.wv →
          y ≡ j) (λ y z'. absurd (no_version z'))
          (λ y c at z' same'. who (λ n d. c.attempt.wv ≡ d.attempt.wv →
          y ≡ n) (λ n q. absurd (no_version (let q' : c.attempt.wv ≡ w.attempt.wv = q in omega arith)))
          (λ n d at' q. h.version.own y n c d at at' z' q) j p f same') i o e z same;
      free = h.version.free;
      holder = λ k odd. let q = h.version.holder k odd in (q.0, q.1, at_longer cs w q.1 q.0 q.2, q.3);
      alone = λ i j o p k u t e f a b. who (λ y c. In (k, u) c.attempt.held →
          y ≡ j) (λ y g. absurd (no_lock k u g)) (λ y c at g. who (λ n d. In (k, t) d.attempt.held →
          y ≡ n) (λ n g'. absurd (no_lock k t g')) (λ n d at' g'. h.version.alone y n c d k u t at at' g g') j p f b) i
          o e a;
      kept = λ i o k u e g. who (λ y c. In (k, u) c.attempt.held → IsKept lk s c k u) (λ y g'. absurd (no_lock k u g'))
          (λ y c at g'. h.version.kept y c k u at g') i o e g;
      apart = λ i j o p b a x e f c op l. who (λ y d. Claims d b a x →
          writes_to p.attempt.writes a ≡ false) (λ y c'. absurd (no_claim b a x c'))
          (λ y d at c'. who (λ n q. IsOpen q → q.attempt.wv ≤ b →
          writes_to q.attempt.writes a ≡ false) (λ n op'. absurd (no_version op'.0))
          (λ n q at' op' l'. h.version.apart y n d q b a x at at' c' op' l') j p f op l) i o e c;
      sound = λ i o e. who (λ y c. IsSound lk s c) (λ y. new_sound) (λ y c at. h.version.sound y c at) i o e;
    };
    books = record {
      story = h.books.story;
      steady = h.books.steady;
      booked = λ i o e. who (λ y c. IsBooked lk s c) (λ y. new_booked) (λ y c at. h.books.booked y c at) i o e;
    };
  }
    where
      new_sound : IsSound lk s w
      new_sound = record {
        rv = (let e = rv in omega arith);
        wv = (let e = wv in omega arith);
        floor = floor;
        recorded = λ r i. absurd (nothing_in r (subst (In r) records i));
        agrees = λ b a x p. absurd (no_claim b a x p);
        locked = λ o. absurd (no_version o.0);
        pending = λ d. clash d phase;
        above = λ k u i. absurd (no_lock k u i);
        saw = subst (Saw lk s w.attempt.rv) (sym last) tt;
      }

      new_booked : IsBooked lk s w
      new_booked = record {
        later = λ z. absurd (no_version z);
        listed = λ k u i. absurd (no_lock k u i);
        unwritten = λ o. absurd (no_version o.0);
        told = λ d. clash d phase;
        values = λ d. clash d phase;
      }

module _ (lawful : RecordLaw) (size renewal : ℕ) (story : List (List (ℕ × ℕ))) where
  -- a client that has nothing is filed
  blank_filed : (w : Client) → w.attempt.held ≡ [] → w.attempt.wv ≡ 0 → w.attempt.reads ≡ [] → w.records ≡ [] →
      decided w ≡ false → w.aborted ≡ [] → IsFiled lawful size renewal story w
  blank_filed w held wv reads records phase aborted = record {
    ordered = rw records tt;
    told = λ r m. absurd (nothing_in r (subst (In r) records m));
    reads = λ a x m. absurd (nothing_in (a, x) (subst (In (a, x)) reads m));
    aborted = λ r m. absurd (nothing_in r (subst (In r) aborted m));
    writes = λ z. absurd (omega (arith, wv));
    abides = λ o. absurd (let z = o.0 in omega (arith, wv));
    commits = λ d. clash d phase;
    gone = λ s. (records, held);
  }

  pub longer_files : (clock : ℕ) (cs : List Client) (w : Client) → Filed lawful size renewal story clock cs →
      w.attempt.held ≡ [] → w.attempt.wv ≡ 0 → w.attempt.reads ≡ [] → w.records ≡ [] → decided w ≡ false →
      w.aborted ≡ [] → Filed lawful size renewal story clock (cs ++ w ∷ [])
  longer_files clock cs w h held wv reads records phase aborted = record {
    filed = λ i o e. who (λ y c. IsFiled lawful size renewal story c)
        (λ y. blank_filed w held wv reads records phase aborted)
        (λ y c at. h.filed y c at) i o e;
    versions = h.versions;
    unwritten = λ i j o p r e f m t op. who (λ y c. In r c.records →
        r.version ≢ p.attempt.wv) (λ y m'. absurd (no_record r m'))
        (λ y c at m'. who (λ n d. IsOpen d → r.version ≢ d.attempt.wv) (λ n op'. absurd (closed op'))
        (λ n d at' op'. h.unwritten y n c d r at at' m' t op') j p f op) i o e m;
    empty = λ i o e op. who (λ y c. IsOpen c → get_elem? story (c.attempt.wv - 1) ≡ some [])
        (λ y op'. absurd (closed op')) (λ y c at op'. h.empty y c at op') i o e op;
    once = λ i j o p r x e f n m m' t t'. who (λ y c. y ≢ j → In r c.records →
        r.version ≢ x.version) (λ y n' a. absurd (no_record r a))
        (λ y c at n' a. who (λ z d. y ≢ z → In x d.records → r.version ≢ x.version) (λ z q b. absurd (no_record x b))
        (λ z d at' q b. h.once y z c d r x at at' q a b t t') j p f n' m') i o e n m;
    complete = λ u ws e n. let q = h.complete u ws e n in (q.0, q.1, q.2, at_longer cs w q.1 q.0 q.3, q.4, q.5, q.6);
  }
    where
      who : (P : ℕ → Client → Type 0) → ((i : ℕ) → P i w) → ((i : ℕ) (o : Client) → At cs i o → P i o) →
          (i : ℕ) (o : Client) → At (cs ++ w ∷ []) i o → P i o
      who P new old i o e = ⊎_elim (λ p. old i o p) (λ p. subst (λ c. P i c) p (new i)) (at_snoc cs w o i e)

      no_record : (r : Record) → In r w.records → ⊥
      no_record r m = nothing_in r (subst (In r) records m)

      closed : IsOpen w → ⊥
      closed o = (let z = o.0 in omega (arith, wv))

  -- the records of two clients are merged
  module _ (clock : ℕ) (cs : List Client) (i j : ℕ) (v w new none : Client)
      (h : Filed lawful size renewal story clock cs) (at : At cs i v) (to : At cs j w) (ne : i ≢ j)
      (records : new.records ≡ merged v.records w.records)
      (is_gathered : new.is_gathered ≡ false) (wv : new.attempt.wv ≡ v.attempt.wv)
      (writes : new.attempt.writes ≡ v.attempt.writes) (tag : new.attempt.tag ≡ v.attempt.tag)
      (phase : decided new ≡ decided v) (reads : new.attempt.reads ≡ v.attempt.reads)
      (none_held : none.attempt.held ≡ []) (none_wv : none.attempt.wv ≡ 0) (none_reads : none.attempt.reads ≡ [])
      (none_records : none.records ≡ []) (none_phase : decided none ≡ false) (none_aborted : none.aborted ≡ [])
      (aborted : new.aborted ≡ v.aborted ++ given_up w) where
    mine : IsFiled lawful size renewal story v
    mine = h.filed i v at

    its : IsFiled lawful size renewal story w
    its = h.filed j w to

    -- a record of the merged list is a record of one of the two clients
    either : (r : Record) → In r new.records → In r v.records ⊎ In r w.records
    either r m = in_merged v.records w.records r (subst (In r) records m)

    joined : IsFiled lawful size renewal story new
    joined = record {
      ordered = rw records (merged_ordered v.records w.records mine.ordered its.ordered
          (λ x y m n t t'. h.once i j v w x y at to ne m n t t'));
      told = λ r m. ⊎_elim (λ p. mine.told r p) (λ p. its.told r p) (either r m);
      reads = rw reads mine.reads;
      aborted = λ r m. ⊎_elim (λ p. mine.aborted r p) (λ p. ⊎_elim (λ q. its.aborted r q)
          (λ q. subst (λ (z : Aborted). AllInside size z.reads) q.1 its.reads) (given_cases w r p))
          (in_append v.aborted (given_up w) r (subst (In r) aborted m));
      writes = λ z. rw writes (mine.writes (subst (λ n. 0 < n) wv z));
      abides = λ o. rw (tag, reads, writes) (mine.abides (subst (λ n. 0 < n) wv o.0, sym phase ∙ o.1));
      commits = λ d. rw (wv, writes) (mine.commits (sym phase ∙ d));
      gone = λ s. clash s is_gathered;
    }

    no_record : (r : Record) → In r none.records → ⊥
    no_record r m = nothing_in r (subst (In r) none_records m)

    closed : IsOpen none → ⊥
    closed o = (let z = o.0 in omega (arith, none_wv))

    -- the clients after the gathering
    stands : (P : ℕ → Client → Type 0) → P i new → P j none →
        ((n : ℕ) (o : Client) → At cs n o → n ≢ i → n ≢ j → P n o) → (n : ℕ) (o : Client) →
        At (set (set cs i new) j none) n o → P n o
    stands P a b c n o e = ⊎_elim (λ p. subst (λ d. P n d) p.1 (subst (λ y. P y none) (sym p.0) b))
        (λ p. ⊎_elim (λ q. subst (λ d. P n d) q.1 (subst (λ y. P y new) (sym q.0) a)) (λ q. c n o q.1 q.0 p.0)
        (at_set cs i n new o p.1)) (at_set (set cs i new) j n none o e)

    here : At (set (set cs i new) j none) i new
    here = set_else (set cs i new) j i none new ne (set_here cs i v new at)

    join_files : Filed lawful size renewal story clock (set (set cs i new) j none)
    join_files = record {
      filed = λ n o e. stands (λ y c. IsFiled lawful size renewal story c) joined
          (blank_filed none none_held none_wv none_reads none_records none_phase none_aborted)
          (λ y c q a b. h.filed y c q) n o e;
      versions = h.versions;
      unwritten = λ n m o p r e f g t op. stands (λ y c. In r c.records → r.version ≢ p.attempt.wv)
          (λ g'. versions_differ r t (λ y c q opn. ⊎_elim (λ l. h.unwritten i y v c r at q l t opn)
          (λ l. h.unwritten j y w c r to q l t opn) (either r g')) m p f op) (λ g'. absurd (no_record r g'))
          (λ y c q a b g'. versions_differ r t (λ z d q' opn. h.unwritten y z c d r q q' g' t opn) m p f op) n o e g;
      empty = λ n o e op. stands (λ y c. IsOpen c → get_elem? story (c.attempt.wv - 1) ≡ some [])
          (λ op'. rw wv (h.empty i v at (was_open op'))) (λ op'. absurd (closed op'))
          (λ y c q a b op'. h.empty y c q op') n o e op;
      once = λ n m o p r x e f d g g' t t'. stands (λ y c. y ≢ m → In r c.records → r.version ≢ x.version)
          (λ d' a. stands (λ z c. i ≢ z → In x c.records → r.version ≢ x.version) (λ q b. absurd (q refl))
          (λ q b. absurd (no_record x b))
          (λ z c q z1 z2 d'' b. ⊎_elim (λ l. h.once i z v c r x at q (λ s. z1 (sym s)) l b t t')
          (λ l. h.once j z w c r x to q (λ s. z2 (sym s)) l b t t') (either r a)) m p f d' g')
          (λ d' a. absurd (no_record r a))
          (λ y c q y1 y2 d' a. stands (λ z k. y ≢ z → In x k.records →
          r.version ≢ x.version) (λ d'' b. ⊎_elim (λ l. h.once y i c v r x q at y1 a l t t')
          (λ l. h.once y j c w r x q to y2 a l t t') (either x b)) (λ d'' b. absurd (no_record x b))
          (λ z k q' z1 z2 d'' b. h.once y z c k r x q q' d'' a b t t') m p f d' g') n o e d g;
      complete = λ u ws e n. let q = h.complete u ws e n in
          dite (ℕ_discrete q.0 i) (λ z. (
            i,
            new,
            q.2,
            here,
            rw records
                (merged_left v.records w.records q.2 (subst (λ (c : Client). In q.2 c.records)
                (same_at cs i q.1 v (subst (λ y. At cs y q.1) z q.3) at) q.4)),
            q.5,
            q.6,
          ))
          (λ z. dite (ℕ_discrete q.0 j) (λ y. (
            i,
            new,
            q.2,
            here,
            rw records (merged_right v.records w.records q.2
                (subst (λ (c : Client). In q.2 c.records) (same_at cs j q.1 w (subst (λ y'. At cs y' q.1) y q.3) to)
                q.4)),
            q.5,
            q.6,
          ))
          (λ y. (
            q.0,
            q.1,
            q.2,
            set_else (set cs i new) j q.0 none q.1 y (set_else cs i q.0 new q.1 z q.3),
            q.4,
            q.5,
            q.6,
          )));
    }
      where
        was_open : IsOpen new → IsOpen v
        was_open o = (subst (λ n. 0 < n) wv o.0, sym phase ∙ o.1)

        versions_differ : (r : Record) → r.writer ≡ true → ((y : ℕ) (c : Client) → At cs y c → IsOpen c →
            r.version ≢ c.attempt.wv) → (m : ℕ) (p : Client) → At (set (set cs i new) j none) m p → IsOpen p →
            r.version ≢ p.attempt.wv
        versions_differ r t f m p e op = stands (λ z d. IsOpen d →
            r.version ≢ d.attempt.wv) (λ op' s. f i v at (was_open op') (s ∙ wv)) (λ op'. absurd (closed op'))
            (λ z d q a b op'. f z d q op') m p e op

module _ (lawful : RecordLaw) (lk : ℕ → ℕ) (c : Core) (i : ℕ) (v : Client) (h : Inv lawful lk c)
    (at : At c.clients i v) where
  me : IsSound lk (world c h.story) v
  me = h.version.sound i v at

  share_gives : v.is_gathered ≡ false → 0 < v.grants → share (giving v) + 1 ≡ share v
  share_gives e z = rw (share_of v e, share_of (giving v) e) (omega arith)

  -- a client that holds no lock splits one off
  pub split_keeps : IsFreeHanded v → 0 < v.grants → Inv lawful lk (divided i v c)
  split_keeps free z =
      let k = same_keeps lk (world c h.story) c.clients i v (heart_of lawful lk c h) at
      (giving v) refl refl refl refl refl refl me.floor refl refl refl refl tt in
      let f = same_files lawful lk c i v h at free.0 (giving v) free.0 refl refl refl refl refl refl refl in
      let k' = longer_keeps lk (world c h.story) (set c.clients i (giving v))
      (fresh v) k refl refl refl refl refl refl me.floor refl refl in
      record {
        bounded = h.bounded;
        grants = (let a = sum_snoc share (set c.clients i (giving v)) (fresh v) in let b =
            sum_set share c.clients i v (giving v) at in let g = h.grants in let e = share_gives free.0 z in
            let n : share (fresh v) ≡ 1 = refl in omega arith);
        story = h.story;
        version = k'.version;
        books = k'.books;
        filed = longer_files lawful (length c.opening) c.renewal h.story c.clock (set c.clients i (giving v))
            (fresh v) f refl refl refl refl refl refl;
        size = h.size;
      }

  module _ (j : ℕ) (w : Client) (to : At c.clients j w) (ne : i ≢ j) (free : IsFreeHanded v)
      (free' : IsFreeHanded w) where
    yours : IsSound lk (world c h.story) w
    yours = h.version.sound j w to

    claims_of : (b a x : ℕ) → Claims (taking v w) b a x → Claims v b a x ⊎ Claims w b a x
    claims_of b a x (runs e m) = inl (runs e m)
    claims_of b a x (passes e y l m) = inl (passes e y l m)
    claims_of b a x (noted r m e n) = ⊎_elim (λ p. inl (noted r p e n)) (λ p. inr (noted r p e n))
        (in_merged v.records w.records r m)
    claims_of b a x (gave_up r m e n) = ⊎_elim (λ p. inl (gave_up r p e n)) (λ p. inr (given_claims w r b a x p e n))
        (in_append v.aborted (given_up w) r m)

    taken : Heart lk (world c h.story) (set c.clients i (taking v w))
    taken = look_keeps lk (world c h.story) c.clients i v (taking v w) (heart_of lawful lk c h) at record {
      held = refl;
      wv = refl;
      writes = refl;
      stored = refl;
      phase = refl;
      rv = me.rv;
      floor = (let a = me.floor in let b = yours.floor in grind arith);
      recorded = λ r m. ⊎_elim (λ p. me.recorded r p) (λ p. yours.recorded r p) (in_merged v.records w.records r m);
      later = (h.books.booked i v at).later;
      agrees = λ b a x p. ⊎_elim (λ q. me.agrees b a x q) (λ q. yours.agrees b a x q) (claims_of b a x p);
      saw = tt;
      apart = λ n o b a x e p op l. ⊎_elim (λ q. h.version.apart i n v o b a x at e q op l)
          (λ q. h.version.apart j n w o b a x to e q op l) (claims_of b a x p);
    }

    nobody : (b a x : ℕ) → Claims gone b a x → Claims w b a x
    nobody b a x (runs e m) = absurd (nothing_in (a, x) m)
    nobody b a x (passes e y l m) = absurd (omega arith)
    nobody b a x (noted r m e n) = absurd (nothing_in r m)
    nobody b a x (gave_up r m e n) = absurd (nothing_in r m)

    -- a client that holds no lock gathers another that holds none
    pub gather_keeps : Inv lawful lk (gathered i v j w c)
    gather_keeps =
        let to' : At (set c.clients i (taking v w)) j w = set_else c.clients i j (taking v w) w (λ e. ne (sym e)) to in
        let k = clear_keeps lk (world c h.story) (set c.clients i (taking v w)) j w gone taken to' free'.1 refl refl
        refl zero-le zero-le nobody (λ r m. absurd (nothing_in r m)) tt in
        record {
          bounded = h.bounded;
          grants = (let a = sum_set share (set c.clients i (taking v w)) j w gone to' in let b =
              sum_set share c.clients i v (taking v w) at in let g = h.grants in let e = share_of v free.0 in let f =
              share_of w free'.0 in let n = share_of (taking v w) free.0 in let z : share gone ≡ 0 = refl in
              omega arith);
          story = h.story;
          version = k.version;
          books = k.books;
          filed = join_files lawful (length c.opening) c.renewal h.story c.clock c.clients i j v w
              (taking v w) gone h.filed at to ne refl free.0 refl refl refl refl refl refl refl refl refl refl refl
              refl;
          size = h.size;
        }

pub none_filed : (lawful : RecordLaw) (size renewal : ℕ) → Filed lawful size renewal [] 0 []
none_filed lawful size renewal = record {
  filed = λ i v e. absurd (nothing_in v (i, e));
  versions = refl;
  unwritten = λ i j v w r e. absurd (nothing_in v (i, e));
  empty = λ i v e. absurd (nothing_in v (i, e));
  once = λ i j v w r x e. absurd (nothing_in v (i, e));
  complete = λ u ws e n. absurd (some-ne-none ws (sym e));
}

zeros : (n k : ℕ) → slice_index (replicate n 0) k ≡ 0
zeros zero k = refl
zeros (suc n) zero = refl
zeros (suc n) (suc k) = zeros n k

module _ (lawful : RecordLaw) (lk : ℕ → ℕ) (image : List ℕ) (last stripes : ℕ) where
  abbrev start : World
  start = world (opened image last stripes) []

  pub nobody_yet : Heart lk (world (opened image last stripes) []) []
  nobody_yet = record {
    version = record {
      versions = λ k. rw (zeros stripes k) (le_refl _);
      own = λ i j v w e. absurd (nothing_in v (i, e));
      free = λ k a m e l. (refl, λ z. no_writer m a);
      holder = λ k odd. absurd (let z : slice_index (replicate stripes 0) k ≡ 0 = zeros stripes k in omega arith);
      alone = λ i j v w k u t e. absurd (nothing_in v (i, e));
      kept = λ i v k u e. absurd (nothing_in v (i, e));
      apart = λ i j v w b a x e. absurd (nothing_in v (i, e));
      sound = λ i v e. absurd (nothing_in v (i, e));
    };
    books = record {
      story = λ u a l. no_writer u a;
      steady = λ a m n l q. refl;
      booked = λ i v e. absurd (nothing_in v (i, e));
    };
  }
    where
      no_writer : (u a : ℕ) → wrote_in [] u a ≡ false
      no_writer zero a = refl
      no_writer (suc u) a = refl

  -- a core just opened
  pub opening_keeps : Inv lawful lk (opened image last stripes)
  opening_keeps =
      let k = longer_keeps lk start [] opener nobody_yet refl refl refl refl refl refl (le_refl _) refl refl in record {
        bounded = zero-le;
        grants = rw (sum_by-cons share opener []) refl;
        story = [];
        version = k.version;
        books = k.books;
        filed = longer_files lawful (length image) 0 [] 0 [] opener
            (none_filed lawful (length image) 0) refl refl refl refl refl refl;
        size = refl;
      }
