-- Each step of a client keeps the version invariant.
use Rattle.std.proofs.Common.{◌≡◌, ℕ, suc, ◌+◌, ◌-◌, ◌*◌, ◌≤◌, ◌<◌, ◌⊎◌, inl, inr, ⊎_elim, Bool, true, false}
use Rattle.std.proofs.Common.{cond, eqb, leb, ◌&&◌, ◌||◌, List, [], ◌∷◌, ◌++◌, length, length-set}
use Rattle.std.proofs.Common.{set, slice_index, slice_set, get_or-set_same, get_or-set_other, set-set, sum_by}
use Rattle.std.proofs.Common.{refl, sym, ap, ◌∙◌, subst, arith, le_refl}
use Rattle.std.proofs.lemmas.Bool.Decides.{nat_tests}
use Rattle.tx_memory.specs.Image.{In}
use Rattle.stm_core.specs.Client.{Client, Record, Aborted, running, ending, committed, probed, fetched, checked, locked}
use Rattle.stm_core.specs.Client.{ticked, validated, given_up, Stamp, is_committed, decided, version_of, IsFree}
use Rattle.stm_core.specs.Client.{is_free, writes_to}
use Rattle.stm_core.specs.Client.{old_version, word_before, value_fetched, RecordLaw}
use Rattle.stm_core.specs.Event.{Action, begin, probe, fetch, check, lock, tick, validate, put, release, give_back}
use Rattle.stm_core.specs.Event.{finish, committed_by, begun, stepping, failing, read_too, holding, versioned, is_empty}
use Rattle.stm_core.specs.Event.{decides_at_once, won, passes, passing, after, writer_record, reader_record, with_ticks}
use Rattle.stm_core.specs.Event.{marking, counting}
use Rattle.stm_core.specs.Core.{Core, bounds_of, stepped}
use Rattle.stm_core.specs.Version.{At, IsOpen, Claims, runs, Saw, IsSound, IsBooked}
use Rattle.stm_core.specs.Version as version
use Rattle.stm_core.specs.Records.{AllInside, IsFiled, Filed, value_of, wrote_in}
use Rattle.stm_core.specs.Invariant.{world, share, Inv}
use Rattle.stm_core.proofs.Lists.{set_here, in_range, nothing_in, in_snoc, at_longer, clash, by_bool}
use Rattle.stm_core.proofs.Turns.{Heart}
use Rattle.stm_core.proofs.Loading.{same_keeps, shown, check_keeps, pass_keeps, finish_keeps, given_cases, given_claims}
use Rattle.stm_core.proofs.Locking.{lock_keeps}
use Rattle.stm_core.proofs.Ticking.{tick_keeps}
use Rattle.stm_core.proofs.Clearing.{clear_keeps}
use Rattle.stm_core.proofs.Deciding.{Decides, decide_keeps}
use Rattle.stm_core.proofs.Storing.{put_keeps}
use Rattle.stm_core.proofs.Releasing.{release_keeps, give_back_keeps}
use Rattle.stm_core.proofs.Stories.{decides, tick_value, tick_wrote, is_written}
use Rattle.stm_core.proofs.Filing.{stay_keeps, ticked_keeps, filed_on}
use Rattle.stm_core.proofs.Committing.{commit_keeps, reader_keeps}
use Rattle.stm_core.proofs.Held.{old_in, held_has, drops}
use Rattle.stm_core.proofs.Sums.{sum_set}
use Rattle.stm_core.proofs.Conditions.{IsReading, MayWrite, CanAct}

pub by_case : (P : Bool → Type 0) (b : Bool) → (b ≡ true → P true) → (b ≡ false → P false) → P b
by_case P true f g = f refl
by_case P false f g = g refl

set_again : (l : List ℕ) (i : ℕ) → set l i (slice_index l i) ≡ l
set_again [] i = refl
set_again (x ∷ xs) Rattle.std.proofs.Common.zero = refl
set_again (x ∷ xs) (suc i) = ap (λ ys. x ∷ ys) (set_again xs i)

-- a word that is not 0 is in the list
pub word_inside : (l : List ℕ) (i n : ℕ) → slice_index l i ≡ suc n → i < length l
word_inside [] i n e = absurd (let z : 0 ≡ suc n = e in omega arith)
word_inside (x ∷ xs) Rattle.std.proofs.Common.zero n e = omega arith
word_inside (x ∷ xs) (suc i) n e = (let h = word_inside xs i n e in omega arith)

pub undecided_at : (v : Client) → v.attempt.phase ≡ running → decided v ≡ false
undecided_at v e = ap is_committed e

pub undecided_end : (v : Client) → v.attempt.phase ≡ ending → decided v ≡ false
undecided_end v e = ap is_committed e

pub decided_at : (v : Client) → v.attempt.phase ≡ committed → decided v ≡ true
decided_at v e = ap is_committed e

module _ (lawful : RecordLaw) (lk : ℕ → ℕ) where
  pub heart_of : (c : Core) (h : Inv lawful lk c) → Heart lk (world c h.story) c.clients
  heart_of c h = record { version = h.version; books = h.books }

  module _ (c : Core) (i : ℕ) (v : Client) (h : Inv lawful lk c) (at : At c.clients i v)
      (live : v.is_gathered ≡ false) where
    heart : Heart lk (world c h.story) c.clients
    heart = heart_of c h

    me : IsSound lk (world c h.story) v
    me = h.version.sound i v at

    mine : IsBooked lk (world c h.story) v
    mine = h.books.booked i v at

    it : IsFiled lawful (length c.opening) c.renewal h.story v
    it = h.filed.filed i v at

    -- a client without write version that is not decided
    idle_files : (w : Client) → w.is_gathered ≡ false → w.attempt.wv ≡ 0 → decided w ≡ false → w.records ≡ v.records →
        AllInside (length c.opening) w.attempt.reads →
        ((r : Aborted) → In r w.aborted → AllInside (length c.opening) r.reads) →
        Filed lawful (length c.opening) c.renewal h.story c.clock (set c.clients i w)
    idle_files w is_gathered wv phase records reads aborted = stay_keeps lawful
        (length c.opening) c.renewal h.story c.clock c.clients i v h.filed at w
        record {
          ordered = rw records it.ordered;
          told = λ r m. it.told r (subst (In r) records m);
          reads = reads;
          aborted = aborted;
          writes = λ z. absurd (omega (arith, wv));
          abides = λ o. absurd (let z = o.0 in omega (arith, wv));
          commits = λ d. clash d phase;
          gone = λ s. clash s is_gathered;
        }
        (λ r m t. subst (In r) records m) (λ r m. rw records m) (λ o. absurd (let z = o.0 in omega (arith, wv)))

    -- a client whose versions, reads and writes stay
    pub same_files : (w : Client) → w.is_gathered ≡ false → w.attempt.wv ≡ v.attempt.wv →
        w.attempt.writes ≡ v.attempt.writes → w.attempt.tag ≡ v.attempt.tag → decided w ≡ decided v →
        w.records ≡ v.records → w.attempt.reads ≡ v.attempt.reads → w.aborted ≡ v.aborted →
        Filed lawful (length c.opening) c.renewal h.story c.clock (set c.clients i w)
    same_files w is_gathered wv writes tag phase records reads aborted =
        stay_keeps lawful (length c.opening) c.renewal h.story c.clock c.clients i v h.filed at w
        record {
          ordered = rw records it.ordered;
          told = λ r m. it.told r (subst (In r) records m);
          reads = rw reads it.reads;
          aborted = λ r m. it.aborted r (subst (In r) aborted m);
          writes = λ z. rw writes (it.writes (subst (λ n. 0 < n) wv z));
          abides = λ o. rw (tag, reads, writes) (it.abides (subst (λ n. 0 < n) wv o.0, sym phase ∙ o.1));
          commits = λ d. rw (wv, writes) (it.commits (sym phase ∙ d));
          gone = λ s. clash s is_gathered;
        }
        (λ r m t. subst (In r) records m) (λ r m. rw records m)
        (λ o. ((subst (λ n. 0 < n) wv o.0, sym phase ∙ o.1), wv))

    seats : (w : Client) → share w ≡ share v → sum_by share (set c.clients i w) ≡ 64
    seats w e = let s = sum_set share c.clients i v w at in let g = h.grants in omega (arith, e)

    -- a step that changes no word
    pub quiet : (w : Client) → share w ≡ share v → Heart lk (world c h.story) (set c.clients i w) →
        Filed lawful (length c.opening) c.renewal h.story c.clock (set c.clients i w) →
        Inv lawful lk (record c { clients = slice_set c.clients i w; events = c.events + 1 })
    quiet w e k f = record {
      bounded = h.bounded;
      grants = seats w e;
      story = h.story;
      version = k.version;
      books = k.books;
      filed = f;
      size = h.size;
    }

    -- a decision: all reads are in the image just before the writer's version
    pub decide_inv : (t : Stamp) → t.renewal ≡ c.renewal → IsOpen v →
        ((a x : ℕ) → In (a, x) v.attempt.reads → Claims v (v.attempt.wv - 1) a x) →
        Inv lawful lk (record c { clients = slice_set c.clients i (committed_by t v) })
    decide_inv t era open' all =
        let n : suc (v.attempt.wv - 1) ≡ v.attempt.wv = (let z = open'.0 in omega arith) in
        let d : Decides (world c h.story) (value_of c.opening (set h.story (v.attempt.wv - 1) v.attempt.writes))
        (wrote_in (set h.story (v.attempt.wv - 1) v.attempt.writes)) v.attempt.wv v.attempt.writes =
        subst (λ m. Decides (world c h.story) (value_of c.opening (set h.story (v.attempt.wv - 1) v.attempt.writes))
        (wrote_in (set h.story (v.attempt.wv - 1) v.attempt.writes)) m v.attempt.writes) n
        (decides c.clock (λ k. slice_index c.locks k) (λ a. slice_index c.cells a) c.opening h.story
        (v.attempt.wv - 1) v.attempt.writes (it.writes open'.0).1 (h.filed.empty i v at open')) in
        let r : Record = writer_record t v.attempt in
        let k : Heart lk (record (world c h.story) {
          val = value_of c.opening (set h.story
              (v.attempt.wv - 1) v.attempt.writes);
          wrote = wrote_in (set h.story (v.attempt.wv - 1) v.attempt.writes);
        })
        (set c.clients i (committed_by t v)) =
        decide_keeps lk (world c h.story) c.clients i v (committed_by t v) r
        (value_of c.opening (set h.story (v.attempt.wv - 1) v.attempt.writes))
        (wrote_in (set h.story (v.attempt.wv - 1) v.attempt.writes)) heart at open' d all refl refl refl refl refl
        refl refl refl refl refl refl refl refl refl me.saw in
        record {
          bounded = h.bounded;
          grants = seats (committed_by t v) refl;
          story = set h.story (v.attempt.wv - 1) v.attempt.writes;
          version = k.version;
          books = k.books;
          filed = commit_keeps lawful (length c.opening) c.renewal h.story c.clock c.clients i v
              (committed_by t v) r h.filed at open' (λ j o e ne dd. let z = ((h.books.booked j o e).told dd).0 in
              (z, λ s. ne (h.version.own j i o v e at z s)))
              refl live refl refl refl refl refl refl refl refl refl era refl
              (λ j o e ne op s. ne (h.version.own j i o v e at op.0 s));
          size = h.size;
        }

    probe_inv : (t : Stamp) (k : ℕ) → CanAct lawful lk (bounds_of c) (probe k) v.attempt →
        Inv lawful lk (stepped t lk (probe k) i v c)
    probe_inv t k may =
        let w : Client = after t lk (probe k) (slice_index c.locks k) v in
        quiet w refl (same_keeps lk (world c h.story) c.clients i v heart at w refl refl refl refl refl refl me.floor
        refl refl refl refl (le_refl _)) (same_files w live refl refl refl refl refl refl refl)

    fetch_inv : (t : Stamp) (a : ℕ) → CanAct lawful lk (bounds_of c) (fetch a) v.attempt →
        Inv lawful lk (stepped t lk (fetch a) i v c)
    fetch_inv t a may =
        let p = may.3 in
        let saw : Saw lk (world c h.story) v.attempt.rv (probed (lk a) p.0) =
        subst (Saw lk (world c h.story) v.attempt.rv) p.1 me.saw in
        let w : Client = after t lk (fetch a) (slice_index c.cells a) v in
        let word : p.0 ≡ word_before v.attempt.last = sym (ap word_before p.1) in
        quiet w refl (same_keeps lk (world c h.story) c.clients i v heart at w refl refl refl refl refl refl me.floor
        refl refl refl refl
        (subst (λ n. Saw lk (world c h.story) v.attempt.rv (fetched a n (slice_index c.cells a))) word (
          p.3,
          p.2,
          saw,
          shown lk (world c h.story) c.clients i v heart at a p.0 saw,
        )))
        (same_files w live refl refl refl refl refl refl refl)

    reads_inside : (a x : ℕ) → a < length c.cells → AllInside (length c.opening) (v.attempt.reads ++ (a, x) ∷ [])
    reads_inside a x l b y m = ⊎_elim (λ old. it.reads b y old) (λ (new : (a, x) ≡ (b, y)). (let e : a ≡ b =
        ap (λ (q : ℕ × ℕ). q.0) new in let s = h.size in omega arith)) (in_snoc v.attempt.reads (a, x) (b, y) m)

    check_inv : (t : Stamp) (a : ℕ) → CanAct lawful lk (bounds_of c) (check a) v.attempt →
        Inv lawful lk (stepped t lk (check a) i v c)
    check_inv t a may =
        let p = may.3 in
        let n = slice_index c.locks (lk a) in
        let word : p.0 ≡ word_before v.attempt.last = sym (ap word_before p.2) in
        let value : p.1 ≡ value_fetched v.attempt.last = sym (ap value_fetched p.2) in
        let last : v.attempt.last ≡ fetched a (word_before v.attempt.last) (value_fetched v.attempt.last) =
        p.2 ∙ (λ j. fetched a (word j) (value j)) in
        let undecided = undecided_at v may.0.0 in
        by_case (λ b. Inv lawful lk (record c {
          clients = slice_set c.clients i (stepping
              (checked a (word_before v.attempt.last) n) (cond b (read_too a (value_fetched v.attempt.last) v)
              (failing v)));
          events = c.events + 1;
        })) (eqb n (word_before v.attempt.last))
        (λ e. let w : Client = stepping (checked a (word_before v.attempt.last) n)
        (read_too a (value_fetched v.attempt.last) v) in
        quiet w refl (check_keeps lk (world c h.story) c.clients i v heart at w a (word_before v.attempt.last)
        (value_fetched v.attempt.last) last (grind (arith, nat_tests)) may.0.1 refl refl refl refl refl refl refl
        refl refl refl tt) (idle_files w live may.0.1 undecided refl
        (reads_inside a (value_fetched v.attempt.last) may.1) it.aborted))
        (λ e. let w : Client = stepping (checked a (word_before v.attempt.last) n) (failing v) in
        quiet w refl (same_keeps lk (world c h.story) c.clients i v heart at w refl refl refl refl
        (sym undecided) refl me.floor refl refl refl refl tt) (idle_files w live may.0.1 refl refl it.reads it.aborted))

    lock_inv : (t : Stamp) (k : ℕ) → CanAct lawful lk (bounds_of c) (lock k) v.attempt →
        Inv lawful lk (stepped t lk (lock k) i v c)
    lock_inv t k may =
        let p = may.2 in
        let n = slice_index c.locks k in
        let word : p.0 ≡ word_before v.attempt.last = sym (ap word_before p.1) in
        let undecided = undecided_at v may.0.0 in
        by_case (λ b. Inv lawful lk (record c {
          locks = slice_set c.locks k (cond b (n + 1) n);
          clients = slice_set c.clients i (stepping (locked k (word_before v.attempt.last) n)
              (cond b (holding k (version_of n) v) (failing v)));
          events =
              c.events + 1;
        })) (eqb n (word_before v.attempt.last))
        (λ e. let w : Client = stepping (locked k (word_before v.attempt.last) n) (holding k (version_of n) v) in
        let same : n ≡ word_before v.attempt.last = grind (arith, nat_tests) in
        let even : n ≡ 2 * version_of n = (let q = p.2 in omega (arith, word)) in
        let k' = lock_keeps lk (world c h.story) c.clients i v w k (version_of n)
        (λ j. slice_index (slice_set c.locks k (n + 1)) j) heart at even may.0.1 undecided
        (record {
          here = get_or-set_same c.locks k (n + 1) 0 may.1 ∙ (let q : n + 1 ≡ 2 * version_of n + 1 =
              omega arith in q);
          else = λ j ne. get_or-set_other c.locks k j
              (n + 1) 0 ne;
        }) refl refl refl refl refl refl refl refl refl tt in
        record {
          bounded = h.bounded;
          grants = seats w refl;
          story = h.story;
          version = k'.version;
          books = k'.books;
          filed =
              idle_files w live may.0.1 undecided refl it.reads it.aborted;
          size = h.size;
        })
        (λ e. let w : Client = stepping (locked k (word_before v.attempt.last) n) (failing v) in
        subst (λ ls. Inv lawful lk (record c { locks = ls; clients = slice_set c.clients i w; events = c.events + 1 }))
        (sym (set_again c.locks k))
        (quiet w refl (same_keeps lk (world c h.story) c.clients i v heart at w refl refl refl refl
        (sym undecided) refl me.floor refl refl refl refl tt)
        (idle_files w live may.0.1 refl refl it.reads it.aborted)))

    validate_fine : (k : ℕ) → passes k (slice_index c.locks k) v ≡ true →
        (IsFree (slice_index c.locks k) × (version_of (slice_index c.locks k) ≤ v.attempt.rv)) ⊎
        ((u : ℕ) × In (k, u) v.attempt.held × (u ≤ v.attempt.rv))
    validate_fine k e = by_bool (is_free (slice_index c.locks k))
        (λ f. inl (grind (arith, nat_tests), low))
        (λ f. let own : writes_to v.attempt.held k ≡ true = by_bool (writes_to v.attempt.held k) (λ y. y)
        (λ y. clash e (rw (f, y) refl)) in
        let u = old_version v.attempt.held k in let g : In (k, u) v.attempt.held = old_in v.attempt.held k own in
        inr (u, g, (let q = mine.listed k u g in let l = low in omega arith)))
      where
        low : version_of (slice_index c.locks k) ≤ v.attempt.rv
        low = by_bool (leb (version_of (slice_index c.locks k)) v.attempt.rv) (λ y. grind (arith, nat_tests))
            (λ y. clash e (last_false (is_free (slice_index c.locks k) || writes_to v.attempt.held k) y))
          where
            last_false : (b : Bool) → leb (version_of (slice_index c.locks k)) v.attempt.rv ≡ false →
                (b && leb (version_of (slice_index c.locks k)) v.attempt.rv) ≡ false
            last_false true y = y
            last_false false y = refl

    put_inv : (t : Stamp) (a x : ℕ) → CanAct lawful lk (bounds_of c) (put a x) v.attempt →
        Inv lawful lk (stepped t lk (put a x) i v c)
    put_inv t a x may =
        let is_decided = decided_at v may.0 in
        let z = (mine.told is_decided).0 in
        let inside : a < length c.cells = (let q = (it.writes z).0 a x may.1 in let s = h.size in omega arith) in
        let w : Client = after t lk (put a x) (slice_index c.cells a) v in
        let k = put_keeps lk (world c h.story) c.clients i v w a x may.2.0
        (λ b. slice_index (slice_set c.cells a x) b) heart at is_decided may.2.1 may.1
        (record { here = get_or-set_same c.cells a x 0 inside; else = λ b ne. get_or-set_other c.cells a b x 0 ne })
        refl refl refl refl refl refl refl refl refl refl refl tt in
        record {
          bounded = h.bounded;
          grants = seats w refl;
          story = h.story;
          version = k.version;
          books = k.books;
          filed =
              same_files w live refl refl refl refl refl refl refl;
          size = length-set c.cells a x ∙ h.size;
        }

    release_inv : (t : Stamp) (k : ℕ) → CanAct lawful lk (bounds_of c) (release k) v.attempt →
        Inv lawful lk (stepped t lk (release k) i v c)
    release_inv t k may =
        let is_decided = decided_at v may.0 in
        let u = may.1.0 in
        let g : In (k, u) v.attempt.held = may.1.1 in
        let z = (mine.told is_decided).0 in
        let inside : k < length c.locks = word_inside c.locks k (2 * u) (mine.listed k u g ∙ omega arith) in
        let w : Client = after t lk (release k) (slice_index c.locks k) v in
        let k' = release_keeps lk (world c h.story) c.clients i v w k u v.attempt.wv
        (λ j. slice_index (slice_set c.locks k (2 * v.attempt.wv)) j) heart at g (drops v.attempt.held k)
        (record {
          here = get_or-set_same c.locks k (2 * v.attempt.wv) 0 inside;
          else = λ j ne. get_or-set_other c.locks k j (2 * v.attempt.wv) 0 ne;
        }) (let b = me.above k u g z in
        omega arith) me.wv refl is_decided may.2 refl refl refl refl refl refl refl refl refl refl tt in
        record {
          bounded = h.bounded;
          grants = seats w refl;
          story = h.story;
          version = k'.version;
          books = k'.books;
          filed =
              same_files w live refl refl refl refl refl refl refl;
          size = h.size;
        }

    give_back_inv : (t : Stamp) (k : ℕ) → CanAct lawful lk (bounds_of c) (give_back k) v.attempt →
        Inv lawful lk (stepped t lk (give_back k) i v c)
    give_back_inv t k may =
        let undecided : decided v ≡ false = ⊎_elim (λ e. undecided_at v e) (λ e. undecided_end v e) may.0 in
        let u = old_version v.attempt.held k in
        let g : In (k, u) v.attempt.held = old_in v.attempt.held k (held_has v.attempt.held k may.1.0 may.1.1) in
        let n = mine.listed k u g in
        let inside : k < length c.locks = word_inside c.locks k (2 * u) (n ∙ omega arith) in
        let w : Client = after t lk (give_back k) (slice_index c.locks k) v in
        let k' = give_back_keeps lk (world c h.story) c.clients i v w k u u
        (λ j. slice_index (slice_set c.locks k (2 * u)) j) heart at g (drops v.attempt.held k)
        (record {
          here = get_or-set_same c.locks k (2 * u) 0 inside;
          else = λ j ne. get_or-set_other c.locks k j (2 * u) 0 ne;
        }) (le_refl _) (let b = h.version.versions k in
        omega arith) refl undecided refl refl refl refl refl refl refl refl me.saw in
        record {
          bounded = h.bounded;
          grants = seats w refl;
          story = h.story;
          version = k'.version;
          books = k'.books;
          filed = idle_files w live refl refl refl it.reads it.aborted;
          size = h.size;
        }

    finish_inv : (t : Stamp) (tag : List ℕ) → t.renewal ≡ c.renewal →
        CanAct lawful lk (bounds_of c) (finish tag) v.attempt → Inv lawful lk (stepped t lk (finish tag) i v c)
    finish_inv t tag era may =
        let undecided = undecided_at v may.0.0 in
        let r : Record = reader_record t tag v.attempt in
        let w : Client = after t lk (finish tag) c.clock v in
        quiet w refl (finish_keeps lk (world c h.story) c.clients i v heart at w r refl refl refl refl refl refl refl
        refl
        refl refl refl refl (sym undecided) refl tt)
        (reader_keeps lawful (length c.opening) c.renewal h.story c.clock c.clients i v w r h.filed at refl live refl
        refl may.0.1 refl may.2 refl refl refl era refl)

    begin_inv : (t : Stamp) → CanAct lawful lk (bounds_of c) begin v.attempt → Inv lawful lk (stepped t lk begin i v c)
    begin_inv t may =
        let w : Client = begun t c.clock v in
        quiet w refl (clear_keeps lk (world c h.story) c.clients i v w heart at may may refl refl (le_refl _)
        (le_refl _) fewer (λ r m. m) tt) (idle_files w live refl refl refl
        (λ a x m. absurd (nothing_in (a, x) m)) given_inside)
      where
        fewer : (b a x : ℕ) → Claims (begun t c.clock v) b a x → Claims v b a x
        fewer b a x (runs e m) = absurd (nothing_in (a, x) m)
        fewer b a x (version.passes e j l m) = absurd (omega arith)
        fewer b a x (version.noted r m e n) = version.noted r m e n
        fewer b a x (version.gave_up r m e n) = given_claims v r b a x m e n

        given_inside : (r : Aborted) → In r (given_up v) → AllInside (length c.opening) r.reads
        given_inside r m = ⊎_elim (λ p. it.aborted r p)
            (λ p. subst (λ (z : Aborted). AllInside (length c.opening) z.reads) p.1 it.reads) (given_cases v r m)

    -- a won tick, before the decision
    abbrev ticks_to : Stamp → List ℕ → List (ℕ × ℕ) → Client
    ticks_to t tag writes = with_ticks (v.attempt.ticks + 1) c.clock
        (stepping (ticked c.clock c.clock) (versioned t (c.clock + 1) tag writes v))

    abbrev ticked_core : Stamp → List ℕ → List (ℕ × ℕ) → Core
    ticked_core t tag writes = record c {
      clock = c.clock + 1;
      clients = slice_set c.clients i (ticks_to t tag writes);
      events = c.events + 1;
    }

    ticked_inv : (t : Stamp) (tag : List ℕ) (writes : List (ℕ × ℕ)) → IsReading v.attempt → c.clock < c.last →
        MayWrite lk (length c.cells) v.attempt.held writes → lawful tag v.attempt.reads writes →
        Inv lawful lk (ticked_core t tag writes)
    ticked_inv t tag writes reading below may law =
        let w : Client = ticks_to t tag writes in
        let undecided = undecided_at v reading.0 in
        let story' = h.story ++ [] ∷ [] in
        let k = tick_keeps lk (world c h.story) c.clients i v w (value_of c.opening story')
        (wrote_in story') heart at reading.1 undecided (λ b a. tick_value h.story (slice_index c.opening a) b a)
        (λ u a. tick_wrote h.story u a)
        (λ a e. may.locks.every a e) refl refl undecided refl (le_refl _) refl refl refl refl tt in
        record {
          bounded = (let b = below in omega arith);
          grants = seats w refl;
          story = story';
          version = k.version;
          books = k.books;
          filed = ticked_keeps lawful (length c.opening) c.renewal h.story c.clock c.clients i v h.filed at w
              record {
                ordered = it.ordered;
                told = λ r m. (on r m).told r m;
                reads = it.reads;
                aborted = it.aborted;
                writes = λ z. (
                  λ a x m. (let q = may.inside a (is_written writes a x m.0 m.1) in let s = h.size in
                      omega arith),
                  may.once,
                );
                abides = λ o. law;
                commits = λ d. clash d undecided;
                gone = λ s. clash s live;
              }
              refl refl;
          size = h.size;
        }
      where
        on : (r : Record) → In r v.records → IsFiled lawful (length c.opening) c.renewal (h.story ++ [] ∷ []) v
        on r m = filed_on lawful (length c.opening) c.renewal h.story (h.story ++ [] ∷ []) v it
            (λ x n y z p. at_longer h.story [] x.writes (x.version - 1) p)
            (λ d p. at_longer h.story [] v.attempt.writes (v.attempt.wv - 1) p)

  module _ (t : Stamp) (c : Core) (i : ℕ) (v : Client) (h : Inv lawful lk c) (at : At c.clients i v)
      (live : v.is_gathered ≡ false) (era : t.renewal ≡ c.renewal) where
    -- a decision right after another step of the same client
    then_decided : (d : Core) (w : Client) → Inv lawful lk d → d.clients ≡ slice_set c.clients i w →
        d.renewal ≡ c.renewal → w.is_gathered ≡ false → IsOpen w →
        ((a x : ℕ) → In (a, x) w.attempt.reads → Claims w (w.attempt.wv - 1) a x) →
        Inv lawful lk (record d { clients = slice_set c.clients i (committed_by t w) })
    then_decided d w k clients same is_gathered open' all =
        let here : At d.clients i w = rw clients (set_here c.clients i v w at) in
        subst (λ cs. Inv lawful lk (record d { clients = cs })) (ap (λ cs. slice_set cs i (committed_by t w)) clients ∙
        set-set c.clients i w (committed_by t w)) (decide_inv d i w k here is_gathered t (era ∙ sym same) open' all)

    at_once : (w : Client) → decides_at_once w ≡ true → w.attempt.rv < w.attempt.wv → (a x : ℕ) →
        In (a, x) w.attempt.reads → Claims w (w.attempt.wv - 1) a x
    at_once w e later a x m = by_bool (is_empty w.attempt.reads) (λ z. absurd (none w.attempt.reads z m))
        (λ z. runs (let q : eqb w.attempt.wv (w.attempt.rv + 1) ≡ true =
        subst (λ b. (b || eqb w.attempt.wv (w.attempt.rv + 1)) ≡ true) z e in let s : w.attempt.wv ≡ w.attempt.rv + 1 =
        grind (arith, nat_tests) in omega arith) m)
      where
        none : (l : List (ℕ × ℕ)) → is_empty l ≡ true → In (a, x) l → ⊥
        none [] z m = nothing_in (a, x) m
        none (p ∷ ps) z m = clash z refl

    tick_inv : (from : ℕ) (tag : List ℕ) (writes : List (ℕ × ℕ)) →
        CanAct lawful lk (bounds_of c) (tick from tag writes) v.attempt →
        Inv lawful lk (stepped t lk (tick from tag writes) i v c)
    tick_inv from tag writes may =
        let undecided = undecided_at v may.0.0 in
        by_case (λ b. Inv lawful lk (record c {
          clock = cond b (from + 1) c.clock;
          clients = slice_set c.clients i (with_ticks (v.attempt.ticks + 1) c.clock
              (stepping (ticked from c.clock) (cond b (won t (from + 1) tag writes v) v)));
          events =
              c.events + 1;
        })) (eqb c.clock from)
        (λ e. let same : c.clock ≡ from = grind (arith, nat_tests) in
        subst (λ f. Inv lawful lk (record c {
          clock = f + 1;
          clients = slice_set c.clients i (with_ticks (v.attempt.ticks + 1) c.clock
              (stepping (ticked f c.clock) (won t (f + 1) tag writes v)));
          events = c.events + 1;
        })) same
        (let k = ticked_inv c i v h at live t tag writes may.0 (omega (arith, may.2)) may.4 may.5 in
        let w0 : Client = versioned t (c.clock + 1) tag writes v in
        let w : Client = with_ticks (v.attempt.ticks + 1) c.clock (stepping (ticked c.clock c.clock) w0) in
        by_case (λ b. Inv lawful lk (record c {
          clock = c.clock + 1;
          clients = slice_set c.clients i (with_ticks (v.attempt.ticks + 1) c.clock
              (stepping (ticked c.clock c.clock) (cond b (committed_by t w0) w0)));
          events =
              c.events + 1;
        })) (decides_at_once w0)
        (λ z. then_decided (record c { clock = c.clock + 1; clients = slice_set c.clients i w; events = c.events + 1 })
        w k refl refl live (omega arith, undecided) (at_once w z (let p = (h.version.sound i v at).rv in
        omega arith)))
        (λ z. k)))
        (λ e. let w : Client = with_ticks (v.attempt.ticks + 1) c.clock (stepping (ticked from c.clock) v) in
        quiet c i v h at live w refl (same_keeps lk (world c h.story) c.clients i v
        (heart_of c h) at w refl refl refl refl refl refl (h.version.sound i v at).floor refl refl refl refl tt)
        (idle_files c i v h at live w live may.0.1 undecided refl (h.filed.filed i v at).reads
        (h.filed.filed i v at).aborted))

    validate_inv : (k : ℕ) → CanAct lawful lk (bounds_of c) (validate k) v.attempt →
        Inv lawful lk (stepped t lk (validate k) i v c)
    validate_inv k may =
        let n = slice_index c.locks k in
        let undecided = undecided_at v may.0 in
        let open' : IsOpen v = (may.1, undecided) in
        let a = may.2.0 in
        let x = may.2.1 in
        by_case (λ b. Inv lawful lk (record c {
          clients = slice_set c.clients i (marking (writes_to v.attempt.held k)
              (stepping (validated k n) (cond b (passing t v) (failing v))));
          events = c.events + 1;
        })) (passes k n v)
        (λ e. let w0 : Client = counting v in
        let w : Client = marking (writes_to v.attempt.held k) (stepping (validated k n) w0) in
        let fine : (IsFree (slice_index c.locks (lk a)) × (version_of (slice_index c.locks (lk a)) ≤ v.attempt.rv)) ⊎
        ((u : ℕ) × In (lk a, u) v.attempt.held × (u ≤ v.attempt.rv)) =
        subst (λ j. (IsFree (slice_index c.locks j) × (version_of (slice_index c.locks j) ≤ v.attempt.rv)) ⊎
        ((u : ℕ) × In (j, u) v.attempt.held × (u ≤ v.attempt.rv))) (sym may.2.3)
        (validate_fine c i v h at live k e) in
        let q : Inv lawful lk (record c { clients = slice_set c.clients i w; events = c.events + 1 }) =
        quiet c i v h at live w refl
        (pass_keeps lk (world c h.story) c.clients i v (heart_of c h) at w a x open' may.2.2 fine refl refl refl refl
        refl refl refl refl refl refl refl tt) (same_files c i v h at live w live refl refl refl refl refl refl refl) in
        by_case (λ b. Inv lawful lk (record c {
          clients = slice_set c.clients i (marking (writes_to v.attempt.held k)
              (stepping (validated k n) (cond b (committed_by t w0) w0)));
          events =
              c.events + 1;
        })) (eqb w0.attempt.passed (length v.attempt.reads))
        (λ z. then_decided (record c { clients = slice_set c.clients i w; events = c.events + 1 }) w q refl refl live
        open'
        (λ b y m. version.passes (let p = may.1 in omega arith) m.0 (let l = in_range v.attempt.reads m.0 (b, y) m.1 in
        let s : v.attempt.passed + 1 ≡ length v.attempt.reads = grind (arith, nat_tests) in omega arith) m.1))
        (λ z. q))
        (λ e. let w : Client = marking (writes_to v.attempt.held k) (stepping (validated k n) (failing v)) in
        quiet c i v h at live w refl (same_keeps lk (world c h.story) c.clients i v
        (heart_of c h) at w refl refl refl refl (sym undecided) refl
        (h.version.sound i v at).floor refl refl refl refl tt)
        (same_files c i v h at live w live refl refl refl (sym undecided) refl refl refl))

    pub act_keeps : (e : Action) → CanAct lawful lk (bounds_of c) e v.attempt → Inv lawful lk (stepped t lk e i v c)
    act_keeps begin may = begin_inv c i v h at live t may
    act_keeps (probe k) may = probe_inv c i v h at live t k may
    act_keeps (fetch a) may = fetch_inv c i v h at live t a may
    act_keeps (check a) may = check_inv c i v h at live t a may
    act_keeps (lock k) may = lock_inv c i v h at live t k may
    act_keeps (tick from tag writes) may = tick_inv from tag writes may
    act_keeps (validate k) may = validate_inv k may
    act_keeps (put a x) may = put_inv c i v h at live t a x may
    act_keeps (release k) may = release_inv c i v h at live t k may
    act_keeps (give_back k) may = give_back_inv c i v h at live t k may
    act_keeps (finish tag) may = finish_inv c i v h at live t tag era may

  -- each step that is allowed keeps the invariant
  pub step_keeps : (t : Stamp) (c : Core) (e : Action) (i : ℕ) (v : Client) → t.renewal ≡ c.renewal → Inv lawful lk c →
      At c.clients i v → (v.is_gathered ≡ false) × CanAct lawful lk (bounds_of c) e v.attempt →
      Inv lawful lk (stepped t lk e i v c)
  step_keeps t c e i v era h at may = act_keeps t c i v h at may.0 era e may.1
