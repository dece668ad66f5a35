-- A client is split off, two clients are joined, the clock is renewed, and a core is opened: each
-- of these keeps the whole invariant.
use Rattle.std.proofs.Common.{◌≡◌, ◌≢◌, ℕ, zero, suc, ◌+◌, ◌<◌, ◌⊎◌, inl, inr, ⊎_elim, Bool, true, false, cond, eqb}
use Rattle.std.proofs.Common.{List, [], ◌∷◌, ◌++◌, length, length-set, length-append, map, set, append_assoc}
use Rattle.std.proofs.Common.{append-nil, sum_by, refl, sym, ap, ◌∙◌, subst, arith, zero-le}
use mathlib.Core.Option.{some, some-injective, some-ne-none}
use lib.ListN.{get_elem?}
use Rattle.std.proofs.lemmas.Bool.Decides.{nat_tests}
use Rattle.std.proofs.lemmas.List.{map-set}
use Rattle.std.proofs.lemmas.List.Sums.{sum_by-cons}
use Rattle.tx_memory.specs.Image.{In, Agrees, laid}
use Rattle.stm_core.specs.Client.{Client, Record, Aborted, is_settled, given_up, all_aborted, nothing, decided, before}
use Rattle.stm_core.specs.Client.{merged, of_renewal, shed, RecordLaw}
use Rattle.stm_core.specs.Event.{giving, fresh, taking, renewing, gone, opener}
use Rattle.stm_core.specs.Core.{Core, divided, gathered, renewed, IsFreeHanded, opened, begun_on}
use Rattle.stm_core.specs.Version.{World, At}
use Rattle.stm_core.specs.Records.{Ordered, Filed}
use Rattle.stm_core.specs.History.{Serial, image_after, image_at, image_upto, all_records}
use Rattle.stm_core.specs.Invariant.{world, share, Inv, now, Sorted, Rule, KeepsAborted}
use Rattle.stm_core.proofs.Lists.{at_set, in_range, clash, nothing_in, only_one}
use Rattle.stm_core.proofs.Eras.{AllBefore, in_append, of_none, of_padded, not_before, merged_padded, merged_late}
use Rattle.stm_core.proofs.Eras.{all_merged}
use Rattle.stm_core.proofs.Lones.{at_map, at_unmap, split_lone, gather_lone}
use Rattle.stm_core.proofs.Knowing.{turn_known, split_known, gather_known}
use Rattle.stm_core.proofs.Renewals.{pre, own_of, map_append, eqb_no, eqb_yes}
use Rattle.stm_core.proofs.Turns.{Heart}
use Rattle.stm_core.proofs.Sums.{sum_set, share_of}
use Rattle.stm_core.proofs.Aborting.{AllAborted, bare_aborted, split_aborted, gather_aborted, renew_aborted, all_agree}
use Rattle.stm_core.proofs.Facts.{alone, alone_serial, ahead, aborted_by}
use Rattle.stm_core.proofs.Joining.{longer_keeps, longer_files, split_keeps, gather_keeps, opening_keeps, nobody_yet}
use Rattle.stm_core.proofs.Joining.{none_filed}
use Rattle.stm_core.proofs.Conditions.{IsAlone}

pub at_last : {A : Type 0} (l : List A) (w o : A) (j : ℕ) → get_elem? (l ++ w ∷ []) j ≡ some o →
    (get_elem? l j ≡ some o) ⊎ ((j ≡ length l) × (w ≡ o))
at_last [] w o zero e = inr (refl, some-injective w o e)
at_last [] w o (suc j) e = absurd (some-ne-none o (sym e))
at_last (x ∷ l) w o zero e = inl e
at_last (x ∷ l) w o (suc j) e = ⊎_elim (λ p. inl p) (λ p. inr (ap suc p.0, p.1)) (at_last l w o j e)

pub at_below : {A : Type 0} (l : List A) (i : ℕ) → i < length l → (x : A) × (get_elem? l i ≡ some x)
at_below [] i e = absurd (omega arith)
at_below (x ∷ l) zero e = (x, refl)
at_below (x ∷ l) (suc i) e = at_below l i (omega arith)

pub serial_append : (m : List ℕ) (l k : List Record) → Serial m l → Serial (image_after m l) k → Serial m (l ++ k)
serial_append m [] k s t = t
serial_append m (r ∷ l) k s t = (s.0, serial_append (laid m r.writes) l k s.1 t)

pub image_append : (m : List ℕ) (l k : List Record) → image_after m (l ++ k) ≡ image_after (image_after m l) k
image_append m [] k = refl
image_append m (r ∷ l) k = image_append (laid m r.writes) l k

pub sorted_of : (l : List Record) → Ordered l → Sorted l
sorted_of [] o = tt
sorted_of (x ∷ l) o = (λ r i. (o.0 r i).0, sorted_of l o.1)

pub sorted_append : (l k : List Record) → Sorted l → Sorted k →
    ((x y : Record) → In x l → In y k → before y x ≡ false) → Sorted (l ++ k)
sorted_append [] k s t f = t
sorted_append (x ∷ l) k s t f = (
  λ r i. ⊎_elim (λ p. s.0 r p) (λ p. f x r (0, refl) p) (in_append l k r i),
  sorted_append l k s.1 t (λ y z i j. f y z (suc i.0, i.1) j),
)

sum_shed : (n : ℕ) (l : List Client) → sum_by share (map (shed n) l) ≡ sum_by share l
sum_shed n [] = refl
sum_shed n (x ∷ l) = let e = sum_shed n l in rw (sum_by-cons share (shed n x) (map (shed n) l), sum_by-cons share x l)
    (omega (arith, e))

module _ (lawful : RecordLaw) (lk : ℕ → ℕ) (c : Core) (h : Rule lawful lk c) (i : ℕ) (v : Client)
    (at : At c.clients i v) where
  abbrev v' : Client
  v' = shed c.renewal v

  at' : At (now c).clients i v'
  at' = at_map (shed c.renewal) c.clients i v at

  module _ (free : IsFreeHanded v) (z : 0 < v.grants) where
    pub now_divided : now (divided i v c) ≡ divided i v' (now c)
    now_divided = ap (λ cs. record (divided i v' (now c)) { clients = cs })
        (map_append (shed c.renewal) (set c.clients i (giving v)) (fresh v ∷ []) ∙ ap (λ k. k ++ fresh v ∷ [])
        (map-set (shed c.renewal) c.clients i (giving v)))

    pub split_rules : Rule lawful lk (divided i v c)
    split_rules = record {
      inv = subst (Inv lawful lk) (sym now_divided) (split_keeps lawful lk (now c) i v' h.inv at' free z);
      lone = split_lone lawful lk c h.inv h.lone i v at free.0;
      known = split_known lk c h.known i v at free.0;
      past = record {
        serial = h.past.serial;
        leads = h.past.leads;
        abides = h.past.abides;
        earlier = h.past.earlier;
        sorted = h.past.sorted;
        keeper = h.past.keeper;
        member = rw (length-append (set c.clients i (giving v)) (fresh v ∷ []), length-set c.clients i (giving v))
            (let m = h.past.member in omega arith);
        kept = λ j o e. ⊎_elim (λ p. ⊎_elim (λ q. subst (λ (y : Client). y.records ≡ pre lawful lk c h j ++ of_renewal
            c.renewal y.records) q.1 (subst (λ n. v.records ≡ pre lawful lk c h n ++ of_renewal c.renewal v.records)
            (sym q.0) (h.past.kept i v at))) (λ q. h.past.kept j o q.1) (at_set c.clients i j (giving v) o p))
            (λ p. subst (λ (y : Client). y.records ≡ pre lawful lk c h j ++ of_renewal c.renewal y.records) p.1
            (rw (eqb_no j h.past.keeper (let m = h.past.member in let a = p.0 in let b =
            length-set c.clients i (giving v) in λ y. omega (arith, y))) refl))
            (at_last (set c.clients i (giving v)) (fresh v) o j e);
        are_gone = λ j o e y. ⊎_elim (λ p. ⊎_elim (λ q. clash y (sym (ap (λ (x : Client). x.is_gathered) q.1) ∙ free.0))
            (λ q. h.past.are_gone j o q.1 y) (at_set c.clients i j (giving v) o p))
            (λ p. clash y (ap (λ (x : Client). x.is_gathered) (sym p.1)))
            (at_last (set c.clients i (giving v)) (fresh v) o j e);
        aborted = split_aborted c.first c.past c.renewal c.clients h.past.aborted i v at;
      };
    }

  module _ (j : ℕ) (w : Client) (to : At c.clients j w) (ne : i ≢ j) (free : IsFreeHanded v)
      (free' : IsFreeHanded w) where
    abbrev w' : Client
    w' = shed c.renewal w

    abbrev keeper' : ℕ
    keeper' = cond (eqb j h.past.keeper) i h.past.keeper

    joined : merged v.records w.records ≡ cond (eqb i keeper') c.past [] ++ merged v'.records w'.records
    joined = ap (λ l. merged l w.records) (h.past.kept i v at) ∙
        (ap (λ l. merged (pre lawful lk c h i ++ v'.records) l) (h.past.kept j w to) ∙ go (eqb i h.past.keeper) refl
        (eqb j h.past.keeper) refl)
      where
        go : (a : Bool) → eqb i h.past.keeper ≡ a → (b : Bool) → eqb j h.past.keeper ≡ b →
            merged (cond a c.past [] ++ v'.records) (cond b c.past [] ++ w'.records) ≡ cond
            (eqb i (cond b i h.past.keeper)) c.past [] ++ merged v'.records w'.records
        go true e true f = absurd (ne (let a : i ≡ h.past.keeper = grind (arith, nat_tests) in
            let b : j ≡ h.past.keeper = grind (arith, nat_tests) in a ∙ sym b))
        go true e false f = rw e (merged_padded c.renewal c.past v'.records w'.records h.past.earlier
            (own_of lawful lk c h w))
        go false e true f = rw (eqb_yes i i refl) (merged_late c.renewal v'.records c.past w'.records
            (own_of lawful lk c h v) h.past.earlier (own_of lawful lk c h w) h.past.sorted)
        go false e false f = rw e refl

    joined_before : AllBefore c.renewal (cond (eqb i keeper') c.past [])
    joined_before = go (eqb i keeper')
      where
        go : (b : Bool) → AllBefore c.renewal (cond b c.past [])
        go true = h.past.earlier
        go false = λ r m. absurd (nothing_in r m)

    joined_now : of_renewal c.renewal (merged v.records w.records) ≡ merged v'.records w'.records
    joined_now = ap (of_renewal c.renewal) joined ∙ of_padded c.renewal (cond (eqb i keeper') c.past [])
        (merged v'.records w'.records) joined_before (all_merged c.renewal v'.records w'.records
        (own_of lawful lk c h v) (own_of lawful lk c h w))

    pub now_gathered : now (gathered i v j w c) ≡ gathered i v' j w' (now c)
    now_gathered = ap (λ cs. record (gathered i v' j w' (now c)) { clients = cs })
        (map-set (shed c.renewal) (set c.clients i (taking v w)) j gone ∙ ap (λ l. set l j gone)
        (map-set (shed c.renewal) c.clients i (taking v w) ∙ ap (λ y. set (map (shed c.renewal) c.clients) i y)
        (ap (λ l. record (taking v' w') { records = l }) joined_now)))

    -- the clients with the gatherer's value and the other gathered
    stands : (P : ℕ → Client → Type 0) → P i (taking v w) → P j gone →
        ((n : ℕ) (o : Client) → At c.clients n o → n ≢ i → n ≢ j → P n o) → (n : ℕ) (o : Client) →
        At (set (set c.clients i (taking v w)) j gone) n o → P n o
    stands P a b f n o e = ⊎_elim (λ p. subst (λ d. P n d) p.1 (subst (λ y. P y gone) (sym p.0) b))
        (λ p. ⊎_elim (λ q. subst (λ d. P n d) q.1 (subst (λ y. P y (taking v w)) (sym q.0) a)) (λ q. f n o q.1 q.0 p.0)
        (at_set c.clients i n (taking v w) o p.1)) (at_set (set c.clients i (taking v w)) j n gone o e)

    same_keeper : (n : ℕ) → n ≢ i → n ≢ j → eqb n keeper' ≡ eqb n h.past.keeper
    same_keeper n a b = go (eqb j h.past.keeper) refl
      where
        go : (x : Bool) → eqb j h.past.keeper ≡ x → eqb n (cond x i h.past.keeper) ≡ eqb n h.past.keeper
        go true e = eqb_no n i a ∙ sym (eqb_no n h.past.keeper (let s : j ≡ h.past.keeper = grind (arith, nat_tests) in
            λ y. b (y ∙ sym s)))
        go false e = refl

    not_keeper : eqb j keeper' ≡ false
    not_keeper = go (eqb j h.past.keeper) refl
      where
        go : (x : Bool) → eqb j h.past.keeper ≡ x → eqb j (cond x i h.past.keeper) ≡ false
        go true e = eqb_no j i (λ y. ne (sym y))
        go false e = e

    keeper_within : keeper' < length c.clients
    keeper_within = go (eqb j h.past.keeper)
      where
        go : (x : Bool) → cond x i h.past.keeper < length c.clients
        go true = in_range c.clients i v at
        go false = h.past.member

    pub gather_rules : Rule lawful lk (gathered i v j w c)
    gather_rules = record {
      inv = subst (Inv lawful lk) (sym now_gathered) (gather_keeps lawful lk (now c) i v' h.inv at' j w'
          (at_map (shed c.renewal) c.clients j w to) ne free free');
      lone = gather_lone lawful lk c h.inv h.lone i v at free.0 j w to ne free'.0;
      known = gather_known lk c h.known i v at free.0 j w to ne (h.inv.version.sound i v' at').floor
          (h.inv.version.sound j (shed c.renewal w) (at_map (shed c.renewal) c.clients j w to)).floor;
      past = record {
        serial = h.past.serial;
        leads = h.past.leads;
        abides = h.past.abides;
        earlier = h.past.earlier;
        sorted = h.past.sorted;
        keeper = keeper';
        member = rw (
          length-set (set c.clients i (taking v w)) j gone,
          length-set c.clients i (taking v w),
        ) keeper_within;
        kept = stands (λ n o. o.records ≡ cond (eqb n keeper') c.past [] ++ of_renewal c.renewal o.records)
            (joined ∙ ap (λ l. cond (eqb i keeper') c.past [] ++ l) (sym joined_now)) (rw not_keeper refl)
            (λ n o e a b. rw (same_keeper n a b) (h.past.kept n o e));
        are_gone = stands (λ n o. o.is_gathered ≡ true → o ≡ gone) (λ y. clash y free.0) (λ y. refl)
            (λ n o e a b y. h.past.are_gone n o e y);
        aborted = gather_aborted c.first c.past c.renewal c.clients h.past.aborted i v at j w to;
      };
    }

  -- the only client that is out renews the clock
  module _ (free : IsFreeHanded v) (others : IsAlone c i) (last : ℕ) where
    is_gone : (j : ℕ) (o : Client) → At c.clients j o → j ≢ i → o ≡ gone
    is_gone j o e n = h.past.are_gone j o e (others j o e n)

    -- the client's records are all records
    pub whole : v.records ≡ c.past ++ v'.records
    whole = go (eqb i h.past.keeper) refl (h.past.kept i v at)
      where
        none : eqb i h.past.keeper ≡ false → c.past ≡ []
        none e =
            let q = at_below c.clients h.past.keeper h.past.member in
            let g : q.0 ≡ gone = is_gone h.past.keeper q.0 q.1 (λ y. clash (eqb_yes i h.past.keeper (sym y)) e) in
            let k : q.0.records ≡ c.past ++ of_renewal c.renewal q.0.records =
            h.past.kept h.past.keeper q.0 q.1 ∙ ap (λ b. cond b c.past [] ++ of_renewal c.renewal q.0.records)
            (eqb_yes h.past.keeper h.past.keeper refl) in
            empty c.past (subst (λ (y : Client). y.records ≡ c.past ++ of_renewal c.renewal y.records) g k)
          where
            empty : (l : List Record) → [] ≡ l ++ [] → l ≡ []
            empty l e = sym (append-nil l) ∙ sym e

        go : (b : Bool) → eqb i h.past.keeper ≡ b → v.records ≡ cond (eqb i h.past.keeper) c.past [] ++ v'.records →
            v.records ≡ c.past ++ v'.records
        go true e k = k ∙ ap (λ b. cond b c.past [] ++ v'.records) e
        go false e k = k ∙ (ap (λ b. cond b c.past [] ++ v'.records) e ∙ ap (λ l. l ++ v'.records) (sym (none e)))

    others' : (j : ℕ) (o : Client) → At (now c).clients j o → j ≢ i → o.is_gathered ≡ true
    others' j o e n = let q = at_unmap (shed c.renewal) c.clients j o e in
        sym (ap (λ (y : Client). y.is_gathered) q.2) ∙ others j q.0 q.1 n

    pub past_lawful : (r : Record) → In r v.records → lawful r.tag r.reads r.writes
    past_lawful r m = ⊎_elim (λ p. h.past.abides r p) (λ p. ((h.inv.filed.filed i v' at').told r p).abides)
        (in_append c.past v'.records r (subst (In r) whole m))

    pub past_before : AllBefore (c.renewal + 1) v.records
    past_before r m = ⊎_elim (λ p. (let q = h.past.earlier r p in omega arith)) (λ p. (let q =
        own_of lawful lk c h v r p in omega arith)) (in_append c.past v'.records r (subst (In r) whole m))

    pub past_serial : Serial c.first v.records
    past_serial = subst (Serial c.first) (sym whole) (serial_append c.first c.past v'.records h.past.serial
        (subst (λ m. Serial m v'.records) (sym h.past.leads)
        (alone_serial lawful lk (now c) h.inv i v' at' free others')))

    pub past_leads : image_after c.first v.records ≡ c.cells
    past_leads = ap (image_after c.first) whole ∙ (image_append c.first c.past v'.records ∙
        (ap (λ m. image_after m v'.records) h.past.leads ∙ sym (alone lawful lk (now c) h.inv i v' at' free others').1))

    past_read : (r : Aborted) → In r (given_up v) →
        Agrees (image_at (image_after c.first c.past) r.version v'.records) r.reads
    past_read r m = subst (λ z. Agrees (image_at z r.version v'.records) r.reads) (sym h.past.leads)
        (subst (λ l. Agrees (image_at c.opening r.version l) r.reads)
        (alone lawful lk (now c) h.inv i v' at' free others').0
        (aborted_by lawful lk (now c) h.inv (all_records (now c).clients) (ahead lawful lk (now c) h.inv) i v' at' r m))

    -- every aborted attempt has read the image of its version
    pub past_agrees : (r : Aborted) → In r (all_aborted v) →
        (r.renewal < c.renewal + 1) × Agrees (image_upto c.first r.renewal r.version v.records) r.reads
    past_agrees r m = subst (λ l. (r.renewal < c.renewal + 1) ×
        Agrees (image_upto c.first r.renewal r.version l) r.reads)
        (sym whole) (all_agree c.first c.past v'.records c.renewal v (h.past.aborted i v at) h.past.earlier
        (own_of lawful lk c h v) past_read r m)

    past_sorted : Sorted v.records
    past_sorted = subst Sorted (sym whole) (sorted_append c.past v'.records h.past.sorted
        (sorted_of v'.records (h.inv.filed.filed i v' at').ordered) (λ x y m n. not_before y x (let a =
        h.past.earlier x m in let b = own_of lawful lk c h v y n in omega arith)))

    -- a client that has nothing
    record IsBare (w : Client) : Type 0 where
      pub held : w.attempt.held ≡ []
      pub wv : w.attempt.wv ≡ 0
      pub reads : w.attempt.reads ≡ []
      pub records : w.records ≡ []
      pub phase : decided w ≡ false
      pub rv : w.attempt.rv ≡ 0
      pub floor : w.floor ≡ 0
      pub last_is : w.attempt.last ≡ nothing
      pub aborted : w.aborted ≡ []

    abbrev start : World
    start = world (opened c.cells last (length c.locks)) []

    bare_keeps : (ws cs : List Client) → Heart lk start cs → ((w : Client) → In w ws → IsBare w) →
        Heart lk start (cs ++ ws)
    bare_keeps [] cs k f = rw (append-nil cs) k
    bare_keeps (w ∷ ws) cs k f =
        let b = f w (0, refl) in
        subst (Heart lk start) (append_assoc cs (w ∷ []) ws)
        (bare_keeps ws (cs ++ w ∷ []) (longer_keeps lk start cs w k b.held b.wv b.reads b.records b.phase b.rv
        (let y = b.floor in omega arith) b.last_is b.aborted) (λ y m. f y (suc m.0, m.1)))

    bare_files : (n : ℕ) (ws cs : List Client) → Filed lawful (length c.cells) n [] 0 cs →
        ((w : Client) → In w ws → IsBare w) → Filed lawful (length c.cells) n [] 0 (cs ++ ws)
    bare_files n [] cs k f = rw (append-nil cs) k
    bare_files n (w ∷ ws) cs k f =
        let b = f w (0, refl) in
        subst (Filed lawful (length c.cells) n [] 0) (append_assoc cs (w ∷ []) ws)
        (bare_files n ws (cs ++ w ∷ []) (longer_files lawful
        (length c.cells) n [] 0 cs w k b.held b.wv b.reads b.records b.phase b.aborted) (λ y m. f y (suc m.0, m.1)))

    abbrev clients' : List Client
    clients' = map (shed (c.renewal + 1)) (set c.clients i (renewing v))

    bare : (w : Client) → In w clients' → IsBare w
    bare w m =
        let q = at_unmap (shed (c.renewal + 1)) (set c.clients i (renewing v)) m.0 w m.1 in
        subst IsBare q.2 (⊎_elim (λ p. subst (λ y. IsBare (shed (c.renewal + 1) y)) p.1
        (record {
          held = refl;
          wv = refl;
          reads = refl;
          records = of_none (c.renewal + 1) v.records past_before;
          phase = refl;
          rv = refl;
          floor = refl;
          last_is = refl;
          aborted = refl;
        }))
        (λ p. subst (λ y. IsBare (shed (c.renewal + 1) y)) (sym (is_gone m.0 q.0 p.1 p.0))
        (record {
          held = refl;
          wv = refl;
          reads = refl;
          records = refl;
          phase = refl;
          rv = refl;
          floor = refl;
          last_is = refl;
          aborted = refl;
        })) (at_set c.clients i m.0 (renewing v) q.0 q.1))

    pub renew_rules : Rule lawful lk (renewed i last v c)
    renew_rules =
        let k = bare_keeps clients' [] (nobody_yet lawful lk c.cells last (length c.locks)) bare in record {
          inv = record {
            bounded = zero-le;
            grants = sum_shed (c.renewal + 1) (set c.clients i (renewing v)) ∙ (let a =
                sum_set share c.clients i v (renewing v) at in let g =
                sym (sum_shed c.renewal c.clients) ∙ h.inv.grants in let e = share_of v free.0 in
                let f : share (renewing v) ≡ v.grants + 1 = refl in omega arith);
            story = [];
            version = k.version;
            books = k.books;
            filed = bare_files (c.renewal + 1) clients' [] (none_filed lawful (length c.cells) (c.renewal + 1)) bare;
            size = refl;
          };
          lone = λ n o e y. ⊎_elim (λ p. clash y (ap (λ (x : Client). x.attempt.lone) (sym p.1)))
              (λ p. clash y (ap (λ (x : Client). x.attempt.lone) (is_gone n o p.1 p.0)))
              (at_set c.clients i n (renewing v) o e);
          known = turn_known c i v at 0 (renewing v) refl refl;
          past = record {
            serial = past_serial;
            leads = past_leads;
            abides = past_lawful;
            earlier = past_before;
            sorted = past_sorted;
            keeper = i;
            member = rw (length-set c.clients i (renewing v)) (in_range c.clients i v at);
            kept = λ n o e. ⊎_elim
                (λ p. subst (λ (y : Client). y.records ≡ cond (eqb n i) v.records [] ++ of_renewal
                (c.renewal + 1) y.records) p.1 (rw (eqb_yes n i p.0, of_none (c.renewal + 1) v.records past_before)
                (sym (append-nil v.records))))
                (λ p. subst (λ (y : Client). y.records ≡ cond (eqb n i) v.records [] ++ of_renewal
                (c.renewal + 1) y.records) (sym (is_gone n o p.1 p.0)) (rw (eqb_no n i p.0) refl))
                (at_set c.clients i n (renewing v) o e);
            are_gone = λ n o e y. ⊎_elim (λ p. clash y (sym (ap (λ (x : Client). x.is_gathered) p.1)))
                (λ p. is_gone n o p.1 p.0) (at_set c.clients i n (renewing v) o e);
            aborted = subst (λ l. AllAborted c.first l (c.renewal + 1) (set c.clients i (renewing v))) (sym whole)
                (renew_aborted c.first c.past v'.records c.renewal v (h.past.aborted i v at) h.past.earlier
                (own_of lawful lk c h v) past_read c.clients i is_gone);
          };
        }

-- a core just opened meets the whole invariant
pub opening_rules : (lawful : RecordLaw) (lk : ℕ → ℕ) (image : List ℕ) (last stripes : ℕ) →
    Rule lawful lk (opened image last stripes)
opening_rules lawful lk image last stripes = record {
  inv = opening_keeps lawful lk image last stripes;
  lone = λ i v e y. clash y (ap (λ (x : Client). x.attempt.lone) (sym (only_one opener i v e)));
  known = record { place = 0; knower = opener; member = refl; out = refl; floor = refl };
  past = record {
    serial = tt;
    leads = refl;
    abides = λ r m. absurd (nothing_in r m);
    earlier = λ r m. absurd (nothing_in r m);
    sorted = tt;
    keeper = 0;
    member = omega arith;
    kept = λ i v e. subst (λ (y : Client). y.records ≡ cond (eqb i 0) [] [] ++ of_renewal 0 y.records)
        (only_one opener i v e) (none (eqb i 0));
    are_gone = λ i v e y. clash y (ap (λ (x : Client). x.is_gathered) (sym (only_one opener i v e)));
    aborted = λ i v e. subst (λ y. KeepsAborted image [] 0 y) (only_one opener i v e)
        (bare_aborted image [] 0 opener refl refl refl);
  };
}
  where
    nil : List Record
    nil = []

    none : (b : Bool) → nil ≡ cond b nil nil ++ nil
    none true = refl
    none false = refl

--  a core on an image, with one client that has all grants and the records of earlier renewals, which are serial from
-- the first image to this one
module _ (lawful : RecordLaw) (lk : ℕ → ℕ) (first image : List ℕ) (renewal last stripes : ℕ) (v : Client) where
  abbrev v'' : Client
  v'' = shed renewal v

  pub begins_rules : v ≡ renewing v → v.grants ≡ 63 → Serial first v.records → image_after first v.records ≡ image →
      ((r : Record) → In r v.records → lawful r.tag r.reads r.writes) → AllBefore renewal v.records → Sorted v.records →
      ((r : Aborted) → In r v.aborted_before →
      (r.renewal < renewal) × Agrees (image_upto first r.renewal r.version v.records) r.reads) →
      Rule lawful lk (begun_on first image renewal last stripes v)
  begins_rules new all serial leads abides earlier sorted aborted =
      let none : v''.records ≡ [] = of_none renewal v.records earlier in
      let k = longer_keeps lk (world (opened image last stripes) []) [] v'' (nobody_yet lawful lk image last stripes)
      (ap (λ (y : Client). y.attempt.held) new) (ap (λ (y : Client). y.attempt.wv) new)
      (ap (λ (y : Client). y.attempt.reads) new) none (ap (λ (y : Client). decided y) new)
      (ap (λ (y : Client). y.attempt.rv) new) (let e : v.floor ≡ 0 = ap (λ (y : Client). y.floor) new in
      omega arith) (ap (λ (y : Client). y.attempt.last) new) (ap (λ (y : Client). y.aborted) new) in record {
        inv = record {
          bounded = zero-le;
          grants = rw (sum_by-cons share v'' []) (let e : share v'' ≡ v.grants + 1 =
              share_of v'' (ap (λ (y : Client). y.is_gathered) new) in omega (arith, all));
          story = [];
          version = k.version;
          books = k.books;
          filed = longer_files lawful (length image) renewal [] 0 [] v'' (none_filed lawful (length image) renewal)
              (ap (λ (y : Client). y.attempt.held) new) (ap (λ (y : Client). y.attempt.wv) new)
              (ap (λ (y : Client). y.attempt.reads) new) none (ap (λ (y : Client). decided y) new)
              (ap (λ (y : Client). y.aborted) new);
          size = refl;
        };
        lone = λ i w e y. clash y (ap (λ (x : Client). x.attempt.lone) (sym (only_one v i w e)) ∙
            ap (λ (x : Client). x.attempt.lone) new);
        known = record {
          place = 0;
          knower = v;
          member = refl;
          out = ap (λ (x : Client). x.is_gathered) new;
          floor = ap (λ (x : Client). x.floor) new;
        };
        past = record {
          serial = serial;
          leads = leads;
          abides = abides;
          earlier = earlier;
          sorted = sorted;
          keeper = 0;
          member = omega arith;
          kept = kept;
          are_gone = λ i w e y. clash y (ap (λ (x : Client). x.is_gathered) (sym (only_one v i w e)) ∙
              ap (λ (x : Client). x.is_gathered) new);
          aborted = λ i w e. subst (λ y. KeepsAborted first v.records renewal y) (only_one v i w e) (record {
            begun = λ y. clash (ap (λ (x : Client). is_settled x.attempt.phase) new) y;
            now = λ r m. absurd (nothing_in r (subst (In r) (ap (λ (y : Client). y.aborted) new) m));
            before = aborted;
          });
        };
      }
    where
      kept : (i : ℕ) (w : Client) → At (v ∷ []) i w → w.records ≡ cond
          (eqb i 0) v.records [] ++ of_renewal renewal w.records
      kept zero w e = subst (λ (y : Client). y.records ≡ v.records ++ of_renewal renewal y.records)
          (some-injective v w e) (rw (of_none renewal v.records earlier) (sym (append-nil v.records)))
      kept (suc i) w e = absurd (some-ne-none w (sym e))
