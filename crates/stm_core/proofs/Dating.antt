-- The decided records in the order of their point steps, event by event.
use Rattle.std.proofs.Common.{◌≡◌, ◌≢◌, ℕ, zero, suc, ◌+◌, ◌≤◌, ◌<◌, ◌⊎◌, inl, inr, ⊎_elim, Bool, true, false, cond}
use Rattle.std.proofs.Common.{leb, ltb, List, [], ◌∷◌, ◌++◌, length, length-set, length-append, set, refl, sym, ap, ◌∙◌}
use Rattle.std.proofs.Common.{subst, arith, le_refl}
use mathlib.Core.Option.{some, some-injective, some-ne-none}
use mathlib.Core.Logic.{dite}
use native.Mathlib.Decide.{ℕ_discrete}
use Rattle.std.proofs.lemmas.Bool.Decides.{nat_tests}
use Rattle.tx_memory.specs.Image.{In}
use Rattle.stm_core.specs.Client.{Client, Record, rank, inserted}
use Rattle.stm_core.specs.Version.{At, IsOpen}
use Rattle.stm_core.specs.History.{ByPoint}
use Rattle.stm_core.specs.Client.{is_settled}
use Rattle.stm_core.proofs.Lists.{at_set, set_here, set_else, same_at, by_bool, at_longer, in_range, clash, nothing_in}
use Rattle.stm_core.proofs.Lists.{who_set}
use Rattle.stm_core.specs.Event.{taking, gone}
use Rattle.stm_core.proofs.Orders.{in_cons, in_inserted, inserted_in, inserted_old, in_merged, merged_left}
use Rattle.stm_core.proofs.Orders.{merged_right}
use Rattle.stm_core.proofs.Histories.{Ranked, rank_writer, rank_reader}
use Rattle.stm_core.proofs.Conditions.{IsReading}

-- the position of a begin that may still become a reader's point step, or of a won tick that may
-- still become a writer's
abbrev pub Mark : Client → ℕ → Type 0
Mark v p = (IsReading v.attempt × (p ≡ v.attempt.began_at)) ⊎ (IsOpen v × (p ≡ v.attempt.ticked_at))

-- a record of this client is of an attempt that is over
abbrev IsOver : Record → ℕ → Client → Type 0
IsOver r y c = c.is_gathered ≡ false → r.client ≡ suc y → (r.attempt ≤ c.attempt.number) ×
    (r.attempt ≡ c.attempt.number → is_settled c.attempt.phase ≡ true)

-- a record beside the clock's value before each event
pub record IsStamped (time : ℕ → ℕ) (events : ℕ) (r : Record) : Type 0 where
  pub past : r.point < events
  pub writer : r.writer ≡ true → (time r.point + 1 ≡ r.version) × (time (suc r.point) ≡ r.version)
  pub reader : r.writer ≡ false → (time r.point ≡ r.version) × (time (suc r.point) ≡ r.version)

pub record IsDated (time : ℕ → ℕ) (events : ℕ) (v : Client) : Type 0 where
  pub reading : IsReading v.attempt → (v.attempt.began_at < events) × (time v.attempt.began_at ≡ v.attempt.rv) ×
      (time (suc v.attempt.began_at) ≡ v.attempt.rv)
  pub ticking : IsOpen v → (v.attempt.ticked_at < events) × (time v.attempt.ticked_at + 1 ≡ v.attempt.wv) ×
      (time (suc v.attempt.ticked_at) ≡ v.attempt.wv)

pub record Dated (old : List Record) (clock events : ℕ) (cs : List Client) (h : List Record) : Type 0 where
  pub time : ℕ → ℕ
  pub grows : (p q : ℕ) → p ≤ q → time p ≤ time q
  pub now : time events ≡ clock
  pub stamped : (r : Record) → In r h → IsStamped time events r
  pub each : (i : ℕ) (v : Client) → At cs i v → IsDated time events v
  pub unused : (i : ℕ) (v : Client) (p : ℕ) (r : Record) → At cs i v → Mark v p → In r h → r.point ≢ p
  pub apart : (i j : ℕ) (v w : Client) (p : ℕ) → At cs i v → At cs j w → i ≢ j → Mark v p → Mark w p → ⊥
  pub ascending : ByPoint h
  pub every : (i : ℕ) (v : Client) (r : Record) → At cs i v → In r v.records → In r h
  pub only : (r : Record) → In r h → (i : ℕ) × (v : Client) × At cs i v × In r v.records
  pub known : (r : Record) → In r h → r.client ≤ length cs
  pub numbered : (i : ℕ) (v : Client) (r : Record) → At cs i v → v.is_gathered ≡ false → In r h → r.client ≡ suc i →
      (r.attempt ≤ v.attempt.number) × (r.attempt ≡ v.attempt.number → is_settled v.attempt.phase ≡ true)
  -- the records of earlier renewals come before all of these
  pub old_past : (r : Record) → In r old → r.point < events
  pub old_before : (r x : Record) → In r old → In x h → r.point < x.point
  pub old_marked : (i : ℕ) (v : Client) (p : ℕ) (r : Record) → At cs i v → Mark v p → In r old → r.point < p
  pub old_known : (r : Record) → In r old → r.client ≤ length cs
  pub old_numbered : (i : ℕ) (v : Client) (r : Record) → At cs i v → v.is_gathered ≡ false → In r old →
      r.client ≡ suc i → (r.attempt ≤ v.attempt.number) × (r.attempt ≡ v.attempt.number →
      is_settled v.attempt.phase ≡ true)

-- the values of the clock with one more, after this many events
pub later_on : (ℕ → ℕ) → ℕ → ℕ → ℕ → ℕ
later_on time events clock p = cond (leb p events) (time p) clock

on_time : (time : ℕ → ℕ) (events clock p : ℕ) → p ≤ events → later_on time events clock p ≡ time p
unfolding later_on
on_time time events clock p l = let e : leb p events ≡ true = grind (arith, nat_tests) in rw e refl

past_time : (time : ℕ → ℕ) (events clock p : ℕ) → events < p → later_on time events clock p ≡ clock
unfolding later_on
past_time time events clock p l = let e : leb p events ≡ false = grind (arith, nat_tests) in rw e refl

-- the record put in at its position by point steps
abbrev pub placed : Record → List Record → List Record
placed r [] = r ∷ []
placed r (x ∷ xs) = cond (ltb r.point x.point) (r ∷ x ∷ xs) (x ∷ placed r xs)

pub in_placed : (r : Record) (l : List Record) (x : Record) → In x (placed r l) → (r ≡ x) ⊎ In x l
in_placed r [] x i = in_cons r x [] i
in_placed r (y ∷ l) x i = go (ltb r.point y.point) i (λ h. in_placed r l x h)
  where
    go : (b : Bool) → In x (cond b (r ∷ y ∷ l) (y ∷ placed r l)) → (In x (placed r l) → (r ≡ x) ⊎ In x l) →
        (r ≡ x) ⊎ In x (y ∷ l)
    go true j f = in_cons r x (y ∷ l) j
    go false j f = ⊎_elim (λ e. inr (0, ap some e)) (λ k. ⊎_elim (λ e. inl e) (λ o. inr (suc o.0, o.1)) (f k))
        (in_cons y x (placed r l) j)

pub placed_in : (r : Record) (l : List Record) → In r (placed r l)
placed_in r [] = (0, refl)
placed_in r (y ∷ l) = go (ltb r.point y.point) (placed_in r l)
  where
    go : (b : Bool) → In r (placed r l) → In r (cond b (r ∷ y ∷ l) (y ∷ placed r l))
    go true i = (0, refl)
    go false i = (suc i.0, i.1)

pub placed_old : (r : Record) (l : List Record) (x : Record) → In x l → In x (placed r l)
placed_old r [] x i = absurd (nothing_in x i)
placed_old r (y ∷ l) x i = go (ltb r.point y.point) (in_cons y x l i) (λ h. placed_old r l x h)
  where
    go : (b : Bool) → (y ≡ x) ⊎ In x l → (In x l → In x (placed r l)) → In x (cond b (r ∷ y ∷ l) (y ∷ placed r l))
    go true j f = ⊎_elim (λ e. (1, ap some e)) (λ h. (suc (suc h.0), h.1)) j
    go false j f = ⊎_elim (λ e. (0, ap some e)) (λ h. let q = f h in (suc q.0, q.1)) j

placed_by : (r : Record) (l : List Record) → ByPoint l → ((x : Record) → In x l → x.point ≢ r.point) →
    ByPoint (placed r l)
placed_by r [] o f = (λ y i. absurd (nothing_in y i), tt)
placed_by r (x ∷ l) o f = go (ltb r.point x.point) refl (placed_by r l o.1 (λ y i. f y (suc i.0, i.1)))
  where
    go : (b : Bool) → ltb r.point x.point ≡ b → ByPoint (placed r l) → ByPoint (cond b (r ∷ x ∷ l) (x ∷ placed r l))
    go true e k = (
      λ y i. ⊎_elim (λ q. subst (λ (z : Record). r.point < z.point) q (grind (arith, nat_tests)))
          (λ j. let p = o.0 y j in let q : r.point < x.point = grind (arith, nat_tests) in
          omega arith) (in_cons x y l i),
      o,
    )
    go false e k = (
      λ y i. ⊎_elim (λ q. subst (λ (z : Record). x.point < z.point) q (let n = f x (0, refl) in
          let q' : x.point ≤ r.point = grind (arith, nat_tests) in omega arith)) (λ j. o.0 y j) (in_placed r l y i),
      k,
    )

-- records by point steps are in the order of versions, the one writer of a version before its
-- readers
pub ranked_by : (old : List Record) (clock events : ℕ) (cs : List Client) (h : List Record) →
    Dated old clock events cs h → (l : List Record) → ByPoint l → ((r : Record) → In r l → In r h) → Ranked l
ranked_by old clock events cs h d [] o f = tt
ranked_by old clock events cs h d (x ∷ l) o f = (
  λ r i. pair r i,
  ranked_by old clock events cs h d l o.1 (λ r i. f r (suc i.0, i.1)),
)
  where
    pair : (r : Record) → In r l → (rank x ≤ rank r) × (x.writer ≡ true → r.writer ≡ true → x.version ≢ r.version)
    pair r i =
        let p = o.0 r i in
        let a = d.stamped x (f x (0, refl)) in
        let b = d.stamped r (f r (suc i.0, i.1)) in
        let g = d.grows (suc x.point) r.point (omega arith) in (
          by_bool x.writer
              (λ t. let a' = a.writer t in let s = rank_writer x t in
              by_bool r.writer (λ u. let b' = b.writer u in let s' = rank_writer r u in
              omega (arith, a', b')) (λ u. let b' = b.reader u in let s' = rank_reader r u in
              omega (arith, a', b')))
              (λ t. let a' = a.reader t in let s = rank_reader x t in
              by_bool r.writer (λ u. let b' = b.writer u in let s' = rank_writer r u in
              omega (arith, a', b')) (λ u. let b' = b.reader u in let s' = rank_reader r u in
              omega (arith, a', b'))),
          λ t u e. (let a' = a.writer t in let b' = b.writer u in omega (arith, a', b', e)),
        )

module _ (old : List Record) (clock events : ℕ) (cs : List Client) (h : List Record) (d : Dated old clock events cs h)
    (i : ℕ) (v w : Client) (at : At cs i v) where
  -- one more event, which decides nothing
  module _ (clock' : ℕ) (up : clock ≤ clock') (records : w.records ≡ v.records)
      (is_gathered : w.is_gathered ≡ v.is_gathered)
      (reading : IsReading w.attempt → (IsReading v.attempt × (w.attempt.began_at ≡ v.attempt.began_at) ×
      (w.attempt.rv ≡ v.attempt.rv)) ⊎ ((w.attempt.began_at ≡ events) × (w.attempt.rv ≡ clock) × (clock' ≡ clock)))
      (ticking : IsOpen w → (IsOpen v × (w.attempt.ticked_at ≡ v.attempt.ticked_at) × (w.attempt.wv ≡ v.attempt.wv)) ⊎
      ((w.attempt.ticked_at ≡ events) × (w.attempt.wv ≡ clock + 1) × (clock' ≡ clock + 1)))
      (number : (v.attempt.number < w.attempt.number) ⊎ ((w.attempt.number ≡ v.attempt.number) ×
      (is_settled v.attempt.phase ≡ true → is_settled w.attempt.phase ≡ true))) where
    abbrev time' : ℕ → ℕ
    time' = later_on d.time events clock'

    then : (p : ℕ) → p ≤ events → later_on d.time events clock' p ≡ d.time p
    then p l = on_time d.time events clock' p l

    new : (p : ℕ) → events < p → later_on d.time events clock' p ≡ clock'
    new p l = past_time d.time events clock' p l

    marks : (p : ℕ) → Mark w p → Mark v p ⊎ (p ≡ events)
    marks p m = ⊎_elim (λ q. ⊎_elim (λ s. inl (inl (s.0, q.1 ∙ s.1))) (λ s. inr (q.1 ∙ s.0)) (reading q.0))
        (λ q. ⊎_elim (λ s. inl (inr (s.0, q.1 ∙ s.1))) (λ s. inr (q.1 ∙ s.0)) (ticking q.0)) m

    below : (j : ℕ) (o : Client) (p : ℕ) → At cs j o → Mark o p → p < events
    below j o p e m = ⊎_elim (λ q. (let a = ((d.each j o e).reading q.0).0 in let b = q.1 in omega arith))
        (λ q. (let a = ((d.each j o e).ticking q.0).0 in let b = q.1 in omega arith)) m

    dated_on : (o : Client) → IsDated d.time events o → IsDated time' (events + 1) o
    dated_on o it = record {
      reading = λ r. let q = it.reading r in (
        omega (arith, q.0),
        then o.attempt.began_at (omega (arith, q.0)) ∙ q.1,
        then (suc o.attempt.began_at) (omega (arith, q.0)) ∙ q.2,
      );
      ticking = λ r. let q = it.ticking r in (
        omega (arith, q.0),
        (let e =
            then o.attempt.ticked_at (omega (arith, q.0)) in omega (arith, q.1)),
        then (suc o.attempt.ticked_at) (omega (arith, q.0)) ∙ q.2,
      );
    }

    at_now : (later_on d.time events clock') events ≡ clock
    at_now = then events (le_refl _) ∙ d.now

    mine : IsDated (later_on d.time events clock') (events + 1) w
    mine = record {
      reading = λ r. ⊎_elim (λ s. let q = (dated_on v (d.each i v at)).reading s.0 in
          (rw s.1 q.0, rw (s.1, s.2) q.1, rw (s.1, s.2) q.2))
          (λ s. (omega (arith, s.0), rw (s.0, s.1) at_now, rw (s.0, s.1) (new (suc events) (omega arith) ∙ s.2)))
          (reading r);
      ticking = λ r. ⊎_elim (λ s. let q = (dated_on v (d.each i v at)).ticking s.0 in
          (rw s.1 q.0, rw (s.1, s.2) q.1, rw (s.1, s.2) q.2))
          (λ s. (
            omega (arith, s.0),
            rw (s.0, s.1) (let e = at_now in omega arith),
            rw (s.0, s.1) (new (suc events) (omega arith) ∙ s.2),
          )) (ticking r);
    }

    grown : (p q : ℕ) → p ≤ q → (later_on d.time events clock') p ≤ (later_on d.time events clock') q
    grown p q l = by_bool (leb q events)
        (λ t. let k : q ≤ events = grind (arith, nat_tests) in let a = then p (omega arith) in let b = then q k in
        let c = d.grows p q l in omega arith)
        (λ t. let k : events < q = grind (arith, nat_tests) in
        by_bool (leb p events) (λ u. let m : p ≤ events = grind (arith, nat_tests) in let a = then p m in let b =
        new q k in let c = d.grows p events m in let e = d.now in omega arith)
        (λ u. let m : events < p = grind (arith, nat_tests) in let a = new p m in let b = new q k in omega arith))

    pub date_step : Dated old clock' (events + 1) (set cs i w) h
    date_step = record {
      time = later_on d.time events clock';
      grows = grown;
      now = new (events + 1) (omega arith);
      stamped = λ r m. let s = d.stamped r m in let a = then r.point (let p = s.past in omega arith) in let b =
          then (suc r.point) (let p = s.past in omega arith) in record {
            past = (let p = s.past in omega arith);
            writer = λ t. let q = s.writer t in (omega (arith, q.0), omega (arith, q.1));
            reader = λ t. let q = s.reader t in (omega (arith, q.0), omega (arith, q.1));
          };
      each = λ j o e. who_set cs i w (λ y c. IsDated (later_on d.time events clock') (events + 1) c) mine
          (λ y c f n. dated_on c (d.each y c f)) j o e;
      unused = λ j o p r e m k. who_set cs i w (λ y c. Mark c p →
          r.point ≢ p) (λ m'. ⊎_elim (λ q. d.unused i v p r at q k) (λ q s. (let z = (d.stamped r k).past in
          omega arith)) (marks p m')) (λ y c f n m'. d.unused y c p r f m' k) j o e m;
      apart = λ j k o q p e f n m m'. who_set cs i w (λ y c. y ≢ k → Mark c p → ⊥)
          (λ n' a. who_set cs i w (λ z c. i ≢ z → Mark c p →
          ⊥) (λ n'' b. n'' refl) (λ z c g n'' n3 b. ⊎_elim (λ s. d.apart i z v c p at g n3 s b) (λ s. (let l =
          below z c p g b in omega arith)) (marks p a)) k q f n' m')
          (λ y c g n' n'' a. who_set cs i w (λ z b. y ≢ z → Mark b p →
          ⊥) (λ n3 b. ⊎_elim (λ s. d.apart y i c v p g at n3 a s) (λ s. (let l = below y c p g a in omega arith))
          (marks p b)) (λ z b g' n3 n4 b'. d.apart y z c b p g g' n4 a b') k q f n'' m') j o e n m;
      ascending = d.ascending;
      every = λ j o r e m. who_set cs i w (λ y c. In r c.records →
          In r h) (λ m'. d.every i v r at (subst (In r) records m')) (λ y c f n m'. d.every y c r f m') j o e m;
      only = λ r m. let q = d.only r m in dite (ℕ_discrete q.0 i)
          (λ z. (
            i,
            w,
            set_here cs i v w at,
            rw records (subst (λ (c : Client). In r c.records)
                (same_at cs i q.1 v (subst (λ y. At cs y q.1) z q.2) at) q.3),
          ))
          (λ z. (q.0, q.1, set_else cs i q.0 w q.1 z q.2, q.3));
      known = λ r m. rw (length-set cs i w) (d.known r m);
      numbered = λ j o r e s m k. who_set cs i w (IsOver r)
          (λ s' k'. let q = d.numbered i v r at (sym is_gathered ∙ s') m k' in
          ⊎_elim (λ l. (omega (arith, q.0), λ z. absurd (let a = q.0 in omega (arith, l)))) (λ l. (
            let a = q.0 in
                let b = l.0 in omega arith,
            λ z. l.1 (q.1 (z ∙ l.0)),
          )) number)
          (λ y c f n s' k'. d.numbered y c r f s' m k') j o e s k;
      old_past = λ r m. (let p = d.old_past r m in omega arith);
      old_before = d.old_before;
      old_marked = λ j o p r e m k. who_set cs i w (λ y c. Mark c p →
          r.point < p) (λ m'. ⊎_elim (λ q. d.old_marked i v p r at q k) (λ q. (let z = d.old_past r k in omega arith))
          (marks p m')) (λ y c f n m'. d.old_marked y c p r f m' k) j o e m;
      old_known = λ r m. rw (length-set cs i w) (d.old_known r m);
      old_numbered = λ j o r e s m k. who_set cs i w (IsOver r)
          (λ s' k'. let q = d.old_numbered i v r at (sym is_gathered ∙ s') m k' in
          ⊎_elim (λ l. (omega (arith, q.0), λ z. absurd (let a = q.0 in omega (arith, l)))) (λ l. (
            let a = q.0 in
                let b = l.0 in omega arith,
            λ z. l.1 (q.1 (z ∙ l.0)),
          )) number)
          (λ y c f n s' k'. d.old_numbered y c r f s' m k') j o e s k;
    }

  -- a decision, whose point step came before
  module _ (r : Record) (mark : Mark v r.point) (records : w.records ≡ inserted r v.records)
      (is_gathered : w.is_gathered ≡ v.is_gathered) (none : (p : ℕ) → Mark w p →
      ⊥) (stamp : IsStamped d.time events r) (who_is : r.client ≡ suc i) (attempt : r.attempt ≡ v.attempt.number)
      (number : w.attempt.number ≡ v.attempt.number) (settled : is_settled w.attempt.phase ≡ true) where
    pub date_decide : Dated old clock events (set cs i w) (placed r h)
    date_decide = record {
      time = d.time;
      grows = d.grows;
      now = d.now;
      stamped = λ x m. ⊎_elim (λ e. subst (IsStamped d.time events) e stamp) (λ k. d.stamped x k) (in_placed r h x m);
      each = λ j o e. who_set cs i w (λ y c. IsDated d.time events c)
          (record {
            reading = λ q. absurd (none w.attempt.began_at (inl (q, refl)));
            ticking = λ q. absurd (none w.attempt.ticked_at (inr (q, refl)));
          }) (λ y c f n. d.each y c f) j o e;
      unused = λ j o p x e m k. who_set cs i w (λ y c. Mark c p → x.point ≢ p) (λ m'. absurd (none p m'))
          (λ y c f n m'. ⊎_elim (λ q s. d.apart y i c v p f at n m'
          (subst (Mark v) (ap (λ (z : Record). z.point) q ∙ s) mark)) (λ q. d.unused y c p x f m' q)
          (in_placed r h x k)) j o e m;
      apart = λ j k o q p e f n m m'. who_set cs i w (λ y c. y ≢ k → Mark c p →
          ⊥) (λ n' a. none p a) (λ y c g n' n'' a. who_set cs i w (λ z b. y ≢ z → Mark b p →
          ⊥) (λ n3 b. none p b) (λ z b g' n3 n4 b'. d.apart y z c b p g g' n4 a b') k q f n'' m') j o e n m;
      ascending = placed_by r h d.ascending (λ x m. d.unused i v r.point x at mark m);
      every = λ j o x e m. who_set cs i w (λ y c. In x c.records →
          In x (placed r h)) (λ m'. ⊎_elim (λ q. subst (λ z. In z (placed r h)) q (placed_in r h))
          (λ q. placed_old r h x (d.every i v x at q)) (in_inserted r v.records x (subst (In x) records m')))
          (λ y c f n m'. placed_old r h x (d.every y c x f m')) j o e m;
      only = λ x m. ⊎_elim (λ e. (
        i,
        w,
        set_here cs i v w at,
        rw records (subst (λ z. In z (inserted r v.records)) e (inserted_in r v.records)),
      ))
          (λ k. let q = d.only x k in dite (ℕ_discrete q.0 i)
          (λ z. (
            i,
            w,
            set_here cs i v w at,
            rw records (inserted_old r v.records x
                (subst (λ (c : Client). In x c.records) (same_at cs i q.1 v (subst (λ y. At cs y q.1) z q.2) at) q.3)),
          ))
          (λ z. (q.0, q.1, set_else cs i q.0 w q.1 z q.2, q.3))) (in_placed r h x m);
      known = λ x m. rw (length-set cs i w) (⊎_elim (λ q. subst (λ (z : Record). z.client ≤ length cs) q
          (rw who_is (in_range cs i v at))) (λ q. d.known x q) (in_placed r h x m));
      numbered = λ j o x e s m k. who_set cs i w (IsOver x)
          (λ s' k'. (
            ⊎_elim (λ q. (let z : r.attempt ≡ x.attempt = ap (λ (y : Record). y.attempt) q in let l = number in
                let l' = attempt in omega arith)) (λ q. (let z = (d.numbered i v x at (sym is_gathered ∙ s') q k').0 in
                let l = number in omega arith)) (in_placed r h x m),
            λ z. settled,
          ))
          (λ y c f n s' k'. ⊎_elim (λ q. absurd (n (let z : r.client ≡ x.client = ap (λ (y : Record). y.client) q in
          let a = who_is in omega (arith, k')))) (λ q. d.numbered y c x f s' q k') (in_placed r h x m)) j o e s k;
      old_past = d.old_past;
      old_before = λ y x k m. ⊎_elim (λ e. subst (λ (z : Record). y.point < z.point) e
          (d.old_marked i v r.point y at mark k)) (λ q. d.old_before y x k q) (in_placed r h x m);
      old_marked = λ j o p y e m k. who_set cs i w (λ z c. Mark c p →
          y.point < p) (λ m'. absurd (none p m')) (λ z c f n m'. d.old_marked z c p y f m' k) j o e m;
      old_known = λ x m. rw (length-set cs i w) (d.old_known x m);
      old_numbered = λ j o x e s m k. who_set cs i w (IsOver x)
          (λ s' k'. let q = d.old_numbered i v x at (sym is_gathered ∙ s') m k' in
          (let a = q.0 in let l = number in omega arith, λ z. settled))
          (λ y c f n s' k'. d.old_numbered y c x f s' m k') j o e s k;
    }

module _ (old : List Record) (clock events : ℕ) (cs : List Client) (h : List Record)
    (d : Dated old clock events cs h) where
  blank_dated : (w : Client) → ((p : ℕ) → Mark w p → ⊥) → IsDated d.time events w
  blank_dated w none = record {
    reading = λ q. absurd (none w.attempt.began_at (inl (q, refl)));
    ticking = λ q. absurd (none w.attempt.ticked_at (inr (q, refl)));
  }

  -- one more client, which has nothing
  pub date_longer : (w : Client) → ((p : ℕ) → Mark w p → ⊥) → w.records ≡ [] → Dated old clock events (cs ++ w ∷ []) h
  date_longer w none records = record {
    time = d.time;
    grows = d.grows;
    now = d.now;
    stamped = d.stamped;
    each = λ i o e. who (λ y c. IsDated d.time events c) (λ y _. blank_dated w none) (λ y c f. d.each y c f) i o e;
    unused = λ i o p r e m k. who (λ y c. Mark c p → r.point ≢ p) (λ y _ m'. absurd (none p m'))
        (λ y c f m'. d.unused y c p r f m' k) i o e m;
    apart = λ i j o q p e f n m m'. who (λ y c. y ≢ j → Mark c p →
        ⊥) (λ y _ n' a. none p a) (λ y c g n' a. who (λ z b. y ≢ z → Mark b p →
        ⊥) (λ z _ n'' b. none p b) (λ z b g' n'' b'. d.apart y z c b p g g' n'' a b') j q f n' m') i o e n m;
    ascending = d.ascending;
    every = λ i o r e m. who (λ y c. In r c.records → In r h)
        (λ y _ m'. absurd (nothing_in r (subst (In r) records m'))) (λ y c f m'. d.every y c r f m') i o e m;
    only = λ r m. let q = d.only r m in (q.0, q.1, at_longer cs w q.1 q.0 q.2, q.3);
    known = λ r m. rw (length-append cs (w ∷ [])) (let q = d.known r m in omega arith);
    numbered = λ i o r e s m k. who (IsOver r) (λ y l s' k'. absurd (let q = d.known r m in omega (arith, l, k')))
        (λ y c f s' k'. d.numbered y c r f s' m k') i o e s k;
    old_past = d.old_past;
    old_before = d.old_before;
    old_marked = λ i o p r e m k. who (λ y c. Mark c p → r.point < p) (λ y _ m'. absurd (none p m'))
        (λ y c f m'. d.old_marked y c p r f m' k) i o e m;
    old_known = λ r m. rw (length-append cs (w ∷ [])) (let q = d.old_known r m in omega arith);
    old_numbered = λ i o r e s m k. who (IsOver r) (λ y l s' k'. absurd (let q = d.old_known r m in
        omega (arith, l, k'))) (λ y c f s' k'. d.old_numbered y c r f s' m k') i o e s k;
  }
    where
      last_at : (l : List Client) (i : ℕ) (o : Client) → At (l ++ w ∷ []) i o → At l i o ⊎ ((i ≡ length l) × (w ≡ o))
      last_at [] zero o e = inr (refl, some-injective w o e)
      last_at [] (suc i) o e = absurd (some-ne-none o (sym e))
      last_at (x ∷ l) zero o e = inl e
      last_at (x ∷ l) (suc i) o e = ⊎_elim (λ p. inl p) (λ p. inr (ap suc p.0, p.1)) (last_at l i o e)

      who : (P : ℕ → Client → Type 0) → ((i : ℕ) → i ≡ length cs → P i w) → ((i : ℕ) (o : Client) → At cs i o → P i o) →
          (i : ℕ) (o : Client) → At (cs ++ w ∷ []) i o → P i o
      who P new old i o e = ⊎_elim (λ p. old i o p) (λ p. subst (λ c. P i c) p.1 (new i p.0)) (last_at cs i o e)

  -- a client gathers the records of another
  pub date_join : (i j : ℕ) (v w : Client) → At cs i v → At cs j w → i ≢ j → v.is_gathered ≡ false →
      Dated old clock events (set (set cs i (taking v w)) j gone) h
  date_join i j v w at to ne live = record {
    time = d.time;
    grows = d.grows;
    now = d.now;
    stamped = d.stamped;
    each = λ n o e. who (λ y c. IsDated d.time events c) (let q = d.each i v at in
        record { reading = q.reading; ticking = q.ticking }) (blank_dated gone none) (λ y c f a b. d.each y c f) n o e;
    unused = λ n o p r e m k. who (λ y c. Mark c p → r.point ≢ p) (λ m'. d.unused i v p r at m' k)
        (λ m'. absurd (none p m')) (λ y c f a b m'. d.unused y c p r f m' k) n o e m;
    apart = λ n k o q p e f z m m'. who (λ y c. y ≢ k → Mark c p → ⊥)
        (λ z' a. who (λ y c. i ≢ y → Mark c p → ⊥) (λ z2 b. z2 refl) (λ z2 b. none p b)
        (λ y c g g1 g2 z2 b. d.apart i y v c p at g z2 a b) k q f z' m') (λ z' a. none p a)
        (λ y c g g1 g2 z' a. who (λ x b. y ≢ x → Mark b p → ⊥) (λ z2 b. d.apart y i c v p g at z2 a b)
        (λ z2 b. none p b) (λ x b g' h1 h2 z2 b'. d.apart y x c b p g g' z2 a b') k q f z' m') n o e z m;
    ascending = d.ascending;
    every = λ n o r e m. who (λ y c. In r c.records → In r h)
        (λ m'. ⊎_elim (λ q. d.every i v r at q) (λ q. d.every j w r to q) (in_merged v.records w.records r m'))
        (λ m'. absurd (nothing_in r m')) (λ y c f a b m'. d.every y c r f m') n o e m;
    only = λ r m. let q = d.only r m in
        dite (ℕ_discrete q.0 i) (λ z. (
          i,
          taking v w,
          here,
          merged_left v.records w.records r
              (subst (λ (c : Client). In r c.records) (same_at cs i q.1 v (subst (λ y. At cs y q.1) z q.2) at) q.3),
        ))
        (λ z. dite (ℕ_discrete q.0 j) (λ y. (
          i,
          taking v w,
          here,
          merged_right v.records w.records r (subst (λ (c : Client). In r c.records)
              (same_at cs j q.1 w (subst (λ y'. At cs y' q.1) y q.2) to) q.3),
        ))
        (λ y. (
          q.0,
          q.1,
          set_else (set cs i (taking v w)) j q.0 gone q.1 y (set_else cs i q.0 (taking v w) q.1 z q.2),
          q.3,
        )));
    known = λ r m. rw (length-set (set cs i (taking v w)) j gone ∙ length-set cs i (taking v w)) (d.known r m);
    numbered = λ n o r e s m k. who (IsOver r) (λ s' k'. d.numbered i v r at live m k') (λ s' k'. clash refl s')
        (λ y c f a b s' k'. d.numbered y c r f s' m k') n o e s k;
    old_past = d.old_past;
    old_before = d.old_before;
    old_marked = λ n o p r e m k. who (λ y c. Mark c p → r.point < p) (λ m'. d.old_marked i v p r at m' k)
        (λ m'. absurd (none p m')) (λ y c f a b m'. d.old_marked y c p r f m' k) n o e m;
    old_known = λ r m. rw (length-set (set cs i (taking v w)) j gone ∙ length-set cs i (taking v w)) (d.old_known r m);
    old_numbered = λ n o r e s m k. who (IsOver r) (λ s' k'. d.old_numbered i v r at live m k') (λ s' k'. clash refl s')
        (λ y c f a b s' k'. d.old_numbered y c r f s' m k') n o e s k;
  }
    where
      none : (p : ℕ) → Mark gone p → ⊥
      none p m = ⊎_elim (λ q. (let z = q.0.0 in cc)) (λ q. (let z = q.0.0 in omega arith)) m

      here : At (set (set cs i (taking v w)) j gone) i (taking v w)
      here = set_else (set cs i (taking v w)) j i gone (taking v w) ne (set_here cs i v (taking v w) at)

      who : (P : ℕ → Client → Type 0) → P i (taking v w) → P j gone →
          ((n : ℕ) (o : Client) → At cs n o → n ≢ i → n ≢ j → P n o) → (n : ℕ) (o : Client) →
          At (set (set cs i (taking v w)) j gone) n o → P n o
      who P a b c n o e = ⊎_elim (λ p. subst (λ d. P n d) p.1 (subst (λ y. P y gone) (sym p.0) b))
          (λ p. ⊎_elim (λ q. subst (λ d. P n d) q.1 (subst (λ y. P y (taking v w)) (sym q.0) a))
          (λ q. c n o q.1 q.0 p.0) (at_set cs i n (taking v w) o p.1)) (at_set (set cs i (taking v w)) j n gone o e)
