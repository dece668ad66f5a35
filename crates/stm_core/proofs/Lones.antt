-- A solo attempt: its guarantees are kept, and nothing makes it fail.
use Rattle.std.proofs.Common.{◌≡◌, ◌≢◌, ℕ, zero, suc, ◌+◌, ◌*◌, ◌⊎◌, inl, inr, ⊎_elim, Bool, true, false, cond, eqb}
use Rattle.std.proofs.Common.{◌||◌, List, [], ◌∷◌, length, map, set, slice_set, slice_index, refl, sym, ap, ◌∙◌, subst}
use Rattle.std.proofs.Common.{arith}
use mathlib.Core.Option.{some, some-injective, some-ne-none}
use mathlib.Core.Logic.{dite}
use native.Mathlib.Decide.{ℕ_discrete}
use lib.ListN.{get_elem?}
use Rattle.std.proofs.lemmas.Bool.Decides.{nat_tests}
use Rattle.tx_memory.specs.Image.{In}
use Rattle.stm_core.specs.Client.{Client, running, ending, checked, locked, ticked, validated, Stamp, decided}
use Rattle.stm_core.specs.Client.{is_committed, version_of, IsFree, word_before, value_fetched, shed, RecordLaw}
use Rattle.stm_core.specs.Event.{Action, begin, probe, fetch, check, lock, tick, validate, put, release, give_back}
use Rattle.stm_core.specs.Event.{finish, committed_by, stepping, failing, read_too, holding, versioned, is_empty}
use Rattle.stm_core.specs.Event.{decides_at_once, won, passes, passing, after, giving, fresh, taking, gone, with_ticks}
use Rattle.stm_core.specs.Event.{counting}
use Rattle.stm_core.specs.Core.{Core, bounds_of, stepped, divided, gathered}
use Rattle.stm_core.specs.Version.{At}
use Rattle.stm_core.specs.Invariant.{Inv, now, Unmoved, IsLone, Lone, GoesOnAlone}
use Rattle.stm_core.proofs.Lists.{at_set, at_snoc, clash, nothing_in}
use Rattle.stm_core.proofs.Facts.{grants_of_two, others_gathered}
use Rattle.stm_core.proofs.Steps.{by_case, undecided_at, undecided_end}
use Rattle.stm_core.proofs.Conditions.{CanAct, can_act}
use Rattle.stm_core.specs.Guards.{Holds}

pub at_map : {A B : Type 0} (f : A → B) (l : List A) (i : ℕ) (v : A) → get_elem? l i ≡ some v →
    get_elem? (map f l) i ≡ some (f v)
at_map f [] i v e = absurd (some-ne-none v (sym e))
at_map f (x ∷ l) zero v e = ap (λ y. some (f y)) (some-injective x v e)
at_map f (x ∷ l) (suc i) v e = at_map f l i v e

pub at_unmap : {A B : Type 0} (f : A → B) (l : List A) (i : ℕ) (w : B) → get_elem? (map f l) i ≡ some w →
    (v : A) × (get_elem? l i ≡ some v) × (f v ≡ w)
at_unmap f [] i w e = absurd (some-ne-none w (sym e))
at_unmap f (x ∷ l) zero w e = (x, refl, some-injective (f x) w e)
at_unmap f (x ∷ l) (suc i) w e = at_unmap f l i w e

not_ended : (v : Client) → v.attempt.phase ≡ running → v.attempt.phase ≡ ending → ⊥
not_ended v e f = (let z : running ≡ ending = sym e ∙ f in cc)

module _ (lawful : RecordLaw) (lk : ℕ → ℕ) (c : Core) (h : Inv lawful lk (now c))
    (l : Lone lk c.clock c.locks c.clients) where
  -- beside the client of a solo attempt, no client is out
  pub only_one : (i j : ℕ) (v o : Client) → At c.clients i v → At c.clients j o → v.is_gathered ≡ false →
      o.attempt.lone ≡ true → j ≢ i → ⊥
  only_one i j v o at to live lone ne =
      let q = l j o to lone in
      let g = grants_of_two lawful lk (now c) h j i (shed c.renewal o) (shed c.renewal v) ne
      (at_map (shed c.renewal) c.clients j o to) (at_map (shed c.renewal) c.clients i v at) q.out live in
      let a = q.all in omega arith

  module _ (i : ℕ) (v : Client) (at : At c.clients i v) (live : v.is_gathered ≡ false) where
    turn_lone : (clock' : ℕ) (locks' : List ℕ) (w : Client) → (w.attempt.lone ≡ true → IsLone lk clock' locks' w) →
        Lone lk clock' locks' (set c.clients i w)
    turn_lone clock' locks' w mine j o e y = ⊎_elim (λ p. subst (IsLone lk clock' locks') p.1
        (mine (subst (λ (z : Client). z.attempt.lone ≡ true) (sym p.1) y)))
        (λ p. absurd (only_one i j v o at p.1 live y p.0)) (at_set c.clients i j w o e)

    it : v.attempt.lone ≡ true → IsLone lk c.clock c.locks v
    it y = l i v at y

    pub act_lone : (t : Stamp) (e : Action) → CanAct lawful lk (bounds_of c) e v.attempt →
        Lone lk (stepped t lk e i v c).clock (stepped t lk e i v c).locks (stepped t lk e i v c).clients
    act_lone t begin may = turn_lone c.clock c.locks (after t lk begin c.clock v)
        (λ y. record { out = live; all = grind (arith, nat_tests); still = λ d. (refl, refl, refl); seen = λ r. tt })
    act_lone t (probe k) may = turn_lone c.clock c.locks (after t lk (probe k) (slice_index c.locks k) v)
        (λ y. record { out = live; all = (it y).all; still = (it y).still; seen = λ r. refl })
    act_lone t (fetch a) may =
        let p = may.3 in
        let word : p.0 ≡ word_before v.attempt.last = sym (ap word_before p.1) in
        turn_lone c.clock c.locks (after t lk (fetch a) (slice_index c.cells a) v) (λ y. record {
          out = live;
          all = (it y).all;
          still = (it y).still;
          seen = λ r. (let q : slice_index c.locks (lk a) ≡ p.0 =
              subst (Unmoved lk c.locks) p.1 ((it y).seen may.0.0) in q ∙ word);
        })
    act_lone t (check a) may =
        let n = slice_index c.locks (lk a) in
        by_case (λ b. Lone lk c.clock c.locks (slice_set c.clients i
        (stepping (checked a (word_before v.attempt.last) n)
        (cond b (read_too a (value_fetched v.attempt.last) v) (failing v))))) (eqb n (word_before v.attempt.last))
        (λ e. turn_lone c.clock c.locks (stepping (checked a (word_before v.attempt.last) n)
        (read_too a (value_fetched v.attempt.last) v)) (λ y. record {
          out = live;
          all = (it y).all;
          still = (it y).still;
          seen = λ r. tt;
        }))
        (λ e. turn_lone c.clock c.locks (stepping (checked a (word_before v.attempt.last) n) (failing v))
        (λ y. record {
          out = live;
          all = (it y).all;
          still = λ d. (it y).still (undecided_at v may.0.0);
          seen = λ r. tt;
        }))
    act_lone t (lock k) may =
        let n = slice_index c.locks k in
        by_case (λ b. Lone lk c.clock (slice_set c.locks k (cond b (n + 1) n))
        (slice_set c.clients i (stepping (locked k (word_before v.attempt.last) n)
        (cond b (holding k (version_of n) v) (failing v))))) (eqb n (word_before v.attempt.last))
        (λ e. turn_lone c.clock (slice_set c.locks k (n + 1))
        (stepping (locked k (word_before v.attempt.last) n) (holding k (version_of n) v))
        (λ y. record { out = live; all = (it y).all; still = (it y).still; seen = λ r. tt }))
        (λ e. turn_lone c.clock (slice_set c.locks k n) (stepping (locked k (word_before v.attempt.last) n) (failing v))
        (λ y. record {
          out = live;
          all = (it y).all;
          still = λ d. (it y).still (undecided_at v may.0.0);
          seen = λ r. tt;
        }))
    act_lone t (tick from tag writes) may =
        let w0 : Client = versioned t (from + 1) tag writes v in
        let undecided = undecided_at v may.0.0 in
        by_case (λ b. Lone lk (cond b (from + 1) c.clock) c.locks
        (slice_set c.clients i (with_ticks (v.attempt.ticks + 1) c.clock
        (stepping (ticked from c.clock) (cond b (won t (from + 1) tag writes v) v))))) (eqb c.clock from)
        (λ e. by_case (λ b. Lone lk (from + 1) c.locks (slice_set c.clients i
        (with_ticks (v.attempt.ticks + 1) c.clock (stepping (ticked from c.clock)
        (cond b (committed_by t w0) w0))))) (decides_at_once w0)
        (λ z. turn_lone (from + 1) c.locks (with_ticks (v.attempt.ticks + 1) c.clock
        (stepping (ticked from c.clock) (committed_by t w0)))
        (λ y. record { out = live; all = (it y).all; still = λ d. clash refl d; seen = λ r. tt }))
        (λ z. turn_lone (from + 1) c.locks (with_ticks (v.attempt.ticks + 1) c.clock
        (stepping (ticked from c.clock) w0)) (λ y. clash (at_once y) z)))
        (λ e. turn_lone c.clock c.locks (with_ticks (v.attempt.ticks + 1) c.clock (stepping (ticked from c.clock) v))
        (λ y. clash (let s : c.clock ≡ from = sym ((it y).still undecided).2 ∙ sym may.1 in
        let b : eqb c.clock from ≡ true = grind (arith, nat_tests) in b) e))
      where
        at_once : v.attempt.lone ≡ true → decides_at_once (versioned t (from + 1) tag writes v) ≡ true
        at_once y =
            let q = (it y).still (undecided_at v may.0.0) in
            let s : from ≡ v.attempt.rv = may.1 ∙ (q.2 ∙ sym q.1) in
            let b : eqb (from + 1) (v.attempt.rv + 1) ≡ true = grind (arith, nat_tests) in
            last (is_empty v.attempt.reads) b
          where
            last : (a : Bool) → eqb (from + 1) (v.attempt.rv + 1) ≡ true →
                (a || eqb (from + 1) (v.attempt.rv + 1)) ≡ true
            last true b = refl
            last false b = b
    act_lone t (validate k) may =
        let n = slice_index c.locks k in
        let undecided = undecided_at v may.0 in
        by_case (λ y. v.attempt.lone ≡ y → Lone lk c.clock c.locks
        (slice_set c.clients i (after t lk (validate k) n v))) v.attempt.lone
        (λ y _. absurd (let q = ((it y).still undecided).0 in let z = may.1 in omega arith))
        (λ y _. turn_lone c.clock c.locks (after t lk (validate k) n v) (λ y'. clash (sym (same_lone t k n) ∙ y') y))
        refl
      where
        same_lone : (t : Stamp) (k n : ℕ) → (after t lk (validate k) n v).attempt.lone ≡ v.attempt.lone
        same_lone t k n = by_case (λ b. (stepping (validated k n) (cond b (passing t v) (failing v))).attempt.lone ≡
            v.attempt.lone) (passes k n v)
            (λ _. let w0 : Client = counting v in by_case (λ b. (stepping (validated k n)
            (cond b (committed_by t w0) w0)).attempt.lone ≡ v.attempt.lone)
            (eqb w0.attempt.passed (length v.attempt.reads)) (λ _. refl) (λ _. refl)) (λ _. refl)
    act_lone t (put a x) may = turn_lone c.clock c.locks (after t lk (put a x) (slice_index c.cells a) v)
        (λ y. record { out = live; all = (it y).all; still = λ d. clash (ap is_committed may.0) d; seen = λ r. tt })
    act_lone t (release k) may = turn_lone c.clock (slice_set c.locks k (2 * v.attempt.wv))
        (after t lk (release k) (slice_index c.locks k) v) (λ y. record {
          out = live;
          all = (it y).all;
          still = λ d. clash (ap is_committed may.0) d;
          seen = λ r. tt;
        })
    act_lone t (give_back k) may =
        let undecided : decided v ≡ false = ⊎_elim (λ e. undecided_at v e) (λ e. undecided_end v e) may.0 in
        let w : Client = after t lk (give_back k) (slice_index c.locks k) v in
        turn_lone c.clock (stepped t lk (give_back k) i v c).locks w
        (λ y. record {
          out = live;
          all = (it y).all;
          still = λ d. let q = (it y).still undecided in (
            refl,
            q.1,
            q.2,
          );
          seen = λ r. absurd (not_ended w r refl);
        })
    act_lone t (finish tag) may = turn_lone c.clock c.locks (after t lk (finish tag) c.clock v)
        (λ y. record {
          out = live;
          all = (it y).all;
          still = λ d. (it y).still (undecided_at v may.0.0);
          seen = λ r. tt;
        })

    pub split_lone : Lone lk c.clock c.locks (divided i v c).clients
    split_lone j o e y = ⊎_elim (λ p. turn_lone c.clock c.locks (giving v) (λ z. clash z refl) j o p y)
        (λ p. clash y (ap (λ (z : Client). z.attempt.lone) (sym p)))
        (at_snoc (set c.clients i (giving v)) (fresh v) o j e)

    pub gather_lone : (j : ℕ) (w : Client) → At c.clients j w → i ≢ j → w.is_gathered ≡ false →
        Lone lk c.clock c.locks (gathered i v j w c).clients
    gather_lone j w to ne live' n o e y = ⊎_elim (λ p. clash y (ap (λ (z : Client). z.attempt.lone) (sym p.1)))
        (λ p. turn_lone c.clock c.locks (taking v w) (λ z. absurd (only_one j i w v to at live' z ne)) n o p.1 y)
        (at_set (set c.clients i (taking v w)) j n gone o e)

  -- a solo attempt that is not decided
  module _ (i : ℕ) (v : Client) (at : At c.clients i v) (y : v.attempt.lone ≡ true)
      (undecided : decided v ≡ false) where
    this : IsLone lk c.clock c.locks v
    this = l i v at y

    pub goes_on : GoesOnAlone lawful lk c v
    goes_on = record {
      probes = λ k. (free_or_mine k, (let q = h.version.versions k in let s = (this.still undecided).1 in omega arith));
      checks = λ a may. let m = can_act lk lawful (bounds_of c) v.attempt (check a) may in let p = m.3 in
          (let q : slice_index c.locks (lk a) ≡ p.0 = subst (Unmoved lk c.locks) p.2 (this.seen m.0.0) in
          q ∙ sym (ap word_before p.2));
      locks = λ k may. let m = can_act lk lawful (bounds_of c) v.attempt (lock k) may in let p = m.2 in
          (let q : slice_index c.locks k ≡ p.0 = subst (Unmoved lk c.locks) p.1 (this.seen m.0.0) in
          q ∙ sym (ap word_before p.1));
      ticks = λ from tag writes may. let m = can_act lk lawful (bounds_of c) v.attempt (tick from tag writes) may in
          let s : c.clock ≡ from = sym (this.still undecided).2 ∙ sym m.1 in (s, λ t. decides t from tag writes m s);
    }
      where
        free_or_mine : (k : ℕ) → IsFree (slice_index c.locks k) ⊎ Holds v.attempt.held k
        free_or_mine k = dite (ℕ_discrete (slice_index c.locks k) (2 * version_of (slice_index c.locks k))) (λ e. inl e)
            (λ n. let q = h.version.holder k (let z : slice_index c.locks k ≡ 2 * version_of
            (slice_index c.locks k) + 1 = omega arith in z) in
            let p = at_unmap (shed c.renewal) c.clients q.0 q.1 q.2 in
            let m : In (k, version_of (slice_index c.locks k)) p.0.attempt.held =
            subst (λ (z : Client). In (k, version_of (slice_index c.locks k)) z.attempt.held) (sym p.2) q.3 in
            dite (ℕ_discrete q.0 i)
            (λ e. inr (
              version_of (slice_index c.locks k),
              subst
                  (λ (z : Client). In (k, version_of (slice_index c.locks k)) z.attempt.held)
                  (some-injective p.0 v (sym p.1 ∙ subst (λ n'. At c.clients n' v) (sym e) at)) m,
            ))
            (λ ne. let gone' = others_gathered lawful lk (now c) h i (shed c.renewal v)
            (at_map (shed c.renewal) c.clients i v at) this.out this.all q.0 q.1 q.2 ne in
            absurd (nothing_in (k, version_of (slice_index c.locks k))
            (subst (In (k, version_of (slice_index c.locks k))) ((h.filed.filed q.0 q.1 q.2).gone gone').1 q.3))))

        decides : (t : Stamp) (from : ℕ) (tag : List ℕ) (writes : List (ℕ × ℕ)) →
            CanAct lawful lk (bounds_of c) (tick from tag writes) v.attempt → c.clock ≡ from →
            decided (after t lk (tick from tag writes) c.clock v) ≡ true
        decides t from tag writes may s =
            let b : eqb c.clock from ≡ true = grind (arith, nat_tests) in
            let w0 : Client = versioned t (from + 1) tag writes v in
            by_case (λ x. decided (stepping (ticked from c.clock) (cond x (won t (from + 1) tag writes v) v)) ≡ true)
            (eqb c.clock from)
            (λ _. by_case (λ x. decided (stepping (ticked from c.clock) (cond x (committed_by t w0) w0)) ≡ true)
            (decides_at_once w0) (λ _. refl)
            (λ z. clash (let r : from ≡ v.attempt.rv = may.1 ∙
            ((this.still undecided).2 ∙ sym (this.still undecided).1) in
            let e : eqb (from + 1) (v.attempt.rv + 1) ≡ true = grind (arith, nat_tests) in
            second (is_empty v.attempt.reads) (eqb (from + 1) (v.attempt.rv + 1)) e) z))
            (λ z. clash b z)
          where
            second : (a x : Bool) → x ≡ true → (a || x) ≡ true
            second true x e = refl
            second false x e = e
