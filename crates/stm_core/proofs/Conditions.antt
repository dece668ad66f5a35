-- The meaning of the guards: each condition as a statement, and that its test decides the
-- statement.
use Rattle.std.proofs.Common.{◌≡◌, ◌≢◌, ℕ, zero, suc, ◌-◌, ◌<◌, ◌≤◌, ◌⊎◌, inl, inr, ⊎_elim, Bool, true, false, not}
use Rattle.std.proofs.Common.{nat_lt, nat_le, ◌==◌, ◌&&◌, ◌||◌, List, [], ◌∷◌, length, get_or, refl, sym, ap, subst}
use Rattle.std.proofs.Common.{arith}
use mathlib.Core.Option.{some, some-injective, some-ne-none}
use lib.ListN.{get_elem?}
use Rattle.std.proofs.lemmas.Bool.Decides.{nat_tests}
use Rattle.std.specs.List.{list_any, list_all}
use Rattle.tx_memory.specs.Image.{In}
use Rattle.stm_core.specs.declared.version.TheConstants.{VERSION_LIMIT}
use Rattle.stm_core.specs.Client.{Attempt, Client, Phase, running, ending, committed, Step, probed, fetched, version_of}
use Rattle.stm_core.specs.Client.{IsFree, is_free, is_committed, writes_to, old_version, RecordLaw}
use Rattle.stm_core.specs.Event.{Action, begin, probe, fetch, check, lock, tick, validate, put, release, give_back}
use Rattle.stm_core.specs.Event.{finish, Bounds, is_empty, gone}
use Rattle.stm_core.specs.Guards.{Holds, is_running, may_end, is_reading, has_probed, has_found_free, has_fetched}
use Rattle.stm_core.specs.Guards.{is_map, may_write, is_next, are_stored, may_act, MayAct, IsLawful}
use Rattle.stm_core.specs.Core.{Core, bounds_of, client_of, Event, acts, splits, gathers, renews, is_out, are_gathered}
use Rattle.stm_core.specs.Core.{others_gathered, Allowed, MakesLawful}
use Rattle.stm_core.specs.Theorem.{free_law}
use Rattle.stm_core.specs.declared.limits.TheConstants.{MOST_RENEWALS, MOST_TICKS}
use Rattle.stm_core.proofs.Lists.{clash, nothing_in, by_bool, in_range}
use Rattle.stm_core.proofs.Orders.{in_cons}
use Rattle.stm_core.proofs.Held.{old_in, held_has}

-- the attempt runs and has no write version
abbrev pub IsReading : Attempt → Type 0
IsReading t = (t.phase ≡ running) × (t.wv ≡ 0)

-- the last step was a probe of lock k that found the lock free, with a version of at most rv
abbrev pub HasProbed : ℕ → ℕ → Step → Type 0
HasProbed k rv l = (n : ℕ) × (l ≡ probed k n) × IsFree n × (version_of n ≤ rv)

-- the last step was a probe of lock k that found the lock free
abbrev pub HasFoundFree : ℕ → Step → Type 0
HasFoundFree k l = (n : ℕ) × (l ≡ probed k n) × IsFree n

-- the last step was a fetch of address a, after a probe that found its lock free with a version of
-- at most rv
abbrev pub HasFetched : ℕ → ℕ → Step → Type 0
HasFetched a rv l = (n : ℕ) × (x : ℕ) × (l ≡ fetched a n x) × IsFree n × (version_of n ≤ rv)

-- the locks of the written words are exactly the held ones
pub record LocksMatch (lk : ℕ → ℕ) (held writes : List (ℕ × ℕ)) : Type 0 where
  pub every : (a : ℕ) → writes_to writes a ≡ true → Holds held (lk a)
  pub only : (k u : ℕ) → In (k, u) held → (a : ℕ) × (writes_to writes a ≡ true) × (lk a ≡ k)

-- the conditions of a tick on its writes
pub record MayWrite (lk : ℕ → ℕ) (size : ℕ) (held writes : List (ℕ × ℕ)) : Type 0 where
  pub some : writes ≢ []
  pub once : is_map writes ≡ true
  pub inside : (a : ℕ) → writes_to writes a ≡ true → a < size
  pub locks : LocksMatch lk held writes

-- the next validation is of lock k
abbrev pub IsNext : (ℕ → ℕ) → ℕ → List (ℕ × ℕ) → ℕ → Type 0
IsNext lk k reads n = (a x : ℕ) × (get_elem? reads n ≡ some (a, x)) × (lk a ≡ k)

-- every other client is gathered
abbrev pub IsAlone : Core → ℕ → Type 0
IsAlone c i = (j : ℕ) (w : Client) → get_elem? c.clients j ≡ some w → j ≢ i → w.is_gathered ≡ true

-- the number was given to a client, and that client is not gathered
abbrev pub IsOut : Core → ℕ → Type 0
IsOut c k = (0 < k) × (get_elem? c.clients (k - 1) ≡ some (client_of c k)) × ((client_of c k).is_gathered ≡ false)

module _ (lawful : RecordLaw) (lk : ℕ → ℕ) where
  -- the condition under which an attempt may make a step
  abbrev pub CanAct : Bounds → Action → Attempt → Type 0
  CanAct b begin t = t.held ≡ []
  CanAct b (probe k) t = IsReading t × (k < b.stripes)
  CanAct b (fetch a) t = IsReading t × (a < b.size) × (t.held ≡ []) × HasProbed (lk a) t.rv t.last
  CanAct b (check a) t = IsReading t × (a < b.size) × (t.held ≡ []) × HasFetched a t.rv t.last
  CanAct b (lock k) t = IsReading t × (k < b.stripes) × HasFoundFree k t.last × ((j u : ℕ) → In (j, u) t.held → j < k)
  CanAct b (tick from tag writes) t =
      IsReading t × (from ≡ t.next_from) × (from < b.last) × (t.ticks < MOST_TICKS)
      × MayWrite lk b.size t.held writes × lawful tag t.reads writes
  CanAct b (validate k) t = (t.phase ≡ running) × (0 < t.wv) × IsNext lk k t.reads t.passed
  CanAct b (put a x) t = (t.phase ≡ committed) × In (a, x) t.writes × Holds t.held (lk a) × (In a t.stored → ⊥)
  CanAct b (release k) t =
      (t.phase ≡ committed) × Holds t.held k
      × ((a : ℕ) → lk a ≡ k → writes_to t.writes a ≡ true → In a t.stored)
  CanAct b (give_back k) t = ((t.phase ≡ running) ⊎ (t.phase ≡ ending)) × Holds t.held k
  CanAct b (finish tag) t = IsReading t × (t.held ≡ []) × lawful tag t.reads []

  -- the condition under which an event is allowed
  abbrev pub CanPlay : Event → Core → Type 0
  CanPlay (acts k e) c = IsOut c k × CanAct (bounds_of c) e (client_of c k).attempt
  CanPlay (splits k) c =
      IsOut c k × ((client_of c k).attempt.held ≡ []) × (0 < (client_of c k).grants)
  CanPlay (gathers k j) c =
      IsOut c k × IsOut c j × (k ≢ j) × ((client_of c k).attempt.held ≡ []) × ((client_of c j).attempt.held ≡ [])
  CanPlay (renews k last) c =
      IsOut c k × ((client_of c k).attempt.held ≡ []) × IsAlone c (k - 1) × (1 ≤ last) × (last < VERSION_LIMIT)
      × (c.renewal < MOST_RENEWALS)

-- the test is true exactly if the statement holds
pub record Decides (b : Bool) (P : Type 0) : Type 0 where
  pub sound : b ≡ true → P
  pub complete : P → b ≡ true

pub through : {P Q : Type 0} {b : Bool} → (P → Q) → (Q → P) → Decides b P → Decides b Q
through f g d = record { sound = λ h. f (d.sound h); complete = λ q. d.complete (g q) }

-- both of two tests, all of three and more
pub and2 : {a b : Bool} {A B : Type 0} → Decides a A → Decides b B → Decides (a && b) (A × B)
and2 {a = a} {b = b} d e = record {
  sound = λ h. (d.sound (left a b h), e.sound (right a b h));
  complete = λ p. both a b (d.complete p.0) (e.complete p.1);
}
  where
    left : (a b : Bool) → (a && b) ≡ true → a ≡ true
    left true b h = refl
    left false b h = h

    right : (a b : Bool) → (a && b) ≡ true → b ≡ true
    right true b h = h
    right false b h = clash h refl

    both : (a b : Bool) → a ≡ true → b ≡ true → (a && b) ≡ true
    both true b p q = q
    both false b p q = p

pub and3 : {a b c : Bool} {A B C : Type 0} → Decides a A → Decides b B → Decides c C → Decides (a && b && c) (A × B × C)
and3 d e f = through (λ p. (p.0.0, p.0.1, p.1)) (λ p. ((p.0, p.1), p.2)) (and2 (and2 d e) f)

pub and4 : {a b c d : Bool} {A B C D : Type 0} → Decides a A → Decides b B → Decides c C → Decides d D →
    Decides (a && b && c && d) (A × B × C × D)
and4 d e f g = through (λ p. (p.0.0, p.0.1, p.0.2, p.1)) (λ p. ((p.0, p.1, p.2), p.3)) (and2 (and3 d e f) g)

pub and5 : {a b c d e : Bool} {A B C D E : Type 0} → Decides a A → Decides b B → Decides c C → Decides d D →
    Decides e E → Decides (a && b && c && d && e) (A × B × C × D × E)
and5 d e f g h = through (λ p. (p.0.0, p.0.1, p.0.2, p.0.3, p.1)) (λ p. ((p.0, p.1, p.2, p.3), p.4))
    (and2 (and4 d e f g) h)

-- numbers and truth values
pub eq_test : (m n : ℕ) → Decides (m == n) (m ≡ n)
eq_test m n = record { sound = λ h. grind (arith, nat_tests); complete = λ e. grind (arith, nat_tests) }

pub lt_test : (m n : ℕ) → Decides (nat_lt m n) (m < n)
lt_test m n = record { sound = λ h. grind (arith, nat_tests); complete = λ e. grind (arith, nat_tests) }

pub le_test : (m n : ℕ) → Decides (nat_le m n) (m ≤ n)
le_test m n = record { sound = λ h. grind (arith, nat_tests); complete = λ e. grind (arith, nat_tests) }

free_word : (n : ℕ) → Decides (is_free n) (IsFree n)
free_word n = record { sound = λ h. grind (arith, nat_tests); complete = λ e. grind (arith, nat_tests) }

pub false_test : (b : Bool) → Decides (not b) (b ≡ false)
false_test true = record { sound = λ h. sym h; complete = λ e. sym e }
false_test false = record { sound = λ h. refl; complete = λ e. refl }

pub not_test : {b : Bool} {P : Type 0} → Decides b P → Decides (not b) (P → ⊥)
not_test {b = b} d = through (λ e p. clash (d.complete p) e) (λ f. by_bool b (λ t. absurd (f (d.sound t))) (λ e. e))
    (false_test b)

-- lists
module _ {X : Type 0} (p : X → Bool) (P : X → Type 0) (test : (x : X) → Decides (p x) (P x)) where
  pub all_test : (l : List X) → Decides (list_all p l) ((x : X) → In x l → P x)
  all_test [] = record { sound = λ h x i. absurd (nothing_in x i); complete = λ f. refl }
  all_test (y ∷ l) = through
      (λ q x i. ⊎_elim (λ e. subst P e q.0) (λ j. q.1 x j) (in_cons y x l i))
      (λ f. (f y (0, refl), λ x i. f x (suc i.0, i.1))) (and2 (test y) (all_test l))

  pub any_test : (l : List X) → Decides (list_any p l) ((x : X) × In x l × P x)
  any_test [] = record { sound = λ h. clash h refl; complete = λ q. absurd (nothing_in q.0 q.1) }
  any_test (y ∷ l) = record {
    sound = λ h. by_bool (p y) (λ e. (y, (0, refl), (test y).sound e)) (λ e. let q =
        (any_test l).sound (subst (λ b. (b || list_any p l) ≡ true) e h) in (q.0, (suc q.1.0, q.1.1), q.2));
    complete = λ q. ⊎_elim (λ e. rw ((test y).complete (subst P (sym e) q.2)) refl)
        (λ j. or_right (p y) (list_any p l) ((any_test l).complete (q.0, j, q.2))) (in_cons y q.0 l q.1);
  }
    where
      or_right : (a b : Bool) → b ≡ true → (a || b) ≡ true
      or_right true b h = refl
      or_right false b h = h

number_test : (a : ℕ) (l : List ℕ) → Decides (list_any (λ n. n == a) l) (In a l)
number_test a l = through (λ q. subst (λ n. In n l) q.2 q.1) (λ i. (a, i, refl)) (any_test (λ n. n ==
    a) (λ n. n ≡ a) (λ n. eq_test n a) l)

pair_test : (a x : ℕ) (l : List (ℕ × ℕ)) → Decides (list_any (λ p. (p.0 == a) && (p.1 == x)) l) (In (a, x) l)
pair_test a x l = through (λ q. subst (λ y. In y l) (λ i. (q.2.0 i, q.2.1 i)) q.1) (λ i. ((a, x), i, (refl, refl)))
    (any_test (λ p. (p.0 == a) && (p.1 == x)) (λ p. (p.0 ≡ a) × (p.1 ≡ x))
    (λ p. and2 (eq_test p.0 a) (eq_test p.1 x)) l)

pub empty_test : (l : List (ℕ × ℕ)) → Decides (is_empty l) (l ≡ [])
empty_test [] = record { sound = λ h. refl; complete = λ e. refl }
empty_test (x ∷ l) = record { sound = λ h. clash h refl; complete = λ e. ap is_empty e }

held_test : (l : List (ℕ × ℕ)) (k : ℕ) → Decides (writes_to l k) (Holds l k)
held_test l k = record { sound = λ h. (old_version l k, old_in l k h); complete = λ h. held_has l k h.0 h.1 }

next_test : (lk : ℕ → ℕ) (k : ℕ) (l : List (ℕ × ℕ)) (n : ℕ) → Decides (is_next lk k l n) (IsNext lk k l n)
next_test lk k [] n = record { sound = λ h. clash h refl; complete = λ q. absurd (some-ne-none (q.0, q.1) (sym q.2)) }
next_test lk k (p ∷ l) zero = through (λ e. (p.0, p.1, refl, e))
    (λ q. subst (λ (y : ℕ × ℕ). lk y.0 ≡ k) (sym (some-injective p (q.0, q.1) q.2)) q.3) (eq_test (lk p.0) k)
next_test lk k (p ∷ l) (suc n) = next_test lk k l n

-- a client's phase and last step
running_test : (p : Phase) → Decides (is_running p) (p ≡ running)
running_test running = record { sound = λ h. refl; complete = λ e. refl }
running_test _ = record { sound = λ h. clash h refl; complete = λ e. ap is_running e }

committed_test : (p : Phase) → Decides (is_committed p) (p ≡ committed)
committed_test committed = record { sound = λ h. refl; complete = λ e. refl }
committed_test _ = record { sound = λ h. clash h refl; complete = λ e. ap is_committed e }

end_test : (p : Phase) → Decides (may_end p) ((p ≡ running) ⊎ (p ≡ ending))
end_test running = record { sound = λ h. inl refl; complete = λ e. refl }
end_test ending = record { sound = λ h. inr refl; complete = λ e. refl }
end_test _ = record { sound = λ h. clash h refl; complete = ⊎_elim (λ e. ap may_end e) (λ e. ap may_end e) }

reading_test : (t : Attempt) → Decides (is_reading t) (IsReading t)
reading_test t = and2 (running_test t.phase) (eq_test t.wv 0)

free_test : (k : ℕ) (l : Step) → Decides (has_found_free k l) (HasFoundFree k l)
free_test k l = record {
  sound = from l;
  complete = λ q. subst (λ z. has_found_free k z ≡ true) (sym q.1)
      ((and2 (eq_test k k) (free_word q.0)).complete (refl, q.2));
}
  where
    from : (l : Step) → has_found_free k l ≡ true → HasFoundFree k l
    from (probed j n) h = let p = (and2 (eq_test j k) (free_word n)).sound h in (n, ap (λ z. probed z n) p.0, p.1)
    from _ h = clash h refl

probed_test : (k rv : ℕ) (l : Step) → Decides (has_probed k rv l) (HasProbed k rv l)
probed_test k rv l = record {
  sound = from l;
  complete = λ q. subst (λ z. has_probed k rv z ≡ true) (sym q.1)
      ((and3 (eq_test k k) (free_word q.0) (le_test (version_of q.0) rv)).complete (refl, q.2, q.3));
}
  where
    from : (l : Step) → has_probed k rv l ≡ true → HasProbed k rv l
    from (probed j n) h = let p = (and3 (eq_test j k) (free_word n) (le_test (version_of n) rv)).sound h in
        (n, ap (λ z. probed z n) p.0, p.1, p.2)
    from _ h = clash h refl

fetched_test : (a rv : ℕ) (l : Step) → Decides (has_fetched a rv l) (HasFetched a rv l)
fetched_test a rv l = record {
  sound = from l;
  complete = λ q. subst (λ z. has_fetched a rv z ≡ true) (sym q.2)
      ((and3 (eq_test a a) (free_word q.0) (le_test (version_of q.0) rv)).complete (refl, q.3, q.4));
}
  where
    from : (l : Step) → has_fetched a rv l ≡ true → HasFetched a rv l
    from (fetched b n x) h = let p = (and3 (eq_test b a) (free_word n) (le_test (version_of n) rv)).sound h in
        (n, x, ap (λ z. fetched z n x) p.0, p.1, p.2)
    from _ h = clash h refl

pub bool_test : (b : Bool) → Decides b (b ≡ true)
bool_test b = record { sound = λ h. h; complete = λ h. h }

module _ (lk : ℕ → ℕ) where
  pub write_test : (size : ℕ) (held writes : List (ℕ × ℕ)) →
      Decides (may_write lk size held writes) (MayWrite lk size held writes)
  write_test size held writes = through
      (λ q. record {
        some = q.0;
        once = q.1;
        inside = λ a t. q.2 (a, old_version writes a) (old_in writes a t);
        locks = record {
          every = λ a t. q.3 (a, old_version writes a) (old_in writes a t);
          only = λ k u i. let y = q.4 (k, u) i in (y.0.0, held_has writes y.0.0 y.0.1 y.1, y.2);
        };
      })
      (λ m. (
        m.some,
        m.once,
        λ x i. m.inside x.0 (held_has writes x.0 x.1 i),
        λ x i. m.locks.every x.0 (held_has writes x.0 x.1 i),
        λ x i. let q = m.locks.only x.0 x.1 i in ((q.0, old_version writes q.0), old_in writes q.0 q.1, q.2),
      ))
      (and5 (not_test (empty_test writes)) (bool_test (is_map writes))
      (all_test (λ p. nat_lt p.0 size) (λ p. p.0 < size) (λ p. lt_test p.0 size) writes)
      (all_test (λ p. writes_to held (lk p.0)) (λ p. Holds held (lk p.0)) (λ p. held_test held (lk p.0)) writes)
      (all_test (λ q. list_any (λ p. lk p.0 == q.0) writes) (λ q. (x : ℕ × ℕ) × In x writes × (lk x.0 ≡ q.0))
      (λ q. any_test (λ p. lk p.0 == q.0) (λ p. lk p.0 ≡ q.0) (λ p. eq_test (lk p.0) q.0) writes) held))

  stored_test : (k : ℕ) (stored : List ℕ) (writes : List (ℕ × ℕ)) →
      Decides (are_stored lk k stored writes) ((a : ℕ) → lk a ≡ k → writes_to writes a ≡ true → In a stored)
  stored_test k stored writes = through
      (λ f a e t. f (a, old_version writes a) (old_in writes a t) e)
      (λ f x i e. f x.0 e (held_has writes x.0 x.1 i))
      (all_test (λ p. not (lk p.0 == k) || list_any (λ n. n == p.0) stored) (λ p. lk p.0 ≡ k →
      In p.0 stored) (λ p. one (eq_test (lk p.0) k) (number_test p.0 stored)) writes)
    where
      one : {b c : Bool} {P Q : Type 0} → Decides b P → Decides c Q → Decides (not b || c) (P → Q)
      one {b = b} {c = c} d e = record {
        sound = λ h p. e.sound (subst (λ y. (not y || c) ≡ true) (d.complete p) h);
        complete = λ f. by_bool b (λ t. rw (t, e.complete (f (d.sound t))) refl) (λ n. rw n refl);
      }

  -- the test of a step decides its condition
  act_test : (b : Bounds) (t : Attempt) (e : Action) → Decides (may_act lk b e t) (CanAct free_law lk b e t)
  act_test b t begin = empty_test t.held
  act_test b t (probe k) = and2 (reading_test t) (lt_test k b.stripes)
  act_test b t (fetch a) = and4 (reading_test t) (lt_test a b.size) (empty_test t.held) (probed_test (lk a) t.rv t.last)
  act_test b t (check a) = and4 (reading_test t) (lt_test a b.size) (empty_test t.held) (fetched_test a t.rv t.last)
  act_test b t (lock k) = and4 (reading_test t) (lt_test k b.stripes) (free_test k t.last)
      (through (λ f j u i. f (j, u) i) (λ f x i. f x.0 x.1 i)
      (all_test (λ p. nat_lt p.0 k) (λ p. p.0 < k) (λ p. lt_test p.0 k) t.held))
  act_test b t (tick from tag writes) = through (λ p. (p.0, p.1, p.2, p.3, p.4, tt)) (λ p. (p.0, p.1, p.2, p.3, p.4))
      (and5 (reading_test t) (eq_test from t.next_from) (lt_test from b.last) (lt_test t.ticks MOST_TICKS)
      (write_test b.size t.held writes))
  act_test b t (validate k) = and3 (running_test t.phase) (lt_test 0 t.wv) (next_test lk k t.reads t.passed)
  act_test b t (put a x) = and4 (committed_test t.phase) (pair_test a x t.writes) (held_test t.held (lk a))
      (not_test (number_test a t.stored))
  act_test b t (release k) = and3 (committed_test t.phase) (held_test t.held k) (stored_test k t.stored t.writes)
  act_test b t (give_back k) = and2 (end_test t.phase) (held_test t.held k)
  act_test b t (finish tag) = through (λ p. (p.0, p.1, tt)) (λ p. (p.0, p.1))
      (and2 (reading_test t) (empty_test t.held))

  module _ (lawful : RecordLaw) (b : Bounds) (t : Attempt) where
    pub can_act : (e : Action) → MayAct lawful lk b e t → CanAct lawful lk b e t
    can_act (tick from tag writes) h = let p = (act_test b t (tick from tag writes)).sound h.0 in
        (p.0, p.1, p.2, p.3, p.4, h.1)
    can_act (finish tag) h = let p = (act_test b t (finish tag)).sound h.0 in (p.0, p.1, h.1)
    can_act e h = (act_test b t e).sound h.0

    pub may_act_so : (e : Action) → CanAct lawful lk b e t → MayAct lawful lk b e t
    may_act_so (tick from tag writes) m = (
      (act_test b t (tick from tag writes)).complete (m.0, m.1, m.2, m.3, m.4, tt),
      m.5,
    )
    may_act_so (finish tag) m = ((act_test b t (finish tag)).complete (m.0, m.1, tt), m.2)
    may_act_so e m = ((act_test b t e).complete m, tt)

all_gathered : (l : List Client) → are_gathered l ≡ true → (j : ℕ) (w : Client) → get_elem? l j ≡ some w →
    w.is_gathered ≡ true
all_gathered [] h j w e = absurd (nothing_in w (j, e))
all_gathered (v ∷ vs) h zero w e = let q = (and2 (bool_test v.is_gathered) (bool_test (are_gathered vs))).sound h in
    subst (λ (z : Client). z.is_gathered ≡ true) (some-injective v w e) q.0
all_gathered (v ∷ vs) h (suc j) w e = let q = (and2 (bool_test v.is_gathered) (bool_test (are_gathered vs))).sound h in
    all_gathered vs q.1 j w e

others_alone : (l : List Client) (i : ℕ) → others_gathered l i ≡ true → (j : ℕ) (w : Client) → get_elem? l j ≡ some w →
    j ≢ i → w.is_gathered ≡ true
others_alone [] i h j w e n = absurd (nothing_in w (j, e))
others_alone (v ∷ vs) zero h zero w e n = absurd (n refl)
others_alone (v ∷ vs) zero h (suc j) w e n = all_gathered vs h j w e
others_alone (v ∷ vs) (suc i) h zero w e n = let q = (and2 (bool_test v.is_gathered)
    (bool_test (others_gathered vs i))).sound h in subst (λ (z : Client). z.is_gathered ≡ true)
    (some-injective v w e) q.0
others_alone (v ∷ vs) (suc i) h (suc j) w e n = let q = (and2 (bool_test v.is_gathered)
    (bool_test (others_gathered vs i))).sound h in others_alone vs i q.1 j w e (λ z. n (ap suc z))

at_of : (l : List Client) (i : ℕ) → i < length l → get_elem? l i ≡ some (get_or l i gone)
at_of [] i h = absurd (omega arith)
at_of (x ∷ l) zero h = refl
at_of (x ∷ l) (suc i) h = at_of l i (omega arith)

pub out_test : (c : Core) (k : ℕ) → Decides (is_out c k) (IsOut c k)
out_test c k = through (λ q. (q.0, at_of c.clients (k - 1) q.1, q.2))
    (λ q. (q.0, in_range c.clients (k - 1) (client_of c k) q.1, q.2))
    (and3 (lt_test 0 k) (lt_test (k - 1) (length c.clients)) (false_test (client_of c k).is_gathered))

module _ (lawful : RecordLaw) (lk : ℕ → ℕ) where
  pub can_play : (e : Event) (c : Core) → Allowed lawful lk e c → CanPlay lawful lk e c
  can_play (acts k e) c h =
      let p = (and2 (out_test c k) (bool_test (may_act lk (bounds_of c) e (client_of c k).attempt))).sound h.0 in
      (p.0, can_act lk lawful (bounds_of c) (client_of c k).attempt e (p.1, h.1))
  can_play (splits k) c h =
      (and3 (out_test c k) (empty_test (client_of c k).attempt.held) (lt_test 0 (client_of c k).grants)).sound h.0
  can_play (gathers k j) c h =
      (and5 (out_test c k) (out_test c j) (not_test (eq_test k j)) (empty_test (client_of c k).attempt.held)
      (empty_test (client_of c j).attempt.held)).sound h.0
  can_play (renews k last) c h =
      let p = (and2 (and5 (out_test c k) (empty_test (client_of c k).attempt.held)
      (bool_test (others_gathered c.clients (k - 1))) (le_test 1 last) (lt_test last VERSION_LIMIT))
      (lt_test c.renewal MOST_RENEWALS)).sound h.0 in
      (p.0.0, p.0.1, others_alone c.clients (k - 1) p.0.2, p.0.3, p.0.4, p.1)

-- every record is lawful for the law that allows all
pub free_act : (e : Action) (t : Attempt) → IsLawful free_law e t
free_act begin t = tt
free_act _ t = tt

pub free_event : (e : Event) (c : Core) → MakesLawful free_law e c
free_event (acts k e) c = free_act e (client_of c k).attempt
free_event _ c = tt
