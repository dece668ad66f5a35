-- The whole invariant, event by event: each step within one renewal keeps it, beside the records
-- of earlier renewals.
use Rattle.std.proofs.Common.{◌≡◌, ◌≢◌, ℕ, suc, ◌+◌, ◌<◌, ⊎_elim, Bool, true, false, cond, eqb, List, [], ◌∷◌, ◌++◌}
use Rattle.std.proofs.Common.{length, length-set, map, set, refl, sym, ap, ◌∙◌, subst, arith}
use Rattle.std.proofs.lemmas.Bool.Decides.{nat_tests}
use Rattle.std.proofs.lemmas.List.{map-set}
use Rattle.tx_memory.specs.Image.{In}
use Rattle.stm_core.specs.Client.{Client, Record, Stamp, of_renewal, shed, validated, ticked, checked, locked}
use Rattle.stm_core.specs.Client.{word_before, value_fetched, version_of, RecordLaw}
use Rattle.stm_core.specs.Event.{Action, begin, check, lock, tick, validate, committed_by, stepping, failing, read_too}
use Rattle.stm_core.specs.Event.{holding, versioned, decides_at_once, won, passes, passing, after, counting}
use Rattle.stm_core.specs.Core.{Core, bounds_of, found, stepped}
use Rattle.stm_core.specs.Version.{At}
use Rattle.stm_core.specs.Invariant.{Inv, now, Past, Rule}
use Rattle.stm_core.proofs.Lists.{at_set, set_here, clash, nothing_in}
use Rattle.stm_core.proofs.Eras.{AllOf, AllBefore, of_is, of_padded, pad, shed_pad, after_pad}
use Rattle.stm_core.proofs.Aborting.{AllAborted, act_aborted}
use Rattle.stm_core.proofs.Lones.{at_map, act_lone}
use Rattle.stm_core.proofs.Knowing.{act_known}
use Rattle.stm_core.proofs.Steps.{by_case, step_keeps}
use Rattle.stm_core.proofs.Conditions.{CanAct}

-- the core with other clients
abbrev with_clients : Core → List Client → Core
with_clients c cs = record c { clients = cs }

renewal_stays : (t : Stamp) (lk : ℕ → ℕ) (e : Action) (i : ℕ) (v : Client) (c : Core) →
    (stepped t lk e i v c).renewal ≡ c.renewal
renewal_stays t lk begin i v c = refl
renewal_stays t lk _ i v c = refl

clients_stay : (t : Stamp) (lk : ℕ → ℕ) (e : Action) (i : ℕ) (v : Client) (c : Core) →
    (stepped t lk e i v c).clients ≡ set c.clients i (after t lk e (found lk c e) v)
clients_stay t lk begin i v c = refl
clients_stay t lk _ i v c = refl

-- a step does not look at the records
pub may_shed : (lawful : RecordLaw) (lk : ℕ → ℕ) (c : Core) (e : Action) (v : Client) →
    CanAct lawful lk (bounds_of c) e v.attempt → CanAct lawful lk (bounds_of (now c)) e (shed c.renewal v).attempt
may_shed lawful lk c begin v m = m
may_shed lawful lk c _ v m = m

after_gathered : (t : Stamp) (lk : ℕ → ℕ) (e : Action) (n : ℕ) (v : Client) →
    (after t lk e n v).is_gathered ≡ v.is_gathered
after_gathered t lk (check a) n v = by_case (λ b. (stepping (checked a (word_before v.attempt.last) n)
    (cond b (read_too a (value_fetched v.attempt.last) v) (failing v))).is_gathered ≡ v.is_gathered)
    (eqb n (word_before v.attempt.last)) (λ _. refl) (λ _. refl)
after_gathered t lk (lock k) n v = by_case (λ b. (stepping (locked k (word_before v.attempt.last) n)
    (cond b (holding k (version_of n) v) (failing v))).is_gathered ≡ v.is_gathered) (eqb n (word_before v.attempt.last))
    (λ _. refl) (λ _. refl)
after_gathered t lk (tick f g w) n v =
    let w0 : Client = versioned t (f + 1) g w v in
    by_case (λ b. (stepping (ticked f n) (cond b (won t (f + 1) g w v) v)).is_gathered ≡ v.is_gathered) (eqb n f)
    (λ _. by_case (λ b. (stepping (ticked f n) (cond b (committed_by t w0) w0)).is_gathered ≡ v.is_gathered)
    (decides_at_once w0) (λ _. refl) (λ _. refl)) (λ _. refl)
after_gathered t lk (validate k) n v =
    let w0 : Client = counting v in
    by_case (λ b. (stepping (validated k n) (cond b (passing t v) (failing v))).is_gathered ≡ v.is_gathered)
    (passes k n v) (λ _. by_case (λ b. (stepping (validated k n) (cond b (committed_by t w0) w0)).is_gathered ≡
    v.is_gathered) (eqb w0.attempt.passed (length v.attempt.reads)) (λ _. refl) (λ _. refl)) (λ _. refl)
after_gathered t lk _ n v = refl

cond_in : {A : Type 0} (P : A → Type 0) (b : Bool) (l : List A) → ((x : A) → In x l → P x) → (x : A) →
    In x (cond b l []) → P x
cond_in P true l f x i = f x i
cond_in P false l f x i = absurd (nothing_in x i)

pub map_append : {A B : Type 0} (f : A → B) (l m : List A) → map f (l ++ m) ≡ map f l ++ map f m
map_append f [] m = refl
map_append f (x ∷ l) m = ap (λ k. f x ∷ k) (map_append f l m)

pub map_length : {A B : Type 0} (f : A → B) (l : List A) → length (map f l) ≡ length l
map_length f [] = refl
map_length f (x ∷ l) = ap suc (map_length f l)

pub eqb_no : (m n : ℕ) → m ≢ n → eqb m n ≡ false
eqb_no m n e = grind (arith, nat_tests)

pub eqb_yes : (m n : ℕ) → m ≡ n → eqb m n ≡ true
eqb_yes m n e = grind (arith, nat_tests)

module _ (lawful : RecordLaw) (lk : ℕ → ℕ) (c : Core) (h : Rule lawful lk c) where
  -- the earlier records that belong to the client at an index
  abbrev pub pre : ℕ → List Record
  pre i = cond (eqb i h.past.keeper) c.past []

  pub pre_before : (i : ℕ) → AllBefore c.renewal (pre i)
  pre_before i = cond_in (λ (r : Record). r.renewal < c.renewal) (eqb i h.past.keeper) c.past h.past.earlier

  pub own_of : (v : Client) → AllOf c.renewal (of_renewal c.renewal v.records)
  own_of v r m = (of_is c.renewal v.records r m).1

  module _ (i : ℕ) (v : Client) (at : At c.clients i v) (live : v.is_gathered ≡ false) where
    abbrev u : Client
    u = shed c.renewal v

    is_pad : v ≡ pad (pre i) u
    is_pad = ap (λ l. record v { records = l }) (h.past.kept i v at)

    at_now : At (now c).clients i u
    at_now = at_map (shed c.renewal) c.clients i v at

    -- another client at the index, with the same earlier records
    set_now : (w : Client) → AllOf c.renewal w.records → map (shed c.renewal) (set c.clients i (pad (pre i) w)) ≡ set
        (map (shed c.renewal) c.clients) i w
    set_now w f = map-set (shed c.renewal) c.clients i (pad (pre i) w) ∙
        ap (λ z. set (map (shed c.renewal) c.clients) i z) (shed_pad c.renewal (pre i) w (pre_before i) f)

    set_past : (w : Client) → AllOf c.renewal w.records → w.is_gathered ≡ false →
        AllAborted c.first c.past c.renewal (set c.clients i (pad (pre i) w)) →
        Past lawful c.first c.opening c.past c.renewal (set c.clients i (pad (pre i) w))
    set_past w f s aborted = record {
      serial = h.past.serial;
      leads = h.past.leads;
      abides = h.past.abides;
      earlier = h.past.earlier;
      sorted = h.past.sorted;
      keeper = h.past.keeper;
      member = rw (length-set c.clients i (pad (pre i) w)) h.past.member;
      kept = λ j o e. ⊎_elim (λ p. subst (λ (z : Client). z.records ≡ pre j ++ of_renewal c.renewal z.records) p.1
          (subst (λ n. pre i ++ w.records ≡ pre n ++ of_renewal c.renewal (pre i ++ w.records)) (sym p.0)
          (ap (λ l. pre i ++ l) (sym (of_padded c.renewal (pre i) w.records (pre_before i) f)))))
          (λ p. h.past.kept j o p.1) (at_set c.clients i j (pad (pre i) w) o e);
      are_gone = λ j o e y. ⊎_elim (λ p. clash y (sym (ap (λ (z : Client). z.is_gathered) p.1) ∙ s))
          (λ p. h.past.are_gone j o p.1 y) (at_set c.clients i j (pad (pre i) w) o e);
      aborted = aborted;
    }

    module _ (t : Stamp) (era : t.renewal ≡ c.renewal) (e : Action)
        (may : CanAct lawful lk (bounds_of c) e v.attempt) where
      abbrev word : ℕ
      word = found lk c e

      now_keeps : Inv lawful lk (stepped t lk e i u (now c))
      now_keeps = step_keeps lawful lk t (now c) e i u era h.inv at_now (live, may_shed lawful lk c e v may)

      after_is : (n : ℕ) → after t lk e n v ≡ pad (pre i) (after t lk e n u)
      after_is n = ap (λ z. after t lk e n z) is_pad ∙ after_pad t lk e n (pre i) u (λ r m. rw era (pre_before i r m))

      after_of : AllOf c.renewal (after t lk e (found lk (now c) e) u).records
      after_of r m =
          let w : Client = after t lk e (found lk (now c) e) u in
          let here : At (stepped t lk e i u (now c)).clients i w =
          rw (clients_stay t lk e i u (now c)) (set_here (now c).clients i u w at_now) in
          ((now_keeps.filed.filed i w here).told r m).present ∙ renewal_stays t lk e i u (now c)

module _ (lawful : RecordLaw) (lk : ℕ → ℕ) (c : Core) (h : Rule lawful lk c) (i : ℕ) (v : Client)
    (at : At c.clients i v) (live : v.is_gathered ≡ false) (t : Stamp) (era : t.renewal ≡ c.renewal) where
  abbrev v' : Client
  v' = shed c.renewal v

  -- the clients as they are within the present renewal, after a step
  step_clients : (e : Action) → CanAct lawful lk (bounds_of c) e v.attempt → found lk (now c) e ≡ found lk c e →
      map (shed c.renewal) (set c.clients i (after t lk e (found lk c e) v)) ≡ set (map (shed c.renewal) c.clients) i
      (after t lk e (found lk c e) v')
  step_clients e may same =
      ap (λ z. map (shed c.renewal) (set c.clients i z)) (after_is lawful lk c h i v at live t era e may (found lk c e))
      ∙ set_now lawful lk c h i v at live (after t lk e (found lk c e) v')
      (subst (λ n. AllOf c.renewal (after t lk e n v').records) same
      (after_of lawful lk c h i v at live t era e may))

  step_past : (e : Action) → CanAct lawful lk (bounds_of c) e v.attempt → found lk (now c) e ≡ found lk c e →
      Past lawful c.first c.opening c.past c.renewal (set c.clients i (after t lk e (found lk c e) v))
  step_past e may same =
      subst (λ z. Past lawful c.first c.opening c.past c.renewal (set c.clients i z))
      (sym (after_is lawful lk c h i v at live t era e may (found lk c e)))
      (set_past lawful lk c h i v at live (after t lk e (found lk c e) v')
      (subst (λ n. AllOf c.renewal (after t lk e n v').records) same
      (after_of lawful lk c h i v at live t era e may)) (after_gathered t lk e (found lk c e) v' ∙ live)
      (subst (λ z. AllAborted c.first c.past c.renewal (set c.clients i z))
      (after_is lawful lk c h i v at live t era e may (found lk c e))
      (act_aborted c.first c.past c.renewal c.clients h.past.aborted i v at lawful lk (bounds_of c) t e
      (found lk c e) era may)))

  pub now_stepped : (e : Action) → CanAct lawful lk (bounds_of c) e v.attempt →
      now (stepped t lk e i v c) ≡ stepped t lk e i v' (now c)
  now_stepped begin may = ap (with_clients (stepped t lk begin i v' (now c))) (step_clients begin may refl)
  now_stepped e may = ap (with_clients (stepped t lk e i v' (now c))) (step_clients e may refl)

  past_stepped : (e : Action) → CanAct lawful lk (bounds_of c) e v.attempt →
      Past lawful (stepped t lk e i v c).first (stepped t lk e i v c).opening (stepped t lk e i v c).past
      (stepped t lk e i v c).renewal (stepped t lk e i v c).clients
  past_stepped begin may = step_past begin may refl
  past_stepped e may = step_past e may refl

  -- a step of a client keeps the whole invariant
  pub step_rules : (e : Action) → CanAct lawful lk (bounds_of c) e v.attempt → Rule lawful lk (stepped t lk e i v c)
  step_rules e may = record {
    inv = subst (Inv lawful lk) (sym (now_stepped e may)) (now_keeps lawful lk c h i v at live t era e may);
    lone = act_lone lawful lk c h.inv h.lone i v at live t e may;
    known = act_known lk c h.known i v at live t e;
    past = past_stepped e may;
  }
