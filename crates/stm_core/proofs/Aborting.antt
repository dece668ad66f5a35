-- The aborted attempts of clients: each event keeps them, and every attempt of an earlier renewal
-- has read one version.
use Rattle.std.proofs.Common.{◌≡◌, ◌≢◌, ℕ, suc, ◌+◌, ◌<◌, ⊎_elim, true, false, cond, eqb, ltb}
use Rattle.std.proofs.Common.{leb, List, [], ◌∷◌, ◌++◌, length, set, refl, sym, ap, ◌∙◌, subst, arith}
use Rattle.std.proofs.lemmas.Bool.Decides.{nat_tests}
use Rattle.tx_memory.specs.Image.{In, Agrees, laid}
use Rattle.stm_core.specs.Client.{Client, Record, Aborted, Stamp, RecordLaw, is_settled, given_up, all_aborted}
use Rattle.stm_core.specs.Client.{validated, ticked, checked, locked, word_before, value_fetched, version_of, writes_to}
use Rattle.stm_core.specs.Event.{Action, begin, probe, fetch, check, lock, tick, validate, put, release, give_back}
use Rattle.stm_core.specs.Event.{finish, Bounds, after, giving, fresh, taking, renewing, gone, committed_by, stepping}
use Rattle.stm_core.specs.Event.{failing, read_too, holding, versioned, decides_at_once, won, passes, passing}
use Rattle.stm_core.specs.Event.{counting, marking, with_ticks}
use Rattle.stm_core.specs.Version.{At}
use Rattle.stm_core.specs.History.{image_after, image_at, image_upto, is_upto}
use Rattle.stm_core.specs.Invariant.{KeepsAborted}
use Rattle.stm_core.proofs.Lists.{at_set, at_snoc, clash, nothing_in}
use Rattle.stm_core.proofs.Eras.{AllOf, AllBefore, in_append}
use Rattle.stm_core.proofs.Loading.{given_cases}
use Rattle.stm_core.proofs.Steps.{by_case}
use Rattle.stm_core.proofs.Conditions.{CanAct}

upto_later : (m : List ℕ) (n u : ℕ) (l : List Record) → ((r : Record) → In r l → n < r.renewal) →
    image_upto m n u l ≡ m
upto_later m n u [] f = refl
upto_later m n u (r ∷ l) f =
    let k = f r (0, refl) in
    let a : ltb r.renewal n ≡ false = grind (arith, nat_tests) in
    let b : eqb r.renewal n ≡ false = grind (arith, nat_tests) in
    let no : is_upto n u r ≡ false = rw (a, b) refl in
    ap (λ z. image_upto (cond z (laid m r.writes) m) n u l) no
    ∙ upto_later m n u l (λ x i. f x (suc i.0, i.1))

pub upto_append : (m : List ℕ) (n u : ℕ) (l k : List Record) →
    image_upto m n u (l ++ k) ≡ image_upto (image_upto m n u l) n u k
upto_append m n u [] k = refl
upto_append m n u (r ∷ l) k = upto_append (cond (is_upto n u r) (laid m r.writes) m) n u l k

pub upto_before : (m : List ℕ) (n u : ℕ) (l : List Record) → AllBefore n l → image_upto m n u l ≡ image_after m l
upto_before m n u [] f = refl
upto_before m n u (r ∷ l) f =
    let k = f r (0, refl) in
    let a : ltb r.renewal n ≡ true = grind (arith, nat_tests) in
    let yes : is_upto n u r ≡ true = rw a refl in
    ap (λ z. image_upto (cond z (laid m r.writes) m) n u l) yes
    ∙ upto_before (laid m r.writes) n u l (λ x i. f x (suc i.0, i.1))

pub upto_now : (m : List ℕ) (n u : ℕ) (l : List Record) → AllOf n l → image_upto m n u l ≡ image_at m u l
upto_now m n u [] f = refl
upto_now m n u (r ∷ l) f =
    let k = f r (0, refl) in
    let a : ltb r.renewal n ≡ false = grind (arith, nat_tests) in
    let b : eqb r.renewal n ≡ true = grind (arith, nat_tests) in
    let same : is_upto n u r ≡ leb r.version u = rw (a, b) refl in
    ap (λ z. image_upto (cond z (laid m r.writes) m) n u l) same
    ∙ upto_now (cond (leb r.version u) (laid m r.writes) m) n u l (λ x i. f x (suc i.0, i.1))

-- the image of a version of the present renewal, by the records of earlier renewals and those of
-- the present one
pub upto_both : (m : List ℕ) (n u : ℕ) (l k : List Record) → AllBefore n l → AllOf n k →
    image_upto m n u (l ++ k) ≡ image_at (image_after m l) u k
upto_both m n u l k f g = upto_append m n u l k ∙ (ap (λ z. image_upto z n u k) (upto_before m n u l f)
    ∙ upto_now (image_after m l) n u k g)

-- later records do not change the image of a version of an earlier renewal
pub upto_stays : (m : List ℕ) (n u : ℕ) (l k : List Record) → ((r : Record) → In r k → n < r.renewal) →
    image_upto m n u (l ++ k) ≡ image_upto m n u l
upto_stays m n u l k f = upto_append m n u l k ∙ upto_later (image_upto m n u l) n u k f

abbrev pub AllAborted : List ℕ → List Record → ℕ → List Client → Type 0
AllAborted first past n cs = (i : ℕ) (v : Client) → At cs i v → KeepsAborted first past n v

module _ (first : List ℕ) (past : List Record) (n : ℕ) where
  -- a client that has aborted nothing
  pub bare_aborted : (v : Client) → is_settled v.attempt.phase ≡ true → v.aborted ≡ [] → v.aborted_before ≡ [] →
      KeepsAborted first past n v
  bare_aborted v settled none none' = record {
    begun = λ e. clash settled e;
    now = λ r m. absurd (nothing_in r (subst (In r) none m));
    before = λ r m. absurd (nothing_in r (subst (In r) none' m));
  }

  pub given_now : (v : Client) → KeepsAborted first past n v → (r : Aborted) → In r (given_up v) → r.renewal ≡ n
  given_now v h r m = ⊎_elim (λ p. h.now r p)
      (λ p. subst (λ (z : Aborted). z.renewal ≡ n) p.1 (h.begun p.0)) (given_cases v r m)

  taking_aborted : (v w : Client) → KeepsAborted first past n v → KeepsAborted first past n w →
      KeepsAborted first past n (taking v w)
  taking_aborted v w h k = record {
    begun = h.begun;
    now = λ r m. ⊎_elim (λ p. h.now r p) (λ p. given_now w k r p) (in_append v.aborted (given_up w) r m);
    before = λ r m. ⊎_elim (λ p. h.before r p) (λ p. k.before r p) (in_append v.aborted_before w.aborted_before r m);
  }

  -- a step that begins nothing
  on_with : (v w : Client) → KeepsAborted first past n v →
      (is_settled w.attempt.phase ≡ false → w.attempt.renewal ≡ n) → w.aborted ≡ v.aborted →
      w.aborted_before ≡ v.aborted_before → KeepsAborted first past n w
  on_with v w h begun now before = record {
    begun = begun;
    now = λ r m. h.now r (subst (In r) now m);
    before = λ r m. h.before r (subst (In r) before m);
  }

  module _ (lawful : RecordLaw) (lk : ℕ → ℕ) (b : Bounds) (t : Stamp) (era : t.renewal ≡ n) (word : ℕ) (v : Client)
      (h : KeepsAborted first past n v) where
    after_aborted : (e : Action) → CanAct lawful lk b e v.attempt → KeepsAborted first past n (after t lk e word v)
    after_aborted begin may = record {
      begun = λ _. era;
      now = λ r m. given_now v h r m;
      before = h.before;
    }
    after_aborted (check a) may =
        by_case (λ x. KeepsAborted first past n (stepping (checked a (word_before v.attempt.last) word)
        (cond x (read_too a (value_fetched v.attempt.last) v) (failing v)))) (eqb word (word_before v.attempt.last))
        (λ _. on_with v _ h (λ _. h.begun (ap is_settled may.0.0)) refl refl)
        (λ _. on_with v _ h (λ _. h.begun (ap is_settled may.0.0)) refl refl)
    after_aborted (lock k) may =
        by_case (λ x. KeepsAborted first past n (stepping (locked k (word_before v.attempt.last) word)
        (cond x (holding k (version_of word) v) (failing v)))) (eqb word (word_before v.attempt.last))
        (λ _. on_with v _ h (λ _. h.begun (ap is_settled may.0.0)) refl refl)
        (λ _. on_with v _ h (λ _. h.begun (ap is_settled may.0.0)) refl refl)
    after_aborted (tick f g w) may =
        let w0 : Client = versioned t (f + 1) g w v in
        by_case (λ x. KeepsAborted first past n (with_ticks (v.attempt.ticks + 1) word
        (stepping (ticked f word) (cond x (won t (f + 1) g w v) v)))) (eqb word f)
        (λ _. by_case (λ x. KeepsAborted first past n (with_ticks (v.attempt.ticks + 1) word
        (stepping (ticked f word) (cond x (committed_by t w0) w0)))) (decides_at_once w0)
        (λ _. on_with v _ h (λ _. h.begun (ap is_settled may.0.0)) refl refl)
        (λ _. on_with v _ h (λ _. h.begun (ap is_settled may.0.0)) refl refl))
        (λ _. on_with v _ h (λ _. h.begun (ap is_settled may.0.0)) refl refl)
    after_aborted (validate k) may =
        let w0 : Client = counting v in
        by_case (λ x. KeepsAborted first past n (marking (writes_to v.attempt.held k)
        (stepping (validated k word) (cond x (passing t v) (failing v))))) (passes k word v)
        (λ _. by_case (λ x. KeepsAborted first past n (marking (writes_to v.attempt.held k)
        (stepping (validated k word) (cond x (committed_by t w0) w0))))
        (eqb w0.attempt.passed (length v.attempt.reads))
        (λ _. on_with v _ h (λ _. h.begun (ap is_settled may.0)) refl refl)
        (λ _. on_with v _ h (λ _. h.begun (ap is_settled may.0)) refl refl))
        (λ _. on_with v _ h (λ _. h.begun (ap is_settled may.0)) refl refl)
    after_aborted (probe k) may = on_with v _ h (λ e. h.begun e) refl refl
    after_aborted (fetch a) may = on_with v _ h (λ e. h.begun e) refl refl
    after_aborted (put a x) may = on_with v _ h (λ e. h.begun e) refl refl
    after_aborted (release k) may = on_with v _ h (λ e. h.begun e) refl refl
    after_aborted (give_back k) may = on_with v _ h
        (λ _. ⊎_elim (λ e. h.begun (ap is_settled e)) (λ e. h.begun (ap is_settled e)) may.0) refl refl
    after_aborted (finish tag) may = on_with v _ h (λ _. h.begun (ap is_settled may.0.0)) refl refl

  module _ (cs : List Client) (h : AllAborted first past n cs) (i : ℕ) (v : Client) (at : At cs i v) where
    pub act_aborted : (lawful : RecordLaw) (lk : ℕ → ℕ) (b : Bounds) (t : Stamp) (e : Action) (word : ℕ) →
        t.renewal ≡ n → CanAct lawful lk b e v.attempt → AllAborted first past n (set cs i (after t lk e word v))
    act_aborted lawful lk b t e word era may j o f =
        ⊎_elim (λ p. subst (λ y. KeepsAborted first past n y) p.1
        (after_aborted lawful lk b t era word v (h i v at) e may)) (λ p. h j o p.1)
        (at_set cs i j (after t lk e word v) o f)

    pub split_aborted : AllAborted first past n (set cs i (giving v) ++ fresh v ∷ [])
    split_aborted j o f = ⊎_elim
        (λ p. ⊎_elim (λ q. subst (λ y. KeepsAborted first past n y) q.1
        (on_with v (giving v) (h i v at) (λ e. (h i v at).begun e) refl refl))
        (λ q. h j o q.1) (at_set cs i j (giving v) o p))
        (λ p. subst (λ y. KeepsAborted first past n y) p (bare_aborted (fresh v) refl refl refl))
        (at_snoc (set cs i (giving v)) (fresh v) o j f)

    pub gather_aborted : (j : ℕ) (w : Client) → At cs j w →
        AllAborted first past n (set (set cs i (taking v w)) j gone)
    gather_aborted j w to m o f = ⊎_elim
        (λ p. subst (λ y. KeepsAborted first past n y) p.1 (bare_aborted gone refl refl refl))
        (λ p. ⊎_elim (λ q. subst (λ y. KeepsAborted first past n y) q.1
        (taking_aborted v w (h i v at) (h j w to))) (λ q. h m o q.1) (at_set cs i m (taking v w) o p.1))
        (at_set (set cs i (taking v w)) j m gone o f)

-- a renewal of the clock: the attempts of the present renewal have read images of their versions
module _ (first : List ℕ) (old new : List Record) (n : ℕ) (v : Client) (h : KeepsAborted first old n v)
    (before : AllBefore n old) (now : AllOf n new)
    (agrees : (r : Aborted) → In r (given_up v) → Agrees (image_at (image_after first old) r.version new) r.reads) where
  -- all aborted attempts have read images of the history
  pub all_agree : (r : Aborted) → In r (all_aborted v) →
      (r.renewal < n + 1) × Agrees (image_upto first r.renewal r.version (old ++ new)) r.reads
  all_agree r m = ⊎_elim
      (λ p. let q = h.before r p in (
        (let l = q.0 in omega arith),
        subst (λ z. Agrees z r.reads) (sym (upto_stays first r.renewal r.version old new
            (λ x k. (let l = q.0 in let e = now x k in omega arith)))) q.1,
      ))
      (λ p. let e = given_now first old n v h r p in (
        omega (arith, e),
        subst (λ z. Agrees z r.reads) (sym (ap (λ z. image_upto first z r.version (old ++ new)) e
            ∙ upto_both first n r.version old new before now)) (agrees r p),
      ))
      (in_append v.aborted_before (given_up v) r m)

  renewing_aborted : KeepsAborted first (old ++ new) (n + 1) (renewing v)
  renewing_aborted = record {
    begun = λ e. clash refl e;
    now = λ r m. absurd (nothing_in r m);
    before = λ r m. all_agree r m;
  }

  pub renew_aborted : (cs : List Client) (i : ℕ) →
      ((j : ℕ) (o : Client) → At cs j o → j ≢ i → o ≡ gone) →
      AllAborted first (old ++ new) (n + 1) (set cs i (renewing v))
  renew_aborted cs i is_gone j o f = ⊎_elim
      (λ p. subst (λ y. KeepsAborted first (old ++ new) (n + 1) y) p.1 renewing_aborted)
      (λ p. subst (λ y. KeepsAborted first (old ++ new) (n + 1) y) (sym (is_gone j o p.1 p.0))
      (bare_aborted first (old ++ new) (n + 1) gone refl refl refl)) (at_set cs i j (renewing v) o f)
