-- The consequences of the whole invariant for the records of all renewals.
use Rattle.std.proofs.Common.{◌+◌, append_assoc, append-nil, ◌≡◌, ℕ, zero, suc, ◌<◌, ⊎_elim, Bool, true, false, cond}
use Rattle.std.proofs.Common.{eqb, List, [], ◌∷◌, ◌++◌, length, map, refl, sym, ap, ◌∙◌, subst, arith}
use mathlib.Core.Logic.{dite}
use native.Mathlib.Decide.{ℕ_discrete}
use Rattle.std.proofs.lemmas.Bool.Decides.{nat_tests}
use Rattle.tx_memory.specs.Image.{In, Agrees, laid}
use Rattle.stm_core.specs.Client.{Client, Record, Aborted, all_aborted, before, inserted, merged, of_renewal, shed}
use Rattle.stm_core.specs.Client.{RecordLaw, Stamp}
use Rattle.stm_core.specs.Client.{version_of, word_before, value_fetched, checked, locked, ticked, validated}
use Rattle.stm_core.specs.Event.{Action, check, lock, tick, validate, finish, committed_by, stepping, failing, read_too}
use Rattle.stm_core.specs.Event.{holding, versioned, decides_at_once, won, passes, passing, after, taking, counting}
use Rattle.stm_core.specs.Core.{Core, IsFreeHanded}
use Rattle.stm_core.proofs.Steps.{by_case}
use Rattle.stm_core.specs.Version.{At}
use Rattle.stm_core.specs.History.{Serial, image_after, image_upto, Sub, done, keep, skip, all_records, IsShared}
use Rattle.stm_core.specs.Invariant.{now, Sorted, Rule}
use Rattle.stm_core.proofs.Lists.{nothing_in, by_bool, clash, in_snoc}
use Rattle.stm_core.proofs.Orders.{in_cons, in_inserted, in_merged, before_asym, behind}
use Rattle.stm_core.proofs.Merging.{sub_left, sub_last}
use Rattle.stm_core.proofs.Facts.{all_serial, all_lawful, all_shared, others_gathered}
use Rattle.stm_core.proofs.Eras.{AllOf, AllBefore, in_append, of_is, not_before, merged_padded, merged_late}
use Rattle.stm_core.proofs.Lones.{at_map}
use Rattle.stm_core.proofs.Knowing.{its_floor}
use Rattle.stm_core.proofs.Renewals.{pre, pre_before, own_of, eqb_no, eqb_yes}
use Rattle.stm_core.proofs.Renewing.{serial_append, past_serial, past_leads, past_lawful, past_agrees, sorted_of}
use Rattle.stm_core.proofs.Renewing.{sorted_append}
use Rattle.stm_core.proofs.Conditions.{IsAlone}

-- inserting a record keeps a sorted list sorted, and each of two merged sorted lists keeps its
-- order
pub inserted_sorted : (r : Record) (l : List Record) → Sorted l → Sorted (inserted r l)
inserted_sorted r [] o = (λ y i. absurd (nothing_in y i), tt)
inserted_sorted r (x ∷ xs) o = go (before r x) refl (inserted_sorted r xs o.1)
  where
    go : (b : Bool) → before r x ≡ b → Sorted (inserted r xs) → Sorted (cond b (r ∷ x ∷ xs) (x ∷ inserted r xs))
    go true t k = (
      λ y i. ⊎_elim (λ e. subst (λ z. before z r ≡ false) e (before_asym r x t))
          (λ j. behind r x y t (o.0 y j)) (in_cons x y xs i),
      o,
    )
    go false t k = (λ y i. ⊎_elim (λ e. subst (λ z. before z x ≡ false) e t) (λ j. o.0 y j) (in_inserted r xs y i), k)

pub merged_sorted : (l m : List Record) → Sorted l → Sorted (merged l m)
merged_sorted l [] o = o
merged_sorted l (y ∷ m) o = merged_sorted (inserted y l) m (inserted_sorted y l o)

put_all : (p l m : List Record) → Sub p l → Sorted l → Sorted m →
    ((x y : Record) → In x p → In y m → before y x ≡ false) → Sub (p ++ m) (merged l m)
put_all p l [] s o q g = rw (append-nil p) s
put_all p l (y ∷ m) s o q g =
    subst (λ k. Sub k (merged (inserted y l) m)) (append_assoc p (y ∷ []) m)
    (put_all (p ++ y ∷ []) (inserted y l) m (sub_last y s o (λ x i. g x y i (0, refl))) (inserted_sorted y l o) q.1
    (λ x z i j. ⊎_elim (λ k. g x z k (suc j.0, j.1)) (λ e. subst (λ k. before z k ≡ false) e (q.0 z j))
    (in_snoc p y x i)))

-- the second of two merged lists keeps its order if both are sorted; the first always does
pub sorted_right : (l m : List Record) → Sorted l → Sorted m → Sub m (merged l m)
sorted_right l m o q = put_all [] l m done o q (λ x y i. absurd (nothing_in x i))

sub_behind : (l m n : List Record) → Sub m n → Sub m (l ++ n)
sub_behind [] m n s = s
sub_behind (x ∷ l) m n s = skip x (sub_behind l m n s)

sub_append : (l m n : List Record) → Sub m n → Sub (l ++ m) (l ++ n)
sub_append [] m n s = s
sub_append (x ∷ l) m n s = keep x (sub_append l m n s)

all_of_era : (n : ℕ) (cs : List Client) → AllOf n (all_records (map (shed n) cs))
all_of_era n [] r m = absurd (nothing_in r m)
all_of_era n (v ∷ cs) r m = ⊎_elim (λ p. (of_is n v.records r p).1) (λ p. all_of_era n cs r p)
    (in_merged (of_renewal n v.records) (all_records (map (shed n) cs)) r m)

none_kept : (n : ℕ) (cs : List Client) → ((i : ℕ) (v : Client) → At cs i v → v.records ≡ of_renewal n v.records) →
    all_records cs ≡ all_records (map (shed n) cs)
none_kept n [] f = refl
none_kept n (v ∷ cs) f = ap (λ l. merged l (all_records cs)) (f 0 v refl) ∙ ap (merged (of_renewal n v.records))
    (none_kept n cs (λ i w e. f (suc i) w e))

eqb_suc : (i k : ℕ) → eqb (suc i) (suc k) ≡ eqb i k
eqb_suc i k = by_bool (eqb i k) (λ t. eqb_yes (suc i) (suc k) (let e : i ≡ k = grind (arith, nat_tests) in
    ap suc e) ∙ sym t) (λ f. eqb_no (suc i) (suc k) (λ z. clash (eqb_yes i k (omega arith)) f) ∙ sym f)

one_kept : (n : ℕ) (past : List Record) (k : ℕ) (cs : List Client) → AllBefore n past → Sorted past → k < length cs →
    ((i : ℕ) (v : Client) → At cs i v → v.records ≡ cond (eqb i k) past [] ++ of_renewal n v.records) →
    all_records cs ≡ past ++ all_records (map (shed n) cs)
one_kept n past k [] b s l f = absurd (omega arith)
one_kept n past zero (v ∷ cs) b s l f =
    ap (λ m. merged m (all_records cs)) (f 0 v refl ∙ ap (λ x. cond x past [] ++ of_renewal n v.records)
    (eqb_yes 0 0 refl))
    ∙ (ap (merged (past ++ of_renewal n v.records)) (none_kept n cs
    (λ i w e. f (suc i) w e ∙ ap (λ x. cond x past [] ++ of_renewal n w.records)
    (eqb_no (suc i) 0 (λ z. (let q : suc i ≡ 0 = z in omega arith)))))
    ∙ merged_padded n past (of_renewal n v.records) (all_records (map (shed n) cs)) b (all_of_era n cs))
one_kept n past (suc k) (v ∷ cs) b s l f =
    ap (λ m. merged m (all_records cs)) (f 0 v refl ∙ ap (λ x. cond x past [] ++ of_renewal n v.records)
    (eqb_no 0 (suc k) (λ z. (let q : 0 ≡ suc k = z in omega arith))))
    ∙ (ap (merged (of_renewal n v.records)) (one_kept n past k cs b s (omega arith)
    (λ i w e. f (suc i) w e ∙ ap (λ x. cond x past [] ++ of_renewal n w.records) (eqb_suc i k)))
    ∙ merged_late n (of_renewal n v.records) past (all_records (map (shed n) cs)) (λ r m. (of_is n v.records r m).1) b
    (all_of_era n cs) s)

module _ (lawful : RecordLaw) (lk : ℕ → ℕ) (c : Core) (h : Rule lawful lk c) where
  -- the records of all clients: those of the earlier renewals, and then those of the present one
  pub all_are : all_records c.clients ≡ c.past ++ all_records (now c).clients
  all_are = one_kept c.renewal c.past h.past.keeper c.clients h.past.earlier h.past.sorted h.past.member h.past.kept

  pub whole_serial : Serial c.first (all_records c.clients)
  whole_serial = subst (Serial c.first) (sym all_are) (serial_append c.first c.past
      (all_records (now c).clients) h.past.serial (subst (λ m. Serial m (all_records (now c).clients))
      (sym h.past.leads) (all_serial lawful lk (now c) h.inv)))

  pub whole_lawful : (r : Record) → In r (all_records c.clients) → lawful r.tag r.reads r.writes
  whole_lawful r m = ⊎_elim (λ p. h.past.abides r p) (λ p. all_lawful lawful lk (now c) h.inv r p)
      (in_append c.past (all_records (now c).clients) r (subst (In r) all_are m))

  -- all records are serial from the first opening image and lawful, and each client's own are
  -- among them in their order
  pub whole_shared : (i : ℕ) (v : Client) → At c.clients i v → IsShared lawful c.first v.records (all_records c.clients)
  whole_shared i v at = record {
    serial = whole_serial;
    abides = whole_lawful;
    among = subst (λ l. Sub l (all_records c.clients)) (sym (h.past.kept i v at))
        (subst (Sub (pre lawful lk c h i ++ of_renewal c.renewal v.records)) (sym all_are)
        (go (eqb i h.past.keeper) (all_shared lawful lk (now c) h.inv i (shed c.renewal v)
        (at_map (shed c.renewal) c.clients i v at)).among));
  }
    where
      go : (b : Bool) → Sub (of_renewal c.renewal v.records) (all_records (now c).clients) →
          Sub (cond b c.past [] ++ of_renewal c.renewal v.records) (c.past ++ all_records (now c).clients)
      go true s = sub_append c.past (of_renewal c.renewal v.records) (all_records (now c).clients) s
      go false s = sub_behind c.past (of_renewal c.renewal v.records) (all_records (now c).clients) s

  -- each client's records are sorted, over all renewals
  pub own_sorted : (i : ℕ) (v : Client) → At c.clients i v → Sorted v.records
  own_sorted i v at = subst Sorted (sym (h.past.kept i v at))
      (sorted_append (pre lawful lk c h i) (of_renewal c.renewal v.records) (go (eqb i h.past.keeper))
      (sorted_of (of_renewal c.renewal v.records) (h.inv.filed.filed i (shed c.renewal v)
      (at_map (shed c.renewal) c.clients i v at)).ordered)
      (λ x y m k. not_before y x (let a = pre_before lawful lk c h i x m in let b = own_of lawful lk c h v y k in
      omega arith)))
    where
      go : (b : Bool) → Sorted (cond b c.past [])
      go true = h.past.sorted
      go false = tt

  -- if the image of the first opening fits, so does the image of the present opening
  pub opening_fits : (fits : List ℕ → Type 0) → ((tag m : List ℕ) (reads writes : List (ℕ × ℕ)) → fits m →
      Agrees m reads → lawful tag reads writes → fits (laid m writes)) → fits c.first → fits c.opening
  opening_fits fits law f = subst fits h.past.leads (go c.first c.past h.past.serial h.past.abides f)
    where
      go : (m : List ℕ) (l : List Record) → Serial m l → ((r : Record) → In r l → lawful r.tag r.reads r.writes) →
          fits m → fits (image_after m l)
      go m [] s a k = k
      go m (r ∷ l) s a k = go (laid m r.writes) l s.1 (λ x i. a x (suc i.0, i.1))
          (law r.tag m r.reads r.writes k s.0 (a r (0, refl)))

  -- a region that is closed: the one client that is out has all records, serial from the first
  -- opening image to the data words
  pub closes : (i : ℕ) (v : Client) → At c.clients i v → IsFreeHanded v → IsAlone c i →
      Serial c.first v.records × (image_after c.first v.records ≡ c.cells) × ((r : Record) → In r v.records →
      lawful r.tag r.reads r.writes)
  closes i v at free others = (
    past_serial lawful lk c h i v at free others 0,
    past_leads lawful lk c h i v at free others 0,
    past_lawful lawful lk c h i v at free others 0,
  )

  -- and each of its aborted attempts has read the image of its version
  pub closes_read : (i : ℕ) (v : Client) → At c.clients i v → IsFreeHanded v → IsAlone c i → (r : Aborted) →
      In r (all_aborted v) → (r.renewal < c.renewal + 1) × Agrees (image_upto c.first r.renewal r.version v.records)
      r.reads
  closes_read i v at free others r m = past_agrees lawful lk c h i v at free others 0 r m

  -- a client with all grants is the only one out
  pub all_grants : (i : ℕ) (v : Client) → At c.clients i v → v.is_gathered ≡ false → v.grants ≡ 63 → IsAlone c i
  all_grants i v at live all j w to ne = others_gathered lawful lk (now c) h.inv i (shed c.renewal v)
      (at_map (shed c.renewal) c.clients i v at) live all j (shed c.renewal w)
      (at_map (shed c.renewal) c.clients j w to) ne

  -- so the clock is the floor of that client
  pub knows : (i : ℕ) (v : Client) → At c.clients i v → v.grants ≡ 63 → c.clock ≡ v.floor
  knows i v at all =
      let k = h.known in
      let live : v.is_gathered ≡ false = by_bool v.is_gathered (λ y. absurd (let e : v.grants ≡ 0 =
      ap (λ (x : Client). x.grants) (h.past.are_gone i v at y) in omega arith)) (λ n. n) in
      dite (ℕ_discrete k.place i) (λ e. sym (its_floor lk c k i v at live e))
      (λ n. clash (all_grants i v at live all k.place k.knower k.member n) k.out)

-- a client's records stay sorted through its steps and when two clients are joined
pub after_sorted : (t : Stamp) (lk : ℕ → ℕ) (e : Action) (n : ℕ) (v : Client) → Sorted v.records →
    Sorted (after t lk e n v).records
after_sorted t lk (check a) n v s = by_case (λ b. Sorted (stepping (checked a (word_before v.attempt.last) n)
    (cond b (read_too a (value_fetched v.attempt.last) v) (failing v))).records) (eqb n (word_before v.attempt.last))
    (λ _. s) (λ _. s)
after_sorted t lk (lock k) n v s = by_case (λ b. Sorted (stepping (locked k (word_before v.attempt.last) n)
    (cond b (holding k (version_of n) v) (failing v))).records) (eqb n (word_before v.attempt.last)) (λ _. s) (λ _. s)
after_sorted t lk (tick f g w) n v s =
    let w0 : Client = versioned t (f + 1) g w v in
    by_case (λ b. Sorted (stepping (ticked f n) (cond b (won t (f + 1) g w v) v)).records) (eqb n f)
    (λ _. by_case (λ b. Sorted (stepping (ticked f n) (cond b (committed_by t w0) w0)).records) (decides_at_once w0)
    (λ _. inserted_sorted _ v.records s) (λ _. s)) (λ _. s)
after_sorted t lk (validate k) n v s =
    let w0 : Client = counting v in
    by_case (λ b. Sorted (stepping (validated k n) (cond b (passing t v) (failing v))).records) (passes k n v)
    (λ _. by_case (λ b. Sorted (stepping (validated k n) (cond b (committed_by t w0) w0)).records)
    (eqb w0.attempt.passed (length v.attempt.reads)) (λ _. inserted_sorted _ v.records s) (λ _. s)) (λ _. s)
after_sorted t lk (finish g) n v s = inserted_sorted _ v.records s
after_sorted t lk _ n v s = s

-- merging keeps both lists, each in its order
pub joined_both : (v w : Client) → Sorted v.records → Sorted w.records →
    Sub v.records (taking v w).records × Sub w.records (taking v w).records × Sorted (taking v w).records
joined_both v w s t = (
  sub_left v.records w.records,
  sorted_right v.records w.records s t,
  merged_sorted v.records w.records s,
)
