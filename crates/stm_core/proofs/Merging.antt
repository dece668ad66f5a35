-- Merged lists of records: each list keeps its order.
use Rattle.std.proofs.Common.{◌≡◌, ◌≢◌, ℕ, zero, suc, ⊎_elim, Bool, true, false, cond, List, [], ◌∷◌, ◌++◌}
use Rattle.std.proofs.Common.{append_assoc, append-nil, refl, sym, ap, ◌∙◌, subst, arith}
use mathlib.Core.Option.{some-injective}
use Rattle.tx_memory.specs.Image.{In}
use Rattle.stm_core.specs.Client.{Client, Record, before, inserted, merged}
use Rattle.stm_core.specs.Version.{At}
use Rattle.stm_core.specs.Records.{Ordered}
use Rattle.stm_core.specs.Invariant.{Sorted}
use Rattle.stm_core.specs.History.{Sub, done, keep, skip, all_records}
pub use Rattle.stm_core.specs.Merging.{sub_same, sub_trans, in_sub, sub_left}
use Rattle.stm_core.proofs.Lists.{nothing_in, clash}
use Rattle.stm_core.proofs.Orders.{in_merged, merged_left, merged_right, inserted_ordered, merged_ordered, before_le}

one_in : (y : Record) (l : List Record) → Sub (y ∷ []) (inserted y l)
one_in y [] = keep y done
one_in y (x ∷ l) = go (before y x) (one_in y l)
  where
    go : (b : Bool) → Sub (y ∷ []) (inserted y l) → Sub (y ∷ []) (cond b (y ∷ x ∷ l) (x ∷ inserted y l))
    go true p = keep y done
    go false p = skip x p

sorted_of : (l : List Record) → Ordered l → Sorted l
sorted_of [] o = tt
sorted_of (x ∷ l) o = (λ r i. (o.0 r i).0, sorted_of l o.1)

-- a record that is not before any record of a sublist is inserted after that sublist
pub sub_last : {p l : List Record} (y : Record) → Sub p l → Sorted l → ((x : Record) → In x p → before y x ≡ false) →
    Sub (p ++ y ∷ []) (inserted y l)
sub_last {l = l} y done o f = one_in y l
sub_last y (keep x s) o f = rw (f x (0, refl)) (keep x (sub_last y s o.1 (λ z i. f z (suc i.0, i.1))))
sub_last y (skip z {xs = p} {ys = l} s) o f = go (before y z) refl p s f (sub_last y s o.1 f)
  where
    go : (b : Bool) → before y z ≡ b → (p' : List Record) → Sub p' l → ((x : Record) → In x p' → before y x ≡ false) →
        Sub (p' ++ y ∷ []) (inserted y l) → Sub (p' ++ y ∷ []) (cond b (y ∷ z ∷ l) (z ∷ inserted y l))
    go true e [] s' f' k = keep y done
    go true e (x ∷ p') s' f' k = clash (before_le y z x e (o.0 x (in_sub x s' (0, refl)))) (f' x (0, refl))
    go false e p' s' f' k = skip z k

sub_all : (p l m : List Record) → Sub p l → Ordered l → Ordered m →
    ((x y : Record) → In x l → In y m → x.writer ≡ true → y.writer ≡ true → x.version ≢ y.version) →
    ((x y : Record) → In x p → In y m → before y x ≡ false) → Sub (p ++ m) (merged l m)
sub_all p l [] s o q f g = rw (append-nil p) s
sub_all p l (y ∷ m) s o q f g =
    subst (λ k. Sub k (merged (inserted y l) m)) (append_assoc p (y ∷ []) m)
    (sub_all (p ++ y ∷ []) (inserted y l) m (sub_last y s (sorted_of l o) (λ x i. g x y i (0, refl)))
    (inserted_ordered y l o (λ x i. f x y i (0, refl))) q.1
    (λ x z i j. ⊎_elim (λ e. subst (λ (k : Record). k.writer ≡ true → z.writer ≡ true →
    k.version ≢ z.version) e (q.0 z j).1) (λ k. f x z k (suc j.0, j.1))
    (Rattle.stm_core.specs.Merging.in_inserted y l x i))
    (λ x z i j. ⊎_elim (λ k. g x z k (suc j.0, j.1)) (λ e. subst (λ k. before z k ≡ false) e (q.0 z j).0)
    (Rattle.stm_core.proofs.Lists.in_snoc p y x i)))

pub sub_right : (l m : List Record) → Ordered l → Ordered m →
    ((x y : Record) → In x l → In y m → x.writer ≡ true → y.writer ≡ true → x.version ≢ y.version) → Sub m (merged l m)
sub_right l m o q f = sub_all [] l m done o q f (λ x y i. absurd (nothing_in x i))

inserted_last : (p : List Record) (y : Record) → ((x : Record) → In x p → before y x ≡ false) →
    inserted y p ≡ p ++ y ∷ []
inserted_last [] y f = refl
inserted_last (x ∷ p) y f = rw (f x (0, refl)) (ap (λ l. x ∷ l) (inserted_last p y (λ z i. f z (suc i.0, i.1))))

merged_behind : (p l : List Record) → Ordered l → ((x y : Record) → In x p → In y l → before y x ≡ false) →
    merged p l ≡ p ++ l
merged_behind p [] o f = sym (append-nil p)
merged_behind p (y ∷ l) o f = ap (λ k. merged k l) (inserted_last p y (λ x i. f x y i (0, refl)))
    ∙ (merged_behind (p ++ y ∷ []) l o.1 (λ x z i j. ⊎_elim (λ k. f x z k (suc j.0, j.1))
    (λ e. subst (λ k. before z k ≡ false) e (o.0 z j).0) (Rattle.stm_core.proofs.Lists.in_snoc p y x i)) ∙
    append_assoc p (y ∷ []) l)

-- a list merged into the empty list is itself
pub merged_none : (l : List Record) → Ordered l → merged [] l ≡ l
merged_none l o = merged_behind [] l o (λ x y i. absurd (nothing_in x i))

-- the clients' lists are in order, and no two have a writer of one version
pub record Apart (cs : List Client) : Type 0 where
  pub each : (i : ℕ) (v : Client) → At cs i v → Ordered v.records
  pub once : (i j : ℕ) (v w : Client) (r x : Record) → At cs i v → At cs j w → i ≢ j → In r v.records → In x w.records →
      r.writer ≡ true → x.writer ≡ true → r.version ≢ x.version

fewer : (v : Client) (vs : List Client) → Apart (v ∷ vs) → Apart vs
fewer v vs h = record {
  each = λ i o e. h.each (suc i) o e;
  once = λ i j o p r x e f n. h.once (suc i) (suc
      j) o p r x e f (λ k. n (let q : i ≡ j = omega arith in q));
}

pub in_all : (cs : List Client) (r : Record) → In r (all_records cs) →
    (i : ℕ) × (v : Client) × At cs i v × In r v.records
in_all [] r i = absurd (nothing_in r i)
in_all (v ∷ vs) r i = ⊎_elim (λ p. (0, v, refl, p)) (λ p. let q = in_all vs r p in
    (suc q.0, q.1, q.2, q.3)) (in_merged v.records (all_records vs) r i)

pub all_in : (cs : List Client) (i : ℕ) (v : Client) (r : Record) → At cs i v → In r v.records → In r (all_records cs)
all_in [] i v r e m = absurd (nothing_in v (i, e))
all_in (w ∷ ws) zero v r e m = merged_left w.records (all_records ws) r
    (subst (λ (c : Client). In r c.records) (sym (some-injective w v e)) m)
all_in (w ∷ ws) (suc i) v r e m = merged_right w.records (all_records ws) r (all_in ws i v r e m)

cross : (v : Client) (vs : List Client) → Apart (v ∷ vs) → (x y : Record) → In x v.records → In y (all_records vs) →
    x.writer ≡ true → y.writer ≡ true → x.version ≢ y.version
cross v vs h x y i j = let q = in_all vs y j in h.once 0 (suc q.0) v q.1 x y refl q.2 (λ e. (let z : 0 ≡ suc q.0 = e in
    omega arith)) i q.3

pub all_ordered : (cs : List Client) → Apart cs → Ordered (all_records cs)
all_ordered [] h = tt
all_ordered (v ∷ vs) h = merged_ordered v.records (all_records vs) (h.each 0 v refl) (all_ordered vs (fewer v vs h))
    (cross v vs h)

-- each client's records are in the list of all records, in their order
pub all_sub : (cs : List Client) → Apart cs → (i : ℕ) (v : Client) → At cs i v → Sub v.records (all_records cs)
all_sub [] h i v e = absurd (nothing_in v (i, e))
all_sub (w ∷ ws) h zero v e = subst (λ (c : Client). Sub c.records (merged w.records (all_records ws)))
    (some-injective w v e) (sub_left w.records (all_records ws))
all_sub (w ∷ ws) h (suc i) v e = sub_trans (all_sub ws (fewer w ws h) i v e)
    (sub_right w.records (all_records ws) (h.each 0 w refl) (all_ordered ws (fewer w ws h)) (cross w ws h))

none_all : (cs : List Client) → ((i : ℕ) (v : Client) → At cs i v → v.records ≡ []) → all_records cs ≡ []
none_all [] f = refl
none_all (v ∷ vs) f = rw (f 0 v refl, none_all vs (λ i w e. f (suc i) w e)) refl

-- if only one client has records, its list is that of all clients
pub alone_all : (cs : List Client) (i : ℕ) (v : Client) → At cs i v → Ordered v.records →
    ((j : ℕ) (w : Client) → At cs j w → j ≢ i → w.records ≡ []) → all_records cs ≡ v.records
alone_all [] i v e o f = absurd (nothing_in v (i, e))
alone_all (w ∷ ws) zero v e o f = rw (none_all ws (λ j x k. f (suc j) x k (λ z. (let z' : suc j ≡ 0 = z in
    omega arith)))) (ap (λ (c : Client). c.records) (some-injective w v e))
alone_all (w ∷ ws) (suc i) v e o f = rw (
  f 0 w refl (λ z. (let z' : 0 ≡ suc i = z in omega arith)),
  alone_all ws i v e o (λ j x k n. f (suc j) x k (λ z. n (let q : j ≡ i = omega arith in q))),
)
    (merged_none v.records o)
