-- Records of earlier renewals in front of those of the present one.
use Rattle.std.proofs.Common.{◌≡◌, ℕ, suc, ◌+◌, ◌<◌, ◌⊎◌, inl, inr, ⊎_elim, Bool, true, false, cond, eqb, ltb, List, []}
use Rattle.std.proofs.Common.{◌∷◌, ◌++◌, length, append_assoc, append-nil, refl, sym, ap, ◌∙◌, subst, arith}
use mathlib.Core.Option.{some}
use Rattle.std.proofs.lemmas.Bool.Decides.{nat_tests}
use Rattle.tx_memory.specs.Image.{In}
use Rattle.stm_core.specs.Client.{Client, Record, Stamp, before, inserted, merged, of_renewal, shed, writes_to}
use Rattle.stm_core.specs.Client.{word_before, value_fetched, checked, locked, ticked, validated, version_of}
use Rattle.stm_core.specs.Event.{Action, check, lock, tick, validate, finish, committed_by, stepping, failing, read_too}
use Rattle.stm_core.specs.Event.{holding, versioned, decides_at_once, won, passes, passing, after, writer_record}
use Rattle.stm_core.specs.Event.{reader_record, with_ticks, marking, counting}
use Rattle.stm_core.specs.Invariant.{Sorted}
use Rattle.stm_core.proofs.Lists.{nothing_in, in_snoc}
use Rattle.stm_core.proofs.Orders.{in_cons, in_merged}

-- every record is of this renewal, or of an earlier one
abbrev pub AllOf : ℕ → List Record → Type 0
AllOf n l = (r : Record) → In r l → r.renewal ≡ n

abbrev pub AllBefore : ℕ → List Record → Type 0
AllBefore n l = (r : Record) → In r l → r.renewal < n

pub in_append : {A : Type 0} (l m : List A) (x : A) → In x (l ++ m) → In x l ⊎ In x m
in_append [] m x i = inr i
in_append (y ∷ l) m x i = ⊎_elim (λ e. inl (0, ap some e)) (λ k. ⊎_elim (λ a. inl (suc a.0, a.1)) (λ b. inr b)
    (in_append l m x k)) (in_cons y x (l ++ m) i)

pub append_left : {A : Type 0} (l m : List A) (x : A) → In x l → In x (l ++ m)
append_left [] m x i = absurd (nothing_in x i)
append_left (y ∷ l) m x i = ⊎_elim (λ e. (0, ap some e)) (λ k. let q = append_left l m x k in
    (suc q.0, q.1)) (in_cons y x l i)

pub append_right : {A : Type 0} (l m : List A) (x : A) → In x m → In x (l ++ m)
append_right [] m x i = i
append_right (y ∷ l) m x i = let q = append_right l m x i in (suc q.0, q.1)

pub of_none : (n : ℕ) (l : List Record) → AllBefore n l → of_renewal n l ≡ []
of_none n [] f = refl
of_none n (r ∷ l) f = let e : eqb r.renewal n ≡ false = (let p = f r (0, refl) in grind (arith, nat_tests)) in
    rw e (of_none n l (λ x i. f x (suc i.0, i.1)))

pub of_all : (n : ℕ) (l : List Record) → AllOf n l → of_renewal n l ≡ l
of_all n [] f = refl
of_all n (r ∷ l) f = let e : eqb r.renewal n ≡ true = (let p = f r (0, refl) in grind (arith, nat_tests)) in
    rw e (ap (λ m. r ∷ m) (of_all n l (λ x i. f x (suc i.0, i.1))))

pub of_append : (n : ℕ) (l m : List Record) → of_renewal n (l ++ m) ≡ of_renewal n l ++ of_renewal n m
of_append n [] m = refl
of_append n (r ∷ l) m = go (eqb r.renewal n) (of_append n l m)
  where
    go : (b : Bool) → of_renewal n (l ++ m) ≡ of_renewal n l ++ of_renewal n m →
        cond b (r ∷ of_renewal n (l ++ m)) (of_renewal n (l ++ m)) ≡ cond b (r ∷ of_renewal n l)
        (of_renewal n l) ++ of_renewal n m
    go true e = ap (λ k. r ∷ k) e
    go false e = e

pub of_is : (n : ℕ) (l : List Record) (x : Record) → In x (of_renewal n l) → In x l × (x.renewal ≡ n)
of_is n [] x i = absurd (nothing_in x i)
of_is n (r ∷ l) x i = go (eqb r.renewal n) refl i (λ k. of_is n l x k)
  where
    go : (b : Bool) → eqb r.renewal n ≡ b → In x (cond b (r ∷ of_renewal n l) (of_renewal n l)) →
        (In x (of_renewal n l) → In x l × (x.renewal ≡ n)) → In x (r ∷ l) × (x.renewal ≡ n)
    go true e k f = ⊎_elim (λ s. (
      (0, ap some s),
      (let q : r.renewal ≡ n = grind (arith, nat_tests) in
          sym (ap (λ (y : Record). y.renewal) s) ∙ q),
    )) (λ m. let q = f m in
        ((suc q.0.0, q.0.1), q.1)) (in_cons r x (of_renewal n l) k)
    go false e k f = let q = f k in ((suc q.0.0, q.0.1), q.1)

-- the part of such a list that belongs to the present renewal
pub of_padded : (n : ℕ) (pre l : List Record) → AllBefore n pre → AllOf n l → of_renewal n (pre ++ l) ≡ l
of_padded n pre l f g = of_append n pre l ∙ (ap (λ k. k ++ of_renewal n l) (of_none n pre f) ∙ of_all n l g)

-- a record of an earlier renewal comes before one of the present renewal
pub not_before : (r x : Record) → x.renewal < r.renewal → before r x ≡ false
not_before r x l =
    let a : ltb r.renewal x.renewal ≡ false = grind (arith, nat_tests) in
    let b : eqb r.renewal x.renewal ≡ false = grind (arith, nat_tests) in rw (a, b) refl

pub is_before : (r x : Record) → r.renewal < x.renewal → before r x ≡ true
is_before r x l = let a : ltb r.renewal x.renewal ≡ true = grind (arith, nat_tests) in rw a refl

pub inserted_padded : (r : Record) (pre l : List Record) → AllBefore r.renewal pre →
    inserted r (pre ++ l) ≡ pre ++ inserted r l
inserted_padded r [] l f = refl
inserted_padded r (x ∷ pre) l f = rw (not_before r x (f x (0, refl)))
    (ap (λ k. x ∷ k) (inserted_padded r pre l (λ y i. f y (suc i.0, i.1))))

-- the earlier records stay in front, whichever of the two merged lists had them
pub merged_padded : (n : ℕ) (pre l m : List Record) → AllBefore n pre → AllOf n m →
    merged (pre ++ l) m ≡ pre ++ merged l m
merged_padded n pre l [] f g = refl
merged_padded n pre l (y ∷ m) f g =
    ap (λ k. merged k m) (inserted_padded y pre l (λ x i. (let a = f x i in let b = g y (0, refl) in omega arith)))
    ∙ merged_padded n pre (inserted y l) m f (λ x i. g x (suc i.0, i.1))

-- a record after all earlier ones, and before all records of the present renewal
put_between : (n : ℕ) (y : Record) (pre l : List Record) → y.renewal < n → AllOf n l →
    ((x : Record) → In x pre → before y x ≡ false) → inserted y (pre ++ l) ≡ (pre ++ y ∷ []) ++ l
put_between n y [] [] h f g = refl
put_between n y [] (x ∷ l) h f g = rw (is_before y x (let p = f x (0, refl) in omega arith)) refl
put_between n y (x ∷ pre) l h f g = rw (g x (0, refl)) (ap (λ k. x ∷ k)
    (put_between n y pre l h f (λ z i. g z (suc i.0, i.1))))

merged_behind : (n : ℕ) (pre l late m : List Record) → AllOf n l → AllBefore n late → AllOf n m → Sorted late →
    ((x y : Record) → In x pre → In y late → before y x ≡ false) → AllBefore n pre →
    merged (pre ++ l) (late ++ m) ≡ (pre ++ late) ++ merged l m
merged_behind n pre l [] m f g h s k b = merged_padded n pre l m b h ∙ ap (λ q. q ++ merged l m) (sym (append-nil pre))
merged_behind n pre l (y ∷ late) m f g h s k b =
    ap (λ q. merged q (late ++ m)) (put_between n y pre l (g y (0, refl)) f (λ x i. k x y i (0, refl)))
    ∙ (merged_behind n (pre ++ y ∷ []) l late m f (λ x i. g x (suc i.0, i.1)) h s.1
    (λ x z i j. ⊎_elim (λ p. k x z p (suc j.0, j.1)) (λ e. subst (λ q. before z q ≡ false) e (s.0 z j))
    (in_snoc pre y x i))
    (λ x i. ⊎_elim (λ p. b x p) (λ e. subst (λ (q : Record). q.renewal < n) e (g y (0, refl))) (in_snoc pre y x i))
    ∙ ap (λ q. q ++ merged l m) (append_assoc pre (y ∷ []) late))

pub merged_late : (n : ℕ) (l late m : List Record) → AllOf n l → AllBefore n late → AllOf n m → Sorted late →
    merged l (late ++ m) ≡ late ++ merged l m
merged_late n l late m f g h s = merged_behind n [] l late m f g h s (λ x y i j. absurd (nothing_in x i))
    (λ x i. absurd (nothing_in x i))

pub all_merged : (n : ℕ) (l m : List Record) → AllOf n l → AllOf n m → AllOf n (merged l m)
all_merged n l m f g x i = ⊎_elim (λ p. f x p) (λ p. g x p) (in_merged l m x i)

-- a client with records in front of its own
abbrev pub pad : List Record → Client → Client
pad pre u = record u { records = pre ++ u.records }

pub shed_pad : (n : ℕ) (pre : List Record) (u : Client) → AllBefore n pre → AllOf n u.records → shed n (pad pre u) ≡ u
shed_pad n pre u f g = ap (λ l. record u { records = l }) (of_padded n pre u.records f g)

committed_pad : (t : Stamp) (pre : List Record) (u : Client) → AllBefore t.renewal pre →
    committed_by t (pad pre u) ≡ pad pre (committed_by t u)
committed_pad t pre u f = ap (λ l. record (committed_by t u) { records = l })
    (inserted_padded (writer_record t u.attempt) pre u.records f)

on_cond : {A X : Type 0} (f g : A → X) (b : Bool) (x y x' y' : A) → f x ≡ g x' → f y ≡ g y' →
    f (cond b x y) ≡ g (cond b x' y')
on_cond f g true x y x' y' e k = e
on_cond f g false x y x' y' e k = k

-- a step does not look at the records
pub after_pad : (t : Stamp) (lk : ℕ → ℕ) (e : Action) (n : ℕ) (pre : List Record) (u : Client) →
    AllBefore t.renewal pre → after t lk e n (pad pre u) ≡ pad pre (after t lk e n u)
after_pad t lk (check a) n pre u f =
    on_cond (λ w. stepping (checked a (word_before u.attempt.last) n) w)
    (λ w. pad pre (stepping (checked a (word_before u.attempt.last) n) w)) (eqb n (word_before u.attempt.last))
    (read_too a (value_fetched u.attempt.last) (pad pre u)) (failing (pad pre u))
    (read_too a (value_fetched u.attempt.last) u) (failing u) refl refl
after_pad t lk (lock k) n pre u f =
    on_cond (λ w. stepping (locked k (word_before u.attempt.last) n) w)
    (λ w. pad pre (stepping (locked k (word_before u.attempt.last) n) w)) (eqb n (word_before u.attempt.last))
    (holding k (version_of n) (pad pre u)) (failing (pad pre u)) (holding k (version_of n) u) (failing u) refl refl
after_pad t lk (tick from tag writes) n pre u f =
    let w0 : Client = versioned t (from + 1) tag writes u in
    on_cond (λ w. with_ticks (u.attempt.ticks + 1) n (stepping (ticked from n) w))
    (λ w. pad pre (with_ticks (u.attempt.ticks + 1) n (stepping (ticked from n) w))) (eqb n from)
    (won t (from + 1) tag writes (pad pre u)) (pad pre u) (won t (from + 1) tag writes u) u
    (on_cond (λ w. with_ticks (u.attempt.ticks + 1) n (stepping (ticked from n) w))
    (λ w. pad pre (with_ticks (u.attempt.ticks + 1) n (stepping (ticked from n) w))) (decides_at_once w0)
    (committed_by t (pad pre w0)) (pad pre w0) (committed_by t w0) w0
    (ap (λ w. with_ticks (u.attempt.ticks + 1) n (stepping (ticked from n) w)) (committed_pad t pre w0 f)) refl) refl
after_pad t lk (validate k) n pre u f =
    let w0 : Client = counting u in
    on_cond (λ w. marking (writes_to u.attempt.held k) (stepping (validated k n) w))
    (λ w. pad pre (marking (writes_to u.attempt.held k) (stepping (validated k n) w))) (passes k n u)
    (passing t (pad pre u)) (failing (pad pre u)) (passing t u) (failing u)
    (on_cond (λ w. marking (writes_to u.attempt.held k) (stepping (validated k n) w))
    (λ w. pad pre (marking (writes_to u.attempt.held k) (stepping (validated k n) w)))
    (eqb w0.attempt.passed (length u.attempt.reads)) (committed_by t (pad pre w0)) (pad pre w0)
    (committed_by t w0) w0
    (ap (λ w. marking (writes_to u.attempt.held k) (stepping (validated k n) w)) (committed_pad t pre w0 f)) refl) refl
after_pad t lk (finish tag) n pre u f =
    ap (λ l. record (after t lk (finish tag) n u) { records = l })
    (inserted_padded (reader_record t tag u.attempt) pre u.records f)
after_pad t lk _ n pre u f = refl
