-- Lists made one, each of which keeps its order.
use Rattle.std.proofs.Common.{◌≡◌, ◌++◌, Bool, true, false, cond, List, [], ◌∷◌, append_assoc, append-nil, ⊎_elim, refl}
use Rattle.std.proofs.Common.{◌∙◌, subst, zero, suc, ap}
use Rattle.tx_memory.specs.Image.{In}
use Rattle.stm_core.specs.Client.{Record, before, inserted, merged}
use Rattle.stm_core.specs.Invariant.{Sorted}
use Rattle.stm_core.specs.History.{Sub, done, keep, skip}
use Rattle.stm_core.proofs.Lists.{nothing_in, in_snoc, clash}
use Rattle.stm_core.proofs.Orders.{before_le}
use Rattle.stm_core.proofs.Merging.{in_sub}
use Rattle.stm_core.proofs.Whole.{inserted_sorted}
use Rattle.load_run.specs.Several.{Interleaved, no_more, of_first, of_second}

module _ {A : Type 0} where
  pub interleaved_alone : (xs : List A) → Interleaved xs [] xs
  interleaved_alone [] = no_more
  interleaved_alone (x ∷ xs) = of_first x (interleaved_alone xs)

  pub interleaved_both : {xs ys zs us vs ws : List A} → Interleaved xs ys zs → Interleaved us vs ws →
      Interleaved (xs ++ us) (ys ++ vs) (zs ++ ws)
  interleaved_both no_more q = q
  interleaved_both (of_first x p) q = of_first x (interleaved_both p q)
  interleaved_both (of_second y p) q = of_second y (interleaved_both p q)

  pub second_sub : {xs ys zs : List A} → Interleaved xs ys zs → Sub ys zs
  second_sub no_more = done
  second_sub (of_first x p) = skip x (second_sub p)
  second_sub (of_second y p) = keep y (second_sub p)

  pub first_sub : {xs ys zs : List A} → Interleaved xs ys zs → Sub xs zs
  first_sub no_more = done
  first_sub (of_first x p) = keep x (first_sub p)
  first_sub (of_second y p) = skip y (first_sub p)

  -- three lists made one: the first two before the third, or the last two before the first
  pub record Regrouped (first second third all : List A) : Type 0 where
    pub later : List A
    pub lasts : Interleaved second third later
    pub whole : Interleaved first later all

  pub regrouped : {both third all : List A} → Interleaved both third all → {xs ys : List A} → Interleaved xs ys both →
      Regrouped xs ys third all
  regrouped no_more no_more = record { later = []; lasts = no_more; whole = no_more }
  regrouped (of_second z q) p = let r = regrouped q p in record {
    later = z ∷ r.later;
    lasts = of_second z r.lasts;
    whole = of_second z r.whole;
  }
  regrouped (of_first y q) (of_first x p) = let r = regrouped q p in
      record { later = r.later; lasts = r.lasts; whole = of_first x r.whole }
  regrouped (of_first y q) (of_second x p) = let r = regrouped q p in
      record { later = x ∷ r.later; lasts = of_first x r.lasts; whole = of_second x r.whole }

-- what comes last among some records comes after them where it is put in
interleaved_last : {a p l : List Record} (y : Record) → Interleaved a p l → Sorted l →
    ((x : Record) → In x p → before y x ≡ false) → Interleaved a (p ++ y ∷ []) (inserted y l)
interleaved_last y no_more o f = of_second y no_more
interleaved_last y (of_second x s) o f = rw (f x (0, refl)) (of_second x
    (interleaved_last y s o.1 (λ z i. f z (suc i.0, i.1))))
interleaved_last y (of_first z {xs = a} {ys = p} {zs = l} s) o f =
    go (before y z) refl p s f (interleaved_last y s o.1 f)
  where
    go : (b : Bool) → before y z ≡ b → (p' : List Record) → Interleaved a p' l →
        ((x : Record) → In x p' → before y x ≡ false) → Interleaved a (p' ++ y ∷ []) (inserted y l) →
        Interleaved (z ∷ a) (p' ++ y ∷ []) (cond b (y ∷ z ∷ l) (z ∷ inserted y l))
    go true e [] s' f' k = of_second y (of_first z s')
    go true e (x ∷ p') s' f' k = clash (before_le y z x e (o.0 x (in_sub x (second_sub s') (0, refl)))) (f' x (0, refl))
    go false e p' s' f' k = of_first z k

put_all : (a p l m : List Record) → Interleaved a p l → Sorted l → Sorted m →
    ((x y : Record) → In x p → In y m → before y x ≡ false) → Interleaved a (p ++ m) (merged l m)
put_all a p l [] s o q g = rw (append-nil p) s
put_all a p l (y ∷ m) s o q g =
    subst (λ k. Interleaved a k (merged (inserted y l) m)) (append_assoc p (y ∷ []) m)
    (put_all a (p ++ y ∷ []) (inserted y l) m (interleaved_last y s o (λ x i. g x y i (0, refl)))
    (inserted_sorted y l o) q.1
    (λ x z i j. ⊎_elim (λ k. g x z k (suc j.0, j.1)) (λ e. subst (λ k. before z k ≡ false) e (q.0 z j))
    (in_snoc p y x i)))

-- two sorted lists that are merged
pub merged_interleaved : (l m : List Record) → Sorted l → Sorted m → Interleaved l m (merged l m)
merged_interleaved l m o q = put_all l [] l m (interleaved_alone l) o q (λ x y i. absurd (nothing_in x i))

-- a record that stands before none of the first is put behind them
inserted_behind : (r : Record) (o l : List Record) → ((x : Record) → In x o → before r x ≡ false) →
    inserted r (o ++ l) ≡ o ++ inserted r l
inserted_behind r [] l f = refl
inserted_behind r (x ∷ o) l f = rw (f x (zero, refl)) (ap (λ (m : List Record). x ∷ m)
    (inserted_behind r o l (λ y i. f y (suc i.0, i.1))))

pub merged_behind : (o l m : List Record) → ((x y : Record) → In x o → In y m → before y x ≡ false) →
    merged (o ++ l) m ≡ o ++ merged l m
merged_behind o l [] f = refl
merged_behind o l (y ∷ m) f =
    ap (λ (k : List Record). merged k m) (inserted_behind y o l (λ x i. f x y i (zero, refl)))
    ∙ merged_behind o (inserted y l) m (λ x z i j. f x z i (suc j.0, j.1))
