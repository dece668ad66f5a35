-- Merged lists of records: their members, and that each of the two lists is a sublist.
use Rattle.std.proofs.Common.{◌≡◌, ℕ, zero, suc, ◌⊎◌, inl, inr, ⊎_elim, Bool, true, false, cond, List, [], ◌∷◌, refl, sym, ap, subst}
use mathlib.Core.Option.{some, some-injective, some-ne-none}
use lib.ListN.{get_elem?}
use Rattle.tx_memory.specs.Image.{In}
use Rattle.stm_core.specs.Client.{Record, before, inserted, merged}
use Rattle.stm_core.specs.History.{Sub, done, keep, skip}

module _ {A : Type 0} where
  -- the empty list has no members
  pub nothing_in : (x : A) → In x [] → ⊥
  nothing_in x i = some-ne-none x (sym i.1)

  -- a member of a list is its first element or a member of the rest
  pub in_cons : (x y : A) (xs : List A) → In y (x ∷ xs) → (x ≡ y) ⊎ In y xs
  in_cons x y xs i = go i.0 i.1
    where
      go : (j : ℕ) → get_elem? (x ∷ xs) j ≡ some y → (x ≡ y) ⊎ In y xs
      go zero e = inl (some-injective x y e)
      go (suc j) e = inr (j, e)

  -- each list is a sublist of itself
  pub sub_same : (l : List A) → Sub l l
  sub_same [] = done
  sub_same (x ∷ xs) = keep x (sub_same xs)

  -- a sublist of a sublist is a sublist
  pub sub_trans : {l m n : List A} → Sub l m → Sub m n → Sub l n
  sub_trans done q = done
  sub_trans (keep x p) (keep y q) = keep x (sub_trans p q)
  sub_trans (skip y p) (keep z q) = skip y (sub_trans p q)
  sub_trans (keep x p) (skip z q) = skip z (sub_trans (keep x p) q)
  sub_trans (skip y p) (skip z q) = skip z (sub_trans (skip y p) q)

  -- a member of a sublist is a member of the whole list
  pub in_sub : {l m : List A} (x : A) → Sub l m → In x l → In x m
  in_sub x done i = absurd (nothing_in x i)
  in_sub x (keep y {xs = l} p) i =
      ⊎_elim (λ e. (0, ap some e)) (λ j. let q = in_sub x p j in (suc q.0, q.1))
      (in_cons y x l i)
  in_sub x (skip z p) i = let q = in_sub x p i in (suc q.0, q.1)

-- after a record was inserted, a member of the list is that record or was a member before
pub in_inserted : (r : Record) (l : List Record) (x : Record) → In x (inserted r l) →
    (r ≡ x) ⊎ In x l
in_inserted r [] x i = in_cons r x [] i
in_inserted r (y ∷ l) x i = go (before r y) i (λ h. in_inserted r l x h)
  where
    go : (b : Bool) → In x (cond b (r ∷ y ∷ l) (y ∷ inserted r l)) →
        (In x (inserted r l) → (r ≡ x) ⊎ In x l) → (r ≡ x) ⊎ In x (y ∷ l)
    go true j f = in_cons r x (y ∷ l) j
    go false j f =
        ⊎_elim (λ e. inr (0, ap some e))
        (λ k. ⊎_elim (λ e. inl e) (λ o. inr (suc o.0, o.1)) (f k))
        (in_cons y x (inserted r l) j)

-- the inserted record is a member of the list
pub inserted_in : (r : Record) (l : List Record) → In r (inserted r l)
inserted_in r [] = (0, refl)
inserted_in r (y ∷ l) = go (before r y) (inserted_in r l)
  where
    go : (b : Bool) → In r (inserted r l) → In r (cond b (r ∷ y ∷ l) (y ∷ inserted r l))
    go true i = (0, refl)
    go false i = (suc i.0, i.1)

-- inserting a record loses no member
pub inserted_old : (r : Record) (l : List Record) (x : Record) → In x l → In x (inserted r l)
inserted_old r [] x i = absurd (nothing_in x i)
inserted_old r (y ∷ l) x i = go (before r y) (in_cons y x l i) (λ h. inserted_old r l x h)
  where
    go : (b : Bool) → (y ≡ x) ⊎ In x l → (In x l → In x (inserted r l)) →
        In x (cond b (r ∷ y ∷ l) (y ∷ inserted r l))
    go true j f = ⊎_elim (λ e. (1, ap some e)) (λ h. (suc (suc h.0), h.1)) j
    go false j f = ⊎_elim (λ e. (0, ap some e)) (λ h. let q = f h in (suc q.0, q.1)) j

-- a member of two merged lists is a member of the first or of the second
pub in_merged : (l m : List Record) (x : Record) → In x (merged l m) → In x l ⊎ In x m
in_merged l [] x i = inl i
in_merged l (y ∷ m) x i =
    ⊎_elim (λ p. ⊎_elim (λ e. inr (0, ap some e)) (λ o. inl o) (in_inserted y l x p))
    (λ p. inr (suc p.0, p.1)) (in_merged (inserted y l) m x i)

-- a member of the first list is a member of the merged list
pub merged_left : (l m : List Record) (x : Record) → In x l → In x (merged l m)
merged_left l [] x i = i
merged_left l (y ∷ m) x i = merged_left (inserted y l) m x (inserted_old y l x i)

-- a member of the second list is a member of the merged list
pub merged_right : (l m : List Record) (x : Record) → In x m → In x (merged l m)
merged_right l [] x i = absurd (nothing_in x i)
merged_right l (y ∷ m) x i =
    ⊎_elim
    (λ e. subst (λ z. In z (merged (inserted y l) m)) e
    (merged_left (inserted y l) m y (inserted_in y l)))
    (λ h. merged_right (inserted y l) m x h) (in_cons y x m i)

sub_inserted : (y : Record) (l : List Record) → Sub l (inserted y l)
sub_inserted y [] = done
sub_inserted y (x ∷ l) = go (before y x) (sub_inserted y l)
  where
    go : (b : Bool) → Sub l (inserted y l) →
        Sub (x ∷ l) (cond b (y ∷ x ∷ l) (x ∷ inserted y l))
    go true p = skip y (sub_same (x ∷ l))
    go false p = keep x p

-- the first list is a sublist of the merged list
pub sub_left : (l m : List Record) → Sub l (merged l m)
sub_left l [] = sub_same l
sub_left l (y ∷ m) = sub_trans (sub_inserted y l) (sub_left (inserted y l) m)
