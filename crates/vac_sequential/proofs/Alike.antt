-- Tests of values that are derived tell whether the values are the same.
use Rattle.std.proofs.Common.{◌≡◌, ◌==◌, ℕ, Bool, true, false, ◌&&◌, List, [], ◌∷◌, refl, ap, sym, ◌∙◌, arith}
use Rattle.std.proofs.lemmas.Bool.Decides.{nat_tests}
use Rattle.std.specs.FinMap as fin
use Rattle.std.specs.BTreeMap as tree
use Rattle.std.specs.BTreeMap.{BTreeMap}
use Rattle.vac_model.specs.declared.items.Kind.{Kind}
use Rattle.vac_model.specs.declared.items.Kind.TheVariants.{Car, Flight, Room}
use Rattle.vac_model.specs.contracts.items.KindPartialEq.TheImpl.{ghosts as kinds}
use Rattle.vac_model.specs.contracts.items.BookingPartialEq.TheImpl.{ghosts as bookings}
use Rattle.vac_model.specs.declared.items.Booking.{Booking}
use Rattle.vac_model.specs.State.{Place, Bookings, place_cmp}
use Rattle.vac_sequential.specs.Tries.{TellsSame}
use Rattle.vac_model.proofs.Views.{entries_of_sorted}
use Rattle.vac_model.proofs.Places.{place_cmp_total}
use lib.Pointwise.{pointwise}

-- both parts of a value
pub both_alike : {A B C : Type 0} (make : A → B → C) (first : C → A) (second : C → B) (x y : C) (p q : A) (r s : B)
    → x ≡ make p r → y ≡ make q s → first x ≡ p → first y ≡ q → second x ≡ r → second y ≡ s
    → (a b : Bool) → TellsSame p q a → TellsSame r s b → TellsSame x y (a && b)
both_alike make first second x y p q r s mx my fx fy sx sy true true e f =
    mx ∙ ap (λ w. make w r) e ∙ ap (make q) f ∙ sym my
both_alike make first second x y p q r s mx my fx fy sx sy true false e f = λ i. f (sym sx ∙ ap second i ∙ sy)
both_alike make first second x y p q r s mx my fx fy sx sy false b e f = λ i. e (sym fx ∙ ap first i ∙ fy)

nat_alike : (a b : ℕ) → TellsSame a b (a == b)
nat_alike a b =
    elim (a == b) as (λ t. (a == b) ≡ t → TellsSame a b t) [
      | true ↦ λ h. grind (arith, nat_tests)
      | false ↦ λ h e. grind (arith, nat_tests)
    ] refl

kind_alike : (a b : Kind) → TellsSame a b (kinds.eq a b)
kind_alike Car Car = refl
kind_alike Car Flight = λ e. cc
kind_alike Car Room = λ e. cc
kind_alike Flight Car = λ e. cc
kind_alike Flight Flight = refl
kind_alike Flight Room = λ e. cc
kind_alike Room Car = λ e. cc
kind_alike Room Flight = λ e. cc
kind_alike Room Room = refl

booking_alike : (a b : Booking) → TellsSame a b (bookings.eq a b)
booking_alike a b =
    both_alike (λ u s. record { units = u; sum = s }) (λ (x : Booking). x.units)
    (λ (x : Booking). x.sum) a b a.units b.units a.sum b.sum
    refl refl refl refl refl refl (a.units == b.units) (a.sum ==
    b.sum) (nat_alike a.units b.units) (nat_alike a.sum b.sum)

place_alike : (a b : Place) → TellsSame a b (kinds.eq a.0 b.0 && (a.1 == b.1))
place_alike a b =
    both_alike (λ k i. (k, i)) (λ (x : Place). x.0) (λ (x : Place). x.1) a b a.0 b.0 a.1 b.1 refl refl refl refl refl
    refl
    (kinds.eq a.0 b.0) (a.1 == b.1) (kind_alike a.0 b.0) (nat_alike a.1 b.1)

entry_alike : (a b : Place × Booking) → TellsSame a b ((kinds.eq a.0.0 b.0.0 && (a.0.1 ==
    b.0.1)) && bookings.eq a.1 b.1)
entry_alike a b =
    both_alike (λ p v. (p, v)) (λ (x : Place × Booking). x.0)
    (λ (x : Place × Booking). x.1) a b a.0 b.0 a.1 b.1 refl refl refl refl refl refl
    (kinds.eq a.0.0 b.0.0 && (a.0.1 == b.0.1)) (bookings.eq a.1 b.1) (place_alike a.0 b.0) (booking_alike a.1 b.1)

head_of : {A : Type 0} → A → List A → A
head_of d [] = d
head_of d (x ∷ xs) = x

tail_of : {A : Type 0} → List A → List A
tail_of [] = []
tail_of (x ∷ xs) = xs

is_nil : {A : Type 0} → List A → Bool
is_nil [] = true
is_nil (x ∷ xs) = false

-- lists whose elements are tested
lists_alike : {A : Type 0} (E : A → A → Bool) → ((a b : A) → TellsSame a b (E a b)) → (xs ys : List A) →
    TellsSame xs ys (pointwise E xs ys)
unfolding head_of tail_of is_nil
lists_alike E d [] [] = refl
lists_alike E d [] (y ∷ ys) = λ e. let no : true ≡ false = ap is_nil e in cc
lists_alike E d (x ∷ xs) [] = λ e. let no : false ≡ true = ap is_nil e in cc
lists_alike E d (x ∷ xs) (y ∷ ys) =
    both_alike ◌∷◌ (head_of x) tail_of (x ∷ xs) (y ∷ ys) x y xs ys refl refl refl refl refl refl (E x y)
    (pointwise E xs ys) (d x y) (lists_alike E d xs ys)

-- maps whose entries are tested
pub maps_alike : (m n : BTreeMap Place Booking) (v w : Bookings) (b : Bool) → tree.IsOrdered place_cmp m →
    tree.IsOrdered place_cmp n
    → fin.from_entries m.entries ≡ v → fin.from_entries n.entries ≡ w
    → b ≡ pointwise (λ p q. (kinds.eq p.0.0 q.0.0 && (p.0.1 == q.0.1)) && bookings.eq p.1 q.1) m.entries n.entries →
    TellsSame v w b
maps_alike m n v w b om on sm sn is =
    rw is (go (pointwise E m.entries n.entries) (lists_alike E entry_alike m.entries n.entries))
  where
    E : Place × Booking → Place × Booking → Bool
    E p q = (kinds.eq p.0.0 q.0.0 && (p.0.1 == q.0.1)) && bookings.eq p.1 q.1

    go : (t : Bool) → TellsSame m.entries n.entries t → TellsSame v w t
    go true e = sym sm ∙ ap (λ es. fin.from_entries {R = place_cmp} es) e ∙ sn
    go false e = λ i. e (sym (entries_of_sorted place_cmp_total m.entries om) ∙ ap fin.entries (sm ∙ i ∙ sym sn) ∙
        entries_of_sorted place_cmp_total n.entries on)
