-- The order of bookings.
use Rattle.std.proofs.lemmas.Bool.Decides.{nat_tests}
use Rattle.std.proofs.Common.{◌≡◌, refl, arith}
use Rattle.std.specs.declared.cmp.Ordering.{Ordering}
use Rattle.std.specs.declared.cmp.Ordering.TheVariants.{Less, Equal, Greater}
use Rattle.std.specs.Ordering.{nat_cmp, ordering_then, on}
use Rattle.std.specs.Cmp.{IsTotalOrder, nat_cmp_total, then_total}
use Rattle.std.specs.FinMap.{IsAntisymmetric}
use Rattle.vac_model.specs.declared.items.Kind.{Kind}
use Rattle.vac_model.specs.declared.items.Kind.TheVariants.{Car, Flight, Room}
use Rattle.vac_model.specs.contracts.items.KindOrd.TheImpl.{ghosts}
use Rattle.vac_model.specs.State.{Place, place_cmp, kind_number}

-- an order by what a function gives
pub on_total : {K J : Type 0} (f : K → J) {R : J → J → Ordering} → IsTotalOrder R → IsTotalOrder (on f R)
on_total f o = grind (arith, nat_tests)

pub place_cmp_total : IsTotalOrder place_cmp
place_cmp_total = then_total (on_total (λ (p : Place). kind_number p.0) nat_cmp_total)
    (on_total (λ (p : Place). p.1) nat_cmp_total)

-- the derived order of kinds is that of their numbers
kind_cmp : (a b : Kind) → ghosts.cmp a b ≡ nat_cmp (kind_number a) (kind_number b)
kind_cmp Car Car = refl
kind_cmp Car Flight = refl
kind_cmp Car Room = refl
kind_cmp Flight Car = refl
kind_cmp Flight Flight = refl
kind_cmp Flight Room = refl
kind_cmp Room Car = refl
kind_cmp Room Flight = refl
kind_cmp Room Room = refl

-- so the order of pairs in the code is the order of bookings
pub pair_cmp : ◌≡◌ {A = Place → Place → Ordering} (λ p q. ordering_then (ghosts.cmp p.0 q.0) (nat_cmp p.1 q.1))
    place_cmp
pair_cmp = λ i p q. ordering_then (kind_cmp p.0 q.0 i) (nat_cmp p.1 q.1)

same_kind : (a b : Kind) → kind_number a ≡ kind_number b → a ≡ b
same_kind Car Car e = refl
same_kind Car Flight e = absurd (omega arith)
same_kind Car Room e = absurd (omega arith)
same_kind Flight Car e = absurd (omega arith)
same_kind Flight Flight e = refl
same_kind Flight Room e = absurd (omega arith)
same_kind Room Car e = absurd (omega arith)
same_kind Room Flight e = absurd (omega arith)
same_kind Room Room e = refl

then_equal : (a b : Ordering) → ordering_then a b ≡ Equal → (a ≡ Equal) × (b ≡ Equal)
then_equal Less b e = absurd (let h : Less ≡ Equal = e in cc)
then_equal Equal b e = (refl, e)
then_equal Greater b e = absurd (let h : Greater ≡ Equal = e in cc)

pub place_cmp-IsAntisymmetric : IsAntisymmetric place_cmp
place_cmp-IsAntisymmetric p q e = grind (arith, nat_tests, then_equal, same_kind p.0 q.0)
