-- Trips that were booked, one behind the other.
use Rattle.std.proofs.Common.{◌≡◌, ◌∙◌, ℕ, zero, suc, ◌+◌, ◌*◌, ◌<◌, ◌≤◌, ◌⊎◌, inl, inr, List, [], ◌∷◌, ◌++◌, length}
use Rattle.std.proofs.Common.{length-append, refl, sym, ap, subst, arith}
use mathlib.Core.Option.{some-injective, some-ne-none}
use Rattle.tx_memory.specs.Image.{In}
use Rattle.stm_core.specs.Client.{Record}
use Rattle.stm_core.specs.History.{Sub, done, keep, skip}
use Rattle.ex_desk.specs.declared.desk.Desk.{Desk}
use Rattle.ex_desk.specs.Desks.{asked, Ascend, AreTrips, BookedTrips, HasBooked, Paid}
use Rattle.ex_desk.specs.Rounds.{IsNextPaid, ArePaid}

pub ascend_more : (low : ℕ) (ns : List ℕ) (n high : ℕ) → Ascend low ns n → n < high → Ascend low (ns ++ (n ∷ [])) high
ascend_more low [] n high h l = let m : n + 1 ≤ high = omega (arith, l) in (h, m)
ascend_more low (m ∷ ns) n high h l = (h.0, ascend_more (m + 1) ns n high h.1 l)

pub ascend_on : (low : ℕ) (ns : List ℕ) (n high : ℕ) → Ascend low ns n → n ≤ high → Ascend low ns high
ascend_on low [] n high h l = let m : low ≤ high = omega (arith, h, l) in m
ascend_on low (m ∷ ns) n high h l = (h.0, ascend_on (m + 1) ns n high h.1 l)

ascend_from : (low mid : ℕ) (ns : List ℕ) (high : ℕ) → low ≤ mid → Ascend mid ns high → Ascend low ns high
ascend_from low mid [] high l h = let m : low ≤ high = omega (arith, h, l) in m
ascend_from low mid (n ∷ ns) high l h = let m : low ≤ n = omega (arith, l, h.0) in (m, h.1)

pub ascend_both : (low : ℕ) (ns : List ℕ) (mid : ℕ) (ms : List ℕ) (high : ℕ) → Ascend low ns mid → Ascend mid ms high →
    Ascend low (ns ++ ms) high
ascend_both low [] mid ms high h k = ascend_from low mid ms high h k
ascend_both low (n ∷ ns) mid ms high h k = (h.0, ascend_both (n + 1) ns mid ms high h.1 k)

pub are_both : (desk : ℕ) (ns ms : List ℕ) (rs qs : List Record) → AreTrips desk ns rs → AreTrips desk ms qs →
    AreTrips desk (ns ++ ms) (rs ++ qs)
are_both desk [] ms [] qs h k = k
are_both desk [] ms (r ∷ rs) qs h k = absurd h
are_both desk (n ∷ ns) ms [] qs h k = absurd h
are_both desk (n ∷ ns) ms (r ∷ rs) qs h k = (h.0, are_both desk ns ms rs qs h.1 k)

pub in_none : (r : Record) → In r [] → ⊥
in_none r i = some-ne-none r (sym i.1)

pub in_both : (rs qs : List Record) (r : Record) → In r (rs ++ qs) → In r rs ⊎ In r qs
in_both [] qs r i = inr i
in_both (x ∷ rs) qs r (zero, e) = inl (zero, e)
in_both (x ∷ rs) qs r (suc j, e) = elim (in_both rs qs r (j, e)) [ inl k ↦ inl (suc k.0, k.1) | inr k ↦ inr k ]

pub in_one : (x r : Record) → In r (x ∷ []) → x ≡ r
in_one x r (zero, e) = some-injective x r e
in_one x r (suc j, e) = absurd (some-ne-none r (sym e))

-- ---- the attempts that trips cost
one_more : (n k : ℕ) → (n + 1) * k ≡ n * k + k
one_more n k = grind arith

pub paid_none : (price from low : ℕ) → Paid price from low [] [] low from
paid_none price from low = let l : from + low * price ≤ from + low * price = omega arith in l

-- attempts that cost nothing
pub paid_same : (price from low : ℕ) (ns : List ℕ) (rs : List Record) (high to to' : ℕ) →
    Paid price from low ns rs high to → to ≤ to' → Paid price from low ns rs high to'
paid_same price from low [] [] high to to' h l = let m : from + high * price ≤ to' + low * price =
    omega (arith, h, l) in m
paid_same price from low [] (r ∷ rs) high to to' h l = absurd h
paid_same price from low (n ∷ ns) [] high to to' h l = absurd h
paid_same price from low (n ∷ ns) (r ∷ rs) high to to' h l =
    (h.0, paid_same price r.attempt (n + 1) ns rs high to to' h.1 l)

-- the next trip was given up
pub paid_on : (price from low : ℕ) (ns : List ℕ) (rs : List Record) (high high' to to' : ℕ) →
    Paid price from low ns rs high to → high' ≡ high + 1 → to' ≡ to + price → Paid price from low ns rs high' to'
paid_on price from low [] [] high high' to to' h e f =
    let more : high' * price ≡ high * price + price = ap (λ (k : ℕ). k * price) e ∙ one_more high price in
    let m : from + high' * price ≤ to' + low * price = omega (arith, h, more, f) in
    m
paid_on price from low [] (r ∷ rs) high high' to to' h e f = absurd h
paid_on price from low (n ∷ ns) [] high high' to to' h e f = absurd h
paid_on price from low (n ∷ ns) (r ∷ rs) high high' to to' h e f =
    (h.0, paid_on price r.attempt (n + 1) ns rs high high' to to' h.1 e f)

-- the next trip was booked
pub paid_more : (price from low : ℕ) (ns : List ℕ) (rs : List Record) (r : Record) (high high' to to' : ℕ) →
    Paid price from low ns rs high to → high' ≡ high + 1 → to < to' → r.attempt ≡ to' →
    Paid price from low (ns ++ (high ∷ [])) (rs ++ (r ∷ [])) high' to'
paid_more price from low [] [] r high high' to to' h e l f =
    let same : high' * price ≡ (high + 1) * price = ap (λ (k : ℕ). k * price) e in
    let a : from + high * price < r.attempt + low * price = omega (arith, h, l, f) in
    let b : r.attempt + high' * price ≤ to' + (high + 1) * price = omega (arith, same, f) in
    (a, b)
paid_more price from low [] (q ∷ rs) r high high' to to' h e l f = absurd h
paid_more price from low (n ∷ ns) [] r high high' to to' h e l f = absurd h
paid_more price from low (n ∷ ns) (q ∷ rs) r high high' to to' h e l f =
    (h.0, paid_more price q.attempt (n + 1) ns rs r high high' to to' h.1 e l f)

-- the trips between two booked ones
next_between : (price n : ℕ) (r : Record) (ms : List ℕ) (qs : List Record) (high to : ℕ) →
    Paid price r.attempt (n + 1) ms qs high to → IsNextPaid price n r ms qs
next_between price n r [] qs high to h = tt
next_between price n r (m ∷ ms) [] high to h = tt
next_between price n r (m ∷ ms) (q ∷ qs) high to h = λ same. h.0

pub paid_between : (price from low : ℕ) (ns : List ℕ) (rs : List Record) (high to : ℕ) →
    Paid price from low ns rs high to → ArePaid price ns rs
paid_between price from low [] rs high to h = tt
paid_between price from low (n ∷ ns) [] high to h = tt
paid_between price from low (n ∷ ns) (r ∷ rs) high to h = (
  next_between price n r ns rs high to h.1,
  paid_between price r.attempt (n + 1) ns rs high to h.1,
)

next_both : (price desk n : ℕ) (r : Record) (ns ms : List ℕ) (rs qs : List Record) → AreTrips desk ns rs →
    IsNextPaid price n r ns rs → ((q : Record) → In q qs → r.renewal ≡ q.renewal → ⊥) →
    IsNextPaid price n r (ns ++ ms) (rs ++ qs)
next_both price desk n r [] [] [] qs t h f = tt
next_both price desk n r [] (m ∷ ms) [] [] t h f = tt
next_both price desk n r [] (m ∷ ms) [] (q ∷ qs) t h f = λ same. absurd (f q (zero, refl) same)
next_both price desk n r [] ms (x ∷ rs) qs t h f = absurd t
next_both price desk n r (m ∷ ns) ms [] qs t h f = absurd t
next_both price desk n r (m ∷ ns) ms (x ∷ rs) qs t h f = h

-- in some rounds, and then in others, of other renewals
pub paid_both : (price desk : ℕ) (ns ms : List ℕ) (rs qs : List Record) → AreTrips desk ns rs → ArePaid price ns rs →
    ArePaid price ms qs → ((r q : Record) → In r rs → In q qs → r.renewal ≡ q.renewal → ⊥) →
    ArePaid price (ns ++ ms) (rs ++ qs)
paid_both price desk [] ms [] qs t h k f = k
paid_both price desk [] ms (r ∷ rs) qs t h k f = absurd t
paid_both price desk (n ∷ ns) ms [] qs t h k f = absurd t
paid_both price desk (n ∷ ns) ms (r ∷ rs) qs t h k f = (
  next_both price desk n r ns ms rs qs t.1 h.0 (λ q j. f r q (zero, refl) j),
  paid_both price desk ns ms rs qs t.1 h.1 k (λ x q i j. f x q (suc i.0, i.1) j),
)

-- the same trips of another state of the desk
pub same_desk : (a b : ℕ) (ns : List ℕ) (rs : List Record) → a ≡ b → AreTrips a ns rs → AreTrips b ns rs
same_desk a b ns rs e h = subst (λ (k : ℕ). AreTrips k ns rs) e h

-- nothing booked
pub booked_none : (d : Desk) → HasBooked d d (record { trips = []; records = [] })
booked_none d =
    let l : asked d ≤ asked d = omega arith in
    record { same = refl; ascend = l; booked = omega arith; given_up = omega arith; are_of = tt }

-- in some rounds, and then in others
pub booked_both : (d e f : Desk) (x y : BookedTrips) → HasBooked d e x → HasBooked e f y →
    HasBooked d f (record { trips = x.trips ++ y.trips; records = x.records ++ y.records })
booked_both d e f x y h k = record {
  same = k.same ∙ h.same;
  ascend = ascend_both (asked d) x.trips (asked e) y.trips (asked f) h.ascend k.ascend;
  booked = omega (arith, length-append x.trips y.trips, h.booked, k.booked);
  given_up = omega (arith, h.given_up, k.given_up);
  are_of = are_both d.number x.trips y.trips x.records y.records h.are_of
      (same_desk e.number d.number y.trips y.records h.same k.are_of);
}

sub_after : {A : Type 0} (us bs xs : List A) → Sub xs bs → Sub xs (us ++ bs)
sub_after [] bs xs p = p
sub_after (u ∷ us) bs xs p = skip u (sub_after us bs xs p)

pub sub_both : {A : Type 0} {xs us : List A} (ys vs : List A) → Sub xs us → Sub ys vs → Sub (xs ++ ys) (us ++ vs)
sub_both ys vs (done {ys = us}) q = sub_after us vs ys q
sub_both ys vs (keep x p) q = keep x (sub_both ys vs p q)
sub_both ys vs (skip y p) q = skip y (sub_both ys vs p q)

-- what holds of none of the first stands behind them
pub sub_beyond : (l m x : List Record) → ((r : Record) → In r m → In r l → ⊥) → Sub m (l ++ x) → Sub m x
sub_beyond [] m x f p = p
sub_beyond (y ∷ l) m x f (done {ys = ys}) = done
sub_beyond (y ∷ l) m x f (keep z p) = absurd (f z (zero, refl) (zero, refl))
sub_beyond (y ∷ l) m x f (skip z p) = sub_beyond l m x (λ r i j. f r i (suc j.0, j.1)) p

pub length_trips : (desk : ℕ) (ns : List ℕ) (rs : List Record) → AreTrips desk ns rs → length rs ≡ length ns
length_trips desk [] [] h = refl
length_trips desk [] (r ∷ rs) h = absurd h
length_trips desk (n ∷ ns) [] h = absurd h
length_trips desk (n ∷ ns) (r ∷ rs) h = ap suc (length_trips desk ns rs h.1)
