-- Effects of changes of a state on its part.
use Rattle.std.proofs.Common.{◌≡◌, ◌≢◌, ◌⊎◌, ℕ, ◌&&◌, true, false, cond, refl, ap, sym, subst, ◌∙◌, inl, inr}
use Rattle.std.specs.Prelude.{Some, None, is_some}
use Rattle.std.specs.Option.{option_map, option_and_then}
use Rattle.std.specs.Cmp.{nat_cmp_total}
use Rattle.std.specs.FinMap as map
use Rattle.std.specs.FinMap.{get, remove, empty, nat_cmp-IsAntisymmetric}
use Rattle.vac_model.specs.declared.items.Kind.{Kind}
use Rattle.vac_model.specs.declared.items.Item.{Item}
use Rattle.vac_model.specs.State.{State, Bookings, Place, Customers, ItemTable, table_of, item_of, with_item}
use Rattle.vac_model.specs.State.{without_item, bookings_of, with_bookings, place_cmp}
use Rattle.vac_model.proofs.Places.{place_cmp_total, place_cmp-IsAntisymmetric}
use Rattle.vac_model.proofs.Sums.{get_here, get_elsewhere, either_key, get_removed, removed_elsewhere}
use Rattle.vac_model.proofs.States.{item_of-with_bookings, customers-with_table, table_of-with_table, other_table}
use Rattle.vac_model.proofs.Balance.{item_here, item_elsewhere}
use Rattle.judge_reservations.specs.declared.scope.Scope.{Scope}
use Rattle.judge_reservations.specs.Scopes.{has_customer, has_item, is_closed, is_whole}
use Rattle.judge_reservations.specs.Parts.{offer_of, is_customer, booking_of, IsPart, IsConfined}
use Rattle.judge_reservations.proofs.Restricted.{Restricts, Sets, set_both, set_out, same_left, same_right}
use Rattle.judge_reservations.proofs.Restricted.{both_default}

-- a state with its part
pub record Near (scope : Scope) (s p : State) : Type 0 where
  pub part : IsPart scope s p
  pub confined : IsConfined scope s

abbrev pub either_customer : (q c : ℕ) → (q ≡ c) ⊎ (q ≡ c → ⊥)
either_customer q c = either_key nat_cmp_total nat_cmp-IsAntisymmetric q c

abbrev pub either_place : (q p : Place) → (q ≡ p) ⊎ (q ≡ p → ⊥)
either_place q p = either_key place_cmp_total place_cmp-IsAntisymmetric q p

-- total and price of an item
abbrev pub offer : Item → ℕ × ℕ
offer i = (i.total, i.price)

set_offer : (s : State) (kind : Kind) (id : ℕ) (i : Item) →
    Sets (offer_of s) (offer_of (with_item s kind id i)) (kind, id) (Some (offer i))
set_offer s kind id i = record {
  here = ap (option_map offer) (item_here s kind id i);
  elsewhere = λ q apart. ap (option_map offer) (item_elsewhere s kind id i q.0 q.1 apart);
}

gone_here : (s : State) (kind : Kind) (id : ℕ) → item_of (without_item s kind id) kind id ≡ None
gone_here s kind id =
    ap (λ (t : ItemTable). get t id) (table_of-with_table s kind (remove (table_of s kind) id)) ∙
    get_removed nat_cmp_total nat_cmp-IsAntisymmetric (table_of s kind) id

gone_elsewhere : (s : State) (kind : Kind) (id : ℕ) (k : Kind) (i : ℕ) → (◌≢◌ {A = Place} (k, i) (kind, id)) →
    item_of (without_item s kind id) k i ≡ item_of s k i
gone_elsewhere s kind id k i apart = elim (other_table s kind (remove (table_of s kind) id) k) [
  | inl same ↦
      let place : i ≢ id = λ e. apart (λ j. (same.0 j, e j)) in
      ap (λ (t : ItemTable). get t i) same.1 ∙ removed_elsewhere nat_cmp_total nat_cmp-IsAntisymmetric
      (table_of s kind) id i place
      ∙ ap (λ x. item_of s x i) (sym same.0)
  | inr other ↦ ap (λ (t : ItemTable). get t i) other
]

clear_offer : (s : State) (kind : Kind) (id : ℕ) →
    Sets (offer_of s) (offer_of (without_item s kind id)) (kind, id) None
clear_offer s kind id = record {
  here = ap (option_map offer) (gone_here s kind id);
  elsewhere = λ q apart. ap (option_map offer) (gone_elsewhere s kind id q.0 q.1 apart);
}

module _ (scope : Scope) (s p : State) (near : Near scope s p) where
  -- items change, customers stay
  near_items : (s' p' : State) → s'.customers ≡ s.customers → p'.customers ≡ p.customers →
      Restricts (has_item scope) None (offer_of s') (offer_of p') → Near scope s' p'
  near_items s' p' left right offers = record {
    part = record {
      offers = offers;
      customers = λ c. ap (λ (cs : Customers). is_some (get cs c)) right ∙ near.part.customers c
          ∙ ap (λ (cs : Customers). cond (has_customer scope c) (is_some (get cs c)) false) (sym left);
      bookings = λ c q. ap (λ (cs : Customers). option_and_then (λ b. get b q) (get cs c)) right
          ∙ near.part.bookings c q
          ∙ ap (λ (cs : Customers). cond (has_customer scope c && has_item scope q)
          (option_and_then (λ b. get b q) (get cs c)) None) (sym left);
    };
    confined = record {
      closed = λ c q e f. ap (λ (cs : Customers). option_and_then (λ b. get b q) (get cs c)) left
          ∙ near.confined.closed c q e f;
      whole = λ c q e f. ap (λ (cs : Customers). option_and_then (λ b. get b q) (get cs c)) left
          ∙ near.confined.whole c q e f;
    };
  }

  -- an item of the scope gets the same total and price in both
  pub near_item_both : (kind : Kind) (id : ℕ) (i j : Item) → has_item scope (kind, id) ≡ true → offer j ≡ offer i →
      Near scope (with_item s kind id i) (with_item p kind id j)
  near_item_both kind id i j e same =
      near_items (with_item s kind id i) (with_item p kind id j) (customers-with_table s kind _)
      (customers-with_table p kind _)
      (set_both (has_item scope) None (offer_of s) (offer_of (with_item s kind id i)) (offer_of p)
      (offer_of (with_item p kind id j)) (kind, id) (Some (offer i)) (λ q. either_place q (kind, id)) e
      near.part.offers (set_offer s kind id i)
      (subst (λ o. Sets (offer_of p) (offer_of (with_item p kind id j)) (kind, id) (Some o)) same
      (set_offer p kind id j)))

  -- an item outside the scope changes
  pub near_item_out : (kind : Kind) (id : ℕ) (i : Item) → has_item scope (kind, id) ≡ false →
      Near scope (with_item s kind id i) p
  near_item_out kind id i e =
      near_items (with_item s kind id i) p (customers-with_table s kind _) refl
      (set_out (has_item scope) None (offer_of s) (offer_of (with_item s kind id i)) (offer_of p)
      (offer_of p) (kind, id) (Some (offer i)) (λ q. either_place q (kind, id)) e
      near.part.offers (set_offer s kind id i))

  -- an item keeps its total and price
  pub near_item_kept : (kind : Kind) (id : ℕ) (old i : Item) → item_of s kind id ≡ Some old → offer i ≡ offer old →
      Near scope (with_item s kind id i) p
  near_item_kept kind id old i there same =
      near_items (with_item s kind id i) p (customers-with_table s kind _) refl
      (same_left (has_item scope) None (offer_of s) (offer_of (with_item s kind id i)) (offer_of p)
      (λ q. elim (either_place q (kind, id)) [
        | inl is ↦ subst (λ x. offer_of (with_item s kind id i) x ≡ offer_of s x) (sym is)
            ((set_offer s kind id i).here ∙ ap Some same ∙ sym (ap (option_map offer) there))
        | inr apart ↦ (set_offer s kind id i).elsewhere q apart
      ]) near.part.offers)

  -- an item of the scope is removed from both
  pub near_gone_both : (kind : Kind) (id : ℕ) → has_item scope (kind, id) ≡ true →
      Near scope (without_item s kind id) (without_item p kind id)
  near_gone_both kind id e =
      near_items (without_item s kind id) (without_item p kind id) (customers-with_table s kind _)
      (customers-with_table p kind _)
      (set_both (has_item scope) None (offer_of s) (offer_of (without_item s kind id)) (offer_of p)
      (offer_of (without_item p kind id)) (kind, id) None (λ q. either_place q (kind, id)) e
      near.part.offers (clear_offer s kind id) (clear_offer p kind id))

  pub near_gone_out : (kind : Kind) (id : ℕ) → has_item scope (kind, id) ≡ false →
      Near scope (without_item s kind id) p
  near_gone_out kind id e =
      near_items (without_item s kind id) p (customers-with_table s kind _) refl
      (set_out (has_item scope) None (offer_of s) (offer_of (without_item s kind id)) (offer_of p)
      (offer_of p) (kind, id) None (λ q. either_place q (kind, id)) e
      near.part.offers (clear_offer s kind id))

-- bookings after those of a customer were replaced
booking_here : (s : State) (c : ℕ) (b : Bookings) (q : Place) → booking_of (with_bookings s c b) c q ≡ get b q
booking_here s c b q = ap (option_and_then (λ (x : Bookings). get x q))
    (get_here nat_cmp_total nat_cmp-IsAntisymmetric s.customers c b)

booking_elsewhere : (s : State) (c : ℕ) (b : Bookings) (d : ℕ) (q : Place) → (d ≡ c → ⊥) →
    booking_of (with_bookings s c b) d q ≡ booking_of s d q
booking_elsewhere s c b d q apart = ap (option_and_then (λ (x : Bookings). get x q))
    (get_elsewhere nat_cmp_total nat_cmp-IsAntisymmetric s.customers c b d apart)

set_customer : (s : State) (c : ℕ) (b : Bookings) → Sets (is_customer s) (is_customer (with_bookings s c b)) c true
set_customer s c b = record {
  here = ap is_some (get_here nat_cmp_total nat_cmp-IsAntisymmetric s.customers c b);
  elsewhere = λ q apart. ap is_some (get_elsewhere nat_cmp_total nat_cmp-IsAntisymmetric s.customers c b q apart);
}

same_offer : (s : State) (c : ℕ) (b : Bookings) (q : Place) → offer_of (with_bookings s c b) q ≡ offer_of s q
same_offer s c b q = ap (option_map offer) (item_of-with_bookings s c b q.0 q.1)

-- bookings that differ at one item alone
abbrev pub DifferAt : Place → Bookings → Bookings → Type 0
DifferAt place b b' = (q : Place) → (q ≡ place → ⊥) → get b' q ≡ get b q

-- the offers of two states after their bookings were replaced
offers_left : (scope : Scope) (s p : State) (c : ℕ) (b : Bookings) → Near scope s p →
    Restricts (has_item scope) None (offer_of (with_bookings s c b)) (offer_of p)
offers_left scope s p c b near =
    same_left (has_item scope) None (offer_of s) (offer_of (with_bookings s c b)) (offer_of p) (same_offer s c b)
    near.part.offers

offers_both : (scope : Scope) (s p : State) (c : ℕ) (b x : Bookings) → Near scope s p →
    Restricts (has_item scope) None (offer_of (with_bookings s c b)) (offer_of (with_bookings p c x))
offers_both scope s p c b x near =
    same_right (has_item scope) None (offer_of (with_bookings s c b)) (offer_of p) (offer_of (with_bookings p c x))
    (same_offer p c x) (offers_left scope s p c b near)

module _ (scope : Scope) (s p : State) (near : Near scope s p) (c : ℕ) (place : Place) (b b' : Bookings)
    (there : bookings_of s c ≡ Some b) (differ : DifferAt place b b') where
  found : (q : Place) → booking_of s c q ≡ get b q
  found q = ap (option_and_then (λ (x : Bookings). get x q)) there

  confined_after : (is_closed scope place ≡ true → has_customer scope c ≡ false → get b' place ≡ None) →
      (is_whole scope c ≡ true → has_item scope place ≡ false → get b' place ≡ None) →
      IsConfined scope (with_bookings s c b')
  confined_after closed whole = record {
    closed = λ d q e f. elim (either_customer d c) [
      | inl is ↦ subst (λ x. booking_of (with_bookings s c b') x q ≡ None) (sym is) (booking_here s c b' q ∙
          elim (either_place q place) [
            | inl same ↦ subst (λ x. get b' x ≡ None) (sym same)
                (closed (subst (λ x. is_closed scope x ≡ true) same e)
                (subst (λ x. has_customer scope x ≡ false) is f))
            | inr apart ↦ differ q apart ∙ sym (found q)
                ∙ near.confined.closed c q e (subst (λ x. has_customer scope x ≡ false) is f)
          ])
      | inr apart ↦ booking_elsewhere s c b' d q apart ∙ near.confined.closed d q e f
    ];
    whole = λ d q e f. elim (either_customer d c) [
      | inl is ↦ subst (λ x. booking_of (with_bookings s c b') x q ≡ None) (sym is) (booking_here s c b' q ∙
          elim (either_place q place) [
            | inl same ↦ subst (λ x. get b' x ≡ None) (sym same)
                (whole (subst (λ x. is_whole scope x ≡ true) is e)
                (subst (λ x. has_item scope x ≡ false) same f))
            | inr apart ↦ differ q apart ∙ sym (found q)
                ∙ near.confined.whole c q (subst (λ x. is_whole scope x ≡ true) is e) f
          ])
      | inr apart ↦ booking_elsewhere s c b' d q apart ∙ near.confined.whole d q e f
    ];
  }

  -- a booking changes that is not in the part
  pub near_booked_out : (has_customer scope c && has_item scope place) ≡ false →
      (is_closed scope place ≡ true → has_customer scope c ≡ false → get b' place ≡ None) →
      (is_whole scope c ≡ true → has_item scope place ≡ false → get b' place ≡ None) →
      Near scope (with_bookings s c b') p
  near_booked_out out closed whole = record {
    part = record {
      offers = offers_left scope s p c b' near;
      customers = same_left (has_customer scope) false (is_customer s) (is_customer (with_bookings s c b'))
          (is_customer p)
          (λ d. elim (either_customer d c) [
            | inl is ↦ subst (λ x. is_customer (with_bookings s c b') x ≡ is_customer s x) (sym is)
                ((set_customer s c b').here ∙ sym (ap is_some there))
            | inr apart ↦ (set_customer s c b').elsewhere d apart
          ]) near.part.customers;
      bookings = λ d q. near.part.bookings d q ∙ elim (either_customer d c) [
        | inl is ↦ elim (either_place q place) [
          | inl same ↦
              let none : (has_customer scope d && has_item scope q) ≡ false =
              ap (λ x. has_customer scope x && has_item scope q) is
              ∙ ap (λ x. has_customer scope c && has_item scope x) same ∙ out in
              ap (λ t. cond t (booking_of s d q) None) none
              ∙ sym (ap (λ t. cond t (booking_of (with_bookings s c b') d q) None) none)
          | inr apart ↦ ap (λ x. cond (has_customer scope d && has_item scope q) x None)
              (subst (λ x. booking_of s x q ≡ booking_of (with_bookings s c b') x q) (sym is)
              (found q ∙ sym (differ q apart) ∙ sym (booking_here s c b' q)))
        ]
        | inr apart ↦ ap (λ x. cond (has_customer scope d && has_item scope q) x None)
            (sym (booking_elsewhere s c b' d q apart))
      ];
    };
    confined = confined_after closed whole;
  }

  -- a booking changes in both
  pub near_booked_both : (x x' : Bookings) → bookings_of p c ≡ Some x → DifferAt place x x' →
      has_customer scope c ≡ true → has_item scope place ≡ true → get x' place ≡ get b' place →
      Near scope (with_bookings s c b') (with_bookings p c x')
  near_booked_both x x' known changes in_customers in_items same = record {
    part = record {
      offers = offers_both scope s p c b' x' near;
      customers = set_both (has_customer scope) false (is_customer s) (is_customer (with_bookings s c b'))
          (is_customer p) (is_customer (with_bookings p c x')) c true (λ d. either_customer d c) in_customers
          near.part.customers (set_customer s c b') (set_customer p c x');
      bookings = λ d q. elim (either_customer d c) [
        | inl is ↦ subst (λ y. booking_of (with_bookings p c x') y q
            ≡ cond (has_customer scope y && has_item scope q) (booking_of (with_bookings s c b') y q) None) (sym is)
            (booking_here p c x' q ∙ own q
            ∙ sym (ap (λ y. cond (has_customer scope c && has_item scope q) y None) (booking_here s c b' q)))
        | inr apart ↦ booking_elsewhere p c x' d q apart ∙ near.part.bookings d q
            ∙ ap (λ y. cond (has_customer scope d && has_item scope q) y None)
            (sym (booking_elsewhere s c b' d q apart))
      ];
    };
    confined = confined_after
        (λ _ e. absurd (let never : true ≡ false = sym in_customers ∙ e in cc))
        (λ _ e. absurd (let never : true ≡ false = sym in_items ∙ e in cc));
  }
    where
      own : (q : Place) → get x' q ≡ cond (has_customer scope c && has_item scope q) (get b' q) None
      own q = elim (either_place q place) [
        | inl is ↦ subst (λ y. get x' y ≡ cond (has_customer scope c && has_item scope y) (get b' y) None) (sym is)
            (same ∙ sym (ap (λ t. cond (t && has_item scope place) (get b' place) None) in_customers
            ∙ ap (λ t. cond t (get b' place) None) in_items))
        | inr apart ↦ changes q apart ∙ sym (ap (option_and_then (λ (y : Bookings). get y q)) known)
            ∙ near.part.bookings c q
            ∙ ap (λ y. cond (has_customer scope c && has_item scope q) y None) (found q ∙ sym (differ q apart))
      ]

-- a customer without bookings is new
module _ (scope : Scope) (s p : State) (near : Near scope s p) (c : ℕ) (missing : bookings_of s c ≡ None) where
  no_bookings : (s : State) → bookings_of s c ≡ None → (d : ℕ) (q : Place) →
      booking_of (with_bookings s c empty) d q ≡ booking_of s d q
  no_bookings s missing d q = elim (either_customer d c) [
    | inl is ↦ subst (λ x. booking_of (with_bookings s c empty) x q ≡ booking_of s x q) (sym is)
        (booking_here s c empty q ∙ map.get-empty place_cmp q
        ∙ sym (ap (option_and_then (λ (x : Bookings). get x q)) missing))
    | inr apart ↦ booking_elsewhere s c empty d q apart
  ]

  confined_still : IsConfined scope (with_bookings s c empty)
  confined_still = record {
    closed = λ d q e f. no_bookings s missing d q ∙ near.confined.closed d q e f;
    whole = λ d q e f. no_bookings s missing d q ∙ near.confined.whole d q e f;
  }

  bookings_still : (d : ℕ) (q : Place) → booking_of p d q
      ≡ cond (has_customer scope d && has_item scope q) (booking_of (with_bookings s c empty) d q) None
  bookings_still d q = near.part.bookings d q
      ∙ ap (λ x. cond (has_customer scope d && has_item scope q) x None) (sym (no_bookings s missing d q))

  pub near_new_out : has_customer scope c ≡ false → Near scope (with_bookings s c empty) p
  near_new_out out = record {
    part = record {
      offers = offers_left scope s p c empty near;
      customers = set_out (has_customer scope) false (is_customer s) (is_customer (with_bookings s c empty))
          (is_customer p) (is_customer p) c true (λ d. either_customer d c) out near.part.customers
          (set_customer s c empty);
      bookings = bookings_still;
    };
    confined = confined_still;
  }

  pub near_new_both : has_customer scope c ≡ true → bookings_of p c ≡ None →
      Near scope (with_bookings s c empty) (with_bookings p c empty)
  near_new_both in_customers none = record {
    part = record {
      offers = offers_both scope s p c empty empty near;
      customers = set_both (has_customer scope) false (is_customer s) (is_customer (with_bookings s c empty))
          (is_customer p) (is_customer (with_bookings p c empty)) c true (λ d. either_customer d c) in_customers
          near.part.customers (set_customer s c empty) (set_customer p c empty);
      bookings = λ d q. no_bookings p none d q ∙ bookings_still d q;
    };
    confined = confined_still;
  }

-- a customer leaves, and the items keep their totals and prices
pub record Departs (s s' : State) (c : ℕ) : Type 0 where
  pub customers : s'.customers ≡ remove s.customers c
  pub offers : (q : Place) → offer_of s' q ≡ offer_of s q

module _ (s s' : State) (c : ℕ) (departs : Departs s s' c) where
  booking_gone : (q : Place) → booking_of s' c q ≡ None
  booking_gone q = ap (λ (cs : Customers). option_and_then (λ b. get b q) (get cs c)) departs.customers
      ∙ ap (option_and_then (λ (x : Bookings). get x q))
      (get_removed nat_cmp_total nat_cmp-IsAntisymmetric s.customers c)

  booking_left : (d : ℕ) (q : Place) → (d ≡ c → ⊥) → booking_of s' d q ≡ booking_of s d q
  booking_left d q apart = ap (λ (cs : Customers). option_and_then (λ b. get b q) (get cs d)) departs.customers
      ∙ ap (option_and_then (λ (x : Bookings). get x q))
      (removed_elsewhere nat_cmp_total nat_cmp-IsAntisymmetric s.customers c d apart)

  clear_customer : Sets (is_customer s) (is_customer s') c false
  clear_customer = record {
    here = ap (λ (cs : Customers). is_some (get cs c)) departs.customers
        ∙ ap is_some (get_removed nat_cmp_total nat_cmp-IsAntisymmetric s.customers c);
    elsewhere = λ d apart. ap (λ (cs : Customers). is_some (get cs d)) departs.customers
        ∙ ap is_some (removed_elsewhere nat_cmp_total nat_cmp-IsAntisymmetric s.customers c d apart);
  }

module _ (scope : Scope) (s s' p : State) (near : Near scope s p) (c : ℕ) (departs : Departs s s' c) where
  confined_departed : IsConfined scope s'
  confined_departed = record {
    closed = λ d q e f. elim (either_customer d c) [
      | inl is ↦ subst (λ x. booking_of s' x q ≡ None) (sym is) (booking_gone s s' c departs q)
      | inr apart ↦ booking_left s s' c departs d q apart ∙ near.confined.closed d q e f
    ];
    whole = λ d q e f. elim (either_customer d c) [
      | inl is ↦ subst (λ x. booking_of s' x q ≡ None) (sym is) (booking_gone s s' c departs q)
      | inr apart ↦ booking_left s s' c departs d q apart ∙ near.confined.whole d q e f
    ];
  }

  offers_departed : Restricts (has_item scope) None (offer_of s') (offer_of p)
  offers_departed = same_left (has_item scope) None (offer_of s) (offer_of s') (offer_of p) departs.offers
      near.part.offers

  pub near_left_out : has_customer scope c ≡ false → Near scope s' p
  near_left_out out = record {
    part = record {
      offers = offers_departed;
      customers = set_out (has_customer scope) false (is_customer s) (is_customer s') (is_customer p) (is_customer p)
          c false (λ d. either_customer d c) out near.part.customers (clear_customer s s' c departs);
      bookings = λ d q. near.part.bookings d q ∙ elim (either_customer d c) [
        | inl is ↦
            let none : (has_customer scope d && has_item scope q) ≡ false =
            ap (λ x. has_customer scope x && has_item scope q) is ∙ ap (λ t. t && has_item scope q) out in
            ap (λ t. cond t (booking_of s d q) None) none ∙ sym (ap (λ t. cond t (booking_of s' d q) None) none)
        | inr apart ↦ ap (λ x. cond (has_customer scope d && has_item scope q) x None)
            (sym (booking_left s s' c departs d q apart))
      ];
    };
    confined = confined_departed;
  }

  pub near_left_both : (p' : State) → Departs p p' c → has_customer scope c ≡ true → Near scope s' p'
  near_left_both p' leaves in_customers = record {
    part = record {
      offers = same_right (has_item scope) None (offer_of s') (offer_of p) (offer_of p') leaves.offers offers_departed;
      customers = set_both (has_customer scope) false (is_customer s) (is_customer s') (is_customer p)
          (is_customer p') c false (λ d. either_customer d c) in_customers near.part.customers
          (clear_customer s s' c departs) (clear_customer p p' c leaves);
      bookings = λ d q. elim (either_customer d c) [
        | inl is ↦ subst (λ x. booking_of p' x q
            ≡ cond (has_customer scope x && has_item scope q) (booking_of s' x q) None) (sym is)
            (booking_gone p p' c leaves q
            ∙ both_default None (has_customer scope c && has_item scope q)
            ∙ sym (ap (λ x. cond (has_customer scope c && has_item scope q) x None)
            (booking_gone s s' c departs q)))
        | inr apart ↦ booking_left p p' c leaves d q apart ∙ near.part.bookings d q
            ∙ ap (λ x. cond (has_customer scope d && has_item scope q) x None)
            (sym (booking_left s s' c departs d q apart))
      ];
    };
    confined = confined_departed;
  }
