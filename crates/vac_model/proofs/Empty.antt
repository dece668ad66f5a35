-- The state with no entries is balanced.
use Rattle.std.proofs.Common.{◌≡◌, ℕ, ◌≤◌, ap, sym, ◌∙◌, arith}
use Rattle.std.specs.Prelude.{Option, Some, None, sum_by}
use Rattle.std.specs.Ordering.{nat_cmp}
use Rattle.std.specs.FinMap as map
use Rattle.std.specs.FinMap.{len, values, empty}
use Rattle.std.specs.Map.{values_of}
use Rattle.vac_model.specs.declared.items.Kind.{Kind}
use Rattle.vac_model.specs.declared.items.Kind.TheVariants.{Car, Flight, Room}
use Rattle.vac_model.specs.declared.items.Item.{Item}
use Rattle.vac_model.specs.State.{Bookings, empty_state, item_of, size}
use Rattle.vac_model.specs.Balanced.{IsBalanced}
use Rattle.vac_model.specs.Fits.{IsSmall}
use Rattle.vac_model.proofs.Views.{entries-empty}

no_item : (n : ℕ) (kind : Kind) (id : ℕ) → item_of (empty_state n) kind id ≡ None
no_item n Car id = map.get-empty nat_cmp id
no_item n Flight id = map.get-empty nat_cmp id
no_item n Room id = map.get-empty nat_cmp id

no_size : (n : ℕ) → size (empty_state n) ≡ 0
no_size n =
    let items : len (empty {X = Item} {R = nat_cmp}) ≡ 0 = map.len-empty nat_cmp Item in
    let customers : len (empty {X = Bookings} {R = nat_cmp}) ≡ 0 = map.len-empty nat_cmp Bookings in
    let bookings : sum_by len (values (empty {X = Bookings} {R = nat_cmp})) ≡ 0 =
    ap (λ es. sum_by {X = Bookings} len (values_of es)) (entries-empty nat_cmp) in
    omega (arith, items, customers, bookings)

missing : {X : Type 0} (o : Option X) (x : X) → o ≡ None → o ≡ Some x → ⊥
missing o x none there = let never : None ≡ Some x = sym none ∙ there in cc

pub empty-balanced : (n : ℕ) → IsBalanced (empty_state n)
empty-balanced n = record {
  room = omega (arith, no_size n);
  items = λ k i x e. absurd (missing (item_of (empty_state n) k i) x (no_item n k i) e);
  customers = λ c b e. absurd (missing _ b (map.get-empty nat_cmp c) e);
  bookings = λ c b k i x e f. absurd (missing _ b (map.get-empty nat_cmp c) e);
}

pub empty-small : (n : ℕ) → n ≤ 262144 → IsSmall (empty_state n)
empty-small n h = record { balanced = empty-balanced n; small = h }
