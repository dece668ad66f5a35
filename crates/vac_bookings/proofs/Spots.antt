-- A spot that was sought, and how long it stays one.
use Rattle.std.proofs.Common.{◌≡◌, ◌≢◌, inl, inr, ℕ, ◌+◌, ◌<◌, ◌≤◌, ◌^◌, List, [], ◌∷◌, length, Some, refl, arith}
use Rattle.std.proofs.lemmas.Bool.Decides.{nat_tests}
use Rattle.tx_memory.specs.View.{View, Sees}
use Rattle.tx_alloc.specs.Pool.{IsBlock}
use Rattle.tx_alloc.specs.Rows.{Rows, times, block_at, SameLinks}
use Rattle.tx_alloc.specs.Steps.{mem}
use Rattle.vac_bookings.specs.Bookings.{place_code, Linked, link_to_key}
use Rattle.vac_bookings.specs.declared.search.Spot.{Spot}
use Rattle.vac_bookings.specs.Lists.{IsListAt}
use Rattle.vac_bookings.specs.Search.{Sought, SpotAt}
use Rattle.vac_bookings.proofs.Frame.{none_below, linked_lower}
use Rattle.vac_bookings.proofs.Links.{link_is}

-- the spot that a search came to is the key's
pub sought_spot : (s s' : View) (head key : ℕ) (spot : Spot) → Sought s s' head key spot →
    (image : List ℕ) (rs : Rows) → Sees s' image → IsListAt (mem s image) (length image) head rs →
    SpotAt (mem s image) head key spot rs
sought_spot s s' head key spot k image rs seen h =
    record { link = k.link image rs seen h; word = k.word image seen; entry = k.entry image rs seen h }

-- the words that a search may go over are as before
pub record Unmoved (m m' : ℕ → ℕ) (head : ℕ) (rs : Rows) : Type 0 where
  pub start : m' head ≡ m head
  pub blocks : (a : ℕ) → 0 < times a rs → SameLinks m m' a

-- what was sought stays sought then
pub spot_stays : (m m' : ℕ → ℕ) (head key : ℕ) (spot : Spot) (rs : Rows) → Unmoved m m' head rs →
    SpotAt m head key spot rs → SpotAt m' head key spot rs
spot_stays m m' head key spot rs u p = elim (link_is head key rs) [
  | inl e ↦ grind (arith, u.start)
  | inr (a, w) ↦ grind (arith, u.blocks a w.1 3)
]

-- the search for the key stands at link, with rows from low on before it
pub record Trail (m : ℕ → ℕ) (n head link low key : ℕ) (rs : Rows) : Type 0 where
  pub rest : Rows
  pub linked : Linked m n (m link) low rest
  pub same_link : link_to_key head rs key ≡ link_to_key link rest key
  pub same_entry : block_at rs key ≡ block_at rest key

-- what a search came to: this link, and this block or 0
pub record Ended (head link entry key : ℕ) (rs : Rows) : Type 0 where
  pub link_is : link ≡ link_to_key head rs key
  pub entry_is : entry ≡ block_at rs key

-- what the pointer there says: the search ends, or the block is the key's, past it or before it
pub record Pointed (m : ℕ → ℕ) (n head link low key p : ℕ) (rs : Rows) : Type 0 where
  pub none : p ≡ 0 → Ended head link 0 key rs
  pub block : p ≢ 0 → IsBlock n p × ((low ≤ place_code m p) × (m (p + 1) < 2 ^ 32))
  pub here : p ≢ 0 → place_code m p ≡ key → Ended head link p key rs
  pub past : p ≢ 0 → key < place_code m p → Ended head link 0 key rs
  pub step : p ≢ 0 → place_code m p < key → Trail m n head (p + 3) (low + 1) key rs

pointed : (m : ℕ → ℕ) (n head link low key p : ℕ) (rs rest : Rows) → Linked m n p low rest →
    link_to_key head rs key ≡ link_to_key link rest key → block_at rs key ≡ block_at rest key →
    Pointed m n head link low key p rs
pointed m n head link low key p rs [] h e f = record {
  none = grind arith;
  block = grind arith;
  here = grind arith;
  past = grind arith;
  step = λ ne l. absurd (ne h);
}
pointed m n head link low key p rs ((k, a) ∷ rest) h e f =
    let below = none_below m n (m (a + 3)) (k + 1) rest h.1 key in
    record {
      none = grind arith;
      block = grind arith;
      here = grind (arith, nat_tests);
      past = grind (arith, nat_tests);
      step = λ ne l. record {
        rest = rest;
        linked = (let lower = linked_lower m n (m (a + 3)) (k + 1) (low + 1) rest (grind arith) h.1 in grind arith);
        same_link = grind (arith, nat_tests);
        same_entry = grind (arith, nat_tests);
      };
    }

pub trail_at : (m : ℕ → ℕ) (n head link low key p : ℕ) (rs : Rows) → Trail m n head link low key rs → m link ≡ p →
    Pointed m n head link low key p rs
trail_at m n head link low key p rs t at =
    pointed m n head link low key p rs t.rest (rw at at t.linked) t.same_link t.same_entry

-- the spot of the first booking is the head
pub first_spot : (m : ℕ → ℕ) (n head b key : ℕ) (rs : Rows) → IsListAt m n head rs → m head ≡ b → b ≢ 0 →
    place_code m b ≡ key →
    SpotAt m head key (record { link = record { 0 = head }; word = b; entry = Some b }) rs
first_spot m n head b key rs h at some is =
    let ended = (pointed m n head head 0 key b rs rs (rw at at h.list.linked) refl refl).here some is in
    record { link = ended.link_is; word = at; entry = ended.entry_is }
