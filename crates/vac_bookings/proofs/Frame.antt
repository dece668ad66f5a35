-- What stands above a list of bookings knows of it: its blocks, its keys, and what keeps it.
use Rattle.std.proofs.Common.{◌≡◌, ◌≢◌, ℕ, ◌+◌, ◌^◌, ◌<◌, ◌≤◌, [], ◌∷◌, refl, sym, ◌∙◌, arith}
use Rattle.std.proofs.lemmas.Bool.Decides.{nat_tests}
use Rattle.tx_alloc.specs.Pool.{IsBlock}
use Rattle.tx_alloc.specs.Rows.{Rows, times, block_at, IsFrom, SameLinks}
use Rattle.vac_bookings.specs.Bookings.{place_code, Linked, IsList, first_block, block_behind}

-- the words of a block that make the list are as before
pub record SameBooking (m m' : ℕ → ℕ) (a : ℕ) : Type 0 where
  pub kind : m' (a + 0) ≡ m (a + 0)
  pub id : m' (a + 1) ≡ m (a + 1)
  pub next : m' (a + 3) ≡ m (a + 3)

pub linked_frame : (m m' : ℕ → ℕ) (n p lo : ℕ) (rs : Rows) → ((a : ℕ) → 0 < times a rs → SameBooking m m' a) →
    Linked m n p lo rs → Linked m' n p lo rs
linked_frame m m' n p lo [] same h = h
linked_frame m m' n p lo ((k, a) ∷ rs) same h =
    let s = same a (grind (arith, nat_tests)) in
    let ih = linked_frame m m' n (m (a + 3)) (k + 1) rs (λ x i. same x (omega arith)) h.1 in
    grind (arith, nat_tests)

pub list_frame : (m m' : ℕ → ℕ) (n p : ℕ) (rs : Rows) → IsList m n p rs →
    ((a : ℕ) → 0 < times a rs → SameLinks m m' a) → IsList m' n p rs
list_frame m m' n p rs h same = record {
  linked = linked_frame m m' n p 0 rs (λ a i. let s = same a i in grind (arith, s 0, s 1, s 3)) h.linked;
}

-- a block with a kind and an id, whose code is lo or more
pub record Booked (m : ℕ → ℕ) (n lo a : ℕ) : Type 0 where
  pub block : IsBlock n a
  pub kind : m (a + 0) < 3
  pub id : m (a + 1) < 2 ^ 32
  pub low : lo ≤ place_code m a

-- what rows say of one of their blocks: it is booked, once, at its key, and leads to the block behind it
pub record InRows (m : ℕ → ℕ) (n lo a : ℕ) (rs : Rows) : Type 0 where
  pub booked : Booked m n lo a
  pub once : times a rs ≤ 1
  pub at : block_at rs (place_code m a) ≡ a
  pub behind : m (a + 3) ≡ block_behind rs a
  pub leads : m (a + 3) ≢ 0 → IsBlock n (m (a + 3))

pub linked_first : (m : ℕ → ℕ) (n p lo : ℕ) (rs : Rows) → Linked m n p lo rs → p ≡ first_block rs
linked_first m n p lo [] h = h
linked_first m n p lo (r ∷ rs) h = h.0.at

pub linked_block : (m : ℕ → ℕ) (n p lo : ℕ) (rs : Rows) → Linked m n p lo rs → p ≢ 0 → IsBlock n p
linked_block m n p lo [] h ne = absurd (ne h)
linked_block m n p lo (r ∷ rs) h ne = grind arith

pub linked_in : (m : ℕ → ℕ) (n p lo a : ℕ) (rs : Rows) → Linked m n p lo rs → 0 < times a rs → InRows m n lo a rs
linked_in m n p lo a [] h i = absurd (omega arith)
linked_in m n p lo a ((k, b) ∷ rs) h i =
    let first = linked_first m n (m (b + 3)) (k + 1) rs h.1 in
    let block = linked_block m n (m (b + 3)) (k + 1) rs h.1 in
    let ih = linked_in m n (m (b + 3)) (k + 1) a rs h.1 in
    grind (arith, nat_tests)

pub list_booked : (m : ℕ → ℕ) (n p a : ℕ) (rs : Rows) → IsList m n p rs → 0 < times a rs → Booked m n 0 a
list_booked m n p a rs h i = (linked_in m n p 0 a rs h.linked i).booked

pub list_block : (m : ℕ → ℕ) (n p a : ℕ) (rs : Rows) → IsList m n p rs → 0 < times a rs → IsBlock n a
list_block m n p a rs h i = (list_booked m n p a rs h i).block

pub list_at : (m : ℕ → ℕ) (n p a : ℕ) (rs : Rows) → IsList m n p rs → 0 < times a rs → block_at rs (place_code m a) ≡ a
list_at m n p a rs h i = (linked_in m n p 0 a rs h.linked i).at

-- no block is there twice
pub linked_once : (m : ℕ → ℕ) (n p lo x : ℕ) (rs : Rows) → Linked m n p lo rs → times x rs ≤ 1
linked_once m n p lo x rs h = let i = linked_in m n p lo x rs h in grind arith

-- a list may begin anywhere in a list
pub linked_lower : (m : ℕ → ℕ) (n p lo lo' : ℕ) (rs : Rows) → lo' ≤ lo → Linked m n p lo rs → Linked m n p lo' rs
linked_lower m n p lo lo' [] l h = h
linked_lower m n p lo lo' (r ∷ rs) l h = grind arith

pub list_rest : (m : ℕ → ℕ) (n p : ℕ) (r : ℕ × ℕ) (rs : Rows) → IsList m n p (r ∷ rs) → IsList m n (m (r.1 + 3)) rs
list_rest m n p r rs h = record { linked = linked_lower m n (m (r.1 + 3)) (r.0 + 1) 0 rs (omega arith) h.linked.1 }

-- the keys ascend
linked_from : (m : ℕ → ℕ) (n p lo : ℕ) (rs : Rows) → Linked m n p lo rs → IsFrom lo rs
linked_from m n p lo [] h = tt
linked_from m n p lo (r ∷ rs) h = (h.0.low, linked_from m n (m (r.1 + 3)) (r.0 + 1) rs h.1)

pub list_from : (m : ℕ → ℕ) (n p : ℕ) (rs : Rows) → IsList m n p rs → IsFrom 0 rs
list_from m n p rs h = linked_from m n p 0 rs h.linked

-- the words have one list
linked_one : (m : ℕ → ℕ) (n p lo lo' : ℕ) (rs rs' : Rows) → Linked m n p lo rs → Linked m n p lo' rs' → rs ≡ rs'
linked_one m n p lo lo' [] [] h g = refl
linked_one m n p lo lo' [] (r ∷ rs) h g = grind arith
linked_one m n p lo lo' (r ∷ rs) [] h g = grind arith
linked_one m n p lo lo' ((k, a) ∷ rs) ((k', a') ∷ rs') h g =
    let block : a ≡ a' = sym h.0.at ∙ g.0.at in
    let ih = linked_one m n (m (a + 3)) (k + 1) (k' + 1) rs rs' h.1 in
    grind arith

pub list_one : (m : ℕ → ℕ) (n p : ℕ) (rs rs' : Rows) → IsList m n p rs → IsList m n p rs' → rs ≡ rs'
list_one m n p rs rs' h g = linked_one m n p 0 0 rs rs' h.linked g.linked

-- no row below the least key
pub none_below : (m : ℕ → ℕ) (n p lo : ℕ) (rs : Rows) → Linked m n p lo rs → (key : ℕ) → key < lo → block_at rs key ≡ 0
none_below m n p lo [] h key l = refl
none_below m n p lo ((k, a) ∷ rest) h key l =
    let e = none_below m n (m (a + 3)) (k + 1) rest h.1 key in grind (arith, nat_tests)
