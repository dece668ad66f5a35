-- What a list of bookings says of its rows.
use Rattle.std.proofs.Common.{◌≡◌, ◌≢◌, inl, inr, ℕ, ◌+◌, ◌*◌, ◌^◌, ◌<◌, [], ◌∷◌, refl, subst, arith, add-zero}
use Rattle.tx_alloc.specs.Pool.{IsBlock}
use Rattle.tx_alloc.specs.Rows.{Rows, times}
use Rattle.vac_bookings.specs.Bookings.{Linked, IsList}
use Rattle.vac_bookings.proofs.Frame.{SameBooking, linked_frame}
pub use Rattle.vac_bookings.proofs.Frame.{list_one}
use Rattle.vac_records.proofs.Keyed.{HasRow}

pub list_kept : (m m' : ℕ → ℕ) (n p : ℕ) (rs : Rows) → IsList m n p rs →
    ((a : ℕ) → 0 < times a rs → SameBooking m m' a) → IsList m' n p rs
list_kept m m' n p rs h same = record { linked = linked_frame m m' n p 0 rs same h.linked }

-- kind and id of a row
pub record IsListed (m : ℕ → ℕ) (n k a : ℕ) : Type 0 where
  pub block : IsBlock n a
  pub kind : m a < 3
  pub id : m (a + 1) < 2 ^ 32
  pub key : m a * 2 ^ 32 + m (a + 1) ≡ k

linked_row : (m : ℕ → ℕ) (n p lo k a : ℕ) (rs : Rows) → Linked m n p lo rs → HasRow k a rs → IsListed m n k a
linked_row m n p lo k a [] h i = absurd i
linked_row m n p lo k a (r ∷ rs) h i = elim i [
  | inl e ↦ (
      let at : m (r.1 + 0) ≡ m r.1 = rw add-zero refl in
      let is : IsListed m n r.0 r.1 = record {
        block = h.0.block;
        kind = omega (arith, h.0.kind, at);
        id = h.0.id;
        key = omega (arith, h.0.key, at);
      } in
      subst (λ (z : ℕ × ℕ). IsListed m n z.0 z.1) (λ j. (e.0 j, e.1 j)) is)
  | inr later ↦ linked_row m n (m (r.1 + 3)) (r.0 + 1) k a rs h.1 later
]

pub list_row : (m : ℕ → ℕ) (n p k a : ℕ) (rs : Rows) → IsList m n p rs → HasRow k a rs → IsListed m n k a
list_row m n p k a rs h i = linked_row m n p 0 k a rs h.linked i

-- nothing but the sum and the units of a booking was written
pub booked_links : (m m' : ℕ → ℕ) (n b x : ℕ) → IsBlock n b → IsBlock n x →
    ((y : ℕ) → y ≢ b + 2 → y ≢ b + 4 → m' y ≡ m y) → SameBooking m m' x
booked_links m m' n b x bb bx w = record {
  kind = w (x + 0) (omega (arith, bx.1.1, bb.1.1)) (omega (arith, bx.1.1, bb.1.1));
  id = w (x + 1) (omega (arith, bx.1.1, bb.1.1)) (omega (arith, bx.1.1, bb.1.1));
  next = w (x + 3) (omega (arith, bx.1.1, bb.1.1)) (omega (arith, bx.1.1, bb.1.1));
}
