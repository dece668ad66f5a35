-- A block in hand is no customer's and in no customer's list.
use Rattle.std.proofs.Common.{◌≡◌, ◌≢◌, ◌⊎◌, inl, inr, ℕ, ◌+◌, ◌<◌, ◌≤◌, [], ◌∷◌, refl, sym, subst, arith}
use Rattle.std.proofs.lemmas.Bool.{cases_lt}
use Rattle.tx_memory.specs.Seen.{same_or}
use Rattle.vac_model.specs.State.{State, Bookings}
use Rattle.tx_alloc.specs.Pool.{IsBlock}
use Rattle.tx_alloc.specs.Rows.{Rows, times}
use Rattle.vac_bookings.specs.Bookings.{IsList}
use Rattle.vac_bookings.specs.Lists.{IsOutside}
use Rattle.vac_bookings.proofs.Frame.{list_frame}
use Rattle.vac_records.specs.Customers.{head_of}
use Rattle.vac_records.specs.Represents.{Represents}
use Rattle.vac_records.specs.Laws.{Stays, IsCustomerAt}
use Rattle.vac_records.proofs.Keyed.{row_at, row_times}
use Rattle.vac_records.proofs.Links.{list_one}
use Rattle.vac_records.proofs.Shifts.{in_table, in_list, table_not_out, list_not_out, out_first}

module _ (m : ℕ → ℕ) (n b : ℕ) (s : State) (bb : IsBlock n b) (h : Represents m n (b ∷ []) s) (customer owner : ℕ)
    (bs : Bookings) (at : IsCustomerAt h customer owner bs) where
  is_owner : 0 < times owner (h.parts.tables 3)
  is_owner = row_times customer owner (h.parts.tables 3) (row_at customer owner (h.parts.tables 3) at.at at.some)

  owner_block : IsBlock n owner
  owner_block = in_table m n h.parts h.heap 3 owner (omega arith) is_owner

  owner_apart : owner ≢ b
  owner_apart = table_not_out m n h.parts h.heap 3 owner b (omega arith) is_owner (out_first h.parts b [] h.held)

  list_apart : (x : ℕ) → 0 < times x (h.parts.lists owner) → x ≢ b
  list_apart x o = list_not_out m n h.parts h.heap owner x b is_owner o (out_first h.parts b [] h.held)

  pub loose : times b (h.parts.lists owner) ≡ 0
  loose = elim (same_or (times b (h.parts.lists owner)) 0) [
    | inl z ↦ z
    | inr nz ↦
        absurd (list_apart b (omega arith) refl)
  ]

  pub outside : IsOutside (head_of owner) b
  outside =
      let bo = owner_block in
      let ne = owner_apart in
      elim (cases_lt owner b) [
        | inl below ↦ inl (omega (arith, bo.1.1, bb.1.1))
        | inr above ↦
            inr (omega (arith, bo.1.1, bb.1.1))
      ]

  -- where only words of the block in hand are written, the list has the same rows
  pub same_rows : (m' : ℕ → ℕ) (w : Stays h m' (b ∷ []) s) → ((x : ℕ) → (x < b) ⊎ (b + 8 ≤ x) → m' x ≡ m x) →
      h.parts.lists owner ≡ w.after.parts.lists owner
  same_rows m' w others =
      let rows = h.parts.lists owner in
      let bo = owner_block in
      let no = owner_apart in
      let head : m' (owner + 4) ≡ m (owner + 4) = others (owner + 4) (elim (cases_lt owner b) [
        | inl below ↦
            inl (omega (arith, bo.1.1, bb.1.1))
        | inr above ↦ inr (omega (arith, bo.1.1, bb.1.1))
      ]) in
      let kept : IsList m' n (m (owner + 4)) rows = list_frame m m' n (m (owner + 4)) rows (h.heap.lists owner is_owner)
      (λ a o k less.
      let ba = in_list m n h.parts h.heap owner a is_owner o in
      let na = list_apart a o in
      others (a + k) (elim (cases_lt a b) [
        | inl below ↦ inl (omega (arith, ba.1.1, bb.1.1))
        | inr above ↦
            inr (omega (arith, ba.1.1, bb.1.1))
      ])) in
      let still : 0 < times owner (w.after.parts.tables 3) =
      subst (λ (z : Rows). 0 < times owner z) (sym (w.tables 3 (omega arith))) is_owner in
      list_one m' n (m' (owner + 4)) rows (w.after.parts.lists owner)
      (subst (λ (z : ℕ). IsList m' n z rows) (sym head) kept) (w.after.heap.lists owner still)
