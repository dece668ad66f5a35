-- What the calls on blocks, tables and lists ask for, where a memory represents a state.
use Rattle.std.proofs.Common.{◌≡◌, ◌≢◌, inl, inr, ℕ, List, [], ◌∷◌, length, map, sum_by, refl, sym, ap, ◌∙◌, arith}
use Rattle.std.proofs.lemmas.Bool.{cases_lt}
use Rattle.std.proofs.lemmas.List.Sums.{sum_by-cons}
use Rattle.vac_model.specs.declared.items.Booking.{Booking}
use Rattle.tx_alloc.specs.Rows.{Rows}
use Rattle.tx_alloc.proofs.Sums.{sum_has}
use Rattle.vac_records.specs.Bookings.{booking_in}
use Rattle.vac_records.specs.Customers.{sum_in}
use Rattle.vac_records.specs.Represents.{bookings_in}
use Rattle.vac_records.specs.Laws.{PoolThere, HandThere, TableThere, ListThere, BillThere}
use Rattle.vac_records.proofs.Customers.{entries_at}
use Rattle.vac_records.proofs.Frames.{Entry}
use Rattle.vac_records.proofs.Hands.{out_used}
use Rattle.vac_records.proofs.Keyed.{row_at, row_times}
use Rattle.vac_records.proofs.Shifts.{in_table, in_list, list_not_table}

pub pool_there : PoolThere
pool_there m n out s h = h.heap.pool

pub hand_there : HandThere
hand_there m n b out s bb h = out_used m n b out h.parts h.heap bb h.held

pub table_there : TableThere
table_there m n out s i h small l = record {
  table = h.heap.tables i l;
  few = omega (arith, small, h.size, h.heap.pool.all, sum_has 4 i (λ z. length (h.parts.tables z)) l);
}

pub list_there : ListThere
list_there m n out s id c bookings h at =
    let o = row_times id c (h.parts.tables 3) (row_at id c (h.parts.tables 3) at.at at.some) in
    let bc = in_table m n h.parts h.heap 3 c (omega arith) o in
    record {
      list = h.heap.lists c o;
      outside = λ a oa.
          let ba = in_list m n h.parts h.heap c a o oa in
          let ne : a ≢ c = list_not_table m n h.parts h.heap c a 3 c o oa (omega arith) o in
          elim (cases_lt c a) [
            | inl below ↦ inl (omega (arith, ba.1.1, bc.1.1))
            | inr above ↦
                inr (omega (arith, ba.1.1, bc.1.1))
          ];
    }

sums : (m : ℕ → ℕ) (rows : Rows) → sum_by (λ (b : Booking). b.sum)
    (map (λ (e : Entry). e.1) (bookings_in m rows)) ≡ sum_in m rows
sums m [] = refl
sums m (r ∷ rs) = omega (
  arith,
  sum_by-cons (λ (b : Booking). b.sum) (booking_in m r.1)
      (map (λ (e : Entry). e.1) (bookings_in m rs)),
  sums m rs,
)

pub bill_there : BillThere
bill_there m n out s id c bookings h at =
    sym (sums m (h.parts.lists c)) ∙ ap (λ (es : List Entry). sum_by (λ (b : Booking). b.sum)
    (map (λ (e : Entry). e.1) es)) (sym (entries_at m n out s h id c bookings at))
