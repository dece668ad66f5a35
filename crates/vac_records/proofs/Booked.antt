-- The effects of commands on bookings.
use Rattle.std.proofs.Common.{◌≡◌, ◌≢◌, inl, inr, ℕ, ◌+◌, ◌*◌, ◌^◌, ◌<◌, ◌≤◌, List, ◌∷◌, Some, None, not, nat_eq, false}
use Rattle.std.proofs.Common.{refl, sym, ap, ◌∙◌, subst, arith, zero-add, zero, suc}
use Rattle.std.proofs.lemmas.Bool.{cases_lt}
use Rattle.std.proofs.lemmas.Bool.Decides.{nat_tests}
use Rattle.std.specs.declared.cmp.Ordering.TheVariants.{Less, Equal, Greater}
use Rattle.std.specs.Ordering.{nat_cmp, eq_by_cmp, ordering_then}
use Rattle.std.specs.Cmp.{nat_cmp_total, nat_cmp_is}
use Rattle.std.specs.FinMap.{entries, insert, remove, find, put, get, get-entries, entries-insert}
use Rattle.std.specs.FinMap.Entries.{where_key}
use Rattle.tx_memory.specs.Seen.{same_or}
use Rattle.vac_model.specs.State.{State, Bookings, Place, place_cmp, kind_number}
use Rattle.vac_model.proofs.Places.{place_cmp_total, place_cmp-IsAntisymmetric}
use Rattle.tx_alloc.specs.Pool.{IsBlock, with_at}
use Rattle.tx_alloc.specs.Rows.{Rows, times, put_row, cut_row, block_at, Relinks}
use Rattle.tx_alloc.proofs.Times.{times_put, times_cut}
use Rattle.tx_alloc.proofs.Sums.{with_here, with_else}
use Rattle.vac_bookings.specs.Bookings.{IsList}
use Rattle.vac_model.specs.Coded.{kind_of_number}
use Rattle.vac_records.specs.Bookings.{place_in, booking_in, place_key}
use Rattle.vac_records.specs.Represents.{items_in, bookings_in, customers_in, opened_bookings, Represents}
use Rattle.vac_records.specs.Laws.{Stays, BookingFound, BookingMissing, BookingInserted, BookingReplaced}
use Rattle.vac_records.specs.Laws.{BookingRemoved, IsCustomerAt}
use Rattle.vac_records.proofs.Keyed.{HasRow, Matches, entries_remove, find_absent, find_present, put_absent}
use Rattle.vac_records.proofs.Keyed.{put_present, cut_present, row_at, row_times, two_rows}
use Rattle.tx_tree.proofs.TableFrame.{table_rises}
use Rattle.vac_bookings.proofs.Frame.{list_from}
use Rattle.vac_records.proofs.Links.{list_row}
use Rattle.vac_records.proofs.Overs.{over_has, over_two}
use Rattle.vac_records.proofs.Hang.{booked}
use Rattle.vac_records.proofs.Unhang.{unbooked}
use Rattle.vac_records.proofs.Hang as booking
use Rattle.vac_records.proofs.Payload.{booked_law}
use Rattle.vac_records.proofs.Frames.{Entry, items_frame, bookings_frame, booking_same, opened_put}
use Rattle.vac_records.proofs.Shifts.{in_table, in_list, table_not_out, tables_apart, list_not_table, table_once}
use Rattle.vac_records.proofs.Shifts.{out_first, shifts_customers}
use Rattle.vac_records.proofs.Customers.{shelf, shelf_matches, entries_at}

pub kind_back : (x : ℕ) → x < 3 → kind_number (kind_of_number x) ≡ x
kind_back zero l = refl
kind_back (suc zero) l = refl
kind_back (suc (suc n)) l = omega arith

less : (a b : ℕ) → a < b → nat_cmp a b ≡ Less
less a b l = sym (nat_cmp_is a b Less l)

same : (a b : ℕ) → a ≡ b → nat_cmp a b ≡ Equal
same a b l = sym (nat_cmp_is a b Equal l)

above : (a b : ℕ) → b < a → nat_cmp a b ≡ Greater
above a b l = sym (nat_cmp_is a b Greater l)

-- places compare as their keys
pairs_cmp : (a x b y : ℕ) → b < 2 ^ 32 → y < 2 ^ 32 → ordering_then (nat_cmp a x) (nat_cmp b y) ≡ nat_cmp
    (a * 2 ^ 32 + b) (x * 2 ^ 32 + y)
pairs_cmp a x b y lb ly = elim (cases_lt a x) [
  | inl below ↦ rw (less a x below) (sym (less (a * 2 ^ 32 + b) (x * 2 ^ 32 + y) (omega arith)))
  | inr over ↦ elim (cases_lt x a) [
    | inl up ↦ rw (above a x up) (sym (above (a * 2 ^ 32 + b) (x * 2 ^ 32 + y) (omega arith)))
    | inr at ↦ (
        let e : a ≡ x = omega arith in
        rw (same a x e) (elim (cases_lt b y) [
          | inl lower ↦ less b y lower ∙ sym (less (a * 2 ^ 32 + b) (x * 2 ^ 32 + y) (omega arith))
          | inr higher ↦ elim (cases_lt y b) [
            | inl more ↦ above b y more ∙ sym (above (a * 2 ^ 32 + b) (x * 2 ^ 32 + y) (omega arith))
            | inr equal ↦ (let f : b ≡ y = omega arith in same b y f ∙
                sym (same (a * 2 ^ 32 + b) (x * 2 ^ 32 + y) (omega arith)))
          ]
        ]))
  ]
]

-- a booking's row and its entry
abbrev slot : (ℕ → ℕ) → ℕ × ℕ → Entry
slot m r = (place_in m r.1, booking_in m r.1)

slot_matches : (m : ℕ → ℕ) (n p : ℕ) (rs : Rows) (place : Place) → place.1 < 2 ^ 32 → IsList m n p rs →
    Matches place_cmp place (place_key place) (slot m) rs
slot_matches m n p rs place small h k a i =
    let r = list_row m n p k a rs h i in
    ap (λ (z : ℕ). ordering_then (nat_cmp (kind_number place.0) z) (nat_cmp place.1 (m (a + 1))))
    (kind_back (m a) r.kind)
    ∙ (pairs_cmp (kind_number place.0) (m a) place.1 (m (a + 1)) small r.id ∙ ap (nat_cmp (place_key place)) r.key)

list_some : (m : ℕ → ℕ) (n p : ℕ) (rs : Rows) → IsList m n p rs → (k a : ℕ) → HasRow k a rs → a ≢ 0
list_some m n p rs h k a i e = absurd (omega (arith, e, (list_row m n p k a rs h i).block.1.1))

module _ (m : ℕ → ℕ) (n : ℕ) (out : List ℕ) (s : State) (h : Represents m n out s) (id c : ℕ) (bookings : Bookings)
    (at : IsCustomerAt h id c bookings) where
  there : 0 < times c (h.parts.tables 3)
  there = row_times id c (h.parts.tables 3) (row_at id c (h.parts.tables 3) at.at at.some)

  block_c : IsBlock n c
  block_c = in_table m n h.parts h.heap 3 c (omega arith) there

  the_list : IsList m n (m (c + 4)) (h.parts.lists c)
  the_list = h.heap.lists c there

  the_entries : entries bookings ≡ bookings_in m (h.parts.lists c)
  the_entries = entries_at m n out s h id c bookings at

  matches : (place : Place) → place.1 < 2 ^ 32 → Matches place_cmp place (place_key place) (slot m) (h.parts.lists c)
  matches place small = slot_matches m n (m (c + 4)) (h.parts.lists c) place small the_list

  pub found : (place : Place) (b : ℕ) → place.1 < 2 ^ 32 → block_at (h.parts.lists c) (place_key place) ≡ b → b ≢ 0 →
      get bookings place ≡ Some (booking_in m b)
  found place b small is some =
      get-entries bookings place ∙ (ap (λ (z : List Entry). find place_cmp place z) the_entries
      ∙ find_present place_cmp place (place_key place) (slot m) b (h.parts.lists c) (matches place small) is some)

  pub missing : (place : Place) → place.1 < 2 ^ 32 → block_at (h.parts.lists c) (place_key place) ≡ 0 →
      get bookings place ≡ None
  missing place small none =
      get-entries bookings place ∙ (ap (λ (z : List Entry). find place_cmp place z) the_entries
      ∙ find_absent place_cmp place (place_key place) (slot m) (h.parts.lists c) (matches place small)
      (list_some m n (m (c + 4)) (h.parts.lists c) the_list) none)

  -- the block of a booking is none of another customer's, and stands once
  lists_apart : (d x b : ℕ) → d ≢ c → 0 < times d (h.parts.tables 3) → 0 < times x (h.parts.lists d) →
      0 < times b (h.parts.lists c) → x ≢ b
  lists_apart d x b ne o o' g q =
      absurd (omega (
        arith,
        h.heap.pool.once x (in_list m n h.parts h.heap d x o o'),
        o',
        g,
        over_two (times x) d c (h.parts.tables 3) h.parts.lists ne o there,
        ap (λ (z : ℕ). times z (h.parts.lists c)) q,
      ))

  list_once : (x : ℕ) → times x (h.parts.lists c) ≤ 1
  list_once x = elim (same_or (times x (h.parts.lists c)) 0) [
    | inl z ↦ omega arith
    | inr nz ↦ omega (
      arith,
      h.heap.pool.once x (in_list m n h.parts h.heap c x there (omega arith)),
      over_has (times x) c (h.parts.tables 3) h.parts.lists there,
    )
  ]

  -- other bookings of this customer, and those of the others as they were
  rebooked : (m' : ℕ → ℕ) (changed : Bookings) (lists : ℕ → Rows) → entries changed ≡ bookings_in m' (lists c) →
      ((d : ℕ) → 0 < times d (h.parts.tables 3) → d ≢ c → bookings_in m' (lists d) ≡ bookings_in m (h.parts.lists d)) →
      opened_bookings (entries (insert s.customers id changed)) ≡ customers_in m' lists (h.parts.tables 3)
  rebooked m' changed lists new others =
      let rows = h.parts.tables 3 in
      let l4 : 3 < 4 = omega arith in
      ap opened_bookings (entries-insert nat_cmp_total s.customers id changed) ∙
      (opened_put id changed (entries s.customers)
      ∙ (ap (λ (z : List (ℕ × List Entry)). put nat_cmp id (entries changed) z) h.customers
      ∙ put_present nat_cmp id id (shelf m h.parts.lists) (shelf m' lists) (entries changed) 0 c rows
      (table_rises m n (m 4) rows (h.heap.tables 3 l4)) (shelf_matches m h.parts.lists id rows) at.at at.some
      (ap (λ (z : List Entry). (id, z)) (sym new))
      (λ k a r ne.
      let na : a ≢ c = λ q. absurd (omega (
        arith,
        two_rows k id a rows r
            (subst (λ (z : ℕ). HasRow id z rows) (sym q) (row_at id c rows at.at at.some)) ne,
        table_once m n h.parts h.heap 3 a l4,
      )) in
      ap (λ (z : List Entry). (k, z)) (others a (row_times k a rows r) na))))

  -- only words 3 of these rows' blocks and the head of the list were written
  words : (m' : ℕ → ℕ) (rs : Rows) → Relinks m m' 3 (c + 4) rs → ((a : ℕ) → 0 < times a rs → IsBlock n a) → (x k : ℕ) →
      IsBlock n x → x ≢ c → k ≢ 3 → k < 8 → m' (x + k) ≡ m (x + k)
  words m' rs r blocks x k bx nc nk less =
      r.others (x + k) (λ q. absurd (nc (omega (arith, q, bx.1.1, block_c.1.1))))
      (λ a o. let ba = blocks a o in elim (cases_lt (x + k) (a + 3)) [
        | inl l ↦ inl l
        | inr g ↦
            inr (omega (arith, ba.1.1, bx.1.1))
      ])

  items_kept : (m' : ℕ → ℕ) → ((x k : ℕ) → IsBlock n x → x ≢ c → k ≢ 3 → k < 8 → m' (x + k) ≡ m (x + k)) → (j : ℕ) →
      j < 3 → items_in m' (h.parts.tables j) ≡ items_in m (h.parts.tables j)
  items_kept m' kept j l = items_frame m m' (h.parts.tables j) (λ a k o low less.
      kept a k (in_table m n h.parts h.heap j a (omega arith) o)
      (tables_apart m n h.parts h.heap j 3 a c (omega arith) (omega arith) (omega arith) o there)
      (omega arith) less)

  others_kept : (m' : ℕ → ℕ) → ((x k : ℕ) → IsBlock n x → x ≢ c → k ≢ 3 → k < 8 → m' (x + k) ≡ m (x + k)) → (d : ℕ) →
      0 < times d (h.parts.tables 3) → bookings_in m' (h.parts.lists d) ≡ bookings_in m (h.parts.lists d)
  others_kept m' kept d o = bookings_frame m m' (h.parts.lists d) (λ a k o' nk less.
      kept a k (in_list m n h.parts h.heap d a o o') (list_not_table m n h.parts h.heap d a 3 c o o'
      (omega arith) there) nk less)

  pub removed_booking : (m' : ℕ → ℕ) (place : Place) (b : ℕ) → place.1 < 2 ^ 32 →
      block_at (h.parts.lists c) (place_key place) ≡ b → b ≢ 0 →
      IsList m' n (m' (c + 4)) (cut_row (h.parts.lists c) (place_key place)) →
      Relinks m m' 3 (c + 4) (h.parts.lists c) →
      Stays h m' (b ∷ out) (record s { customers = insert s.customers id (remove bookings place) })
  unfolding shifts_customers
  removed_booking m' place b small is some new r =
      let p = h.parts in
      let ls = p.lists c in
      let key = place_key place in
      let rest : Rows = cut_row ls key in
      let kept = words m' ls r (λ a o. in_list m n p h.heap c a there o) in
      let here : with_at p.lists c rest c ≡ rest = with_here p.lists c c rest refl in
      let after = shifts_customers m m' n out (b ∷ out) s h (insert s.customers id (remove bookings place))
      (record p { lists = with_at p.lists c rest; out = b ∷ p.out })
      (unbooked m m' n c key b p h.heap there is some new r) (ap (λ (z : List ℕ). b ∷ z) h.held)
      (items_kept m' kept)
      (rebooked m' (remove bookings place) (with_at p.lists c rest)
      (entries_remove place_cmp_total place_cmp-IsAntisymmetric bookings place
      ∙ (ap (λ (z : List Entry). where_key place_cmp (λ x. not (eq_by_cmp place_cmp place x)) z) the_entries
      ∙ (cut_present place_cmp place key (slot m) 0 ls (list_from m n (m (c + 4)) ls the_list) (matches place small)
      ∙ (sym (bookings_frame m m' rest (λ a k o nk less.
      let oa : 0 < times a ls = omega (arith, o, times_cut a key b ls is some) in
      kept a k (in_list m n p h.heap c a there oa) (list_not_table m n p h.heap c a 3 c there oa (omega arith) there) nk
      less))
      ∙ ap (bookings_in m') (sym here)))))
      (λ d o ne. let e = with_else p.lists c d rest ne in ap (bookings_in m') e ∙ others_kept m' kept d o)) in
      record { after = after; tables = λ j lj. refl }

  pub replaced_booking : (m' : ℕ → ℕ) (place : Place) (b : ℕ) → place.1 < 2 ^ 32 →
      block_at (h.parts.lists c) (place_key place) ≡ b → b ≢ 0 →
      ((x : ℕ) → x ≢ b + 2 → x ≢ b + 4 → m' x ≡ m x) → Stays h m' out
      (record s { customers = insert s.customers id (insert bookings place (booking_in m' b)) })
  unfolding shifts_customers
  replaced_booking m' place b small is some w =
      let p = h.parts in
      let ls = p.lists c in
      let key = place_key place in
      let row = row_at key b ls is some in
      let tb = row_times key b ls row in
      let bb = in_list m n p h.heap c b there tb in
      let far : (x k : ℕ) → IsBlock n x → x ≢ b → k < 8 → m' (x + k) ≡ m (x + k) =
      λ x k bx nb less. w (x + k) (omega (arith, bx.1.1, bb.1.1)) (omega (arith, bx.1.1, bb.1.1)) in
      let after = shifts_customers m m' n out out s h (insert s.customers id (insert bookings place (booking_in m' b)))
      p (booked_law m m' n c b p h.heap there tb w) h.held
      (λ j l. items_frame m m' (p.tables j) (λ a k o low less.
      far a k (in_table m n p h.heap j a (omega arith) o) (λ q. list_not_table m n p h.heap c b j a there tb
      (omega arith) o (sym q)) less))
      (rebooked m' (insert bookings place (booking_in m' b)) p.lists
      (entries-insert place_cmp_total bookings place (booking_in m' b)
      ∙ (ap (λ (z : List Entry). put place_cmp place (booking_in m' b) z) the_entries
      ∙ put_present place_cmp place key (slot m) (slot m') (booking_in m' b) 0 b ls
      (list_from m n (m (c + 4)) ls the_list) (matches place small) is some
      (let kind_is : m' b ≡ m b = w b (omega arith) (omega arith) in
      let id_is : m' (b + 1) ≡ m (b + 1) = w (b + 1) (omega arith) (omega arith) in
      λ i. ((kind_of_number (kind_is i), id_is i), booking_in m' b))
      (λ k a r ne.
      let na : a ≢ b = λ q. absurd (omega (
        arith,
        two_rows k key a ls r
            (subst (λ (z : ℕ). HasRow key z ls) (sym q) row) ne,
        list_once a,
      )) in
      booking_same m m' a (λ j nj less. far a j (in_list m n p h.heap c a there (row_times k a ls r)) na less))))
      (λ d o ne. bookings_frame m m' (p.lists d) (λ a k o' nk less. far a k (in_list m n p h.heap d a o o')
      (lists_apart d a b ne o o' tb) less))) in
      record { after = after; tables = λ j lj. refl }

module _ (m : ℕ → ℕ) (n b : ℕ) (out : List ℕ) (s : State) (bb : IsBlock n b) (h : Represents m n (b ∷ out) s) (id c : ℕ)
    (bookings : Bookings) (at : IsCustomerAt h id c bookings) where
  tc : 0 < times c (h.parts.tables 3)
  tc = there m n (b ∷ out) s h id c bookings at

  pub inserted_booking : (m' : ℕ → ℕ) (place : Place) → place.1 < 2 ^ 32 →
      block_at (h.parts.lists c) (place_key place) ≡ 0 → place_in m b ≡ place →
      IsList m' n (m' (c + 4)) (put_row (h.parts.lists c) (place_key place) b) →
      Relinks m m' 3 (c + 4) (put_row (h.parts.lists c) (place_key place) b) →
      Stays h m' out (record s { customers = insert s.customers id (insert bookings place (booking_in m b)) })
  unfolding shifts_customers
  inserted_booking m' place small none is new r =
      let p = h.parts in
      let ls = p.lists c in
      let key = place_key place in
      let longer : Rows = put_row ls key b in
      let ob = out_first p b out h.held in
      let blocks = booking.blocks m m' n c key b out p h.heap tc bb h.held new r in
      let kept = words m n (b ∷ out) s h id c bookings at m' longer r blocks in
      let here : with_at p.lists c longer c ≡ longer = with_here p.lists c c longer refl in
      let apart : (a : ℕ) → 0 < times a longer → a ≢ c = λ a o. elim (same_or b a) [
        | inl e ↦ λ q. table_not_out m n p h.heap 3 c b (omega arith) tc ob (sym q ∙ sym e)
        | inr ne ↦ (
            let t : times a longer ≡ times a ls = (let f : nat_eq b a ≡ false = grind (arith, nat_tests) in
            times_put a key b ls ∙ rw (f, zero-add) refl) in
            list_not_table m n p h.heap c a 3 c tc (omega (arith, o, t)) (omega arith) tc)
      ] in
      let after = shifts_customers m m' n (b ∷ out) out s h (insert s.customers id
      (insert bookings place (booking_in m b))) (record p { lists = with_at p.lists c longer; out = out })
      (booked m m' n c key b out p h.heap tc bb h.held new r) refl
      (items_kept m n (b ∷ out) s h id c bookings at m' kept)
      (rebooked m n (b ∷ out) s h id c bookings at m' (insert bookings place (booking_in m b))
      (with_at p.lists c longer)
      (entries-insert place_cmp_total bookings place (booking_in m b)
      ∙ (ap (λ (z : List Entry). put place_cmp place (booking_in m b) z)
      (the_entries m n (b ∷ out) s h id c bookings at)
      ∙ (put_absent place_cmp place key (slot m) (booking_in m b) 0 b ls
      (list_from m n (m (c + 4)) ls (h.heap.lists c tc)) (matches m n (b ∷ out) s h id c bookings at place small)
      (list_some m n (m (c + 4)) ls (h.heap.lists c tc)) none
      (ap (λ (z : Place). (z, booking_in m b)) is)
      ∙ (sym (bookings_frame m m' longer (λ a k o nk less. kept a k (blocks a o) (apart a o) nk less)) ∙
      ap (bookings_in m') (sym here)))))
      (λ d o ne. let e = with_else p.lists c d longer ne in ap (bookings_in m') e ∙
      others_kept m n (b ∷ out) s h id c bookings at m' kept d o)) in
      record { after = after; tables = λ j lj. refl }

pub booking_found : BookingFound
booking_found m n out s h id c bookings place b at is = found m n out s h id c bookings at place b is.small is.at
    is.some

pub booking_missing : BookingMissing
booking_missing m n out s h id c bookings place small at none = missing m n out s h id c bookings at place small none

pub booking_inserted : BookingInserted
booking_inserted m m' n b out s id c bookings place bb h at small none is grown =
    inserted_booking m n b out s bb h id c bookings at m' place small none is grown.list grown.relinks

pub booking_replaced : BookingReplaced
booking_replaced m m' n out s id c bookings place b h at is w =
    replaced_booking m n out s h id c bookings at m' place b is.small is.at is.some w

pub booking_removed : BookingRemoved
booking_removed m m' n out s id c bookings place b h at is cut =
    removed_booking m n out s h id c bookings at m' place b is.small is.at is.some cut.list cut.relinks
