-- The code's walk of a list of bookings, beside the definition's.
use Rattle.std.proofs.Common.{◌≡◌, ◌≢◌, inl, inr, ℕ, ◌+◌, ◌*◌, ◌<◌, ◌≤◌, Bool, true, false, cond, List, [], ◌∷◌, ◌++◌}
use Rattle.std.proofs.Common.{length, zero, suc, get_or, set, get_or-set_same, get_or-set_other, refl, sym, ap, ◌∙◌}
use Rattle.std.proofs.Common.{subst, arith, nat_eq}
use Rattle.std.specs.Prelude.{Result, Ok, Err, Some, None, slice_index}
use Rattle.std.proofs.lemmas.Bool.Decides.{nat_tests}
use Rattle.std.proofs.lemmas.Bool.{cases_lt}
use Rattle.tx_memory.specs.Seen.{same_or}
use Rattle.tx_alloc.specs.Pool.{IsBlock}
use Rattle.tx_alloc.specs.Rows.{Rows}
use Rattle.vac_bookings.specs.Bookings.{place_code}
use Rattle.vac_audit.specs.Walk.{then, wants, follow, walk_bookings, is_in_order, is_booking, units_in}
use Rattle.vac_audit.specs.Noted.{AreRising, keys_in, codes_in, blocks_in, booked_in}
use Rattle.vac_audit.specs.Marks.{Marks, Followed, IsIndex, BookingLooked, Counting, SameItems, BookingsCounted}
use Rattle.vac_audit.specs.Marks.{BookingsRan}
use Rattle.vac_audit.specs.Marks.{unmarked}
use Rattle.vac_audit.specs.declared.Flaw.{Flaw}
use Rattle.vac_audit.specs.declared.notes.NotedItem.{NotedItem}
use Rattle.vac_audit.specs.declared.notes.Notes.{Notes}
use Rattle.vac_audit.specs.declared.notes.Tally.{Tally}
use Rattle.std.proofs.lemmas.List.{append_assoc, map-set}
use Rattle.std.proofs.lemmas.List.Sums.{sum_by-append, sum_by-cons}
use Rattle.vac_audit.specs.declared.Flaw.TheVariants.{Shared, Order, Bookings}
use Rattle.vac_audit.proofs.Noted.{length_codes, length_booked, units_at, kept_at, same_codes, same_length, same_order}
use Rattle.vac_audit.proofs.Steps.{then_with, not_none}
use Rattle.vac_audit.proofs.Running.{then_err}

-- the test of a booking, and then the rest
abbrev pub looked : (ℕ → ℕ) → (ℕ → Rows) → ℕ → ℕ → Result (Unit {0}) Flaw
looked m tables p lo = then (wants (is_in_order m p lo) (Order p)) (λ _. wants (is_booking m tables p) (Bookings p))

looked_then : {A : Type 0} (m : ℕ → ℕ) (tables : ℕ → Rows) (p lo : ℕ) (r : Result A Flaw) → looked m tables p lo ≡ Ok tt
    → then (wants (is_in_order m p lo) (Order p)) (λ _. then (wants (is_booking m tables p) (Bookings p)) (λ _. r)) ≡ r
looked_then m tables p lo r e = go (is_in_order m p lo) (is_booking m tables p) e
  where
    go : (a b : Bool) → then (wants a (Order p)) (λ _. wants b (Bookings p)) ≡ Ok tt →
        then (wants a (Order p)) (λ _. then (wants b (Bookings p)) (λ _. r)) ≡ r
    go true true e = refl
    go true false e = absurd (let q : ◌≡◌ {A = Result (Unit {0}) Flaw} (Err (Bookings p)) (Ok tt) = e in cc)
    go false b e = absurd (let q : ◌≡◌ {A = Result (Unit {0}) Flaw} (Err (Order p)) (Ok tt) = e in cc)

looked_err : {A : Type 0} (m : ℕ → ℕ) (tables : ℕ → Rows) (p lo : ℕ) (r : Result A Flaw) (f : Flaw) →
    looked m tables p lo ≡ Err f
    → then (wants (is_in_order m p lo) (Order p)) (λ _. then (wants (is_booking m tables p) (Bookings p)) (λ _. r)) ≡
    Err f
looked_err {A = A} m tables p lo r f e = go (is_in_order m p lo) (is_booking m tables p) e
  where
    go : (a b : Bool) → then (wants a (Order p)) (λ _. wants b (Bookings p)) ≡ Err f →
        then (wants a (Order p)) (λ _. then (wants b (Bookings p)) (λ _. r)) ≡ Err f
    go true true e = absurd (let q : ◌≡◌ {A = Result (Unit {0}) Flaw} (Ok tt) (Err f) = e in cc)
    go true false e = let q : ◌≡◌ {A = Result (Unit {0}) Flaw} (Err (Bookings p)) (Err f) = e in cc
    go false b e = let q : ◌≡◌ {A = Result (Unit {0}) Flaw} (Err (Order p)) (Err f) = e in cc

pub units_append : (m : ℕ → ℕ) (code : ℕ) (rs ts : Rows) → units_in m code
    (rs ++ ts) ≡ units_in m code rs + units_in m code ts
units_append m code [] ts = omega arith
units_append m code (r ∷ rs) ts = omega (arith, units_append m code rs ts)

module _ (words : List ℕ) (tables : ℕ → Rows) where
  -- the whole walk from the rest of a walk; `sofar` are the bookings walked before
  abbrev pub Whole : ℕ → List ℕ → List Bool → ℕ → ℕ → ℕ → List ℕ → Rows → Type 0
  Whole head seen0 marks0 levels at lo seen sofar =
      ((x : Rows × List ℕ) → walk_bookings (slice_index words) (length words) tables levels at lo seen ≡ Ok x
      → (y : Rows × List ℕ) × ((walk_bookings (slice_index words) (length words) tables
      (suc (length marks0)) head 0 seen0 ≡ Ok y) × (y.1 ≡ x.1) × (y.0 ≡ sofar ++ x.0)))
      × ((f : Flaw) → walk_bookings (slice_index words) (length words) tables levels at lo seen ≡ Err f →
      walk_bookings (slice_index words) (length words) tables (suc (length marks0)) head 0 seen0 ≡ Err f)

pub record BookRest (words : List ℕ) (tables : ℕ → Rows) (marks0 : List Bool) (head : ℕ) (seen0 : List ℕ)
    (marks : List Bool) (notes0 notes : Notes) (level at lo : ℕ) : Type 0 where
  pub levels : ℕ
  pub count : levels + level ≡ suc (length marks0)
  pub seen : List ℕ
  pub are : Marks marks seen
  pub sofar : Rows
  pub booked : BookingsCounted (slice_index words) notes0 notes sofar
  pub whole : Whole words tables head seen0 marks0 levels at lo seen sofar

pub record BookGoes (words : List ℕ) (marks0 : List Bool) (head : ℕ) (marks : List Bool) (notes0 notes : Notes)
    (level at lo : ℕ) : Type 0 where
  pub size : length marks ≡ length marks0
  pub fewer : unmarked marks ≤ unmarked marks0
  pub inside : at < length words
  pub counting : Counting notes (unmarked marks)
  pub items : SameItems notes0 notes
  pub rest : (tables : ℕ → Rows) → IsIndex (codes_in notes0.items.items) tables → (seen0 : List ℕ) →
      Marks marks0 seen0 → BookRest words tables marks0 head seen0 marks notes0 notes level at lo

pub same_items : (notes : Notes) → SameItems notes notes
same_items notes = record { keys = refl; blocks = refl; used = refl; free = refl; total = refl }

pub book_start : (words : List ℕ) (marks : List Bool) (notes : Notes) (head : ℕ) → head < length words →
    Counting notes (unmarked marks) → BookGoes words marks head marks notes notes 0 head 0
book_start words marks notes head l r = record {
  size = refl;
  fewer = omega arith;
  inside = l;
  counting = r;
  items = same_items notes;
  rest = λ tables ix seen s. record {
    levels = suc (length marks);
    count = omega arith;
    seen = seen;
    are = s;
    sofar = [];
    booked = record {
      items = same_items notes;
      booked = λ i less. omega arith;
      bookings = omega arith;
      billed = omega arith;
    };
    whole = ((λ x e. (x, (e, refl, refl))), λ f e. e);
  };
}

-- a level is left
pub record BookOpen (words : List ℕ) (tables : ℕ → Rows) (marks0 : List Bool) (head : ℕ) (seen0 : List ℕ)
    (marks : List Bool) (notes0 notes : Notes) (level at lo : ℕ) : Type 0 where
  pub levels : ℕ
  pub count : levels + (level + 1) ≡ suc (length marks0)
  pub seen : List ℕ
  pub are : Marks marks seen
  pub sofar : Rows
  pub booked : BookingsCounted (slice_index words) notes0 notes sofar
  pub whole : Whole words tables head seen0 marks0 (suc levels) at lo seen sofar

book_open : (words : List ℕ) (tables : ℕ → Rows) (marks0 : List Bool) (head : ℕ) (seen0 : List ℕ) (marks : List Bool)
    (notes0 notes : Notes) (level at lo : ℕ)
    → BookRest words tables marks0 head seen0 marks notes0 notes level at lo → level < suc (length marks0) →
    BookOpen words tables marks0 head seen0 marks notes0 notes level at lo
book_open words tables marks0 head seen0 marks notes0 notes level at lo h less = go h.levels h.count h.whole
  where
    go : (l : ℕ) → l + level ≡ suc (length marks0) → Whole words tables head seen0 marks0 l at lo h.seen h.sofar →
        BookOpen words tables marks0 head seen0 marks notes0 notes level at lo
    go zero c w = absurd (omega arith)
    go (suc l) c w = record {
      levels = l;
      count = omega arith;
      seen = h.seen;
      are = h.are;
      sofar = h.sofar;
      booked = h.booked;
      whole = w;
    }

append_none : (rs : Rows) → rs ++ [] ≡ rs
append_none [] = refl
append_none (r ∷ rs) = ap (λ (z : Rows). r ∷ z) (append_none rs)

pub book_end : (words : List ℕ) (marks0 : List Bool) (head : ℕ) (marks marks' : List Bool) (notes0 notes : Notes)
    (level at lo : ℕ) → BookGoes words marks0 head marks notes0 notes level at lo → level < suc (length marks0)
    → Followed words marks marks' at (Ok None) → BookingsRan words marks0 marks' notes0 notes head (Ok tt)
book_end words marks0 head marks marks' notes0 notes level at lo h less f tables ix seen0 s =
    let o = book_open words tables marks0 head seen0 marks notes0 notes level at lo (h.rest tables ix seen0 s) less in
    let g = f o.seen o.are in
    let y = o.whole.0 ([], o.seen) (then_with (follow (slice_index words) (length words) at o.seen) _ 0 _ g.0 refl) in (
      y.0,
      (
        y.1.0,
        subst (λ (z : List ℕ). Marks marks' z) (sym y.1.1) g.1,
        subst (λ (z : Rows). BookingsCounted (slice_index words) notes0 notes z)
            (sym (y.1.2 ∙ append_none o.sofar)) o.booked,
      ),
    )

pub book_flaw : (words : List ℕ) (marks0 : List Bool) (head : ℕ) (marks marks' : List Bool) (notes0 notes : Notes)
    (level at lo : ℕ) (flaw : Flaw) → BookGoes words marks0 head marks notes0 notes level at lo →
    level < suc (length marks0)
    → Followed words marks marks' at (Err flaw) → BookingsRan words marks0 marks' notes0 notes head (Err flaw)
book_flaw words marks0 head marks marks' notes0 notes level at lo flaw h less f tables ix seen0 s =
    let o = book_open words tables marks0 head seen0 marks notes0 notes level at lo (h.rest tables ix seen0 s) less in
    o.whole.1 flaw (then_err (follow (slice_index words) (length words) at o.seen) _ flaw (f o.seen o.are))

-- the definition's step at a booking
book_at : (m : ℕ → ℕ) (n : ℕ) (tables : ℕ → Rows) (levels at lo : ℕ) (seen : List ℕ) (p : ℕ)
    (r : Result (Rows × List ℕ) Flaw) → follow m n at seen ≡ Ok p → IsBlock n p
    → then (wants (is_in_order m p lo) (Order p)) (λ _. then (wants (is_booking m tables p) (Bookings p))
    (λ _. then (walk_bookings m n tables levels (p + 3) (place_code m p + 1) (p ∷ seen))
    (λ x. Ok ((place_code m p, p) ∷ x.0, x.1)))) ≡ r
    → walk_bookings m n tables (suc levels) at lo seen ≡ r
book_at m n tables levels at lo seen p r e b q = then_with (follow m n at seen) _ p r e
    (ap (λ (z : Bool). cond z (Ok ([], seen)) (then (wants (is_in_order m p lo) (Order p))
    (λ _. then (wants (is_booking m tables p) (Bookings p))
    (λ _. then (walk_bookings m n tables levels (p + 3) (place_code m p + 1) (p ∷ seen))
    (λ x. Ok ((place_code m p, p) ∷ x.0, x.1)))))) (not_none n p b) ∙ q)

index_as : (notes0 notes : Notes) (tables : ℕ → Rows) → SameItems notes0 notes →
    IsIndex (codes_in notes0.items.items) tables → IsIndex (codes_in notes.items.items) tables
index_as notes0 notes tables same ix = subst (λ (z : List ℕ). IsIndex z tables) (sym (same_codes notes0 notes same)) ix

pub book_bad : (words : List ℕ) (marks0 : List Bool) (head : ℕ) (marks marks' : List Bool) (notes0 notes : Notes)
    (level at lo p : ℕ) (flaw : Flaw) → BookGoes words marks0 head marks notes0 notes level at lo →
    level < suc (length marks0)
    → Followed words marks marks' at (Ok (Some p)) → IsBlock (length words) p →
    BookingLooked words (codes_in notes.items.items) p lo (Err flaw) →
    BookingsRan words marks0 marks' notes0 notes head (Err flaw)
book_bad words marks0 head marks marks' notes0 notes level at lo p flaw h less f b k tables ix seen0 s =
    let o = book_open words tables marks0 head seen0 marks notes0 notes level at lo (h.rest tables ix seen0 s) less in
    let g = f o.seen o.are in
    o.whole.1 flaw (book_at (slice_index words) (length words) tables o.levels at lo o.seen p _ g.0 b
    (looked_err (slice_index words) tables p lo _ flaw (k tables (index_as notes0 notes tables h.items ix))))

cond_at : (a b u : ℕ) → a ≡ b → cond {A = ℕ} (nat_eq a b) u 0 ≡ u
cond_at a b u e = grind (arith, nat_tests)

cond_else : (a b u : ℕ) → a ≢ b → cond {A = ℕ} (nat_eq a b) u 0 ≡ 0
cond_else a b u ne = grind (arith, nat_tests)

sums_step : (booked0 booked codes : List ℕ) (item u code i : ℕ) (sofar : ℕ → ℕ) → i < length codes →
    length booked ≡ length codes → AreRising codes → item < length codes → slice_index codes item ≡ code
    → slice_index booked i ≡ slice_index booked0 i + sofar (slice_index codes i)
    → slice_index (set booked item (slice_index booked item + u)) i ≡ slice_index booked0 i +
    (sofar (slice_index codes i) + cond (nat_eq code (slice_index codes i)) u 0)
sums_step booked0 booked codes item u code i sofar l same rising inside is old =
    elim (same_or i item) [
      | inl q ↦ (
          let here : get_or (set booked item (slice_index booked item + u)) i 0 ≡ slice_index booked item + u =
          subst (λ (z : ℕ). get_or (set booked item (slice_index booked item + u)) z 0 ≡ slice_index booked item + u)
          (sym q) (get_or-set_same booked item (slice_index booked item + u) 0 (omega arith)) in
          let e : slice_index booked i ≡ slice_index booked item = ap (λ (z : ℕ). slice_index booked z) q in
          let k : code ≡ slice_index codes i = sym is ∙ ap (λ (z : ℕ). slice_index codes z) (sym q) in
          omega (arith, here, e, cond_at code (slice_index codes i) u k))
      | inr ne ↦ (
          let other : slice_index codes i ≢ slice_index codes item = λ e. elim (cases_lt i item) [
            | inl below ↦ absurd (omega (arith, rising i item below inside))
            | inr above ↦ (let more : item < i = omega arith in absurd (omega (arith, rising item i more l)))
          ] in
          let k : code ≢ slice_index codes i = λ e. other (sym e ∙ sym is) in
          omega (
            arith,
            get_or-set_other booked item i (slice_index booked item + u) 0 ne,
            cond_else code (slice_index codes i) u k,
          ))
    ]

-- the notes on one booking
pub record OneBooked (m : ℕ → ℕ) (notes notes' : Notes) (item p : ℕ) : Type 0 where
  pub items : SameItems notes notes'
  pub booked : booked_in notes'.items.items ≡ set (booked_in notes.items.items) item
      (slice_index (booked_in notes.items.items) item + m (p + 4))
  pub bookings : notes'.tally.bookings ≡ notes.tally.bookings + m (p + 4)
  pub billed : notes'.tally.billed ≡ notes.tally.billed + m (p + 2)

pub then_items : (a b c : Notes) → SameItems a b → SameItems b c → SameItems a c
then_items a b c h k = record {
  keys = k.keys ∙ h.keys;
  blocks = k.blocks ∙ h.blocks;
  used = k.used ∙ h.used;
  free = k.free ∙ h.free;
  total = k.total ∙ h.total;
}

-- the code's step: the item's units are written anew
pub one_booked : (m : ℕ → ℕ) (notes notes' : Notes) (index p : ℕ) (item d : NotedItem) →
    index < length notes.items.items → item ≡ get_or notes.items.items index d →
    notes'.tally ≡ record notes.tally {
      bookings = notes.tally.bookings + m (p + 4);
      billed = notes.tally.billed + m (p + 2);
    }
    → notes'.items.items ≡ set notes.items.items index (record item { booked = item.booked + m (p + 4) }) →
    OneBooked m notes notes' index p
one_booked m notes notes' index p item d inside is tally items =
    let items0 = notes.items.items in
    let now : NotedItem = record item { booked = item.booked + m (p + 4) } in
    record {
      items = record {
        keys = ap (λ (z : List NotedItem). keys_in z) items ∙ kept_at items0 index d inside
            (λ (z : NotedItem). z.key) now (ap (λ (z : NotedItem). z.key) is);
        blocks = ap (λ (z : List NotedItem). blocks_in z) items ∙ kept_at items0 index d inside
            (λ (z : NotedItem). z.block) now (ap (λ (z : NotedItem). z.block) is);
        used = ap (λ (z : Tally). z.used) tally;
        free = ap (λ (z : Tally). z.free) tally;
        total = ap (λ (z : Tally). z.total) tally;
      };
      booked = ap (λ (z : List NotedItem). booked_in z) items ∙
          (map-set (λ (z : NotedItem). z.booked) items0 index now ∙
          ap (λ (z : ℕ). set (booked_in items0) index (z + m (p + 4)))
          (ap (λ (z : NotedItem). z.booked) is ∙ sym (units_at items0 index d inside)));
      bookings = ap (λ (z : Tally). z.bookings) tally;
      billed = ap (λ (z : Tally). z.billed) tally;
    }

one_more : (m : ℕ → ℕ) (notes0 notes notes' : Notes) (item p : ℕ) (rs : Rows) → BookingsCounted m notes0 notes rs →
    OneBooked m notes notes' item p → AreRising (codes_in notes.items.items)
    → item < length notes.items.items → slice_index (codes_in notes.items.items) item ≡ place_code m p →
    BookingsCounted m notes0 notes' (rs ++ ((place_code m p, p) ∷ []))
one_more m notes0 notes notes' item p rs h k rising inside is = record {
  items = then_items notes0 notes notes' h.items k.items;
  booked = λ i l.
      let old = codes_in notes0.items.items in
      let codes = codes_in notes.items.items in
      let booked0 = booked_in notes0.items.items in
      let booked = booked_in notes.items.items in
      let many = length_codes notes.items.items in
      let same : slice_index codes i ≡ slice_index old i = ap (λ (z : List ℕ). slice_index z i)
      (same_codes notes0 notes h.items) in
      let w = sums_step booked0 booked codes item (m (p + 4)) (place_code m p) i (λ code. units_in m code rs)
      (omega (arith, l, many, same_length notes0 notes h.items)) (length_booked notes.items.items ∙ sym many) rising
      (omega (arith, inside, many)) is
      (h.booked i l ∙ ap (λ (z : ℕ). slice_index booked0 i + units_in m z rs) (sym same)) in
      let v : slice_index (set booked item (slice_index booked item + m (p + 4))) i ≡ slice_index booked0 i +
      (units_in m (slice_index old i) rs + cond (nat_eq (place_code m p) (slice_index old i)) (m (p + 4)) 0) =
      w ∙ ap (λ (z : ℕ). slice_index booked0 i + (units_in m z rs + cond (nat_eq (place_code m p) z) (m (p + 4)) 0))
      same in
      ap (λ (z : List ℕ). slice_index z i) k.booked ∙ omega (
        arith,
        v,
        units_append m (slice_index old i) rs ((place_code m p, p) ∷ []),
      );
  bookings = omega (
    arith,
    k.bookings,
    h.bookings,
    sum_by-append (λ (r : ℕ × ℕ). m (r.1 + 4)) rs
        ((place_code m p, p) ∷ []),
    sum_by-cons (λ (r : ℕ × ℕ). m (r.1 + 4)) (place_code m p, p) [],
  );
  billed = omega (
    arith,
    k.billed,
    h.billed,
    sum_by-append (λ (r : ℕ × ℕ). m (r.1 + 2)) rs ((place_code m p, p) ∷ []),
    sum_by-cons (λ (r : ℕ × ℕ). m (r.1 + 2)) (place_code m p, p) [],
  );
}

pub counting_next : (m : ℕ → ℕ) (notes notes' : Notes) (item p left left' : ℕ) → Counting notes left →
    OneBooked m notes notes' item p → left' + 1 ≡ left → item < length notes.items.items → m (p + 4) ≤ 10000 →
    m (p + 2) ≤ 10000000000
    → Counting notes' left'
counting_next m notes notes' item p left left' h k less inside few small = record {
  order = same_order notes notes' k.items h.order;
  booked = λ i.
      let booked = booked_in notes.items.items in
      subst (λ (z : List ℕ). slice_index z i + 10000 * left' ≤ 10000 * 262144) (sym k.booked) (elim (same_or i item) [
        | inl q ↦ (
            let here : get_or (set booked item (slice_index booked item + m (p + 4))) i 0 ≡ slice_index booked item + m
            (p + 4) =
            subst (λ (z : ℕ). get_or (set booked item (slice_index booked item + m (p + 4))) z 0 ≡ slice_index booked
            item + m (p + 4)) (sym q) (get_or-set_same booked item (slice_index booked item + m (p + 4)) 0
            (omega (arith, inside, length_booked notes.items.items))) in
            omega (arith, here, h.booked item))
        | inr ne ↦ omega (arith, get_or-set_other booked item i (slice_index booked item + m (p + 4)) 0 ne, h.booked i)
      ]);
  bookings = omega (arith, h.bookings, k.bookings);
  billed = omega (arith, h.billed, k.billed);
}

pub book_step : (words : List ℕ) (marks0 : List Bool) (head : ℕ) (marks marks' : List Bool)
    (notes0 notes notes' : Notes) (level at lo p item next : ℕ) →
    BookGoes words marks0 head marks notes0 notes level at lo → level < suc (length marks0)
    → length marks' ≡ length marks → unmarked marks' + 1 ≡ unmarked marks
    → Followed words marks marks' at (Ok (Some p)) → IsBlock (length words) p →
    BookingLooked words (codes_in notes.items.items) p lo (Ok item) → item < length notes.items.items →
    slice_index (codes_in notes.items.items) item ≡ place_code (slice_index words) p →
    next ≡ place_code (slice_index words) p + 1 → slice_index words (p + 4) ≤ 10000
    → slice_index words (p + 2) ≤ 10000000000 → OneBooked (slice_index words) notes notes' item p
    → BookGoes words marks0 head marks' notes0 notes' (level + 1) (p + 3) next
book_step words marks0 head marks marks' notes0 notes notes' level at lo p item next h less size fewer f b k inside is
    is_next few small one = record {
      size = size ∙ h.size;
      fewer = omega (arith, h.fewer);
      inside = omega (arith, b.1.0);
      counting = counting_next (slice_index words) notes notes' item p (unmarked marks)
          (unmarked marks') h.counting one fewer inside few small;
      items = then_items notes0 notes notes' h.items one.items;
      rest = λ tables ix seen0 s.
          let o = book_open words tables marks0 head seen0 marks notes0 notes level at lo
          (h.rest tables ix seen0 s) less in
          let g = f o.seen o.are in
          let fine = looked_then (slice_index words) tables p lo
          (then (walk_bookings (slice_index words) (length words) tables o.levels (p + 3)
          (place_code (slice_index words) p + 1) (p ∷ o.seen))
          (λ x. Ok ((place_code (slice_index words) p, p) ∷ x.0, x.1)))
          (k tables (index_as notes0 notes tables h.items ix)) in
          record {
            levels = o.levels;
            count = o.count;
            seen = p ∷ o.seen;
            are = g.2;
            sofar = o.sofar ++ ((place_code (slice_index words) p, p) ∷ []);
            booked = one_more (slice_index words) notes0 notes notes' item p o.sofar o.booked one
                h.counting.order.rising
                inside is;
            whole = subst (λ (z : ℕ). Whole words tables head seen0 marks0 o.levels (p + 3) z (p ∷ o.seen)
                (o.sofar ++ ((place_code (slice_index words) p, p) ∷ [])))
                (sym is_next) (
                  (λ x e.
                      let y = o.whole.0 ((place_code (slice_index words) p, p) ∷ x.0, x.1)
                      (book_at (slice_index words) (length words) tables o.levels at lo o.seen p _ g.0 b
                      (fine ∙ then_with (walk_bookings (slice_index words) (length words) tables o.levels (p + 3)
                      (place_code (slice_index words) p + 1) (p ∷ o.seen)) _ x _ e refl)) in (
                        y.0,
                        (
                          y.1.0,
                          y.1.1,
                          y.1.2 ∙ sym (append_assoc o.sofar
                              ((place_code (slice_index words) p, p) ∷ []) x.0),
                        ),
                      )),
                  λ f e. o.whole.1 f (book_at (slice_index words) (length words) tables o.levels at lo o.seen p _ g.0 b
                      (fine ∙ then_err (walk_bookings (slice_index words) (length words) tables o.levels (p + 3)
                      (place_code (slice_index words) p + 1) (p ∷ o.seen)) _ f e)),
                );
          };
    }

pub book_out : (words : List ℕ) (marks0 : List Bool) (head : ℕ) (marks : List Bool) (notes0 notes : Notes)
    (level at lo : ℕ) → BookGoes words marks0 head marks notes0 notes level at lo → suc (length marks0) ≤ level
    → BookingsRan words marks0 marks notes0 notes head (Err (Shared at))
book_out words marks0 head marks notes0 notes level at lo h more tables ix seen0 s =
    go (h.rest tables ix seen0 s).levels (h.rest tables ix seen0 s).count (h.rest tables ix seen0 s).whole
  where
    go : (l : ℕ) → l + level ≡ suc (length marks0) → Whole words tables head seen0 marks0 l at lo
        (h.rest tables ix seen0 s).seen (h.rest tables ix seen0 s).sofar
        → walk_bookings (slice_index words) (length words) tables (suc (length marks0)) head 0 seen0 ≡ Err (Shared at)
    go zero c w = w.1 (Shared at) refl
    go (suc l) c w = absurd (omega arith)

-- the test of a booking among equal items
pub looked_as : (words : List ℕ) (slice items : List NotedItem) (p lo : ℕ) (r : Result ℕ Flaw) → slice ≡ items →
    BookingLooked words (codes_in slice) p lo r → BookingLooked words (codes_in items) p lo r
looked_as words slice items p lo r e k = subst (λ (z : List NotedItem). BookingLooked words (codes_in z) p lo r) e k
