-- Each item has as many used units as are booked of it: over the lists of codes, blocks and units.
use Rattle.std.proofs.Common.{◌≡◌, ◌≢◌, ℕ, ◌+◌, ◌<◌, Bool, true, false, List, [], ◌∷◌, ◌++◌, length, get_or, zero, suc}
use Rattle.std.proofs.Common.{refl, sym, ap, ◌∙◌, arith, nat_eq}
use Rattle.std.specs.Prelude.{Result, Ok, Err, slice_index}
use Rattle.std.specs.List.{All}
use Rattle.std.proofs.lemmas.List.{append_assoc}
use Rattle.std.proofs.lemmas.Bool.Decides.{nat_tests}
use Rattle.tx_alloc.specs.Pool.{with_at}
use Rattle.tx_alloc.specs.Rows.{Rows}
use Rattle.vac_bookings.specs.Bookings.{key_code}
use Rattle.vac_records.specs.Heap.{over}
use Rattle.vac_audit.specs.Noted.{blocks_in, booked_in}
use Rattle.vac_audit.specs.Walk.{then, wants, check_used, check_all_used, units_in}
use Rattle.vac_audit.specs.Ran.{IsUsedAsBooked, FirstUnused}
use Rattle.vac_audit.specs.declared.notes.NotedItem.{NotedItem}
use Rattle.vac_audit.specs.declared.Flaw.{Flaw}
use Rattle.vac_audit.specs.declared.Flaw.TheVariants.{Bookings}
use Rattle.vac_audit.proofs.Noted.{no_item, length_blocks, block_at, units_at}
use Rattle.vac_audit.proofs.Index.{codes_of, blocks_of}
use Rattle.vac_audit.proofs.Walks.{tables_of}

-- the codes ps have blocks bs, and f gives the number of units that should be used
abbrev pub check_pairs : (ℕ → ℕ) → (ℕ → ℕ) → List ℕ → List ℕ → Result (Unit {0}) Flaw
check_pairs m f [] bs = Ok tt
check_pairs m f (p ∷ ps) [] = Ok tt
check_pairs m f (p ∷ ps) (b ∷ bs) = then (wants (nat_eq (m (b + 4)) (f p)) (Bookings (b + 4)))
    (λ _. check_pairs m f ps bs)

then_then : (x : Result (Unit {0}) Flaw) (y z : Result (Unit {0}) Flaw) →
    then (then x (λ _. y)) (λ _. z) ≡ then x (λ _. then y (λ _. z))
then_then (Ok u) y z = refl
then_then (Err f) y z = refl

then_done : (x : Result (Unit {0}) Flaw) → then x (λ _. Ok tt) ≡ x
then_done (Ok u) = refl
then_done (Err f) = refl

module _ (m : ℕ → ℕ) (customers : Rows) (lists : ℕ → Rows) where
  abbrev pub booked_at : ℕ → ℕ
  booked_at code = over (units_in m code) customers lists

  pairs_split : (kind : ℕ) (rs : Rows) (ps bs : List ℕ) → check_pairs m booked_at (codes_of kind rs ++ ps)
      (blocks_of kind rs ++ bs) ≡ then (check_used m customers lists kind rs) (λ _. check_pairs m booked_at ps bs)
  pairs_split kind [] ps bs = refl
  pairs_split kind (r ∷ rs) ps bs =
      ap (λ (z : Result (Unit {0}) Flaw). then (wants (nat_eq (m (r.1 + 4)) (booked_at (key_code kind r.0)))
      (Bookings (r.1 + 4))) (λ _. z)) (pairs_split kind rs ps bs)
      ∙ sym (then_then (wants (nat_eq (m (r.1 + 4)) (booked_at (key_code kind r.0))) (Bookings (r.1 + 4)))
      (check_used m customers lists kind rs) (check_pairs m booked_at ps bs))

  list_end : (xs : List ℕ) → xs ≡ xs ++ []
  list_end [] = refl
  list_end (x ∷ xs) = ap (λ (z : List ℕ). x ∷ z) (list_end xs)

  pub pairs_all : (a b c : Rows) → check_pairs m booked_at ((codes_of 0 a ++ codes_of 1 b) ++ codes_of 2 c)
      ((blocks_of 0 a ++ blocks_of 1 b) ++ blocks_of 2 c)
      ≡ check_all_used m (with_at (tables_of a b c) 3 customers) lists 3
  pairs_all a b c =
      let ca = check_used m customers lists 0 a in
      let cb = check_used m customers lists 1 b in
      let cd = check_used m customers lists 2 c in
      ap (λ (z : List ℕ). check_pairs m booked_at z ((blocks_of 0 a ++ blocks_of 1 b) ++ blocks_of 2 c))
      (append_assoc (codes_of 0 a) (codes_of 1 b) (codes_of 2 c))
      ∙ (ap (λ (z : List ℕ). check_pairs m booked_at (codes_of 0 a ++ (codes_of 1 b ++ codes_of 2 c)) z)
      (append_assoc (blocks_of 0 a) (blocks_of 1 b) (blocks_of 2 c))
      ∙ (pairs_split 0 a (codes_of 1 b ++ codes_of 2 c) (blocks_of 1 b ++ blocks_of 2 c)
      ∙ (ap (λ (z : Result (Unit {0}) Flaw). then ca (λ _. z)) (pairs_split 1 b (codes_of 2 c) (blocks_of 2 c)
      ∙ ap (λ (z : Result (Unit {0}) Flaw). then cb (λ _. z))
      (ap (λ (z : List ℕ). check_pairs m booked_at z (blocks_of 2 c)) (list_end (codes_of 2 c))
      ∙ (ap (λ (z : List ℕ). check_pairs m booked_at (codes_of 2 c ++ []) z) (list_end (blocks_of 2 c)) ∙
      (pairs_split 2 c [] [] ∙ then_done cd))))
      ∙ sym (then_then ca cb cd))))

pairs_ok : (m f : ℕ → ℕ) (ps bs : List ℕ) → length ps ≡ length bs →
    ((i : ℕ) → i < length bs → m (slice_index bs i + 4) ≡ f (slice_index ps i)) → check_pairs m f ps bs ≡ Ok tt
pairs_ok m f [] bs e h = refl
pairs_ok m f (p ∷ ps) [] e h = refl
pairs_ok m f (p ∷ ps) (b ∷ bs) e h =
    let here : m (b + 4) ≡ f p = h 0 (omega arith) in
    let t : nat_eq (m (b + 4)) (f p) ≡ true = grind (arith, nat_tests) in
    ap (λ (z : Bool). then (wants z (Bookings (b + 4))) (λ _. check_pairs m f ps bs)) t ∙
    pairs_ok m f ps bs (omega (arith, e)) (λ i l. h (suc i) (omega arith))

pairs_err : (m f : ℕ → ℕ) (ps bs : List ℕ) (i : ℕ) → length ps ≡ length bs → i < length bs →
    m (slice_index bs i + 4) ≢ f (slice_index ps i) → ((j : ℕ) → j < i →
    m (slice_index bs j + 4) ≡ f (slice_index ps j)) → check_pairs m f ps bs ≡ Err (Bookings (slice_index bs i + 4))
pairs_err m f [] bs i e l ne h = absurd (omega (arith, e))
pairs_err m f (p ∷ ps) [] i e l ne h = absurd (omega arith)
pairs_err m f (p ∷ ps) (b ∷ bs) zero e l ne h =
    let here : m (b + 4) ≢ f p = ne in
    let t : nat_eq (m (b + 4)) (f p) ≡ false = grind (arith, nat_tests) in
    ap (λ (z : Bool). then (wants z (Bookings (b + 4))) (λ _. check_pairs m f ps bs)) t
pairs_err m f (p ∷ ps) (b ∷ bs) (suc i) e l ne h =
    let here : m (b + 4) ≡ f p = h 0 (omega arith) in
    let t : nat_eq (m (b + 4)) (f p) ≡ true = grind (arith, nat_tests) in
    ap (λ (z : Bool). then (wants z (Bookings (b + 4))) (λ _. check_pairs m f ps bs)) t ∙ pairs_err m f ps bs i
    (omega (arith, e)) (omega arith) ne (λ j k. h (suc j) (omega arith))

module _ (words codes : List ℕ) (items : List NotedItem) (a b c customers : Rows) (lists : ℕ → Rows)
    (are : codes ≡ (codes_of 0 a ++ codes_of 1 b) ++ codes_of 2 c)
    (at : blocks_in items ≡ (blocks_of 0 a ++ blocks_of 1 b) ++ blocks_of 2 c) (same : length codes ≡ length items)
    (counts : (i : ℕ) → i < length items → slice_index (booked_in items) i ≡ over
    (units_in (slice_index words) (slice_index codes i)) customers lists) where
  as_pairs : (r : Result (Unit {0}) Flaw) → check_pairs (slice_index words)
      (booked_at (slice_index words) customers lists) codes (blocks_in items) ≡ r →
      check_all_used (slice_index words) (with_at (tables_of a b c) 3 customers) lists 3 ≡ r
  as_pairs r h = sym (pairs_all (slice_index words) customers lists a b c)
      ∙ (ap (λ (z : List ℕ). check_pairs (slice_index words) (booked_at (slice_index words) customers lists) z
      ((blocks_of 0 a ++ blocks_of 1 b) ++ blocks_of 2 c)) (sym are)
      ∙ (ap (λ (z : List ℕ). check_pairs (slice_index words) (booked_at (slice_index words) customers lists) codes z)
      (sym at) ∙ h))

  as_long : length codes ≡ length (blocks_in items)
  as_long = same ∙ sym (length_blocks items)

  module _ (i : ℕ) (l : i < length items) where
    word_is : slice_index words (slice_index (blocks_in items) i + 4) ≡ slice_index words
        ((get_or items i no_item).block + 4)
    word_is = ap (λ (z : ℕ). slice_index words (z + 4)) (block_at items i no_item l)

    units_are : (get_or items i no_item).booked ≡ booked_at (slice_index words) customers lists (slice_index codes i)
    units_are = sym (units_at items i no_item l) ∙ counts i l

    used_at : IsUsedAsBooked words (get_or items i no_item) → slice_index words
        (slice_index (blocks_in items) i + 4) ≡ booked_at (slice_index words) customers lists (slice_index codes i)
    used_at h = word_is ∙ (h ∙ units_are)

    unused_at : (IsUsedAsBooked words (get_or items i no_item) → ⊥) →
        slice_index words (slice_index (blocks_in items) i + 4) ≢ booked_at (slice_index words) customers lists
        (slice_index codes i)
    unused_at other e = other (sym word_is ∙ (e ∙ sym units_are))

  pub used_ok : All (IsUsedAsBooked words) items → check_all_used (slice_index words)
      (with_at (tables_of a b c) 3 customers) lists 3 ≡ Ok tt
  used_ok h = as_pairs (Ok tt) (pairs_ok (slice_index words) _ codes (blocks_in items) as_long (λ i l.
      let inside : i < length items = omega (arith, l, length_blocks items) in
      used_at i inside (h i no_item inside)))

  pub used_err : (flaw : Flaw) → FirstUnused words items flaw →
      check_all_used (slice_index words) (with_at (tables_of a b c) 3 customers) lists 3 ≡ Err flaw
  used_err flaw h = as_pairs (Err flaw) (pairs_err (slice_index words) _ codes (blocks_in items) h.i as_long
      (omega (arith, h.inside, length_blocks items)) (unused_at h.i h.inside (h.other no_item))
      (λ j l. used_at j (omega (arith, l, h.inside)) (h.earlier j no_item (omega arith) l))
      ∙ ap (λ (z : Flaw). Err z) (ap (λ (z : ℕ). Bookings (z + 4)) (block_at items h.i no_item h.inside) ∙
      sym (h.is no_item)))
