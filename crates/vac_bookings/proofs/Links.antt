-- A row put into a list, or cut out of it, by a write to the word that leads to its place.
use Rattle.std.proofs.Common.{◌≡◌, ◌≢◌, ◌⊎◌, inl, inr, ℕ, ◌+◌, ◌^◌, ◌<◌, ◌≤◌, [], ◌∷◌, refl, arith}
use Rattle.std.proofs.lemmas.Bool.Decides.{nat_tests}
use Rattle.std.proofs.lemmas.Bool.{cases_lt}
use Rattle.tx_alloc.specs.Pool.{IsBlock}
use Rattle.tx_alloc.specs.Rows.{Rows, times, put_row, cut_row, block_at}
use Rattle.vac_bookings.specs.Bookings.{place_code, Linked, link_to_key}
use Rattle.vac_bookings.specs.Lists.{IsOutside}
use Rattle.vac_bookings.proofs.Frame.{linked_frame, linked_in, linked_lower, none_below}

-- the word l is none of the words that make a block a booking of a list
pub record Spares (l a : ℕ) : Type 0 where
  pub kind : l ≢ a + 0
  pub id : l ≢ a + 1
  pub next : l ≢ a + 3

-- nor of any of these rows
abbrev pub SparesAll : ℕ → Rows → Type 0
SparesAll l rs = (a : ℕ) → 0 < times a rs → Spares l a

pub outside_spares : (l a : ℕ) → IsOutside l a → Spares l a
outside_spares l a o = grind arith

link_next : (m : ℕ → ℕ) (n q k p : ℕ) (rs : Rows) → IsBlock n q → place_code m q ≡ k → Linked m n p (k + 1) rs →
    SparesAll (q + 3) rs
link_next m n q k p rs bq e h a i = let t = linked_in m n p (k + 1) a rs h i in grind arith

-- the word that leads to the key's place is l, or the word of a block of the rows that leads on
pub link_is : (l key : ℕ) (rs : Rows) → (link_to_key l rs key ≡ l) ⊎
    ((a : ℕ) × ((link_to_key l rs key ≡ a + 3) × (0 < times a rs)))
link_is l key [] = inl refl
link_is l key ((k, b) ∷ rs) = let ih = link_is (b + 3) key rs in grind (arith, nat_tests)

-- the word that leads to the key's place behind the first row
record Behind (l b x : ℕ) : Type 0 where
  pub link : l ≢ x
  pub kind : b + 0 ≢ x
  pub id : b + 1 ≢ x

link_behind : (m : ℕ → ℕ) (n l k b key : ℕ) (rs : Rows) → SparesAll l ((k, b) ∷ rs) → IsBlock n b →
    Linked m n (m (b + 3)) (k + 1) rs → Behind l b (link_to_key (b + 3) rs key)
link_behind m n l k b key rs link bb h = elim (link_is (b + 3) key rs) [
  | inl at ↦ grind (arith, nat_tests, link b)
  | inr (a, w) ↦ (let t = linked_in m n (m (b + 3)) (k + 1) a rs h w.1 in grind (arith, nat_tests, link a))
]

-- b was written to the word l, and leads on to what l led to
pub record Puts (m m' : ℕ → ℕ) (b l : ℕ) : Type 0 where
  pub here : m' l ≡ b
  pub next : m' (b + 3) ≡ m l
  pub others : (x : ℕ) → x ≢ l → x ≢ b + 3 → m' x ≡ m x

-- a block with a kind and an id, which make this key
pub record Keyed (m : ℕ → ℕ) (n key b : ℕ) : Type 0 where
  pub block : IsBlock n b
  pub kind : m (b + 0) < 3
  pub id : m (b + 1) < 2 ^ 32
  pub code : place_code m b ≡ key

pub put_linked : (m m' : ℕ → ℕ) (n l lo key b x : ℕ) (rs : Rows) → Linked m n (m l) lo rs → SparesAll l rs →
    Spares l b → Keyed m n key b → times b rs ≡ 0 → lo ≤ key → block_at rs key ≡ 0 → Puts m m' b x →
    x ≡ link_to_key l rs key → Linked m' n (m' l) lo (put_row rs key b)
put_linked m m' n l lo key b x [] h link own k out low none w e = grind (arith, w.others (b + 0), w.others (b + 1))
put_linked m m' n l lo key b x ((j, a) ∷ rs) h link own k out low none w e = elim (cases_lt j key) [
  | inl below ↦ (
      let f = link_behind m n l j a key rs link h.0.block h.1 in
      let ih = put_linked m m' n (a + 3) (j + 1) key b x rs h.1 (link_next m n a j (m (a + 3)) rs h.0.block h.0.key h.1)
      (grind (arith, nat_tests)) k (omega arith) (omega arith) (grind (arith, nat_tests)) w
      (grind (arith, nat_tests)) in
      grind (arith, nat_tests, w.others l, w.others (a + 0), w.others (a + 1)))
  | inr here ↦ (
      let fr = linked_frame m m' n (m l) (key + 1) ((j, a) ∷ rs) (λ z i.
      let t = (linked_in m n (m l) lo z ((j, a) ∷ rs) h i).booked.block in
      grind (arith, nat_tests, link z, w.others (z + 0), w.others (z + 1), w.others (z + 3))) in
      grind (arith, nat_tests, w.others (b + 0), w.others (b + 1)))
]

-- the word l leads to what the block behind it led to
pub record Cuts (m m' : ℕ → ℕ) (l : ℕ) : Type 0 where
  pub here : m' l ≡ m (m l + 3)
  pub others : (x : ℕ) → x ≢ l → m' x ≡ m x

pub cut_linked : (m m' : ℕ → ℕ) (n l lo key x : ℕ) (rs : Rows) → Linked m n (m l) lo rs → SparesAll l rs →
    block_at rs key ≢ 0 → Cuts m m' x → x ≡ link_to_key l rs key → Linked m' n (m' l) lo (cut_row rs key)
cut_linked m m' n l lo key x [] h link some w e = absurd (some refl)
cut_linked m m' n l lo key x ((j, a) ∷ rs) h link some w e = elim (cases_lt j key) [
  | inl below ↦ (
      let f = link_behind m n l j a key rs link h.0.block h.1 in
      let ih = cut_linked m m' n (a + 3) (j + 1) key x rs h.1 (link_next m n a j (m (a + 3)) rs h.0.block h.0.key h.1)
      (grind (arith, nat_tests)) w (grind (arith, nat_tests)) in
      grind (arith, nat_tests, w.others l, w.others (a + 0), w.others (a + 1)))
  | inr here ↦ (
      let none = none_below m n (m (a + 3)) (j + 1) rs h.1 key in
      let fr = linked_frame m m' n (m (a + 3)) (j + 1) rs (λ z i.
      grind (arith, nat_tests, link z, w.others (z + 0), w.others (z + 1), w.others (z + 3))) h.1 in
      let low = linked_lower m' n (m (a + 3)) (j + 1) lo rs (omega arith) fr in
      grind (arith, nat_tests))
]

-- nothing is cut where the key is not there
pub cut_none : (m : ℕ → ℕ) (n p lo key : ℕ) (rs : Rows) → Linked m n p lo rs → block_at rs key ≡ 0 → cut_row rs key ≡ rs
cut_none m n p lo key [] h e = refl
cut_none m n p lo key ((j, a) ∷ rs) h e =
    let ih = cut_none m n (m (a + 3)) (j + 1) key rs h.1 in grind (arith, nat_tests)

-- the word that leads to the key's place leads to its block
pub link_leads : (m : ℕ → ℕ) (n l lo key : ℕ) (rs : Rows) → Linked m n (m l) lo rs → block_at rs key ≢ 0 →
    m (link_to_key l rs key) ≡ block_at rs key
link_leads m n l lo key [] h ne = absurd (ne refl)
link_leads m n l lo key ((k, a) ∷ rs) h ne =
    let ih = link_leads m n (a + 3) (k + 1) key rs h.1 in
    let none = none_below m n (m (a + 3)) (k + 1) rs h.1 key in
    grind (arith, nat_tests)
