-- A search of a list that starts at a link of the list.
use Rattle.std.proofs.Common.{◌≡◌, ◌≢◌, ◌⊎◌, inl, inr, ℕ, ◌+◌, ◌<◌, ◌≤◌, [], ◌∷◌, refl, sym, ap, ◌∙◌, subst, arith}
use Rattle.std.proofs.lemmas.Bool.Decides.{nat_tests}
use Rattle.std.proofs.lemmas.Bool.{cases_lt}
use Rattle.tx_memory.specs.Seen.{same_or}
use Rattle.tx_alloc.specs.Pool.{IsBlock}
use Rattle.tx_alloc.specs.Rows.{Rows, times, block_at}
use Rattle.tx_alloc.proofs.Times.{times_more}
use Rattle.vac_bookings.specs.Bookings.{Linked, link_to_key}
use Rattle.vac_bookings.specs.declared.search.Spot.{Spot}
use Rattle.vac_bookings.specs.Lists.{IsListAt, IsOutside}
use Rattle.vac_bookings.specs.Search.{SpotAt}
use Rattle.vac_bookings.proofs.Frame.{linked_lower, linked_once, list_block}
use Rattle.vac_bookings.proofs.Frame.{none_below}
use Rattle.vac_tasks.specs.Starts.{MayStart}

-- the link is the head, or is in a block that is none of these rows
abbrev pub Apart : ℕ → ℕ → ℕ → Rows → Type 0
Apart n head link rest = (link ≡ head) ⊎ ((b : ℕ) × ((link ≡ b + 3) × (IsBlock n b × (times b rest ≡ 0))))

-- a search for the key that starts at the link, with these rows before it, comes to where a search
-- from the head comes to
pub record Begun (m : ℕ → ℕ) (n head link key : ℕ) (rs : Rows) : Type 0 where
  pub rest : Rows
  pub linked : Linked m n (m link) 0 rest
  pub same_link : link_to_key head rs key ≡ link_to_key link rest key
  pub same_entry : block_at rs key ≡ block_at rest key
  pub among : (a : ℕ) → 0 < times a rest → 0 < times a rs
  pub apart : Apart n head link rest

pub begun : (m : ℕ → ℕ) (n l lo low key : ℕ) (rs : Rows) → Linked m n (m l) lo rs → low ≤ key →
    Begun m n l (link_to_key l rs low) key rs
begun m n l lo low key [] h le = record {
  rest = [];
  linked = h;
  same_link = refl;
  same_entry = refl;
  among = λ a i. i;
  apart = inl refl;
}
begun m n l lo low key ((j, a) ∷ rs) (r, h) le =
    elim (cases_lt j low) [
      | inl below ↦ (
          let t = begun m n (a + 3) (j + 1) low key rs h le in
          let to_low : link_to_key l ((j, a) ∷ rs) low ≡ link_to_key (a + 3) rs low = grind (arith, nat_tests) in
          let to_key : link_to_key l ((j, a) ∷ rs) key ≡ link_to_key (a + 3) rs key = grind (arith, nat_tests) in
          let entry : block_at ((j, a) ∷ rs) key ≡ block_at rs key = grind (arith, nat_tests) in
          let once = linked_once m n (m l) lo a ((j, a) ∷ rs) (r, h) in
          let gone : times a rs ≡ 0 = grind (arith, nat_tests) in
          let left : times a t.rest ≡ 0 = elim (same_or (times a t.rest) 0) [
            | inl z ↦ z
            | inr nz ↦ absurd (omega (arith, t.among a (omega arith), gone))
          ] in
          let apart : Apart n l (link_to_key (a + 3) rs low) t.rest = elim t.apart [
            | inl e ↦ inr (a, (e, (r.block, left)))
            | inr far ↦ inr far
          ] in
          subst (λ (x : ℕ). Begun m n l x key ((j, a) ∷ rs)) (sym to_low) (record {
            rest = t.rest;
            linked = t.linked;
            same_link = to_key ∙ t.same_link;
            same_entry = entry ∙ t.same_entry;
            among = λ x i. omega (arith, t.among x i, times_more (j, a) x rs);
            apart = apart;
          }))
      | inr here ↦ (
          let to_low : link_to_key l ((j, a) ∷ rs) low ≡ l = grind (arith, nat_tests) in
          subst (λ (x : ℕ). Begun m n l x key ((j, a) ∷ rs)) (sym to_low) (record {
            rest = (j, a) ∷ rs;
            linked = linked_lower m n (m l) lo 0 ((j, a) ∷ rs) (omega arith) (r, h);
            same_link = refl;
            same_entry = refl;
            among = λ x i. i;
            apart = inl refl;
          }))
    ]

pub begun_at : (m : ℕ → ℕ) (n head link key : ℕ) (rs : Rows) → IsListAt m n head rs → MayStart head link key rs →
    Begun m n head link key rs
begun_at m n head link key rs h t =
    subst (λ (x : ℕ). Begun m n head x key rs) (sym t.is) (begun m n head 0 t.low key rs h.list.linked t.early)

-- the word of a block that leads on is outside another block
next_outside : (n a b : ℕ) → IsBlock n a → IsBlock n b → a ≢ b → IsOutside (a + 3) b
next_outside n a b ba bb ne = elim (cases_lt a b) [
  | inl below ↦ inl (omega (arith, ba.1.1, bb.1.1))
  | inr above ↦ inr (omega (arith, ba.1.1, bb.1.1))
]

-- the link is the head of a list of the rows that are left
pub list_begun : (m : ℕ → ℕ) (n head link key : ℕ) (rs : Rows) → IsListAt m n head rs →
    (t : Begun m n head link key rs) → IsListAt m n link t.rest
list_begun m n head link key rs h t = record {
  list = record { linked = t.linked };
  outside = λ a i. elim t.apart [
    | inl e ↦ subst (λ (x : ℕ). IsOutside x a) (sym e) (h.outside a (t.among a i))
    | inr far ↦ (
        let ba = list_block m n (m head) a rs h.list (t.among a i) in
        let ne : far.0 ≢ a = λ q. absurd (omega (arith, i, far.1.1.1, ap (λ (x : ℕ). times x t.rest) q)) in
        subst (λ (x : ℕ). IsOutside x a) (sym far.1.0) (next_outside n far.0 a far.1.1.0 ba ne))
  ];
}

-- the spot of a search from the link is that of a search from the head
pub spot_begun : (m : ℕ → ℕ) (n head link key : ℕ) (spot : Spot) (rs : Rows) → (t : Begun m n head link key rs) →
    SpotAt m link key spot t.rest → SpotAt m head key spot rs
spot_begun m n head link key spot rs t p = record {
  link = p.link ∙ sym t.same_link;
  word = p.word;
  entry = p.entry ∙ sym t.same_entry;
}

-- a search for a later key may start there too
pub start_later : (head link key later : ℕ) (rs : Rows) → key ≤ later → MayStart head link key rs →
    MayStart head link later rs
start_later head link key later rs le t = record { low = t.low; early = omega (arith, t.early, le); is = t.is }

-- no row is passed where all keys are high enough
link_first : (m : ℕ → ℕ) (n p l key : ℕ) (rs : Rows) → Linked m n p key rs → link_to_key l rs key ≡ l
link_first m n p l key [] h = refl
link_first m n p l key ((j, a) ∷ rs) (r, h) = grind (arith, nat_tests, r.low)

-- the word behind a booking leads to the first of the later ones
link_behind : (m : ℕ → ℕ) (n l lo key b : ℕ) (rs : Rows) → Linked m n (m l) lo rs → block_at rs key ≡ b → b ≢ 0 →
    link_to_key l rs (key + 1) ≡ b + 3
link_behind m n l lo key b [] h e ne = absurd (ne (sym e))
link_behind m n l lo key b ((j, a) ∷ rs) (r, h) e ne =
    elim (cases_lt j key) [
      | inl below ↦ (
          let entry : block_at ((j, a) ∷ rs) key ≡ block_at rs key = grind (arith, nat_tests) in
          let on : link_to_key l ((j, a) ∷ rs) (key + 1) ≡ link_to_key (a + 3) rs (key + 1) =
          grind (arith, nat_tests) in
          on ∙ link_behind m n (a + 3) (j + 1) key b rs h (sym entry ∙ e) ne)
      | inr from ↦ elim (same_or j key) [
        | inl q ↦ (
            let entry : block_at ((j, a) ∷ rs) key ≡ a = grind (arith, nat_tests) in
            let on : link_to_key l ((j, a) ∷ rs) (key + 1) ≡ link_to_key (a + 3) rs (key + 1) =
            grind (arith, nat_tests) in
            let rest = subst (λ (x : ℕ). Linked m n (m (a + 3)) (x + 1) rs) q h in
            let end = link_first m n (m (a + 3)) (a + 3) (key + 1) rs rest in
            on ∙ (end ∙ ap (λ (x : ℕ). x + 3) (sym entry ∙ e)))
        | inr other ↦ (
            let none = none_below m n (m l) j ((j, a) ∷ rs) (
              record {
                at = r.at;
                block = r.block;
                kind = r.kind;
                id = r.id;
                key = r.key;
                low = omega arith;
              },
              h,
            ) key (omega arith) in
            absurd (ne (sym e ∙ none)))
      ]
    ]

pub start_behind : (m : ℕ → ℕ) (n head key b : ℕ) (rs : Rows) → IsListAt m n head rs → block_at rs key ≡ b → b ≢ 0 →
    MayStart head (b + 3) (key + 1) rs
start_behind m n head key b rs h e ne = record {
  low = key + 1;
  early = omega arith;
  is = sym (link_behind m n head 0 key b rs h.list.linked e ne);
}
