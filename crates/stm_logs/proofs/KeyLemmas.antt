-- A key is inserted among ascending keys.
use Rattle.std.proofs.Common.{◌≡◌, ◌≢◌, ◌⊎◌, inl, inr, ℕ, zero, suc, ◌+◌, ◌<◌, ◌≤◌, ◌↔◌, List, length, set, get_or}
use Rattle.std.proofs.Common.{refl, sym, ap, ◌∙◌, arith, subst, get_or-set_same, get_or-set_other, [], ◌∷◌}
use Rattle.std.proofs.lemmas.Bool.{cases_lt}
use Rattle.std.proofs.Math.ListN.{replicate}
use Rattle.stm_logs.specs.declared.keys.TheConstants.{NO_KEY}
use Rattle.stm_logs.specs.Keys.{AreKeys, HasKey, IsChosen, content_before}
use Rattle.stm_logs.proofs.NodeLemmas.{same_or}

-- ---- contents do not descend
module _ (K : ℕ → ℕ) (n : ℕ) (old : AreKeys K n) where
  pub up : (i j : ℕ) → i ≤ j → K i ≤ K j
  up i j h = elim (cases_lt j n) [
    | inl inside ↦ elim (same_or i j) [
      | inl is ↦ omega (arith, ap K is)
      | inr ne ↦ (let l = old.ascending i j (omega arith) inside in omega (arith, l))
    ]
    | inr out ↦ (
        let last = old.none j out in
        elim (cases_lt i n) [
          | inl inside ↦ (let b = old.below i inside in omega (arith, b, last))
          | inr also ↦ (let a = old.none i also in omega (arith, a, last))
        ])
  ]

  pub before_up : (j : ℕ) → content_before K j ≤ K j
  before_up zero = omega arith
  before_up (suc j) = up j (suc j) (omega arith)

-- ---- the keys after the insertion
module _ (K N : ℕ → ℕ) (n x : ℕ) (old : AreKeys K n) (some : 0 < x) (small : x < NO_KEY)
    (new : (j : ℕ) → j < n → K j ≢ x) (c : (j : ℕ) → IsChosen (content_before K j) (K j) x (N j)) where
  -- which of three contents a place has
  which : (j : ℕ) → ((K j < x) × (N j ≡ K j)) ⊎ (((content_before K j < x) × (N j ≡ x)) ⊎
      ((x ≤ content_before K j) × (N j ≡ content_before K j)))
  which j = elim (cases_lt (K j) x) [
    | inl below ↦ inl (below, (c j).smaller below)
    | inr above ↦ inr (elim (cases_lt (content_before K j) x) [
      | inl less ↦ inl (less, (c j).first above less)
      | inr more ↦ inr (more, (c j).greater above more)
    ])
  ]

  inside : (j : ℕ) → K j < x → j < n
  inside j less = elim (cases_lt j n) [
    | inl l ↦ l
    | inr out ↦ (let e = old.none j out in absurd (omega (arith, e)))
  ]

  -- the place before, if its content is at least x
  place_before : (j : ℕ) → x ≤ content_before K j → (p : ℕ) × ((j ≡ suc p) × (content_before K j ≡ K p))
  place_before zero more = absurd (omega arith)
  place_before (suc p) more = (p, (refl, refl))

  before_less : (i p : ℕ) → i ≤ p → p < n → x ≤ content_before K i → content_before K i < K p
  before_less zero p l m more = absurd (omega arith)
  before_less (suc q) p l m more = old.ascending q p (omega arith) m

  ascending : (i j : ℕ) → i < j → j < n + 1 → N i < N j
  ascending i zero l m = absurd (omega arith)
  ascending i (suc p) l m = elim (which (suc p)) [
    | inl a ↦ (
        let less = a.0 in
        let step = old.ascending i (suc p) l (inside (suc p) less) in
        let same = (c i).smaller (omega (arith, less, step)) in
        omega (arith, step, same, a.1))
    | inr b ↦ elim b [
      | inl first ↦ (
          let less = first.0 in
          let step = up K n old i p (omega arith) in
          let below : K i < x = omega (arith, less, step) in
          omega (arith, below, (c i).smaller below, first.1))
      | inr greater ↦ (
          let more = greater.0 in
          let at_p : p < n = omega arith in
          let ne = new p at_p in
          let over : x < K p = omega (arith, more, ne) in
          elim (which i) [
            | inl a ↦ omega (arith, a.0, a.1, over, greater.1)
            | inr d ↦ elim d [
              | inl e ↦ omega (arith, e.1, over, greater.1)
              | inr f ↦ (let less = before_less i p (omega arith) at_p f.0 in omega (arith, f.1, less, greater.1))
            ]
          ])
    ]
  ]

  below : (j : ℕ) → j < n + 1 → N j < NO_KEY
  below j l = elim (which j) [
    | inl a ↦ omega (arith, a.0, a.1)
    | inr b ↦ elim b [
      | inl first ↦ omega (arith, first.1)
      | inr greater ↦ (
          let s = place_before j greater.0 in
          let at_p = s.1.0 in
          let b = old.below s.0 (omega (arith, at_p)) in
          omega (arith, b, greater.1, s.1.1))
    ]
  ]

  none : (j : ℕ) → n + 1 ≤ j → N j ≡ NO_KEY
  none zero l = absurd (omega arith)
  none (suc p) l =
      let here = old.none (suc p) (omega arith) in
      let there = old.none p (omega arith) in
      (c (suc p)).greater (omega (arith, here)) (omega (arith, there)) ∙ there

  pub inserted_keys : AreKeys N (n + 1)
  inserted_keys = record { ascending = ascending; below = below; none = none }

  -- the place of x is found from place r on
  placed : (d r : ℕ) → r + d ≡ n → content_before K r < x → HasKey N (n + 1) x
  placed zero r s less =
      let last = old.none r (omega arith) in
      (r, (omega arith, (c r).first (omega (arith, last)) less))
  placed (suc d) r s less = elim (cases_lt (K r) x) [
    | inl under ↦ placed d (suc r) (omega arith) under
    | inr above ↦ (r, (omega arith, (c r).first above less))
  ]

  kept : (y : ℕ) → HasKey K n y → HasKey N (n + 1) y
  kept y h = elim (cases_lt (K h.0) x) [
    | inl under ↦ (let l = h.1.0 in (h.0, (omega (arith, l), (c h.0).smaller under ∙ h.1.1)))
    | inr above ↦ (
        let l = h.1.0 in
        let on = up K n old h.0 (suc h.0) (omega arith) in
        (suc h.0, (omega (arith, l), (c (suc h.0)).greater (omega (arith, on)) above ∙ h.1.1)))
  ]

  found : (y : ℕ) → HasKey N (n + 1) y → HasKey K n y ⊎ (y ≡ x)
  found y h = elim (which h.0) [
    | inl a ↦ inl (h.0, (inside h.0 a.0, sym a.1 ∙ h.1.1))
    | inr b ↦ elim b [
      | inl first ↦ inr (sym h.1.1 ∙ first.1)
      | inr greater ↦ (
          let s = place_before h.0 greater.0 in
          let at_p = s.1.0 in
          let l = h.1.0 in
          inl (s.0, (omega (arith, at_p, l), sym s.1.1 ∙ sym greater.1 ∙ h.1.1)))
    ]
  ]

  pub inserted_same : (y : ℕ) → HasKey N (n + 1) y ↔ (HasKey K n y ⊎ (y ≡ x))
  inserted_same y = (
    found y,
    λ h. elim h [
      | inl old_one ↦ kept y old_one
      | inr is ↦ subst (HasKey N (n + 1)) (sym is)
          (placed n 0 (omega arith) some)
    ],
  )

-- ---- one step of the insertion
pub step_done : (K : ℕ → ℕ) (xs : List ℕ) (j x y : ℕ) → j < length xs → IsChosen (content_before K j) (K j) x y →
    ((k : ℕ) → k < j → IsChosen (content_before K k) (K k) x (get_or xs k NO_KEY)) → (k : ℕ) → k < j + 1 →
    IsChosen (content_before K k) (K k) x (get_or (set xs j y) k NO_KEY)
step_done K xs j x y inside this done k l = elim (same_or k j) [
  | inl is ↦ subst (λ i. IsChosen (content_before K i) (K i) x (get_or (set xs j y) i NO_KEY)) (sym is)
      (subst (IsChosen (content_before K j) (K j) x) (sym (get_or-set_same xs j y NO_KEY inside)) this)
  | inr ne ↦ subst (IsChosen (content_before K k) (K k) x) (sym (get_or-set_other xs j k y NO_KEY ne))
      (done k (omega arith))
]

pub step_left : (K : ℕ → ℕ) (xs : List ℕ) (j y : ℕ) → ((k : ℕ) → j ≤ k → get_or xs k NO_KEY ≡ K k) → (k : ℕ) →
    j + 1 ≤ k → get_or (set xs j y) k NO_KEY ≡ K k
step_left K xs j y left k l = get_or-set_other xs j k y NO_KEY (omega arith) ∙ left k (omega arith)

-- behind the last group nothing changes
pub all_done : (K N : ℕ → ℕ) (n x end : ℕ) → AreKeys K n → x < NO_KEY → n + 1 ≤ end →
    ((k : ℕ) → k < end → IsChosen (content_before K k) (K k) x (N k)) → ((k : ℕ) → end ≤ k → N k ≡ K k) → (k : ℕ) →
    IsChosen (content_before K k) (K k) x (N k)
all_done K N n x end old small some done left k = elim (cases_lt k end) [
  | inl inside ↦ done k inside
  | inr out ↦ behind k out
]
  where
    behind : (k : ℕ) → end ≤ k → IsChosen (content_before K k) (K k) x (N k)
    behind zero out = absurd (omega arith)
    behind (suc p) out =
        let here = old.none (suc p) (omega arith) in
        let before = old.none p (omega arith) in
        let same = left (suc p) out in
        record {
          smaller = λ l. absurd (omega (arith, here));
          first = λ a l. absurd (omega (arith, before));
          greater = λ a b. same ∙ here ∙ sym before;
        }

-- ---- places without keys
pub no_keys : (n j : ℕ) → get_or (replicate n NO_KEY) j NO_KEY ≡ NO_KEY
no_keys zero j = refl
no_keys (suc n) zero = refl
no_keys (suc n) (suc j) = no_keys n j

pub empty_keys : (n : ℕ) → AreKeys (λ j. get_or (replicate n NO_KEY) j NO_KEY) 0
empty_keys n = record {
  ascending = λ i j l m. absurd (omega arith);
  below = λ j l. absurd (omega arith);
  none = λ j l. no_keys n j;
}

-- inside the places, what stands there does not depend on the content of a missing place
pub here_same : (xs : List ℕ) (j : ℕ) → j < length xs → get_or xs j 0 ≡ get_or xs j NO_KEY
here_same [] j l = absurd (omega arith)
here_same (x ∷ xs) zero l = refl
here_same (x ∷ xs) (suc j) l = here_same xs j (omega arith)
