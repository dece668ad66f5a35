-- The choices of a trip among the asks for items of the scope.
use Rattle.std.proofs.Common.{◌≡◌, ◌⊎◌, ℕ, ◌≤◌, ◌<◌, ◌==◌, ◌&&◌, Bool, true, false, cond, List, [], ◌∷◌, refl, ap, sym}
use Rattle.std.proofs.Common.{subst, ◌∙◌, inl, inr, arith}
use Rattle.std.specs.Prelude.{Option, Some, None, IfSome, ⊤, nat_lt, fold, filter, if◌then◌else◌}
use Rattle.std.specs.Option.{option_map}
use Rattle.std.proofs.lemmas.Bool.Decides.{nat_tests}
use Rattle.vac_model.specs.declared.items.Kind.{Kind}
use Rattle.vac_model.specs.declared.items.Item.{Item}
use Rattle.vac_model.specs.State.{State, Place, kind_number, item_of}
use Rattle.vac_model.specs.Step.{price_of}
use Rattle.vac_model.specs.Run.{Choice, dearer, choice_of}
use Rattle.vac_model.proofs.Ids.{both_true}
use Rattle.vac_model.proofs.Kept.{lt_false}
use Rattle.judge_reservations.proofs.Effects.{offer}
use Rattle.judge_reservations.proofs.Tasks.{Passes, same_kind}

pub lt_true : (a b : ℕ) → nat_lt a b ≡ true → a < b
lt_true a b e = grind (arith, nat_tests, e)

-- the price of an item with this total and price
pub priced : (o : Option Item) → option_map (λ (i : Item). i.price) o ≡ option_map (λ (x : ℕ × ℕ). x.1)
    (option_map offer o)
priced None = refl
priced (Some i) = refl

module _ (s p : State) (ok : Place → Bool) (keep : Kind → Bool) (kind : Kind)
    (same : (q : Place) → ok q ≡ true → price_of p q.0 q.1 ≡ price_of s q.0 q.1) where
  abbrev pub test : Place → Bool
  test ask = ok ask && keep ask.0

  abbrev turn : State → Option Choice → Place → Option Choice
  turn t best ask = if kind_number ask.0 == kind_number kind then dearer best ask.1 (price_of t ask.0 ask.1) else best

  -- no ask for a kind that is left out is kept
  other_kind : (ask : Place) → keep kind ≡ false → test ask ≡ true → (kind_number ask.0 == kind_number kind) ≡ false
  other_kind ask out e = go (kind_number ask.0 == kind_number kind) refl
    where
      go : (b : Bool) → (kind_number ask.0 == kind_number kind) ≡ b → (kind_number ask.0 == kind_number kind) ≡ false
      go false f = f
      go true f =
          let both = both_true (ok ask) (keep ask.0) e in
          let kept : keep kind ≡ true = subst (λ k. keep k ≡ true) (same_kind ask.0 kind f) both.1 in
          absurd (let never : true ≡ false = sym kept ∙ out in cc)

  skipped : (ask : Place) (asks : List Place) (b : Bool) → test ask ≡ b → keep kind ≡ false →
      fold (turn p) None (filter test asks) ≡ None →
      fold (turn p) None (cond b (ask ∷ filter test asks) (filter test asks)) ≡ None
  skipped ask asks false e out rest = rest
  skipped ask asks true e out rest =
      ap (λ t. fold (turn p) (cond t (dearer None ask.1 (price_of p ask.0 ask.1)) None) (filter test asks))
      (other_kind ask out e) ∙ rest

  pub left_out : keep kind ≡ false → (asks : List Place) → choice_of p kind (filter test asks) ≡ None
  left_out out [] = refl
  left_out out (ask ∷ asks) = skipped ask asks (test ask) refl out (left_out out asks)

  -- the choice among some asks, and the choice among those of them that are kept: the same, or the first is of an
  -- item that is not ok, and no cheaper
  abbrev Below : Option Choice → ℕ → Type 0
  Below o n = IfSome o (λ b. b.1 ≤ n)

  record Behind (bs bp : Option Choice) : Type 0 where
    pub best : Choice
    pub is : bs ≡ Some best
    pub apart : ok (kind, best.0) ≡ false
    pub below : Below bp best.1

  abbrev Rel : Option Choice → Option Choice → Type 0
  Rel bs bp = (bp ≡ bs) ⊎ Behind bs bp

  below_more : (o : Option Choice) (n m : ℕ) → n ≤ m → Below o n → Below o m
  below_more None n m h b = b
  below_more (Some x) n m h b = omega (arith, h, b)

  dearer_below : (bp : Option Choice) (id n m : ℕ) → n ≤ m → Below bp m → Below (dearer bp id (Some n)) m
  dearer_below None id n m h b = h
  dearer_below (Some x) id n m h b =
      elim (nat_lt x.1 n) as (λ t. Below (cond t (Some (id, n)) (Some x)) m) [
        | true ↦ h
        | false ↦ b
      ]

  same_dearer : (bp : Option Choice) (id n m : ℕ) → m < n → Below bp m → dearer bp id (Some n) ≡ Some (id, n)
  same_dearer None id n m h b = refl
  same_dearer (Some x) id n m h b =
      let less : nat_lt x.1 n ≡ true = grind (arith, nat_tests, h, b) in
      ap (λ t. cond t (Some (id, n)) (Some x)) less

  behind_some : (best : Choice) (bp : Option Choice) (id n : ℕ) → ok (kind, best.0) ≡ false → Below bp best.1 →
      (t : Bool) → nat_lt best.1 n ≡ t → Rel (cond t (Some (id, n)) (Some best)) (dearer bp id (Some n))
  behind_some best bp id n apart below true e = inl (same_dearer bp id n best.1 (lt_true best.1 n e) below)
  behind_some best bp id n apart below false e = inr (record {
    best = best;
    is = refl;
    apart = apart;
    below = dearer_below bp id n best.1 (lt_false best.1 n e) below;
  })

  behind_dearer : (best : Choice) (bp : Option Choice) (id : ℕ) (price : Option ℕ) → ok (kind, best.0) ≡ false →
      Below bp best.1 → Rel (dearer (Some best) id price) (dearer bp id price)
  behind_dearer best bp id None apart below = inr (record { best = best; is = refl; apart = apart; below = below })
  behind_dearer best bp id (Some n) apart below = behind_some best bp id n apart below (nat_lt best.1 n) refl

  -- an item that is ok, in both
  both_dearer : (bs bp : Option Choice) (id : ℕ) (price : Option ℕ) → Rel bs bp →
      Rel (dearer bs id price) (dearer bp id price)
  both_dearer bs bp id price r = elim r [
    | inl e ↦ inl (ap (λ b. dearer b id price) e)
    | inr h ↦ subst (λ b. Rel (dearer b id price) (dearer bp id price)) (sym h.is)
        (behind_dearer h.best bp id price h.apart h.below)
  ]

  the_same : (a b : Choice) → Some a ≡ Some b → a ≡ b
  the_same a b e = cc

  no_best : (b : Choice) → None ≡ Some b → ⊥
  no_best b e = cc

  out_none : (bp : Option Choice) (id n : ℕ) → ok (kind, id) ≡ false → Rel None bp → Rel (Some (id, n)) bp
  out_none bp id n out r = elim r [
    | inl e ↦ inr (record { best = (id, n); is = refl; apart = out; below = subst (λ b. Below b n) (sym e) tt })
    | inr h ↦ absurd (no_best h.best h.is)
  ]

  out_some : (b : Choice) (bp : Option Choice) (id n : ℕ) → ok (kind, id) ≡ false → Rel (Some b) bp → (t : Bool) →
      nat_lt b.1 n ≡ t → Rel (cond t (Some (id, n)) (Some b)) bp
  out_some b bp id n out r true e = elim r [
    | inl f ↦ inr (record {
      best = (id, n);
      is = refl;
      apart = out;
      below = subst (λ x. Below x n) (sym f) (let less = lt_true b.1 n e in omega (arith, less));
    })
    | inr h ↦
        let equal : b.1 ≡ h.best.1 = ap (λ (x : Choice). x.1) (the_same b h.best h.is) in
        let less = lt_true b.1 n e in
        inr (record {
          best = (id, n);
          is = refl;
          apart = out;
          below = below_more bp h.best.1 n (omega (arith, less, equal)) h.below;
        })
  ]
  out_some b bp id n out r false e = r

  -- an item that is not ok, in the first alone
  out_dearer : (bs bp : Option Choice) (id : ℕ) (price : Option ℕ) → ok (kind, id) ≡ false → Rel bs bp →
      Rel (dearer bs id price) bp
  out_dearer bs bp id None out r = r
  out_dearer None bp id (Some n) out r = out_none bp id n out r
  out_dearer (Some b) bp id (Some n) out r = out_some b bp id n out r (nat_lt b.1 n) refl

  record OneMore (bs bp : Option Choice) (ask : Place) (rest : List Place) : Type 0 where
    pub next : Option Choice
    pub rel : Rel (turn s bs ask) next
    pub folds : fold (turn p) bp (cond (test ask) (ask ∷ rest) rest) ≡ fold (turn p) next rest

  -- an ask for another kind
  passed_by : (bp : Option Choice) (ask : Place) (rest : List Place) (t : Bool) → turn p bp ask ≡ bp →
      fold (turn p) bp (cond t (ask ∷ rest) rest) ≡ fold (turn p) bp rest
  passed_by bp ask rest true e = ap (λ b. fold (turn p) b rest) e
  passed_by bp ask rest false e = refl

  module _ (kept : keep kind ≡ true) where
    one_more : (bs bp : Option Choice) (ask : Place) (rest : List Place) → Rel bs bp → (k o : Bool) →
        (kind_number ask.0 == kind_number kind) ≡ k → ok ask ≡ o → OneMore bs bp ask rest
    one_more bs bp ask rest r false o ke oe =
        let other : (t : State) (b : Option Choice) → turn t b ask ≡ b =
        λ t b. ap (λ x. cond x (dearer b ask.1 (price_of t ask.0 ask.1)) b) ke in
        record {
          next = bp;
          rel = subst (λ b. Rel b bp) (sym (other s bs)) r;
          folds = passed_by bp ask rest (test ask) (other p bp);
        }
    one_more bs bp ask rest r true true ke oe =
        let own : keep ask.0 ≡ true = subst (λ k. keep k ≡ true) (sym (same_kind ask.0 kind ke)) kept in
        let tested : test ask ≡ true = rw (oe, own) refl in
        let here : (t : State) (b : Option Choice) → turn t b ask ≡ dearer b ask.1 (price_of t ask.0 ask.1) =
        λ t b. ap (λ x. cond x (dearer b ask.1 (price_of t ask.0 ask.1)) b) ke in
        record {
          next = dearer bp ask.1 (price_of s ask.0 ask.1);
          rel = subst (λ b. Rel b (dearer bp ask.1 (price_of s ask.0 ask.1))) (sym (here s bs))
              (both_dearer bs bp ask.1 (price_of s ask.0 ask.1) r);
          folds = ap (λ t. fold (turn p) bp (cond t (ask ∷ rest) rest)) tested
              ∙ ap (λ b. fold (turn p) b rest) (here p bp ∙ ap (dearer bp ask.1) (same ask oe));
        }
    one_more bs bp ask rest r true false ke oe =
        let tested : test ask ≡ false = ap (λ t. t && keep ask.0) oe in
        let here : turn s bs ask ≡ dearer bs ask.1 (price_of s ask.0 ask.1) =
        ap (λ x. cond x (dearer bs ask.1 (price_of s ask.0 ask.1)) bs) ke in
        let out : ok (kind, ask.1) ≡ false =
        subst (λ (k : Kind). ok (k, ask.1) ≡ false) (same_kind ask.0 kind ke) oe in
        record {
          next = bp;
          rel = subst (λ b. Rel b bp) (sym here) (out_dearer bs bp ask.1 (price_of s ask.0 ask.1) out r);
          folds = ap (λ t. fold (turn p) bp (cond t (ask ∷ rest) rest)) tested;
        }

    chosen_rel : (asks : List Place) (bs bp : Option Choice) → Rel bs bp →
        Rel (fold (turn s) bs asks) (fold (turn p) bp (filter test asks))
    chosen_rel [] bs bp r = r
    chosen_rel (ask ∷ asks) bs bp r =
        let one = one_more bs bp ask (filter test asks) r (kind_number ask.0 == kind_number kind) (ok ask) refl refl in
        subst (Rel (fold (turn s) (turn s bs ask) asks)) (sym one.folds)
        (chosen_rel asks (turn s bs ask) one.next one.rel)

    ok_best : (bs bp : Option Choice) → Passes ok kind bs → Rel bs bp → bp ≡ bs
    ok_best bs bp passes r = elim r [
      | inl e ↦ e
      | inr h ↦
          let fine : ok (kind, h.best.0) ≡ true = subst (λ b. Passes ok kind b) h.is passes in
          absurd (let never : true ≡ false = sym fine ∙ h.apart in cc)
    ]

    -- a choice that is ok is the choice among the asks that are kept
    pub kept_choice : (asks : List Place) → Passes ok kind (choice_of s kind asks) →
        choice_of p kind (filter test asks) ≡ choice_of s kind asks
    kept_choice asks passes = ok_best (choice_of s kind asks) (choice_of p kind (filter test asks)) passes
        (chosen_rel asks None None (inl refl))
