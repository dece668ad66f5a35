-- The map of the first n nodes.
use Rattle.std.proofs.Common.{◌≡◌, ◌≢◌, ◌⊎◌, inl, inr, ℕ, zero, suc, ◌+◌, ◌<◌, ◌≤◌, Bool, true, false, cond, Option}
use Rattle.std.proofs.Common.{Some, None, is_some, refl, sym, ap, ◌∙◌, arith}
use Rattle.std.specs.FinMap.{FinMap, get, insert, len, get-insert, get-empty, len-insert, len-empty, same_map}
use Rattle.std.specs.FinMap.{nat_cmp-IsAntisymmetric, contains_key}
use Rattle.std.specs.Ordering.{nat_cmp, eq_by_cmp}
use Rattle.std.proofs.lemmas.Cmp.{nat_cmp_total}
use Rattle.std.proofs.lemmas.Bool.Decides.{nat_tests}
use Rattle.stm_logs.specs.Order.{table}
use Rattle.stm_logs.proofs.NodeLemmas.{same_or}

pub get_here : {X : Type 0} (w : FinMap nat_cmp X) (a : ℕ) (v : X) → get (insert w a v) a ≡ Some v
get_here w a v =
    let t : eq_by_cmp nat_cmp a a ≡ true = grind (arith, nat_tests) in
    rw (get-insert nat_cmp_total w a v a, t) refl

pub get_other : {X : Type 0} (w : FinMap nat_cmp X) (a : ℕ) (v : X) (b : ℕ) → b ≢ a → get (insert w a v) b ≡ get w b
get_other w a v b ne =
    let t : eq_by_cmp nat_cmp b a ≡ false = grind (arith, nat_tests) in
    rw (get-insert nat_cmp_total w a v b, t) refl

pub some_none : {X : Type 0} (x : X) → Some x ≡ None → ⊥
some_none x e = cc

pub both_bool : (b : Bool) → (b ≡ true) ⊎ (b ≡ false)
both_bool true = inl refl
both_bool false = inr refl

pub true_false : (b : Bool) → b ≡ true → b ≡ false → ⊥
true_false b p q = cc

module _ {X : Type 0} (key : ℕ → ℕ) (value : ℕ → X) where
  -- different nodes of the first n have different keys
  abbrev pub Apart : ℕ → Type 0
  Apart n = (e f : ℕ) → 0 < e → e ≤ n → 0 < f → f ≤ n → key e ≡ key f → e ≡ f

  fewer : (n : ℕ) → Apart (suc n) → Apart n
  fewer n a e f z m y k = a e f z (omega arith) y (omega arith)

  pub get_there : (n e : ℕ) → Apart n → 0 < e → e ≤ n → get (table key value n) (key e) ≡ Some (value e)
  get_there zero e a z m = absurd (omega arith)
  get_there (suc n) e a z m = elim (same_or e (suc n)) [
    | inl is ↦ ap (get (insert (table key value n) (key (suc n)) (value (suc n)))) (ap key is) ∙ get_here _ _ _ ∙
        ap (λ k. Some (value k)) (sym is)
    | inr ne ↦ get_other _ _ _ _ (λ k. ne (a e (suc n) z m (omega arith) (omega arith) k)) ∙ get_there n e (fewer n a) z
        (omega arith)
  ]

  pub get_none : (n q : ℕ) → ((e : ℕ) → 0 < e → e ≤ n → key e ≢ q) → get (table key value n) q ≡ None
  get_none zero q h = get-empty nat_cmp q
  get_none (suc n) q h = get_other _ _ _ _ (λ is. h (suc n) (omega arith) (omega arith) (sym is)) ∙
      get_none n q (λ e z m. h e z (omega arith))

  -- the node that an entry comes from
  pub record Source (n q : ℕ) (v : X) : Type 0 where
    pub node : ℕ
    pub some : 0 < node
    pub inside : node ≤ n
    pub key_is : key node ≡ q
    pub value_is : value node ≡ v

  pub get_source : (n q : ℕ) (v : X) → get (table key value n) q ≡ Some v → Source n q v
  get_source zero q v is = absurd (some_none v (sym is ∙ get-empty nat_cmp q))
  get_source (suc n) q v is = elim (same_or q (key (suc n))) [
    | inl here ↦ (
        let e : Some (value (suc n)) ≡ Some v = sym (ap (get (insert (table key value n) (key (suc n)) (value (suc n))))
        here ∙ get_here _ _ _) ∙ is in
        record { node = suc n; some = omega arith; inside = omega arith; key_is = sym here; value_is = cc })
    | inr ne ↦ (
        let s = get_source n q v (sym (get_other _ _ _ _ ne) ∙ is) in
        record {
          node = s.node;
          some = s.some;
          inside = omega (arith, s.inside);
          key_is = s.key_is;
          value_is = s.value_is;
        })
  ]

  pub len_table : (n : ℕ) → Apart n → len (table key value n) ≡ n
  len_table zero a = len-empty nat_cmp X
  len_table (suc n) a =
      let rest = len_table n (fewer n a) in
      let new : get (table key value n) (key (suc n)) ≡ None =
      get_none n (key (suc n)) (λ e z m k. absurd (omega (
        arith,
        a e (suc n) z (omega arith) (omega arith) (omega arith) k,
      ))) in
      let not_there : contains_key (table key value n) (key (suc n)) ≡ false = ap is_some new in
      let one : len (insert (table key value n) (key (suc n)) (value (suc n))) ≡ len (table key value n) + 1 =
      len-insert nat_cmp_total _ _ _ ∙ ap (λ b. cond b (len (table key value n)) (len (table key value n) + 1))
      not_there in
      one ∙ omega (arith, rest)

-- tables of the same nodes
pub table_same : {X : Type 0} (key key' : ℕ → ℕ) (value value' : ℕ → X) (n : ℕ)
    → ((e : ℕ) → 0 < e → e ≤ n → key' e ≡ key e) → ((e : ℕ) → 0 < e → e ≤ n → value' e ≡ value e)
    → table key' value' n ≡ table key value n
table_same key key' value value' zero k v = refl
table_same key key' value value' (suc n) k v =
    let rest = table_same key key' value value' n (λ e z m. k e z (omega arith)) (λ e z m. v e z (omega arith)) in
    ap (λ w. insert w (key' (suc n)) (value' (suc n))) rest ∙ ap (λ q. insert (table key value n) q (value' (suc n)))
    (k (suc n) (omega arith) (omega arith))
    ∙ ap (insert (table key value n) (key (suc n))) (v (suc n) (omega arith) (omega arith))

-- one value is another
pub table_value : {X : Type 0} (key key' : ℕ → ℕ) (value value' : ℕ → X) (n i : ℕ) (v : X) → Apart key value n
    → 0 < i → i ≤ n → value' i ≡ v
    → ((e : ℕ) → key' e ≡ key e) → ((e : ℕ) → e ≢ i → value' e ≡ value e)
    → table key' value' n ≡ insert (table key value n) (key i) v
table_value {X = X} key key' value value' n i v a z m here keys others =
    let a' : Apart key' value' n = λ e f ez em fz fm k. a e f ez em fz fm (sym (keys e) ∙ k ∙ keys f) in
    same_map nat_cmp_total nat_cmp-IsAntisymmetric _ _ (λ q. elim (same_or q (key i)) [
      | inl is ↦ (
          let s : q ≡ key' i = is ∙ sym (keys i) in
          ap (get (table key' value' n)) s ∙ get_there key' value' n i a' z m ∙ ap Some here ∙
          sym (ap (get (insert (table key value n) (key i) v)) is ∙ get_here _ _ _))
      | inr ne ↦ (
          let go : (o : Option X) → get (table key value n) q ≡ o → get (table key' value' n) q ≡ o =
          λ o. elim o as (λ p. get (table key value n) q ≡ p → get (table key' value' n) q ≡ p) [
            | None ↦ λ none. get_none key' value' n q (λ e ez em k.
                some_none _ (sym (get_there key value n e a ez em) ∙ ap (get (table key value n)) (sym (keys e) ∙ k) ∙
                none))
            | Some u ↦ λ some.
                let s = get_source key value n q u some in
                let other : s.node ≢ i = λ is. ne (sym s.key_is ∙ ap key is) in
                ap (get (table key' value' n)) (sym s.key_is ∙ sym (keys s.node)) ∙
                get_there key' value' n s.node a' s.some s.inside ∙ ap Some (others s.node other ∙ s.value_is)
          ] in
          go (get (table key value n) q) refl ∙ sym (get_other _ _ _ _ ne))
    ])
