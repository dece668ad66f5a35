-- An order of what a map gives of calls is what the map gives of an order of them.
use Rattle.std.proofs.Common.{◌≡◌, ◌≢◌, ℕ, ◌==◌, true, false, List, [], ◌∷◌, map, refl, sym, ap, ◌∙◌, subst, inl}
use Rattle.std.proofs.Common.{inr}
use Rattle.judge_object.specs.Call.{Call}
use Rattle.judge_object.specs.Orders.{of_client, IsMerge}
use Rattle.judge_object.proofs.Merges.{test, cons_same, without, merge_rest, own_head}

module _ {A B : Type 0} (u : Call A → Call B) (keeps : (c : Call A) → (u c).client ≡ c.client) where
  pub clients_map : (k : ℕ) (cs : List (Call A)) → of_client k (map u cs) ≡ map u (of_client k cs)
  clients_map k [] = refl
  clients_map k (c ∷ cs) =
      elim (test c.client k) [
        | inl t ↦
            let other : ((u c).client == k) ≡ true = ap (λ n. n == k) (keeps c) ∙ t.0 in
            rw (other, t.0) (ap (λ l. u c ∷ l) (clients_map k cs))
        | inr t ↦
            let other : ((u c).client == k) ≡ false = ap (λ n. n == k) (keeps c) ∙ t.0 in
            rw (other, t.0) (clients_map k cs)
      ]

  pub merge_map : (xs ys : List (Call A)) → IsMerge xs ys → IsMerge (map u xs) (map u ys)
  merge_map xs ys m k = clients_map k ys ∙ ap (map u) (m k) ∙ sym (clients_map k xs)

  pub record Given (xs : List (Call A)) (ys : List (Call B)) : Type 0 where
    pub from : List (Call A)
    pub merges : IsMerge xs from
    pub gives : map u from ≡ ys

  first_of : (xs : List (Call A)) (y : Call B) (tail : List (Call B)) → map u xs ≡ y ∷ tail →
      (x : Call A) × (rest : List (Call A)) × (xs ≡ x ∷ rest) × (u x ≡ y) × (map u rest ≡ tail)
  first_of [] y tail e = cc
  first_of (x ∷ xs) y tail e =
      let same = cons_same (u x) y (map u xs) tail e in (x, xs, refl, same.0, same.1)

  merge_back : (x : Call A) (xs rest from : List (Call A)) →
      of_client x.client xs ≡ x ∷ of_client x.client rest →
      ((c : ℕ) → c ≢ x.client → of_client c rest ≡ of_client c xs) → IsMerge rest from → IsMerge xs (x ∷ from)
  merge_back x xs rest from own others m c =
      elim (test x.client c) [
        | inl t ↦ rw t.0 (ap (λ l. x ∷ l) (m c) ∙ subst (λ k. x ∷ of_client k rest ≡ of_client k xs) t.1 (sym own))
        | inr t ↦ rw t.0 (m c ∙ others c (λ e. t.1 (sym e)))
      ]

  pub given : (ys : List (Call B)) (xs : List (Call A)) → IsMerge (map u xs) ys → Given xs ys
  given [] xs m = record {
    from = [];
    merges = λ k. nothing (of_client k xs) (sym (clients_map k xs) ∙ sym (m k));
    gives = refl;
  }
    where
      nothing : (cs : List (Call A)) → map u cs ≡ [] → [] ≡ cs
      nothing [] e = refl
      nothing (c ∷ cs) e = cc
  given (y ∷ ys) xs m =
      let here : map u (of_client y.client xs) ≡ y ∷ of_client y.client ys =
      sym (clients_map y.client xs) ∙ sym (m y.client) ∙ own_head y ys in
      let one = first_of (of_client y.client xs) y (of_client y.client ys) here in
      let x = one.0 in
      let client : x.client ≡ y.client = sym (keeps x) ∙ ap (λ (c : Call B). c.client) one.3 in
      let out = without xs y.client x one.1 one.2 in
      let own : of_client x.client out.rest ≡ one.1 = ap (λ k. of_client k out.rest) client ∙ out.own in
      let others : (c : ℕ) → c ≢ x.client → of_client c out.rest ≡ of_client c xs =
      λ c n. out.others c (λ e. n (e ∙ sym client)) in
      let kept : IsMerge ys (map u out.rest) =
      merge_rest y ys (map u out.rest) (map u xs)
      (clients_map y.client out.rest ∙ ap (map u) out.own ∙ one.4)
      (λ c n. clients_map c out.rest ∙ ap (map u) (out.others c n) ∙ sym (clients_map c xs))
      (λ k. sym (m k)) in
      let more = given ys out.rest (λ k. sym (kept k)) in
      let head : of_client x.client xs ≡ x ∷ of_client x.client out.rest =
      ap (λ k. of_client k xs) client ∙ one.2 ∙ ap (λ l. x ∷ l) (sym own) in
      record {
        from = x ∷ more.from;
        merges = merge_back x xs out.rest more.from head others more.merges;
        gives = ap (λ c. c ∷ map u more.from) one.3 ∙ ap (λ l. y ∷ l) more.gives;
      }
