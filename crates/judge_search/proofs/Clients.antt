-- What the clients' sequences say of all calls, and of their orders.
use Rattle.std.proofs.Common.{◌≡◌, ◌≢◌, ℕ, ◌==◌, cond, List, [], ◌∷◌, refl, sym, ap, ◌∙◌, subst, inl, inr}
use Rattle.judge_object.specs.Call.{Call}
use Rattle.judge_object.specs.Call.{IsBehind}
use Rattle.judge_object.specs.Orders.{of_client, IsMerge}
use Rattle.judge_search.specs.Configurations.{without_next}
pub use Rattle.judge_search.specs.Walk.{InTurn}
pub use Rattle.judge_search.specs.Configurations.{IsFirst}
use Rattle.judge_search.proofs.Each.{Each, test, self}

module _ {O : Type 0} where
  each_clients : (P : (Call O) → Type 0) (k : ℕ) (cs : List (Call O)) → Each P cs → Each P (of_client k cs)
  each_clients P k [] h = tt
  each_clients P k (c ∷ cs) h =
      elim (test c.client k) [
        | inl t ↦ rw t.0 (h.0, each_clients P k cs h.1)
        | inr t ↦ rw t.0 (each_clients P k cs h.1)
      ]

  each_rest : (P : (Call O) → Type 0) (k : ℕ) (c : Call O) (cs : List (Call O)) → Each P (of_client k (c ∷ cs)) →
      Each P (of_client k cs)
  each_rest P k c cs h =
      elim (test c.client k) [
        | inl t ↦ (rw t.0 at h).1
        | inr t ↦ rw t.0 at h
      ]

  clients_each : (P : (Call O) → Type 0) (cs : List (Call O)) → ((k : ℕ) → Each P (of_client k cs)) → Each P cs
  clients_each P [] h = tt
  clients_each P (c ∷ cs) h = (
    (rw (self c.client) at (h c.client)).0,
    clients_each P cs (λ k. each_rest P k c cs (h k)),
  )

  -- a fact of each call is one of each call of an order
  pub each_order : (P : (Call O) → Type 0) (calls order : List (Call O)) → IsMerge calls order → Each P calls →
      Each P order
  each_order P calls order m h = clients_each P order (λ k. subst (Each P) (sym (m k)) (each_clients P k calls h))

  turn_clients : (k : ℕ) (cs : List (Call O)) → InTurn cs → InTurn (of_client k cs)
  turn_clients k [] h = tt
  turn_clients k (c ∷ cs) h =
      elim (test c.client k) [
        | inl t ↦ rw t.0 (h.0, each_clients (λ d. IsBehind d c) k cs h.1, turn_clients k cs h.2)
        | inr t ↦ rw t.0 (turn_clients k cs h.2)
      ]

  turn_rest : (k : ℕ) (c : Call O) (cs : List (Call O)) → InTurn (of_client k (c ∷ cs)) → InTurn (of_client k cs)
  turn_rest k c cs h =
      elim (test c.client k) [
        | inl t ↦ (rw t.0 at h).2
        | inr t ↦ rw t.0 at h
      ]

  each_turn : (c : Call O) (cs : List (Call O)) → Each (λ d. IsBehind d c) (of_client c.client cs) →
      Each (λ d. IsBehind d c) cs
  each_turn c [] h = tt
  each_turn c (d ∷ ds) h =
      elim (test d.client c.client) [
        | inl t ↦ let g = rw t.0 at h in (g.0, each_turn c ds g.1)
        | inr t ↦ let g = rw t.0 at h in (λ e. absurd (t.1 (sym e)), each_turn c ds g)
      ]

  clients_turn : (cs : List (Call O)) → ((k : ℕ) → InTurn (of_client k cs)) → InTurn cs
  clients_turn [] h = tt
  clients_turn (c ∷ cs) h =
      let own = rw (self c.client) at (h c.client) in
      (own.0, each_turn c cs own.1, clients_turn cs (λ k. turn_rest k c cs (h k)))

  pub turn_order : (calls order : List (Call O)) → IsMerge calls order → InTurn calls → InTurn order
  turn_order calls order m h = clients_turn order (λ k. subst InTurn (sym (m k)) (turn_clients k calls h))

  none_first : (c : Call O) (tail : List (Call O)) → ◌≡◌ {A = List (Call O)} [] (c ∷ tail) → ⊥
  none_first c tail e = cc

  tail_same : (c d : Call O) (cs ds : List (Call O)) → c ∷ cs ≡ d ∷ ds → cs ≡ ds
  tail_same c d cs ds e = cc

  pub head_same : (c d : Call O) (cs ds : List (Call O)) → c ∷ cs ≡ d ∷ ds → c ≡ d
  head_same c d cs ds e = cc

  pub without_other : (j k : ℕ) (cs : List (Call O)) → j ≢ k → of_client k (without_next j cs) ≡ of_client k cs
  without_other j k [] n = refl
  without_other j k (c ∷ cs) n =
      elim (test c.client j) [
        | inl t ↦
            elim (test c.client k) [
              | inl s ↦ absurd (n (sym t.1 ∙ s.1))
              | inr s ↦ rw t.0 (rw s.0 refl)
            ]
        | inr t ↦ rw t.0 (ap (λ l. cond (c.client == k) (c ∷ l) l) (without_other j k cs n))
      ]

  pub without_same : (j : ℕ) (cs : List (Call O)) (c : Call O) (tail : List (Call O)) → of_client j cs ≡ c ∷ tail →
      of_client j (without_next j cs) ≡ tail
  without_same j [] c tail h = absurd (none_first c tail h)
  without_same j (d ∷ ds) c tail h =
      elim (test d.client j) [
        | inl t ↦ rw t.0 (tail_same d c (of_client j ds) tail (rw t.0 at h))
        | inr t ↦ rw t.0 (rw t.0 (without_same j ds c tail (rw t.0 at h)))
      ]

  -- the first call of an order is its client's first, and the others are an order of the others
  pub order_first : (rest : List (Call O)) (c : Call O) (order : List (Call O)) → IsMerge rest (c ∷ order) →
      IsFirst rest c
  order_first rest c order m = record { tail = of_client c.client order; is = sym (rw (self c.client) at (m c.client)) }

  pub order_rest : (rest : List (Call O)) (c : Call O) (order : List (Call O)) → IsMerge rest (c ∷ order) →
      IsMerge (without_next c.client rest) order
  unfolding order_first
  order_rest rest c order m k =
      elim (test c.client k) [
        | inl t ↦
            subst (λ k. of_client k order ≡ of_client k (without_next c.client rest)) t.1
            (sym (without_same c.client rest c (of_client c.client order) (order_first rest c order m).is))
        | inr t ↦ (rw t.0 at (m k)) ∙ sym (without_other c.client k rest t.1)
      ]

  -- and the converse
  pub order_more : (rest : List (Call O)) (c : Call O) (order : List (Call O)) → IsFirst rest c →
      IsMerge (without_next c.client rest) order → IsMerge rest (c ∷ order)
  order_more rest c order f m k =
      elim (test c.client k) [
        | inl t ↦
            subst (λ k. of_client k (c ∷ order) ≡ of_client k rest) t.1
            (rw (self c.client) (ap (λ l. c ∷ l) (m c.client ∙ without_same c.client rest c f.tail f.is) ∙ sym f.is))
        | inr t ↦ rw t.0 (m k ∙ without_other c.client k rest t.1)
      ]

  -- the only order of no calls, and of no other
  pub none_order : (c : Call O) (cs : List (Call O)) → IsMerge (c ∷ cs) [] → ⊥
  none_order c cs m = none_first c (of_client c.client cs) (rw (self c.client) at (m c.client))
