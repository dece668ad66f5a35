-- The calls that are left once a call has a place.
use Rattle.std.proofs.Common.{◌≡◌, ℕ, ◌+◌, Bool, true, false, cond, List, [], ◌∷◌, refl, ap, inl, inr, arith}
use Rattle.judge_object.specs.Call.{Call}
use Rattle.judge_object.specs.Call.{IsBehind}
use Rattle.judge_object.specs.Call.{is_completed}
use Rattle.judge_object.specs.Orders.{of_client}
use Rattle.judge_search.specs.Configurations.{Configuration, Goes, without_next, after_call, weight, answered}
use Rattle.judge_search.specs.Walk.{IsTimed, IsWhole}
use Rattle.judge_search.proofs.Each.{Each, test}
use Rattle.judge_search.proofs.Clients.{InTurn, IsFirst}
use Rattle.judge_object.specs.Rules.{Rules}

module _ {S O R : Type 0} (X : Rules S O R) where
  no_first : (c : Call O) → IsFirst [] c → ⊥
  no_first c f = let e : ◌≡◌ {A = List (Call O)} [] (c ∷ f.tail) = f.is in cc

  head_same : (c d : Call O) (cs ds : List (Call O)) → c ∷ cs ≡ d ∷ ds → c ≡ d
  head_same c d cs ds e = cc

  pub each_without : (P : (Call O) → Type 0) (k : ℕ) (cs : List (Call O)) → Each P cs → Each P (without_next k cs)
  each_without P k [] h = tt
  each_without P k (c ∷ cs) h =
      elim (test c.client k) [
        | inl t ↦ rw t.0 h.1
        | inr t ↦ rw t.0 (h.0, each_without P k cs h.1)
      ]

  turn_without : (k : ℕ) (cs : List (Call O)) → InTurn cs → InTurn (without_next k cs)
  turn_without k [] h = tt
  turn_without k (c ∷ cs) h =
      elim (test c.client k) [
        | inl t ↦ rw t.0 h.2
        | inr t ↦ rw t.0 (h.0, each_without (λ d. IsBehind d c) k cs h.1, turn_without k cs h.2)
      ]

  pub whole_after : (at : Configuration S O) (c : Call O) → IsWhole at.rest → IsWhole (after_call X at c).rest
  whole_after at c h = record {
    turn = turn_without c.client at.rest h.turn;
    last = h.last;
    timed = each_without (IsTimed h.last) c.client at.rest h.timed;
  }

  -- one call less is left
  pub answered_without : (cs : List (Call O)) (c : Call O) → IsFirst cs c →
      answered cs ≡ weight c + answered (without_next c.client cs)
  answered_without [] c f = absurd (no_first c f)
  answered_without (d ∷ ds) c f =
      elim (test d.client c.client) [
        | inl t ↦ rw t.0 (ap (λ (x : Call O). weight x + answered ds)
            (head_same d c (of_client c.client ds) f.tail (rw t.0 at f.is)))
        | inr t ↦ rw t.0 (let e = answered_without ds c (record { tail = f.tail; is = rw t.0 at f.is }) in omega arith)
      ]

  pub answered_after : (at : Configuration S O) (c : Call O) → (Goes X) at c →
      answered at.rest ≡ weight c + answered (after_call X at c).rest
  answered_after at c goes = answered_without at.rest c goes.may.first

  -- pending calls do not count
  pub none_answered : (cs : List (Call O)) → Each (λ c. is_completed c ≡ false) cs → answered cs ≡ 0
  none_answered [] h = refl
  none_answered (c ∷ cs) h = let e = none_answered cs h.1 in let w : weight c ≡ 0 = ap (λ b. cond b 1 0) h.0 in
      omega arith

  pub never_answered : (cs : List (Call O)) → answered cs ≡ 0 → Each (λ c. is_completed c ≡ false) cs
  never_answered [] h = tt
  never_answered (c ∷ cs) h = (
    go (is_completed c) refl,
    never_answered cs (let l : weight c + answered cs ≡ 0 = h in
        omega arith),
  )
    where
      go : (b : Bool) → is_completed c ≡ b → is_completed c ≡ false
      go true e = let w : weight c ≡ 1 = ap (λ b. cond b 1 0) e in let l : weight c + answered cs ≡ 0 = h in
          absurd (omega arith)
      go false e = e
