use Rattle.std.proofs.Common.{◌≡◌, inl, inr, ℕ, ◌+◌, ◌<◌, true, false, List, length, set, get_or, arith, ap, ◌∙◌}
use Rattle.std.proofs.lemmas.List.{get_or-set_other}
use Rattle.std.proofs.lemmas.Grind.{get_or-set_at}
use Rattle.stm_logs.proofs.NodeLemmas.{same_or}
use Rattle.stm_logs.proofs.row.fill.Goals as goal

put_more : {X : Type 0} → (xs : List X) (i k : ℕ) (x d : X) → ((j : ℕ) → j < i → get_or xs j d ≡ x) →
    i < length xs → k < i + 1 → get_or (set xs i x) k d ≡ x
put_more xs i k x d before inside below = elim (same_or k i) [
  | inl e ↦ get_or-set_at xs i k x d e (omega (arith, e, inside))
  | inr ne ↦ get_or-set_other xs i k x d ne ∙ before k (omega arith)
]

pub loop-i-preserved : goal.loop-i-preserved
loop-i-preserved g c =
    let row = c.loop-i.row in
    let value = c.args.value in
    let i : ℕ = c.loop-i.i in
    let inside : i < row.len = omega (arith, c.loop-i.invariant.len, c.requires) in
    record {
      filled = λ k l. ap (λ xs. get_or xs k false) c.put.ensures.filled ∙
          put_more row.filled i k true false c.loop-i.invariant.filled (omega (arith, row.ok.1, inside)) l;
      items = λ k l. ap (λ xs. get_or xs k value) c.put.ensures.items ∙
          put_more row.items i k value value c.loop-i.invariant.items (omega (arith, row.ok.0, inside)) l;
      ptr = c.put.ensures.places.0 ∙ c.loop-i.invariant.ptr;
      len = c.put.ensures.places.1 ∙ c.loop-i.invariant.len;
    }
