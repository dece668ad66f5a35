use Rattle.std.proofs.Common.{◌≡◌, ℕ, zero, suc, ◌+◌, List, [], ◌∷◌, ◌++◌, take, drop, refl, ap, sym, arith, add-one}
use Rattle.std.proofs.Common.{zero-add}
use Rattle.std.specs.Slots.{slots_items}
use mathlib.Core.Option.{some, some-injective, some-ne-none}
use lib.ListN.{get_elem?}
use Rattle.stm_region.proofs.close.unload.Goals as goal

one_more : (xs : List ℕ) (a k x : ℕ) → get_elem? xs (a + k) ≡ some x →
    take (suc k) (drop a xs) ≡ take k (drop a xs) ++ x ∷ []
one_more [] a k x e = absurd (some-ne-none x (sym e))
one_more (y ∷ ys) zero zero x e = ap (λ z. z ∷ []) (some-injective y x e)
one_more (y ∷ ys) zero (suc k) x e = ap (λ zs. y ∷ zs) (one_more ys zero k x (rw zero-add (rw zero-add at e)))
one_more (y ∷ ys) (suc a) k x e = one_more ys a k x (rw Rattle.std.proofs.Common.suc-add at e)

pub loop-k-preserved : goal.loop-k-preserved
loop-k-preserved g c = record {
  items = rw (
    add-one,
    one_more (slots_items c.args.closed.now.words) c.args.from c.loop-k.k c.word.result
        c.word.ensures,
    c.push.ensures.items,
    c.loop-k.invariant.items,
  ) refl;
  room = omega arith;
}
