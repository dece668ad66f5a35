-- Two tests, one after the other.
use Rattle.std.proofs.Common.{◌≡◌, Bool, true, false, ◌&&◌, sym, ap, ◌∙◌}

-- if the first test is true, the second one decides
pub and_then : (a b x y : Bool) → x ≡ a → x ≡ true → y ≡ b → y ≡ (a && b)
and_then a b x y e t f = f ∙ ap (λ z. z && b) (sym t ∙ e)

-- if both tests are true, the first one is
pub and_left : (a b x : Bool) → x ≡ (a && b) → x ≡ true → a ≡ true
and_left true b x e t = sym t ∙ t
and_left false b x e t = sym e ∙ t
