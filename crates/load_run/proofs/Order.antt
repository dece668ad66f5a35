-- Which records stand before which, and records put behind others.
use Rattle.std.proofs.Common.{◌≡◌, ◌∙◌, ℕ, ◌*◌, ◌<◌, ◌≤◌, false, arith}
use Rattle.stm_core.specs.Client.{Record, before, rank}
use Rattle.stm_object.proofs.Adding.{not_earlier, rank_small}
use Rattle.load_run.specs.Looping.{IsAdded, IsKnownRecord}

-- what a client added, it knows
pub added_known : (renewal before now : ℕ) (r : Record) → IsAdded renewal before now r → IsKnownRecord renewal now r
added_known renewal before now r h = record {
  present = omega (arith, h.renewal_is);
  known = λ e. h.known;
  unplaced = λ e. h.unplaced;
}

-- the record is of this renewal, and stands behind the writer of this version
pub record IsLater (renewal floor : ℕ) (r : Record) : Type 0 where
  pub renewal_is : r.renewal ≡ renewal
  pub behind : 2 * floor < rank r

pub added_later : (renewal floor before now : ℕ) (r : Record) → floor ≤ before → IsAdded renewal before now r →
    IsLater renewal floor r
added_later renewal floor before now r l h = record { renewal_is = h.renewal_is; behind = omega (arith, l, h.behind) }

-- what is added later stands before nothing that is known
pub known_first : (renewal floor : ℕ) (x y : Record) → IsKnownRecord renewal floor x → IsLater renewal floor y →
    before y x ≡ false
known_first renewal floor x y k h =
    not_earlier y.renewal (rank y) y.point x.renewal (rank x) x.point
    (omega (arith, h.renewal_is, k.present))
    (λ e. (let same : x.renewal ≡ renewal = e ∙ h.renewal_is in (
      let q = k.known same in let t = rank_small x in omega (arith, h.behind),
      let p = k.unplaced same in
          omega (arith, p),
    )))
