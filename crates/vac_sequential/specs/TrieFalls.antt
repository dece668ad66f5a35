-- The map of each digit is less deep than its node.
use Rattle.std.specs.Prelude.{◌≤◌, max}
use Rattle.std.proofs.Common.{arith}
use Rattle.vac_sequential.specs.declared.tries.Node.{Node}
use Rattle.vac_sequential.specs.declared.tries.Node.TheVariants.{Empty, Bare, Full}
use Rattle.vac_sequential.specs.declared.tries.Trie.TheDeep.{deep-Node}
use Rattle.vac_sequential.specs.Tries.{seen}

-- no digit's map is deeper than the depth of the node allows
pub depth_falls : {V : Type 0} → (n : Node V) → max (deep-Node V n) 0 ≤ (seen n).1
depth_falls Empty = omega arith
depth_falls (Bare k) = grind arith
depth_falls (Full v k) = grind arith
