use Rattle.std.proofs.Common.{rules}
use Rattle.stm_core.specs.Core.{IsFreeHanded}
use Rattle.stm_object.proofs.Adding.{unplaced_still}
use Rattle.stm_object.proofs.caller.Caller.split.Goals as goal

pub invariant_of-user-2 : goal.invariant_of-user-2
invariant_of-user-2 g c =
    let free : IsFreeHanded c.split.new.client.value = search rules in
    let unplaced = unplaced_still c.user.inside.client.value c.split.new.client.value (search rules)
    (search rules) in
    (free, unplaced)
