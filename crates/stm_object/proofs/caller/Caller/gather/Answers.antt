use Rattle.std.proofs.Common.{rules}
use Rattle.stm_core.specs.Core.{IsFreeHanded}
use Rattle.stm_object.proofs.Adding.{unplaced_joined, only_of}
use Rattle.stm_object.proofs.caller.Caller.gather.Goals as goal

pub invariant_of-user : goal.invariant_of-user
invariant_of-user g c =
    let free : IsFreeHanded c.gather.new.client.value = search rules in
    let unplaced = unplaced_joined c.user.inside.client.value c.other.inside.client.value c.gather.new.client.value
    (search rules) (search rules) (search rules) in
    (free, unplaced)

pub returns-clause-only : goal.returns-clause-only
returns-clause-only g c = only_of _ _ _ _ _ c.gather.ensures.only (search rules) (search rules)
