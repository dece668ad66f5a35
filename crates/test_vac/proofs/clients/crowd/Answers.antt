use Rattle.std.proofs.Common.{rules, ◌≡◌}
use Rattle.vac_manager.specs.Called.{CallerShown}
use Rattle.test_vac.proofs.Behind.{all_more}
use Rattle.test_vac.proofs.clients.crowd.Goals as goal

-- one more client of the same manager
pub loop-id-preserved : goal.loop-id-preserved
loop-id-preserved g c = (
  search rules,
  all_more (λ (other : CallerShown). other.shared ≡ c.args.caller.now.shared)
      c.loop-id.others.items c.push.new.self.items c.enter.new.caller (search rules) c.loop-id.invariant.1
      (search rules),
)
