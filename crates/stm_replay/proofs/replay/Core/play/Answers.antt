use Rattle.std.proofs.Common.{sym, subst, ◌∙◌}
use Rattle.stm_replay.specs.Follows.{IsReached}
use Rattle.stm_replay.specs.Played.{event_of}
use Rattle.stm_replay.proofs.Following.{reached_sane, reached_next}
use Rattle.stm_replay.proofs.replay.Core.play.Goals as goal

pub make-requires-clause-sane : goal.make-requires-clause-sane
make-requires-clause-sane g c = reached_sane c.self.inside.state c.self.invariant

pub invariant_of-self : goal.invariant_of-self
invariant_of-self g c =
    subst IsReached (sym c.in-Ok.ensures.done) (reached_next
    (event_of c.args.event) c.self.inside.state c.self.invariant (sym c.allows.ensures ∙ c.if-not-allows.false))
