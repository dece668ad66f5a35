use Rattle.vac_model.proofs.Kept.{small_after}
use Rattle.vac_sequential.proofs.tables.Tables.step.Goals as goal

pub returns-clause-stays_small : goal.returns-clause-stays_small
returns-clause-stays_small c =
    small_after c.args.self.now c.outcome.new.self c.args.command.now c.in_ok-reply.reply c.requires.small
    c.requires.in_range c.in_ok-reply.ensures.ok
